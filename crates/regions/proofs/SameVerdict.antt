-- The verdict is decided by which regions cover and count, and by what each says: where these are the same, so is it.
use mathlib.Core.Bool.{Bool, not, ◌&&◌, ◌||◌, cond}
use mathlib.Core.List.{List}
use mathlib.Core.Path.{◌≡◌, ap₂, ◌∙◌}
use Prim.Native.Nat.{ℕ, ◌<◌}
use Rattle.access.specs.Bus.{heard}
use Rattle.access.specs.declared.bus.Bus.{Bus}
use Rattle.access.specs.declared.kind.Kind.{Kind}
use Rattle.access.proofs.Folds.{any_same, all_same}
use Rattle.regions.specs.Words.{base}
use Rattle.regions.specs.Rules.{Tests, reason_of, covers, counts, sec_equal, privc_passed, enabled_for, working_sec, working_priv, opens, every_base, some_sub, every_sub, tests0, tests1, tests2, counted, covered, tests, decided}
use Rattle.regions.specs.declared.verdict.Rule.TheVariants.{Default, Base, Subregion}
use Rattle.regions.specs.declared.verdict.Verdict.{Verdict}

-- what base region x says to a kind of asking, and what its subregion s does
abbrev pub BaseSays : List ℕ → List ℕ → Kind → ℕ → Type 0
BaseSays w w' k x = (sec_equal w k x ≡ sec_equal w' k x) × (privc_passed w k x ≡ privc_passed w' k x) × (enabled_for w k x ≡ enabled_for w' k x)

abbrev pub SubSays : List ℕ → List ℕ → Kind → ℕ → ℕ → Type 0
SubSays w w' k x s = (working_sec w x s ≡ working_sec w' x s) × (working_priv w x s ≡ working_priv w' x s) × (opens w k x s ≡ opens w' k x s)

module _ (bus : Bus) (w w' : List ℕ) (n o o' : ℕ) (k : Kind) (cover : (x : ℕ) → x < n → covers w (base x) o ≡ covers w' (base x) o')
    (count : (x : ℕ) → x < n → (s : ℕ) → s < 2 → counts w o x s ≡ counts w' o' x s) (bases : (x : ℕ) → x < n → BaseSays w w' (heard bus k) x)
    (subs : (x : ℕ) → x < n → (s : ℕ) → s < 2 → SubSays w w' (heard bus k) x s) where
  abbrev h : Kind
  h = heard bus k

  every-base : (p q : ℕ → Bool) → ((x : ℕ) → x < n → p x ≡ q x) → every_base w n o p ≡ every_base w' n o' q
  every-base p q e = all_same n _ _ (λ x h. ap₂ (λ (a b : Bool). not a || b) (cover x h) (e x h))

  every-sub : (p q : ℕ → ℕ → Bool) → ((x : ℕ) → x < n → (s : ℕ) → s < 2 → p x s ≡ q x s) → every_sub w n o p ≡ every_sub w' n o' q
  every-sub p q e =
      all_same n _ _ (λ x h. all_same 2 _ _ (λ s l. ap₂ (λ (a b : Bool). not a || b) (count x h s l) (e x h s l)))

  some-sub : (p q : ℕ → ℕ → Bool) → ((x : ℕ) → x < n → (s : ℕ) → s < 2 → p x s ≡ q x s) → some_sub w n o p ≡ some_sub w' n o' q
  some-sub p q e = any_same n _ _ (λ x h. any_same 2 _ _ (λ s l. ap₂ ◌&&◌ (count x h s l) (e x h s l)))

  tests1-same : tests1 w n o h ≡ tests1 w' n o' h
  tests1-same =
      rw (
        every-base (sec_equal w h) (sec_equal w' h) (λ x l. (bases x l).0),
        every-base (privc_passed w h) (privc_passed w' h) (λ x l. (bases x l).1),
        every-base (enabled_for w h) (enabled_for w' h) (λ x l. (bases x l).2),
      )

  tests2-same : tests2 w n o h ≡ tests2 w' n o' h
  tests2-same =
      rw (
        every-sub (working_sec w) (working_sec w') (λ x h s l. (subs x h s l).0),
        every-sub (working_priv w) (working_priv w') (λ x h s l. (subs x h s l).1),
        some-sub (opens w h) (opens w' h) (λ x h s l. (subs x h s l).2),
      )

  -- the verdict, by the rule that governs
  verdict : Bool → Bool → Tests → Tests → Verdict
  verdict c d one two =
      record { rule = cond c Subregion (cond d Base Default); reason = reason_of (cond c two (cond d one (tests0 bus h))) }

  pub same-verdict : decided bus w n o k ≡ decided bus w' n o' k
  unfolding decided tests verdict
  same-verdict =
      ap₂ (λ (c d : Bool). verdict c d (tests1 w n o h) (tests2 w n o h))
      (any_same n _ _ (λ x l. any_same 2 _ _ (count x l))) (any_same n _ _ cover)
      ∙ ap₂ (verdict (counted w' n o') (covered w' n o')) tests1-same tests2-same
