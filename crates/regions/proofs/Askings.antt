-- What the code gathers for one asking, and its verdict: that of the rules.
use mathlib.Core.Bool.{Bool, true, false, ◌&&◌, ◌||◌, cond, beq, and-true, or-false}
use mathlib.Core.List.{List}
use mathlib.Core.Path.{◌≡◌, refl, sym, ap, ap₂, ◌∙◌}
use Prim.Native.Nat.{ℕ, ◌-◌, ◌*◌, ◌%◌, ◌^◌, ◌≤◌, ◌<◌}
use native.Mathlib.Omega.{arith}
use lib.Bits.{bit_and, and_high, and_zero_r}
use lib.Dec.{eqb}
use lib.ListN.{get_or}
use Rattle.std.specs.Prelude.{Option, Some, None}
use Rattle.std.proofs.lemmas.Option.{cond_some, none-some}
use Rattle.words.specs.Bit.{bit, field}
use Rattle.words.proofs.Laws.{bit-zero, field_lt}
use Rattle.words.proofs.Ops.{bit-or}
use Rattle.access.specs.Fold.{all}
use Rattle.access.specs.Bus.{heard}
use Rattle.access.specs.declared.bus.Bus.{Bus}
use Rattle.access.specs.declared.bus.Bus.TheVariants.{Axi}
use Rattle.access.specs.declared.kind.Kind.{Kind}
use Rattle.access.proofs.Folds.{any_same}
use Rattle.regions.specs.Words.{sub, srcid_bit, rden_bit, wren_bit}
use Rattle.regions.specs.Rules.{reason_of, rule_of, covers, counts, srcid, opens, some_sub, counted, covered, tests0, tests1, tests2, tests, decided}
use Rattle.regions.specs.Masks.{Next, masks, sub_gathered, serving, served_by}
use Rattle.regions.specs.Admits.{all_if, by_asked, by_bases, by_subs, governed, verdict_of}
use Rattle.regions.specs.declared.masks.Masks.{Masks}
use Rattle.regions.specs.declared.masks.Served.{Served}
use Rattle.regions.specs.declared.verdict.Reason.{Reason}
use Rattle.regions.specs.declared.verdict.Rule.TheVariants.{Default, Base, Subregion}
use Rattle.regions.specs.declared.verdict.Verdict.{Verdict}
use Rattle.regions.proofs.AdmitsTests.{all-if, bases-tests, none-counted, some-covered, subs-tests}
use Rattle.regions.proofs.MaskBits.{ap-cond, or-cond, some-sub}
use Rattle.regions.proofs.Openings.{all-at, beq-is}

-- ---- a subregion's CFGR

-- the enable of a direction
abbrev pub den_of : Bool → ℕ
den_of write = cond write wren_bit rden_bit

-- a CFGR with an SRCID that serves compartment c
abbrev is_served : ℕ → ℕ → Bool
is_served c cfgr = eqb (bit_and cfgr (served_by c).mask) (served_by c).srcid

-- the bits of the mask: SRCID where it lies, or none
in_place : (cfgr c : ℕ) → bit_and cfgr (served_by c).mask ≡ cond (eqb c 7) 0 (field cfgr srcid_bit 3 * 2 ^ srcid_bit)
in_place cfgr c = by (eqb c 7)
  where
    by : (t : Bool)
        → bit_and cfgr (cond {A = Served} t (record { mask = 0; srcid = 0 }) (record { mask = (2 ^ 3 - 1) * 2 ^ srcid_bit; srcid = c * 2 ^ srcid_bit % 2 ^ 32 })).mask
        ≡ cond t 0 (field cfgr srcid_bit 3 * 2 ^ srcid_bit)
    by true = and_zero_r cfgr
    by false = and_high cfgr 3 srcid_bit

-- that SRCID i, in its place, serves compartment c, by a test that computes
abbrev serves : ℕ → ℕ → Bool
serves c i = eqb (cond (eqb c 7) 0 (i * 2 ^ srcid_bit)) (served_by c).srcid

abbrev agrees : ℕ → ℕ → Bool
agrees c i = beq (serves c i) (eqb i c || eqb c 7)

all-agree : all 8 (λ c. all 8 (agrees c)) ≡ true
all-agree = refl

served : (c cfgr : ℕ) → c < 8 → is_served c cfgr ≡ (eqb (field cfgr srcid_bit 3) c || eqb c 7)
served c cfgr h =
    let i = field cfgr srcid_bit 3 in
    ap (λ (a : ℕ). eqb a (served_by c).srcid) (in_place cfgr c)
    ∙ beq-is (serves c i) (eqb i c || eqb c 7)
    (all-at 8 (agrees c) (all-at 8 (λ c. all 8 (agrees c)) all-agree c h) i (field_lt cfgr srcid_bit 3))

one_bit : (d : Bool) → bit 1 (den_of d) ≡ false
one_bit true = refl
one_bit false = refl

-- bit j of CFGR, which is 1 or is not in the enable alone
either : (s : Bool) (cfgr j : ℕ) → bit (cond s cfgr 1) j ≡ cond s (bit cfgr j) (bit 1 j)
either true cfgr j = refl
either false cfgr j = refl

-- a region that covers is enabled: e
own : (a e i s : Bool) → cond (e && i) (a || cond s e true) a ≡ (a || (e && i) && true)
own a true true true = refl
own a true true false = refl
own a true false s = sym (or-false a)
own a false i s = sym (or-false a)

-- ---- all that count

module _ (p : Bool) (w : List ℕ) (o c : ℕ) where
  abbrev by : ℕ → ℕ
  by = serving (served_by c)

  asked-counted : (n : ℕ) → bit (masks p by w n o).opens 0 ≡ counted w n o
  unfolding masks sub_gathered
  asked-counted n =
      some-sub p by w o (λ m. bit m.opens 0) (λ x s. true) (λ x m. refl) (bit-zero 0)
      (λ x s m.
      ap-cond (λ (l : Masks). bit l.opens 0) (covers w (sub x s) o) _ m
      ∙ ap (λ (b : Bool). cond (covers w (sub x s) o) b (bit m.opens 0))
      (bit-or m.opens _ 0 ∙ ap (λ (b : Bool). bit m.opens 0 || b) (either (is_served c (get_or w (sub x s) 0)) (get_or w (sub x s) 0) 0))
      ∙ own (bit m.opens 0) (bit (get_or w (sub x s) 0) 0) _ (is_served c (get_or w (sub x s) 0))) n
      ∙ any_same n _ _ (λ x h. any_same 2 _ _ (λ s l. and-true (counts w o x s)))

  asked-open : (d : Bool) (n : ℕ) → c < 8
      → bit (masks p by w n o).opens (den_of d)
      ≡ some_sub w n o (λ x s. (eqb (srcid w x s).0 c || eqb c 7) && bit (get_or w (sub x s) 0) (den_of d))
  unfolding masks sub_gathered
  asked-open d n h =
      some-sub p by w o (λ m. bit m.opens (den_of d))
      (λ x s. (eqb (srcid w x s).0 c || eqb c 7) && bit (get_or w (sub x s) 0) (den_of d)) (λ x m. refl) (bit-zero (den_of d))
      (λ x s m.
      ap-cond (λ (l : Masks). bit l.opens (den_of d)) (covers w (sub x s) o) _ m
      ∙ ap (λ (b : Bool). cond (covers w (sub x s) o) b (bit m.opens (den_of d)))
      (bit-or m.opens _ (den_of d) ∙ ap (λ (b : Bool). bit m.opens (den_of d) || b) (one (get_or w (sub x s) 0)))
      ∙ or-cond (covers w (sub x s) o) (bit m.opens (den_of d)) _) n
    where
      one : (cfgr : ℕ) → bit (cond (is_served c cfgr) cfgr 1) (den_of d) ≡ ((eqb (field cfgr srcid_bit 3) c || eqb c 7) && bit cfgr (den_of d))
      one cfgr =
          either (is_served c cfgr) cfgr (den_of d) ∙ ap₂ (λ (s b : Bool). cond s (bit cfgr (den_of d)) b) (served c cfgr h) (one_bit d)
          ∙ go (eqb (field cfgr srcid_bit 3) c || eqb c 7)
        where
          go : (s : Bool) → cond s (bit cfgr (den_of d)) false ≡ (s && bit cfgr (den_of d))
          go true = refl
          go false = refl

-- ---- the verdict

module _ (w : List ℕ) (n o : ℕ) (k : Kind) (h : k.cid.0 ≤ 7) where
  abbrev den : ℕ
  den = den_of k.write

  abbrev p : Bool
  p = k.privileged

  abbrev adds : ℕ → ℕ
  adds = serving (served_by k.cid.0)

  abbrev m : Masks
  m = masks p adds w n o

  opened : bit m.opens den ≡ some_sub w n o (opens w k)
  opened = by k.write
    where
      by : (d : Bool)
          → bit m.opens (den_of d)
          ≡ some_sub w n o
          (λ x s.
          (eqb (srcid w x s).0 k.cid.0 || eqb k.cid.0 7) && cond d (bit (get_or w (sub x s) 0) wren_bit) (bit (get_or w (sub x s) 0) rden_bit))
      by true = asked-open p w o k.cid.0 true n (omega (arith, h))
      by false = asked-open p w o k.cid.0 false n (omega (arith, h))

  -- in either direction
  may : (d b : Bool) → bit (cond d (all_if b) (all_if b)) k.cid.0 ≡ b
  may true b = all-if p adds w n o k h b b refl
  may false b = all-if p adds w n o k h b b refl

  pub asked_is : covered w n o ≡ true → verdict_of (by_asked den m) k ≡ decided Axi w n o k
  unfolding decided tests by_asked verdict_of by_subs by_bases
  asked_is e = rw e (by (counted w n o) (asked-counted p w o k.cid.0 n))
    where
      by : (c : Bool) → bit m.opens 0 ≡ c
          → verdict_of (cond (bit m.opens 0) (by_subs m (all_if (bit m.opens den)) (all_if (bit m.opens den))) (by_bases m)) k
          ≡ record { rule = cond c Subregion Base; reason = reason_of (cond c (tests2 w n o k) (tests1 w n o k)) }
      by true f =
          rw f (ap (λ t. record { rule = Subregion; reason = reason_of t }) (subs-tests p adds w n o k h (λ e. e) _ _ (may k.write (bit m.opens den) ∙ opened)))
      by false f = rw f (ap (λ t. record { rule = Base; reason = reason_of t }) (bases-tests p adds w n o k h))

  -- where the search found one
  pub found_as : {r : ℕ} → Next w o n r → Some (verdict_of (by_asked den m) k) ≡ governed w n o k
  found_as {r} next =
      let e = some-covered w o n r next.high next.found in
      rw e (ap Some (asked_is e))

  pub governed-none : covered w n o ≡ false → None ≡ governed w n o k
  governed-none e = rw e refl

module _ (bus : Bus) (w : List ℕ) (n o : ℕ) (k : Kind) where
  abbrev h : Kind
  h = heard bus k

  -- the bus matters to rule 0 alone
  covered-same : covered w n o ≡ true → decided Axi w n o h ≡ decided bus w n o k
  unfolding decided tests
  covered-same e = rw e refl

  pub governed_some : {v : Verdict} → governed w n o h ≡ Some v → v ≡ decided bus w n o k
  governed_some e =
      let p = cond_some (covered w n o) _ _ e in
      sym p.1 ∙ covered-same p.0

  -- where there is none, rule 0 governs
  pub governed-default : governed w n o h ≡ None → {r : Option Reason} → r ≡ reason_of (tests0 bus h)
      → ◌≡◌ {A = Verdict} (record { rule = Default; reason = r }) (decided bus w n o k)
  unfolding decided tests
  governed-default z {r} e = go (covered w n o) refl z
    where
      go : (c : Bool) → covered w n o ≡ c → cond c (Some (decided Axi w n o h)) None ≡ None
          → ◌≡◌ {A = Verdict} (record { rule = Default; reason = r }) (record { rule = rule_of w n o; reason = reason_of (tests bus w n o h) })
      go true f q = absurd (none-some _ (sym q))
      go false f q = rw (none-counted w o n f, f) (ap {B = Verdict} (λ r. record { rule = Default; reason = r }) e)
