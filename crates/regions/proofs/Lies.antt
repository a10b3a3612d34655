-- How an offset lies to a region, and what is then ahead of it.
use mathlib.Core.Bool.{Bool, true, false}
use mathlib.Core.List.{List}
use mathlib.Core.Logic.{◌⊎◌, inl, inr}
use mathlib.Core.Path.{◌≡◌, refl, sym, ap, subst, ◌∙◌}
use Prim.Native.Nat.{ℕ, ◌+◌, ◌≤◌, ◌<◌}
use native.Mathlib.Decide.{dec_lt}
use native.Mathlib.Numerals.{add-one}
use native.Mathlib.Omega.{arith}
use lib.ListN.{get_or}
use borrow.Author.Tests.{lt-ltb, le-ltb, lt-leb, le-leb}
use Rattle.words.specs.Bit.{bit}
use Rattle.regions.specs.Ahead.{lesser, reach_of, region_ahead, base_ahead, ahead}
use Rattle.regions.specs.Words.{start_at, end_at, enable_bit}
use Rattle.regions.specs.Rules.{covers}
use Rattle.regions.specs.declared.ahead.Reach.{Reach}
use Rattle.regions.specs.declared.ahead.Reach.TheVariants.{Inside, Outside}

-- ---- the lesser of two

pub record Lesser (a b r : ℕ) : Type 0 where
  pub left : r ≤ a
  pub right : r ≤ b
  pub above : (o : ℕ) → o < a → o < b → o < r
  pub is : (r ≡ a) ⊎ (r ≡ b)

pub is-lesser : (a b : ℕ) → Lesser a b (lesser a b)
is-lesser a b = by (dec_lt a b)
  where
    by : Dec (a < b) → Lesser a b (lesser a b)
    by (yes h) = simp (lt-ltb a b h) (record { left = omega arith; right = omega arith; above = λ o k l. k; is = inl refl })
    by (no h) = simp (le-ltb a b (omega arith)) (record { left = omega arith; right = omega arith; above = λ o k l. l; is = inr refl })

-- ---- one region

module _ (w : List ℕ) (p : ℕ) where
  abbrev pub on : Bool
  on = bit (get_or w p 0) enable_bit

  abbrev pub first : ℕ
  first = get_or w (p + start_at) 0

  abbrev pub last : ℕ
  last = get_or w (p + end_at) 0

  -- how an offset lies to the region or subregion at p
  pub data Lies (o : ℕ) : Type 0 where
    off : on ≡ false → Lies o
    before : on ≡ true → o < first → Lies o
    past : on ≡ true → first ≤ o → last < o → Lies o
    inside : on ≡ true → first ≤ o → o ≤ last → Lies o

  pub lies : (o : ℕ) → Lies o
  lies o = by on refl (dec_lt o first) (dec_lt last o)
    where
      by : (e : Bool) → on ≡ e → Dec (o < first) → Dec (last < o) → Lies o
      by false e a b = off e
      by true e (yes a) b = before e a
      by true e (no a) (yes b) = past e (omega arith) b
      by true e (no a) (no b) = inside e (omega arith) (omega arith)

  -- what is ahead, and whether it covers, each way
  module _ (o : ℕ) (further : ℕ → ℕ) (to : ℕ) where
    pub ahead-off : on ≡ false → (to ≡ region_ahead w p o further to) × (covers w p o ≡ false)
    ahead-off e = simp e (refl, refl)

    pub ahead_before : on ≡ true → o < first → (lesser first to ≡ region_ahead w p o further to) × (covers w p o ≡ false)
    ahead_before e a = simp (e, lt-ltb o first a, lt-leb first o a) (refl, refl)

    pub ahead_past : on ≡ true → first ≤ o → last < o → (to ≡ region_ahead w p o further to) × (covers w p o ≡ false)
    ahead_past e a b = simp (e, le-ltb o first a, le-leb first o a, lt-ltb last o b, lt-leb o last b) (refl, refl)

    pub ahead-inside : on ≡ true → first ≤ o → o ≤ last
        → (further (lesser (last + 1) to) ≡ region_ahead w p o further to) × (covers w p o ≡ true)
    ahead-inside e a b = simp (e, le-ltb o first a, le-leb first o a, le-ltb last o b, le-leb o last b) (refl, refl)

    -- the same, by what the code is told
    abbrev pub Told : Reach → Type 0
    Told (Inside t) = (further t ≡ region_ahead w p o further to) × (covers w p o ≡ true)
    Told (Outside t) = (t ≡ region_ahead w p o further to) × (covers w p o ≡ false)

    told-reach : Lies o → Told (reach_of w p o to)
    unfolding reach_of
    told-reach (off e) = simp e (refl, refl)
    told-reach (before e a) = simp (e, lt-ltb o first a, lt-leb first o a) (refl, refl)
    told-reach (past e a b) = simp (e, le-ltb o first a, le-leb first o a, lt-ltb last o b, lt-leb o last b) (refl, refl)
    told-reach (inside e a b) = simp (e, le-ltb o first a, le-leb first o a, le-ltb last o b, le-leb o last b) (refl, refl)

    pub told : {r : Reach} → r ≡ reach_of w p o to → Told r
    told e = subst Told (sym e) (told-reach (lies o))

-- ---- a base region, by the code's calls

module _ (w : List ℕ) (x o to : ℕ) where
  pub ahead_more : {s t : ℕ} → s ≡ ahead w x o to → t ≡ base_ahead w x o s → t ≡ ahead w (x + 1) o to
  unfolding ahead
  ahead_more es et = et ∙ ap (base_ahead w x o) es ∙ sym (ap (λ (n : ℕ). ahead w n o to) (add-one x))
