-- A turn of the sweep, over the base regions that are active: up to the boundary ahead, which is one of those of the regions, the rights
-- stay.
use mathlib.Core.List.{List}
use mathlib.Core.Logic.{inl, inr, ⊎_elim}
use mathlib.Core.Path.{◌≡◌, refl, sym, ◌∙◌}
use Prim.Native.Nat.{ℕ, zero, suc, ◌+◌, ◌-◌, ◌≤◌, ◌<◌}
use native.Mathlib.Decide.{dec_lt}
use native.Mathlib.Omega.{arith}
use lib.ListN.{length, length-drop, length-take, take, drop}
use lib.Seq.{get_or-take, get_or-drop}
use Rattle.access.specs.declared.bus.Bus.{Bus}
use Rattle.regions.specs.Active.{active, active_in}
use Rattle.regions.specs.Ahead.{ahead, ahead_in}
use Rattle.regions.specs.Lent.{rights_in}
use Rattle.regions.specs.Rights.{rights_word}
use Rattle.regions.specs.Words.{base, most_regions}
use Rattle.regions.specs.declared.active.Active.{Active}
use Rattle.regions.proofs.Enough.{active-enough, ahead-enough, rights-enough}
use Rattle.regions.proofs.Found.{Found, RegionEnds, active-found, ahead-found}
use Rattle.regions.proofs.Inactive.{Inactive, inactive}
use Rattle.regions.proofs.Parts.{IsPart, part-ends, rights-part}
use Rattle.regions.proofs.Stay.{rights-stay}
use Rattle.spans.specs.Sweep.{bounds_of}
use Rattle.spans.proofs.Bounds.{Among, among-fewer}
use Rattle.spans.proofs.Sweep.{Turn}
use Rattle.map.specs.Bounds.{pairs_of}

abbrev bounds : List ℕ → ℕ → List ℕ
bounds w n = bounds_of (pairs_of w n)

-- each boundary of base region x and its subregions is among those of all
region-ends : (w : List ℕ) (n x : ℕ) → x < n → RegionEnds (λ b. Among b (bounds w n)) w x
unfolding Among bounds_of pairs_of
region-ends w zero x h = absurd (omega arith)
region-ends w (suc n) x h = by (dec_lt x n) (region-ends w n x)
  where
    more : {b : ℕ} → Among b (bounds w n) → Among b (bounds w (suc n))
    more m = inr (inr (inr (inr (inr (inr m)))))

    by : Dec (x < n) → (x < n → RegionEnds (λ b. Among b (bounds w n)) w x) → RegionEnds (λ b. Among b (bounds w (suc n))) w x
    by (yes l) earlier =
        let r = earlier l in
        ((more r.0.0, more r.0.1), (more r.1.0, more r.1.1), (more r.2.0, more r.2.1))
    by (no l) earlier =
        let e : x ≡ n = omega arith in
        rw e ((inr (inr (inr (inr (inl refl)))), inr (inr (inr (inr (inr (inl refl)))))), (inr (inr (inl refl)), inr (inr (inr (inl refl)))), (inl refl, inr (inl refl)))

-- ---- over the base regions that are active from an offset on

-- the words of those from low up to high
abbrev part : List ℕ → Active → List ℕ
part w a = take (base a.high - base a.low) (drop (base a.low) w)

-- those that a has are active from o on: from there up to a.to a sweep may turn by what they give
pub record ActiveFrom (bus : Bus) (w : List ℕ) (n window o : ℕ) (a : Active) : Type 0 where
  pub low : a.low ≤ a.high
  pub high : a.high ≤ n
  pub past : o < a.to
  pub within : a.to ≤ window
  pub rights : (at : ℕ) → o ≤ at → at < a.to → {q : ℕ} → q ≡ rights_in bus (part w a) (a.high - a.low) at → q ≡ rights_word bus w n at
  pub turn : (at : ℕ) → o ≤ at → at < a.to → {to : ℕ} → to ≡ ahead_in (part w a) (a.high - a.low) at a.to
      → Turn (rights_word bus w n) (bounds w n) window at to

module _ (bus : Bus) (w : List ℕ) (n window o : ℕ) (hn : n ≤ most_regions) (hl : base n ≤ length w) (h : o < window) where
  abbrev Bound : ℕ → Type 0
  Bound b = Among b (bounds w n)

  module _ (a : Active) (f : Found Bound o window a.to) (i : Inactive w o n a) where
    abbrev k : ℕ
    k = a.high - a.low

    is : IsPart w a.low k (part w a)
    is p g =
        get_or-take (base a.high - base a.low) (drop (base a.low) w) p 0 (omega (arith, i.low))
        ∙ get_or-drop (base a.low) w p 0

    enough : (k ≤ most_regions) × (base k ≤ length (part w a))
    enough = (omega (arith, i.low, i.high), simp (length-take, length-drop) (omega (arith, i.low, i.high)))

    same : (y : ℕ) → o ≤ y → y < a.to → rights_word bus (part w a) k y ≡ rights_word bus w n y
    same y g b =
        let e : a.low + k ≡ a.high = omega (arith, i.low) in
        rights-part w a.low k (part w a) is bus n y (omega (arith, i.low, i.high)) (i.below y g b) (rw e (i.past y g b))

    turns : (at : ℕ) → o ≤ at → at < a.to → Turn (rights_word bus w n) (bounds w n) window at (ahead (part w a) k at a.to)
    turns at l u =
        let r =
        ahead-found {B = Bound} (part w a) at k a.to
        (λ x g. part-ends w a.low k (part w a) is Bound x g (region-ends w n (a.low + x) (omega (arith, i.low, i.high)))) in
        record {
          past = r.above u;
          within = omega (arith, r.low, f.low);
          stays = λ x g b. sym (same x (omega arith) (omega (arith, b, r.low))) ∙ rights-stay (part w a) at x g bus k a.to b ∙ same at l u;
          fewer =
              λ b.
              among-fewer (bounds w n) at (ahead (part w a) k at a.to)
              (⊎_elim (λ d. ⊎_elim (λ c. absurd (omega arith)) (λ m. rw d m) f.is) (λ m. m) r.is) (r.above u);
        }

    of-found : ActiveFrom bus w n window o a
    of-found =
        record {
          low = i.low;
          high = i.high;
          past = f.above h;
          within = f.low;
          rights = λ at l u e. e ∙ rights-enough bus (part w a) k at enough.0 enough.1 ∙ same at l u;
          turn = λ at l u e. rw (e ∙ ahead-enough bus (part w a) k at enough.0 enough.1 a.to) (turns at l u);
        }

  -- the code's call
  pub active-from : {a : Active} → a ≡ active_in w n o window → ActiveFrom bus w n window o a
  active-from e =
      rw (e ∙ active-enough bus w n o hn hl window)
      (of-found (active w n o window) (active-found {B = Bound} w o n window (region-ends w n)) (inactive w o n window))
