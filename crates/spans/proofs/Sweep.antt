-- A sweep from boundary to boundary makes the map of a function that changes only at boundaries. Assumes nothing.
use Prim.Native.Nat.{ℕ, zero, suc, ◌+◌, ◌-◌, ◌≤◌, ◌<◌}
use mathlib.Core.Path.{◌≡◌, refl, sym, subst}
use mathlib.Core.List.{List}
use mathlib.Core.Logic.{⊎_elim}
use native.Mathlib.Omega.{arith}
use lib.ListN.{length}
use borrow.Author.Tests.{lt-ltb, le-ltb}
use Rattle.spans.specs.Rows.{Rows, none, size}
use Rattle.spans.specs.Map.{join, map_of}
use Rattle.spans.specs.Sweep.{next_of, sweep_from, swept_map}
use Rattle.spans.proofs.Order.{below_or}
use Rattle.spans.proofs.Joined.{run, size-join}
use Rattle.spans.proofs.Steady.{Steady}
use Rattle.spans.proofs.Bounds.{next-clear, next_le, next-above, above, above-le, next-fewer}

-- a turn of a sweep may go from at on to `to`: f stays up to there, and it is w, or has fewer boundaries above it
pub record Turn (f : ℕ → ℕ) (bs : List ℕ) (w at to : ℕ) : Type 0 where
  pub past : at < to
  pub within : to ≤ w
  pub stays : (x : ℕ) → at ≤ x → x < to → f x ≡ f at
  pub fewer : to < w → above bs to < above bs at

-- the map goes on by one span
pub turned : {f : ℕ → ℕ} {bs : List ℕ} {w at to : ℕ} → Turn f bs w at to → map_of f to ≡ join (map_of f at) at (to - 1) (f at)
turned {f} {bs} {w} {at} {to} t =
    let l = t.past in
    let e : suc (to - 1) ≡ to = omega arith in
    subst (λ (k : ℕ). map_of f k ≡ join (map_of f at) at (to - 1) (f at)) e
    (run f at (to - 1) (omega arith) (λ x a b. t.stays x a (omega arith)))

module _ {f : ℕ → ℕ} {bs : List ℕ} (steady : Steady f bs) (w : ℕ) where
  -- one turn goes to the next boundary
  next-turn : (at : ℕ) → at < w → Turn f bs w at (next_of bs at w)
  next-turn at h =
      record {
        past = next-above bs at w h;
        within = next_le bs at w;
        stays = λ x l u. steady.stays at x l (next-clear bs at w x u);
        fewer = next-fewer bs at w h;
      }

  -- enough turns are left: one for each boundary above at, and one
  sweeps : (turns at : ℕ) (rs : Rows) → at ≤ w → (at < w → above bs at < turns) → rs ≡ map_of f at → sweep_from f bs w turns at rs ≡ map_of f w
  unfolding sweep_from
  sweeps zero at rs h k e = ⊎_elim (λ l. absurd (omega (arith, k l))) (λ g. let i : at ≡ w = omega arith in rw (← i) e) (below_or at w)
  sweeps (suc turns) at rs h k e =
      let t = next_of bs at w in
      ⊎_elim
      (λ l.
      simp (lt-ltb at w l)
      (sweeps turns t (join rs at (t - 1) (f at)) (next_le bs at w) (λ g. omega (arith, k l, next-fewer bs at w l g)) (rw e (sym (turned (next-turn at l))))))
      (λ g. let i : at ≡ w = omega arith in simp (le-ltb at w g) (rw (← i) e))
      (below_or at w)

  -- a map that is worked out is the map of f
  pub swept-is-map : swept_map f bs w ≡ map_of f w
  unfolding swept_map map_of
  swept-is-map = sweeps (suc (length bs)) 0 none (omega arith) (λ h. omega (arith, above-le bs 0)) refl

  one-a-turn : (turns at : ℕ) (rs : Rows) → size (sweep_from f bs w turns at rs) ≤ size rs + turns
  unfolding sweep_from
  one-a-turn zero at rs = omega arith
  one-a-turn (suc turns) at rs =
      let t = next_of bs at w in
      let rs' = join rs at (t - 1) (f at) in
      ⊎_elim
      (λ l. simp (lt-ltb at w l) (omega (arith, one-a-turn turns t rs', size-join rs at (t - 1) (f at))))
      (λ g. simp (le-ltb at w g) (omega arith))
      (below_or at w)

  -- a map has at most one row more than there are boundaries
  pub rows-most : size (map_of f w) ≤ length bs + 1
  unfolding swept_map size
  rows-most = rw (← swept-is-map) (omega (arith, one-a-turn (suc (length bs)) 0 none))
