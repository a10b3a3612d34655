-- Demand 3, of every map that is made: of any stored registers, for each guard.
use mathlib.Core.Bool.{true}
use mathlib.Core.List.{List}
use mathlib.Core.Path.{◌≡◌, ap, ◌∙◌}
use Prim.Native.Nat.{ℕ, zero, suc, ◌+◌, ◌-◌, ◌≤◌, ◌<◌}
use native.Mathlib.Omega.{arith}
use Rattle.words.specs.Bit.{bit}
use Rattle.access.specs.Kind.{rights_bit}
use Rattle.risaf.specs.Guards.{is_guard, shape_of}
use Rattle.spans.specs.Map.{Tiles, IsMap}
use Rattle.spans.specs.Rows.{end, size, filled}
use Rattle.spans.proofs.Maps.{map-in-memory}
use Rattle.device.specs.State.{State}
use Rattle.map.specs.Demand.{IsGuardMap}
use Rattle.map.specs.Map.{rights_of, rows_of}
use Rattle.map.proofs.Grants.{bit-grants}
use Rattle.map.proofs.Steady.{guard-rows-most}

-- no row ends past the window
module _ {w n : ℕ} {m : List ℕ} (t : Tiles w n m) where
  rises : (d k : ℕ) → k + d < n → end m k ≤ end m (k + d)
  rises zero k h = let e : k + 0 ≡ k = omega arith in rw e (omega arith)
  rises (suc d) k h =
      let e : k + suc d ≡ k + d + 1 = omega arith in
      rw e (omega (arith, rises d k (omega arith), t.next (k + d) (omega arith), t.order (k + d + 1) (omega arith)))

  end_below : (k : ℕ) → k < n → end m k < w
  end_below k h =
      let e : k + (n - 1 - k) ≡ n - 1 = omega arith in
      omega (arith, rw e at (rises (n - 1 - k) k (omega arith)), t.last (omega arith))

pub is-map : (s : State) (n : ℕ) (l : List ℕ) → IsMap (rights_of s n) (shape_of n).window (size (rows_of s n)) (filled (rows_of s n) l)
unfolding rows_of
is-map s n l = map-in-memory (rights_of s n) (shape_of n).window l

-- The rows of a guard's map, over the front of any numbers, are what demand 3 asks for.
pub demand-3 : (s : State) (n : ℕ) (l : List ℕ) → is_guard n ≡ true → IsGuardMap s n (size (rows_of s n)) (filled (rows_of s n) l)
demand-3 s n l h =
    let i = is-map s n l in
    record {
      tiles = i.tiles;
      exact =
          λ j x width k hj low high w a c.
          ap (λ (q : ℕ). bit q (rights_bit k)) (i.exact j x hj low high) ∙ bit-grants s n x h (omega (arith, end_below i.tiles j hj)) width w a k c;
      differ = i.differ;
      most = guard-rows-most s n;
    }
