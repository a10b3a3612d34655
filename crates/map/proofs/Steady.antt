-- A guard's rights change only at boundaries of its regions: its map is that of a sweep, and has at most 67 rows.
use mathlib.Core.Bool.{Bool, ◌&&◌}
use mathlib.Core.List.{List}
use mathlib.Core.Path.{◌≡◌, refl, sym, ap}
use Prim.Native.Nat.{ℕ, zero, suc, ◌*◌, ◌≤◌, ◌<◌}
use native.Mathlib.Decide.{dec_lt}
use native.Mathlib.Omega.{arith}
use lib.ListN.{length, get_or}
use Rattle.words.specs.Bit.{bit}
use Rattle.access.specs.declared.bus.Bus.{Bus}
use Rattle.risaf.specs.Guards.{shape_of}
use Rattle.regions.specs.Words.{base, sub, enable_bit, most_regions}
use Rattle.regions.specs.Rights.{rights_word}
use Rattle.regions.specs.Rules.{covers}
use Rattle.regions.proofs.SameCover.{SameCover, rights-by-cover}
use Rattle.spans.specs.Rows.{encloses, size}
use Rattle.spans.specs.Map.{map_of}
use Rattle.spans.specs.Sweep.{swept_map, bounds_of}
use Rattle.spans.proofs.Steady.{Alike, Steady, steady-pairs, length-bounds}
use Rattle.spans.proofs.Sweep.{swept-is-map, rows-most}
use Rattle.device.specs.State.{State, guard_of}
use Rattle.map.specs.Fill.{most_rows}
use Rattle.map.specs.Bounds.{pair_at, pairs_of}
use Rattle.map.specs.Map.{rights_of, rows_of}
use Rattle.map.proofs.Guards.{small}

-- ---- where the same pairs enclose two offsets, their rights are the same

module _ (w : List ℕ) (o o' : ℕ) where
  pairs-alike : (n : ℕ) → Alike (pairs_of w n) o o' → (x : ℕ) → x < n → SameCover w o o' x
  unfolding pairs_of Alike
  pairs-alike zero a x h = absurd (omega arith)
  pairs-alike (suc n) a x h = by (dec_lt x n) (pairs-alike n a.1.1.1 x)
    where
      covers-same : (p : ℕ) → encloses (pair_at w p).0 (pair_at w p).1 o ≡ encloses (pair_at w p).0 (pair_at w p).1 o'
          → covers w p o ≡ covers w p o'
      covers-same p e = ap (λ (c : Bool). bit (get_or w p 0) enable_bit && c) e

      by : Dec (x < n) → (x < n → SameCover w o o' x) → SameCover w o o' x
      by (yes l) earlier = earlier l
      by (no l) earlier =
          let e : x ≡ n = omega arith in
          rw e (record { own = covers-same (base n) a.1.1.0; subs = λ c. (covers-same (sub n 0) a.1.0, covers-same (sub n 1) a.0) })

pub steady : (bus : Bus) (w : List ℕ) (n : ℕ) → Steady (rights_word bus w n) (bounds_of (pairs_of w n))
steady bus w n = steady-pairs (rights_word bus w n) (pairs_of w n) (λ x y a. rights-by-cover w x y bus n (pairs-alike w x y n a))

-- ---- how many boundaries there are

pub bounds-most : (w : List ℕ) (n : ℕ) → n ≤ most_regions → length (bounds_of (pairs_of w n)) ≤ 66
unfolding pairs_of
bounds-most w n h = omega (arith, length-bounds (pairs_of w n), three n)
  where
    three : (n : ℕ) → length (pairs_of w n) ≡ 3 * n
    three zero = refl
    three (suc x) = omega (arith, three x)

pub size-most : (bus : Bus) (w : List ℕ) (n window : ℕ) → n ≤ most_regions → size (map_of (rights_word bus w n) window) ≤ most_rows
size-most bus w n window h = omega (arith, rows-most (steady bus w n) window, bounds-most w n h)

-- ---- the map of a guard

module _ (s : State) (n : ℕ) where
  -- as computed, boundary by boundary
  pub rows-swept : rows_of s n ≡ swept_map (rights_of s n) (bounds_of (pairs_of (guard_of s n).regions (shape_of n).regions)) (shape_of n).window
  unfolding rows_of rights_of
  rows-swept = sym (swept-is-map (steady (shape_of n).bus (guard_of s n).regions (shape_of n).regions) (shape_of n).window)

  pub guard-rows-most : size (rows_of s n) ≤ most_rows
  unfolding rows_of rights_of
  guard-rows-most = size-most (shape_of n).bus (guard_of s n).regions (shape_of n).regions (shape_of n).window (small n).0
