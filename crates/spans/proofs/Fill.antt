-- A sweep that puts its spans into memory, turn by turn: what holds between the turns (`Swept`), for a loop's invariant, and its begin, turn and end. Assumes nothing.
use Prim.Native.Nat.{ℕ, ◌+◌, ◌-◌, ◌*◌, ◌≤◌, ◌<◌}
use mathlib.Core.Path.{◌≡◌, refl}
use mathlib.Core.List.{List}
use native.Mathlib.Omega.{arith}
use lib.ListN.{length}
use Rattle.spans.specs.Rows.{size, flat, filled}
use Rattle.spans.specs.Map.{join, map_of}
use Rattle.spans.specs.Put.{put_count, put_in}
use Rattle.spans.proofs.Joined.{size-join}
use Rattle.spans.proofs.Memory.{filled-length}
use Rattle.spans.proofs.Added.{put-joins}
use Rattle.spans.proofs.Bounds.{above, above-le}
use Rattle.spans.proofs.Sweep.{Turn, turned}

-- after the turns up to at, l is l₀ with the map below at over its front, of count rows; before the last turn the rows and the boundaries above at
-- are at most as many as all boundaries, so that there is room for a row more
pub record Swept (f : ℕ → ℕ) (bs : List ℕ) (w : ℕ) (l₀ : List ℕ) (at count : ℕ) (l : List ℕ) : Type 0 where
  pub within : at ≤ w
  pub counted : count ≡ size (map_of f at)
  pub memory : l ≡ filled (map_of f at) l₀
  pub long : length l ≡ length l₀
  pub few : at < w → count + above bs at ≤ length bs

pub swept-begin : (f : ℕ → ℕ) (bs : List ℕ) (w : ℕ) (l : List ℕ) → Swept f bs w l 0 0 l
unfolding map_of filled flat size
swept-begin f bs w l = record { within = omega arith; counted = refl; memory = refl; long = refl; few = λ h. omega (arith, above-le bs 0) }

module _ {f : ℕ → ℕ} {bs : List ℕ} {w : ℕ} {l₀ : List ℕ} {at count : ℕ} {l : List ℕ} (S : Swept f bs w l₀ at count l) where
  -- a turn: one span from at up to `to`, with f's rights at at
  pub swept-turn : 3 * (length bs + 1) ≤ length l₀ → at < w → {q to count' : ℕ} {l' : List ℕ} → Turn f bs w at to
      → q ≡ f at → count' ≡ put_count l count q → l' ≡ put_in l count at (to - 1) q → Swept f bs w l₀ to count' l'
  swept-turn room h {q} {to} {count'} {l'} t eq ec el =
      let j = put-joins (map_of f at) l₀ l count at (to - 1) q S.counted S.memory (omega (arith, S.few h)) in
      let e : map_of f to ≡ join (map_of f at) at (to - 1) q = rw eq (turned t) in
      record {
        within = t.within;
        counted = rw (ec, e) j.0;
        memory = rw (el, e) j.1;
        long = rw (el, j.1) (filled-length (join (map_of f at) at (to - 1) q) l₀ (omega (arith, S.few h, S.counted, size-join (map_of f at) at (to - 1) q)));
        few = λ g. omega (arith, S.few h, t.fewer g, ec, j.0, S.counted, size-join (map_of f at) at (to - 1) q);
      }

  -- the end: the map of f below w over the front of l₀
  pub swept-end : w ≤ at → (count ≡ size (map_of f w)) × (l ≡ filled (map_of f w) l₀)
  swept-end h = let e : at ≡ w = omega arith in (rw (← e) S.counted, rw (← e) S.memory)
