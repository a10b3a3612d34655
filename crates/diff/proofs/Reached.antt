-- A walk over a map: which row encloses an offset, and the next one.
use Prim.Native.Nat.{ℕ, ◌+◌, ◌≤◌, ◌<◌}
use mathlib.Core.Path.{◌≡◌, refl, ◌∙◌}
use mathlib.Core.Bool.{true}
use mathlib.Core.List.{List}
use mathlib.Core.Logic.{⊎_elim, inr}
use native.Mathlib.Omega.{arith}
use lib.ListN.{length, get_or, drop}
use borrow.Author.Tests.{lt-ltb, le-ltb}
use Rattle.spans.specs.Lookup.{lookup_in}
use Rattle.spans.proofs.Found.{inside, outside}
use Rattle.spans.proofs.Memory.{three}
use Rattle.spans.proofs.Order.{below_or}
use Rattle.diff.specs.Lent.{tiles_from, map_rights}
use Rattle.diff.specs.Put.{past_row}
use Rattle.diff.proofs.Tiled.{tiles-held, tiles-row, tiles-le}

-- below the window w the row at i of the numbers m encloses at; offsets from at on are looked up as well from i on
pub record Reached (m : List ℕ) (w at i : ℕ) : Type 0 where
  pub from : ℕ
  pub low : from ≤ at
  pub tiled : tiles_from from w (drop i m) ≡ true
  pub high : at < w → at ≤ get_or m (i + 1) 0
  pub same : (x : ℕ) → at ≤ x → lookup_in m x ≡ lookup_in (drop i m) x

-- the row from at on does
reached : (m : List ℕ) (w at i : ℕ) → tiles_from at w (drop i m) ≡ true → ((x : ℕ) → at ≤ x → lookup_in m x ≡ lookup_in (drop i m) x) → Reached m w at i
reached m w at i t s =
    record {
      from = at;
      low = omega arith;
      tiled = t;
      high = λ h. let r = tiles-row m w at i (tiles-held m w at i t h) t in omega (arith, r.0, r.1);
      same = s;
    }

pub reached-first : (m : List ℕ) (w : ℕ) → tiles_from 0 w m ≡ true → Reached m w 0 0
reached-first m w t = reached m w 0 0 t (λ x h. refl)

module _ {m : List ℕ} {w at i : ℕ} (R : Reached m w at i) (h : at < w) where
  pub row-held : i + 3 ≤ length m
  row-held = tiles-held m w R.from i R.tiled (omega (arith, R.low))

  pub row_within : get_or m (i + 1) 0 < w
  row_within =
      let r = tiles-row m w R.from i row-held R.tiled in
      omega (arith, tiles-le (get_or m (i + 1) 0 + 1) w (drop (i + 3) m) r.2)

  -- the rights up to its end are its own
  pub row-rights : (x : ℕ) → at ≤ x → x ≤ get_or m (i + 1) 0 → map_rights m x ≡ get_or m (i + 2) 0
  unfolding map_rights lookup_in
  row-rights x l u =
      let r = tiles-row m w R.from i row-held R.tiled in
      rw (R.same x l, three m i row-held, inside (get_or m i 0) (get_or m (i + 1) 0) x (omega (arith, r.0, R.low)) u)

  -- an offset past its end is looked up behind it
  row-past : (x : ℕ) → at ≤ x → get_or m (i + 1) 0 < x → lookup_in m x ≡ lookup_in (drop (i + 3) m) x
  unfolding lookup_in
  row-past x l u = R.same x l ∙ rw (three m i row-held, outside (get_or m i 0) (get_or m (i + 1) 0) x (inr u))

  -- the next offset, which is at most one past its end
  pub reached-next : (to : ℕ) → at < to → to ≤ get_or m (i + 1) 0 + 1 → Reached m w to (past_row m i to)
  unfolding past_row
  reached-next to l u =
      ⊎_elim
      (λ k.
      let r = tiles-row m w R.from i row-held R.tiled in
      let e : get_or m (i + 1) 0 + 1 ≡ to = omega arith in
      let on : (x : ℕ) → to ≤ x → lookup_in m x ≡ lookup_in (drop (i + 3) m) x = λ x g. row-past x (omega arith) (omega arith) in
      rw (lt-ltb (get_or m (i + 1) 0) to k) (reached m w to (i + 3) (rw e at r.2) on))
      (λ k.
      rw (le-ltb (get_or m (i + 1) 0) to k)
      (record {
        from = R.from;
        low = omega (arith, R.low);
        tiled = R.tiled;
        high = λ _. k;
        same = λ x g. R.same x (omega arith);
      }))
      (below_or (get_or m (i + 1) 0) to)

-- where the next row begins
pub past-row : (m : List ℕ) (i to : ℕ) → get_or m (i + 1) 0 < to → past_row m i to ≡ i + 3
unfolding past_row
past-row m i to h = rw (lt-ltb (get_or m (i + 1) 0) to h)

pub past-least : (m : List ℕ) (i to : ℕ) → i ≤ past_row m i to
unfolding past_row
past-least m i to = ⊎_elim (λ h. rw (lt-ltb (get_or m (i + 1) 0) to h) (omega arith)) (λ h. rw (le-ltb (get_or m (i + 1) 0) to h) (omega arith)) (below_or (get_or m (i + 1) 0) to)
