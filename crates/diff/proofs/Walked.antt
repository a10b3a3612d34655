-- One walk over two maps that puts its spans into memory, turn by turn: what holds between the turns (`Walked`), for a loop's invariant, and its
-- begin, turn and end.
use Prim.Native.Nat.{ℕ, zero, suc, ◌+◌, ◌-◌, ◌*◌, ◌≤◌, ◌<◌}
use mathlib.Core.Path.{◌≡◌, refl, sym, ◌∙◌, subst}
use mathlib.Core.Bool.{true}
use mathlib.Core.List.{List}
use mathlib.Core.Logic.{◌⊎◌, inl, inr, ⊎_elim}
use native.Mathlib.Omega.{arith}
use lib.ListN.{length, get_or}
use borrow.Author.Tests.{lt-ltb, le-ltb}
use Rattle.map.specs.Fill as map
use Rattle.spans.specs.Sweep.{nearer}
use Rattle.spans.proofs.Order.{below_or}
use Rattle.diff.specs.Diff.{with_span, diff_of}
use Rattle.diff.specs.Fill.{most_diff_rows, least_diff_room}
use Rattle.diff.specs.Lent.{tiles_from, map_rights}
use Rattle.diff.specs.Put.{count_with, numbers_with, past_row}
use Rattle.diff.specs.Rows.{diff_row_numbers, flat_diff, size_diff, filled_diff}
use Rattle.diff.proofs.Added.{put-joins}
use Rattle.diff.proofs.Joined.{run, size-join}
use Rattle.diff.proofs.Memory.{filled-length}
use Rattle.diff.proofs.Reached.{Reached, reached-first, row-held, row_within, row-rights, reached-next, past-row, past-least}

-- after the turns up to at, l is l₀ with what differs below at over its front, of count rows; a turn passes a row of one map or of both, and the
-- last turn one of each
pub record Walked (b a : List ℕ) (w : ℕ) (l₀ : List ℕ) (at i j count : ℕ) (l : List ℕ) : Type 0 where
  pub within : at ≤ w
  pub old : Reached b w at i
  pub new : Reached a w at j
  pub counted : count ≡ size_diff (diff_of (map_rights b) (map_rights a) at)
  pub memory : l ≡ filled_diff (diff_of (map_rights b) (map_rights a) at) l₀
  pub long : length l ≡ length l₀
  pub few : 3 * count ≤ i + j
  pub most : count ≤ most_diff_rows

pub walked-begin : (b a : List ℕ) (w : ℕ) (l : List ℕ) → tiles_from 0 w b ≡ true → tiles_from 0 w a ≡ true → Walked b a w l 0 0 0 0 l
unfolding diff_of filled_diff flat_diff size_diff
walked-begin b a w l tb ta =
    record {
      within = omega arith;
      old = reached-first b w tb;
      new = reached-first a w ta;
      counted = refl;
      memory = refl;
      long = refl;
      few = omega arith;
      most = omega arith;
    }

-- the nearer of two boundaries above at
pub record Lesser (at p q to : ℕ) : Type 0 where
  pub above : at < to
  pub first : to ≤ p
  pub second : to ≤ q
  pub is : (to ≡ p) ⊎ (to ≡ q)

pub near-lesser : (at p q : ℕ) → at < p → at < q → Lesser at p q (nearer at p q)
near-lesser at p q h k =
    ⊎_elim
    (λ l. rw (lt-ltb at p h, lt-ltb p q l) (record { above = h; first = omega arith; second = omega arith; is = inl refl }))
    (λ l. rw (lt-ltb at p h, le-ltb p q l) (record { above = k; first = l; second = omega arith; is = inr refl }))
    (below_or p q)

module _ {b a : List ℕ} {w : ℕ} {l₀ : List ℕ} {at i j count : ℕ} {l : List ℕ} (W : Walked b a w l₀ at i j count l) where
  module _ (h : at < w) {to : ℕ} (et : to ≡ nearer at (get_or b (i + 1) 0 + 1) (get_or a (j + 1) 0 + 1)) where
    -- the turn's span ends at the nearer end of the two rows
    pub turn-to : Lesser at (get_or b (i + 1) 0 + 1) (get_or a (j + 1) 0 + 1) to
    turn-to = rw et (near-lesser at _ _ (omega (arith, W.old.high h)) (omega (arith, W.new.high h)))

    spans_on : diff_of (map_rights b) (map_rights a) to ≡ with_span (diff_of (map_rights b) (map_rights a) at) at (to - 1) (get_or b (i + 2) 0) (get_or a (j + 2) 0)
    spans_on =
        let t = turn-to in
        let e : suc (to - 1) ≡ to = omega (arith, t.above) in
        let old : (x : ℕ) → at ≤ x → x ≤ to - 1 → map_rights b x ≡ get_or b (i + 2) 0 = λ x p q. row-rights W.old h x p (omega (arith, t.first, t.above)) in
        let new : (x : ℕ) → at ≤ x → x ≤ to - 1 → map_rights a x ≡ get_or a (j + 2) 0 = λ x p q. row-rights W.new h x p (omega (arith, t.second, t.above)) in
        let here : at ≤ to - 1 = omega (arith, t.above) in
        let oo = old at (omega arith) here in
        let nn = new at (omega arith) here in
        subst (λ (k : ℕ). diff_of (map_rights b) (map_rights a) k ≡ with_span (diff_of (map_rights b) (map_rights a) at) at (to - 1) (get_or b (i + 2) 0) (get_or a (j + 2) 0)) e
        (rw (← oo, ← nn)
        (run (map_rights b) (map_rights a) at (to - 1) here (λ x p q. (old x p q ∙ sym oo, new x p q ∙ sym nn))))

    -- a turn: one span from at to before `to`, with the words of the two rows
    module _ (lb : length b ≤ map.least_room) (la : length a ≤ map.least_room) (room : least_diff_room ≤ length l₀) where
      pub turn-room : diff_row_numbers * count + diff_row_numbers ≤ length l
      turn-room = omega (arith, W.few, W.long, row-held W.old h, row-held W.new h)

      pub walked-turn : {count' : ℕ} {l' : List ℕ}
          → count' ≡ count_with l count at (get_or b (i + 2) 0) (get_or a (j + 2) 0)
          → l' ≡ numbers_with l count at (to - 1) (get_or b (i + 2) 0) (get_or a (j + 2) 0)
          → Walked b a w l₀ to (past_row b i to) (past_row a j to) count' l'
      walked-turn {count'} {l'} ec el =
          let t = turn-to in
          let rs = diff_of (map_rights b) (map_rights a) at in
          let q = get_or b (i + 2) 0 in
          let r = get_or a (j + 2) 0 in
          let p = put-joins rs l₀ l count at (to - 1) q r W.counted W.memory turn-room in
          let more : count' ≤ suc count = omega (arith, ec, p.0, size-join rs at (to - 1) q r, W.counted) in
          let passed : i + j + 3 ≤ past_row b i to + past_row a j to =
          ⊎_elim
          (λ e. omega (arith, past-row b i to (omega arith), past-least a j to))
          (λ e. omega (arith, past-row a j to (omega arith), past-least b i to))
          t.is in
          let most : count' ≤ most_diff_rows = omega (arith, W.few, row-held W.old h, row-held W.new h) in
          record {
            within = omega (arith, t.first, row_within W.old h);
            old = reached-next W.old h to t.above t.first;
            new = reached-next W.new h to t.above t.second;
            counted = rw spans_on (ec ∙ p.0);
            memory = rw spans_on (el ∙ p.1);
            long = rw (el, p.1) (filled-length (with_span rs at (to - 1) q r) l₀ (omega (arith, ec, p.0)));
            few = omega (arith, W.few);
            most = most;
          }

  -- the end: what differs below w over the front of l₀
  pub walked_end : w ≤ at → (count ≡ size_diff (diff_of (map_rights b) (map_rights a) w)) × (l ≡ filled_diff (diff_of (map_rights b) (map_rights a) w) l₀)
  walked_end h = let e : at ≡ w = omega (arith, W.within) in (rw (← e) W.counted, rw (← e) W.memory)

-- ---- how many rows there are at most

module _ (b a : List ℕ) (w : ℕ) (lb : length b ≤ map.least_room) (la : length a ≤ map.least_room) (l₀ : List ℕ) (room : least_diff_room ≤ length l₀) where
  -- the walk itself, made in as many turns
  walks : (turns at i j count : ℕ) (l : List ℕ) → w ≤ at + turns → Walked b a w l₀ at i j count l → size_diff (diff_of (map_rights b) (map_rights a) w) ≤ most_diff_rows
  walks zero at i j count l h W = let p = walked_end W (omega arith) in omega (arith, p.0, W.most)
  walks (suc turns) at i j count l h W =
      ⊎_elim
      (λ k.
      walks turns _ _ _ _ _ (omega (arith, (turn-to W k refl).above)) (walked-turn W k refl lb la room refl refl))
      (λ k. let p = walked_end W k in omega (arith, p.0, W.most))
      (below_or at w)

  pub most-rows : tiles_from 0 w b ≡ true → tiles_from 0 w a ≡ true → size_diff (diff_of (map_rights b) (map_rights a) w) ≤ most_diff_rows
  most-rows tb ta = walks w 0 0 0 0 l₀ (omega arith) (walked-begin b a w l₀ tb ta)
