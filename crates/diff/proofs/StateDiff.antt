-- What differs between the maps of two states, over the rules by which `step` answers.
use mathlib.Core.Bool.{true}
use mathlib.Core.List.{List}
use mathlib.Core.Logic.{◌↔◌, ◌≢◌, ⊎_elim}
use mathlib.Core.Path.{◌≡◌, refl, sym, ap, ◌∙◌}
use Prim.Native.Nat.{ℕ, zero, suc, ◌/◌, ◌%◌, ◌≤◌, ◌<◌}
use native.Mathlib.Omega.{arith}
use lib.ListN.{length}
use borrow.Author.Tests.{eq-eqb, le-leb}
use Rattle.words.specs.Bit.{bit}
use Rattle.access.specs.Kind.{rights_bit}
use Rattle.access.specs.declared.kind.Kind.{Kind}
use Rattle.risaf.specs.Guards.{is_guard, shape_of}
use Rattle.risaf.specs.Memory.{is_width}
use Rattle.device.specs.State.{State}
use Rattle.map.specs.Demand.{grants_at}
use Rattle.map.specs.Fill as map
use Rattle.map.specs.Map.{rights_of, rows_of}
use Rattle.map.proofs.Found.{finds-own}
use Rattle.map.proofs.Grants.{bit-grants}
use Rattle.map.proofs.Steady.{guard-rows-most}
use Rattle.spans.specs.Rows as spans
use Rattle.spans.proofs.Canonical.{canonical-flat}
use Rattle.spans.proofs.Maps.{map-is-map}
use Rattle.spans.proofs.Memory as spans-memory
use Rattle.spans.proofs.Order.{equal-or}
use Rattle.diff.specs.Demand.{sheet, Shows, IsGuardDiff}
use Rattle.diff.specs.Diff.{IsDiff, diff_of}
use Rattle.diff.specs.Fill as diff
use Rattle.diff.specs.Lent.{tiles, map_rights}
use Rattle.diff.specs.Rows.{diff_row_numbers, size_diff}
use Rattle.diff.proofs.Joined.{diff-cong}
use Rattle.diff.proofs.MapTiles.{tiles-are}
use Rattle.diff.proofs.Results.{diff-in-memory}
use Rattle.diff.proofs.Used.{used-rows, numbers-filled, rows_few}

-- ---- a map as made is taken

module _ (s : State) (n : ℕ) where
  pub made-tiles : tiles (shape_of n).window (sheet s n) ≡ true
  unfolding rows_of
  made-tiles =
      let l = spans-memory.length-flat (rows_of s n) in
      let e : length (sheet s n) / 3 ≡ spans.size (rows_of s n) = omega arith in
      (tiles-are (shape_of n).window (sheet s n)).1
      (rw e (map-is-map (rights_of s n) (shape_of n).window).tiles, omega arith)

  made-sized : diff.map_sized (sheet s n) ≡ true
  made-sized =
      let l = spans-memory.length-flat (rows_of s n) in
      let m = guard-rows-most s n in
      simp (le-leb (length (sheet s n)) map.least_room (omega arith), eq-eqb (length (sheet s n) % map.row_numbers) 0 (omega arith))

  -- its rights are the guard's
  made-rights : (x : ℕ) → x < (shape_of n).window → map_rights (sheet s n) x ≡ rights_of s n x
  unfolding map_rights
  made-rights x h = rw (finds-own s n x h).row

module _ (s t : State) (n : ℕ) (h : is_guard n ≡ true) where
  module _ (l : List ℕ) (room : diff.least_diff_room ≤ length l) where
    pub made-taken : diff.taken n (sheet s n) (sheet t n) l ≡ true
    made-taken = simp (le-leb diff.least_diff_room (length l) room, made-sized s n, made-sized t n, h, made-tiles s n, made-tiles t n)

  state-rows : diff.rows_between n (sheet s n) (sheet t n) ≡ diff_of (rights_of s n) (rights_of t n) (shape_of n).window
  unfolding diff.rows_between
  state-rows = diff-cong _ _ _ _ (shape_of n).window (λ x l. (made-rights s n x l, made-rights t n x l))

  -- ---- any result of the two functions, over the rules

  module _ {count : ℕ} {m : List ℕ} (I : IsDiff (rights_of s n) (rights_of t n) (shape_of n).window count m) where
    module _ (x width : ℕ) (k : Kind) (hx : x < (shape_of n).window) (hw : is_width width ≡ true) (ha : x % width ≡ 0) (hc : k.cid.0 ≤ 7) where
      old-grants : bit (rights_of s n x) (rights_bit k) ≡ grants_at s n x width k
      old-grants = bit-grants s n x h hx width hw ha k hc

      new-grants : bit (rights_of t n x) (rights_bit k) ≡ grants_at t n x width k
      new-grants = bit-grants t n x h hx width hw ha k hc

      shown : (grants_at s n x width k ≢ grants_at t n x width k) ↔ Shows count m x (rights_bit k)
      shown = (
        (λ d.
            let p = I.every x hx (λ e. d (sym old-grants ∙ ap (λ (q : ℕ). bit q (rights_bit k)) e ∙ new-grants)) in
            let q = I.words p.row x p.held p.low p.high in
            record {
              at = p;
              apart =
                  λ e.
                  d
                  (sym old-grants ∙ ap (λ (q : ℕ). bit q (rights_bit k)) (sym q.0) ∙ e ∙ ap (λ (q : ℕ). bit q (rights_bit k)) q.1
                  ∙ new-grants);
            }),
        (λ r e.
            let p = r.at in
            let q = I.words p.row x p.held p.low p.high in
            r.apart
            (ap (λ (q : ℕ). bit q (rights_bit k)) q.0 ∙ old-grants ∙ e ∙ sym new-grants
            ∙ ap (λ (q : ℕ). bit q (rights_bit k)) (sym q.1))),
      )

    empty-same : (count ≡ 0) ↔ (sheet s n ≡ sheet t n)
    unfolding rows_of
    empty-same =
        let c = canonical-flat (rights_of s n) (rights_of t n) (shape_of n).window in (
          (λ e. c.1 (λ x l. ⊎_elim (λ p. p) (λ p. absurd (omega (arith, (I.every x l p).held))) (equal-or (rights_of s n x) (rights_of t n x)))),
          (λ e. none count I (c.0 e)),
        )
      where
        none : (k : ℕ) → IsDiff (rights_of s n) (rights_of t n) (shape_of n).window k m → ((x : ℕ) → x < (shape_of n).window → rights_of s n x ≡ rights_of t n x) → k ≡ 0
        none zero J same = refl
        none (suc k) J same =
            absurd (J.apart 0 _ (omega arith) (omega arith) (J.order 0 (omega arith)) (same _ (omega (arith, J.order 0 (omega arith), J.within 0 (omega arith)))))

  -- what `fill` leaves of the maps of two states, whatever the lent numbers were
  pub fill-of-states : (l : List ℕ) → diff.least_diff_room ≤ length l
      → IsGuardDiff s t n (diff.diff_used n (sheet s n) (sheet t n) l / diff_row_numbers)
      (diff.diff_numbers n (sheet s n) (sheet t n) l)
  fill-of-states l room =
      let b = sheet s n in
      let a = sheet t n in
      let d = made-taken l room in
      let e : diff.diff_used n b a l / diff_row_numbers ≡ size_diff (diff.rows_between n b a) = omega (arith, used-rows n b a l d) in
      let I : IsDiff (rights_of s n) (rights_of t n) (shape_of n).window (diff.diff_used n b a l / diff_row_numbers) (diff.diff_numbers n b a l) =
      rw (e, numbers-filled n b a l d, state-rows) (diff-in-memory (rights_of s n) (rights_of t n) (shape_of n).window l) in
      record {
        rows = I;
        shows = λ x width k hx hw ha hc. shown I x width k hx hw ha hc;
        same = empty-same I;
        most = omega (arith, rows_few n b a l d);
      }
