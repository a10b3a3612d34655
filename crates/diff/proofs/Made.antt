-- What the calls of the code that makes a result give together.
use Rattle.std.specs.Prelude.{Some, None}
use mathlib.Core.Bool.{Bool, true, false, not, ◌&&◌}
use mathlib.Core.List.{List}
use mathlib.Core.Path.{◌≡◌, refl, sym, ap, ◌∙◌}
use Prim.Native.Nat.{ℕ, ◌*◌, ◌%◌, ◌≤◌}
use lib.Dec.{leb, eqb}
use lib.ListN.{length}
use borrow.Author.Tests.{not-true, not-false, leb-true}
use Rattle.access.specs.declared.answer.Answer.TheVariants.{Done, Rejected}
use Rattle.access.specs.declared.answer.Why.TheVariants.{NoSuch, WrongLength}
use Rattle.map.specs.Fill as map
use Rattle.risaf.specs.Guards.{is_guard, shape_at, shape_of}
use Rattle.risaf.proofs.Shapes.{found}
use Rattle.risaf.specs.declared.guards.Shape.{Shape}
use Rattle.diff.specs.Diff.{diff_of}
use Rattle.diff.specs.Fill.{most_diff_rows, least_diff_room, map_sized, lengths_fit, mapped, rows_between, diff_answer, diff_used, diff_numbers}
use Rattle.diff.specs.Lent.{tiles, map_rights}
use Rattle.diff.specs.Rows.{DiffRows, diff_row_numbers, size_diff, filled_diff}
use Rattle.diff.proofs.Tests.{both}
use Rattle.diff.proofs.Walked.{most-rows}

-- the tests of lengths, and what they say
pub lengths : (b a l : List ℕ) → lengths_fit b a l ≡ true → (length b ≤ map.least_room) × (length a ≤ map.least_room) × (least_diff_room ≤ length l)
lengths b a l h =
    let p = both (leb least_diff_room (length l) && map_sized b) (map_sized a) h in
    let q = both (leb least_diff_room (length l)) (map_sized b) p.0 in
    let short : (m : List ℕ) → map_sized m ≡ true → length m ≤ map.least_room =
    λ m g. leb-true (length m) map.least_room (both (leb (length m) map.least_room) (eqb (length m % map.row_numbers) 0) g).0 in
    (short b q.1, short a p.1, leb-true least_diff_room (length l) q.0)

-- the tests of guard and maps
pub maps : (n : ℕ) (b a : List ℕ) → mapped n b a ≡ true
    → (is_guard n ≡ true) × (tiles (shape_of n).window b ≡ true) × (tiles (shape_of n).window a ≡ true)
maps n b a h =
    let p = both (is_guard n && tiles (shape_of n).window b) (tiles (shape_of n).window a) h in
    let q = both (is_guard n) (tiles (shape_of n).window b) p.0 in
    (q.0, q.1, p.1)

module _ (n : ℕ) (b a l : List ℕ) {sb sa : Bool} (eb : sb ≡ map_sized b) (ea : sa ≡ map_sized a) where
  is-sized : (leb least_diff_room (length l) && sb && sa) ≡ lengths_fit b a l
  is-sized = rw (eb, ea)

  pub wrong-length : not (leb least_diff_room (length l) && sb && sa) ≡ true
      → (Rejected WrongLength ≡ diff_answer n b a l) × ((0 ≡ diff_used n b a l) × (l ≡ diff_numbers n b a l))
  unfolding diff_answer diff_used diff_numbers
  wrong-length h =
      let s : lengths_fit b a l ≡ false = sym is-sized ∙ not-true _ h in
      rw s (refl, (refl, refl))

  module _ (h : not (leb least_diff_room (length l) && sb && sa) ≡ false) where
    right-length : lengths_fit b a l ≡ true
    right-length = sym is-sized ∙ not-false _ h

    abbrev Refuses : Type 0
    Refuses = (Rejected NoSuch ≡ diff_answer n b a l) × ((0 ≡ diff_used n b a l) × (l ≡ diff_numbers n b a l))

    no-map : mapped n b a ≡ false → Refuses
    unfolding diff_answer diff_used diff_numbers
    no-map s = rw (right-length, s) (refl, (refl, refl))

    pub no-guard : shape_at n ≡ None → Refuses
    no-guard e = no-map (rw e refl)

    module _ {shape : Shape} (ef : shape_at n ≡ Some shape) {tb ta : Bool} (fb : tb ≡ tiles shape.window b) (fa : ta ≡ tiles shape.window a) where
      es : shape ≡ shape_of n
      es = (found n ef).0

      is_mapped : (tb && ta) ≡ mapped n b a
      is_mapped = rw (fb, fa, es, (found n ef).1)

      pub no-maps : not (tb && ta) ≡ true → Refuses
      no-maps k = no-map (sym is_mapped ∙ not-true _ k)

      module _ (k : not (tb && ta) ≡ false) where
        right-maps : mapped n b a ≡ true
        right-maps = sym is_mapped ∙ not-false _ k

        -- a walk can be made
        pub walkable : (tiles shape.window b ≡ true) × (tiles shape.window a ≡ true) × (length b ≤ map.least_room) × (length a ≤ map.least_room) × (least_diff_room ≤ length l)
        walkable =
            let p = lengths b a l right-length in
            let q = maps n b a right-maps in
            (rw es q.1, rw es q.2, p.0, p.1, p.2)

        pub few : size_diff (diff_of (map_rights b) (map_rights a) shape.window) ≤ most_diff_rows
        few = let w = walkable in most-rows b a shape.window w.2 w.3 l w.4 w.0 w.1

        rows : diff_of (map_rights b) (map_rights a) shape.window ≡ rows_between n b a
        unfolding rows_between
        rows = rw es

        -- what it makes
        pub made : {count : ℕ} {l' : List ℕ} → count ≡ size_diff (diff_of (map_rights b) (map_rights a) shape.window)
            → l' ≡ filled_diff (diff_of (map_rights b) (map_rights a) shape.window) l
            → (Done 0 ≡ diff_answer n b a l) × ((diff_row_numbers * count ≡ diff_used n b a l) × (l' ≡ diff_numbers n b a l))
        unfolding diff_answer diff_used diff_numbers
        made ec el =
            rw (right-length, right-maps)
            (refl, (ap (λ (k : ℕ). diff_row_numbers * k) (ec ∙ ap size_diff rows), el ∙ ap (λ (rs : DiffRows). filled_diff rs l) rows))
