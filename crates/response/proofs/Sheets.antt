-- A sheet's lines one after the other, and which of a map's two texts it is.
use mathlib.Core.Bool.{Bool, true, false, ◌&&◌, cond}
use mathlib.Core.List.{List, [], append-nil}
use mathlib.Core.Path.{◌≡◌, refl, sym, ap, ◌∙◌}
use Prim.Native.Nat.{ℕ, ◌+◌, ◌*◌, ◌/◌, ◌^◌, ◌≤◌, ◌<◌}
use native.Mathlib.Omega.{arith}
use borrow.Author.Tests.{eqb-true, le-leb}
use lib.Dec.{leb}
use Rattle.access.specs.declared.answer.Answer.TheVariants.{Done, Rejected}
use Rattle.access.specs.declared.answer.Why.TheVariants.{NoSuch, WrongLength}
use lib.ListN.{length}
use Rattle.access.specs.Answer.{number_of}
use Rattle.access.specs.declared.answer.Answer.{Answer}
use Rattle.risaf.specs.Guards.{is_guard}
use Rattle.spans.specs.Rows.{flat, size, rows_in}
use Rattle.spans.proofs.Memory.{length-flat, size-rows, rows-flat}
use Rattle.device.specs.Applied.{sized}
use Rattle.device.specs.Layout.{state_of, state_words}
use Rattle.map.specs.Fill.{fill_answer, fill_used, fill_numbers, least_room, most_rows, row_numbers}
use Rattle.map.specs.Map.{rows_of}
use Rattle.map.specs.Part.{used_part}
use Rattle.map.proofs.Used.{used-is-map}
use Rattle.map.proofs.Steady.{guard-rows-most}
use Rattle.print.specs.Bytes.{bytes}
use Rattle.print.specs.Parts.{Wrote}
use Rattle.print.specs.Print.{guard_line, end_line}
use Rattle.print.specs.Writing.{bytes_with, place_with}
use Rattle.print.proofs.Writing.{join}
use Rattle.response.specs.Response.{answer_text, map_text}
use Rattle.response.specs.Sheet.{sheet, span_lines}
use Rattle.response.proofs.Written.{label-most, labelled}

pub guard-line : {out out' : List ℕ} {at p : ℕ} (n : ℕ) → n < 2 ^ 32 → at + 27 ≤ length out → p ≡ place_with out at (guard_line n)
    → out' ≡ bytes_with out at (guard_line n) → Wrote out at (guard_line n) out' p
guard-line n few room place text = labelled (bytes "guard\t") n (omega arith) (omega arith) place text

pub guard-most : (n : ℕ) → n < 2 ^ 32 → length (guard_line n) ≤ 27
guard-most n few = label-most (bytes "guard\t") n (omega arith)

pub end-line : {out out' : List ℕ} {at p : ℕ} (n : ℕ) → n ≤ most_rows → at + 25 ≤ length out → p ≡ place_with out at (end_line n)
    → out' ≡ bytes_with out at (end_line n) → Wrote out at (end_line n) out' p
end-line n few room place text = labelled (bytes "end\t") n (omega arith) (omega arith) place text

pub sheet-lines : {out out₁ out₂ out₃ : List ℕ} {at p q r : ℕ} (n k : ℕ) (map : List ℕ) → Wrote out at (guard_line n) out₁ p
    → Wrote out₁ p (span_lines (rows_in k map)) out₂ q → Wrote out₂ q (end_line k) out₃ r
    → Wrote out at (sheet n (rows_in k map)) out₃ r
unfolding sheet
sheet-lines n k map a b c = rw (size-rows k map) (join (join a b) c)

-- ---- a map's text by the answer of filling

module _ (m l : List ℕ) (n : ℕ) (long : length l ≡ least_room) where
  enough : leb least_room (length l) ≡ true
  enough = le-leb least_room (length l) (omega (arith, long))

  refused-text : (number_of (fill_answer m n l) ≡ 0 → ⊥) → answer_text (fill_answer m n l) ≡ map_text m n
  unfolding fill_answer map_text
  refused-text = rw enough (go (sized m) (is_guard n))
    where
      go : (s g : Bool) → (number_of (cond (s && true) (cond g (Done 0) (Rejected NoSuch)) (Rejected WrongLength)) ≡ 0 → ⊥)
          → answer_text (cond (s && true) (cond g (Done 0) (Rejected NoSuch)) (Rejected WrongLength))
          ≡ cond s (cond g (sheet n (rows_of (state_of m) n)) (answer_text (Rejected NoSuch))) (answer_text (Rejected WrongLength))
      go true true h = absurd (h refl)
      go true false h = refl
      go false g h = refl

  module _ (done : number_of (fill_answer m n l) ≡ 0) where
    whole : (sized m ≡ true) × (is_guard n ≡ true)
    unfolding fill_answer
    whole = go (sized m) (is_guard n) refl refl (simp enough at done)
      where
        go : (s g : Bool) → sized m ≡ s → is_guard n ≡ g
            → number_of (cond (s && true) (cond g (Done 0) (Rejected NoSuch)) (Rejected WrongLength)) ≡ 0
            → (sized m ≡ true) × (is_guard n ≡ true)
        go true true p q h = (p, q)
        go true false p q h = absurd (omega (arith, h))
        go false g p q h = absurd (omega (arith, h))

    -- the part that is printed is the map
    part-is-map : used_part (fill_numbers m n l) (fill_used m n l) ≡ flat (rows_of (state_of m) n)
    part-is-map = used-is-map m n l (eqb-true (length m) state_words whole.0) (omega (arith, long)) whole.1

    part_length : length (used_part (fill_numbers m n l) (fill_used m n l)) ≡ row_numbers * size (rows_of (state_of m) n)
    part_length = rw part-is-map (length-flat (rows_of (state_of m) n))

    part-text : sheet n (rows_in (length (used_part (fill_numbers m n l) (fill_used m n l)) / row_numbers) (used_part (fill_numbers m n l) (fill_used m n l)))
        ≡ map_text m n
    unfolding map_text
    part-text =
        let rs = rows_of (state_of m) n in
        let k : length (used_part (fill_numbers m n l) (fill_used m n l)) / row_numbers ≡ size rs = omega (arith, part_length) in
        rw (whole.0, whole.1, k, part-is-map, ← append-nil (flat rs), rows-flat rs [])

-- the facts that the code has: what filling gives, the answer's number, and the used part
module _ (m l : List ℕ) (n : ℕ) (long : length l ≡ least_room) {a : Answer} {number : ℕ} (answer : a ≡ fill_answer m n l) (its : number ≡ number_of a) where
  pub refused-map : {out out' : List ℕ} {at p : ℕ} → (number ≡ 0 → ⊥) → Wrote out at (answer_text a) out' p → Wrote out at (map_text m n) out' p
  refused-map not w =
      rw (← refused-text m l n long (λ z. not (its ∙ ap number_of answer ∙ z)), ← answer) w

  module _ {part l' : List ℕ} {used : ℕ} (zero : number ≡ 0) (l'-is : l' ≡ fill_numbers m n l) (used-is : used ≡ fill_used m n l)
      (part-is : part ≡ used_part l' used) where
    is-done : number_of (fill_answer m n l) ≡ 0
    is-done = sym (ap number_of answer) ∙ sym its ∙ zero

    is-part : part ≡ used_part (fill_numbers m n l) (fill_used m n l)
    is-part = part-is ∙ rw (l'-is, used-is)

    pub made-few : length part ≤ least_room
    made-few = rw is-part (omega (arith, part_length m l n long is-done, guard-rows-most (state_of m) n))

    pub made-map : {out out' : List ℕ} {at p : ℕ} → Wrote out at (sheet n (rows_in (length part / row_numbers) part)) out' p
        → Wrote out at (map_text m n) out' p
    made-map w = rw (← part-text m l n long is-done, ← is-part) w
