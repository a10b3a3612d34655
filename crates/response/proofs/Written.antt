-- Lines for which there is room, and how long they are.
use mathlib.Core.List.{List, append-nil}
use mathlib.Core.Path.{◌≡◌, refl, sym, ◌∙◌}
use Prim.Native.Nat.{ℕ, ◌+◌, ◌*◌, ◌^◌, ◌≤◌, ◌<◌}
use native.Mathlib.Omega.{arith}
use native.Mathlib.Numerals.{add-one}
use borrow.Author.Tests.{le-leb}
use lib.ListN.{length, take, length-append, take-append-drop}
use Rattle.access.specs.Answer.{number_of, value_of}
use Rattle.access.specs.declared.answer.Answer.{Answer}
use Rattle.access.proofs.Answers.{number-most}
use Rattle.spans.specs.Rows.{Rows, none, more, size, start, end, rights, rows_in}
use Rattle.spans.proofs.Memory.{size-rows}
use Rattle.print.specs.Parts.{Wrote}
use Rattle.print.specs.Print.{answer_line, label_line, span_line}
use Rattle.print.specs.Writing.{bytes_with, place_with}
use Rattle.print.proofs.Digits.{answer-length, label-length, span-length, width-bound}
use Rattle.print.proofs.Writing.{join}
use Rattle.response.specs.Response.{answer_text, most}
use Rattle.response.specs.Sheet.{span_lines}

-- a line for which there is room is written whole
pub roomy : {out out' line : List ℕ} {at p : ℕ} → at + length line ≤ length out → p ≡ place_with out at line
    → out' ≡ bytes_with out at line → Wrote out at line out' p
unfolding place_with bytes_with
roomy {out} {out'} {line} {at} {p} h place bytes =
    let t = le-leb (at + length line) (length out) h in
    let next : p ≡ at + length line = place ∙ rw t in
    record { next = next; room = rw next h; bytes = bytes ∙ rw t }

answer-most : (a : Answer) → length (answer_line (number_of a) (value_of a)) ≤ 15
answer-most a =
    omega (arith, answer-length (number_of a) (value_of a), width-bound 0 (number_of a) (omega (arith, number-most a)))

pub answered : {out out' : List ℕ} {at p n v : ℕ} (a : Answer) → at + most ≤ length out → n ≡ number_of a → v ≡ value_of a
    → p ≡ place_with out at (answer_line n v) → out' ≡ bytes_with out at (answer_line n v) → Wrote out at (answer_text a) out' p
unfolding answer_text
answered {out} {out'} {at} {p} {n} {v} a room number value place bytes =
    roomy (omega (arith, answer-most a)) (place ∙ rw (number, value)) (bytes ∙ rw (number, value))

pub same_answer : {out out' : List ℕ} {at p : ℕ} {a b : Answer} → a ≡ b → Wrote out at (answer_text a) out' p
    → Wrote out at (answer_text b) out' p
same_answer e w = rw (← e) w

-- a label and a number of 64 bits
pub label-most : (label : List ℕ) (n : ℕ) → n < 2 ^ 64 → length (label_line label n) ≤ length label + 21
label-most label n h = omega (arith, label-length label n, width-bound 19 n (omega arith))

pub labelled : {out out' : List ℕ} {at p : ℕ} (label : List ℕ) (n : ℕ) → n < 2 ^ 64 → at + length label + 21 ≤ length out
    → p ≡ place_with out at (label_line label n) → out' ≡ bytes_with out at (label_line label n) → Wrote out at (label_line label n) out' p
labelled label n h room place bytes = roomy (omega (arith, label-most label n h)) place bytes

pub spanned : {out out' : List ℕ} {at p : ℕ} (s e q : ℕ) → at + 40 ≤ length out → p ≡ place_with out at (span_line s e q)
    → out' ≡ bytes_with out at (span_line s e q) → Wrote out at (span_line s e q) out' p
spanned s e q room place bytes = roomy (omega (arith, span-length s e q)) place bytes

-- ---- rows one after the other

pub no_rows : (out map : List ℕ) (at : ℕ) → at ≤ length out → Wrote out at (span_lines (rows_in 0 map)) out at
unfolding span_lines rows_in
no_rows out map at h =
    let none : at + 0 ≡ at = omega arith in
    record { next = sym none; room = h; bytes = rw (none, append-nil (take at out)) (sym (take-append-drop at out)) }

pub one-row : (map : List ℕ) (k : ℕ) {out out' out'' : List ℕ} {at p q : ℕ} → Wrote out at (span_lines (rows_in k map)) out' p
    → Wrote out' p (span_line (start map k) (end map k) (rights map k)) out'' q → Wrote out at (span_lines (rows_in (k + 1) map)) out'' q
unfolding span_lines rows_in
one-row map k a b = rw (add-one k) (join a b)

pub same_count : (map : List ℕ) {out out' : List ℕ} {at p k n : ℕ} → k ≡ n → Wrote out at (span_lines (rows_in k map)) out' p
    → Wrote out at (span_lines (rows_in n map)) out' p
same_count map e w = rw (← e) w

-- ---- how long the rows' lines are

pub spans-length : (rs : Rows) → length (span_lines rs) ≡ 40 * size rs
unfolding span_lines size
spans-length none = refl
spans-length (more rs s e q) =
    omega (arith, length-append (span_lines rs) (span_line s e q), span-length s e q, spans-length rs)

pub rows-length : (k : ℕ) (map : List ℕ) → length (span_lines (rows_in k map)) ≡ 40 * k
rows-length k map = omega (arith, spans-length (rows_in k map), size-rows k map)
