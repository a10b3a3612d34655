-- The mission's sentence, of what is printed: two configurations print the same sheet exactly when every access is granted by both or
-- by neither.
use mathlib.Core.Bool.{Bool, true, false, cond}
use mathlib.Core.List.{List, ◌++◌}
use mathlib.Core.Logic.{◌↔◌}
use mathlib.Core.Path.{◌≡◌, refl, sym, ap, ◌∙◌}
use Prim.Native.Nat.{ℕ, zero, suc, ◌+◌, ◌*◌, ◌^◌, ◌≤◌, ◌<◌}
use native.Mathlib.Omega.{arith}
use borrow.Author.Tests.{eq-eqb}
use lib.Dec.{eqb}
use lib.ListN.{length, length-append}
use Rattle.words.proofs.Laws.{word_lt}
use Rattle.access.specs.Kind.{kind_of}
use Rattle.regions.specs.Rights.{rights_word}
use Rattle.regions.specs.Rules.{decided, granted}
use Rattle.risaf.specs.Guards.{is_guard, shape_of}
use Rattle.spans.specs.Map.{join, map_of}
use Rattle.spans.specs.Rows.{Rows, none, more, size, flat}
use Rattle.spans.proofs.Memory.{flat-same}
use Rattle.device.specs.Layout.{state_of, state_words}
use Rattle.device.specs.State.{State, guard_of}
use Rattle.map.specs.Fill.{most_rows}
use Rattle.map.specs.Map.{rights_of, rows_of}
use Rattle.map.specs.Sheets.{SameGrants}
use Rattle.map.proofs.Guards.{small}
use Rattle.map.proofs.Sheets.{sheets}
use Rattle.map.proofs.Steady.{guard-rows-most}
use Rattle.print.specs.Bytes.{bytes}
use Rattle.print.specs.Print.{guard_line, end_line}
use Rattle.print.proofs.Digits.{label-length, width-bound}
use Rattle.print.proofs.Distinct.{same_parts, span_same}
use Rattle.response.specs.Response.{map_text}
use Rattle.response.specs.Sheet.{sheet, span_lines}
use Rattle.response.proofs.Written.{spans-length}

-- ---- rows whose numbers a line holds

unfoldable pub Small : Rows → Type 0
Small none = Unit
Small (more rs s e q) = Small rs × (s < 2 ^ 32) × (e < 2 ^ 32) × (q < 2 ^ 64)

small-join : (rs : Rows) (x q : ℕ) → Small rs → x < 2 ^ 32 → q < 2 ^ 64 → Small (join rs x x q)
unfolding Small join
small-join none x q h hx hq = (tt, hx, hx, hq)
small-join (more rs s e p) x q h hx hq = go (eqb p q)
  where
    go : (b : Bool) → Small (cond b (more rs s x p) (more (more rs s e p) x x q))
    go true = (h.0, h.1, hx, h.3)
    go false = (h, hx, hx, hq)

small-map : (f : ℕ → ℕ) → ((x : ℕ) → f x < 2 ^ 64) → (w : ℕ) → w ≤ 2 ^ 32 → Small (map_of f w)
unfolding Small map_of
small-map f h zero l = tt
small-map f h (suc x) l = small-join (map_of f x) x (f x) (small-map f h x (omega arith)) (omega arith) (h x)

rights-few : (s : State) (n o : ℕ) → rights_of s n o < 2 ^ 64
unfolding rights_of rights_word
rights-few s n o = word_lt 64 (λ b. granted (decided (shape_of n).bus (guard_of s n).regions (shape_of n).regions o (kind_of b)))

small-rows : (s : State) (n : ℕ) → Small (rows_of s n)
unfolding rows_of
small-rows s n = small-map (rights_of s n) (rights-few s n) (shape_of n).window (small n).1

-- ---- what is printed tells the rows

spans-same : (rs rs' : Rows) → Small rs → Small rs' → size rs ≡ size rs' → span_lines rs ≡ span_lines rs' → rs ≡ rs'
unfolding Small size span_lines
spans-same none none h h' n e = refl
spans-same none (more rs' s' e' q') h h' n l = absurd (omega (arith, n))
spans-same (more rs s e q) none h h' n l = absurd (omega (arith, n))
spans-same (more rs s e q) (more rs' s' e' q') h h' n l =
    let m : size rs ≡ size rs' = omega (arith, n) in
    let p = same_parts (span_lines rs) (span_lines rs') _ _ (spans-length rs ∙ ap (λ (k : ℕ). 40 * k) m ∙ sym (spans-length rs')) l in
    let row = span_same s s' e e' q q' h.1 h'.1 h.2 h'.2 h.3 h'.3 p.1 in
    rw (spans-same rs rs' h.0 h'.0 m p.0, row.0, row.1, row.2)

end-most : (k : ℕ) → k ≤ most_rows → length (end_line k) ≤ 7
end-most k h = omega (arith, label-length (bytes "end\t") k, width-bound 1 k (omega arith))

sheet-same : (n : ℕ) (rs rs' : Rows) → Small rs → Small rs' → size rs ≤ most_rows → size rs' ≤ most_rows → sheet n rs ≡ sheet n rs' → rs ≡ rs'
unfolding sheet
sheet-same n rs rs' h h' few few' e =
    let k : length (guard_line n ++ span_lines rs) ≡ length (guard_line n) + 40 * size rs =
    length-append (guard_line n) (span_lines rs) ∙ rw (spans-length rs) in
    let k' : length (guard_line n ++ span_lines rs') ≡ length (guard_line n) + 40 * size rs' =
    length-append (guard_line n) (span_lines rs') ∙ rw (spans-length rs') in
    let count : size rs ≡ size rs' =
    omega (
      arith,
      k,
      k',
      ap length e,
      length-append (guard_line n ++ span_lines rs) (end_line (size rs)),
      length-append (guard_line n ++ span_lines rs') (end_line (size rs')),
      end-most (size rs) few,
      end-most (size rs') few',
    ) in
    let lines = (same_parts (guard_line n ++ span_lines rs) (guard_line n ++ span_lines rs') _ _ (k ∙ rw count (sym k')) e).0 in
    spans-same rs rs' h h' count (same_parts (guard_line n) (guard_line n) _ _ refl lines).1

-- ---- two states, and two lent memories

pub same-sheet : (s t : State) (n : ℕ) → is_guard n ≡ true → (sheet n (rows_of s n) ≡ sheet n (rows_of t n)) ↔ SameGrants s t n
same-sheet s t n h =
    let c = sheets s t n h in (
      (λ e. c.0 (ap flat (sheet-same n _ _ (small-rows s n) (small-rows t n) (guard-rows-most s n) (guard-rows-most t n) e))),
      (λ same. ap (sheet n) (flat-same _ _ (c.1 same))),
    )

pub same_text : (m m' : List ℕ) (n : ℕ) → length m ≡ state_words → length m' ≡ state_words → is_guard n ≡ true
    → (map_text m n ≡ map_text m' n) ↔ SameGrants (state_of m) (state_of m') n
unfolding map_text
same_text m m' n l l' h =
    rw (eq-eqb (length m) state_words l, eq-eqb (length m') state_words l', h) (same-sheet (state_of m) (state_of m') n h)
