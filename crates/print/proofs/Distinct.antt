-- Different numbers have different digits, different rows different lines, and different answers too.
use mathlib.Core.Bool.{Bool, true, false}
use mathlib.Core.List.{List, ◌++◌}
use mathlib.Core.Path.{◌≡◌, refl, sym, ap, ◌∙◌}
use Prim.Native.Nat.{ℕ, zero, suc, ◌+◌, ◌*◌, ◌/◌, ◌%◌, ◌^◌, ◌≤◌, ◌<◌}
use native.Mathlib.Nat.{div-add-mod', div-lt_iff_lt-mul, mod-lt, pow-suc, pow-zero}
use native.Mathlib.Omega.{arith}
use borrow.Author.Tests.{ltb-true, ltb-false}
use lib.Dec.{ltb, lit<, lit≤}
use lib.ListN.{length, take, drop, get_or, length-append}
use lib.Seq.{take_at, drop_at}
use Rattle.print.specs.Bytes.{bytes}
use Rattle.print.specs.Print.{character, digits_of, hex_text, width_of, decimal_text, answer_line, span_line}
use Rattle.print.proofs.Digits.{digits-length, width-holds, answer-length}
use Rattle.access.specs.Answer.{number_of, value_of}
use Rattle.access.specs.declared.answer.Answer.{Answer}

-- fronts of one length are the same, and what is behind them
pub same_parts : (a a' b b' : List ℕ) → length a ≡ length a' → a ++ b ≡ a' ++ b' → (a ≡ a') × (b ≡ b')
same_parts a a' b b' l e = (
  sym (take_at a b (length a) refl) ∙ ap (take (length a)) e ∙ take_at a' b' (length a) (sym l),
  sym (drop_at a b (length a) refl) ∙ ap (drop (length a)) e ∙ drop_at a' b' (length a) (sym l),
)

character-same : (d d' : ℕ) → d < 16 → d' < 16 → character d ≡ character d' → d ≡ d'
character-same d d' h h' = go (ltb d 10) (ltb d' 10) refl refl
  where
    go : (b b' : Bool) → ltb d 10 ≡ b → ltb d' 10 ≡ b' → character d ≡ character d' → d ≡ d'
    go true true p q e = let f = rw (p, q) at e in omega (arith, f)
    go true false p q e = let f = rw (p, q) at e in absurd (omega (arith, f, ltb-true d 10 p))
    go false true p q e = let f = rw (p, q) at e in absurd (omega (arith, f, ltb-true d' 10 q))
    go false false p q e = let f = rw (p, q) at e in omega (arith, f, ltb-false d 10 p, ltb-false d' 10 q)

module _ (base : ℕ) (low : 0 < base) (high : base ≤ 16) where
  -- a number that as many digits hold is told by them
  pub digits_same : (k n n' : ℕ) → n < base ^ k → n' < base ^ k → digits_of base k n ≡ digits_of base k n' → n ≡ n'
  unfolding digits_of
  digits_same zero n n' h h' e = omega (arith, pow-zero base)
  digits_same (suc k) n n' h h' e =
      let q : n < base ^ k * base = rw (← pow-suc base k) h in
      let q' : n' < base ^ k * base = rw (← pow-suc base k) h' in
      let p =
      same_parts (digits_of base k (n / base)) (digits_of base k (n' / base)) _ _
      (digits-length base k (n / base) ∙ sym (digits-length base k (n' / base))) e in
      let quotient : n / base ≡ n' / base =
      digits_same k (n / base) (n' / base) ((div-lt_iff_lt-mul low).1 q) ((div-lt_iff_lt-mul low).1 q') p.0 in
      let r = mod-lt n low in
      let r' = mod-lt n' low in
      let rest : n % base ≡ n' % base =
      character-same (n % base) (n' % base) (omega arith) (omega arith) (ap (λ (l : List ℕ). get_or l 0 0) p.1) in
      let both : n / base * base + n % base ≡ n' / base * base + n' % base = rw (quotient, rest) in
      sym (div-add-mod' n base) ∙ both ∙ div-add-mod' n' base

-- the k digits of a number, and a byte behind them
ended_same : (k n n' : ℕ) (end : List ℕ) → n < 16 ^ k → n' < 16 ^ k → hex_text k n ++ end ≡ hex_text k n' ++ end → n ≡ n'
ended_same k n n' end h h' e =
    digits_same 16 (lit< tt) (lit≤ tt) k n n' h h'
    (same_parts (hex_text k n) (hex_text k n') end end (digits-length 16 k n ∙ sym (digits-length 16 k n')) e).0

-- a span's line tells its three numbers
pub span_same : (s s' e e' q q' : ℕ) → s < 2 ^ 32 → s' < 2 ^ 32 → e < 2 ^ 32 → e' < 2 ^ 32 → q < 2 ^ 64 → q' < 2 ^ 64
    → span_line s e q ≡ span_line s' e' q' → (s ≡ s') × (e ≡ e') × (q ≡ q')
unfolding span_line
span_same s s' e e' q q' hs hs' he he' hq hq' line =
    let label = bytes "span\t" in
    let tab = bytes "\t" in
    let first : ℕ → List ℕ = λ n. label ++ (hex_text 8 n ++ tab) in
    let ls = digits-length 16 8 s in
    let ls' = digits-length 16 8 s' in
    let rights = same_parts (first s ++ (hex_text 8 e ++ tab)) (first s' ++ (hex_text 8 e' ++ tab)) _ _ (simp (length-append, ls, ls', digits-length 16 8 e, digits-length 16 8 e')) line in
    let ends = same_parts (first s) (first s') _ _ (simp (length-append, ls, ls')) rights.0 in
    let starts = same_parts label label _ _ refl ends.0 in
    (ended_same 8 s s' tab hs hs' starts.1, ended_same 8 e e' tab he he' ends.1, ended_same 16 q q' (bytes "\n") hq hq' rights.1)

-- an answer's line tells its number, whatever it is, and its value
pub answer-same : (n n' v v' : ℕ) → v < 2 ^ 32 → v' < 2 ^ 32 → answer_line n v ≡ answer_line n' v' → (n ≡ n') × (v ≡ v')
unfolding answer_line decimal_text
answer-same n n' v v' hv hv' line =
    let label = bytes "ans\t" in
    let tab = bytes "\t" in
    let front : ℕ → List ℕ = λ n. label ++ (digits_of 10 (width_of n) n ++ tab) in
    let w : width_of n ≡ width_of n' = omega (arith, answer-length n v, answer-length n' v', ap length line) in
    let d = digits-length 10 (width_of n) n in
    let d' = digits-length 10 (width_of n') n' ∙ sym w in
    let values = same_parts (front n) (front n') _ _ (simp (length-append, d, d')) line in
    let numbers = (same_parts label label _ _ refl values.0).1 in
    let digits = (same_parts (digits_of 10 (width_of n) n) (digits_of 10 (width_of n') n') tab tab (d ∙ sym d') numbers).0 in
    let few : n' < 10 ^ width_of n = rw w (width-holds n') in (
      digits_same 10 (lit< tt) (lit≤ tt) (width_of n) n n' (width-holds n) few (digits ∙ rw w),
      ended_same 8 v v' (bytes "\n") hv hv' values.1,
    )

-- two answers that print the same line have one number and one value
pub answers-same : (a b : Answer) → value_of a < 2 ^ 32 → value_of b < 2 ^ 32
    → answer_line (number_of a) (value_of a) ≡ answer_line (number_of b) (value_of b) → (number_of a ≡ number_of b) × (value_of a ≡ value_of b)
answers-same a b h h' line = answer-same (number_of a) (number_of b) (value_of a) (value_of b) h h' line
