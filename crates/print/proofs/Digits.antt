-- A number's digits, written from the last to the first, and how many there are.
use mathlib.Core.Bool.{Bool, true, false}
use mathlib.Core.List.{List, [], ◌∷◌, ◌++◌, append_assoc, append-nil}
use mathlib.Core.Path.{◌≡◌, refl, sym, ap, ◌∙◌}
use Prim.Native.Nat.{ℕ, zero, suc, ◌+◌, ◌-◌, ◌*◌, ◌/◌, ◌%◌, ◌^◌, ◌≤◌, ◌<◌}
use native.Mathlib.Nat.{add-zero, pow-suc}
use native.Mathlib.Decide.{dec_lt}
use native.Mathlib.Omega.{arith}
use borrow.Author.Tests.{lt-ltb, le-ltb, ltb-true, ltb-false}
use lib.Dec.{ltb}
use lib.ListN.{length, take, drop, set, length-append, length-set, take-append-drop}
use lib.Seq.{take-set-le, drop-set-lt, drop-cons, get_or-set_same, append_snoc}
use Rattle.print.specs.Parts.{Wrote}
use Rattle.print.specs.Print.{character, digits_of, width_in, width_of, decimal_text, answer_line, span_line, diff_line, label_line}
use Rattle.print.proofs.Writing.{join, one}

pub digits-length : (base k n : ℕ) → length (digits_of base k n) ≡ k
unfolding digits_of
digits-length base zero n = refl
digits-length base (suc k) n = simp (length-append, digits-length base k (n / base)) (omega arith)

-- the code's decimal digit
pub decimal-is : (n : ℕ) → 48 + n % 10 ≡ character (n % 10)
decimal-is n = rw (lt-ltb (n % 10) 10 (omega arith))

-- the code's hexadecimal digit, which takes no branch
pub character-is : (d : ℕ) → d < 16 → 48 + d + 39 * ((d + 6) / 16) ≡ character d
character-is d h = by (dec_lt d 10)
  where
    by : Dec (d < 10) → 48 + d + 39 * ((d + 6) / 16) ≡ character d
    by (yes l) = rw (lt-ltb d 10 l) (omega arith)
    by (no l) = rw (le-ltb d 10 (omega arith)) (omega arith)

-- ---- writing

-- out with the digits x in the place of its k bytes from `at` on
abbrev around : List ℕ → ℕ → List ℕ → ℕ → List ℕ
around out at x k = take at out ++ x ++ drop (at + k) out

drop-set : (l : List ℕ) (i v : ℕ) → i < length l → drop i (set l i v) ≡ v ∷ drop (suc i) l
drop-set l i v h =
    let m : i < length (set l i v) = rw length-set h in
    drop-cons (set l i v) i 0 m ∙ rw (get_or-set_same l i v 0 h, drop-set-lt (suc i) l i v (omega arith))

-- one digit written, the others left
around-step : (base : ℕ) (out : List ℕ) (at k m : ℕ) → 0 < k → at + k ≤ length out
    → around (set out (at + (k - 1)) (character (m % base))) at (digits_of base (k - 1) (m / base)) (k - 1)
    ≡ around out at (digits_of base k m) k
unfolding digits_of
around-step base out at zero m p h = absurd (omega arith)
around-step base out at (suc k) m p h =
    let e : suc k - 1 ≡ k = omega arith in
    let s : suc (at + k) ≡ at + suc k = omega arith in
    let c = character (m % base) in
    let x = digits_of base k (m / base) in
    rw (e, take-set-le at out (at + k) c (omega arith), drop-set out (at + k) c (omega arith), s)
    (sym
    (ap (λ (l : List ℕ). l ++ drop (at + suc k) out) (sym (append_assoc (take at out) x (c ∷ [])))
    ∙ append_snoc (take at out ++ x) c (drop (at + suc k) out)))

-- of the count digits of n that were to be written, the k digits of m are left
pub record Left (base : ℕ) (out : List ℕ) (at n count : ℕ) (out' : List ℕ) (m k : ℕ) : Type 0 where
  pub few : k ≤ count
  pub long : length out' ≡ length out
  pub rest : around out' at (digits_of base k m) k ≡ around out at (digits_of base count n) count

pub all_left : (base : ℕ) (out : List ℕ) (at n count : ℕ) → Left base out at n count out n count
all_left base out at n count = record { few = omega arith; long = refl; rest = refl }

pub one_less : {base : ℕ} {out : List ℕ} {at n count : ℕ} {out' : List ℕ} {m k c : ℕ} → Left base out at n count out' m k
    → at + count < length out → 0 < k → c ≡ character (m % base)
    → Left base out at n count (set out' (at + (k - 1)) c) (m / base) (k - 1)
one_less {base} {out} {at} {n} {count} {out'} {m} {k} {c} l h p e =
    let f = l.few in
    let g = l.long in
    record {
      few = omega arith;
      long = length-set out' (at + (k - 1)) c ∙ g;
      rest = rw e (around-step base out' at k m p (omega arith)) ∙ l.rest;
    }

-- none left, and the byte that ends them written
pub none_left : {base : ℕ} {out : List ℕ} {at n count : ℕ} {out' : List ℕ} {m k : ℕ} (b : ℕ) → Left base out at n count out' m k
    → at + count < length out → k ≤ 0
    → Wrote out at (digits_of base count n ++ (b ∷ [])) (set out' (at + count) b) (at + count + 1)
unfolding digits_of
none_left {base} {out} {at} {n} {count} {out'} {m} {k} b l h z =
    let d : length (digits_of base count n) ≡ count = digits-length base count n in
    let g = l.long in
    let e : k ≡ 0 = omega arith in
    let none : around out' at [] 0 ≡ out' = rw (add-zero, append-nil) (take-append-drop at out') in
    let w : Wrote out at (digits_of base count n) out' (at + count) =
    record { next = omega arith; room = omega arith; bytes = sym none ∙ (rw e at l.rest) ∙ rw d } in
    join w (one out' (at + count) b (omega arith))

-- ---- how many

found-one : (steps n : ℕ) → n < 10 → width_in steps n ≡ 1
unfolding width_in
found-one zero n h = refl
found-one (suc steps) n h = rw (lt-ltb n 10 h)

found-more : (steps n : ℕ) → 10 ≤ n → width_in (suc steps) n ≡ suc (width_in steps (n / 10))
unfolding width_in
found-more steps n h = rw (le-ltb n 10 h)

-- any number of steps from n on finds the same
enough : (s t n : ℕ) → n ≤ s → n ≤ t → width_in s n ≡ width_in t n
enough zero t n h h' = found-one 0 n (omega arith) ∙ sym (found-one t n (omega arith))
enough (suc s) zero n h h' = found-one (suc s) n (omega arith) ∙ sym (found-one 0 n (omega arith))
enough (suc s) (suc t) n h h' = go (ltb n 10) refl (enough s t (n / 10) (omega arith) (omega arith))
  where
    go : (b : Bool) → ltb n 10 ≡ b → width_in s (n / 10) ≡ width_in t (n / 10) → width_in (suc s) n ≡ width_in (suc t) n
    go true e r = found-one (suc s) n (ltb-true n 10 e) ∙ sym (found-one (suc t) n (ltb-true n 10 e))
    go false e r =
        found-more s n (ltb-false n 10 e) ∙ ap suc r ∙ sym (found-more t n (ltb-false n 10 e))

pub width_one : (n : ℕ) → n < 10 → width_of n ≡ 1
unfolding width_of
width_one n h = found-one n n h

pub width-more : (n : ℕ) → 10 ≤ n → width_of n ≡ suc (width_of (n / 10))
unfolding width_of
width-more zero h = absurd (omega arith)
width-more (suc n) h = found-more n (suc n) h ∙ ap suc (enough n (suc n / 10) (suc n / 10) (omega arith) (omega arith))

pub width-bound : (k n : ℕ) → n < 10 ^ suc k → width_of n ≤ suc k
width-bound zero n h = omega (arith, width_one n h)
width-bound (suc k) n h = go (ltb n 10) refl (width-bound k (n / 10) (omega (arith, pow-suc 10 (suc k))))
  where
    go : (b : Bool) → ltb n 10 ≡ b → width_of (n / 10) ≤ suc k → width_of n ≤ suc (suc k)
    go true e r = omega (arith, width_one n (ltb-true n 10 e))
    go false e r = omega (arith, width-more n (ltb-false n 10 e))

-- as many digits hold it
pub width-holds : (n : ℕ) → n < 10 ^ width_of n
width-holds n = within n n (omega arith)
  where
    within : (s n : ℕ) → n ≤ s → n < 10 ^ width_of n
    within zero n h = rw (width_one n (omega arith)) (omega arith)
    within (suc s) n h = go (ltb n 10) refl (within s (n / 10) (omega arith))
      where
        go : (b : Bool) → ltb n 10 ≡ b → n / 10 < 10 ^ width_of (n / 10) → n < 10 ^ width_of n
        go true e r =
            let l = ltb-true n 10 e in
            rw (width_one n l) l
        go false e r = rw (width-more n (ltb-false n 10 e), pow-suc 10 (width_of (n / 10))) (omega arith)

-- ---- how long a line is

pub answer-length : (number value : ℕ) → length (answer_line number value) ≡ width_of number + 14
unfolding answer_line decimal_text
answer-length number value =
    simp (length-append, digits-length 10 (width_of number) number, digits-length 16 8 value) (omega arith)

pub span-length : (start end rights : ℕ) → length (span_line start end rights) ≡ 40
unfolding span_line
span-length start end rights =
    simp (length-append, digits-length 16 8 start, digits-length 16 8 end, digits-length 16 16 rights)

pub diff-length : (start end old new count : ℕ) → length (diff_line start end old new count) ≡ width_of count + 58
unfolding diff_line decimal_text
diff-length start end old new count =
    simp (length-append, digits-length 16 8 start, digits-length 16 8 end, digits-length 16 16 old, digits-length 16 16 new, digits-length 10 (width_of count) count)
    (omega arith)

pub label-length : (label : List ℕ) (n : ℕ) → length (label_line label n) ≡ length label + width_of n + 1
unfolding label_line decimal_text
label-length label n = simp (length-append, digits-length 10 (width_of n) n) (omega arith)
