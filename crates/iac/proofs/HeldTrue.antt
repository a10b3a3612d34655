-- What is kept stays true, and what is done to it where it is not: change request Q-4, in the words of Kept.
use mathlib.Core.Bool.{Bool, true, false, not, ◌&&◌, ◌||◌, cond, true≢false}
use mathlib.Core.Path.{◌≡◌, refl, sym, ap, ap₂, ◌∙◌}
use Prim.Native.Nat.{ℕ, ◌+◌, ◌%◌, ◌≤◌, ◌<◌}
use native.Mathlib.Nat.{mod-lt, mod-eq_of_lt}
use native.Mathlib.Omega.{arith}
use borrow.Author.Tests.{eqb-true, eq-eqb, not-false}
use lib.Dec.{eqb}
use lib.ListN.{get_or}
use Rattle.words.specs.Bit.{bit, one, masked, merged}
use Rattle.words.specs.Six.{bit_words}
use Rattle.words.proofs.Laws.{bit-ext, bit_masked, masked-lt, bit-merged, bit-with_bit, bit-ones, bit_high, word-bits}
use Rattle.words.proofs.Masks.{with_bit-other}
use Rattle.access.specs.declared.flag.Flag.{Flag}
use Rattle.access.specs.declared.request.Request.{Request}
use Rattle.access.proofs.Folds.{any_same}
use Rattle.iac.specs.Contents.{stored, held_of, with_held, with_word, reset}
use Rattle.iac.specs.Flags.{is_flag, flag_set, raise, line_of, line}
use Rattle.iac.specs.Held.{held_line, held_count, fresh_of, fresh_at, fresh, changes, changes_at, changed, added, with_count, held}
use Rattle.iac.specs.Kept.{True, SameBits, Moves}
use Rattle.iac.specs.Port.{word_written, written}
use Rattle.iac.specs.Registers.{iisr}
use Rattle.iac.specs.declared.contents.Iac.{Iac}
use Rattle.iac.specs.declared.registers.Register.{Register}
use Rattle.iac.proofs.HeldLaws.{fresh-most, fresh-same}
use Rattle.iac.proofs.Sums.{sum_same, sum-most, any_sum, any_none, none_any}

-- ---- the line should be up where the fresh count is not 0, which is below 256

pub line-fresh : (s : Iac) → line s ≡ not (eqb (fresh s) 0)
unfolding line line_of fresh fresh_at fresh_of
line-fresh s = any_same bit_words _ (λ x. not (eqb (fresh_at s x) 0)) (λ x l. at x) ∙ any_sum bit_words (fresh_at s)
  where
    not-zero : (b : Bool) → b ≡ not (eqb (one b) 0)
    not-zero true = refl
    not-zero false = refl

    at : (x : ℕ) → line_of x (get_or s.isr x 0) (get_or s.ier x 0) ≡ not (eqb (fresh_at s x) 0)
    at x =
        let p : ℕ → Bool = λ i. bit (iisr x) i && bit (get_or s.isr x 0) i && bit (get_or s.ier x 0) i in
        any_same 32 p (λ i. not (eqb (one (p i)) 0)) (λ i l. not-zero (p i)) ∙ any_sum 32 (λ i. one (p i))

pub all_most : (s : Iac) → fresh s ≤ 192
unfolding fresh fresh_at
all_most s = sum-most bit_words 32 (fresh_at s) (λ x. fresh-most _ _ _)

-- ---- whether a named bit changes

pub same-changes : (named a b : ℕ) → ((i : ℕ) → i < 32 → bit named i ≡ true → bit a i ≡ bit b i) → changes named a b ≡ false
same-changes named a b h = ap not (eq-eqb _ _ (bit-ext 32 _ _ (masked-lt 32 a named) (masked-lt 32 b named) (λ i l. bit_masked 32 a named i l ∙ go i l (bit named i) refl ∙ sym (bit_masked 32 b named i l))))
  where
    go : (i : ℕ) → i < 32 → (t : Bool) → bit named i ≡ t → (bit named i && bit a i) ≡ (bit named i && bit b i)
    go i l true e = ap (λ (x : Bool). bit named i && x) (h i l e)
    go i l false e = rw e refl

pub changes-same : (named a b : ℕ) → changes named a b ≡ false → (i : ℕ) → i < 32 → bit named i ≡ true → bit a i ≡ bit b i
changes-same named a b h i l e =
    let m : masked 32 a named ≡ masked 32 b named = eqb-true _ _ (not-false _ h) in
    let w : (bit named i && bit a i) ≡ (bit named i && bit b i) =
    sym (bit_masked 32 a named i l) ∙ ap (λ (w : ℕ). bit w i) m ∙ bit_masked 32 b named i l in
    rw e at w

module _ (s t : Iac) where
  pub bits-changed : SameBits s t → changed s t ≡ false
  unfolding changed changes_at
  bits-changed h =
      any_none bit_words (changes_at s t)
      (λ x l. ap₂ ◌||◌ (same-changes _ _ _ (λ i m n. (h x i l m n).0)) (same-changes _ _ _ (λ i m n. (h x i l m n).1)))

  pub changed-bits : changed s t ≡ false → SameBits s t
  unfolding changed changes_at
  changed-bits h x i l m n = go (none_any bit_words (changes_at s t) h x l)
    where
      neither : (a b : Bool) → (a || b) ≡ false → (a ≡ false) × (b ≡ false)
      neither true b e = (e, cc)
      neither false b e = (refl, e)

      go : changes_at s t x ≡ false
          → (bit (get_or s.isr x 0) i ≡ bit (get_or t.isr x 0) i) × (bit (get_or s.ier x 0) i ≡ bit (get_or t.ier x 0) i)
      go e = let p = neither _ _ e in (changes-same _ _ _ p.0 i m n, changes-same _ _ _ p.1 i m n)

  fresh-bits : SameBits s t → fresh s ≡ fresh t
  unfolding fresh fresh_at
  fresh-bits h = sum_same bit_words (fresh_at s) (fresh_at t) (λ x l. fresh-same _ _ _ _ _ (λ i m n. h x i l m n))

-- ---- what is kept where t has the flags and the enables that an event leaves of s

low_merged : (c n : ℕ) → n < 256 → merged 32 c n 0xff % 256 ≡ n
low_merged c n h =
    sym (word-bits 8 (merged 32 c n 0xff) (bit n) (λ k l. bit-merged 32 c n 0xff k (omega arith) ∙ ap (λ (b : Bool). cond b (bit n k) (bit c k)) (bit-ones 8 k l)))
    ∙ word-bits 8 n (bit n) (λ k l. refl)
    ∙ mod-eq_of_lt h

module _ (s t : Iac) where
  abbrev result : ℕ
  result = added s.count (fresh s) (fresh t)

  -- the IAC that is left, where b says whether a named bit changes
  abbrev leaving : Bool → Iac
  leaving b = with_held t (cond b (with_count (held_of s) result) (held_of s))

  new-count : held_count (leaving true) ≡ result
  unfolding with_count
  new-count = low_merged s.count result (mod-lt _ (omega arith))

  new_line : held_line (leaving true) ≡ not (eqb result 0)
  unfolding with_count
  new_line = bit-with_bit 32 s.line 0 (not (eqb result 0)) 0 (omega arith)

  line-above : (j : ℕ) → j < 32 → 1 ≤ j → bit (leaving true).line j ≡ bit s.line j
  unfolding with_count
  line-above j l m = with_bit-other 32 s.line 0 _ j l (λ (e : j ≡ 0). omega arith)

  count-above : (j : ℕ) → j < 32 → 8 ≤ j → bit (leaving true).count j ≡ bit s.count j
  unfolding with_count
  count-above j l m =
      bit-merged 32 s.count result 0xff j l
      ∙ ap (λ (b : Bool). cond b (bit result j) (bit s.count j)) (bit_high 8 0xff j (omega arith) m)

  pub held-true : True s → True (held s t)
  unfolding held fresh fresh_at line
  held-true y = go (changed s t) refl
    where
      go : (b : Bool) → changed s t ≡ b → True (leaving b)
      go true e =
          let f : result ≡ fresh t = omega (arith, y.count, all_most s, all_most t) in
          record { count = new-count ∙ f; line = new_line ∙ ap (λ (n : ℕ). not (eqb n 0)) f ∙ sym (line-fresh t) }
      go false e =
          let f = fresh-bits s t (changed-bits s t e) in
          record {
            count = y.count ∙ f;
            line = y.line ∙ line-fresh s ∙ ap (λ (n : ℕ). not (eqb n 0)) f ∙ sym (line-fresh t);
          }

  pub held-moves : Moves s (held s t)
  unfolding held fresh fresh_at
  held-moves = go (changed s t) refl
    where
      go : (b : Bool) → changed s t ≡ b → Moves s (leaving b)
      go true e =
          record {
            adds = omega (arith, new-count, all_most s);
            line = λ h. new_line ∙ ap (λ (n : ℕ). not (eqb n 0)) (sym new-count);
            leaves = λ h. absurd (true≢false (sym e ∙ bits-changed s t h));
            others = λ j l. (line-above j l, count-above j l);
          }
      go false e =
          let f = fresh-bits s t (changed-bits s t e) in
          record {
            adds = ap (λ (n : ℕ). (held_count s + n) % 256) f;
            line = λ h. absurd (h (changed-bits s t e));
            leaves = λ h. (refl, refl);
            others = λ j l. (λ m. refl, λ m. refl);
          }

-- ---- reset, a flag raised, and a write

pub reset-true : True reset
unfolding reset fresh fresh_at fresh_of line line_of iisr
reset-true = record { count = refl; line = refl }

pub moves-refl : (s : Iac) → Moves s s
moves-refl s =
    record {
      adds = refl;
      line = λ h. absurd (h (λ x i l m n. (refl, refl)));
      leaves = λ h. (refl, refl);
      others = λ j l. (λ m. refl, λ m. refl);
    }

-- P of what a raise or a write leaves: of what is left as it was, and of what is held
pub raise-by : (P : Iac → Type 0) (i : Flag) (s : Iac) → P s → ((t : Iac) → P (held s t)) → P (raise i s)
unfolding raise
raise-by P i s before after = go (is_flag i)
  where
    go : (b : Bool) → P (cond b (held s (flag_set i s)) s)
    go true = after (flag_set i s)
    go false = before

pub written-by : (P : Iac → Type 0) (q : Request) (s : Iac) (reg : Register) → P s → ((t : Iac) → P (held s t)) → P (written s reg q)
unfolding written
written-by P q s reg before after = go q.write
  where
    go : (b : Bool) → P (cond b (held s (with_word s reg (word_written reg (stored s reg) q.value))) s)
    go true = after (with_word s reg (word_written reg (stored s reg) q.value))
    go false = before
