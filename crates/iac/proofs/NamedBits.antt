-- The IAC changes and reads named bits alone: s is an IAC, S has a mask for each of its words.
use mathlib.Core.Bool.{Bool, true, false, cond}
use mathlib.Core.Path.{◌≡◌, refl, ◌∙◌, subst}
use Prim.Native.Nat.{ℕ, ◌/◌, ◌%◌}
use native.Mathlib.Nat.{mod-lt}
use native.Mathlib.Omega.{arith}
use Rattle.words.specs.Bit.{bit}
use Rattle.words.proofs.Alike.{Kept, Same, kept_refl, same_refl, kept_set, same_set, same-masked}
use Rattle.access.specs.Answer.{left}
use Rattle.access.specs.declared.answer.Answer.{Answer}
use Rattle.access.specs.declared.answer.Answer.TheVariants.{Done, Refused, Rejected}
use Rattle.access.specs.declared.flag.Flag.{Flag}
use Rattle.access.specs.declared.request.Request.{Request}
use Rattle.iac.specs.Contents.{stored, with_word}
use Rattle.iac.specs.Flags.{is_flag, flag_set, raise}
use Rattle.iac.specs.Held.{held_line, held}
use Rattle.iac.specs.Port.{read_of, word_written, answer_of, written, stepped_at, stepped}
use Rattle.std.specs.Prelude.{Option, Some, None}
use Rattle.iac.specs.Registers.{register_at, iisr, row_of}
use Rattle.iac.specs.declared.contents.Iac.{Iac}
use Rattle.iac.specs.declared.registers.Register.{Register}
use Rattle.iac.specs.declared.registers.Register.TheVariants.{Icr}
use Rattle.iac.proofs.NamedHeld.{held_kept, held_same}
use Rattle.iac.proofs.NamedWords.{Alike, Has, stored-alike, with-alike, stored-again, word_kept, word_same}

-- the register that clears flag i; a flag that there is has a named bit of it
abbrev flag_register : Flag → Register
flag_register i = Icr (i.0 / 32)

flag-bit : (i : Flag) → is_flag i ≡ true → bit (row_of (flag_register i)).named (i.0 % 32) ≡ true
unfolding row_of iisr
flag-bit i h = h

-- what an access to a register leaves, by its answer; w says whether it is a write
abbrev leaves : Answer → Bool → Iac → Register → Request → Iac
leaves a w s reg q = left a s (cond w (held s (with_word s reg (word_written reg (stored s reg) q.value))) s) s

-- ---- an access and a flag change named bits alone

module _ {S t s : Iac} (has : Has S) (own : Alike Kept S t s) where
  with-kept : (reg : Register) (w : ℕ) → Kept (stored S reg) w (stored s reg) → Alike Kept S (held t (with_word t reg w)) s
  with-kept reg w r =
      held_kept has own (subst (Alike Kept S (with_word t reg w)) (stored-again s reg) (with-alike (kept_refl 0 0) own reg r))

  pub raise-kept : (i : Flag) → Alike Kept S (raise i t) s
  unfolding raise flag_set stored
  raise-kept i = go (is_flag i) refl
    where
      go : (b : Bool) → is_flag i ≡ b → Alike Kept S (cond b (held t (flag_set i t)) t) s
      go true e =
          with-kept (flag_register i) _
          (λ j l h. kept_set _ _ _ (has.words (flag_register i) (i.0 % 32) (mod-lt i.0 (omega arith)) (flag-bit i e)) j l h ∙ stored-alike (kept_refl 0 0) own (flag_register i) j l h)
      go false e = own

pub stepped_kept : {S s : Iac} → Has S → Alike Kept S s s → (q : Request) → Alike Kept S (stepped s q).next s
unfolding stepped_at written
stepped_kept {S} {s} has own q = at (register_at q.offset)
  where
    go : (reg : Register) (a : Answer) (w : Bool) → Alike Kept S (leaves a w s reg q) s
    go reg (Done v) true = with-kept has own reg _ (word_kept reg (stored S reg) (stored s reg) q.value (has.words reg))
    go reg (Done v) false = own
    go reg (Refused v) w = own
    go reg (Rejected why) w = own

    at : (o : Option Register) → Alike Kept S (stepped_at o s q).next s
    at None = own
    at (Some reg) = go reg (answer_of (row_of reg) (stored s reg) q) q.write

-- ---- they read named bits alone, and leave them alike where they were

module _ {S s s' : Iac} (has : Has S) (same : Alike Same S s s') where
  abbrev word-alike : (reg : Register) → Same (stored S reg) (stored s reg) (stored s' reg)
  word-alike reg = stored-alike (same_refl 0 0) same reg

  with-same : (reg : Register) (w w' : ℕ) → Same (stored S reg) w w' → Alike Same S (held s (with_word s reg w)) (held s' (with_word s' reg w'))
  with-same reg w w' e = held_same has same (with-alike (same_refl 0 0) same reg e)

  answer-same : (reg : Register) (q : Request) → answer_of (row_of reg) (stored s reg) q ≡ answer_of (row_of reg) (stored s' reg) q
  unfolding answer_of read_of
  answer-same reg q = rw (same-masked (row_of reg).named (stored S reg) _ _ (has.words reg) (word-alike reg))

  pub stepped_same : (q : Request) → ((stepped s q).answer ≡ (stepped s' q).answer) × Alike Same S (stepped s q).next (stepped s' q).next
  unfolding stepped_at written
  stepped_same q = at (register_at q.offset)
    where
      go : (reg : Register) (a : Answer) (w : Bool) → Alike Same S (leaves a w s reg q) (leaves a w s' reg q)
      go reg (Done v) true = with-same reg _ _ (word_same reg (stored S reg) _ _ q.value (word-alike reg))
      go reg (Done v) false = same
      go reg (Refused v) w = same
      go reg (Rejected why) w = same

      at : (o : Option Register) → ((stepped_at o s q).answer ≡ (stepped_at o s' q).answer) × Alike Same S (stepped_at o s q).next (stepped_at o s' q).next
      at None = (refl, same)
      at (Some reg) = let e = answer-same reg q in (e, rw e (go reg (answer_of (row_of reg) (stored s' reg) q) q.write))

  pub raise-same : (i : Flag) → Alike Same S (raise i s) (raise i s')
  unfolding raise flag_set stored
  raise-same i = go (is_flag i)
    where
      go : (b : Bool) → Alike Same S (cond b (held s (flag_set i s)) s) (cond b (held s' (flag_set i s')) s')
      go true = with-same (flag_register i) _ _ (same_set _ _ _ (i.0 % 32) (word-alike (flag_register i)))
      go false = same

  -- the interrupt line, as it is kept
  pub line_same : held_line s ≡ held_line s'
  line_same = same.line.bits 0 (omega arith) (has.line 0 (omega arith) refl)
