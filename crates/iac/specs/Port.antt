-- A register access to the IAC: document 01, "IAC".
use Rattle.std.specs.Prelude.{true, not, ◌&&◌, ◌||◌, cond, ℕ, ◌%◌, eqb, Option, Some, None}
use Rattle.words.specs.Bit.{bit, word, masked, merged, united}
use Rattle.access.specs.Answer.{left}
use Rattle.access.specs.Checks.{answered, no_register, unless}
use Rattle.access.specs.Request.{gives}
use Rattle.access.specs.declared.accessed.Accessed.{Accessed}
use Rattle.access.specs.declared.answer.Answer.{Answer}
use Rattle.access.specs.declared.answer.Answer.TheVariants.{Done, Refused, Rejected}
use Rattle.access.specs.declared.answer.Why.TheVariants.{Misaligned, NoRegister}
use Rattle.access.specs.declared.checks.Checks.{Checks}
use Rattle.access.specs.declared.request.Request.{Request}
use Rattle.iac.specs.Registers.{register_at, iisr, row_of}
use Rattle.iac.specs.declared.registers.Row.{Row}
use Rattle.iac.specs.Contents.{stored, with_word}
use Rattle.iac.specs.Held.{held}
use Rattle.iac.specs.declared.registers.Register.{Register}
use Rattle.iac.specs.declared.registers.Register.TheVariants.{Ier, Isr, Icr, Iisr}
use Rattle.iac.specs.declared.contents.Iac.{Iac}
use Rattle.iac.specs.declared.port.Seen.{Seen}

-- a read gives the named bits, and those that read 1 whatever is stored
unfoldable pub read_of : Row → ℕ → ℕ
read_of row old = united 32 (masked 32 old row.named) row.fixed

-- the word that a write leaves; IER bits with no IISR bit take no write, and writing 1 to ICR clears the flag
unfoldable pub word_written : Register → ℕ → ℕ → ℕ
word_written (Ier x) old value = merged 32 old value (iisr x)
word_written (Isr x) old value = old
word_written (Icr x) old value = word 32 (λ i. bit old i && not (bit (iisr x) i && bit value i))
word_written (Iisr x) old value = old

-- the checks of an access to a register, in their order
unfoldable pub checks_of : Row → Request → Checks
checks_of row q =
    record {
      present = true;
      aligned = eqb (q.offset % 4) 0;
      inside = true;
      fetchless = true;
      known = true;
      allowed = not row.guarded || q.secure && q.privileged;
      direction = cond q.write row.writable row.readable;
      unlocked = true;
    }

unfoldable pub answer_of : Row → ℕ → Request → Answer
answer_of row old q = answered (checks_of row q) (gives q (read_of row old))

-- of a read, by the row of the register, if there is one: what code goes by
unfoldable pub read_at : Option Row → ℕ → Request → Answer
read_at None old q = Rejected NoRegister
read_at (Some row) old q =
    unless (not row.guarded || q.secure && q.privileged) (Refused 0)
    (unless row.readable (Rejected NoRegister) (Done (read_of row old)))

unfoldable pub read_answer : Option Row → ℕ → Request → Answer
read_answer row old q = unless (eqb (q.offset % 4) 0) (Rejected Misaligned) (read_at row old q)

-- what an access needs of the IAC, by value: what code goes by
unfoldable pub accessed : Register → Row → Seen → Request → Accessed Seen
accessed reg row v q =
    let a = answer_of row v.word q in
    record { next = left a v (cond q.write (record { word = word_written reg v.word q.value }) v) v; answer = a }

-- by the register and its row, if there are such: without a row the offset is no register's, without a register no word is written
unfoldable pub accessed_at : Option Register → Option Row → Seen → Request → Accessed Seen
accessed_at reg None v q = record { next = v; answer = no_register q.offset }
accessed_at None (Some row) v q = record { next = v; answer = answer_of row v.word q }
accessed_at (Some reg) (Some row) v q = accessed reg row v q

-- what an access leaves; a refusal leaves the registers as they were, and its flag is raised beside (Flags)
unfoldable pub written : Iac → Register → Request → Iac
written s reg q = cond q.write (held s (with_word s reg (word_written reg (stored s reg) q.value))) s

-- where the offset is no register's, and where it is a register's
unfoldable pub stepped_at : Option Register → Iac → Request → Accessed Iac
stepped_at None s q = record { next = s; answer = no_register q.offset }
stepped_at (Some reg) s q =
    let a = answer_of (row_of reg) (stored s reg) q in
    record { next = left a s (written s reg q) s; answer = a }

abbrev pub stepped : Iac → Request → Accessed Iac
stepped s q = stepped_at (register_at q.offset) s q
