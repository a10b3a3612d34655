-- A register access to the controller: document 01, "RIFSC".
use Rattle.std.specs.Prelude.{Bool, true, false, not, ◌&&◌, ◌||◌, cond, ℕ, ◌%◌, eqb, Option, Some, None}
use Rattle.words.specs.Bit.{bit, word, field, masked, united}
use Rattle.access.specs.Answer.{left}
use Rattle.access.specs.Checks.{answered, no_register, unless}
use Rattle.access.specs.Kind.{debugger}
use Rattle.access.specs.Request.{gives}
use Rattle.access.specs.declared.accessed.Accessed.{Accessed}
use Rattle.access.specs.declared.answer.Answer.{Answer}
use Rattle.access.specs.declared.answer.Answer.TheVariants.{Done, Rejected}
use Rattle.access.specs.declared.answer.Why.TheVariants.{Misaligned, NoRegister}
use Rattle.access.specs.declared.checks.Checks.{Checks}
use Rattle.access.specs.declared.request.Request.{Request}
use Rattle.rifsc.specs.Registers.{register_at, row_of}
use Rattle.rifsc.specs.Contents.{with_stored, seen}
use Rattle.rifsc.specs.declared.registers.Row.{Row}
use Rattle.rifsc.specs.declared.registers.Register.{Register}
use Rattle.rifsc.specs.declared.registers.Register.TheVariants.{Cr, Seccfgr, Privcfgr, Rcfglockr, Rimccr, Attr, Ppsr}
use Rattle.rifsc.specs.declared.contents.Rifsc.{Rifsc}
use Rattle.rifsc.specs.declared.port.Seen.{Seen}

-- ---- a read gives the named bits, and those that read 1 whatever is stored

unfoldable pub read_of : Row → ℕ → ℕ
read_of row stored = united 32 (masked 32 stored row.named) row.fixed

-- ---- the word that a write leaves: bit i is the write's where it is taken

-- a write with MCID (6:4) 7 leaves MCID as it was, and takes MSEC (8) and MPRIV (9)
abbrev pub attr_bits : ℕ → ℕ
attr_bits value = cond (eqb (field value 4 3) debugger.0) 0x0000_0300 0x0000_0370

unfoldable pub takes : Register → Row → Seen → ℕ → Bool → ℕ → Bool
-- a lock bit is set by 1 and not cleared by 0
takes Cr row v value secure i = bit row.named i && bit value i
takes (Rcfglockr x) row v value secure i = bit row.named i && bit value i
-- a SEC or PRIV bit whose RLOCK is set keeps its old content; a PRIV bit whose SEC is set takes only a secure write
takes (Seccfgr x) row v value secure i = bit row.named i && not (bit v.rlock i)
takes (Privcfgr x) row v value secure i =
    bit row.named i && not (bit v.rlock i) && (secure || not (bit v.sec i))
-- DAPCID (10:8) is taken, and GLOCK is a lock bit
takes Rimccr row v value secure i = bit 0x0000_0700 i || bit 0x0000_0001 i && bit value i
takes (Attr m) row v value secure i = bit (attr_bits value) i
takes (Ppsr x) row v value secure i = false

unfoldable pub word_written : Register → Row → Seen → ℕ → Bool → ℕ
word_written reg row v value secure =
    word 32 (λ i. cond (takes reg row v value secure i) (bit value i) (bit v.word i))

-- ---- the checks of an access to a register, in their order; any read is allowed, a write needs privileged and, but for PRIVCFGR, secure

unfoldable pub checks_of : Row → Bool → Request → Checks
checks_of row locked q =
    record {
      present = true;
      aligned = eqb (q.offset % 4) 0;
      inside = true;
      fetchless = true;
      known = true;
      allowed = not q.write || q.privileged && (q.secure || not row.secure);
      direction = not q.write || row.writable;
      unlocked = not q.write || not locked;
    }

unfoldable pub answer_of : Row → Bool → ℕ → Request → Answer
answer_of row locked stored q = answered (checks_of row locked q) (gives q (read_of row stored))

-- of a read, by its offset and by the row of the register, if there is one: what code goes by
unfoldable pub read_at : Option Row → ℕ → Answer
read_at None stored = Rejected NoRegister
read_at (Some row) stored = Done (read_of row stored)

unfoldable pub read_answer : Option Row → ℕ → ℕ → Answer
read_answer row stored offset = unless (eqb (offset % 4) 0) (Rejected Misaligned) (read_at row stored)

-- ---- an access to what it needs of the controller, by value

abbrev pub with_seen_word : Seen → ℕ → Seen
with_seen_word v w = record { locked = v.locked; rlock = v.rlock; sec = v.sec; word = w }

unfoldable pub accessed : Register → Row → Seen → Request → Accessed Seen
accessed reg row v q =
    let a = answer_of row v.locked v.word q in
    record {
      next = left a v (cond q.write (with_seen_word v (word_written reg row v q.value q.secure)) v) v;
      answer = a;
    }

-- by the register and its row, if there are such: without a row the offset is no register's, without a register no word is written
unfoldable pub accessed_at : Option Register → Option Row → Seen → Request → Accessed Seen
accessed_at reg None v q = record { next = v; answer = no_register q.offset }
accessed_at None (Some row) v q = record { next = v; answer = answer_of row v.locked v.word q }
accessed_at (Some reg) (Some row) v q = accessed reg row v q

-- ---- what an access leaves; a refusal leaves the controller as it was, and its flag is the IAC's

unfoldable pub written : Rifsc → Register → Row → Seen → Request → Rifsc
written r reg row v q = cond q.write (with_stored r reg (word_written reg row v q.value q.secure)) r

-- where the offset is no register's, and where it is a register's
unfoldable pub stepped_at : Option Register → Rifsc → Request → Accessed Rifsc
stepped_at None r q = record { next = r; answer = no_register q.offset }
stepped_at (Some reg) r q =
    let row = row_of reg in
    let v = seen r reg row.lock row.index in
    let a = answer_of row v.locked v.word q in
    record { next = left a r (written r reg row v q) r; answer = a }

abbrev pub stepped : Rifsc → Request → Accessed Rifsc
stepped r q = stepped_at (register_at q.offset) r q
