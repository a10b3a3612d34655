-- A register access to a guard: document 01, "Register rights".
use Rattle.std.specs.Prelude.{Bool, true, false, not, ◌&&◌, ◌||◌, cond, List, ℕ, ◌%◌, eqb, get_or, Option, Some, None}
use Rattle.words.specs.Bit.{bit, word, field, masked, less, merged, united, with_bit}
use Rattle.access.specs.Answer.{left}
use Rattle.access.specs.Checks.{answered, unless}
use Rattle.access.specs.Kind.{equals}
use Rattle.access.specs.Request.{gives}
use Rattle.access.specs.declared.answer.Answer.{Answer}
use Rattle.access.specs.declared.answer.Answer.TheVariants.{Done, Refused, Rejected}
use Rattle.access.specs.declared.answer.Why.TheVariants.{Misaligned, NoRegister, NoSuch}
use Rattle.access.specs.declared.bus.Bus.{Bus}
use Rattle.access.specs.declared.bus.Bus.TheVariants.{Axi, Ahb}
use Rattle.access.specs.declared.checks.Checks.{Checks}
use Rattle.access.specs.declared.kind.Cid.{Cid}
use Rattle.access.specs.declared.request.Request.{Request}
use Rattle.regions.specs.Words.{sec_bit}
use Rattle.risaf.specs.Contents.{cr_at, iasr_at, guard_words, with_word}
use Rattle.risaf.specs.Guards.{low_bits}
use Rattle.risaf.specs.Rows.{row_at}
use Rattle.risaf.specs.declared.contents.Guard.{Guard}
use Rattle.risaf.specs.declared.guards.Shape.{Shape}
use Rattle.access.specs.declared.accessed.Accessed.{Accessed}
use Rattle.risaf.specs.declared.port.Port.{Port}
use Rattle.risaf.specs.declared.rows.Form.{Form}
use Rattle.risaf.specs.declared.rows.Form.TheVariants.{Kept, Taken, SetByOne, ClearedByOne, GranuleStart, GranuleEnd, SubregionCfgr}
use Rattle.risaf.specs.declared.rows.Lock.{Lock}
use Rattle.risaf.specs.declared.rows.Lock.TheVariants.{Glock, Rlock, Never}
use Rattle.risaf.specs.declared.rows.Row.{Row}

-- ---- what an access to a register needs of the guard: GLOCK, IASR, CFGR of its base region, CFGR and NEST of its subregion, its own word

unfoldable pub port_in : List ℕ → Row → Port
port_in w row =
    record {
      glock = bit (get_or w cr_at 0) 0;
      iasr = get_or w iasr_at 0;
      base = get_or w row.base 0;
      sub = get_or w row.sub 0;
      nest = get_or w row.nest 0;
      word = get_or w row.place 0;
    }

-- ---- a read gives the named bits

unfoldable pub read_of : Row → ℕ → ℕ
read_of row old = masked 32 old row.named

-- ---- rights

-- the compartment that the port always speaks as; on AHB, which carries none, it is 0 (Q-6: "the delegated compartment must be 0")
abbrev pub port_cid : Bus → Cid
port_cid Axi = record { 0 = 1 }
port_cid Ahb = record { 0 = 0 }

-- the compartment that a NEST delegates to (DCCID, 6:4)
abbrev pub dccid : ℕ → Cid
dccid nest = record { 0 = field nest 4 3 }

-- a subregion's CFGR, START and END: with DCEN (2) 0, secure; with DCEN 1, DCCID is the port's and secure or the base's SEC is 0
unfoldable pub delegated : Bus → Port → Bool → Bool
delegated bus p secure =
    cond (bit p.nest 2) (equals (dccid p.nest) (port_cid bus) && (secure || not (bit p.base sec_bit))) secure

-- a write needs privileged, and secure but for what is delegated; the fault registers need both to read too
unfoldable pub allowed_of : Bus → Row → Port → Request → Bool
allowed_of bus row p q =
    cond q.write (q.privileged && cond row.delegable (delegated bus p q.secure) q.secure)
    (not row.guarded || q.secure && q.privileged)

-- ---- locks: GLOCK; RLOCK (1) of the subregion

abbrev pub locked_of : Lock → Port → Bool
locked_of Glock p = p.glock
locked_of Rlock p = bit p.sub 1
locked_of Never p = false

-- ---- the word that a write leaves

-- bit i of some bits, bit k only where it may be
abbrev pub bit_if : ℕ → ℕ → Bool → ℕ → Bool
bit_if bits k may i = bit bits i && (may || not (eqb i k))

-- of a subregion's CFGR a write takes RLOCK (1) only while GLOCK is 1, and SEC (8) only where it is secure
unfoldable pub subcfgr_written : ℕ → Port → ℕ → Bool → ℕ
subcfgr_written named p value secure =
    word 32
    (λ i. cond (bit_if named 1 p.glock i && (secure || not (eqb i sec_bit))) (bit value i) (bit p.word i))

-- as the row says: GLOCK is set by 1 and not cleared by 0, IACR's 1 clears; START clears the bits within a granule, END sets them
unfoldable pub word_in : Form → ℕ → ℕ → Port → ℕ → Bool → ℕ
word_in Kept granule named p value secure = p.word
word_in Taken granule named p value secure = merged 32 p.word value named
word_in SetByOne granule named p value secure = word 32 (λ i. bit p.word i || bit named i && bit value i)
word_in ClearedByOne granule named p value secure = word 32 (λ i. bit p.word i && not (bit named i && bit value i))
word_in GranuleStart granule named p value secure = less 32 value (low_bits granule)
word_in GranuleEnd granule named p value secure = united 32 value (low_bits granule)
word_in SubregionCfgr granule named p value secure = subcfgr_written named p value secure

abbrev pub word_written : ℕ → Row → Port → ℕ → Bool → ℕ
word_written granule row p value secure = word_in row.form granule row.named p value secure

-- ---- the checks, in their order: there says whether the guard is one there is

-- of an access to the register with this row
unfoldable pub checks_of : Bool → Bus → Row → Port → Request → Checks
checks_of there bus row p q =
    record {
      present = there;
      aligned = eqb (q.offset % 4) 0;
      inside = true;
      fetchless = true;
      known = true;
      allowed = allowed_of bus row p q;
      direction = cond q.write row.writable row.readable;
      unlocked = not q.write || not (locked_of row.lock p);
    }

-- of an access to an offset that is no register's: no more is tested
unfoldable pub checks_none : Bool → Request → Checks
checks_none there q =
    record {
      present = there;
      aligned = eqb (q.offset % 4) 0;
      inside = true;
      fetchless = true;
      known = false;
      allowed = true;
      direction = true;
      unlocked = true;
    }

unfoldable pub answer_of : Bool → Bus → Row → Port → Request → Answer
answer_of there bus row p q = answered (checks_of there bus row p q) (gives q (read_of row p.word))

-- by the row of the register, if there is one, among a guard's words
abbrev pub answer_at : Bool → Bus → Option Row → List ℕ → Request → Answer
answer_at there bus None w q = answered (checks_none there q) 0
answer_at there bus (Some row) w q = answer_of there bus row (port_in w row) q

-- ---- the answer to a read, among a guard's words: what code goes by

-- of the register with this row, at an offset that is a multiple of 4
unfoldable pub read_reached : Row → ℕ → Request → Answer
read_reached row old q =
    unless (not row.guarded || q.secure && q.privileged) (Refused 0)
    (unless row.readable (Rejected NoRegister) (Done (read_of row old)))

unfoldable pub read_at : Option Row → List ℕ → Request → Answer
read_at None w q = Rejected NoRegister
read_at (Some row) w q = read_reached row (get_or w row.place 0) q

-- of a guard of this shape, if there is one
unfoldable pub read_answer : Option Shape → List ℕ → Request → Answer
read_answer None w q = Rejected NoSuch
read_answer (Some shape) w q = unless (eqb (q.offset % 4) 0) (Rejected Misaligned) (read_at (row_at shape.regions q.offset) w q)

-- ---- what an access leaves

abbrev pub with_port_word : Port → ℕ → Port
with_port_word p v =
    record { glock = p.glock; iasr = p.iasr; base = p.base; sub = p.sub; nest = p.nest; word = v }

-- a refused register access sets CAEF (0)
abbrev pub refused_port : Port → Port
refused_port p =
    record {
      glock = p.glock;
      iasr = with_bit 32 p.iasr 0 true;
      base = p.base;
      sub = p.sub;
      nest = p.nest;
      word = p.word;
    }

unfoldable pub accessed : Bool → Shape → Row → Port → Request → Accessed Port
accessed there shape row p q =
    let a = answer_of there shape.bus row p q in
    let w = word_written shape.granule row p q.value q.secure in
    record {
      next = left a p (cond q.write (with_port_word p w) p) (refused_port p);
      answer = a;
    }

-- of a guard of this shape, to the register with this row, if there are such
unfoldable pub accessed_at : Option Shape → Option Row → Port → Request → Accessed Port
accessed_at None row p q = record { next = p; answer = Rejected NoSuch }
accessed_at (Some shape) None p q = record { next = p; answer = answered (checks_none true q) 0 }
accessed_at (Some shape) (Some row) p q = accessed true shape row p q

-- ---- of the whole guard: the register's word is another where a write is done, IASR where the access is refused

pub record Stepped : Type 0 where
  pub next : Guard
  pub answer : Answer

-- by the row of the register, if there is one
unfoldable pub stepped_at : Bool → Shape → Option Row → Guard → Request → Stepped
stepped_at there shape None g q = record { next = g; answer = answered (checks_none there q) 0 }
stepped_at there shape (Some row) g q =
    let r = accessed there shape row (port_in (guard_words g) row) q in
    record {
      next =
          left r.answer g (cond q.write (with_word g row.place r.next.word) g)
          (with_word g iasr_at r.next.iasr);
      answer = r.answer;
    }

unfoldable pub stepped : Bool → Shape → Guard → Request → Stepped
stepped there shape g q = stepped_at there shape (row_at shape.regions q.offset) g q
