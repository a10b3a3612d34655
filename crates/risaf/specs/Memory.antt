-- A memory access to a guard: document 01, the order of its checks, and "A refused memory access sets IAEF"; document 02, Q-5, the reason, and Q-6,
-- "every access counts, and is recorded in IAESR, as CID 0 (a number over 7 still gets 4)".
use Rattle.std.specs.Prelude.{Bool, true, ◌&&◌, ◌||◌, cond, ℕ, ◌+◌, ◌*◌, ◌%◌, ltb, eqb, Option, Some, None, Result, Ok, Err}
use Rattle.words.specs.Bit.{bit, one, merged, with_bit}
use Rattle.access.specs.Answer.{left}
use Rattle.access.specs.Bus.{heard}
use Rattle.access.specs.Checks.{answered, answered_with}
use Rattle.access.specs.Kind.{is_cid}
use Rattle.access.specs.declared.answer.Answer.{Answer}
use Rattle.access.specs.declared.answer.Answer.TheVariants.{Done, Refused, Rejected}
use Rattle.access.specs.declared.answer.Why.{Why}
use Rattle.access.specs.declared.answer.Why.TheVariants.{NoSuch}
use Rattle.access.specs.declared.checks.Checks.{Checks}
use Rattle.access.specs.declared.kind.Kind.{Kind}
use Rattle.regions.specs.Rules.{decided, granted}
use Rattle.regions.specs.Verdict.{rule_number, refused_number}
use Rattle.regions.specs.declared.verdict.Verdict.{Verdict}
use Rattle.risaf.specs.Port.{Stepped}
use Rattle.risaf.specs.Rows.{of_head}
use Rattle.risaf.specs.declared.contents.Guard.{Guard}
use Rattle.risaf.specs.declared.guards.Shape.{Shape}
use Rattle.risaf.specs.declared.memory.Faults.{Faults}
use Rattle.risaf.specs.declared.registers.Head.TheVariants.{Iaesr}

abbrev pub is_width : ℕ → Bool
is_width width = eqb width 1 || eqb width 2 || eqb width 4

-- there says whether the guard, and the master, are ones there are; allowed, whether the rules grant
unfoldable pub memory_checks : Bool → Shape → ℕ → ℕ → Kind → Bool → Checks
memory_checks there shape o width k allowed =
    record {
      present = there && is_cid k.cid && is_width width;
      aligned = eqb (o % width) 0;
      inside = ltb o shape.window;
      fetchless = true;
      known = true;
      allowed = allowed;
      direction = true;
      unlocked = true;
    }

-- a granted access gives which rule governed, a refused one the reason
unfoldable pub memory_answer : Bool → Shape → ℕ → ℕ → Kind → Verdict → Answer
memory_answer there shape o width k verdict =
    answered_with (memory_checks there shape o width k (granted verdict)) (rule_number verdict.rule) (refused_number verdict.reason)

-- the shape, unless the access is rejected
abbrev pub unrejected : Answer → Shape → Result Shape Why
unrejected (Done v) shape = Ok shape
unrejected (Refused v) shape = Ok shape
unrejected (Rejected why) shape = Err why

-- what the code goes by, before it asks the rules, of a guard if there is one: its shape, or why the access is rejected even if they grant
unfoldable pub memory_checked : Option Shape → ℕ → ℕ → Kind → Result Shape Why
memory_checked None o width k = Err NoSuch
memory_checked (Some shape) o width k = unrejected (answered (memory_checks true shape o width k true) 0) shape

-- a kind of asking as IAESR records it: CID 2:0, privileged 4, secure 5, write 7
abbrev pub iaesr_of : Kind → ℕ
iaesr_of k = k.cid.0 % 8 + 16 * one k.privileged + 32 * one k.secure + 128 * one k.write

-- IAEF (bit 1) is set; where it was 0, IAESR and IADDR are filled
unfoldable pub recorded_fault : Faults → ℕ → Kind → Faults
recorded_fault f o k =
    record {
      iasr = with_bit 32 f.iasr 1 true;
      iaesr = cond (bit f.iasr 1) f.iaesr (merged 32 f.iaesr (iaesr_of k) (of_head Iaesr).named);
      iaddr = cond (bit f.iasr 1) f.iaddr o;
    }

-- of the whole guard
abbrev pub faults_of : Guard → Faults
faults_of g = record { iasr = g.iasr; iaesr = g.iaesr; iaddr = g.iaddr }

abbrev pub with_faults : Guard → Faults → Guard
with_faults g f = record { cr = g.cr; iasr = f.iasr; iaesr = f.iaesr; iaddr = f.iaddr; regions = g.regions }

unfoldable pub faulted : Guard → ℕ → Kind → Guard
faulted g o k = with_faults g (recorded_fault (faults_of g) o k)

-- a CID over 7 is looked at as given; the rules, and IAESR, have the asking as the bus hears it
unfoldable pub memory_stepped : Bool → Shape → Guard → ℕ → ℕ → Kind → Stepped
memory_stepped there shape g o width k =
    let a = memory_answer there shape o width k (decided shape.bus g.regions shape.regions o k) in
    record { next = left a g g (faulted g o (heard shape.bus k)); answer = a }
