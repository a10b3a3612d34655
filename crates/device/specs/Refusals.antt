-- What a refusal with 1 leaves, exactly: document 01, "Numbers given back", "flags and fault registers". proofs/Refusals has the theorem.
use Rattle.std.specs.Prelude.{true, cond, ℕ}
use Rattle.words.specs.Bit.{bit, merged, with_bit}
use Rattle.access.specs.Bus.{heard}
use Rattle.access.specs.declared.kind.Kind.{Kind}
use Rattle.rifsc.specs.Masters.{attributes_of, carried}
use Rattle.risaf.specs.Guards.{shape_of}
use Rattle.risaf.specs.Memory.{iaesr_of}
use Rattle.risaf.specs.declared.contents.Guard.{Guard}
use Rattle.device.specs.State.{State, guard_of, with_guard, flagged}
use Rattle.device.specs.Step.{rifsc_flag, iac_flag}
use Rattle.device.specs.declared.event.Block.{Block}
use Rattle.device.specs.declared.event.Block.TheVariants.{Rifsc, Iac, Risaf}
use Rattle.device.specs.declared.event.Event.{Event}
use Rattle.device.specs.declared.event.Event.TheVariants.{Reset, Register, Peripheral, Memory, Master}

-- ---- the guard accessed: its fault registers, and nothing else of it

abbrev with_fault_registers : Guard → ℕ → ℕ → ℕ → Guard
with_fault_registers g iasr iaesr iaddr =
    record { cr = g.cr; iasr = iasr; iaesr = iaesr; iaddr = iaddr; regions = g.regions }

-- a register access: CAEF (bit 0 of IASR) is set
abbrev pub register_fault : Guard → Guard
register_fault g = with_fault_registers g (with_bit 32 g.iasr 0 true) g.iaesr g.iaddr

-- a memory access: IAEF (bit 1) is set, and where it was 0 IAESR, of which bits 7, 5, 4 and 2:0 are named, and IADDR are filled
abbrev pub memory_fault : ℕ → Kind → Guard → Guard
memory_fault o k g =
    cond (bit g.iasr 1) (with_fault_registers g (with_bit 32 g.iasr 1 true) g.iaesr g.iaddr)
    (with_fault_registers g (with_bit 32 g.iasr 1 true) (merged 32 g.iaesr (iaesr_of k) 0x0000_00b7) o)

-- ---- the state: one flag is raised, and at a guard that guard's fault registers change

abbrev pub register_left : Block → State → State
register_left Rifsc s = flagged rifsc_flag s
register_left Iac s = flagged iac_flag s
register_left (Risaf n) s = flagged (shape_of n.0).flag (with_guard s n.0 (register_fault (guard_of s n.0)))

-- IAESR is filled with the asking as the guard's bus hears it
abbrev pub memory_left : ℕ → ℕ → Kind → State → State
memory_left n o k s = flagged (shape_of n).flag (with_guard s n (memory_fault o (heard (shape_of n).bus k) (guard_of s n)))

-- reset is never refused
unfoldable pub refused_state : Event → State → State
refused_state Reset s = s
refused_state (Register a) s = register_left a.block s
refused_state (Peripheral a) s = flagged (record { 0 = a.peripheral.0 }) s
refused_state (Memory a) s = memory_left a.guard.0 a.offset a.kind s
refused_state (Master a) s =
    memory_left a.guard.0 a.offset (carried (attributes_of s.rifsc a.master) a.write) s
