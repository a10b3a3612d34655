-- Why a memory or a master access is refused: document 02, Q-5. proofs/Reasons has the theorems.
use Rattle.std.specs.Prelude.{Bool, true, false, ◌≡◌, ℕ, zero, suc}
use Rattle.access.specs.Answer.{number_of}
use Rattle.access.specs.Bus.{heard}
use Rattle.access.specs.declared.kind.Kind.{Kind}
use Rattle.regions.specs.Rules.{Tests, tests}
use Rattle.risaf.specs.Guards.{shape_of}
use Rattle.device.specs.Masters.{made_as, carried_by}
use Rattle.device.specs.State.{State, guard_of}
use Rattle.device.specs.Step.{step}
use Rattle.device.specs.declared.event.Event.{Event}
use Rattle.device.specs.declared.event.Event.TheVariants.{Reset, Register, Peripheral, Memory, Master}
use Rattle.device.specs.declared.event.MemoryAccess.{MemoryAccess}

-- the event is the memory access a, or a master's that carries a's kind
abbrev pub IsAccess : Event → State → MemoryAccess → Type 0
IsAccess Reset s a = ⊥
IsAccess (Register b) s a = ⊥
IsAccess (Peripheral b) s a = ⊥
IsAccess (Memory b) s a = Memory b ≡ Memory a
IsAccess (Master b) s a = made_as b (carried_by b s) ≡ Memory a

-- it gets none of 4, 5 and 6
abbrev pub Reaches : Event → State → Type 0
Reaches e s = (number_of (step e s).answer ≡ 4 → ⊥) × (number_of (step e s).answer ≡ 5 → ⊥) × (number_of (step e s).answer ≡ 6 → ⊥)

-- the tests of the rule that governs there, of the asking as the guard's bus hears it
abbrev pub tests_at : State → MemoryAccess → Tests
tests_at s a =
    let shape = shape_of a.guard.0 in
    tests shape.bus (guard_of s a.guard.0).regions shape.regions a.offset (heard shape.bus a.kind)

-- no test fails
abbrev pub NoneFails : Tests → Type 0
NoneFails t = (t.security ≡ true) × (t.privilege ≡ true) × (t.compartment ≡ true)

-- the first that fails is 1 security, 2 privilege, 3 compartment or direction
abbrev pub FirstFails : ℕ → Tests → Type 0
FirstFails zero t = ⊥
FirstFails (suc zero) t = t.security ≡ false
FirstFails (suc (suc zero)) t = (t.security ≡ true) × (t.privilege ≡ false)
FirstFails (suc (suc (suc zero))) t = (t.security ≡ true) × (t.privilege ≡ true) × (t.compartment ≡ false)
FirstFails (suc (suc (suc (suc n)))) t = ⊥

-- the same access of another kind
abbrev pub with_kind : Kind → MemoryAccess → MemoryAccess
with_kind k a = record { guard = a.guard; offset = a.offset; width = a.width; kind = k }

-- in another direction
abbrev pub with_direction : Bool → Kind → Kind
with_direction write k = record { cid = k.cid; write = write; privileged = k.privileged; secure = k.secure }
