-- A master's access as a memory access: document 02, Q-2. proofs/MasterAccesses has the theorems.
use Rattle.std.specs.Prelude.{Bool, ◌≤◌, ◌<◌}
use Rattle.words.specs.Bit.{bit}
use Rattle.words.specs.Six.{bit_at}
use Rattle.access.specs.declared.kind.Kind.{Kind}
use Rattle.rifsc.specs.Masters.{masters, guarding_of, attributes_of, carried}
use Rattle.device.specs.State.{State}
use Rattle.device.specs.declared.event.Event.{Event}
use Rattle.device.specs.declared.event.Event.TheVariants.{Memory}
use Rattle.device.specs.declared.event.MasterAccess.{MasterAccess}

-- the same access, made as a memory access of some kind
abbrev pub made_as : MasterAccess → Kind → Event
made_as a k = Memory (record { guard = a.guard; offset = a.offset; width = a.width; kind = k })

-- the kind that a master's access carries
abbrev pub carried_by : MasterAccess → State → Kind
carried_by a s = carried (attributes_of s.rifsc a.master) a.write

-- that kind with another secure flag: the master's own CID, direction and privilege
abbrev pub with_secure : Bool → Kind → Kind
with_secure secure k = record { cid = k.cid; write = k.write; privileged = k.privileged; secure = secure }

-- MSEC of a master's ATTR
abbrev pub msec_of : MasterAccess → State → Bool
msec_of a s = bit (attributes_of s.rifsc a.master).attr 8

-- the SEC bit of a master's guarding peripheral
abbrev pub guard_sec : MasterAccess → State → Bool
guard_sec a s = bit_at s.rifsc.seccfgr (guarding_of a.master).0

-- masters 1 to 12, which have a guarding peripheral
abbrev pub Guarded : MasterAccess → Type 0
Guarded a = (1 ≤ a.master.0) × (a.master.0 < masters)
