-- The locks there are, and what of a state is neither flag nor fault register: proofs/Locks and proofs/Refusals have their laws.
use Rattle.std.specs.Prelude.{Bool, true, false, List, [], ◌∷◌, map, ◌≡◌, ℕ, ◌<◌, get_or}
use Rattle.words.specs.Bit.{bit}
use Rattle.regions.specs.Words.{sub}
use Rattle.rifsc.specs.declared.contents.Rifsc.{Rifsc}
use Rattle.rifsc.specs.Registers.{ppsr}
use Rattle.risaf.specs.declared.contents.Guard.{Guard}
use Rattle.risaf.specs.Guards.{is_guard, shape_of}
use Rattle.device.specs.State.{State, guard_of}
use Rattle.device.specs.declared.event.Event.{Event}
use Rattle.device.specs.declared.event.Event.TheVariants.{Reset, Register, Peripheral, Memory, Master}

-- ---- locks: document 01, "A lock bit is set by 1 and not cleared by 0; only reset clears it"

pub data Lock : Type 0 where
  -- GLOCK of the controller, and of its RIMC_CR
  glock : Lock
  rimc_lock : Lock
  -- RLOCK: bit i of RCFGLOCKRx
  rlock : (x i : ℕ) → Lock
  -- GLOCK of guard n
  guard_lock : (n : ℕ) → Lock
  -- RLOCK of subregion p of base region x of guard n
  sub_lock : (n x p : ℕ) → Lock

-- the bit is one there is: its PPSR bit is 1, the guard one that there is, the base region one of the guard's
abbrev pub Named : Lock → Type 0
Named glock = Unit {0}
Named rimc_lock = Unit {0}
Named (rlock x i) = bit (ppsr x) i ≡ true
Named (guard_lock n) = is_guard n ≡ true
Named (sub_lock n x p) = (is_guard n ≡ true) × (x < (shape_of n).regions) × (p < 2)

-- the bit as it is stored: of CR, RIMC_CR, RCFGLOCKRx, the guard's CR, the subregion's CFGR
unfoldable pub is_set : Lock → State → Bool
is_set glock s = bit s.rifsc.cr 0
is_set rimc_lock s = bit s.rifsc.rimccr 0
is_set (rlock x i) s = bit (get_or s.rifsc.rcfglockr x 0) i
is_set (guard_lock n) s = bit (guard_of s n).cr 0
is_set (sub_lock n x p) s = bit (get_or (guard_of s n).regions (sub x p) 0) 1

abbrev pub NotReset : Event → Type 0
NotReset e = e ≡ Reset → ⊥

abbrev pub NoReset : List Event → Type 0
NoReset [] = Unit {0}
NoReset (e ∷ es) = NotReset e × NoReset es

-- ---- settings: all but the flags and the fault registers

-- a guard's CR and regions
abbrev pub guard_settings : Guard → ℕ × List ℕ
guard_settings g = (g.cr, g.regions)

pub record Settings : Type 0 where
  pub rifsc : Rifsc
  pub ier : List ℕ
  pub guards : List (ℕ × List ℕ)

unfoldable pub settings : State → Settings
settings s = record { rifsc = s.rifsc; ier = s.iac.ier; guards = map guard_settings s.guards }

-- reset and register writes, the events that can change a setting
abbrev pub configures : Event → Bool
configures Reset = true
configures (Register a) = a.request.write
configures (Peripheral a) = false
configures (Memory a) = false
configures (Master a) = false
