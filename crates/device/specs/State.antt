-- The state of the device: the controller, the illegal access controller and the guards.
use Rattle.std.specs.Prelude.{List, [], map, ℕ, get_or, set}
use Rattle.access.specs.declared.flag.Flag.{Flag}
use Rattle.rifsc.specs.declared.contents.Rifsc.{Rifsc}
use Rattle.rifsc.specs.Contents as rifsc
use Rattle.iac.specs.declared.contents.Iac.{Iac}
use Rattle.iac.specs.Contents as iac
use Rattle.iac.specs.Flags.{raise}
use Rattle.risaf.specs.declared.contents.Guard.{Guard}
use Rattle.risaf.specs.Contents as risaf
use Rattle.risaf.specs.Guards.{GuardRow, guards, shape_of}

pub record State : Type 0 where
  pub rifsc : Rifsc
  pub iac : Iac
  -- in rising number
  pub guards : List Guard

-- the guard at a place among them, and guard n
abbrev pub guard_at : State → ℕ → Guard
guard_at s place = get_or s.guards place (risaf.guard_from [])

unfoldable pub guard_of : State → ℕ → Guard
guard_of s n = guard_at s (shape_of n).place

abbrev pub with_rifsc : State → Rifsc → State
with_rifsc s r = record { rifsc = r; iac = s.iac; guards = s.guards }

abbrev pub with_iac : State → Iac → State
with_iac s i = record { rifsc = s.rifsc; iac = i; guards = s.guards }

abbrev pub with_guards : State → List Guard → State
with_guards s gs = record { rifsc = s.rifsc; iac = s.iac; guards = gs }

abbrev pub with_guard_at : State → ℕ → Guard → State
with_guard_at s place g = with_guards s (set s.guards place g)

unfoldable pub with_guard : State → ℕ → Guard → State
with_guard s n g = with_guard_at s (shape_of n).place g

-- the state with flag i raised
abbrev pub flagged : Flag → State → State
flagged i s = with_iac s (raise i s.iac)

unfoldable pub reset_state : State
reset_state =
    record {
      rifsc = rifsc.reset;
      iac = iac.reset;
      guards = map (λ (g : GuardRow). risaf.reset g.granule) guards;
    }
