-- The numbers of rules and reasons: document 01, "Numbers given back", and document 02, Q-5.
use Rattle.std.specs.Prelude.{ℕ, Option, Some, None}
use Rattle.regions.specs.declared.verdict.Reason.{Reason}
use Rattle.regions.specs.declared.verdict.Reason.TheVariants.{Security, Privilege, Compartment}
use Rattle.regions.specs.declared.verdict.Rule.{Rule}
use Rattle.regions.specs.declared.verdict.Rule.TheVariants.{Default, Base, Subregion}

-- which rule governs, the value of a granted access
abbrev pub rule_number : Rule → ℕ
rule_number Default = 0
rule_number Base = 1
rule_number Subregion = 2

-- why, the value of a refused access
abbrev pub reason_number : Reason → ℕ
reason_number Security = 1
reason_number Privilege = 2
reason_number Compartment = 3

-- 0 where no test fails
abbrev pub refused_number : Option Reason → ℕ
refused_number None = 0
refused_number (Some r) = reason_number r
