-- What the rules grant, as document 01 says it, region by region. proofs/Granted has the law that this is "no test fails".
use Rattle.std.specs.Prelude.{Bool, not, ◌&&◌, ◌||◌, cond, List, ℕ}
use Rattle.std.specs.Bool.{beq}
use Rattle.access.specs.Bus.{heard}
use Rattle.access.specs.declared.bus.Bus.{Bus}
use Rattle.access.specs.declared.kind.Kind.{Kind}
use Rattle.regions.specs.Rules.{is_default, every_base, sec_equal, privc_passed, enabled_for, working_sec, working_priv, opens, some_sub, every_sub, counted, covered}

-- rule 0: secure, privileged, CID 1, of which AHB tests the first two
abbrev pub grants0 : Bus → Kind → Bool
grants0 bus k = k.secure && k.privileged && is_default bus k

-- a base region grants: secure equals SEC; privileged or PRIVC of the CID is 0; the enable for CID and direction is 1
abbrev pub base_grants : List ℕ → Kind → ℕ → Bool
base_grants w k x = sec_equal w k x && privc_passed w k x && enabled_for w k x

-- rule 1: every enabled covering base region must grant
abbrev pub grants1 : List ℕ → ℕ → ℕ → Kind → Bool
grants1 w n o k = every_base w n o (base_grants w k)

-- rule 2, over all that count: secure equals "all working SEC are 1"; privileged, or not all working PRIV are 1; at least one opens
abbrev pub grants2 : List ℕ → ℕ → ℕ → Kind → Bool
grants2 w n o k =
    beq k.secure (every_sub w n o (working_sec w))
    && (k.privileged || not (every_sub w n o (working_priv w)))
    && some_sub w n o (opens w k)

-- as the bus hears the asking: if some subregion counts, rule 2; else if some enabled base region covers, rule 1; else rule 0
unfoldable pub rule_grants : Bus → List ℕ → ℕ → ℕ → Kind → Bool
rule_grants bus w n o k =
    let h = heard bus k in
    cond (counted w n o) (grants2 w n o h) (cond (covered w n o) (grants1 w n o h) (grants0 bus h))
