-- Which rule governs an offset, and which of its tests a kind of asking fails: document 01, "Which rule governs", and document 02, Q-5,
-- "Each test is made over all governing regions before the next begins, and the first that fails is the reason".
-- w are the words of a guard's regions, n its count of base regions, o the offset, k the kind of asking, as the guard's bus hears it.
use Rattle.std.specs.Prelude.{Bool, true, not, ◌&&◌, ◌||◌, cond, List, ℕ, ◌+◌, get_or, Option, Some, None, is_none}
use Rattle.std.specs.Bool.{beq}
use Rattle.words.specs.Bit.{bit, field}
use Rattle.access.specs.Bus.{heard}
use Rattle.access.specs.Fold.{any, all}
use Rattle.access.specs.Offset.{within}
use Rattle.access.specs.Kind.{equals, debugger}
use Rattle.access.specs.declared.bus.Bus.{Bus}
use Rattle.access.specs.declared.bus.Bus.TheVariants.{Axi, Ahb}
use Rattle.access.specs.declared.kind.Cid.{Cid}
use Rattle.access.specs.declared.kind.Kind.{Kind}
use Rattle.regions.specs.Words.{start_at, end_at, cidcfgr_at, base, sub, enable_bit, sec_bit, privc_bit, srcid_bit, priv_bit, rden_bit, wren_bit, read_bit, write_bit}
use Rattle.regions.specs.declared.verdict.Reason.{Reason}
use Rattle.regions.specs.declared.verdict.Reason.TheVariants.{Security, Privilege, Compartment}
use Rattle.regions.specs.declared.verdict.Rule.{Rule}
use Rattle.regions.specs.declared.verdict.Rule.TheVariants.{Default, Base, Subregion}
use Rattle.regions.specs.declared.verdict.Verdict.{Verdict}

-- ---- one region

-- the region or subregion at p is enabled (BREN, SREN) and covers START to END, both included
abbrev pub covers : List ℕ → ℕ → ℕ → Bool
covers w p o = bit (get_or w p 0) enable_bit && within (get_or w (p + start_at) 0) (get_or w (p + end_at) 0) o

-- subregion s of base region x counts where it and its base region are both enabled and both cover
abbrev pub counts : List ℕ → ℕ → ℕ → ℕ → Bool
counts w o x s = covers w (base x) o && covers w (sub x s) o

-- CID 7 passes every compartment test
abbrev pub passes : Kind → Bool
passes k = equals k.cid debugger

-- the bit for the direction, of a write bit and a read bit
abbrev pub direction : Kind → Bool → Bool → Bool
direction k writes reads = cond k.write writes reads

-- ---- the tests of a rule, in their order: whether an asking passes each

pub record Tests : Type 0 where
  pub security : Bool
  pub privilege : Bool
  -- and the direction
  pub compartment : Bool

-- the first that fails: security, privilege, compartment or direction; none where none does
abbrev pub reason_of : Tests → Option Reason
reason_of t = cond t.security (cond t.privilege (cond t.compartment None (Some Compartment)) (Some Privilege)) (Some Security)

-- ---- rule 0

-- CID 1; on AHB there is no such test (Q-6, "rule 0 tests only secure and privileged")
abbrev pub is_default : Bus → Kind → Bool
is_default Axi k = equals k.cid (record { 0 = 1 }) || passes k
is_default Ahb k = true

-- secure, privileged, CID 1
abbrev pub tests0 : Bus → Kind → Tests
tests0 bus k = record { security = k.secure; privilege = k.privileged; compartment = is_default bus k }

-- ---- rule 1

-- every enabled base region that covers
abbrev pub every_base : List ℕ → ℕ → ℕ → (ℕ → Bool) → Bool
every_base w n o q = all n (λ x. not (covers w (base x) o) || q x)

-- secure equals SEC
abbrev pub sec_equal : List ℕ → Kind → ℕ → Bool
sec_equal w k x = beq k.secure (bit (get_or w (base x) 0) sec_bit)

-- privileged or PRIVC of the CID is 0
abbrev pub privc_passed : List ℕ → Kind → ℕ → Bool
privc_passed w k x = k.privileged || not (bit (get_or w (base x) 0) (privc_bit k.cid.0))

-- the enable for CID and direction is 1
abbrev pub enabled_for : List ℕ → Kind → ℕ → Bool
enabled_for w k x =
    let cidcfgr = get_or w (base x + cidcfgr_at) 0 in
    passes k || direction k (bit cidcfgr (write_bit k.cid.0)) (bit cidcfgr (read_bit k.cid.0))

abbrev pub tests1 : List ℕ → ℕ → ℕ → Kind → Tests
tests1 w n o k =
    record {
      security = every_base w n o (sec_equal w k);
      privilege = every_base w n o (privc_passed w k);
      compartment = every_base w n o (enabled_for w k);
    }

-- ---- rule 2

abbrev pub srcid : List ℕ → ℕ → ℕ → Cid
srcid w x s = record { 0 = field (get_or w (sub x s) 0) srcid_bit 3 }

-- working SEC: its SEC and its base's SEC
abbrev pub working_sec : List ℕ → ℕ → ℕ → Bool
working_sec w x s = bit (get_or w (sub x s) 0) sec_bit && bit (get_or w (base x) 0) sec_bit

-- working PRIV: its PRIV and its base's PRIVC for SRCID
abbrev pub working_priv : List ℕ → ℕ → ℕ → Bool
working_priv w x s = bit (get_or w (sub x s) 0) priv_bit && bit (get_or w (base x) 0) (privc_bit (srcid w x s).0)

-- its SRCID is the CID, and its direction is enabled
abbrev pub opens : List ℕ → Kind → ℕ → ℕ → Bool
opens w k x s =
    (equals (srcid w x s) k.cid || passes k)
    && direction k (bit (get_or w (sub x s) 0) wren_bit) (bit (get_or w (sub x s) 0) rden_bit)

-- some, and every, subregion that counts
abbrev pub some_sub : List ℕ → ℕ → ℕ → (ℕ → ℕ → Bool) → Bool
some_sub w n o q = any n (λ x. any 2 (λ s. counts w o x s && q x s))

abbrev pub every_sub : List ℕ → ℕ → ℕ → (ℕ → ℕ → Bool) → Bool
every_sub w n o q = all n (λ x. all 2 (λ s. not (counts w o x s) || q x s))

-- secure equals "all working SEC are 1"; privileged, or not all working PRIV are 1; at least one opens
abbrev pub tests2 : List ℕ → ℕ → ℕ → Kind → Tests
tests2 w n o k =
    record {
      security = beq k.secure (every_sub w n o (working_sec w));
      privilege = k.privileged || not (every_sub w n o (working_priv w));
      compartment = some_sub w n o (opens w k);
    }

-- ---- the rule that governs

-- some subregion counts, some enabled base region covers
abbrev pub counted : List ℕ → ℕ → ℕ → Bool
counted w n o = any n (λ x. any 2 (counts w o x))

abbrev pub covered : List ℕ → ℕ → ℕ → Bool
covered w n o = any n (λ x. covers w (base x) o)

abbrev pub rule_of : List ℕ → ℕ → ℕ → Rule
rule_of w n o = cond (counted w n o) Subregion (cond (covered w n o) Base Default)

-- its tests
unfoldable pub tests : Bus → List ℕ → ℕ → ℕ → Kind → Tests
tests bus w n o k = cond (counted w n o) (tests2 w n o k) (cond (covered w n o) (tests1 w n o k) (tests0 bus k))

-- the verdict on a kind of asking, which the bus hears in its way: the rule, and the reason
unfoldable pub decided : Bus → List ℕ → ℕ → ℕ → Kind → Verdict
decided bus w n o k = record { rule = rule_of w n o; reason = reason_of (tests bus w n o (heard bus k)) }

-- granted: no test fails
abbrev pub granted : Verdict → Bool
granted v = is_none v.reason
