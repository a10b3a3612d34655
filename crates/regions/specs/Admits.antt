-- What the code of the rules and of the rights word goes by: the three tests of the rule that governs an offset, for all compartments at
-- once, bit c of a mask for CID c. proofs/AdmitsTests has the law that they are Rules.antt's.
use Rattle.std.specs.Prelude.{Bool, true, false, not, ◌||◌, cond, List, ℕ, ◌+◌, ◌*◌, ◌/◌, ◌^◌, eqb, Option, Some, None}
use Rattle.std.specs.Int.Bits.{bit_or}
use Rattle.words.specs.Bit.{bit, one, word, field}
use Rattle.access.specs.Kind.{kind_of}
use Rattle.access.specs.declared.bus.Bus.{Bus}
use Rattle.access.specs.declared.bus.Bus.TheVariants.{Axi, Ahb}
use Rattle.access.specs.declared.kind.Kind.{Kind}
use Rattle.regions.specs.Words.{enable_bit, sec_bit, priv_bit, privc_bit, read_bit, write_bit}
use Rattle.regions.specs.Rules.{Tests, reason_of, granted, covered, decided}
use Rattle.regions.specs.Masks.{masks, openings}
use Rattle.regions.specs.declared.admits.Admits.{Admits}
use Rattle.regions.specs.declared.masks.Masks.{Masks}
use Rattle.regions.specs.declared.verdict.Rule.TheVariants.{Default, Base, Subregion}
use Rattle.regions.specs.declared.verdict.Verdict.{Verdict}

-- ---- by the rule that governs

-- the compartments of rule 0: CID 1, and CID 7; on AHB all
abbrev pub defaults : Bus → ℕ
defaults Axi = 0x82
defaults Ahb = 0xff

-- rule 0: secure; no compartment unprivileged
unfoldable pub by_default : Bus → Admits
by_default bus =
    record { rule = Default; secure = true; nonsecure = false; closed = 0xff; reads = defaults bus; writes = defaults bus }

-- rule 1, with CID 7 enabled
unfoldable pub by_bases : Masks → Admits
by_bases m =
    record {
      rule = Base;
      secure = bit m.every sec_bit;
      nonsecure = not (bit m.some sec_bit);
      closed = m.some / 2 ^ privc_bit 0;
      reads = bit_or m.enables 0x80;
      writes = bit_or (m.enables / 2 ^ write_bit 0) 0x80;
    }

-- the compartments of a mask, and CID 7 where there are any
unfoldable pub with_debugger : ℕ → ℕ
with_debugger mask = cond (eqb mask 0) 0 (bit_or mask 0x80)

-- all compartments, or none
abbrev pub all_if : Bool → ℕ
all_if b = cond b 0xff 0

-- rule 2, with the compartments that may read and write
unfoldable pub by_subs : Masks → ℕ → ℕ → Admits
by_subs m reads writes =
    record {
      rule = Subregion;
      secure = bit m.secure sec_bit;
      nonsecure = not (bit m.secure sec_bit);
      closed = all_if (bit m.privileged priv_bit);
      reads = reads;
      writes = writes;
    }

-- where some base region covers: a subregion counts where opens has a bit
unfoldable pub by_regions : Masks → Admits
by_regions m =
    cond (eqb m.opens 0) (by_bases m)
    (by_subs m (with_debugger (field m.opens (read_bit 0) 8)) (with_debugger (field m.opens (write_bit 0) 8)))

-- the same for one asking, whose direction bit den of CFGR enables: for no other compartment and direction is it right in rule 2
unfoldable pub by_asked : ℕ → Masks → Admits
by_asked den m =
    cond (bit m.opens enable_bit) (by_subs m (all_if (bit m.opens den)) (all_if (bit m.opens den))) (by_bases m)

-- some base region covers where some CFGR has the enable
unfoldable pub by_masks : Bus → Masks → Admits
by_masks bus m = cond (bit m.some enable_bit) (by_regions m) (by_default bus)

unfoldable pub admitted : Bus → List ℕ → ℕ → ℕ → Admits
admitted bus w n o = cond (covered w n o) (by_regions (masks false openings w n o)) (by_default bus)

-- ---- as the bus hears them

-- all compartments where CID 0 is one of the mask's
abbrev pub all_as_zero : ℕ → ℕ
all_as_zero mask = all_if (bit mask 0)

-- each compartment as the one that it is heard as
unfoldable pub as_heard : Bus → Admits → Admits
as_heard Axi a = a
as_heard Ahb a =
    record {
      rule = a.rule;
      secure = a.secure;
      nonsecure = a.nonsecure;
      closed = all_as_zero a.closed;
      reads = all_as_zero a.reads;
      writes = all_as_zero a.writes;
    }

-- ---- the tests

-- this security passes
abbrev pub admits_security : Admits → Bool → Bool
admits_security a secure = cond secure a.secure a.nonsecure

-- the compartments that pass in this direction
abbrev pub open_to : Admits → Bool → ℕ
open_to a write = cond write a.writes a.reads

unfoldable pub tests_of : Admits → Kind → Tests
tests_of a k =
    record {
      security = admits_security a k.secure;
      privilege = k.privileged || not (bit a.closed k.cid.0);
      compartment = bit (open_to a k.write) k.cid.0;
    }

unfoldable pub verdict_of : Admits → Kind → Verdict
verdict_of a k = record { rule = a.rule; reason = reason_of (tests_of a k) }

-- that of rule 1 or 2, or none where rule 0 governs
abbrev pub governed : List ℕ → ℕ → ℕ → Kind → Option Verdict
governed w n o k = cond (covered w n o) (Some (decided Axi w n o k)) None

-- ---- the rights

-- the wide bits of the rights word from bit at
unfoldable pub rights_from : Admits → ℕ → ℕ → ℕ
rights_from a at wide = word wide (λ i. granted (verdict_of a (kind_of (at + i))))

-- where the byte of a direction, a privilege and a security begins
abbrev pub byte_at : Bool → Bool → Bool → ℕ
byte_at write privileged secure = 8 * (one write + 2 * one privileged + 4 * one secure)

-- that byte: bit c is what they say to CID c
abbrev pub byte_of : Admits → Bool → Bool → Bool → ℕ
byte_of a write privileged secure = rights_from a (byte_at write privileged secure) 8
