-- Which register an offset is: document 01, "Guards", its second paragraph.
use Rattle.std.specs.Prelude.{cond, ℕ, ◌-◌, ◌/◌, ◌%◌, eqb, ltb, Option, Some, None}
use Rattle.access.specs.Offset.{within}
use Rattle.risaf.specs.declared.registers.Head.TheVariants.{Cr, Iasr, Iacr, Iaesr, Iaddr}
use Rattle.risaf.specs.declared.registers.BaseField.TheVariants.{Cfgr, Start, End, Cidcfgr}
use Rattle.risaf.specs.declared.registers.SubField.TheVariants.{SubCfgr, SubStart, SubEnd, Nest}
use Rattle.risaf.specs.declared.registers.Register.{Register}
use Rattle.risaf.specs.declared.registers.Register.TheVariants.{OfHead, OfBase, OfSub}

-- the base region, from 0, whose block of 0x40 an offset lies in, from 0x040 on
unfoldable pub region_at : ℕ → Option ℕ
region_at o = cond (within 0x040 0x2ff o) (Some ((o - 0x040) / 0x40)) None

-- register k of subregion s of base region x
unfoldable pub sub_register : ℕ → ℕ → ℕ → Option Register
sub_register x s k =
    cond (eqb k 0x0) (Some (OfSub x s SubCfgr))
    (cond (eqb k 0x4) (Some (OfSub x s SubStart))
    (cond (eqb k 0x8) (Some (OfSub x s SubEnd))
    (cond (eqb k 0xc) (Some (OfSub x s Nest))
    None)))

-- register k of base region x: its own up to +C, subregion A's from +10, B's from +20
unfoldable pub region_register : ℕ → ℕ → Option Register
region_register x k =
    cond (eqb k 0x0) (Some (OfBase x Cfgr))
    (cond (eqb k 0x4) (Some (OfBase x Start))
    (cond (eqb k 0x8) (Some (OfBase x End))
    (cond (eqb k 0xc) (Some (OfBase x Cidcfgr))
    (cond (within 0x10 0x1f k) (sub_register x 0 (k - 0x10))
    (cond (within 0x20 0x2f k) (sub_register x 1 (k - 0x20))
    None)))))

-- of the block of a base region, if it is one of n
abbrev pub register_in : ℕ → Option ℕ → ℕ → Option Register
register_in n None k = None
register_in n (Some x) k = cond (ltb x n) (region_register x k) None

-- the register at an offset, of a guard with n base regions
unfoldable pub register_at : ℕ → ℕ → Option Register
register_at n o =
    cond (eqb o 0x000) (Some (OfHead Cr))
    (cond (eqb o 0x008) (Some (OfHead Iasr))
    (cond (eqb o 0x00c) (Some (OfHead Iacr))
    (cond (eqb o 0x020) (Some (OfHead Iaesr))
    (cond (eqb o 0x024) (Some (OfHead Iaddr))
    (register_in n (region_at o) (o % 0x40))))))
