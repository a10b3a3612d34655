-- The controller's registers: document 01, "RIFSC", its first paragraph.
use Rattle.std.specs.Prelude.{Bool, true, false, cond, List, [], ◌∷◌, ℕ, ◌-◌, ◌/◌, eqb, get_or, Option, Some, None}
use Rattle.access.specs.Offset.{within}
use Rattle.rifsc.specs.declared.registers.Lock.{Lock}
use Rattle.rifsc.specs.declared.registers.Lock.TheVariants.{Glock, RimcLock, Never}
use Rattle.rifsc.specs.declared.registers.Row.{Row}
use Rattle.rifsc.specs.declared.registers.Register.{Register}
use Rattle.rifsc.specs.declared.registers.Register.TheVariants.{Cr, Seccfgr, Privcfgr, Rcfglockr, Rimccr, Attr, Ppsr}

-- the register at an offset that is a multiple of 4
unfoldable pub register_at : ℕ → Option Register
register_at o =
    cond (eqb o 0x000) (Some Cr)
    (cond (within 0x010 0x027 o) (Some (Seccfgr ((o - 0x010) / 4)))
    (cond (within 0x030 0x047 o) (Some (Privcfgr ((o - 0x030) / 4)))
    (cond (within 0x050 0x067 o) (Some (Rcfglockr ((o - 0x050) / 4)))
    (cond (eqb o 0xc00) (Some Rimccr)
    (cond (within 0xc10 0xc43 o) (Some (Attr ((o - 0xc10) / 4)))
    (cond (within 0xfb0 0xfc7 o) (Some (Ppsr ((o - 0xfb0) / 4)))
    None))))))

-- PPSRx, constants: which bits of SECCFGRx, PRIVCFGRx and RCFGLOCKRx are named
abbrev pub ppsrs : List ℕ
ppsrs = 0xffff_ff7f ∷ 0x77ff_ffff ∷ 0xf7df_f03b ∷ 0x0000_05ff ∷ 0xbbef_ffef ∷ 0x7dde_ef7f ∷ []

unfoldable pub ppsr : ℕ → ℕ
ppsr x = get_or ppsrs x 0

-- a row of the table, of a register that can be written
abbrev pub row : Bool → Lock → ℕ → ℕ → ℕ → Row
row secure lock index fixed named =
    record { writable = true; secure = secure; lock = lock; index = index; fixed = fixed; named = named }

-- The table of registers: whether a write needs secure (every write needs privileged), which lock stops every write, the index,
-- the bits that read 1 whatever is stored (RIMC_CR reads 256*DAPCID + 16 + GLOCK), the named bits.
unfoldable pub row_of : Register → Row
row_of Cr = row true Glock 0 0 0x0000_0001
row_of (Seccfgr x) = row true Glock x 0 (ppsr x)
row_of (Privcfgr x) = row false Glock x 0 (ppsr x)
row_of (Rcfglockr x) = row true Glock x 0 (ppsr x)
row_of Rimccr = row true RimcLock 0 0x0000_0010 0x0000_0701
row_of (Attr m) = row true RimcLock m 0 0x0000_0370
row_of (Ppsr x) = record { writable = false; secure = true; lock = Never; index = x; fixed = ppsr x; named = 0 }
