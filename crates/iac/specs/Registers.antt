-- The registers of the IAC: document 01, "IAC", its first sentences. For IISR's place document 004's formula decides.
use Rattle.std.specs.Prelude.{Bool, true, false, cond, List, [], ◌∷◌, ℕ, ◌-◌, ◌/◌, get_or, Option, Some, None}
use Rattle.access.specs.Offset.{within}
use Rattle.iac.specs.declared.registers.Row.{Row}
use Rattle.iac.specs.declared.registers.Register.{Register}
use Rattle.iac.specs.declared.registers.Register.TheVariants.{Ier, Isr, Icr, Iisr}

-- the register at an offset that is a multiple of 4
unfoldable pub register_at : ℕ → Option Register
register_at o =
    cond (within 0x000 0x017 o) (Some (Ier ((o - 0x000) / 4)))
    (cond (within 0x080 0x097 o) (Some (Isr ((o - 0x080) / 4)))
    (cond (within 0x100 0x117 o) (Some (Icr ((o - 0x100) / 4)))
    (cond (within 0x36c 0x383 o) (Some (Iisr ((o - 0x36c) / 4)))
    None)))

-- IISRx, constants: which bits of IERx, ISRx and ICRx are named
abbrev pub iisrs : List ℕ
iisrs = 0xffff_ff7f ∷ 0x77ff_ffff ∷ 0x77df_f03b ∷ 0x0000_05ff ∷ 0x7bef_ffef ∷ 0x0000_0000 ∷ []

unfoldable pub iisr : ℕ → ℕ
iisr x = get_or iisrs x 0

abbrev pub row : Bool → Bool → Bool → ℕ → ℕ → Row
row readable writable guarded fixed named =
    record { readable = readable; writable = writable; guarded = guarded; fixed = fixed; named = named }

-- The table of registers: is it not write-only, not read-only, does it need secure and privileged (to read also), the
-- bits that read 1 whatever is stored, the named bits.
unfoldable pub row_of : Register → Row
row_of (Ier x) = row true true true 0 (iisr x)
row_of (Isr x) = row true false true 0 (iisr x)
row_of (Icr x) = row false true true 0 (iisr x)
row_of (Iisr x) = row true false false (iisr x) 0
