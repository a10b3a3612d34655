-- Every register's word lies among the guard's.
use Rattle.std.specs.Prelude.{Option, Some, None, is_some, unwrap_or, option_map}
use mathlib.Core.Bool.{true≢false}
use mathlib.Core.Path.{◌≡◌, refl, sym, ap, subst}
use Prim.Native.Nat.{ℕ, ◌<◌}
use native.Mathlib.Omega.{arith}
use lib.Dec.{lit<}
use Rattle.regions.specs.Words.{most_regions}
use Rattle.risaf.specs.Contents.{guard_size}
use Rattle.risaf.specs.Registers.{register_at}
use Rattle.risaf.specs.Rows.{Placed, of_head, of_base, of_sub, row_of, row_at}
use Rattle.risaf.specs.declared.rows.Row.{Row}
use Rattle.risaf.specs.declared.registers.Head.{Head}
use Rattle.risaf.specs.declared.registers.Head.TheVariants.{Cr, Iasr, Iacr, Iaesr, Iaddr}
use Rattle.risaf.specs.declared.registers.BaseField.{BaseField}
use Rattle.risaf.specs.declared.registers.BaseField.TheVariants.{Cfgr, Start, End, Cidcfgr}
use Rattle.risaf.specs.declared.registers.SubField.{SubField}
use Rattle.risaf.specs.declared.registers.SubField.TheVariants.{SubCfgr, SubStart, SubEnd, Nest}
use Rattle.risaf.specs.declared.registers.Register.{Register}
use Rattle.risaf.specs.declared.registers.Register.TheVariants.{OfHead, OfBase, OfSub}
use Rattle.risaf.proofs.RegisterMap.{register-placed}

head-place : (head : Head) → (of_head head).place < guard_size
unfolding of_head
head-place Cr = lit< tt
head-place Iasr = lit< tt
head-place Iacr = lit< tt
head-place Iaesr = lit< tt
head-place Iaddr = lit< tt

base-place : (x : ℕ) (field : BaseField) → x < most_regions → (of_base x field).place < guard_size
unfolding of_base
base-place x Cfgr h = omega arith
base-place x Start h = omega arith
base-place x End h = omega arith
base-place x Cidcfgr h = omega arith

sub-place : (x s : ℕ) (field : SubField) → x < most_regions → s < 2 → (of_sub x s field).place < guard_size
unfolding of_sub
sub-place x s SubCfgr h l = omega arith
sub-place x s SubStart h l = omega arith
sub-place x s SubEnd h l = omega arith
sub-place x s Nest h l = omega arith

row-place : (reg : Register) → Placed reg → (row_of reg).place < guard_size
unfolding row_of
row-place (OfHead head) h = head-place head
row-place (OfBase x field) h = base-place x field h
row-place (OfSub x s field) h = sub-place x s field h.0 h.1

pub place-fits : (n o : ℕ) {row : Row} → row_at n o ≡ Some row → row.place < guard_size
unfolding row_at
place-fits n o {row} = go (register_at n o) refl
  where
    go : (r : Option Register) → register_at n o ≡ r → option_map row_of r ≡ Some row → row.place < guard_size
    go None e h = absurd (true≢false (sym (ap is_some h)))
    go (Some reg) e h = subst (λ (r : Row). r.place < guard_size) (ap (λ (r : Option Row). unwrap_or r row) h) (row-place reg (register-placed n o e))
