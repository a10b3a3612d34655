-- IISR names the flag of every guard, so that a refused access to it raises one: document 02, Q-6, "table 28 fits the IISR constants".
use mathlib.Core.Bool.{Bool, true}
use mathlib.Core.Path.{◌≡◌, refl}
use Prim.Native.Nat.{ℕ}
use Rattle.words.specs.Six.{bit_at}
use Rattle.iac.specs.Registers.{iisrs}
use Rattle.risaf.specs.Guards.{GuardRow, guards, shape_of, is_guard}
use Rattle.risaf.specs.declared.guards.Shape.{Shape}
use Rattle.risaf.proofs.Shapes.{every, passed, by-row}

named : GuardRow → Bool
named g = bit_at iisrs g.flag

all_named : every named guards ≡ true
unfolding every named
all_named = refl

pub flag-named : (n : ℕ) → is_guard n ≡ true → bit_at iisrs (shape_of n).flag.0 ≡ true
unfolding named
flag-named n h = by-row (λ (s : Shape). bit_at iisrs s.flag.0 ≡ true) n h (λ i l q. passed named guards all_named i l)
