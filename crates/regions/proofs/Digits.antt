-- The number of a bit.
use mathlib.Core.Bool.{Bool, true, false}
use mathlib.Core.Path.{◌≡◌, refl}
use Prim.Native.Nat.{◌≤◌}
use lib.Dec.{eqb, lit≤}
use mir.Val.{bool_byte}
use Rattle.words.specs.Bit.{one}

pub one-most : (b : Bool) → one b ≤ 1
one-most true = lit≤ tt
one-most false = lit≤ tt

pub one-is : (b : Bool) → eqb (one b) 1 ≡ b
one-is true = refl
one-is false = refl

-- the code's b as u32
pub byte_one : (b : Bool) → bool_byte b ≡ one b
byte_one true = refl
byte_one false = refl

pub byte-most : (b : Bool) → bool_byte b ≤ 1
byte-most true = lit≤ tt
byte-most false = lit≤ tt
