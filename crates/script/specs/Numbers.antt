-- What a field says: document 01, "8 lowercase hex digits", "decimal without leading zeros", and single letters.
use Rattle.std.specs.Bool.{then_some}
use Rattle.std.specs.Prelude.{Bool, true, false, not, ◌&&◌, ◌||◌, cond, List, [], ◌∷◌, ℕ, ◌+◌, ◌-◌, ◌*◌, eqb, leb, length, Option, Some, None}
use Prim.Native.Char.{code}
use Rattle.device.specs.declared.event.Operation.{Operation}
use Rattle.device.specs.declared.event.Operation.TheVariants.{Read, Write, Fetch}
use Rattle.script.specs.Fields.{same}

-- ---- digits

-- 0 to 9
abbrev pub is_decimal : ℕ → Bool
is_decimal b = leb (code "0") b && leb b (code "9")

-- 0 to 9, a to f
abbrev pub is_hex : ℕ → Bool
is_hex b = is_decimal b || (leb (code "a") b && leb b (code "f"))

-- the value of a digit
abbrev pub digit : ℕ → ℕ
digit b = cond (leb b (code "9")) (b - code "0") (b - code "a" + 10)

unfoldable pub every : (ℕ → Bool) → List ℕ → Bool
every p [] = true
every p (b ∷ bs) = p b && every p bs

-- the number that has the digits of n and then these
unfoldable pub value_from : ℕ → ℕ → List ℕ → ℕ
value_from base n [] = n
value_from base n (b ∷ bs) = value_from base (base * n + digit b) bs

-- ---- numbers

-- exactly 8 digits
unfoldable pub hex_of : List ℕ → Option ℕ
hex_of s = then_some (eqb (length s) 8 && every is_hex s) (value_from 16 0 s)

-- at least one digit, and no zero before another
abbrev pub unpadded : List ℕ → Bool
unpadded [] = false
unpadded (b ∷ []) = true
unpadded (b ∷ c ∷ bs) = not (eqb b (code "0"))

-- the most that a decimal number may be
abbrev pub number_most : ℕ
number_most = 4294967295

unfoldable pub decimal_of : List ℕ → Option ℕ
decimal_of s =
    then_some (unpadded s && every is_decimal s && leb (value_from 10 0 s) number_most) (value_from 10 0 s)

-- ---- letters

-- one letter or the other
unfoldable pub either_of : ℕ → ℕ → List ℕ → Option Bool
either_of this that s = cond (same s (this ∷ [])) (Some true) (cond (same s (that ∷ [])) (Some false) None)

-- r, w or x
unfoldable pub operation_of : List ℕ → Option Operation
operation_of s =
    cond (same s (code "r" ∷ [])) (Some Read) (cond (same s (code "w" ∷ [])) (Some Write) (cond (same s (code "x" ∷ [])) (Some Fetch) None))
