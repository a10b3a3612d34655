-- Where a line's fields start and end, which is what code goes by.
use Rattle.std.specs.Prelude.{Bool, cond, List, [], ◌∷◌, ◌≡◌, ℕ, zero, suc, ◌+◌, ◌*◌, ◌≤◌, eqb, ltb, length, get_or, take, drop, Option, None, option_map}
use Rattle.script.specs.Command.{rights_fields}
use Rattle.script.specs.Fields.{tab, field_at, fields_of, same}
use Rattle.script.specs.Numbers.{decimal_of}

-- the fields from place p of a line on; past the line's end there are none
unfoldable pub rest_at : ℕ → List ℕ → List (List ℕ)
rest_at zero line = fields_of line
rest_at (suc p) [] = []
rest_at (suc p) (b ∷ line) = rest_at p line

-- the field that starts at place p
abbrev pub field_from : List ℕ → ℕ → List ℕ
field_from line p = field_at (rest_at p line) 0

-- where it ends
abbrev pub end_from : List ℕ → ℕ → ℕ
end_from line p = p + length (field_from line p)

-- a field may end at place i: there is a tab, or the line's end
abbrev pub ends_at : List ℕ → ℕ → Bool
ends_at line i = cond (ltb i (length line)) (eqb (get_or line i 0) tab) (eqb i (length line))

-- fs has k fields, and the fields after them start at place p of the line
pub record Starts (line : List ℕ) (fs : List (List ℕ)) (k p : ℕ) : Type 0 where
  pub has : k ≤ length fs
  pub within : p ≤ suc (length line)
  pub rest : rest_at p line ≡ drop k fs

-- four bytes as one number, the first the highest
abbrev pub four_at : List ℕ → ℕ → ℕ
four_at line p =
    0x100_0000 * get_or line p 0 + 0x1_0000 * get_or line (p + 1) 0 + 0x100 * get_or line (p + 2) 0 + get_or line (p + 3) 0

-- the bytes from place p on begin with these
abbrev pub begins_at : List ℕ → ℕ → List ℕ → Bool
begins_at line p word = same (take (length word) (drop p line)) word

-- the decimal number at place p, and where its field ends
unfoldable pub decimal_at : List ℕ → ℕ → Option (ℕ × ℕ)
decimal_at line p = option_map (λ n. (n, end_from line p)) (decimal_of (field_from line p))

-- s/n p/u, and no field more
unfoldable pub last_rights : List (List ℕ) → Option (Bool × Bool)
last_rights fs = cond (eqb (length fs) 2) (rights_fields fs 0) None
