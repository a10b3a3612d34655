-- The lines that are printed: document 01, "Each event prints `ans`, number, value in 8 hex digits; ..".
use Prim.Native.Char.{code}
use Rattle.std.specs.Prelude.{cond, List, [], ◌∷◌, ◌++◌, ℕ, zero, suc, ◌+◌, ◌-◌, ◌/◌, ◌%◌, ltb}
use Rattle.print.specs.Bytes.{bytes}

-- ---- numbers

-- 0 to 9, a to f
abbrev pub character : ℕ → ℕ
character d = cond (ltb d 10) (code "0" + d) (code "a" + (d - 10))

-- the last k digits of n
unfoldable pub digits_of : ℕ → ℕ → ℕ → List ℕ
digits_of base zero n = []
digits_of base (suc k) n = digits_of base k (n / base) ++ (character (n % base) ∷ [])

-- k hexadecimal digits; 8 are those of the low 32 bits
abbrev pub hex_text : ℕ → ℕ → List ℕ
hex_text k n = digits_of 16 k n

-- how many decimal digits n has, found in as many steps
unfoldable pub width_in : ℕ → ℕ → ℕ
width_in zero n = 1
width_in (suc steps) n =
    let more = suc (width_in steps (n / 10)) in
    cond (ltb n 10) 1 more

-- n steps are enough
unfoldable pub width_of : ℕ → ℕ
width_of n = width_in n n

unfoldable pub decimal_text : ℕ → List ℕ
decimal_text n = digits_of 10 (width_of n) n

-- ---- lines

-- `ans`, number, value
unfoldable pub answer_line : ℕ → ℕ → List ℕ
answer_line number value = bytes "ans\t" ++ (decimal_text number ++ bytes "\t") ++ (hex_text 8 value ++ bytes "\n")

-- `span`, start, end, rights
unfoldable pub span_line : ℕ → ℕ → ℕ → List ℕ
span_line start end rights =
    bytes "span\t" ++ (hex_text 8 start ++ bytes "\t") ++ (hex_text 8 end ++ bytes "\t") ++ (hex_text 16 rights ++ bytes "\n")

-- two numbers of k hexadecimal digits, a tab behind each
abbrev pub hex_pair : ℕ → ℕ → ℕ → List ℕ
hex_pair k x y = (hex_text k x ++ bytes "\t") ++ (hex_text k y ++ bytes "\t")

-- `diff`, start, end, old, new, count: document 02, Q-1, "start, end, old, new as in `span`, decimal count, parted by tabs"
unfoldable pub diff_line : ℕ → ℕ → ℕ → ℕ → ℕ → List ℕ
diff_line start end old new count =
    bytes "diff\t" ++ hex_pair 8 start end ++ hex_pair 16 old new ++ (decimal_text count ++ bytes "\n")

-- a label and a number
unfoldable pub label_line : List ℕ → ℕ → List ℕ
label_line label n = label ++ (decimal_text n ++ bytes "\n")

abbrev pub guard_line : ℕ → List ℕ
guard_line n = label_line (bytes "guard\t") n

abbrev pub end_line : ℕ → List ℕ
end_line count = label_line (bytes "end\t") count

abbrev pub bad_line : ℕ → List ℕ
bad_line number = label_line (bytes "bad\t") number
