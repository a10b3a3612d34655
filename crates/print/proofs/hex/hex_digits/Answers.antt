-- `print::hex::hex_digits` meets its contract: nothing passes 64 bits, and the bytes are the digits.
use mathlib.Core.Path.{◌∙◌}
use native.Mathlib.Omega.{arith}
use Rattle.print.proofs.HexDigits.{hex-digits, digits-most, letters-most, low-most, low_part}
use Rattle.print.proofs.hex.hex_digits.Goals as goal

pub overflow_sub-digits : goal.overflow_sub-digits
overflow_sub-digits c = low_part c.args.n

pub overflow_mul-digits : goal.overflow_mul-digits
overflow_mul-digits c = record { fits = omega (arith, low-most c.args.n) }

pub overflow_add-digits : goal.overflow_add-digits
overflow_add-digits c = record { fits = omega (arith, digits-most c.args.n) }

pub overflow_add-letters : goal.overflow_add-letters
overflow_add-letters c = record { fits = omega (arith, digits-most c.args.n) }

pub overflow_add-word : goal.overflow_add-word
overflow_add-word c = record { fits = omega (arith, digits-most c.args.n) }

pub overflow_mul-word : goal.overflow_mul-word
overflow_mul-word c = record { fits = omega (arith, letters-most c.args.n) }

pub overflow_add-word-2 : goal.overflow_add-word-2
overflow_add-word-2 c = record { fits = omega (arith, digits-most c.args.n, letters-most c.args.n) }

pub returns : goal.returns
returns c = c.to_le_bytes.ensures ∙ hex-digits c.args.n
