-- `script::numbers::hex` meets its contract: what is done to the eight bytes at once is done to each.
use mathlib.Core.Path.{◌≡◌, refl, sym, ap, ◌∙◌}
use Prim.Native.Nat.{◌+◌, ◌*◌, ◌/◌, ◌^◌}
use native.Mathlib.Omega.{arith}
use lib.Bits.{bit_and, and_le_r}
use lib.ListN.{take, drop}
use Rattle.script.specs.Numbers.{hex_of}
use Rattle.script.proofs.Gathered.{lower_bytes, lower_pairs}
use Rattle.script.proofs.HexWord.{each, digits_in, digits-most, shown-most, hex-not-low, hex-not-good, hex-good, hex-value, bytes_at, taken, bytes-known, eight-packed}
use Rattle.script.proofs.numbers.hex.Goals as goal

pub returns-then-digits-ne0 : goal.returns-then-digits-ne0
returns-then-digits-ne0 c =
    let bytes = bytes-known 8 (c.args.line.now) (c.args.from) (λ i. (c.shared_slice_known-1.given i).fits) in
    let is = eight-packed (c.args.line.now) (c.args.from) _ _ c.four.ensures c.four-2.ensures in
    let there : hex_of (bytes_at (c.args.line.now) (c.args.from) 8) ≡ hex_of (take 8 (drop (c.args.from) (c.args.line.now))) = ap hex_of (sym (taken 8 (c.args.line.now) (c.args.from) c.requires)) in
    hex-not-low _ _ _ _ _ _ _ _ bytes (4294967296 * c.four.result + c.four-2.result) is c.if-digits-ne0.true ∙ there

pub returns-then-digits-tens : goal.returns-then-digits-tens
returns-then-digits-tens c =
    let bytes = bytes-known 8 (c.args.line.now) (c.args.from) (λ i. (c.shared_slice_known-1.given i).fits) in
    let is = eight-packed (c.args.line.now) (c.args.from) _ _ c.four.ensures c.four-2.ensures in
    let there : hex_of (bytes_at (c.args.line.now) (c.args.from) 8) ≡ hex_of (take 8 (drop (c.args.from) (c.args.line.now))) = ap hex_of (sym (taken 8 (c.args.line.now) (c.args.from) c.requires)) in
    hex-not-good _ _ _ _ _ _ _ _ bytes (4294967296 * c.four.result + c.four-2.result) is c.if-digits-tens.true ∙ there

pub returns : goal.returns
returns c =
    let bytes = bytes-known 8 (c.args.line.now) (c.args.from) (λ i. (c.shared_slice_known-1.given i).fits) in
    let is = eight-packed (c.args.line.now) (c.args.from) _ _ c.four.ensures c.four-2.ensures in
    let there : hex_of (bytes_at (c.args.line.now) (c.args.from) 8) ≡ hex_of (take 8 (drop (c.args.from) (c.args.line.now))) = ap hex_of (sym (taken 8 (c.args.line.now) (c.args.from) c.requires)) in
    hex-value _ _ _ _ _ _ _ _ bytes (4294967296 * c.four.result + c.four-2.result) is (hex-good _ _ _ _ _ _ _ _ bytes (4294967296 * c.four.result + c.four-2.result) is c.if-digits-ne0.false c.if-digits-tens.false)
    _ _ refl refl ∙ there

pub overflow_mul-digits-2 : goal.overflow_mul-digits-2
overflow_mul-digits-2 c = omega (arith, and_le_r (4294967296 * c.four.result + c.four-2.result) (64 * each))

pub overflow_add-digits : goal.overflow_add-digits
overflow_add-digits c = omega (arith, digits-most (4294967296 * c.four.result + c.four-2.result))

pub overflow_add-tens : goal.overflow_add-tens
overflow_add-tens c = omega (arith, digits-most (4294967296 * c.four.result + c.four-2.result))

pub overflow_add-digits-2 : goal.overflow_add-digits-2
overflow_add-digits-2 c = omega (arith, digits-most (4294967296 * c.four.result + c.four-2.result))

pub overflow_mul-tens-3 : goal.overflow_mul-tens-3
overflow_mul-tens-3 c = omega (arith, shown-most (4294967296 * c.four.result + c.four-2.result))

pub overflow_add-digits-3 : goal.overflow_add-digits-3
overflow_add-digits-3 c = omega (arith, digits-most (4294967296 * c.four.result + c.four-2.result), shown-most (4294967296 * c.four.result + c.four-2.result))

pub overflow_add-pairs : goal.overflow_add-pairs
overflow_add-pairs c = omega (arith, digits-most (4294967296 * c.four.result + c.four-2.result))

pub overflow_add-fours : goal.overflow_add-fours
overflow_add-fours c =
    let paired-most = and_le_r (digits_in (4294967296 * c.four.result + c.four-2.result) + digits_in (4294967296 * c.four.result + c.four-2.result) / 2 ^ 4) lower_bytes in
    omega (arith, paired-most)

pub overflow_add-result : goal.overflow_add-result
overflow_add-result c = omega (arith, and_le_r ((bit_and (digits_in (4294967296 * c.four.result + c.four-2.result) + digits_in (4294967296 * c.four.result + c.four-2.result) / 2 ^ 4) lower_bytes) + (bit_and (digits_in (4294967296 * c.four.result + c.four-2.result) + digits_in (4294967296 * c.four.result + c.four-2.result) / 2 ^ 4) lower_bytes) / 2 ^ 8) lower_pairs)
