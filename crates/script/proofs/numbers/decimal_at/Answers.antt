-- `script::numbers::decimal_at` meets its contract: what is read so far and the rest of the field say what the whole field says.
use borrow.Author.Tests.{eqb-false}
use mathlib.Core.Bool.{Bool, true, false, not, ◌||◌, true≢false}
use mathlib.Core.Path.{◌≡◌, refl, sym, ap, ◌∙◌}
use Prim.Native.Nat.{◌+◌, ◌*◌, ◌-◌}
use native.Mathlib.Omega.{arith}
use lib.Dec.{eqb}
use lib.ListN.{get_or, length}
use Rattle.script.specs.Places.{decimal_at}
use Rattle.script.proofs.DecimalAt.{reads_on, decimal-bounds, decimal-past, decimal-none, decimal-begin, decimal-tab, decimal-end, decimal-stop, decimal_step, decimal-over}
use Rattle.script.proofs.Told.{told}
use Rattle.script.proofs.numbers.decimal_at.Goals as goal

pub returns-then-line-from : goal.returns-then-line-from
returns-then-line-from c = decimal-past _ _ c.if-line-from.true

pub returns-then-not-is_decimal : goal.returns-then-not-is_decimal
returns-then-not-is_decimal c =
    decimal-none _ _ c.if-line-from.false
    (told c.is_decimal.ensures (c.if-not-is_decimal.true))

pub loop-i-init : goal.loop-i-init
loop-i-init c =
    let first = told c.is_decimal.ensures (c.if-not-is_decimal.false) in
    let first-bounds = decimal-bounds (get_or c.args.line.now c.args.from 0) first in
    let w = c.if-line-from.false in
    (omega (arith, first-bounds), decimal-begin _ _ w first)

pub returns-then-b-eq9 : goal.returns-then-b-eq9
returns-then-b-eq9 c =
    let l = c.loop-i in
    decimal-tab _ l.n l.i c.loop-i-test.true c.if-b-eq9.true l.invariant.0 ∙ l.invariant.1

pub returns-then-n-is_decimal : goal.returns-then-n-is_decimal
returns-then-n-is_decimal c =
    let l = c.loop-i in
    decimal-stop _ l.n l.i c.loop-i-test.true c.if-b-eq9.false
    (ap (λ (t : Bool). eqb l.n 0 || not t) (sym c.is_decimal-in-loop-i.ensures) ∙ c.if-n-is_decimal.true)
    ∙ l.invariant.1

or-not : (t u : Bool) → (t || not u) ≡ false → (t ≡ false) × (u ≡ true)
or-not true u h = absurd (true≢false h)
or-not false true h = (refl, refl)
or-not false false h = absurd (true≢false h)

pub returns-then-n-gt-NUMBER_MOST : goal.returns-then-n-gt-NUMBER_MOST
returns-then-n-gt-NUMBER_MOST c =
    let more = or-not _ _ c.if-n-is_decimal.false in
    let next = told c.is_decimal-in-loop-i.ensures more.1 in
    let step : reads_on (c.args.line.now) (10 * c.loop-i.n + ((get_or (c.args.line.now) c.loop-i.i 0) - 48)) (c.loop-i.i + 1) ≡ decimal_at (c.args.line.now) c.args.from = let l = c.loop-i in decimal_step (c.args.line.now) l.n l.i c.loop-i-test.true c.if-b-eq9.false (omega (arith, eqb-false l.n 0 more.0)) next ∙ l.invariant.1 in
    decimal-over _ _ _ c.if-n-gt-NUMBER_MOST.true ∙ step

pub loop-i-preserved : goal.loop-i-preserved
loop-i-preserved c =
    let more = or-not _ _ c.if-n-is_decimal.false in
    let next = told c.is_decimal-in-loop-i.ensures more.1 in
    let onward : reads_on (c.args.line.now) (10 * c.loop-i.n + ((get_or (c.args.line.now) c.loop-i.i 0) - 48)) (c.loop-i.i + 1) ≡ decimal_at (c.args.line.now) c.args.from = let l = c.loop-i in decimal_step (c.args.line.now) l.n l.i c.loop-i-test.true c.if-b-eq9.false (omega (arith, eqb-false l.n 0 more.0)) next ∙ l.invariant.1 in
    (c.if-n-gt-NUMBER_MOST.false, onward)

pub returns : goal.returns
returns c =
    let l = c.loop-i in
    let end : l.i ≡ length c.args.line.now = omega arith in
    rw (← end) (decimal-end _ l.n l.i c.loop-i-test.false l.invariant.0 ∙ l.invariant.1)
