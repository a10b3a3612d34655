use borrow.Author.Tests.{eq-eqb, ne_eqb, lt-ltb, le-ltb}
use native.Mathlib.Nat.{add-sub_cancel_left}
use Rattle.device.specs.Layout.{regions_in}
use Rattle.device.proofs.GuardLayout.{regions-part}
use Rattle.device.proofs.layout.region_words.Goals as goal

pub returns-then-state-ne-STATE_WORDS : goal.returns-then-state-ne-STATE_WORDS
unfolding regions_in
returns-then-state-ne-STATE_WORDS c = simp (ne_eqb _ _ c.if-state-ne-STATE_WORDS.true)

pub returns-then-place-ge-GUARD_COUNT : goal.returns-then-place-ge-GUARD_COUNT
unfolding regions_in
returns-then-place-ge-GUARD_COUNT c = simp (eq-eqb _ _ c.if-state-ne-STATE_WORDS.false, le-ltb _ _ c.if-place-ge-GUARD_COUNT.true)

pub returns : goal.returns
unfolding regions_in
returns c =
    let a = c.args in
    simp (eq-eqb _ _ c.if-state-ne-STATE_WORDS.false, lt-ltb _ _ c.if-place-ge-GUARD_COUNT.false, add-sub_cancel_left)
    (regions-part a.state.now a.place c.if-place-ge-GUARD_COUNT.false)
