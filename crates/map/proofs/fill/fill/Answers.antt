-- `map::fill::fill` meets its contract: at each return the tests that led there say how it went.
use mathlib.Core.Path.{refl, sym, ◌∙◌}
use Rattle.risaf.proofs.Shapes.{found, missed}
use native.Mathlib.Omega.{arith}
use borrow.Author.Tests.{eq-eqb, ne_eqb, le-leb, lt-leb}
use Rattle.map.specs.Fill.{fill_answer, fill_used, fill_numbers}
use Rattle.map.proofs.Guards.{small, guard-regions}
use Rattle.map.proofs.Made.{sweepable, made}
use Rattle.map.proofs.Steady.{size-most}
use Rattle.map.proofs.fill.fill.Goals as goal
use Rattle.map.proofs.fill.fill.Goals.{then-state-ne-STATE_WORDS-via-then-state-ne-STATE_WORDS, then-state-ne-STATE_WORDS-via-else-state-ne-STATE_WORDS+then-buffer-lt-LEAST_ROOM}

pub returns-then-state-ne-STATE_WORDS : goal.returns-then-state-ne-STATE_WORDS
unfolding fill_answer fill_used fill_numbers
returns-then-state-ne-STATE_WORDS c =
    elim c.then-state-ne-STATE_WORDS.branch [
      | then-state-ne-STATE_WORDS-via-then-state-ne-STATE_WORDS w ↦
          simp (ne_eqb _ _ w.if-state-ne-STATE_WORDS.true) (record { answer_value = refl; used_value = refl; buffer_after = refl })
      | then-state-ne-STATE_WORDS-via-else-state-ne-STATE_WORDS+then-buffer-lt-LEAST_ROOM w ↦
          simp (eq-eqb _ _ w.if-state-ne-STATE_WORDS.false, lt-leb _ _ w.if-buffer-lt-LEAST_ROOM.true)
          (record { answer_value = refl; used_value = refl; buffer_after = refl })
    ]

pub returns-in_default : goal.returns-in_default
unfolding fill_answer fill_used fill_numbers
returns-in_default c =
    simp (
      eq-eqb _ _ c.if-state-ne-STATE_WORDS.false,
      le-leb _ _ c.if-buffer-lt-LEAST_ROOM.false,
      missed c.args.guard.0 (sym c.shape.ensures ∙ c.in_default.is),
    )
    (record { answer_value = refl; used_value = refl; buffer_after = refl })

pub sweep-count-requires : goal.sweep-count-requires
sweep-count-requires c =
    let a = c.args in
    let f = found c.args.guard.0 (sym c.shape.ensures ∙ c.in-Some.is) in
    sweepable a.state.now a.guard.0 a.buffer.now c.if-state-ne-STATE_WORDS.false c.if-buffer-lt-LEAST_ROOM.false
    f.1 f.0
    (c.region_words-w.ensures ∙ rw f.0 (guard-regions a.state.now a.guard.0 c.if-state-ne-STATE_WORDS.false))

pub overflow_mul-result : goal.overflow_mul-result
overflow_mul-result c =
    let s = c.in-Some.shape in
    let n = c.args.guard.0 in
    omega (
      arith,
      c.sweep-count.ensures.value,
      size-most s.bus c.region_words-w.result.now s.regions s.window (rw (found n (sym c.shape.ensures ∙ c.in-Some.is)).0 (small n).0),
    )

pub returns : goal.returns
returns c =
    let a = c.args in
    let f = found c.args.guard.0 (sym c.shape.ensures ∙ c.in-Some.is) in
    let u = c.sweep-count in
    let all = made a.state.now a.guard.0 a.buffer.now c.if-state-ne-STATE_WORDS.false c.if-buffer-lt-LEAST_ROOM.false
    f.1 f.0
    (c.region_words-w.ensures ∙ rw f.0 (guard-regions a.state.now a.guard.0 c.if-state-ne-STATE_WORDS.false))
    u.ensures.value u.ensures.lent_after in
    record { answer_value = all.0; used_value = all.1.0; buffer_after = all.1.1 }
