-- `diff::fill::fill` meets its contract: at each return the tests that led there say how it went.
use mathlib.Core.Bool.{not}
use mathlib.Core.Path.{ap, sym, ◌∙◌}
use native.Mathlib.Omega.{arith}
use Rattle.diff.proofs.Made.{wrong-length, no-guard, no-maps, walkable, few, made}
use Rattle.diff.proofs.fill.fill.Goals as goal

pub returns-then-not-long-map_sized : goal.returns-then-not-long-map_sized
returns-then-not-long-map_sized c =
    let a = c.args in
    let all = wrong-length a.guard.0 a.before.now a.after.now a.numbers.now
    c.map_sized.ensures c.map_sized-2.ensures (ap not c.if-not-long-map_sized.true) in
    record { answer_value = all.0; used_value = all.1.0; numbers_after = all.1.1 }

pub returns-in_default : goal.returns-in_default
returns-in_default c =
    let a = c.args in
    let all = no-guard a.guard.0 a.before.now a.after.now a.numbers.now
    c.map_sized.ensures c.map_sized-2.ensures (ap not c.if-not-long-map_sized.false) (sym c.shape.ensures ∙ c.in_default.is) in
    record { answer_value = all.0; used_value = all.1.0; numbers_after = all.1.1 }

pub returns-then-not-tiles : goal.returns-then-not-tiles
returns-then-not-tiles c =
    let a = c.args in
    let all = no-maps a.guard.0 a.before.now a.after.now a.numbers.now
    c.map_sized.ensures c.map_sized-2.ensures (ap not c.if-not-long-map_sized.false)
    (sym c.shape.ensures ∙ c.in-Some.is) c.tiles.ensures c.tiles-2.ensures (ap not c.if-not-tiles.true) in
    record { answer_value = all.0; used_value = all.1.0; numbers_after = all.1.1 }

pub walk-requires : goal.walk-requires
walk-requires c =
    let a = c.args in
    walkable a.guard.0 a.before.now a.after.now a.numbers.now
    c.map_sized.ensures c.map_sized-2.ensures (ap not c.if-not-long-map_sized.false)
    (sym c.shape.ensures ∙ c.in-Some.is) c.tiles.ensures c.tiles-2.ensures (ap not c.if-not-tiles.false)

pub overflow_mul-result : goal.overflow_mul-result
overflow_mul-result c =
    let a = c.args in
    omega (
      arith,
      c.walk.ensures.value,
      few a.guard.0 a.before.now a.after.now a.numbers.now
          c.map_sized.ensures c.map_sized-2.ensures (ap not c.if-not-long-map_sized.false)
          (sym c.shape.ensures ∙ c.in-Some.is) c.tiles.ensures c.tiles-2.ensures (ap not c.if-not-tiles.false),
    )

pub returns : goal.returns
returns c =
    let a = c.args in
    let all = made a.guard.0 a.before.now a.after.now a.numbers.now
    c.map_sized.ensures c.map_sized-2.ensures (ap not c.if-not-long-map_sized.false)
    (sym c.shape.ensures ∙ c.in-Some.is) c.tiles.ensures c.tiles-2.ensures (ap not c.if-not-tiles.false)
    c.walk.ensures.value c.walk.ensures.lent_after in
    record { answer_value = all.0; used_value = all.1.0; numbers_after = all.1.1 }
