-- `spans::row_place` meets its contract: a row that does not end before the offset encloses it, or begins past it. Assumes nothing.
use Prim.Native.Nat.{◌+◌}
use mathlib.Core.Logic.{inl}
use mathlib.Core.Path.{refl}
use native.Mathlib.Omega.{arith}
use Rattle.spans.specs.Passed.{Passed}
use Rattle.spans.proofs.Found.{inside, outside, place-all, place_here, place-later}
use Rattle.spans.proofs.row_place.Goals as goal

pub end_place-i-requires : goal.end_place-i-requires
end_place-i-requires c = (omega arith, omega arith)

pub loop-i-init : goal.loop-i-init
loop-i-init c = let e = c.end_place-i.ensures in (e.passed, e.found)

pub returns-then-map-i : goal.returns-then-map-i
returns-then-map-i c =
    let a = c.args in
    let f = c.loop-i.invariant.1 c.loop-i-test.true in
    place_here a.map.now a.offset c.loop-i.i f.0 c.loop-i.invariant.0 (inside _ _ _ c.if-map-i.true f.1)

-- a row that begins past the offset is passed
later : (s : goal.Else-map-i)
    → let a = s.args in
    Passed a.map.now a.offset (s.loop-i.i + 3)
later s =
    let a = s.args in
    let f = s.loop-i.invariant.1 s.loop-i-test.true in
    place-later a.map.now a.offset s.loop-i.i f.0 s.loop-i.invariant.0 (s.loop-i.i + 3) refl (outside _ _ _ (inl s.if-map-i.false))

pub end_place-i-requires-in-loop-i : goal.end_place-i-requires-in-loop-i
end_place-i-requires-in-loop-i c = later c

pub loop-i-smaller : goal.loop-i-smaller
loop-i-smaller c = omega (arith, c.end_place-i-in-loop-i.ensures.low, c.loop-i-test.true)

pub loop-i-preserved : goal.loop-i-preserved
loop-i-preserved c = let e = c.end_place-i-in-loop-i.ensures in (e.passed, e.found)

pub returns : goal.returns
returns c =
    let a = c.args in
    place-all a.map.now a.offset c.loop-i.i c.loop-i-test.false c.loop-i.invariant.0
