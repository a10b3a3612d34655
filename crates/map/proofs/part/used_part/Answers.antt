-- `map::part::used_part` meets its contract.
use mathlib.Core.Path.{sym}
use lib.Seq.{length-take-le}
use borrow.Author.Tests.{le-leb, lt-leb}
use Rattle.map.specs.Part.{used_part}
use Rattle.map.proofs.part.used_part.Goals as goal

pub slice_bounds-result-end : goal.slice_bounds-result-end
slice_bounds-result-end c = sym (length-take-le _ c.args.buffer.now c.if-used-buffer.true)

pub returns-then-used-buffer : goal.returns-then-used-buffer
unfolding used_part
returns-then-used-buffer c = rw (← c.unwrap_or-used.ensures) (simp (le-leb _ _ c.if-used-buffer.true))

pub returns : goal.returns
unfolding used_part
returns c = rw (← c.unwrap_or-used.ensures) (simp (lt-leb _ _ c.if-used-buffer.false))
