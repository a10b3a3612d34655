-- `stream::blocks::take` meets its contract: refused, from line to line, or a begun line first.
use Rattle.std.proofs.Common.{List, ℕ, length, sym, ap, ◌∙◌, eq-eqb, ne_eqb}
use borrow.Author.Tests.{lt-leb}
use Rattle.stream.specs.Blocks.{called}
use Rattle.stream.specs.Kept.{kept_of, line_room}
use Rattle.stream.proofs.Begun.{begins, begins-lines, refuses}
use Rattle.stream.proofs.Stops.{stands_at}
use Rattle.stream.proofs.blocks.take.Goals as goal

pub returns-in_default : goal.returns-in_default
returns-in_default c =
    let a = c.args in
    let e = refuses (kept_of a.held a.line.now a.state.now) a.block.now a.out.now a.at (rw (ne_eqb (length a.line.now) line_room c.in_default.ensures.cases)) in
    record { taken = c.stopped.ensures ∙ rw e; bytes = rw e; memory = rw e; words = rw e }

pub returns-then-held-gt-LINE_ROOM : goal.returns-then-held-gt-LINE_ROOM
returns-then-held-gt-LINE_ROOM c =
    let a = c.args in
    let line = c.in-Some.ensures.cases in
    let e =
    refuses (kept_of a.held a.line.now a.state.now) a.block.now a.out.now a.at
    (rw (eq-eqb (length a.line.now) line_room line.long, lt-leb a.held.bytes line_room c.if-held-gt-LINE_ROOM.true)) in
    record { taken = c.stopped-then-held-gt-LINE_ROOM.ensures ∙ rw e; bytes = rw e; memory = line.same ∙ rw e; words = rw e }

pub returns-then-held-eq0 : goal.returns-then-held-eq0
returns-then-held-eq0 c =
    let a = c.args in
    let line = c.in-Some.ensures.cases in
    let e = begins-lines (kept_of a.held c.in-Some.line.now a.state.now) a.block.now a.out.now a.at (ap length line.same ∙ line.long) c.if-held-eq0.true in
    let s = stands_at (ap (λ (l : List ℕ). called (kept_of a.held l a.state.now) a.block.now a.out.now a.at) (sym line.same) ∙ e) c.take_lines.ensures in
    record { taken = s.taken; bytes = s.bytes; memory = s.memory; words = s.words }

pub returns : goal.returns
returns c =
    let a = c.args in
    let line = c.in-Some.ensures.cases in
    let e = begins (kept_of a.held c.in-Some.line.now a.state.now) a.block.now a.out.now a.at (ap length line.same ∙ line.long) c.if-held-gt-LINE_ROOM.false in
    let s = stands_at (ap (λ (l : List ℕ). called (kept_of a.held l a.state.now) a.block.now a.out.now a.at) (sym line.same) ∙ e) c.take_begun.ensures in
    record { taken = s.taken; bytes = s.bytes; memory = s.memory; words = s.words }
