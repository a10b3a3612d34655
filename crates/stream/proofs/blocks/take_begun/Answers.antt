-- `stream::blocks::take_begun` meets its contract: the begun line, as far as it is kept, and then the lines behind it.
use Rattle.std.proofs.Common.{◌≡◌, length, take, refl, sym, ◌∙◌, arith}
use Rattle.stream.specs.Kept.{kept_of, line_room}
use Rattle.stream.proofs.Begun.{begun-memory, begun-same}
use Rattle.stream.proofs.Stops.{goes-on, stands_at, stops-bad, stops-full, stops-last}
use Rattle.stream.proofs.blocks.take_begun.Goals as goal

pub returns-in_default : goal.returns-in_default
returns-in_default c =
    let a = c.args in
    let block = a.block.now in
    let k = kept_of a.held a.line.now a.state.now in
    let e = c.keep-bytes.ensures in
    stops-last (length block) 0 block k a.out.now a.at (omega arith) refl c.in_default.ensures e.value e.line_after c.stopped.ensures

pub returns-then-not-has_room : goal.returns-then-not-has_room
returns-then-not-has_room c =
    let a = c.args in
    let block = a.block.now in
    let k = kept_of a.held a.line.now a.state.now in
    stops-full (length block) 0 block k a.out.now a.at (omega arith) refl c.in-Some.ensures
    (sym c.has_room.ensures ∙ c.if-not-has_room.true) (refl, refl) c.stopped-then-not-has_room.ensures

pub returns-then-ended : goal.returns-then-ended
returns-then-ended c =
    let a = c.args in
    let block = a.block.now in
    let text = c.in-Some.text.now in
    let k = kept_of a.held a.line.now a.state.now in
    let b = c.keep-bytes-2.ensures in
    let long : length a.line.now ≡ line_room = omega arith in
    let e = c.end_line-ended.ensures in
    stops-bad (length block) 0 block k a.out.now a.at (omega arith) refl c.in-Some.ensures
    (take c.keep-bytes-2.result c.keep-bytes-2.new.line) (begun-same k text c.requires.0 long b.value b.line_after)
    e.place_value e.bad_value e.out_after e.state_after (begun-memory k text c.requires.0 long b.value b.line_after c.requires.1)
    (sym c.has_room.ensures ∙ c.if-not-has_room.false) c.if-ended.true c.behind_bad.ensures

pub returns : goal.returns
returns c =
    let a = c.args in
    let block = a.block.now in
    let text = c.in-Some.text.now in
    let k = kept_of a.held a.line.now a.state.now in
    let b = c.keep-bytes-2.ensures in
    let long : length a.line.now ≡ line_room = omega arith in
    let e = c.end_line-ended.ensures in
    stands_at
    (goes-on (length block) 0 block k a.out.now a.at (omega arith) refl c.in-Some.ensures
    (take c.keep-bytes-2.result c.keep-bytes-2.new.line) (begun-same k text c.requires.0 long b.value b.line_after)
    e.place_value e.bad_value e.out_after e.state_after (begun-memory k text c.requires.0 long b.value b.line_after c.requires.1)
    (sym c.has_room.ensures ∙ c.if-not-has_room.false) c.if-ended.false)
    c.take_lines.ensures
