-- `stream::blocks::take_lines` meets its contract: from each line the call stops where it stops from the first.
use Rattle.std.proofs.Common.{◌-◌, length, refl, ◌∙◌, arith}
use Rattle.stream.specs.Kept.{kept_of, nothing_of}
use Rattle.stream.proofs.Obeyed.{moves, stays, stays-left}
use Rattle.stream.proofs.Stops.{goes-on, stops-bad, stops-full, stops-last}
use Rattle.stream.proofs.blocks.take_lines.Goals as goal

pub returns-then-ended-place : goal.returns-then-ended-place
returns-then-ended-place c =
    let size = c.args.size in
    let l = c.loop-text in
    let left = l.left.now in
    let e = c.end_line-ended.ensures in
    let x = c.in-Some.text.now in
    let k = kept_of (nothing_of l.next) c.args.line.now l.state in
    let same = c.if-ended-place.true in
    stops-full size (size - length left) left k l.out l.place (omega arith) l.invariant.same c.in-Some.ensures
    (stays x l.next l.state l.out l.place e.place_value e.out_after same)
    (stays-left x l.next l.state l.out l.place e.place_value e.out_after e.state_after same) c.stopped.ensures

pub returns-then-ended : goal.returns-then-ended
returns-then-ended c =
    let size = c.args.size in
    let l = c.loop-text in
    let left = l.left.now in
    let e = c.end_line-ended.ensures in
    let x = c.in-Some.text.now in
    let k = kept_of (nothing_of l.next) c.args.line.now l.state in
    let room = moves x l.next l.state l.out l.place e.place_value e.out_after c.if-ended-place.false in
    stops-bad size (size - length left) left k l.out l.place (omega arith) l.invariant.same c.in-Some.ensures
    x refl e.place_value e.bad_value e.out_after e.state_after refl room c.if-ended.true c.behind_bad.ensures

pub loop-text-preserved : goal.loop-text-preserved
loop-text-preserved c =
    let size = c.args.size in
    let l = c.loop-text in
    let left = l.left.now in
    let e = c.end_line-ended.ensures in
    let kept = c.end_line-ended.auto in
    let x = c.in-Some.text.now in
    let k = kept_of (nothing_of l.next) c.args.line.now l.state in
    let room = moves x l.next l.state l.out l.place e.place_value e.out_after c.if-ended-place.false in
    record {
      words = kept.state ∙ l.invariant.words;
      bytes = kept.out ∙ l.invariant.bytes;
      within = omega (arith, c.in-Some.ensures);
      same =
          goes-on size (size - length left) left k l.out l.place (omega arith) l.invariant.same c.in-Some.ensures
          x refl e.place_value e.bad_value e.out_after e.state_after refl room c.if-ended.false;
    }

pub returns : goal.returns
returns c =
    let size = c.args.size in
    let l = c.loop-text in
    let left = l.left.now in
    let e = c.keep-bytes.ensures in
    let k = kept_of (nothing_of l.next) c.args.line.now l.state in
    stops-last size (size - length left) left k l.out l.place (omega arith) l.invariant.same c.in_default.ensures e.value e.line_after
    c.stopped-2.ensures
