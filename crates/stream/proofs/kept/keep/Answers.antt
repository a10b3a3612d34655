-- `stream::kept::keep` meets its contract: as many bytes are copied as there is room for.
use Rattle.std.proofs.Common.{sym, ◌∙◌, arith, length-take-le}
use Rattle.std.proofs.lemmas.Slice.{put_mid-paste}
use Rattle.stream.proofs.Memory.{kept-all}
use Rattle.stream.proofs.kept.keep.Goals as goal

pub returns : goal.returns
returns c =
    let a = c.args in
    let i = c.min-count.result in
    let all = kept-all a.line.now a.bytes.now a.n i c.min-count.ensures in
    record {
      value = all.0;
      few = omega (arith, c.min-count.ensures);
      line_after =
          put_mid-paste a.n _ a.line.now c.copy_from_slice.new.self _ i c.copy_from_slice.ensures.after (omega arith)
          (sym (length-take-le i a.bytes.now (omega (arith, c.min-count.ensures))))
          ∙ all.1;
    }
