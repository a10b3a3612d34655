-- `say` meets its contract: what failed is written, and then the rest of the line.
use Rattle.std.proofs.KnownBytes.{Appends-trans}
use Rattle.std.proofs.lemmas.Result.{on_ok_weaker}
use Rattle.failures.proofs.say.Goals as goal

pub returns : goal.returns
returns g c =
    let w = g.W.Write.contents in
    on_ok_weaker c.writeln.result (λ h. record { reason = c.map_or-reason.result.now; appended = Appends-trans (w c.args.errors.now) (w c.write_all.new.self) (w c.writeln.new.self) _ _ c.in_ok-write_all.ensures.bytes h })
    c.writeln.ensures.bytes
