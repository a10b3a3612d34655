-- `device::registers::read_rifsc` meets its contract.
use mathlib.Core.Path.{sym, ◌∙◌}
use Rattle.device.specs.Layout.{state_of}
use Rattle.device.proofs.BlockSteps.{controller-none, controller-read}
use Rattle.device.proofs.registers.read_rifsc.Goals as goal

pub returns-in_default : goal.returns-in_default
returns-in_default c =
    let all = controller-none (state_of c.args.state.now) c.args.q c.requires.1 (sym c.register_at.ensures ∙ c.in_default.is) in
    record { answer = all.0; next = all.1 }

pub returns : goal.returns
returns c =
    let all = controller-read (state_of c.args.state.now) c.args.q c.requires.0 (sym c.register_at.ensures ∙ c.in-Some.is) c.row.ensures c.stored.ensures c.read.ensures in
    record { answer = all.0; next = all.1 }
