-- `device::registers::read_iac` meets its contract: refused or not.
use mathlib.Core.Path.{sym, ◌∙◌}
use Rattle.device.specs.Layout.{state_of}
use Rattle.device.proofs.BlockSteps.{flags-none, flags-read-refused, flags-read-kept}
use Rattle.device.proofs.registers.read_iac.Goals as goal

pub returns-in-Refused : goal.returns-in-Refused
returns-in-Refused c =
    let t = state_of c.args.state.now in
    let all = flags-read-refused t c.args.q c.requires.0 (sym c.register_at.ensures ∙ c.in-Some.is) c.row.ensures c.load_word.ensures c.read-answer.ensures c.in-Refused.is c.raise.ensures in
    record { answer = all.0; next = all.1 }

pub returns-in_default : goal.returns-in_default
returns-in_default c =
    let all = flags-none (state_of c.args.state.now) c.args.q c.requires.1 (sym c.register_at.ensures ∙ c.in_default.is) in
    record { answer = all.0; next = all.1 }

pub returns-in_default-answer : goal.returns-in_default-answer
returns-in_default-answer c =
    let t = state_of c.args.state.now in
    let all = flags-read-kept t c.args.q c.requires.0 (sym c.register_at.ensures ∙ c.in-Some.is) c.row.ensures c.load_word.ensures c.read-answer.ensures c.in_default-answer.not-Refused in
    record { answer = all.0; next = all.1 }
