use mathlib.Core.Path.{sym, ◌∙◌}
use Rattle.device.specs.Layout.{state_of}
use Rattle.device.proofs.PeripheralSteps.{no-peripheral, peripheral-fetched, peripheral-granted, peripheral-refused}
use Rattle.device.proofs.peripherals.access_peripheral.Goals as goal

pub returns-then-not-exists : goal.returns-then-not-exists
returns-then-not-exists c =
    let a = c.args in
    let x = c.exists in
    let all = no-peripheral a.a (state_of a.state.now) (sym x.ensures ∙ c.if-not-exists.true) in
    record { answer = all.0; next = all.1 }

pub returns-then-is_fetch : goal.returns-then-is_fetch
returns-then-is_fetch c =
    let f = c.is_fetch in
    let x = c.exists in
    let a = c.args in
    let all = peripheral-fetched a.a (state_of a.state.now) (sym x.ensures ∙ c.if-not-exists.false) (sym f.ensures ∙ c.if-is_fetch.true) in
    record { answer = all.0; next = all.1 }

pub returns-then-grants : goal.returns-then-grants
returns-then-grants c =
    let g = c.grants in
    let l = c.load_filter in
    let f = c.is_fetch in
    let x = c.exists in
    let a = c.args in
    let all = peripheral-granted a.a (state_of a.state.now) (sym x.ensures ∙ c.if-not-exists.false) (sym f.ensures ∙ c.if-is_fetch.false)
    (rw (← l.ensures) (sym g.ensures ∙ c.if-grants.true)) in
    record { answer = all.0; next = all.1 }

pub returns : goal.returns
returns c =
    let g = c.grants in
    let l = c.load_filter in
    let f = c.is_fetch in
    let x = c.exists in
    let a = c.args in
    let all = peripheral-refused a.a (state_of a.state.now) (sym x.ensures ∙ c.if-not-exists.false) (sym f.ensures ∙ c.if-is_fetch.false)
    (rw (← l.ensures) (sym g.ensures ∙ c.if-grants.false)) c.raise.ensures in
    record { answer = all.0; next = all.1 }
