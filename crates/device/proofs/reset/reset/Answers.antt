use mathlib.Core.Path.{◌≡◌, refl, ap, ◌∙◌}
use Prim.Native.Nat.{ℕ}
use native.Mathlib.Omega.{arith}
use borrow.Author.Rules.{rules}
use Rattle.device.specs.Layout.{state_of}
use Rattle.device.specs.State.{with_guards}
use Rattle.device.proofs.ResetGuards.{reset_below, numbers, reset-more, state-reset}
use Rattle.device.proofs.reset.reset.Goals as goal

pub loop-n-preserved : goal.loop-n-preserved
loop-n-preserved c =
    let l = c.loop-n in
    let u = c.reset_guard in
    let m = c.store_iac.new.state in
    (search rules, u.ensures ∙ reset-more (state_of m) l.n l.invariant.1)

pub returns : goal.returns
returns c =
    let l = c.loop-n in
    let e : l.n ≡ numbers = omega arith in
    let m = c.store_iac.new.state in
    let s = state_of c.args.state.now in
    l.invariant.1 ∙ ap (λ (n : ℕ). with_guards (state_of m) (reset_below n (state_of m).guards)) e
    ∙ state-reset m s c.reset.ensures c.store_rifsc.ensures c.reset-2.ensures c.store_iac.ensures

pub loop-n-init : goal.loop-n-init
loop-n-init c = (search rules, refl)
