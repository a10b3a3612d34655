use mathlib.Core.Path.{◌≡◌, refl, ap, sym, ◌∙◌}
use native.Mathlib.Omega.{arith}
use lib.ListN.{length}
use Rattle.std.proofs.lemmas.Slice.{put_mid-paste}
use Rattle.risaf.specs.Contents.{guard_size, reset}
use Rattle.risaf.proofs.Shapes.{place-found}
use Rattle.device.specs.Layout.{state_of}
use Rattle.device.proofs.GuardLayout.{guard-stored}
use Rattle.device.proofs.ResetGuards.{guard-reset}
use Rattle.device.proofs.reset.reset_guard.Goals as goal

pub of-requires : goal.of-requires
of-requires c =
    place-found c.args.guard.0 (sym c.shape.ensures ∙ c.in-Some.is)

pub returns-in-Some : goal.returns-in-Some
unfolding reset
returns-in-Some c =
    let a = c.args in
    let m = a.state.now in
    let w = c.guard_words.result in
    let n : length w ≡ guard_size = ap length c.guard_words.ensures in
    guard-reset (state_of m) a.guard.0 (sym c.shape.ensures ∙ c.in-Some.is) c.guard_words.ensures
    (rw (c.guard_start-start.ensures.0, c.of.ensures)
    (ap state_of (put_mid-paste _ _ m _ w (length w) c.copy_from_slice.ensures.after (omega (arith, n)) refl)
    ∙ guard-stored m _ w c.told-state (place-found a.guard.0 (sym c.shape.ensures ∙ c.in-Some.is)) n))
