use borrow.Author.Rules.{rules}
use mathlib.Core.Path.{refl, ap, ◌∙◌}
use lib.Dec.{lit<}
use Rattle.iac.specs.Contents.{with_held}
use Rattle.iac.specs.declared.held.Held.{Held}
use Rattle.device.specs.Layout.{line_part, count_part, state_of}
use Rattle.device.specs.State.{with_iac}
use Rattle.device.proofs.StateLayout.{head-word, heads-none, heads-word, held-stored}
use Rattle.device.proofs.flags.recount.Goals as goal

pub returns : goal.returns
unfolding state_of
returns c =
    let m = c.args.state.now in
    let h = c.with_count-next.result in
    held-stored h
    (heads-word count_part h.count (lit< tt) refl (heads-word line_part h.line (lit< tt) refl (heads-none m (search rules)) refl) refl)
    ∙ ap (λ (k : Held). with_iac (state_of m) (with_held (state_of m).iac k)) (simp (c.with_count-next.ensures, head-word m line_part (lit< tt) refl, head-word m count_part (lit< tt) refl))
