use borrow.Author.Rules.{rules}
use mathlib.Core.Path.{refl}
use lib.Dec.{lit<}
use Rattle.device.specs.Layout.{ier_part, isr_part, line_part, count_part}
use Rattle.device.proofs.StateLayout.{heads-none, heads-copied, heads-word, iac-stored}
use Rattle.device.proofs.blocks.store_iac.Goals as goal

pub returns : goal.returns
returns c =
    let i = c.args.i in
    let x = c.copy_from_slice.ensures.after in
    let y = c.copy_from_slice-2.ensures.after in
    iac-stored i
    (heads-word count_part i.count (lit< tt) refl
    (heads-word line_part i.line (lit< tt) refl
    (heads-copied isr_part i.isr (lit< tt) (search rules) y
    (heads-copied ier_part i.ier (lit< tt) (search rules) x (heads-none c.args.state.now c.told-state)))
    refl)
    refl)
