use borrow.Author.Rules.{rules}
use mathlib.Core.Path.{refl}
use lib.Dec.{lit<}
use Rattle.device.specs.Layout.{cr_part, seccfgr_part, privcfgr_part, rcfglockr_part, rimccr_part, attr_part}
use Rattle.device.proofs.StateLayout.{heads-none, heads-copied, heads-word, rifsc-stored}
use Rattle.device.proofs.blocks.store_rifsc.Goals as goal

pub returns : goal.returns
returns c =
    let r = c.args.r in
    rifsc-stored r
    (heads-copied attr_part r.attr (lit< tt) (search rules) c.copy_from_slice-4.ensures.after
    (heads-word rimccr_part r.rimccr (lit< tt) refl
    (heads-copied rcfglockr_part r.rcfglockr (lit< tt) (search rules) c.copy_from_slice-3.ensures.after
    (heads-copied privcfgr_part r.privcfgr (lit< tt) (search rules) c.copy_from_slice-2.ensures.after
    (heads-copied seccfgr_part r.seccfgr (lit< tt) (search rules) c.copy_from_slice.ensures.after
    (heads-word cr_part r.cr (lit< tt) refl (heads-none c.args.state.now c.told-state) refl))))
    refl))
