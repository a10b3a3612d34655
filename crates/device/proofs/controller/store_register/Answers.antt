use mathlib.Core.Path.{refl}
use lib.Dec.{lit<}
use Rattle.rifsc.specs.Contents.{with_stored}
use Rattle.device.specs.Layout.{cr_part, seccfgr_part, privcfgr_part, rcfglockr_part, rimccr_part, attr_part}
use Rattle.device.proofs.StateLayout.{heads-none, heads-word}
use Rattle.device.proofs.PartWords.{heads-set, seccfgr-stored, privcfgr-stored, rcfglockr-stored, attr-stored, cr-stored, rimccr-stored}
use Rattle.device.proofs.controller.store_register.Goals as goal

pub returns-in-Cr : goal.returns-in-Cr
returns-in-Cr c =
    rw c.in-Cr.is (cr-stored c.args.v (heads-word cr_part c.args.v (lit< tt) refl (heads-none c.args.state.now c.told-state) refl))

pub returns-in-Seccfgr : goal.returns-in-Seccfgr
returns-in-Seccfgr c =
    rw c.in-Seccfgr.is (seccfgr-stored _ c.args.v (heads-set seccfgr_part _ c.args.v c.told-state (lit< tt) c.store_in.ensures))

pub returns-in-Privcfgr : goal.returns-in-Privcfgr
returns-in-Privcfgr c =
    rw c.in-Privcfgr.is (privcfgr-stored _ c.args.v (heads-set privcfgr_part _ c.args.v c.told-state (lit< tt) c.store_in-in-Privcfgr.ensures))

pub returns-in-Rcfglockr : goal.returns-in-Rcfglockr
returns-in-Rcfglockr c =
    rw c.in-Rcfglockr.is (rcfglockr-stored _ c.args.v (heads-set rcfglockr_part _ c.args.v c.told-state (lit< tt) c.store_in-in-Rcfglockr.ensures))

pub returns-in-Rimccr : goal.returns-in-Rimccr
returns-in-Rimccr c =
    rw c.in-Rimccr.is (rimccr-stored c.args.v (heads-word rimccr_part c.args.v (lit< tt) refl (heads-none c.args.state.now c.told-state) refl))

pub returns-in-Attr : goal.returns-in-Attr
returns-in-Attr c =
    rw c.in-Attr.is (attr-stored _ c.args.v (heads-set attr_part _ c.args.v c.told-state (lit< tt) c.store_in-in-Attr.ensures))

pub returns-in-Ppsr : goal.returns-in-Ppsr
unfolding with_stored
returns-in-Ppsr c = rw c.in-Ppsr.is refl
