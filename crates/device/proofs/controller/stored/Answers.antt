use mathlib.Core.Path.{refl}
use lib.Dec.{lit<}
use Rattle.rifsc.specs.Contents.{stored}
use Rattle.device.specs.Layout.{cr_part, seccfgr_part, privcfgr_part, rcfglockr_part, rimccr_part, attr_part, state_of}
use Rattle.device.proofs.StateLayout.{head-part, head-word}
use Rattle.device.proofs.controller.stored.Goals as goal

pub returns-in-Cr : goal.returns-in-Cr
unfolding stored state_of
returns-in-Cr c = simp (c.in-Cr.is, head-word c.args.state.now cr_part (lit< tt) refl)

pub returns-in-Seccfgr : goal.returns-in-Seccfgr
unfolding stored state_of
returns-in-Seccfgr c = simp (c.in-Seccfgr.is, c.word_in.ensures, head-part c.args.state.now seccfgr_part (lit< tt))

pub returns-in-Privcfgr : goal.returns-in-Privcfgr
unfolding stored state_of
returns-in-Privcfgr c = simp (c.in-Privcfgr.is, c.word_in-in-Privcfgr.ensures, head-part c.args.state.now privcfgr_part (lit< tt))

pub returns-in-Rcfglockr : goal.returns-in-Rcfglockr
unfolding stored state_of
returns-in-Rcfglockr c = simp (c.in-Rcfglockr.is, c.word_in-in-Rcfglockr.ensures, head-part c.args.state.now rcfglockr_part (lit< tt))

pub returns-in-Rimccr : goal.returns-in-Rimccr
unfolding stored state_of
returns-in-Rimccr c = simp (c.in-Rimccr.is, head-word c.args.state.now rimccr_part (lit< tt) refl)

pub returns-in-Attr : goal.returns-in-Attr
unfolding stored state_of
returns-in-Attr c = simp (c.in-Attr.is, c.word_in-in-Attr.ensures, head-part c.args.state.now attr_part (lit< tt))

pub returns-in-Ppsr : goal.returns-in-Ppsr
unfolding stored state_of
returns-in-Ppsr c = simp c.in-Ppsr.is
