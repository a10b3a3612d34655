use lib.Dec.{lit<}
use Rattle.iac.specs.Contents.{stored}
use Rattle.device.specs.Layout.{ier_part, isr_part, state_of}
use Rattle.device.proofs.StateLayout.{head-part}
use Rattle.device.proofs.flags.load_word.Goals as goal

pub returns-in-Ier : goal.returns-in-Ier
unfolding stored state_of
returns-in-Ier c = simp (c.in-Ier.is, c.word_in.ensures, head-part c.args.state.now ier_part (lit< tt))

pub returns-in-Isr : goal.returns-in-Isr
unfolding stored state_of
returns-in-Isr c = simp (c.in-Isr.is, c.word_in-in-Isr.ensures, head-part c.args.state.now isr_part (lit< tt))

pub returns-in-Icr : goal.returns-in-Icr
unfolding stored state_of
returns-in-Icr c = simp (c.in-Icr.is, c.word_in-in-Icr.ensures, head-part c.args.state.now isr_part (lit< tt))

pub returns-in-Iisr : goal.returns-in-Iisr
unfolding stored
returns-in-Iisr c = simp c.in-Iisr.is
