use lib.Dec.{lit<}
use Rattle.rifsc.specs.Contents.{seen}
use Rattle.device.specs.Layout.{seccfgr_part, rcfglockr_part, state_of}
use Rattle.device.proofs.StateLayout.{head-part}
use Rattle.device.proofs.controller.load_seen.Goals as goal

pub returns : goal.returns
unfolding seen state_of
returns c =
    let m = c.args.state.now in
    simp (
      c.stored.ensures,
      c.word_in-2.ensures,
      c.word_in.ensures,
      c.is_locked.ensures,
      head-part m seccfgr_part (lit< tt),
      head-part m rcfglockr_part (lit< tt),
    )
