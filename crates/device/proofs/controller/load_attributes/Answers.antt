use lib.Dec.{lit<}
use Rattle.rifsc.specs.Masters.{attributes_of}
use Rattle.device.specs.Layout.{seccfgr_part, attr_part, state_of}
use Rattle.device.proofs.StateLayout.{head-part}
use Rattle.device.proofs.controller.load_attributes.Goals as goal

pub returns : goal.returns
unfolding attributes_of state_of
returns c =
    let m = c.args.state.now in
    simp (c.bit_in.ensures, c.word_in.ensures, c.guarding.ensures, head-part m attr_part (lit< tt), head-part m seccfgr_part (lit< tt))
