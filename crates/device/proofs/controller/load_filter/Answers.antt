use lib.Dec.{lit<}
use Rattle.rifsc.specs.Peripherals.{filter_of}
use Rattle.device.specs.Layout.{seccfgr_part, privcfgr_part, state_of}
use Rattle.device.proofs.StateLayout.{head-part}
use Rattle.device.proofs.controller.load_filter.Goals as goal

pub returns : goal.returns
unfolding filter_of state_of
returns c =
    let m = c.args.state.now in
    simp (c.bit_in-2.ensures, c.bit_in.ensures, head-part m seccfgr_part (lit< tt), head-part m privcfgr_part (lit< tt))
