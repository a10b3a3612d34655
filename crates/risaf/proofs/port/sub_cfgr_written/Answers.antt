use Rattle.risaf.proofs.PortLaws.{cfgr-is}
use Rattle.risaf.proofs.port.sub_cfgr_written.Goals as goal

pub returns : goal.returns
returns c = simp (c.merge.ensures, c.with_bit_if-mask.ensures, c.with_bit_if.ensures, cfgr-is)
