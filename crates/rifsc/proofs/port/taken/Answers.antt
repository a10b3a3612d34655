use Rattle.rifsc.specs.Port.{takes}
use Rattle.words.specs.Bit.{masked, less}
use Rattle.rifsc.proofs.PortLaws.{priv-taken, rimc-taken, attr-taken}
use Rattle.rifsc.proofs.port.taken.Goals as goal

pub returns-in-Cr : goal.returns-in-Cr
unfolding takes masked
returns-in-Cr c = simp (c.masked.ensures, c.in-Cr.is)

pub returns-in-Seccfgr : goal.returns-in-Seccfgr
unfolding takes less
returns-in-Seccfgr c = simp (c.without.ensures, c.in-Seccfgr.is)

pub returns-in-Privcfgr : goal.returns-in-Privcfgr
returns-in-Privcfgr c =
    simp (c.unless_sec.ensures, c.without-in-Privcfgr.ensures, c.in-Privcfgr.is) (priv-taken _ _ _ _ _)

pub returns-in-Rcfglockr : goal.returns-in-Rcfglockr
unfolding takes masked
returns-in-Rcfglockr c = simp (c.masked-in-Rcfglockr.ensures, c.in-Rcfglockr.is)

pub returns-in-Rimccr : goal.returns-in-Rimccr
returns-in-Rimccr c = simp (c.united.ensures, c.masked-in-Rimccr.ensures, c.in-Rimccr.is) (rimc-taken _ _ _ _)

pub returns-in-Attr : goal.returns-in-Attr
returns-in-Attr c = simp (c.attr_taken.ensures, c.in-Attr.is) (attr-taken _ _ _ _ _)

pub returns-in-Ppsr : goal.returns-in-Ppsr
unfolding takes
returns-in-Ppsr c = simp c.in-Ppsr.is
