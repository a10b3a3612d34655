-- The controller's registers as stored, and reset: document 01, "RIFSC".
use Rattle.std.specs.Prelude.{Bool, false, ℕ, get_or, set, replicate}
use Rattle.words.specs.Bit.{bit}
use Rattle.words.specs.Six.{bit_words}
use Rattle.rifsc.specs.Masters.{masters}
use Rattle.rifsc.specs.declared.registers.Lock.{Lock}
use Rattle.rifsc.specs.declared.registers.Lock.TheVariants.{Glock, RimcLock, Never}
use Rattle.rifsc.specs.declared.registers.Register.{Register}
use Rattle.rifsc.specs.declared.registers.Register.TheVariants.{Cr, Seccfgr, Privcfgr, Rcfglockr, Rimccr, Attr, Ppsr}
use Rattle.rifsc.specs.declared.contents.Rifsc.{Rifsc}
use Rattle.rifsc.specs.declared.port.Seen.{Seen}

-- the word stored for a register; for PPSR, which is constant, none is
unfoldable pub stored : Rifsc → Register → ℕ
stored r Cr = r.cr
stored r (Seccfgr x) = get_or r.seccfgr x 0
stored r (Privcfgr x) = get_or r.privcfgr x 0
stored r (Rcfglockr x) = get_or r.rcfglockr x 0
stored r Rimccr = r.rimccr
stored r (Attr m) = get_or r.attr m 0
stored r (Ppsr x) = 0

-- the controller with another word stored for a register
unfoldable pub with_stored : Rifsc → Register → ℕ → Rifsc
with_stored r Cr v =
    record {
      cr = v;
      seccfgr = r.seccfgr;
      privcfgr = r.privcfgr;
      rcfglockr = r.rcfglockr;
      rimccr = r.rimccr;
      attr = r.attr;
    }
with_stored r (Seccfgr x) v =
    record {
      cr = r.cr;
      seccfgr = set r.seccfgr x v;
      privcfgr = r.privcfgr;
      rcfglockr = r.rcfglockr;
      rimccr = r.rimccr;
      attr = r.attr;
    }
with_stored r (Privcfgr x) v =
    record {
      cr = r.cr;
      seccfgr = r.seccfgr;
      privcfgr = set r.privcfgr x v;
      rcfglockr = r.rcfglockr;
      rimccr = r.rimccr;
      attr = r.attr;
    }
with_stored r (Rcfglockr x) v =
    record {
      cr = r.cr;
      seccfgr = r.seccfgr;
      privcfgr = r.privcfgr;
      rcfglockr = set r.rcfglockr x v;
      rimccr = r.rimccr;
      attr = r.attr;
    }
with_stored r Rimccr v =
    record {
      cr = r.cr;
      seccfgr = r.seccfgr;
      privcfgr = r.privcfgr;
      rcfglockr = r.rcfglockr;
      rimccr = v;
      attr = r.attr;
    }
with_stored r (Attr m) v =
    record {
      cr = r.cr;
      seccfgr = r.seccfgr;
      privcfgr = r.privcfgr;
      rcfglockr = r.rcfglockr;
      rimccr = r.rimccr;
      attr = set r.attr m v;
    }
with_stored r (Ppsr x) v = r

-- GLOCK of CR, GLOCK of RIMC_CR
abbrev pub is_locked : Rifsc → Lock → Bool
is_locked r Glock = bit r.cr 0
is_locked r RimcLock = bit r.rimccr 0
is_locked r Never = false

-- what an access to a register looks at, whose row of the table has this lock and index
unfoldable pub seen : Rifsc → Register → Lock → ℕ → Seen
seen r reg lock index =
    record {
      locked = is_locked r lock;
      rlock = get_or r.rcfglockr index 0;
      sec = get_or r.seccfgr index 0;
      word = stored r reg;
    }

-- reset: all 0 but RIMC_CR
unfoldable pub reset : Rifsc
reset =
    record {
      cr = 0;
      seccfgr = replicate bit_words 0;
      privcfgr = replicate bit_words 0;
      rcfglockr = replicate bit_words 0;
      rimccr = 0x0000_0710;
      attr = replicate masters 0;
    }
