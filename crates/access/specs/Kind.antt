-- Compartments, the 64 kinds of asking and the bits of a rights word: document 01, "rights bit CID + 8*(write + 2*privileged + 4*secure)".
use Rattle.std.specs.Prelude.{Bool, ℕ, ◌+◌, ◌*◌, ◌%◌, leb, eqb}
use Rattle.words.specs.Bit.{bit, one}
use Rattle.access.specs.declared.kind.Cid.{Cid}
use Rattle.access.specs.declared.kind.Kind.{Kind}

abbrev pub equals : Cid → Cid → Bool
equals a b = eqb a.0 b.0

-- CID 7 passes every compartment test
abbrev pub debugger : Cid
debugger = record { 0 = 7 }

-- a compartment number is at most 7
abbrev pub is_cid : Cid → Bool
is_cid c = leb c.0 debugger.0

-- the bit of a rights word for a kind of asking
abbrev pub rights_bit : Kind → ℕ
rights_bit k = k.cid.0 + 8 * (one k.write + 2 * one k.privileged + 4 * one k.secure)

-- the kind of asking that bit b is for
abbrev pub kind_of : ℕ → Kind
kind_of b = record { cid = record { 0 = b % 8 }; write = bit b 3; privileged = bit b 4; secure = bit b 5 }
