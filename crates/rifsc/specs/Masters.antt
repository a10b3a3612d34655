-- What a master carries: document 01, "A master access carries MCID, MSEC and MPRIV of its ATTR as stored", as document 02, Q-2, mends
-- it: "a master's secure flag is MSEC and the SEC bit of its guarding peripheral (masters 1 to 12: ..); master 0 has none and carries
-- MSEC as stored".
use Rattle.std.specs.Prelude.{Bool, ◌&&◌, ◌||◌, List, [], ◌∷◌, ℕ, eqb, ltb, get_or}
use Rattle.words.specs.Bit.{bit, field}
use Rattle.words.specs.Six.{bit_at}
use Rattle.access.specs.declared.kind.Kind.{Kind}
use Rattle.rifsc.specs.declared.masters.Attributes.{Attributes}
use Rattle.rifsc.specs.declared.masters.MasterNumber.{MasterNumber}
use Rattle.rifsc.specs.declared.peripherals.PeripheralNumber.{PeripheralNumber}
use Rattle.rifsc.specs.declared.contents.Rifsc.{Rifsc}

-- ATTR0 to ATTR12
abbrev pub masters : ℕ
masters = 13

unfoldable pub is_master : MasterNumber → Bool
is_master m = ltb m.0 masters

-- the guarding peripherals of masters 1 to 12, in order
abbrev pub guarding : List ℕ
guarding = 106 ∷ 53 ∷ 54 ∷ 56 ∷ 57 ∷ 60 ∷ 99 ∷ 101 ∷ 93 ∷ 103 ∷ 104 ∷ 97 ∷ []

-- a master's guarding peripheral; 0 stands for master 0, which has none
unfoldable pub guarding_of : MasterNumber → PeripheralNumber
guarding_of m = record { 0 = get_or (0 ∷ guarding) m.0 0 }

-- a master's ATTR, and the SEC bit of its guarding peripheral, which for master 0 counts as 1
unfoldable pub attributes_of : Rifsc → MasterNumber → Attributes
attributes_of r m =
    record {
      attr = get_or r.attr m.0 0;
      sec = eqb m.0 0 || bit_at r.seccfgr (guarding_of m).0;
    }

-- MCID is bits 6:4, MSEC bit 8, MPRIV bit 9
unfoldable pub carried : Attributes → Bool → Kind
carried a write =
    record {
      cid = record { 0 = field a.attr 4 3 };
      write = write;
      privileged = bit a.attr 9;
      secure = bit a.attr 8 && a.sec;
    }
