-- The table of registers: document 01, "Guards", its second and third paragraphs.
use Rattle.std.specs.Prelude.{Bool, true, false, ℕ, ◌+◌, ◌<◌, Option, option_map}
use Rattle.regions.specs.Words.{most_regions, base, sub, start_at, end_at, cidcfgr_at, nest_at}
use Rattle.risaf.specs.Contents.{cr_at, iasr_at, iaesr_at, iaddr_at, head_words}
use Rattle.risaf.specs.Registers.{register_at}
use Rattle.risaf.specs.declared.rows.Lock.{Lock}
use Rattle.risaf.specs.declared.rows.Lock.TheVariants.{Glock, Rlock, Never}
use Rattle.risaf.specs.declared.rows.Form.{Form}
use Rattle.risaf.specs.declared.rows.Form.TheVariants.{Kept, Taken, SetByOne, ClearedByOne, GranuleStart, GranuleEnd, SubregionCfgr}
use Rattle.risaf.specs.declared.rows.Row.{Row}
use Rattle.risaf.specs.declared.registers.Head.{Head}
use Rattle.risaf.specs.declared.registers.Head.TheVariants.{Cr, Iasr, Iacr, Iaesr, Iaddr}
use Rattle.risaf.specs.declared.registers.BaseField.{BaseField}
use Rattle.risaf.specs.declared.registers.BaseField.TheVariants.{Cfgr, Start, End, Cidcfgr}
use Rattle.risaf.specs.declared.registers.SubField.{SubField}
use Rattle.risaf.specs.declared.registers.SubField.TheVariants.{SubCfgr, SubStart, SubEnd, Nest}
use Rattle.risaf.specs.declared.registers.Register.{Register}
use Rattle.risaf.specs.declared.registers.Register.TheVariants.{OfHead, OfBase, OfSub}

-- ---- rows, of a register that is none of a region's, of one of base region x, of one of its subregion s

abbrev pub head_row : Bool → Bool → Bool → Lock → Form → ℕ → ℕ → Row
head_row readable writable guarded lock form named place =
    record {
      readable = readable;
      writable = writable;
      guarded = guarded;
      delegable = false;
      lock = lock;
      form = form;
      named = named;
      place = place;
      base = 0;
      sub = 0;
      nest = 0;
    }

abbrev pub base_row : ℕ → Form → ℕ → ℕ → Row
base_row x form named field =
    record {
      readable = true;
      writable = true;
      guarded = false;
      delegable = false;
      lock = Glock;
      form = form;
      named = named;
      place = head_words + base x + field;
      base = head_words + base x;
      sub = 0;
      nest = 0;
    }

abbrev pub sub_row : ℕ → ℕ → Bool → Lock → Form → ℕ → ℕ → Row
sub_row x s delegable lock form named field =
    record {
      readable = true;
      writable = true;
      guarded = false;
      delegable = delegable;
      lock = lock;
      form = form;
      named = named;
      place = head_words + sub x s + field;
      base = head_words + base x;
      sub = head_words + sub x s;
      nest = head_words + sub x s + nest_at;
    }

-- ---- the table

-- Not write-only, not read-only, needs secure and privileged to read too, which lock stops every write, how a write changes the word, the
-- named bits, where the word lies. GLOCK 0; CAEF 0, IAEF 1, which IACR clears; CID 2:0, privileged 4, secure 5, write 7.
unfoldable pub of_head : Head → Row
of_head Cr = head_row true true false Glock SetByOne 0x0000_0001 cr_at
of_head Iasr = head_row true false true Glock Kept 0x0000_0003 iasr_at
of_head Iacr = head_row false true true Never ClearedByOne 0x0000_0003 iasr_at
of_head Iaesr = head_row true false true Glock Kept 0x0000_00b7 iaesr_at
of_head Iaddr = head_row true false true Glock Kept 0xffff_ffff iaddr_at

-- How a write changes the word, the named bits, which word. BREN 0, SEC 8, PRIVC 23:16; read enables 7:0, write enables 23:16.
unfoldable pub of_base : ℕ → BaseField → Row
of_base x Cfgr = base_row x Taken 0x00ff_0101 0
of_base x Start = base_row x GranuleStart 0xffff_ffff start_at
of_base x End = base_row x GranuleEnd 0xffff_ffff end_at
of_base x Cidcfgr = base_row x Taken 0x00ff_00ff cidcfgr_at

-- Can it be delegated, its lock, how a write changes the word, the named bits, which word. SREN 0, RLOCK 1, SRCID 6:4, SEC 8, PRIV 9,
-- RDEN 12, WREN 13; DCEN 2, DCCID 6:4.
unfoldable pub of_sub : ℕ → ℕ → SubField → Row
of_sub x s SubCfgr = sub_row x s true Rlock SubregionCfgr 0x0000_3373 0
of_sub x s SubStart = sub_row x s true Rlock GranuleStart 0xffff_ffff start_at
of_sub x s SubEnd = sub_row x s true Rlock GranuleEnd 0xffff_ffff end_at
of_sub x s Nest = sub_row x s false Glock Taken 0x0000_0074 nest_at

unfoldable pub row_of : Register → Row
row_of (OfHead head) = of_head head
row_of (OfBase x field) = of_base x field
row_of (OfSub x s field) = of_sub x s field

-- the row of the register at an offset, of a guard with n base regions
unfoldable pub row_at : ℕ → ℕ → Option Row
row_at n o = option_map row_of (register_at n o)

-- the register is one of a guard with n base regions
abbrev pub PlacedIn : ℕ → Register → Type 0
PlacedIn n (OfHead head) = Unit {0}
PlacedIn n (OfBase x field) = x < n
PlacedIn n (OfSub x s field) = (x < n) × (s < 2)

-- of any guard: what code goes by
abbrev pub Placed : Register → Type 0
Placed reg = PlacedIn most_regions reg
