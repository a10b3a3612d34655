-- The marked examples: document 01's W1 to W14, with the reasons of Q-5, and document 02's by their request. Register offsets of guard 2: region 1 is at 040, its subregion A at 050.
use Rattle.std.specs.Prelude.{true, false, List, [], ◌∷◌, ◌++◌, ℕ}
use Rattle.device.specs.declared.event.Block.{Block}
use Rattle.device.specs.declared.event.Block.TheVariants.{Rifsc, Iac, Risaf}
use Rattle.worked.specs.Example.{Line, gives, prints, keeps, handed, reads, writes, asks, asks_wide, master_asks}

abbrev pub guard2 : Block
guard2 = Risaf (record { 0 = 2 })

-- of the guards on AHB, whose registers lie as guard 2's
abbrev pub guard15 : Block
guard15 = Risaf (record { 0 = 15 })

abbrev pub guard21 : Block
guard21 = Risaf (record { 0 = 21 })

-- W1 to W4 name no width: they stand for each

-- guard 2, offset 0, read, CID 1 secure privileged: 0, rule 0
abbrev pub w1 : ℕ → List Line
w1 width = gives (asks_wide width 2 0 false 1 true true) 0 0 ∷ []

-- CID 2: 1, for the compartment; ISR4 00001000, IAESR 00000032
abbrev pub w2 : ℕ → List Line
w2 width =
    gives (asks_wide width 2 0 false 2 true true) 1 3
    ∷ gives (reads Iac 0x090 true true) 0 0x0000_1000
    ∷ gives (reads guard2 0x020 true true) 0 0x0000_0032
    ∷ []

-- after W2, nonsecure write CID 3 at 40: 1, for security, IAESR still 00000032
abbrev pub w3 : ℕ → List Line
w3 width =
    w2 width
    ++ gives (asks_wide width 2 0x40 true 3 false true) 1 1
    ∷ gives (reads guard2 0x020 true true) 0 0x0000_0032
    ∷ []

-- CID 7 secure privileged granted; CID 7 nonsecure refused, for security
abbrev pub w4 : ℕ → List Line
w4 width = gives (asks_wide width 2 0 false 7 true true) 0 0 ∷ gives (asks_wide width 2 0 false 7 false true) 1 1 ∷ []

-- ATTR1 write 00000370 reads 00000300
abbrev pub w5 : List Line
w5 = gives (writes Rifsc 0xc14 0x0000_0370 true true) 0 0 ∷ gives (reads Rifsc 0xc14 true true) 0 0x0000_0300 ∷ []

-- RIMC_CR write 00000101 reads 00000111; a next write gets 2
abbrev pub w6 : List Line
w6 =
    gives (writes Rifsc 0xc00 0x0000_0101 true true) 0 0
    ∷ gives (reads Rifsc 0xc00 true true) 0 0x0000_0111
    ∷ gives (writes Rifsc 0xc00 0x0000_0101 true true) 2 0
    ∷ []

-- SECCFGR0 write FFFFFFFF reads FFFFFF7F
abbrev pub w7 : List Line
w7 = gives (writes Rifsc 0x010 0xffff_ffff true true) 0 0 ∷ gives (reads Rifsc 0x010 true true) 0 0xffff_ff7f ∷ []

-- then RCFGLOCKR0 write 1, SECCFGR0 write 0: answer 0, reads 00000001
abbrev pub w8 : List Line
w8 =
    w7
    ++ gives (writes Rifsc 0x050 0x0000_0001 true true) 0 0
    ∷ gives (writes Rifsc 0x010 0x0000_0000 true true) 0 0
    ∷ gives (reads Rifsc 0x010 true true) 0 0x0000_0001
    ∷ []

-- then nonsecure privileged PRIVCFGR0 write 3: answer 0, reads 00000002
abbrev pub w9 : List Line
w9 =
    w8
    ++ gives (writes Rifsc 0x030 0x0000_0003 false true) 0 0
    ∷ gives (reads Rifsc 0x030 true true) 0 0x0000_0002
    ∷ []

-- nonsecure read of IER0: 1, ISR4 00000400
abbrev pub w10 : List Line
w10 = gives (reads Iac 0x000 false true) 1 0 ∷ gives (reads Iac 0x090 true true) 0 0x0000_0400 ∷ []

-- guard 2 region 1: START 00010000, END 0001FFFF, CIDCFGR 00040006, CFGR 00000001
abbrev pub region1 : List Line
region1 =
    gives (writes guard2 0x044 0x0001_0000 true true) 0 0
    ∷ gives (writes guard2 0x048 0x0001_ffff true true) 0 0
    ∷ gives (writes guard2 0x04c 0x0004_0006 true true) 0 0
    ∷ gives (writes guard2 0x040 0x0000_0001 true true) 0 0
    ∷ []

-- nonsecure unprivileged one-byte read, CID 2: granted at 10000 and 1FFFF by rule 1, refused at FFFF and 20000, for security
abbrev pub w11 : List Line
w11 =
    region1
    ++ gives (asks 2 0x1_0000 false 2 false false) 0 1
    ∷ gives (asks 2 0x1_ffff false 2 false false) 0 1
    ∷ gives (asks 2 0x0_ffff false 2 false false) 1 1
    ∷ gives (asks 2 0x2_0000 false 2 false false) 1 1
    ∷ []

-- then A 10000 to 10FFF, CFGR 00001121: at 10000 nonsecure CID 2 read granted by rule 2; secure, CID 1, or a write refused, for security,
-- the compartment, the direction
abbrev pub w12 : List Line
w12 =
    w11
    ++ gives (writes guard2 0x054 0x0001_0000 true true) 0 0
    ∷ gives (writes guard2 0x058 0x0001_0fff true true) 0 0
    ∷ gives (writes guard2 0x050 0x0000_1121 true true) 0 0
    ∷ gives (asks 2 0x1_0000 false 2 false false) 0 2
    ∷ gives (asks 2 0x1_0000 false 2 true true) 1 1
    ∷ gives (asks 2 0x1_0000 false 1 false false) 1 3
    ∷ gives (asks 2 0x1_0000 true 2 false false) 1 3
    ∷ []

-- map after W11: 0 to FFFF 8282000000000000; 10000 to 1FFFF 0000000084868486; 20000 to FFFFF 8282000000000000
abbrev pub w13 : List Line
w13 =
    w11
    ++ prints 2
    (0x0_0000 ∷ 0x0_ffff ∷ 0x8282_0000_0000_0000
    ∷ 0x1_0000 ∷ 0x1_ffff ∷ 0x0000_0000_8486_8486
    ∷ 0x2_0000 ∷ 0xf_ffff ∷ 0x8282_0000_0000_0000
    ∷ [])
    ∷ []

-- START write 00010FFF reads 00010000; END write 00010000 reads 00010FFF
abbrev pub w14 : List Line
w14 =
    gives (writes guard2 0x044 0x0001_0fff true true) 0 0
    ∷ gives (reads guard2 0x044 true true) 0 0x0001_0000
    ∷ gives (writes guard2 0x048 0x0001_0000 true true) 0 0
    ∷ gives (reads guard2 0x048 true true) 0 0x0001_0fff
    ∷ []

-- Q-2 names no width either. Master 6, ATTR6 written 00000310, reading guard 2 at 0 with SEC 60 clear (1, for security); IAESR says nonsecure
abbrev pub q2_clear : ℕ → List Line
q2_clear width =
    gives (writes Rifsc 0xc28 0x0000_0310 true true) 0 0
    ∷ gives (master_asks width 6 2 0 false) 1 1
    ∷ gives (reads guard2 0x020 true true) 0 0x0000_0011
    ∷ []

-- and set (0): bit 28 of SECCFGR1
abbrev pub q2_set : ℕ → List Line
q2_set width =
    gives (writes Rifsc 0xc28 0x0000_0310 true true) 0 0
    ∷ gives (writes Rifsc 0x014 0x1000_0000 true true) 0 0
    ∷ gives (master_asks width 6 2 0 false) 0 0
    ∷ []

-- Q-4. Flag 140 is guard 2's, bit 12 of ISR4: IER4 is at 010, ICR4 at 110. Enabled, then raised as in W2, raised again, and cleared
abbrev pub q4_kept : List Line
q4_kept =
    gives (writes Iac 0x010 0x0000_1000 true true) 0 0
    ∷ keeps 0 0
    ∷ gives (asks 2 0 false 2 true true) 1 3
    ∷ keeps 1 1
    ∷ gives (asks 2 0 false 2 true true) 1 3
    ∷ keeps 1 1
    ∷ gives (writes Iac 0x110 0x0000_1000 true true) 0 0
    ∷ keeps 0 0
    ∷ []

-- handed in with the line up and the count 0: a read leaves both, and a flag raised that is not enabled lets the line down
abbrev pub q4_handed : List Line
q4_handed =
    handed 1 0
    ∷ gives (reads Iac 0x010 true true) 0 0
    ∷ keeps 1 0
    ∷ gives (asks 2 0 false 2 true true) 1 3
    ∷ keeps 0 0
    ∷ []

-- handed in with the line down and the count 255: an enable changed holds the line up, one flag more makes the count 0, modulo 256, and one
-- less 255 again
abbrev pub q4_modulo : List Line
q4_modulo =
    handed 0 255
    ∷ gives (writes Iac 0x010 0x0000_1000 true true) 0 0
    ∷ keeps 1 255
    ∷ gives (asks 2 0 false 2 true true) 1 3
    ∷ keeps 0 0
    ∷ gives (writes Iac 0x110 0x0000_1000 true true) 0 0
    ∷ keeps 1 255
    ∷ []

-- Q-6: the untouched row of guard 15
abbrev pub q6_untouched : List Line
q6_untouched = prints 15 (0x000 ∷ 0xfff ∷ 0xffff_0000_0000_0000 ∷ []) ∷ []

-- CID 5 counts as CID 0, which may read guard 15's region 1: granted by rule 1. Its write is refused, for the direction, and IAESR has CID 0;
-- so is CID 7's, which is no debugger there; CID 8 gets 4
abbrev pub q6_counted : List Line
q6_counted =
    gives (writes guard15 0x048 0x0000_0fff true true) 0 0
    ∷ gives (writes guard15 0x04c 0x0000_0001 true true) 0 0
    ∷ gives (writes guard15 0x040 0x0000_0001 true true) 0 0
    ∷ gives (asks 15 0 false 5 false true) 0 1
    ∷ gives (asks 15 0 true 5 false true) 1 3
    ∷ gives (reads guard15 0x020 true true) 0 0x0000_0090
    ∷ gives (asks 15 0 true 7 false true) 1 3
    ∷ gives (asks 15 0 false 8 false true) 4 0
    ∷ []

-- the flag of a guard: ISR4 after a refused access to it
abbrev pub q6_flag : ℕ → ℕ → List Line
q6_flag n isr4 = gives (asks n 0 false 1 false true) 1 1 ∷ gives (reads Iac 0x090 true true) 0 isr4 ∷ []

-- START and END at granule 4, and at 512
abbrev pub q6_granules : List Line
q6_granules =
    gives (writes guard15 0x044 0x0000_0013 true true) 0 0
    ∷ gives (reads guard15 0x044 true true) 0 0x0000_0010
    ∷ gives (writes guard15 0x048 0x0000_0010 true true) 0 0
    ∷ gives (reads guard15 0x048 true true) 0 0x0000_0013
    ∷ gives (writes guard21 0x044 0x0000_03ff true true) 0 0
    ∷ gives (reads guard21 0x044 true true) 0 0x0000_0200
    ∷ gives (writes guard21 0x048 0x0000_0400 true true) 0 0
    ∷ gives (reads guard21 0x048 true true) 0 0x0000_05ff
    ∷ []

-- a nonsecure write to A's START with DCEN 1: taken where DCCID is 0, refused where it is 1
abbrev pub q6_delegated : List Line
q6_delegated =
    gives (writes guard15 0x05c 0x0000_0004 true true) 0 0
    ∷ gives (writes guard15 0x054 0x0000_0010 false true) 0 0
    ∷ gives (writes guard15 0x05c 0x0000_0014 true true) 0 0
    ∷ gives (writes guard15 0x054 0x0000_0020 false true) 1 0
    ∷ gives (reads guard15 0x054 false true) 0 0x0000_0010
    ∷ []

unfoldable pub worked : List (List Line)
worked =
    w1 1 ∷ w2 1 ∷ w3 1 ∷ w4 1 ∷ w5 ∷ w6 ∷ w7 ∷ w8 ∷ w9 ∷ w10 ∷ w11 ∷ w12 ∷ w13 ∷ w14
    -- W1 to W4, width 2
    ∷ w1 2 ∷ w2 2 ∷ w3 2 ∷ w4 2
    -- W1 to W4, width 4
    ∷ w1 4 ∷ w2 4 ∷ w3 4 ∷ w4 4
    -- Q-2
    ∷ q2_clear 1 ∷ q2_set 1 ∷ q2_clear 2 ∷ q2_set 2 ∷ q2_clear 4 ∷ q2_set 4
    -- Q-4
    ∷ q4_kept ∷ q4_handed ∷ q4_modulo
    -- Q-6
    ∷ q6_untouched ∷ q6_counted ∷ q6_flag 15 0x0200_0000 ∷ q6_flag 21 0x0800_0000 ∷ q6_flag 22 0x1000_0000 ∷ q6_flag 23 0x2000_0000
    ∷ q6_granules ∷ q6_delegated
    ∷ []
