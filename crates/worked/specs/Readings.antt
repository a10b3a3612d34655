-- Document 01's wrong readings, and some of Q-5, each with events whose answers shut it out. Register offsets of guard 2: NEST of region 1's subregion A is at 05C.
use Rattle.std.specs.Prelude.{true, false, List, [], ◌∷◌, ◌++◌}
use Rattle.worked.specs.Example.{Line, gives, reads, writes, asks, uses}
use Rattle.worked.specs.Examples.{guard2, region1, w3}

-- "SEC 0 on a base region admitting secure access too (true of peripherals only)": region 1 of W11, and peripheral 0
abbrev pub secure_too : List Line
secure_too =
    region1
    ++ gives (asks 2 0x1_0000 false 2 false true) 0 1
    ∷ gives (asks 2 0x1_0000 false 2 true true) 1 1
    ∷ gives (uses 0 false true) 0 0
    ∷ gives (uses 0 true true) 0 0
    ∷ []

-- "GLOCK stopping a delegated subregion write": DCEN 1, DCCID 1, then GLOCK; START of the base region is locked, that of A is not
abbrev pub glock_stops : List Line
glock_stops =
    gives (writes guard2 0x05c 0x0000_0014 true true) 0 0
    ∷ gives (writes guard2 0x000 0x0000_0001 true true) 0 0
    ∷ gives (writes guard2 0x044 0x0001_0000 true true) 2 0
    ∷ gives (writes guard2 0x054 0x0001_0000 false true) 0 0
    ∷ gives (reads guard2 0x054 false true) 0 0x0001_0000
    ∷ []

-- "a later fault overwriting IAESR": W3, whose second fault is at 40; IADDR stays too
abbrev pub fault_overwrites : List Line
fault_overwrites = w3 1 ++ gives (reads guard2 0x024 true true) 0 0x0000_0000 ∷ []

-- "letting a subregion govern outside its base": region 1 of W11, and A of W12 at 30000 to 30FFF, where rule 0 governs
abbrev pub outside_base : List Line
outside_base =
    region1
    ++ gives (writes guard2 0x054 0x0003_0000 true true) 0 0
    ∷ gives (writes guard2 0x058 0x0003_0fff true true) 0 0
    ∷ gives (writes guard2 0x050 0x0000_1121 true true) 0 0
    ∷ gives (asks 2 0x3_0000 false 2 false true) 1 1
    ∷ gives (asks 2 0x3_0000 false 1 true true) 0 0
    ∷ []

-- ---- readings of Q-5's "Each test is made over all governing regions before the next begins, and the first that fails is the reason"

-- the compartment before the privilege, or the privilege before the security, by rule 0: CID 2 unprivileged, secure and not
abbrev pub other_order : List Line
other_order = gives (asks 2 0 false 2 true false) 1 2 ∷ gives (asks 2 0 false 2 false false) 1 1 ∷ []

-- one region's tests before the next region's: region 1 of W11 with PRIVC2 set, which an unprivileged CID 2 fails, and over the same
-- offsets region 2, at 080, with SEC set, which it fails nonsecure
abbrev pub region_first : List Line
region_first =
    region1
    ++ gives (writes guard2 0x040 0x0004_0001 true true) 0 0
    ∷ gives (asks 2 0x1_0000 false 2 false false) 1 2
    ∷ gives (writes guard2 0x084 0x0001_0000 true true) 0 0
    ∷ gives (writes guard2 0x088 0x0001_ffff true true) 0 0
    ∷ gives (writes guard2 0x080 0x0000_0101 true true) 0 0
    ∷ gives (asks 2 0x1_0000 false 2 false false) 1 1
    ∷ []

unfoldable pub readings : List (List Line)
readings = secure_too ∷ glock_stops ∷ fault_overwrites ∷ outside_base ∷ other_order ∷ region_first ∷ []
