-- The state in lent memory: its parts, one after the other.
use Rattle.std.specs.Prelude.{◌&&◌, cond, List, [], ◌∷◌, ◌++◌, map, ℕ, zero, suc, ◌+◌, ◌*◌, eqb, ltb, length, get_or, take, drop, replicate}
use Rattle.words.specs.Six.{bit_words}
use Rattle.rifsc.specs.Masters.{masters}
use Rattle.risaf.specs.Contents.{head_words, guard_size, guard_words, guard_from}
use Rattle.risaf.specs.Guards.{guard_count}
use Rattle.device.specs.State.{State}

-- ---- parts of any sizes

-- where part k begins: behind the parts before it
abbrev pub place_in : List ℕ → ℕ → ℕ
place_in [] k = 0
place_in (n ∷ ns) zero = 0
place_in (n ∷ ns) (suc k) = n + place_in ns k

abbrev pub total : List ℕ → ℕ
total [] = 0
total (n ∷ ns) = n + total ns

-- the parts of some words
unfoldable pub parts_of : List ℕ → List ℕ → List (List ℕ)
parts_of [] m = []
parts_of (n ∷ ns) m = take n m ∷ parts_of ns (drop n m)

-- parts, one after the other
unfoldable pub joined : List (List ℕ) → List ℕ
joined [] = []
joined (p ∷ ps) = p ++ joined ps

-- ---- those of the state, in words

-- the parts before the guards', by number
abbrev pub cr_part : ℕ
cr_part = 0

abbrev pub seccfgr_part : ℕ
seccfgr_part = 1

abbrev pub privcfgr_part : ℕ
privcfgr_part = 2

abbrev pub rcfglockr_part : ℕ
rcfglockr_part = 3

abbrev pub rimccr_part : ℕ
rimccr_part = 4

abbrev pub attr_part : ℕ
attr_part = 5

abbrev pub ier_part : ℕ
ier_part = 6

abbrev pub isr_part : ℕ
isr_part = 7

abbrev pub line_part : ℕ
line_part = 8

abbrev pub count_part : ℕ
count_part = 9

abbrev pub head_sizes : List ℕ
head_sizes =
    -- RIFSC: CR, SECCFGR, PRIVCFGR, RCFGLOCKR, RIMC_CR, ATTR
    1 ∷ bit_words ∷ bit_words ∷ bit_words ∷ 1 ∷ masters
    -- IAC: IER, ISR, the line, the count
    ∷ bit_words ∷ bit_words ∷ 1 ∷ 1
    ∷ []

-- the guards behind them, in rising number
abbrev pub guard_sizes : List ℕ
guard_sizes = replicate guard_count guard_size

abbrev pub guards_at : ℕ
guards_at = total head_sizes

abbrev pub state_words : ℕ
state_words = guards_at + guard_count * guard_size

-- ---- a state as parts, and parts as a state

abbrev pub head_of : State → List (List ℕ)
head_of s =
    (s.rifsc.cr ∷ []) ∷ s.rifsc.seccfgr ∷ s.rifsc.privcfgr ∷ s.rifsc.rcfglockr ∷ (s.rifsc.rimccr ∷ []) ∷ s.rifsc.attr
    ∷ s.iac.ier ∷ s.iac.isr ∷ (s.iac.line ∷ []) ∷ (s.iac.count ∷ [])
    ∷ []

unfoldable pub layout : State → List ℕ
layout s = joined (head_of s) ++ joined (map guard_words s.guards)

-- the only word of a part
abbrev pub only : List ℕ → ℕ
only p = get_or p 0 0

-- from the parts before the guards', and those
abbrev pub state_from : List (List ℕ) → List (List ℕ) → State
state_from ps gs =
    record {
      rifsc =
          record {
            cr = only (get_or ps cr_part []);
            seccfgr = get_or ps seccfgr_part [];
            privcfgr = get_or ps privcfgr_part [];
            rcfglockr = get_or ps rcfglockr_part [];
            rimccr = only (get_or ps rimccr_part []);
            attr = get_or ps attr_part [];
          };
      iac =
          record {
            ier = get_or ps ier_part [];
            isr = get_or ps isr_part [];
            line = only (get_or ps line_part []);
            count = only (get_or ps count_part []);
          };
      guards = map guard_from gs;
    }

unfoldable pub state_of : List ℕ → State
state_of m = state_from (parts_of head_sizes m) (parts_of guard_sizes (drop guards_at m))

-- ---- the words of a guard's regions, by its place among the guards; none where there is no such guard, or the words are not a state's

unfoldable pub regions_in : List ℕ → ℕ → List ℕ
regions_in m place =
    cond (eqb (length m) state_words && ltb place guard_count)
    (drop head_words (get_or (parts_of guard_sizes (drop guards_at m)) place [])) []
