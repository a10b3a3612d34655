-- What a marked example says, and when it holds.
use Rattle.std.specs.Prelude.{Bool, true, false, List, [], ◌∷◌, ◌≡◌, ℕ}
use Rattle.access.specs.Answer.{number_of, value_of}
use Rattle.words.specs.Bit.{one}
use Rattle.spans.specs.Rows.{flat}
use Rattle.iac.specs.Contents.{with_held}
use Rattle.iac.specs.Held.{held_line, held_count}
use Rattle.device.specs.State.{State, with_iac, reset_state}
use Rattle.device.specs.Step.{step}
use Rattle.device.specs.declared.event.Block.{Block}
use Rattle.device.specs.declared.event.Event.{Event}
use Rattle.device.specs.declared.event.Event.TheVariants.{Register, Peripheral, Memory, Master}
use Rattle.device.specs.declared.event.Operation.TheVariants.{Read}
use Rattle.map.specs.Map.{rows_of}

-- ---- the events of the examples

abbrev pub reads : Block → ℕ → Bool → Bool → Event
reads block offset secure privileged =
    Register (record {
      block = block;
      request = record { offset = offset; write = false; value = 0; secure = secure; privileged = privileged };
    })

abbrev pub writes : Block → ℕ → ℕ → Bool → Bool → Event
writes block offset value secure privileged =
    Register (record {
      block = block;
      request = record { offset = offset; write = true; value = value; secure = secure; privileged = privileged };
    })

-- at guard n, so many bytes wide
abbrev pub asks_wide : ℕ → ℕ → ℕ → Bool → ℕ → Bool → Bool → Event
asks_wide width n offset write cid secure privileged =
    Memory (record {
      guard = record { 0 = n };
      offset = offset;
      width = width;
      kind = record { cid = record { 0 = cid }; write = write; privileged = privileged; secure = secure };
    })

-- one byte wide
abbrev pub asks : ℕ → ℕ → Bool → ℕ → Bool → Bool → Event
asks = asks_wide 1

-- by a master
abbrev pub master_asks : ℕ → ℕ → ℕ → ℕ → Bool → Event
master_asks width m n offset write =
    Master (record { master = record { 0 = m }; guard = record { 0 = n }; offset = offset; width = width; write = write })

-- a read at peripheral p
abbrev pub uses : ℕ → Bool → Bool → Event
uses p secure privileged =
    Peripheral (record { peripheral = record { 0 = p }; operation = Read; secure = secure; privileged = privileged })

-- ---- a line of an example, and an example

pub data Line : Type 0 where
  -- the event is answered with this number and value
  gives : Event → ℕ → ℕ → Line
  -- the rows of the guard's map are these numbers
  prints : ℕ → List ℕ → Line
  -- the line, 1 where it is up, and the count, as they are kept
  keeps : ℕ → ℕ → Line
  -- the state is handed in with these words for the line and the count
  handed : ℕ → ℕ → Line

-- the state with other words for the line and the count
abbrev pub holding : ℕ → ℕ → State → State
holding line count s = with_iac s (with_held s.iac (record { line = line; count = count }))

-- the lines hold one after the other, from a state on
unfoldable pub Holds : List Line → State → Type 0
Holds [] s = Unit {0}
Holds (gives e number value ∷ ls) s =
    (number_of (step e s).answer ≡ number) × (value_of (step e s).answer ≡ value) × Holds ls (step e s).next
Holds (prints n rows ∷ ls) s = (flat (rows_of s n) ≡ rows) × Holds ls s
Holds (keeps line count ∷ ls) s = (one (held_line s.iac) ≡ line) × (held_count s.iac ≡ count) × Holds ls s
Holds (handed line count ∷ ls) s = Holds ls (holding line count s)

-- each example holds from reset
unfoldable pub AllHold : List (List Line) → Type 0
AllHold [] = Unit {0}
AllHold (x ∷ xs) = Holds x reset_state × AllHold xs
