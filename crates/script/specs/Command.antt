-- A line as a command: document 01, "fields parted by tabs: `reset`; `reg` block offset r/w data s/n p/u, ..".
use Prim.Native.Char.{code}
use Rattle.std.specs.Prelude.{Bool, cond, List, [], ◌∷◌, ℕ, ◌+◌, eqb, leb, length, Option, Some, None, option_and_then}
use Rattle.device.specs.declared.event.Block.{Block}
use Rattle.device.specs.declared.event.Block.TheVariants.{Rifsc, Iac, Risaf}
use Rattle.device.specs.declared.event.Event.TheVariants.{Reset, Register, Peripheral, Memory, Master}
use Rattle.print.specs.Bytes.{bytes}
use Rattle.risaf.specs.declared.guards.GuardNumber.{GuardNumber}
use Rattle.script.specs.Fields.{line_most, field_at, fields_of, same}
use Rattle.script.specs.Numbers.{hex_of, decimal_of, either_of, operation_of}
use Rattle.script.specs.declared.command.Command.{Command}
use Rattle.script.specs.declared.command.Command.TheVariants.{Event, Map}

-- what follows a field that reads; one that does not makes the whole bad
infixl 10 ◌>>=◌
abbrev pub ◌>>=◌ : {A B : Type 0} → Option A → (A → Option B) → Option B
o >>= rest = option_and_then rest o

-- ---- fields that several lines have; fs are the line's fields

-- r/w
abbrev pub write_of : List ℕ → Option Bool
write_of f = either_of (code "w") (code "r") f

-- s/n p/u, from field k on
unfoldable pub rights_fields : List (List ℕ) → ℕ → Option (Bool × Bool)
rights_fields fs k =
    either_of (code "s") (code "n") (field_at fs k) >>= λ secure.
    either_of (code "p") (code "u") (field_at fs (k + 1)) >>= λ privileged.
    Some (secure, privileged)

-- guard offset width r/w, from field k on, and what follows them
unfoldable pub target_fields : List (List ℕ) → ℕ → (GuardNumber → ℕ → ℕ → Bool → Option Command) → Option Command
target_fields fs k rest =
    decimal_of (field_at fs k) >>= λ guard.
    hex_of (field_at fs (k + 1)) >>= λ offset.
    decimal_of (field_at fs (k + 2)) >>= λ width.
    write_of (field_at fs (k + 3)) >>= λ write.
    rest (record { 0 = guard }) offset width write

-- ---- the lines; field fs 0 is the keyword

-- a line of n fields
abbrev pub exactly : ℕ → List (List ℕ) → Option Command → Option Command
exactly n fs c = cond (eqb (length fs) n) c None

-- the line by one of its fields: what the first with that keyword says
unfoldable pub by_keyword : List ℕ → List (List ℕ × Option Command) → Option Command
by_keyword word [] = None
by_keyword word (l ∷ ls) = cond (same word l.0) l.1 (by_keyword word ls)

-- `reset`
unfoldable pub reset_line : List (List ℕ) → Option Command
reset_line fs = exactly 1 fs (Some (Event Reset))

-- offset r/w data s/n p/u, from field k to the last
unfoldable pub request_fields : Block → ℕ → List (List ℕ) → Option Command
request_fields block k fs =
    exactly (k + 5) fs
    (hex_of (field_at fs k) >>= λ offset.
    write_of (field_at fs (k + 1)) >>= λ write.
    hex_of (field_at fs (k + 2)) >>= λ value.
    rights_fields fs (k + 3) >>= λ (secure, privileged).
    Some
    (Event
    (Register
    (record {
      block = block;
      request = record { offset = offset; write = write; value = value; secure = secure; privileged = privileged };
    }))))

-- `reg` block .., with block `rifsc`, `iac`, or `risaf` with its number as the next field
unfoldable pub blocks_of : List (List ℕ) → List (List ℕ × Option Command)
blocks_of fs =
    (bytes "rifsc", request_fields Rifsc 2 fs)
    ∷ (bytes "iac", request_fields Iac 2 fs)
    ∷ (bytes "risaf", (decimal_of (field_at fs 2) >>= λ guard. request_fields (Risaf (record { 0 = guard })) 3 fs))
    ∷ []

abbrev pub register_line : List (List ℕ) → Option Command
register_line fs = by_keyword (field_at fs 1) (blocks_of fs)

-- `per` p r/w/x s/n p/u
unfoldable pub peripheral_line : List (List ℕ) → Option Command
peripheral_line fs =
    exactly 5 fs
    (decimal_of (field_at fs 1) >>= λ p.
    operation_of (field_at fs 2) >>= λ operation.
    rights_fields fs 3 >>= λ (secure, privileged).
    Some
    (Event
    (Peripheral
    (record { peripheral = record { 0 = p }; operation = operation; secure = secure; privileged = privileged }))))

-- `mem` guard offset width r/w cid s/n p/u
unfoldable pub memory_line : List (List ℕ) → Option Command
memory_line fs =
    exactly 8 fs
    (target_fields fs 1 λ guard offset width write.
    decimal_of (field_at fs 5) >>= λ cid.
    rights_fields fs 6 >>= λ (secure, privileged).
    Some
    (Event
    (Memory
    (record {
      guard = guard;
      offset = offset;
      width = width;
      kind = record { cid = record { 0 = cid }; write = write; privileged = privileged; secure = secure };
    }))))

-- `dma` master guard offset width r/w
unfoldable pub master_line : List (List ℕ) → Option Command
master_line fs =
    exactly 6 fs
    (decimal_of (field_at fs 1) >>= λ master.
    target_fields fs 2 λ guard offset width write.
    Some
    (Event
    (Master
    (record {
      master = record { 0 = master };
      guard = guard;
      offset = offset;
      width = width;
      write = write;
    }))))

-- `map` guard
unfoldable pub map_line : List (List ℕ) → Option Command
map_line fs = exactly 2 fs (decimal_of (field_at fs 1) >>= λ guard. Some (Map (record { 0 = guard })))

-- ---- any line

unfoldable pub lines_of : List (List ℕ) → List (List ℕ × Option Command)
lines_of fs =
    (bytes "reset", reset_line fs)
    ∷ (bytes "reg", register_line fs)
    ∷ (bytes "per", peripheral_line fs)
    ∷ (bytes "mem", memory_line fs)
    ∷ (bytes "dma", master_line fs)
    ∷ (bytes "map", map_line fs)
    ∷ []

abbrev pub command_in : List (List ℕ) → Option Command
command_in fs = by_keyword (field_at fs 0) (lines_of fs)

unfoldable pub command_of : List ℕ → Option Command
command_of line = cond (leb (length line) line_most) (command_in (fields_of line)) None
