-- What a call does with a block of the input, line by line: it stops where there is no room for the longest text, behind a bad line, and at
-- the block's end, where it keeps the unfinished line.
use Rattle.std.specs.Prelude.{ℕ, ◌+◌, Bool, true, false, cond, ◌&&◌, Option, None, Some, is_some, List, ◌++◌, length, take, ◌==◌, nat_le}
use Rattle.print.specs.Writing.{over}
use Rattle.script.specs.Command.{command_of}
use Rattle.script.specs.declared.command.Command.{Command}
use Rattle.response.specs.Response.{left_by, room_for_longest, text_of}
use Rattle.stream.specs.Kept.{Kept, kept_count, kept_in, line_room, next_number, nothing_of}
use Rattle.stream.specs.Transcript.{Lines, line, rest, lines_in}
use Rattle.stream.specs.declared.blocks.Taken.{Taken}

-- ---- where a call stands

-- how many bytes it took, what is kept, what was put out and the place behind it, and the number of the bad line that it stands behind, if it does
pub record Place : Type 0 where
  pub took : ℕ
  pub kept : Kept
  pub out : List ℕ
  pub at : ℕ
  pub bad : Option ℕ

abbrev pub place_at : ℕ → Kept → List ℕ → ℕ → Place
place_at took k out at = record { took = took; kept = k; out = out; at = at; bad = None }

abbrev pub is_bad : Option Command → Bool
is_bad (Some c) = false
is_bad None = true

-- the line that ends with l: what was kept of it, and l
abbrev pub whole_line : Kept → List ℕ → List ℕ
whole_line k l = take k.held.bytes k.memory ++ l

-- what is kept behind it; a line of which nothing was kept does not go through the memory
unfoldable pub kept_behind : Kept → List ℕ → Kept
kept_behind k l =
    record {
      held = nothing_of (next_number k.held.number);
      memory = cond (k.held.bytes == 0) k.memory (kept_in k.memory k.held.bytes l);
      words = left_by (command_of (whole_line k l)) k.words;
    }

-- behind that line and its feed
unfoldable pub behind : Place → List ℕ → Place
behind s l =
    let k = s.kept in
    let c = command_of (whole_line k l) in
    let text = text_of c k.held.number k.words in
    record {
      took = s.took + length l + 1;
      kept = kept_behind k l;
      out = over s.out s.at text;
      at = s.at + length text;
      bad = cond (is_bad c) (Some k.held.number) None;
    }

-- behind the last of the block
unfoldable pub keeping : Place → List ℕ → Place
keeping s l =
    let k = s.kept in
    let h = k.held in
    record {
      took = s.took + length l;
      kept =
          record {
            held = record { bytes = kept_count h.bytes l; number = h.number };
            memory = kept_in k.memory h.bytes l;
            words = k.words;
          };
      out = s.out;
      at = s.at;
      bad = None;
    }

-- ---- where it stops

unfoldable pub stop : Place → Lines → Place
stop s (rest l) = keeping s l
stop s (line l more) =
    let next = behind s l in
    let last = cond (is_some next.bad) next (stop next more) in
    cond (room_for_longest s.out s.at) last s

-- the memory has its length, and no more is kept than it has
abbrev pub fits : Kept → Bool
fits k = length k.memory == line_room && nat_le k.held.bytes line_room

unfoldable pub called : Kept → List ℕ → List ℕ → ℕ → Place
called k block out at =
    let s = place_at 0 k out at in
    cond (fits k) (stop s (lines_in block)) s

-- what a call gives back
abbrev pub given : Place → Taken
given s =
    record {
      took = s.took;
      filled = s.at;
      held = s.kept.held;
      bad = s.bad;
    }
