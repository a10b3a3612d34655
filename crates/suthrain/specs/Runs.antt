-- What a run of the program took of its input and printed. Where a reader or a writer does not say its bytes, nothing is claimed of them.
use Rattle.std.specs.Prelude.{◌≡◌, ℕ, ◌^◌, ◌<◌, List, [], ◌∷◌, ◌++◌, length, take, Option}
use Rattle.std.specs.Io.KnownBytes.{Appends, Consumes}
use Rattle.device.specs.Layout.{state_words}
use Rattle.stream.specs.Calls.{Call, all_taken, kept_after, put_by}
use Rattle.stream.specs.Kept.{Kept}
use Rattle.stream.specs.Transcript.{count, lines_in, transcript}
use Rattle.stream.specs.Kept.{kept_of}
use Rattle.suthrain.specs.declared.memory.Memory.{Memory}

-- ---- a whole run

-- what was taken of the input, and that its transcript was printed
pub record Transcribed (reader reader' writer writer' : Option (List ℕ)) (state : List ℕ) : Type 0 where
  pub input : List ℕ
  pub consumed : Consumes reader reader' input
  pub printed : length state ≡ state_words → count (lines_in input) < 2 ^ 64 → Appends writer writer' (transcript input)

-- ---- a part of a run

-- behind calls of `stream::take`, one after the other: what is kept, and what they put out
unfoldable pub kept_by_all : Kept → List Call → Kept
kept_by_all k [] = k
kept_by_all k (c ∷ cs) = kept_by_all (kept_after k c) cs

unfoldable pub put_by_all : Kept → List Call → List ℕ
put_by_all k [] = []
put_by_all k (c ∷ cs) = put_by k c ++ put_by_all (kept_after k c) cs

-- calls that took `taken` lead from k to l; what they put out stands behind what was filled before, and of both some is written, the rest
-- filled now
pub record Part (k l : Kept) (taken : List ℕ) (writer writer' : Option (List ℕ)) (before now : List ℕ) : Type 0 where
  pub calls : List Call
  pub leads : kept_by_all k calls ≡ l
  pub takes : all_taken k calls ≡ taken
  pub written : List ℕ
  pub appended : Appends writer writer' written
  pub joined : before ++ put_by_all k calls ≡ written ++ now

-- the same, of what was read, with nothing filled before and after
pub record Step (k l : Kept) (reader reader' writer writer' : Option (List ℕ)) : Type 0 where
  pub input : List ℕ
  pub consumed : Consumes reader reader' input
  pub part : Part k l input writer writer' [] []

-- ---- what is kept from block to block

abbrev pub kept_by : Memory → Kept
kept_by m = kept_of m.held m.line m.state

-- what is filled, and not yet written
abbrev pub filled_by : Memory → List ℕ
filled_by m = take m.at m.out
