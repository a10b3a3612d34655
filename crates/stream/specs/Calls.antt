-- Calls one after the other, each given any block and any memory to put out to: what they took of the input, and what was put out.
use Rattle.std.specs.Prelude.{ℕ, ◌-◌, List, [], ◌∷◌, ◌++◌, take, drop}
use Rattle.stream.specs.Blocks.{called}
use Rattle.stream.specs.Kept.{Kept}
use Rattle.stream.specs.Transcript.{end_text}

-- what a call is given beside what is kept
pub record Call : Type 0 where
  pub block : List ℕ
  pub out : List ℕ
  pub at : ℕ

-- what is kept behind a call
abbrev pub kept_after : Kept → Call → Kept
kept_after k c = (called k c.block c.out c.at).kept

-- the bytes that a call takes: the first of its block
abbrev pub taken_by : Kept → Call → List ℕ
taken_by k c = take (called k c.block c.out c.at).took c.block

-- the bytes that a call puts out: those of the memory from the place that it is given up to the one that it gives back
abbrev pub put_by : Kept → Call → List ℕ
put_by k c =
    let s = called k c.block c.out c.at in
    take (s.at - c.at) (drop c.at s.out)

unfoldable pub all_taken : Kept → List Call → List ℕ
all_taken k [] = []
all_taken k (c ∷ cs) = taken_by k c ++ all_taken (kept_after k c) cs

-- with what the end of the input prints
unfoldable pub all_put : Kept → List Call → List ℕ
all_put k [] = end_text k.held.bytes k.held.number
all_put k (c ∷ cs) = put_by k c ++ all_put (kept_after k c) cs
