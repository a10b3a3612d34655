-- The answers' numbers and values: document 01, "Numbers given back".
use Rattle.std.specs.Prelude.{ℕ, ◌+◌, ◌*◌, ◌^◌}
use Rattle.access.specs.declared.answer.Why.{Why}
use Rattle.access.specs.declared.answer.Why.TheVariants.{Locked, NoRegister, NoSuch, Misaligned, Outside, Fetch, WrongLength}
use Rattle.access.specs.declared.answer.Answer.{Answer}
use Rattle.access.specs.declared.answer.Answer.TheVariants.{Done, Refused, Rejected}

abbrev pub why_number : Why → ℕ
why_number Locked = 2
why_number NoRegister = 3
why_number NoSuch = 4
why_number Misaligned = 5
why_number Outside = 6
why_number Fetch = 7
why_number WrongLength = 8

abbrev pub number_of : Answer → ℕ
number_of (Done v) = 0
number_of (Refused v) = 1
number_of (Rejected why) = why_number why

abbrev pub value_of : Answer → ℕ
value_of (Done v) = v
value_of (Refused v) = v
value_of (Rejected why) = 0

-- an answer in memory and in C
abbrev pub encoded_of : Answer → ℕ
encoded_of a = 2 ^ 32 * number_of a + value_of a

-- the column "left": the effect where it is done, the flags and fault registers where rights fail, else what was there
abbrev pub left : {S : Type 0} → Answer → S → S → S → S
left (Done v) before effect flagged = effect
left (Refused v) before effect flagged = flagged
left (Rejected why) before effect flagged = before
