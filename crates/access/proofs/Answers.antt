-- Laws of the answers.
use mathlib.Core.List.{[], ◌∷◌}
use mathlib.Core.Path.{◌≡◌, refl}
use Prim.Native.Nat.{◌≤◌}
use lib.Dec.{lit≤}
use types.Run.{OneOf, miss}
use denote.Enum.Declared.{tag_of}
use Rattle.access.specs.Answer.{why_number, number_of, left}
use Rattle.access.specs.declared.answer.Why.{Why}
use Rattle.access.specs.declared.answer.Why.TheVariants.{Locked, NoRegister, NoSuch, Misaligned, Outside, Fetch, WrongLength}
use Rattle.access.specs.declared.answer.Answer.{Answer}
use Rattle.access.specs.declared.answer.Answer.TheVariants.{Done, Refused, Rejected}
use Rattle.access.specs.contracts.answer.Answer.{the_type}

-- the number of a rejected event is none of the other two ways
pub why-number : (why : Why) → (2 ≤ why_number why) × (why_number why ≤ 8)
why-number Locked = (lit≤ tt, lit≤ tt)
why-number NoRegister = (lit≤ tt, lit≤ tt)
why-number NoSuch = (lit≤ tt, lit≤ tt)
why-number Misaligned = (lit≤ tt, lit≤ tt)
why-number Outside = (lit≤ tt, lit≤ tt)
why-number Fetch = (lit≤ tt, lit≤ tt)
why-number WrongLength = (lit≤ tt, lit≤ tt)

-- the numbers are at most 8, so an encoded answer fits a u64
pub number-most : (a : Answer) → number_of a ≤ 8
number-most (Done v) = lit≤ tt
number-most (Refused v) = lit≤ tt
number-most (Rejected why) = (why-number why).1

-- where a refusal leaves what was there, an answer other than done does
pub kept : {S : Type 0} (a : Answer) (s e : S) → OneOf (1 ∷ 2 ∷ []) (tag_of the_type a) → left a s e s ≡ s
kept (Done v) s e h = absurd (miss (1 ∷ 2 ∷ []) 0 tt h)
kept (Refused v) s e h = refl
kept (Rejected why) s e h = refl
