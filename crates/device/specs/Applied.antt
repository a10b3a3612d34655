-- An event applied to lent memory: memory of the wrong length is refused with 8 before anything is looked at, and nothing is changed.
use Rattle.std.specs.Prelude.{Bool, cond, List, eqb, length, ℕ}
use Rattle.access.specs.declared.answer.Answer.{Answer}
use Rattle.access.specs.declared.answer.Answer.TheVariants.{Done, Rejected}
use Rattle.access.specs.declared.answer.Why.TheVariants.{WrongLength}
use Rattle.words.specs.Bit.{one}
use Rattle.iac.specs.Held.{held_line}
use Rattle.device.specs.Layout.{state_words, layout, state_of}
use Rattle.device.specs.Step.{step}
use Rattle.device.specs.declared.event.Event.{Event}

abbrev pub sized : List ℕ → Bool
sized m = eqb (length m) state_words

unfoldable pub applied_answer : Event → List ℕ → Answer
applied_answer e m = cond (sized m) (step e (state_of m)).answer (Rejected WrongLength)

unfoldable pub applied_state : Event → List ℕ → List ℕ
applied_state e m = cond (sized m) (layout (step e (state_of m)).next) m

-- the interrupt line of the state in lent memory, as it is kept: value 1 where it is up
unfoldable pub line_answer : List ℕ → Answer
line_answer m = cond (sized m) (Done (one (held_line (state_of m).iac))) (Rejected WrongLength)
