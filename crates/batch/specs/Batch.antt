-- A batch of memory accesses: what they give one after another, or 8 where lent memory is of the wrong length, and then none is done.
use Rattle.std.specs.Prelude.{Bool, ◌&&◌, cond, List, [], ◌∷◌, ◌++◌, map, ℕ, leb, length, drop}
use Rattle.access.specs.Answer.{encoded_of}
use Rattle.access.specs.declared.answer.Answer.{Answer}
use Rattle.access.specs.declared.answer.Answer.TheVariants.{Done, Rejected}
use Rattle.access.specs.declared.answer.Why.TheVariants.{WrongLength}
use Rattle.device.specs.Applied.{sized, applied_answer, applied_state}
use Rattle.device.specs.declared.event.Event.{Event}
use Rattle.device.specs.declared.event.MemoryAccess.{MemoryAccess}
use Rattle.device.specs.declared.event.Event.TheVariants.{Memory}

-- ---- events one after the other, each by `apply`: what they leave in lent memory, and the answer to each

unfoldable pub applied : List Event → List ℕ → List ℕ
applied [] m = m
applied (e ∷ es) m = applied es (applied_state e m)

unfoldable pub applied_answers : List Event → List ℕ → List Answer
applied_answers [] m = []
applied_answers (e ∷ es) m = applied_answer e m ∷ applied_answers es (applied_state e m)

-- ---- a batch

-- the state's memory has its length, and each access a place for its answer
abbrev pub fits : List ℕ → List MemoryAccess → List ℕ → Bool
fits m list places = sized m && leb (length list) (length places)

unfoldable pub batched : List ℕ → List MemoryAccess → List ℕ → Answer
batched m list places = cond (fits m list places) (Done 0) (Rejected WrongLength)

unfoldable pub batch_state : List ℕ → List MemoryAccess → List ℕ → List ℕ
batch_state m list places = cond (fits m list places) (applied (map Memory list) m) m

-- the answers, and after them what was there
unfoldable pub batch_answers : List ℕ → List MemoryAccess → List ℕ → List ℕ
batch_answers m list places =
    cond (fits m list places) (map encoded_of (applied_answers (map Memory list) m) ++ drop (length list) places) places
