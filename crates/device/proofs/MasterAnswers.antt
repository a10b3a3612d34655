-- What a master's access to lent memory answers and leaves: that of a memory access, where there is such a master.
use mathlib.Core.Bool.{true, false}
use mathlib.Core.List.{List}
use mathlib.Core.Path.{◌≡◌, refl}
use Prim.Native.Nat.{ℕ}
use lib.ListN.{length}
use Rattle.access.specs.Checks.{answered_with}
use Rattle.access.specs.declared.answer.Answer.TheVariants.{Rejected}
use Rattle.access.specs.declared.answer.Why.TheVariants.{NoSuch}
use Rattle.rifsc.specs.Masters.{is_master}
use Rattle.risaf.specs.Memory.{memory_answer, memory_checks, memory_stepped}
use Rattle.device.specs.Applied.{applied_answer, applied_state}
use Rattle.device.specs.Layout.{state_of, state_words}
use Rattle.device.specs.Masters.{made_as, carried_by}
use Rattle.device.specs.Step.{step, memory_step}
use Rattle.device.specs.declared.event.Event.TheVariants.{Master}
use Rattle.device.specs.declared.event.MasterAccess.{MasterAccess}
use Rattle.device.proofs.Applies.{own-length}

module _ (a : MasterAccess) (m : List ℕ) where
  pub no-master : length m ≡ state_words → is_master a.master ≡ false
      → (Rejected NoSuch ≡ applied_answer (Master a) m) × (m ≡ applied_state (Master a) m)
  unfolding step memory_step memory_stepped memory_answer memory_checks answered_with
  no-master h e = own-length (Master a) m h refl h (rw e refl) (rw e refl)

  module _ (e : is_master a.master ≡ true) where
    as-memory : step (Master a) (state_of m) ≡ step (made_as a (carried_by a (state_of m))) (state_of m)
    unfolding step
    as-memory = rw e refl

    pub master-answer : applied_answer (made_as a (carried_by a (state_of m))) m ≡ applied_answer (Master a) m
    unfolding applied_answer
    master-answer = rw as-memory refl

    pub master-state : applied_state (made_as a (carried_by a (state_of m))) m ≡ applied_state (Master a) m
    unfolding applied_state
    master-state = rw as-memory refl
