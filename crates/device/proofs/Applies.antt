-- An event applied to lent memory, by what its step gives on a state of the right length.
use mathlib.Core.List.{List}
use mathlib.Core.Path.{◌≡◌, refl, sym, ap, ◌∙◌}
use Prim.Native.Nat.{ℕ}
use borrow.Author.Tests.{eq-eqb, ne_eqb}
use lib.ListN.{length}
use Rattle.access.specs.declared.answer.Answer.{Answer}
use Rattle.access.specs.declared.answer.Answer.TheVariants.{Rejected}
use Rattle.access.specs.declared.answer.Why.TheVariants.{WrongLength}
use Rattle.device.specs.Applied.{applied_answer, applied_state}
use Rattle.device.specs.Layout.{layout, state_of, state_words}
use Rattle.device.specs.Step.{step}
use Rattle.device.specs.declared.event.Event.{Event}
use Rattle.device.proofs.StateLayout.{layout_of}

module _ (e : Event) (m : List ℕ) where
  pub other_length : (length m ≡ state_words → ⊥) → (Rejected WrongLength ≡ applied_answer e m) × (m ≡ applied_state e m)
  unfolding applied_answer applied_state
  other_length h = rw (ne_eqb (length m) state_words h) (refl, refl)

  -- w is m as an array
  pub own-length : {a : Answer} {w m' : List ℕ} → length m ≡ state_words → w ≡ m → length m' ≡ state_words → a ≡ (step e (state_of w)).answer
      → state_of m' ≡ (step e (state_of w)).next → (a ≡ applied_answer e m) × (m' ≡ applied_state e m)
  unfolding applied_answer applied_state
  own-length {m' = m'} h s k answer next =
      rw (eq-eqb (length m) state_words h, ← s) (answer, sym (layout_of m' k) ∙ ap layout next)
