-- `device::registers::read_guard` meets its contract: refused or not.
use mathlib.Core.Bool.{true}
use mathlib.Core.List.{List}
use Prim.Native.Nat.{ℕ}
use lib.ListN.{get_or}
use mathlib.Core.Path.{ap, sym, ◌∙◌}
use Rattle.words.specs.Bit.{with_bit}
use Rattle.risaf.specs.Contents.{guard_words, iasr_at}
use Rattle.risaf.proofs.Shapes.{place-found}
use Rattle.device.specs.Layout.{state_of}
use Rattle.device.specs.State.{flagged, guard_at}
use Rattle.device.proofs.GuardSteps.{register-no-guard, register-read-kept, register-read-refused}
use Rattle.device.proofs.registers.read_guard.Goals as goal

pub of-place-requires : goal.of-place-requires
of-place-requires c =
    place-found c.args.guard.0 (sym c.shape.ensures ∙ c.in-Some.is)

pub returns-in-Refused : goal.returns-in-Refused
returns-in-Refused c =
    let t = state_of c.args.state.now in
    let e = c.with_bit-iasr.ensures ∙ ap (λ (w : List ℕ). with_bit 32 (get_or w iasr_at 0) 0 true) (c.load_words-held.ensures ∙ ap (λ (p : ℕ). guard_words (guard_at t p)) c.of-place.ensures) in
    let all = register-read-refused t c.args.guard c.args.q c.requires (sym c.shape.ensures ∙ c.in-Some.is) (c.read-answer.ensures ∙ rw (c.load_words-held.ensures, c.of-place.ensures)) c.in-Refused.is e (c.raise.ensures ∙ ap (flagged _) (c.store_word.ensures ∙ rw c.of-place.ensures)) in
    record { answer = all.0; next = all.1 }

pub returns-in_default : goal.returns-in_default
returns-in_default c =
    let all = register-no-guard (state_of c.args.state.now) c.args.guard c.args.q (sym c.shape.ensures ∙ c.in_default.is) in
    record { answer = all.0; next = all.1 }

pub returns-in_default-answer : goal.returns-in_default-answer
returns-in_default-answer c =
    let t = state_of c.args.state.now in
    let all = register-read-kept t c.args.guard c.args.q c.requires (sym c.shape.ensures ∙ c.in-Some.is) (c.read-answer.ensures ∙ rw (c.load_words-held.ensures, c.of-place.ensures)) c.in_default-answer.not-Refused in
    record { answer = all.0; next = all.1 }
