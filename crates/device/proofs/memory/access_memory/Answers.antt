use Rattle.std.specs.Prelude.{Option}
use mathlib.Core.Path.{ap, sym, ◌∙◌}
use Prim.Native.Nat.{ℕ}
use native.Mathlib.Omega.{arith}
use lib.ListN.{length, drop}
use Rattle.std.proofs.lemmas.Slice.{between_to_end}
use Rattle.access.specs.declared.answer.Answer.TheVariants.{Done, Refused}
use Rattle.risaf.specs.Contents.{guard_words, head_words}
use Rattle.risaf.specs.Memory.{faulted, memory_checked}
use Rattle.risaf.specs.declared.guards.Shape.{Shape}
use Rattle.risaf.proofs.Shapes.{place-lt}
use Rattle.device.specs.Layout.{state_of}
use Rattle.device.specs.State.{flagged, guard_at}
use Rattle.device.proofs.GuardSteps.{memory-rejected, memory-at, memory-granted, memory-refused}
use Rattle.device.proofs.GuardLayout.{regions-length}
use Rattle.device.proofs.memory.access_memory.Goals as goal

pub returns-in-Err : goal.returns-in-Err
returns-in-Err c =
    let a = c.args in
    let ea = c.memory_checked.ensures ∙ ap (λ (g : Option Shape). memory_checked g a.o a.width a.k) c.shape.ensures in
    let all = memory-rejected (state_of a.state.now) a.guard.0 a.o a.width a.k ea c.in-Err.is in
    record { answer = all.0; next = all.1 }

pub of-place-requires : goal.of-place-requires
of-place-requires c =
    let a = c.args in
    let ea = c.memory_checked.ensures ∙ ap (λ (g : Option Shape). memory_checked g a.o a.width a.k) c.shape.ensures in
    rw (memory-at (state_of a.state.now) a.guard.0 a.o a.width a.k ea c.in-Ok.is) (place-lt _)

pub returns-in_default : goal.returns-in_default
returns-in_default c =
    let a = c.args in
    let t = state_of a.state.now in
    let ea = c.memory_checked.ensures ∙ ap (λ (g : Option Shape). memory_checked g a.o a.width a.k) c.shape.ensures in
    let ew = between_to_end c.load_words-words.result.now head_words _ (omega arith) ∙ ap (drop head_words) (c.load_words-words.ensures ∙ ap (λ (p : ℕ). guard_words (guard_at t p)) c.of-place.ensures) in
    let all = memory-granted t a.guard.0 a.o a.width a.k ea c.in-Ok.is ew
    (ap length ew ∙ regions-length a.state.now _ c.told-state (rw (sym c.of-place.ensures) c.of-place.result.within)) c.decide-verdict.ensures c.in_default.is in
    record { answer = ap Done c.number.ensures ∙ all.0; next = all.1 }

pub returns : goal.returns
unfolding faulted
returns c =
    let a = c.args in
    let t = state_of a.state.now in
    let ea = c.memory_checked.ensures ∙ ap (λ (g : Option Shape). memory_checked g a.o a.width a.k) c.shape.ensures in
    let ew = between_to_end c.load_words-words.result.now head_words _ (omega arith) ∙ ap (drop head_words) (c.load_words-words.ensures ∙ ap (λ (p : ℕ). guard_words (guard_at t p)) c.of-place.ensures) in
    let all = memory-refused t a.guard.0 a.o a.width a.k ea c.in-Ok.is ew
    (ap length ew ∙ regions-length a.state.now _ c.told-state (rw (sym c.of-place.ensures) c.of-place.result.within)) c.decide-verdict.ensures c.in-Some.is
    (c.raise.ensures
    ∙ ap (flagged _) (c.store_faults.ensures ∙ rw (c.recorded-faults.ensures, c.hears-heard.ensures, c.load_faults.ensures, c.of-place.ensures))) in
    record { answer = ap Refused c.number-2.ensures ∙ all.0; next = all.1 }
