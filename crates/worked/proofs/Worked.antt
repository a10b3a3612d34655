-- Every marked example holds, and every wrong reading is shut out, by computing.
use mathlib.Core.Bool.{Bool, true, false, ◌&&◌}
use mathlib.Core.List.{List, [], ◌∷◌}
use mathlib.Core.Path.{◌≡◌, refl, ap, ap₂, ◌∙◌}
use Prim.Native.Nat.{ℕ}
use lib.Dec.{eqb}
use borrow.Author.Tests.{eqb-true}
use Rattle.access.specs.Answer.{number_of, value_of}
use Rattle.words.specs.Bit.{one, masked, less, merged, united, with_bit}
use Rattle.access.specs.Checks.{answered_with, reached_with}
use Rattle.rifsc.specs.Registers.{register_at as rifsc-register_at, ppsr, row_of as rifsc-row_of}
use Rattle.rifsc.specs.Contents.{stored as rifsc-stored, with_stored as rifsc-with_stored, seen as rifsc-seen, reset as rifsc-reset}
use Rattle.rifsc.specs.Port.{read_of as rifsc-read_of, takes, word_written as rifsc-word_written, checks_of as rifsc-checks_of, answer_of as rifsc-answer_of, written as rifsc-written, stepped_at as rifsc-stepped_at}
use Rattle.rifsc.specs.Masters.{is_master, guarding_of, attributes_of, carried}
use Rattle.rifsc.specs.Peripherals.{exists, filter_of, grants}
use Rattle.iac.specs.Registers.{register_at as iac-register_at, iisr, row_of as iac-row_of}
use Rattle.iac.specs.Contents.{stored as iac-stored, with_word as iac-with_word, reset as iac-reset}
use Rattle.iac.specs.Held.{held_line, held_count, fresh_of, fresh_at, fresh, changes_at, changed, with_count, held}
use Rattle.iac.specs.Port.{read_of as iac-read_of, word_written as iac-word_written, checks_of as iac-checks_of, answer_of as iac-answer_of, written as iac-written, stepped_at as iac-stepped_at}
use Rattle.iac.specs.Flags.{flag_set, raise}
use Rattle.risaf.specs.Guards.{shape_in, shape_at, shape_of}
use Rattle.risaf.specs.Registers.{region_at, sub_register, region_register, register_at}
use Rattle.risaf.specs.Rows.{of_head, of_base, of_sub, row_of, row_at}
use Rattle.risaf.specs.Contents.{with_word, reset}
use Rattle.risaf.specs.Port.{port_in, read_of, delegated, allowed_of, subcfgr_written, word_in, checks_of, checks_none, answer_of, accessed, stepped, stepped_at}
use Rattle.regions.specs.Rules.{tests, decided}
use Rattle.regions.specs.Rights.{rights_word}
use Rattle.risaf.specs.Memory.{memory_checks, memory_answer, recorded_fault, faulted, memory_stepped}
use Rattle.device.specs.State.{State, guard_of, with_guard, reset_state}
use Rattle.device.specs.Step.{register_step, peripheral_step, memory_step, step}
use Rattle.map.specs.Bounds.{pairs_of}
use Rattle.map.specs.Map.{rights_of}
use Rattle.map.proofs.Steady.{rows-swept}
use Rattle.spans.specs.Map.{join}
use Rattle.spans.specs.Rows.{Rows, flat}
use Rattle.spans.specs.Sweep.{next_of, sweep_from, swept_map, bounds_of}
use Rattle.worked.specs.Example.{Line, gives, prints, keeps, handed, holding, Holds, AllHold}
use Rattle.worked.specs.Examples.{worked}
use Rattle.worked.specs.Readings.{readings}

-- ---- a test that computes, and what it says

both : (a b : Bool) → (a && b) ≡ true → (a ≡ true) × (b ≡ true)
both true b h = (refl, h)
both false b h = (h, cc)

same : List ℕ → List ℕ → Bool
same [] [] = true
same [] (y ∷ ys) = false
same (x ∷ xs) [] = false
same (x ∷ xs) (y ∷ ys) = eqb x y && same xs ys

same-is : (xs ys : List ℕ) → same xs ys ≡ true → xs ≡ ys
unfolding same
same-is [] [] h = refl
same-is [] (y ∷ ys) h = cc
same-is (x ∷ xs) [] h = cc
same-is (x ∷ xs) (y ∷ ys) h = let p = both _ _ h in ap₂ ◌∷◌ (eqb-true x y p.0) (same-is xs ys p.1)

-- the rows by a sweep over the guard's boundaries, which are those of its map (rows-swept)
swept : State → ℕ → Rows
swept s n = swept_map (rights_of s n) (bounds_of (pairs_of (guard_of s n).regions (shape_of n).regions)) (shape_of n).window

passes : List Line → State → Bool
passes [] s = true
passes (gives e number value ∷ ls) s =
    eqb (number_of (step e s).answer) number && (eqb (value_of (step e s).answer) value && passes ls (step e s).next)
passes (prints n rows ∷ ls) s = same (flat (swept s n)) rows && passes ls s
passes (keeps line count ∷ ls) s = eqb (one (held_line s.iac)) line && (eqb (held_count s.iac) count && passes ls s)
passes (handed line count ∷ ls) s = passes ls (holding line count s)

pass : List (List Line) → Bool
pass [] = true
pass (x ∷ xs) = passes x reset_state && pass xs

holds : (ls : List Line) (s : State) → passes ls s ≡ true → Holds ls s
unfolding Holds passes swept
holds [] s h = tt
holds (gives e number value ∷ ls) s h =
    let p = both _ _ h in
    let q = both _ _ p.1 in
    (eqb-true _ _ p.0, eqb-true _ _ q.0, holds ls (step e s).next q.1)
holds (prints n rows ∷ ls) s h =
    let p = both _ _ h in
    (ap flat (rows-swept s n) ∙ same-is _ _ p.0, holds ls s p.1)
holds (keeps line count ∷ ls) s h =
    let p = both _ _ h in
    let q = both _ _ p.1 in
    (eqb-true _ _ p.0, eqb-true _ _ q.0, holds ls s q.1)
holds (handed line count ∷ ls) s h = holds ls (holding line count s) h

hold : (xs : List (List Line)) → pass xs ≡ true → AllHold xs
unfolding AllHold pass
hold [] h = tt
hold (x ∷ xs) h = let p = both _ _ h in (holds x reset_state p.0, hold xs p.1)

-- ---- the examples, and the wrong readings

passed : (pass worked ≡ true) × (pass readings ≡ true)
unfolding pass passes same swept worked readings flat swept_map sweep_from next_of bounds_of join pairs_of rights_of rights_word masked less merged united with_bit answered_with reached_with rifsc-register_at ppsr rifsc-row_of rifsc-stored rifsc-with_stored rifsc-seen rifsc-reset rifsc-read_of takes rifsc-word_written rifsc-checks_of rifsc-answer_of rifsc-written rifsc-stepped_at iac-register_at iisr iac-row_of iac-stored iac-with_word fresh_of fresh_at fresh changes_at changed with_count held iac-reset iac-read_of iac-checks_of iac-answer_of iac-word_written iac-written iac-stepped_at flag_set raise shape_in shape_at shape_of region_at sub_register region_register register_at of_head of_base of_sub row_of row_at with_word reset port_in read_of delegated allowed_of subcfgr_written word_in checks_of checks_none answer_of accessed stepped stepped_at decided tests memory_checks memory_answer recorded_fault faulted memory_stepped guard_of with_guard reset_state register_step peripheral_step exists filter_of grants is_master guarding_of attributes_of carried memory_step step
passed = (refl, refl)

pub all_hold : AllHold worked
all_hold = hold worked passed.0

pub readings-hold : AllHold readings
readings-hold = hold readings passed.1
