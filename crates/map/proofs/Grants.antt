-- The answer of `step` to a memory access, and the bits of the rights word at its offset.
use mathlib.Core.Bool.{Bool, true, false}
use mathlib.Core.Path.{◌≡◌, refl, sym, ◌∙◌}
use Prim.Native.Nat.{ℕ, ◌%◌, ◌≤◌, ◌<◌}
use native.Mathlib.Omega.{arith}
use lib.Dec.{eqb}
use borrow.Author.Tests.{eq-eqb, le-leb, lt-ltb}
use Rattle.words.specs.Bit.{bit}
use Rattle.words.proofs.Laws.{word-cong}
use Rattle.access.specs.Answer.{number_of}
use Rattle.access.specs.Checks.{unless, answered_with, reached_with}
use Rattle.access.specs.Kind.{kind_of, rights_bit}
use Rattle.access.specs.declared.answer.Answer.TheVariants.{Done, Refused}
use Rattle.access.specs.declared.kind.Kind.{Kind}
use Rattle.risaf.specs.Guards.{is_guard, shape_of}
use Rattle.risaf.specs.Memory.{is_width, memory_stepped, memory_answer, memory_checks}
use Rattle.regions.specs.Rights.{rights_word}
use Rattle.regions.specs.Rules.{decided, granted}
use Rattle.regions.specs.Verdict.{rule_number, refused_number}
use Rattle.regions.proofs.RightsBits.{rights-bit}
use Rattle.device.specs.State.{State, guard_of}
use Rattle.device.specs.Step.{memory_step, step}
use Rattle.map.specs.Demand.{grants_at}
use Rattle.map.specs.Map.{rights_of}

-- done exactly when the last check that can fail is passed
done : (v : Bool) (rule reason : ℕ) → eqb (number_of (unless v (Refused reason) (Done rule))) 0 ≡ v
done true rule reason = refl
done false rule reason = refl

module _ (s : State) (n x : ℕ) (hn : is_guard n ≡ true) (hx : x < (shape_of n).window) where
  module _ (width : ℕ) (hw : is_width width ≡ true) (ha : x % width ≡ 0) where
    grants-decided : (k : Kind) → k.cid.0 ≤ 7 → grants_at s n x width k ≡ granted (decided (shape_of n).bus (guard_of s n).regions (shape_of n).regions x k)
    unfolding grants_at step memory_step memory_stepped memory_answer memory_checks answered_with reached_with
    grants-decided k hk =
        let v = decided (shape_of n).bus (guard_of s n).regions (shape_of n).regions x k in
        simp (hn, le-leb k.cid.0 7 hk, hw, eq-eqb (x % width) 0 ha, lt-ltb x (shape_of n).window hx) (done (granted v) (rule_number v.rule) (refused_number v.reason))

    -- each bit is the answer to its kind of asking
    pub bit-grants : (k : Kind) → k.cid.0 ≤ 7 → bit (rights_of s n x) (rights_bit k) ≡ grants_at s n x width k
    unfolding rights_of
    bit-grants k hk = rights-bit (shape_of n).bus (guard_of s n).regions (shape_of n).regions x k hk ∙ sym (grants-decided k hk)

  byte-decided : (k : Kind) → k.cid.0 ≤ 7 → grants_at s n x 1 k ≡ granted (decided (shape_of n).bus (guard_of s n).regions (shape_of n).regions x k)
  byte-decided = grants-decided 1 refl (omega arith)

-- where the answers to all accesses of one byte are the same, so is the rights word
pub rights-same : (s t : State) (n x : ℕ) → is_guard n ≡ true → x < (shape_of n).window
    → ((k : Kind) → k.cid.0 ≤ 7 → grants_at s n x 1 k ≡ grants_at t n x 1 k) → rights_of s n x ≡ rights_of t n x
unfolding rights_of rights_word
rights-same s t n x hn hx same =
    word-cong 64 _ _
    (λ b h.
    let k = kind_of b in
    let c : k.cid.0 ≤ 7 = omega arith in
    sym (byte-decided s n x hn hx k c) ∙ same k c ∙ byte-decided t n x hn hx k c)
