-- The answer to a memory access, as the code makes it.
use Rattle.std.specs.Prelude.{Option, Some, None, Result, Ok, Err, is_ok}
use Rattle.std.specs.Result.{result_ok}
use mathlib.Core.Bool.{Bool, true, false, ◌&&◌, and-false, cond, true≢false}
use mathlib.Core.List.{List}
use mathlib.Core.Path.{◌≡◌, refl, sym, ap, ◌∙◌}
use Prim.Native.Nat.{ℕ, ◌%◌, ◌≤◌, ◌<◌}
use native.Mathlib.Decide.{dec_lt}
use native.Mathlib.Omega.{arith}
use lib.Dec.{eqb, ltb}
use lib.ListN.{length}
use borrow.Author.Tests.{lt-leb}
use Rattle.access.specs.Checks.{unless, answered, answered_with, reached_with}
use Rattle.access.specs.declared.answer.Answer.{Answer}
use Rattle.access.specs.declared.answer.Answer.TheVariants.{Done, Refused, Rejected}
use Rattle.access.specs.declared.answer.Why.{Why}
use Rattle.access.specs.declared.answer.Why.TheVariants.{NoSuch, Misaligned, Outside}
use Rattle.access.specs.Kind.{debugger, is_cid}
use Rattle.access.specs.declared.bus.Bus.{Bus}
use Rattle.access.specs.declared.kind.Kind.{Kind}
use Rattle.regions.specs.Lent.{decided_in}
use Rattle.risaf.specs.Memory.{is_width, memory_checks, memory_answer, memory_checked, unrejected}
use Rattle.regions.specs.Rules.{decided, granted}
use Rattle.regions.specs.Words.{base, most_regions}
use Rattle.risaf.specs.declared.guards.Shape.{Shape}
use Rattle.regions.specs.Verdict.{rule_number, refused_number}
use Rattle.regions.specs.declared.verdict.Verdict.{Verdict}
use Rattle.regions.proofs.Enough.{decided-enough}

-- ---- what is answered before the rules are asked, and then

-- what the rules' verdict answers
abbrev pub ruled : Verdict → Answer
ruled v = unless (granted v) (Refused (refused_number v.reason)) (Done (rule_number v.rule))

-- the rules are asked only where nothing rejects the access
abbrev pub onward : Result Shape Why → Answer → Answer
onward (Ok shape) next = next
onward (Err why) next = Rejected why

module _ (o width : ℕ) (k : Kind) where
  pub answer-onward : (there : Bool) (shape : Shape) (v : Verdict)
      → memory_answer there shape o width k v ≡ onward (memory_checked (cond there (Some shape) None) o width k) (ruled v)
  unfolding memory_answer memory_checked memory_checks answered_with reached_with
  answer-onward false shape v = refl
  answer-onward true shape v = go (is_cid k.cid && is_width width) (eqb (o % width) 0) (ltb o shape.window)
    where
      go : (p a i : Bool)
          → unless p (Rejected NoSuch) (unless a (Rejected Misaligned) (unless i (Rejected Outside) (ruled v)))
          ≡ onward (unrejected (unless p (Rejected NoSuch) (unless a (Rejected Misaligned) (unless i (Rejected Outside) (Done 0)))) shape) (ruled v)
      go true true true = refl
      go true true false = refl
      go true false i = refl
      go false a i = refl

  -- the shape given is the one asked for
  pub checked-own : (guard : Option Shape) {shape : Shape} → memory_checked guard o width k ≡ Ok shape → guard ≡ Some shape
  unfolding memory_checked
  checked-own None e = absurd (true≢false (sym (ap is_ok e)))
  checked-own (Some s) {shape} e = go (answered (memory_checks true s o width k true) 0) e
    where
      go : (a : Answer) → unrejected a s ≡ Ok shape → Some s ≡ Some shape
      go (Done v) e = ap result_ok e
      go (Refused v) e = ap result_ok e
      go (Rejected why) e = absurd (true≢false (sym (ap is_ok e)))

module _ (there : Bool) (shape : Shape) (o width : ℕ) (k : Kind) where
  -- what holds of the three rejections, and of what the verdict answers, holds of the answer
  pub answer-by : (P : Answer → Type 0) (v : Verdict) → P (Rejected NoSuch) → P (Rejected Misaligned) → P (Rejected Outside) → P (ruled v)
      → P (memory_answer there shape o width k v)
  unfolding memory_answer memory_checks answered_with reached_with
  answer-by P v four five six rest = go (there && is_cid k.cid && is_width width) (eqb (o % width) 0) (ltb o shape.window)
    where
      go : (p a i : Bool) → P (unless p (Rejected NoSuch) (unless a (Rejected Misaligned) (unless i (Rejected Outside) (ruled v))))
      go true true true = rest
      go true true false = six
      go true false i = five
      go false a i = four

-- ---- where the code's verdict is not the rules', the answer does not look at it

pub answer-over : (there : Bool) (shape : Shape) (o width : ℕ) (k : Kind) (v : Verdict) → debugger.0 < k.cid.0
    → memory_answer there shape o width k v ≡ Rejected NoSuch
unfolding memory_answer memory_checks answered_with
answer-over there shape o width k v h = simp (lt-leb _ _ h, and-false)

pub answer-in : (there : Bool) (shape : Shape) (o width : ℕ) (k : Kind) (bus : Bus) (w : List ℕ) (n : ℕ) → n ≤ most_regions → base n ≤ length w
    → memory_answer there shape o width k (decided_in bus w n o k) ≡ memory_answer there shape o width k (decided bus w n o k)
answer-in there shape o width k bus w n h l = go (dec_lt debugger.0 k.cid.0)
  where
    go : Dec (debugger.0 < k.cid.0)
        → memory_answer there shape o width k (decided_in bus w n o k) ≡ memory_answer there shape o width k (decided bus w n o k)
    go (yes m) = answer-over there shape o width k _ m ∙ sym (answer-over there shape o width k _ m)
    go (no r) = ap (memory_answer there shape o width k) (decided-enough bus w n o h l k (omega arith))
