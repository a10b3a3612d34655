-- A register access and a memory access to a guard, by what the code's calls give.
use Rattle.std.specs.Prelude.{Option, Some, None, Result, Ok, Err}
use mathlib.Core.Bool.{true, false, cond}
use mathlib.Core.List.{List}
use mathlib.Core.Path.{◌≡◌, refl, sym, ap, ◌∙◌}
use Prim.Native.Nat.{ℕ, ◌%◌}
use native.Mathlib.Omega.{arith}
use lib.ListN.{length}
use lib.Seq.{set-get_or}
use borrow.Author.Tests.{eq-eqb, ne_eqb}
use Rattle.std.specs.Prelude.{Some, None}
use Rattle.words.specs.Bit.{with_bit}
use Rattle.access.specs.Answer.{left}
use Rattle.access.specs.Bus.{heard}
use Rattle.access.specs.Checks.{answered_with, reached_with}
use Rattle.access.specs.declared.answer.Why.{Why}
use Rattle.access.specs.declared.answer.Why.TheVariants.{Misaligned, NoRegister, NoSuch}
use Rattle.access.specs.declared.answer.Answer.{Answer}
use Rattle.access.specs.declared.answer.Answer.TheVariants.{Done, Refused, Rejected}
use Rattle.access.specs.declared.kind.Kind.{Kind}
use Rattle.access.specs.declared.request.Request.{Request}
use Rattle.regions.specs.Lent.{decided_in}
use Rattle.regions.specs.Rules.{decided}
use Rattle.regions.specs.Verdict.{rule_number, reason_number}
use Rattle.regions.specs.declared.verdict.Reason.{Reason}
use Rattle.regions.specs.declared.verdict.Verdict.{Verdict}
use Rattle.risaf.specs.Contents.{iasr_at, regions_words, guard_words, with_word}
use Rattle.risaf.specs.Guards.{is_guard, shape_at, shape_of}
use Rattle.risaf.specs.Memory.{memory_answer, memory_checked, faulted, memory_stepped}
use Rattle.risaf.specs.Port.{port_in, answer_of, checks_of, checks_none, read_answer, accessed, accessed_at, stepped, stepped_at}
use Rattle.risaf.specs.Rows.{row_at}
use Rattle.risaf.specs.declared.contents.Guard.{Guard}
use Rattle.risaf.specs.declared.guards.GuardNumber.{GuardNumber}
use Rattle.risaf.specs.declared.guards.Shape.{Shape}
use Rattle.access.specs.declared.accessed.Accessed.{Accessed}
use Rattle.risaf.specs.declared.port.Port.{Port}
use Rattle.risaf.specs.declared.rows.Row.{Row}
use Rattle.risaf.proofs.MemoryAnswer.{ruled, onward, answer-onward, checked-own, answer-in}
use Rattle.risaf.proofs.PortLaws.{read_stepped, read_leaves}
use Rattle.risaf.proofs.Shapes.{found, found-as, regions-most}
use Rattle.device.specs.State.{State, guard_at, guard_of, with_guards, with_guard_at, with_guard, flagged}
use Rattle.device.specs.Step.{Outcome, settled, register_step, memory_step}
use Rattle.device.specs.declared.event.Block.TheVariants.{Risaf}

-- a guard stored as it was
pub guard-same : (s : State) (p : ℕ) → with_guard_at s p (guard_at s p) ≡ s
guard-same s p = ap (with_guards s) (set-get_or s.guards p _)

-- ---- a register access

-- to a guard that there is
guard-step : (s : State) (n : GuardNumber) (q : Request) {shape : Shape} → shape_at n.0 ≡ Some shape
    → register_step (Risaf n) q s
    ≡ settled (stepped true shape (guard_at s shape.place) q).answer shape.flag s
    (with_guard_at s shape.place (stepped true shape (guard_at s shape.place) q).next)
unfolding register_step guard_of with_guard
guard-step s n q e = let f = found n.0 e in rw (f.0, f.1) refl

module _ (s : State) (n : GuardNumber) (q : Request) {shape : Shape} {row : Row} {p : Port} {r : Accessed Port} (es : shape_at n.0 ≡ Some shape)
    (er : row_at shape.regions q.offset ≡ Some row) (ep : p ≡ port_in (guard_words (guard_at s shape.place)) row)
    (ea : r ≡ accessed_at (Some shape) (Some row) p q) where
  abbrev g : Guard
  g = guard_at s shape.place

  register-is : register_step (Risaf n) q s
      ≡ settled r.answer shape.flag s
      (with_guard_at s shape.place
      (left r.answer g (cond q.write (with_word g row.place r.next.word) g) (with_word g iasr_at r.next.iasr)))
  unfolding stepped stepped_at accessed_at
  register-is = guard-step s n q es ∙ rw (ea, ep, er) refl

  pub register-answer : r.answer ≡ (register_step (Risaf n) q s).answer
  register-answer = sym (ap (λ (o : Outcome). o.answer) register-is)

  pub register-written : {t : State} {v : ℕ} → r.answer ≡ Done v → q.write ≡ true
      → t ≡ with_guard_at s shape.place (with_word g row.place r.next.word) → t ≡ (register_step (Risaf n) q s).next
  register-written d w e = rw register-is (rw (d, w) e)

  pub register-refused : {t : State} {v : ℕ} → r.answer ≡ Refused v
      → t ≡ flagged shape.flag (with_guard_at s shape.place (with_word g iasr_at r.next.iasr))
      → t ≡ (register_step (Risaf n) q s).next
  register-refused d e = rw register-is (rw d e)

  pub register-rejected : {w : Why} → r.answer ≡ Rejected w → s ≡ (register_step (Risaf n) q s).next
  register-rejected d = rw register-is (rw d refl)

-- where there is no register
module _ (s : State) (n : GuardNumber) (q : Request) where
  abbrev Leaves : Why → Type 0
  Leaves w = (Rejected w ≡ (register_step (Risaf n) q s).answer) × (s ≡ (register_step (Risaf n) q s).next)

  none : {w : Why} → (stepped (is_guard n.0) (shape_of n.0) (guard_of s n.0) q).answer ≡ Rejected w → Leaves w
  unfolding register_step
  none d = rw d (refl, refl)

  pub register-no-guard : shape_at n.0 ≡ None → Leaves NoSuch
  unfolding stepped stepped_at accessed answer_of checks_of checks_none answered_with
  register-no-guard h = none (rw h (go (row_at (shape_of n.0).regions q.offset)))
    where
      go : (r : Option Row) → (stepped_at false (shape_of n.0) r (guard_of s n.0) q).answer ≡ Rejected NoSuch
      go None = refl
      go (Some row) = refl

  module _ {shape : Shape} (es : shape_at n.0 ≡ Some shape) where
    there : {w : Why} → (stepped true shape (guard_of s n.0) q).answer ≡ Rejected w → Leaves w
    there d = let f = found n.0 es in none (rw (f.1, ← f.0) d)

    pub register-misaligned : (q.offset % 4 ≡ 0 → ⊥) → Leaves Misaligned
    unfolding stepped stepped_at accessed answer_of checks_of checks_none answered_with
    register-misaligned m = there (go (row_at shape.regions q.offset))
      where
        go : (r : Option Row) → (stepped_at true shape r (guard_of s n.0) q).answer ≡ Rejected Misaligned
        go None = rw (ne_eqb (q.offset % 4) 0 m) refl
        go (Some row) = rw (ne_eqb (q.offset % 4) 0 m) refl

    pub register-unknown : q.offset % 4 ≡ 0 → row_at shape.regions q.offset ≡ None → Leaves NoRegister
    unfolding stepped stepped_at checks_none answered_with reached_with
    register-unknown m k = there (rw (k, eq-eqb (q.offset % 4) 0 m) refl)

-- a read
module _ (s : State) (n : GuardNumber) (q : Request) (w : q.write ≡ false) {shape : Shape} {a : Answer} (es : shape_at n.0 ≡ Some shape)
    (ea : a ≡ read_answer (Some shape) (guard_words (guard_at s shape.place)) q) where
  abbrev read : Guard
  read = guard_at s shape.place

  abbrev caught : Guard
  caught = with_word read iasr_at (with_bit 32 read.iasr 0 true)

  reads : register_step (Risaf n) q s ≡ settled a shape.flag s (with_guard_at s shape.place (left a read read caught))
  reads =
      let e : (stepped true shape read q).answer ≡ a = read_stepped shape read q w ∙ sym ea in
      guard-step s n q es
      ∙ ap (λ (g : Guard). settled (stepped true shape read q).answer shape.flag s (with_guard_at s shape.place g)) (read_leaves shape read q w)
      ∙ ap (λ (b : Answer). settled b shape.flag s (with_guard_at s shape.place (left b read read caught))) e

  pub register-read-kept : ((x : ℕ) → a ≡ Refused x → ⊥)
      → (a ≡ (register_step (Risaf n) q s).answer) × (s ≡ (register_step (Risaf n) q s).next)
  register-read-kept o = rw reads (refl, by a o)
    where
      by : (b : Answer) → ((x : ℕ) → b ≡ Refused x → ⊥)
          → s ≡ (settled b shape.flag s (with_guard_at s shape.place (left b read read caught))).next
      by (Done x) o = sym (guard-same s shape.place)
      by (Refused x) o = absurd (o x refl)
      by (Rejected y) o = refl

  pub register-read-refused : {t : State} {x v : ℕ} → a ≡ Refused x → v ≡ with_bit 32 read.iasr 0 true
      → t ≡ flagged shape.flag (with_guard_at s shape.place (with_word read iasr_at v))
      → (a ≡ (register_step (Risaf n) q s).answer) × (t ≡ (register_step (Risaf n) q s).next)
  register-read-refused d ev e = rw reads (refl, rw (d, ← ev) e)

-- ---- a memory access

module _ (s : State) (n o width : ℕ) (k : Kind) {r : Result Shape Why}
    (ea : r ≡ memory_checked (shape_at n) o width k) where
  abbrev answer_by : Verdict → Answer
  answer_by v = memory_answer (is_guard n) (shape_of n) o width k v

  -- at a guard of this shape, with this answer
  abbrev stepped_by : Shape → Answer → Outcome
  stepped_by shape b =
      let h = guard_at s shape.place in
      settled b shape.flag s (with_guard_at s shape.place (left b h h (faulted h o (heard shape.bus k))))

  abbrev verdict_at : Shape → Verdict
  verdict_at shape = decided shape.bus (guard_at s shape.place).regions shape.regions o k

  memory-is : memory_step true n o width k s ≡ stepped_by (shape_of n) (answer_by (verdict_at (shape_of n)))
  unfolding memory_step memory_stepped guard_of with_guard
  memory-is = refl

  by-verdict : (v : Verdict) → answer_by v ≡ onward r (ruled v)
  by-verdict v =
      answer-onward o width k (is_guard n) (shape_of n) v
      ∙ ap (λ (g : Option Shape). onward (memory_checked g o width k) (ruled v)) (sym (found-as n))
      ∙ ap (λ (x : Result Shape Why). onward x (ruled v)) (sym ea)

  pub memory-rejected : {why : Why} → r ≡ Err why
      → (Rejected why ≡ (memory_step true n o width k s).answer) × (s ≡ (memory_step true n o width k s).next)
  memory-rejected e = rw (memory-is, by-verdict (verdict_at (shape_of n)), e) (refl, refl)

  -- where nothing rejects it, by the verdict on the words lent
  module _ {shape : Shape} (done : r ≡ Ok shape) where
    pub memory-at : shape ≡ shape_of n
    memory-at = (found n (checked-own o width k (shape_at n) (sym ea ∙ done))).0

    module _ {w : List ℕ} {v : Verdict} (ew : w ≡ (guard_at s shape.place).regions) (lw : length w ≡ regions_words)
        (ev : v ≡ decided_in shape.bus w shape.regions o k) where
      memory-by : memory_step true n o width k s ≡ stepped_by shape (ruled v)
      memory-by =
          let m = regions-most n in
          let e : shape.regions ≡ (shape_of n).regions = ap (λ (y : Shape). y.regions) memory-at in
          memory-is
          ∙ ap (λ (y : Shape). stepped_by y (answer_by (verdict_at y))) (sym memory-at)
          ∙ ap (stepped_by shape)
          (ap (λ (l : List ℕ). answer_by (decided shape.bus l shape.regions o k)) (sym ew)
          ∙ sym (answer-in (is_guard n) (shape_of n) o width k shape.bus w shape.regions (omega arith) (omega arith))
          ∙ ap answer_by (sym ev) ∙ by-verdict v ∙ ap (λ (y : Result Shape Why). onward y (ruled v)) done)

      pub memory-granted : v.reason ≡ None
          → (Done (rule_number v.rule) ≡ (memory_step true n o width k s).answer) × (s ≡ (memory_step true n o width k s).next)
      memory-granted e = rw memory-by (rw e (refl, sym (guard-same s shape.place)))

      pub memory-refused : {b : Reason} → v.reason ≡ Some b → {t : State}
          → t ≡ flagged shape.flag (with_guard_at s shape.place (faulted (guard_at s shape.place) o (heard shape.bus k)))
          → (Refused (reason_number b) ≡ (memory_step true n o width k s).answer) × (t ≡ (memory_step true n o width k s).next)
      memory-refused d e = rw memory-by (rw d (refl, e))
