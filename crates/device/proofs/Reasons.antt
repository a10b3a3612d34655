-- A memory or master access that nothing rejects is granted exactly where no test fails, and else refused for the first that does:
-- document 02, Q-5.
use mathlib.Core.Bool.{Bool, true, false, true≢false}
use mathlib.Core.Logic.{◌↔◌}
use mathlib.Core.Path.{◌≡◌, refl, sym, ap, ◌∙◌, subst}
use Prim.Native.Nat.{ℕ, zero, suc, ◌≤◌}
use native.Mathlib.Omega.{arith}
use borrow.Author.Tests.{ltb-true}
use lib.Dec.{lit≤}
use Rattle.std.specs.Prelude.{Option, is_none}
use Rattle.access.specs.Answer.{number_of, value_of}
use Rattle.access.specs.Bus.{heard}
use Rattle.access.specs.Checks.{unless}
use Rattle.access.specs.declared.answer.Answer.{Answer}
use Rattle.access.specs.declared.answer.Answer.TheVariants.{Done, Refused, Rejected}
use Rattle.access.specs.declared.answer.Why.TheVariants.{NoSuch, Misaligned, Outside}
use Rattle.access.specs.declared.kind.Kind.{Kind}
use Rattle.regions.specs.Rules.{Tests, reason_of, decided}
use Rattle.regions.proofs.OneTest.{security-by, privilege-by}
use Rattle.regions.specs.Verdict.{refused_number}
use Rattle.regions.specs.declared.verdict.Reason.{Reason}
use Rattle.regions.specs.declared.verdict.Verdict.{Verdict}
use Rattle.rifsc.specs.Masters.{is_master}
use Rattle.risaf.specs.Guards.{shape_of}
use Rattle.risaf.specs.Memory.{memory_stepped}
use Rattle.risaf.proofs.MemoryAnswer.{ruled, answer-by}
use Rattle.device.specs.Reasons.{IsAccess, Reaches, tests_at, NoneFails, FirstFails, with_kind, with_direction}
use Rattle.device.specs.State.{State, guard_of}
use Rattle.device.specs.Step.{Outcome, memory_step, step}
use Rattle.device.specs.declared.event.Event.{Event}
use Rattle.device.specs.declared.event.Event.TheVariants.{Reset, Register, Peripheral, Memory, Master}
use Rattle.device.specs.declared.event.MemoryAccess.{MemoryAccess}
use Rattle.device.proofs.MasterAccesses.{master-carries}
use Rattle.device.proofs.NamedDecide.{no-master}

-- ---- a master's access is one that carries its kind

access-step : (e : Event) (s : State) (a : MemoryAccess) → IsAccess e s a → Reaches e s → step e s ≡ step (Memory a) s
unfolding is_master
access-step Reset s a is r = absurd is
access-step (Register b) s a is r = absurd is
access-step (Peripheral b) s a is r = absurd is
access-step (Memory b) s a is r = ap (λ (e : Event). step e s) is
access-step (Master b) s a is r = by (is_master b.master) refl
  where
    by : (t : Bool) → is_master b.master ≡ t → step (Master b) s ≡ step (Memory a) s
    by true h = master-carries b s (ltb-true _ _ h) ∙ ap (λ (e : Event). step e s) is
    by false h = absurd (r.0 (ap (λ (x : Outcome). number_of x.answer) (no-master b s h)))

-- ---- the answer, by the tests

module _ (s : State) (a : MemoryAccess) where
  abbrev answer : Answer
  answer = (step (Memory a) s).answer

  abbrev verdict : Verdict
  verdict = decided (shape_of a.guard.0).bus (guard_of s a.guard.0).regions (shape_of a.guard.0).regions a.offset a.kind

  answer-is : (P : Answer → Type 0) → P (Rejected NoSuch) → P (Rejected Misaligned) → P (Rejected Outside) → P (ruled verdict) → P answer
  unfolding step memory_step memory_stepped
  answer-is P four five six rest = answer-by _ (shape_of a.guard.0) a.offset a.width a.kind P verdict four five six rest

-- the rules' answer, by the tests
ruled-by : (P : Answer → Type 0) (rule : ℕ) (t : Tests) → (NoneFails t → P (Done rule)) → ((r : ℕ) → FirstFails r t → P (Refused r))
    → P (unless (is_none (reason_of t)) (Refused (refused_number (reason_of t))) (Done rule))
ruled-by P rule t none first = go t.security refl t.privilege refl t.compartment refl
  where
    first_of : Bool → Bool → Bool → Option Reason
    first_of x y z = reason_of (record { security = x; privilege = y; compartment = z })

    go : (x : Bool) → t.security ≡ x → (y : Bool) → t.privilege ≡ y → (z : Bool) → t.compartment ≡ z
        → P (unless (is_none (first_of x y z)) (Refused (refused_number (first_of x y z))) (Done rule))
    go true e true f true g = none (e, f, g)
    go true e true f false g = first 3 (e, f, g)
    go true e false f z g = first 2 (e, f)
    go false e y f z g = first 1 e

module _ (s : State) (a : MemoryAccess) where
  by_tests : (P : Answer → Type 0) → P (Rejected NoSuch) → P (Rejected Misaligned) → P (Rejected Outside)
      → ((rule : ℕ) → NoneFails (tests_at s a) → P (Done rule)) → ((r : ℕ) → FirstFails r (tests_at s a) → P (Refused r))
      → P (answer s a)
  unfolding decided
  by_tests P four five six none first = answer-is s a P four five six (ruled-by P _ (tests_at s a) (none _) first)

  -- done: every test is passed
  passes-all : number_of (answer s a) ≡ 0 → NoneFails (tests_at s a)
  passes-all =
      by_tests (λ x. number_of x ≡ 0 → NoneFails (tests_at s a)) (λ e. absurd (omega (arith, e))) (λ e. absurd (omega (arith, e)))
      (λ e. absurd (omega (arith, e))) (λ rule n e. n) (λ r f e. absurd (omega (arith, e)))

-- ---- the theorems: e is the access a, of a kind or by a master

not-both : (r : ℕ) (t : Tests) → FirstFails r t → NoneFails t → ⊥
not-both zero t f n = f
not-both (suc zero) t f n = true≢false (sym n.0 ∙ f)
not-both (suc (suc zero)) t f n = true≢false (sym n.1 ∙ f.1)
not-both (suc (suc (suc zero))) t f n = true≢false (sym n.2 ∙ f.2)
not-both (suc (suc (suc (suc r)))) t f n = f

-- an answer that is none of 4, 5 and 6
abbrev Reached : Answer → Type 0
Reached x = (number_of x ≡ 4 → ⊥) × (number_of x ≡ 5 → ⊥) × (number_of x ≡ 6 → ⊥)

module _ (e : Event) (s : State) (a : MemoryAccess) (is : IsAccess e s a) where
  -- granted exactly when no test fails
  pub granted-exactly : Reaches e s → (number_of (step e s).answer ≡ 0) ↔ NoneFails (tests_at s a)
  granted-exactly r =
      let same = access-step e s a is r in
      subst (λ (o : Outcome). Reached o.answer → (number_of o.answer ≡ 0) ↔ NoneFails (tests_at s a)) (sym same)
      (by_tests s a (λ x. Reached x → (number_of x ≡ 0) ↔ NoneFails (tests_at s a)) (λ r. absurd (r.0 refl)) (λ r. absurd (r.1 refl))
      (λ r. absurd (r.2 refl)) (λ rule n r. (λ q. n, λ q. refl))
      (λ v f r. (λ q. absurd (omega (arith, q)), λ n. absurd (not-both v (tests_at s a) f n))))
      r

  -- and else refused
  pub refused-else : Reaches e s → (NoneFails (tests_at s a) → ⊥) → number_of (step e s).answer ≡ 1
  refused-else r =
      let same = access-step e s a is r in
      subst (λ (o : Outcome). Reached o.answer → (NoneFails (tests_at s a) → ⊥) → number_of o.answer ≡ 1) (sym same)
      (by_tests s a (λ x. Reached x → (NoneFails (tests_at s a) → ⊥) → number_of x ≡ 1) (λ r. absurd (r.0 refl)) (λ r. absurd (r.1 refl))
      (λ r. absurd (r.2 refl)) (λ rule n r q. absurd (q n)) (λ v f r q. refl))
      r

  -- refused, its value is 1, 2 or 3: the first test that fails
  pub refused-for : number_of (step e s).answer ≡ 1 → FirstFails (value_of (step e s).answer) (tests_at s a)
  refused-for h =
      let same = access-step e s a is (λ q. omega (arith, h, q), λ q. omega (arith, h, q), λ q. omega (arith, h, q)) in
      subst (λ (o : Outcome). number_of o.answer ≡ 1 → FirstFails (value_of o.answer) (tests_at s a)) (sym same)
      (by_tests s a (λ x. number_of x ≡ 1 → FirstFails (value_of x) (tests_at s a)) (λ q. absurd (omega (arith, q)))
      (λ q. absurd (omega (arith, q))) (λ q. absurd (omega (arith, q))) (λ rule n q. absurd (omega (arith, q))) (λ v f q. f))
      h

  pub reason-number : number_of (step e s).answer ≡ 1 → (1 ≤ value_of (step e s).answer) × (value_of (step e s).answer ≤ 3)
  reason-number h = by (value_of (step e s).answer) (refused-for h)
    where
      by : (r : ℕ) → FirstFails r (tests_at s a) → (1 ≤ r) × (r ≤ 3)
      by zero f = absurd f
      by (suc zero) f = (lit≤ tt, lit≤ tt)
      by (suc (suc zero)) f = (lit≤ tt, lit≤ tt)
      by (suc (suc (suc zero))) f = (lit≤ tt, lit≤ tt)
      by (suc (suc (suc (suc r)))) f = absurd f

  -- refused for 2 or 3, it passes the security test
  pub later-secure : number_of (step e s).answer ≡ 1 → 2 ≤ value_of (step e s).answer → (tests_at s a).security ≡ true
  later-secure h = by (value_of (step e s).answer) (refused-for h)
    where
      by : (r : ℕ) → FirstFails r (tests_at s a) → 2 ≤ r → (tests_at s a).security ≡ true
      by zero f l = absurd f
      by (suc zero) f l = absurd (omega arith)
      by (suc (suc zero)) f l = f.0
      by (suc (suc (suc zero))) f l = f.0
      by (suc (suc (suc (suc r)))) f l = absurd f

  -- refused for 1, it is not granted with another CID, direction or privilege
  pub security-stays : number_of (step e s).answer ≡ 1 → value_of (step e s).answer ≡ 1 → (k : Kind) → k.secure ≡ a.kind.secure
      → number_of (step (Memory (with_kind k a)) s).answer ≡ 0 → ⊥
  security-stays h v k same granted =
      let f : (tests_at s a).security ≡ false = subst (λ (r : ℕ). FirstFails r (tests_at s a)) v (refused-for h) in
      true≢false (sym (passes-all s (with_kind k a) granted).0 ∙ security-by (shape_of a.guard.0).bus _ _ a.offset (heard (shape_of a.guard.0).bus k) (heard (shape_of a.guard.0).bus a.kind) same ∙ f)

  -- refused for 2, it is not granted in the other direction
  pub privilege-stays : number_of (step e s).answer ≡ 1 → value_of (step e s).answer ≡ 2 → (write : Bool)
      → number_of (step (Memory (with_kind (with_direction write a.kind) a)) s).answer ≡ 0 → ⊥
  privilege-stays h v write granted =
      let k = with_direction write a.kind in
      let f : FirstFails 2 (tests_at s a) = subst (λ (r : ℕ). FirstFails r (tests_at s a)) v (refused-for h) in
      true≢false (sym (passes-all s (with_kind k a) granted).1 ∙ privilege-by (shape_of a.guard.0).bus _ _ a.offset (heard (shape_of a.guard.0).bus k) (heard (shape_of a.guard.0).bus a.kind) refl refl ∙ f.1)
