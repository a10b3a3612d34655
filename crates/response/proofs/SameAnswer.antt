-- Two events that print the same line were answered with the same number and the same value.
use Rattle.std.specs.Prelude.{Option, Some, None}
use mathlib.Core.Bool.{Bool, true, false, ◌&&◌, ◌||◌, cond}
use mathlib.Core.List.{List}
use mathlib.Core.Path.{◌≡◌}
use Prim.Native.Nat.{ℕ, ◌^◌, ◌<◌}
use lib.Dec.{lit<}
use Rattle.words.specs.Bit.{bit, masked, united}
use Rattle.words.proofs.Laws.{word_lt}
use Rattle.access.specs.Answer.{number_of, value_of}
use Rattle.access.specs.Bus.{heard}
use Rattle.access.specs.Checks.{unless, answered_with, reached_with}
use Rattle.access.specs.Request.{gives}
use Rattle.access.specs.declared.answer.Answer.{Answer}
use Rattle.access.specs.declared.answer.Answer.TheVariants.{Rejected}
use Rattle.access.specs.declared.answer.Why.TheVariants.{WrongLength}
use Rattle.access.specs.declared.checks.Checks.{Checks}
use Rattle.access.specs.declared.kind.Kind.{Kind}
use Rattle.access.specs.declared.request.Request.{Request}
use Rattle.rifsc.specs.Port.{read_of as rifsc-read_of, answer_of as rifsc-answer_of, stepped_at as rifsc-stepped_at}
use Rattle.rifsc.specs.Registers.{register_at as rifsc-register_at}
use Rattle.rifsc.specs.declared.registers.Register.{Register as RifscRegister}
use Rattle.iac.specs.Port.{read_of as iac-read_of, answer_of as iac-answer_of, stepped_at as iac-stepped_at}
use Rattle.iac.specs.Registers.{register_at as iac-register_at}
use Rattle.iac.specs.declared.registers.Register.{Register as IacRegister}
use Rattle.risaf.specs.Port.{read_of, answer_of, accessed, stepped, stepped_at}
use Rattle.risaf.specs.Guards.{is_guard, shape_of}
use Rattle.risaf.specs.Rows.{row_at}
use Rattle.risaf.specs.declared.rows.Row.{Row}
use Rattle.risaf.specs.Memory.{memory_answer, memory_stepped}
use Rattle.regions.specs.Verdict.{rule_number, refused_number}
use Rattle.regions.specs.declared.verdict.Reason.TheVariants.{Security, Privilege, Compartment}
use Rattle.regions.specs.declared.verdict.Rule.TheVariants.{Default, Base, Subregion}
use Rattle.regions.specs.Rules.{Tests, reason_of, counted, covered, rule_of, tests, decided}
use Rattle.device.specs.Applied.{sized, applied_answer}
use Rattle.device.specs.Layout.{state_of}
use Rattle.device.specs.State.{State, guard_of}
use Rattle.device.specs.Step.{register_step, peripheral_step, memory_step, step}
use Rattle.device.specs.declared.event.Block.{Block}
use Rattle.device.specs.declared.event.Block.TheVariants.{Rifsc, Iac, Risaf}
use Rattle.device.specs.declared.event.Event.{Event}
use Rattle.device.specs.declared.event.Event.TheVariants.{Reset, Register, Peripheral, Memory, Master}
use Rattle.print.proofs.Distinct.{answers-same}
use Rattle.script.specs.declared.command.Command.TheVariants.{Event as AnEvent}
use Rattle.response.specs.Response.{answer_text, text_of}

-- ---- the value of an answer is a word

unless-few : (b : Bool) (refusal rest : Answer) → value_of refusal < 2 ^ 32 → value_of rest < 2 ^ 32 → value_of (unless b refusal rest) < 2 ^ 32
unless-few true refusal rest h k = k
unless-few false refusal rest h k = h

answered-few : (c : Checks) (v r : ℕ) → v < 2 ^ 32 → r < 2 ^ 32 → value_of (answered_with c v r) < 2 ^ 32
unfolding answered_with reached_with
answered-few c v r h l =
    unless-few c.present _ _ (lit< tt)
    (unless-few c.aligned _ _ (lit< tt)
    (unless-few c.inside _ _ (lit< tt)
    (unless-few c.fetchless _ _ (lit< tt)
    (unless-few c.known _ _ (lit< tt)
    (unless-few c.allowed _ _ l
    (unless-few c.direction _ _ (lit< tt)
    (unless-few c.unlocked _ _ (lit< tt) h)))))))

gives-few : (q : Request) (w : ℕ) → w < 2 ^ 32 → gives q w < 2 ^ 32
gives-few q w h = go q.write
  where
    go : (b : Bool) → cond b 0 w < 2 ^ 32
    go true = lit< tt
    go false = h

-- the rules are 0, 1 and 2, the reasons at most 3
rule-few : (w : List ℕ) (n o : ℕ) → rule_number (rule_of w n o) < 2 ^ 32
rule-few w n o = go (counted w n o) (covered w n o)
  where
    go : (b c : Bool) → rule_number (cond b Subregion (cond c Base Default)) < 2 ^ 32
    go true c = lit< tt
    go false true = lit< tt
    go false false = lit< tt

reason-few : (t : Tests) → refused_number (reason_of t) < 2 ^ 32
reason-few t = go t.security t.privilege t.compartment
  where
    go : (a b c : Bool) → refused_number (cond a (cond b (cond c None (Some Compartment)) (Some Privilege)) (Some Security)) < 2 ^ 32
    go true true true = lit< tt
    go true true false = lit< tt
    go true false c = lit< tt
    go false b c = lit< tt

masked-few : (x mask : ℕ) → masked 32 x mask < 2 ^ 32
unfolding masked
masked-few x mask = word_lt 32 (λ i. bit mask i && bit x i)

united-few : (x y : ℕ) → united 32 x y < 2 ^ 32
unfolding united
united-few x y = word_lt 32 (λ i. bit x i || bit y i)

register-few : (b : Block) (q : Request) (s : State) → value_of (register_step b q s).answer < 2 ^ 32
unfolding register_step rifsc-stepped_at rifsc-answer_of rifsc-read_of iac-stepped_at iac-answer_of iac-read_of stepped stepped_at accessed answer_of read_of
register-few Rifsc q s = at (rifsc-register_at q.offset)
  where
    at : (o : Option RifscRegister) → value_of (rifsc-stepped_at o s.rifsc q).answer < 2 ^ 32
    at None = answered-few _ 0 0 (lit< tt) (lit< tt)
    at (Some reg) = answered-few _ _ 0 (gives-few q _ (united-few _ _)) (lit< tt)
register-few Iac q s = at (iac-register_at q.offset)
  where
    at : (o : Option IacRegister) → value_of (iac-stepped_at o s.iac q).answer < 2 ^ 32
    at None = answered-few _ 0 0 (lit< tt) (lit< tt)
    at (Some reg) = answered-few _ _ 0 (gives-few q _ (united-few _ _)) (lit< tt)
register-few (Risaf n) q s = go (row_at (shape_of n.0).regions q.offset)
  where
    go : (r : Option Row) → value_of (stepped_at (is_guard n.0) (shape_of n.0) r (guard_of s n.0) q).answer < 2 ^ 32
    go None = answered-few _ 0 0 (lit< tt) (lit< tt)
    go (Some row) = answered-few _ _ 0 (gives-few q _ (masked-few _ _)) (lit< tt)

memory-few : (there : Bool) (n o width : ℕ) (k : Kind) (s : State) → value_of (memory_step there n o width k s).answer < 2 ^ 32
unfolding memory_step memory_stepped memory_answer decided
memory-few there n o width k s =
    let shape = shape_of n in
    let w = (guard_of s n).regions in
    let m = shape.regions in
    let t = tests shape.bus w m o (heard shape.bus k) in
    answered-few _ (rule_number (rule_of w m o)) (refused_number (reason_of t)) (rule-few w m o) (reason-few t)

step-few : (e : Event) (s : State) → value_of (step e s).answer < 2 ^ 32
unfolding step peripheral_step
step-few Reset s = lit< tt
step-few (Register a) s = register-few a.block a.request s
step-few (Peripheral a) s = answered-few _ _ 0 (lit< tt) (lit< tt)
step-few (Memory a) s = memory-few true a.guard.0 a.offset a.width a.kind s
step-few (Master a) s = memory-few _ a.guard.0 a.offset a.width _ s

applied-few : (e : Event) (m : List ℕ) → value_of (applied_answer e m) < 2 ^ 32
unfolding applied_answer
applied-few e m = go (sized m)
  where
    go : (b : Bool) → value_of (cond b (step e (state_of m)).answer (Rejected WrongLength)) < 2 ^ 32
    go true = step-few e (state_of m)
    go false = lit< tt

-- ---- what is printed tells the answer

pub same_line : (e e' : Event) (line line' : ℕ) (m m' : List ℕ) → text_of (Some (AnEvent e)) line m ≡ text_of (Some (AnEvent e')) line' m'
    → (number_of (applied_answer e m) ≡ number_of (applied_answer e' m')) × (value_of (applied_answer e m) ≡ value_of (applied_answer e' m'))
unfolding text_of answer_text
same_line e e' line line' m m' h = answers-same (applied_answer e m) (applied_answer e' m') (applied-few e m) (applied-few e' m') h
