-- What an event leaves where it is done and where it is refused, and that it leaves one of the two or what was there.
use Rattle.std.specs.Prelude.{Option, Some, None}
use mathlib.Core.Bool.{Bool, true, false, cond}
use mathlib.Core.Path.{◌≡◌, refl, ap, ◌∙◌}
use Prim.Native.Nat.{ℕ, ◌%◌}
use lib.Dec.{eqb}
use Rattle.words.specs.Bit.{with_bit}
use Rattle.access.specs.Bus.{heard}
use Rattle.access.specs.Answer.{left}
use Rattle.access.specs.Checks.{unless, answered_with, reached_with}
use Rattle.access.specs.declared.answer.Why.TheVariants.{Misaligned, NoRegister, NoSuch}
use Rattle.access.specs.declared.flag.Flag.{Flag}
use Rattle.access.specs.declared.answer.Answer.{Answer}
use Rattle.access.specs.declared.answer.Answer.TheVariants.{Done, Refused, Rejected}
use Rattle.access.specs.declared.kind.Kind.{Kind}
use Rattle.access.specs.declared.request.Request.{Request}
use Rattle.rifsc.specs.Contents as rifsc-contents
use Rattle.rifsc.specs.Masters.{is_master, attributes_of, carried}
use Rattle.rifsc.specs.Port as rifsc
use Rattle.rifsc.specs.Registers as rifsc-registers
use Rattle.rifsc.specs.declared.contents.Rifsc.{Rifsc as RifscWords}
use Rattle.rifsc.specs.declared.registers.Register.{Register as RifscRegister}
use Rattle.iac.specs.Port as iac
use Rattle.iac.specs.Registers as iac-registers
use Rattle.iac.specs.declared.contents.Iac.{Iac as IacWords}
use Rattle.iac.specs.declared.registers.Register.{Register as IacRegister}
use Rattle.risaf.specs.Contents.{iasr_at, guard_words, with_word}
use Rattle.risaf.specs.Guards.{is_guard, shape_of}
use Rattle.risaf.specs.Memory.{faulted, memory_stepped}
use Rattle.risaf.specs.Port as risaf
use Rattle.risaf.specs.Port.{port_in, word_written, with_port_word, refused_port}
use Rattle.risaf.specs.Rows.{row_at}
use Rattle.risaf.specs.declared.contents.Guard.{Guard}
use Rattle.risaf.specs.declared.port.Port.{Port}
use Rattle.risaf.specs.declared.rows.Row.{Row}
use Rattle.device.specs.State.{State, guard_of, with_rifsc, with_iac, with_guard, flagged, reset_state}
use Rattle.device.specs.Step.{settled, rifsc_flag, iac_flag, register_step, peripheral_step, memory_step, step}
use Rattle.device.specs.declared.event.Block.{Block}
use Rattle.device.specs.declared.event.Block.TheVariants.{Rifsc, Iac, Risaf}
use Rattle.device.specs.declared.event.Event.{Event}
use Rattle.device.specs.declared.event.Event.TheVariants.{Reset, Register, Peripheral, Memory, Master}
use Rattle.device.proofs.BlockSteps.{controller_at, flags_at}
use Rattle.device.proofs.GuardSteps.{guard-same}

-- ---- what an answer leaves

-- by the three ways an event can end
left-by : {S : Type 0} (P : S → Type 0) (a : Answer) (before effect flagged : S) → P before → ((v : ℕ) → a ≡ Done v → P effect)
    → ((v : ℕ) → a ≡ Refused v → P flagged) → P (left a before effect flagged)
left-by P (Done v) b e f p done refused = done v refl
left-by P (Refused v) b e f p done refused = refused v refl
left-by P (Rejected why) b e f p done refused = p

-- where a part is left by the same answer, as in a step of a block
left-part : {S T : Type 0} (a : Answer) (before : S) (part effect refused : T) (done flagged : T → S)
    → left a before (done (left a part effect refused)) (flagged (left a part effect refused))
    ≡ left a before (done effect) (flagged refused)
left-part (Done v) b p e r done flagged = refl
left-part (Refused v) b p e r done flagged = refl
left-part (Rejected why) b p e r done flagged = refl

-- ---- what an event leaves where it is done

-- where the offset is no register's there is none
abbrev pub rifsc_written : Option RifscRegister → Request → RifscWords → RifscWords
rifsc_written None q r = r
rifsc_written (Some reg) q r =
    let row = rifsc-registers.row_of reg in
    rifsc.written r reg row (rifsc-contents.seen r reg row.lock row.index) q

abbrev pub iac_written : Option IacRegister → Request → IacWords → IacWords
iac_written None q i = i
iac_written (Some reg) q i = iac.written i reg q

abbrev port_written : ℕ → Row → Port → Request → Port
port_written granule row p q = cond q.write (with_port_word p (word_written granule row p q.value q.secure)) p

-- the guard with the word that an access leaves
abbrev guard_with : Row → Request → Guard → Port → Guard
guard_with row q g p = cond q.write (with_word g row.place p.word) g

abbrev pub guard_written : ℕ → Row → Request → Guard → Guard
guard_written granule row q g = guard_with row q g (port_written granule row (port_in (guard_words g) row) q)

-- where it is to a register
abbrev pub written_at : ℕ → Option Row → Request → Guard → Guard
written_at granule None q g = g
written_at granule (Some row) q g = guard_written granule row q g

unfoldable pub register_effect : Block → Request → State → State
register_effect Rifsc q s = with_rifsc s (rifsc_written (rifsc-registers.register_at q.offset) q s.rifsc)
register_effect Iac q s = with_iac s (iac_written (iac-registers.register_at q.offset) q s.iac)
register_effect (Risaf n) q s = with_guard s n.0 (written_at (shape_of n.0).granule (row_at (shape_of n.0).regions q.offset) q (guard_of s n.0))

unfoldable pub effect : Event → State → State
effect Reset s = reset_state
effect (Register a) s = register_effect a.block a.request s
effect (Peripheral a) s = s
effect (Memory a) s = s
effect (Master a) s = s

-- ---- what it leaves where it is refused (1)

-- CAEF (0) is set
abbrev guard_refused : Guard → Guard
guard_refused g = with_word g iasr_at (with_bit 32 g.iasr 0 true)

unfoldable pub register_refused : Block → State → State
register_refused Rifsc s = flagged rifsc_flag s
register_refused Iac s = flagged iac_flag s
register_refused (Risaf n) s = flagged (shape_of n.0).flag (with_guard s n.0 (guard_refused (guard_of s n.0)))

abbrev pub memory_refused : ℕ → ℕ → Kind → State → State
memory_refused n o k s = flagged (shape_of n).flag (with_guard s n (faulted (guard_of s n) o (heard (shape_of n).bus k)))

unfoldable pub refused : Event → State → State
refused Reset s = s
refused (Register a) s = register_refused a.block s
refused (Peripheral a) s = flagged (record { 0 = a.peripheral.0 }) s
refused (Memory a) s = memory_refused a.guard.0 a.offset a.kind s
refused (Master a) s = memory_refused a.guard.0 a.offset (carried (attributes_of s.rifsc a.master) a.write) s

-- ---- any event leaves one of the two, or what was there

register-leaves : (b : Block) (q : Request) (s : State)
    → (register_step b q s).next ≡ left (register_step b q s).answer s (register_effect b q s) (register_refused b s)
unfolding register_step register_effect register_refused rifsc.stepped_at iac.stepped_at risaf.stepped risaf.stepped_at risaf.accessed risaf.checks_none answered_with reached_with port_in
register-leaves Rifsc q s = at (rifsc-registers.register_at q.offset)
  where
    at : (o : Option RifscRegister)
        → (controller_at o q s).next ≡ left (controller_at o q s).answer s (with_rifsc s (rifsc_written o q s.rifsc)) (flagged rifsc_flag s)
    at None = refl
    at (Some reg) =
        left-part (controller_at (Some reg) q s).answer s s.rifsc (rifsc_written (Some reg) q s.rifsc) s.rifsc (with_rifsc s)
        (λ r. flagged rifsc_flag (with_rifsc s r))
register-leaves Iac q s = at (iac-registers.register_at q.offset)
  where
    at : (o : Option IacRegister)
        → (flags_at o q s).next ≡ left (flags_at o q s).answer s (with_iac s (iac_written o q s.iac)) (flagged iac_flag s)
    at None = refl
    at (Some reg) =
        left-part (flags_at (Some reg) q s).answer s s.iac (iac_written (Some reg) q s.iac) s.iac (with_iac s)
        (λ i. flagged iac_flag (with_iac s i))
register-leaves (Risaf n) q s = go (row_at (shape_of n.0).regions q.offset)
  where
    g : Guard
    g = guard_of s n.0

    flag : Flag
    flag = (shape_of n.0).flag

    refusing : State
    refusing = flagged flag (with_guard s n.0 (guard_refused g))

    none : (t a : Bool)
        → let b = unless t (Rejected NoSuch) (unless a (Rejected Misaligned) (Rejected NoRegister)) in
        left b s (with_guard s n.0 g) (flagged flag (with_guard s n.0 g)) ≡ left b s (with_guard s n.0 g) refusing
    none true true = refl
    none true false = refl
    none false a = refl

    go : (r : Option Row)
        → let o = risaf.stepped_at (is_guard n.0) (shape_of n.0) r g q in
        (settled o.answer flag s (with_guard s n.0 o.next)).next
        ≡ left o.answer s (with_guard s n.0 (written_at (shape_of n.0).granule r q g)) refusing
    go None = none (is_guard n.0) (eqb (q.offset % 4) 0)
    go (Some row) =
        let p = port_in (guard_words g) row in
        let a = risaf.answer_of (is_guard n.0) (shape_of n.0).bus row p q in
        let written = port_written (shape_of n.0).granule row p q in
        let t = left a p written (refused_port p) in
        left-part a s g (guard_with row q g t) (with_word g iasr_at t.iasr) (with_guard s n.0)
        (λ h. flagged flag (with_guard s n.0 h))
        ∙ left-part a s p written (refused_port p) (λ o. with_guard s n.0 (guard_with row q g o))
        (λ o. flagged flag (with_guard s n.0 (with_word g iasr_at o.iasr)))

pub with_guard-same : (s : State) (n : ℕ) → with_guard s n (guard_of s n) ≡ s
unfolding with_guard guard_of
with_guard-same s n = guard-same s (shape_of n).place

memory-leaves : (there : Bool) (n o width : ℕ) (k : Kind) (s : State)
    → (memory_step there n o width k s).next ≡ left (memory_step there n o width k s).answer s s (memory_refused n o k s)
unfolding memory_step memory_stepped
memory-leaves there n o width k s =
    let a = (memory_step there n o width k s).answer in
    let g = guard_of s n in
    left-part a s g g (faulted g o (heard (shape_of n).bus k)) (with_guard s n) (λ h. flagged (shape_of n).flag (with_guard s n h))
    ∙ ap (λ (t : State). left a s t (memory_refused n o k s)) (with_guard-same s n)

pub step-leaves : (e : Event) (s : State) → (step e s).next ≡ left (step e s).answer s (effect e s) (refused e s)
unfolding step effect refused peripheral_step
step-leaves Reset s = refl
step-leaves (Register a) s = register-leaves a.block a.request s
step-leaves (Peripheral a) s = refl
step-leaves (Memory a) s = memory-leaves true a.guard.0 a.offset a.width a.kind s
step-leaves (Master a) s =
    memory-leaves (is_master a.master) a.guard.0 a.offset a.width (carried (attributes_of s.rifsc a.master) a.write) s

-- P of what an event leaves
pub step_by : (P : State → Type 0) (e : Event) (s : State) → P s → ((v : ℕ) → (step e s).answer ≡ Done v → P (effect e s))
    → ((v : ℕ) → (step e s).answer ≡ Refused v → P (refused e s)) → P (step e s).next
step_by P e s before done refusal =
    rw (step-leaves e s) (left-by P (step e s).answer s (effect e s) (refused e s) before done refusal)
