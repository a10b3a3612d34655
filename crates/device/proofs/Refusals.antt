-- What an event leaves, by its answer: document 01, "Numbers given back", the column "left".
use Rattle.std.specs.Prelude.{Option, Some, None}
use mathlib.Core.Bool.{Bool, true, false, cond, true≢false}
use mathlib.Core.List.{List, map}
use mathlib.Core.Path.{◌≡◌, refl, ap, ◌∙◌}
use Prim.Native.Nat.{ℕ, ◌≤◌}
use native.Mathlib.Omega.{arith}
use Rattle.std.specs.Prelude.{Option, Some, None}
use lib.Seq.{map-set_same}
use Rattle.words.specs.Bit.{bit}
use Rattle.access.specs.Answer.{number_of, left}
use Rattle.access.specs.Bus.{heard}
use Rattle.access.specs.declared.answer.Answer.{Answer}
use Rattle.access.specs.declared.answer.Answer.TheVariants.{Done, Refused, Rejected}
use Rattle.access.specs.declared.flag.Flag.{Flag}
use Rattle.access.specs.declared.kind.Kind.{Kind}
use Rattle.access.specs.declared.request.Request.{Request}
use Rattle.rifsc.specs.Masters.{attributes_of, carried}
use Rattle.rifsc.specs.Port as rifsc
use Rattle.rifsc.specs.Registers as rifsc-registers
use Rattle.rifsc.specs.declared.registers.Register.{Register as RifscRegister}
use Rattle.iac.specs.Contents.{with_word as with_iac_word}
use Rattle.iac.specs.Flags.{is_flag, flag_set, raise}
use Rattle.iac.specs.Held.{held}
use Rattle.iac.specs.Port as iac
use Rattle.iac.specs.Registers as iac-registers
use Rattle.iac.specs.declared.registers.Register.{Register as IacRegister}
use Rattle.iac.specs.declared.contents.Iac.{Iac as IacWords}
use Rattle.risaf.specs.Contents.{with_word}
use Rattle.risaf.specs.Guards.{shape_of}
use Rattle.risaf.specs.Memory.{faulted, recorded_fault}
use Rattle.risaf.specs.Rows.{of_head, row_at}
use Rattle.risaf.specs.declared.rows.Row.{Row}
use Rattle.risaf.specs.declared.contents.Guard.{Guard}
use Rattle.device.specs.Locks.{guard_settings, settings, configures}
use Rattle.device.specs.State.{State, guard_of, with_rifsc, with_iac, with_guard, flagged}
use Rattle.device.specs.Step.{rifsc_flag, iac_flag, step}
use Rattle.device.specs.declared.event.Block.{Block}
use Rattle.device.specs.declared.event.Block.TheVariants.{Rifsc, Iac, Risaf}
use Rattle.device.specs.declared.event.Event.{Event}
use Rattle.device.specs.declared.event.Event.TheVariants.{Reset, Register, Peripheral, Memory, Master}
use Rattle.access.proofs.Answers.{why-number}
use Rattle.device.specs.Refusals.{memory_fault, register_left, memory_left, refused_state}
use Rattle.device.proofs.Effects.{rifsc_written, iac_written, written_at, register_effect, effect, register_refused, memory_refused, refused, step-leaves, step_by, with_guard-same}

-- ---- any number but 0 and 1 leaves the state as it was

pub refusal-leaves : (e : Event) (s : State) → 2 ≤ number_of (step e s).answer → (step e s).next ≡ s
refusal-leaves e s h =
    step_by (λ t. t ≡ s) e s refl (λ v d. absurd (omega (arith, ap number_of d))) (λ v r. absurd (omega (arith, ap number_of r)))

-- ---- 1 changes flags and fault registers alone

raise-ier : (i : Flag) (s : IacWords) → (raise i s).ier ≡ s.ier
unfolding raise held flag_set with_iac_word
raise-ier i s = go (is_flag i)
  where
    go : (b : Bool) → (cond b (held s (flag_set i s)) s).ier ≡ s.ier
    go true = refl
    go false = refl

flag-kept : (i : Flag) (s : State) → settings (flagged i s) ≡ settings s
unfolding settings
flag-kept i s =
    ap (λ (l : List ℕ). record { rifsc = s.rifsc; ier = l; guards = map guard_settings s.guards }) (raise-ier i s.iac)

guard-kept : (s : State) (n : ℕ) (g : Guard) → guard_settings g ≡ guard_settings (guard_of s n) → settings (with_guard s n g) ≡ settings s
unfolding settings with_guard guard_of
guard-kept s n g h =
    ap (λ (l : List (ℕ × List ℕ)). record { rifsc = s.rifsc; ier = s.iac.ier; guards = l })
    (map-set_same guard_settings s.guards _ g _ h)

register-refused : (b : Block) (s : State) → settings (register_refused b s) ≡ settings s
unfolding register_refused with_word
register-refused Rifsc s = flag-kept rifsc_flag s
register-refused Iac s = flag-kept iac_flag s
register-refused (Risaf n) s = flag-kept _ _ ∙ guard-kept s n.0 _ refl

memory-refused : (n o : ℕ) (k : Kind) (s : State) → settings (memory_refused n o k s) ≡ settings s
unfolding faulted
memory-refused n o k s = flag-kept _ _ ∙ guard-kept s n _ refl

pub refused-kept : (e : Event) (s : State) → settings (refused e s) ≡ settings s
unfolding refused
refused-kept Reset s = refl
refused-kept (Register a) s = register-refused a.block s
refused-kept (Peripheral a) s = flag-kept (record { 0 = a.peripheral.0 }) s
refused-kept (Memory a) s = memory-refused a.guard.0 a.offset a.kind s
refused-kept (Master a) s = memory-refused a.guard.0 a.offset (carried (attributes_of s.rifsc a.master) a.write) s

pub refused-leaves : (e : Event) (s : State) → number_of (step e s).answer ≡ 1 → settings (step e s).next ≡ settings s
refused-leaves e s h =
    step_by (λ t. settings t ≡ settings s) e s refl (λ v d. absurd (omega (arith, ap number_of d))) (λ v r. refused-kept e s)

-- exactly: one flag, and at a guard its fault registers
register-exactly : (b : Block) (s : State) → register_refused b s ≡ register_left b s
unfolding register_refused with_word
register-exactly Rifsc s = refl
register-exactly Iac s = refl
register-exactly (Risaf n) s = refl

fault-exactly : (o : ℕ) (k : Kind) (g : Guard) → faulted g o k ≡ memory_fault o k g
unfolding faulted recorded_fault of_head
fault-exactly o k g = by (bit g.iasr 1) refl
  where
    by : (t : Bool) → bit g.iasr 1 ≡ t → faulted g o k ≡ memory_fault o k g
    by true e = rw e refl
    by false e = rw e refl

memory-exactly : (n o : ℕ) (k : Kind) (s : State) → memory_refused n o k s ≡ memory_left n o k s
memory-exactly n o k s = ap (λ (g : Guard). flagged (shape_of n).flag (with_guard s n g)) (fault-exactly o (heard (shape_of n).bus k) (guard_of s n))

all-exactly : (e : Event) (s : State) → refused e s ≡ refused_state e s
unfolding refused refused_state
all-exactly Reset s = refl
all-exactly (Register a) s = register-exactly a.block s
all-exactly (Peripheral a) s = refl
all-exactly (Memory a) s = memory-exactly a.guard.0 a.offset a.kind s
all-exactly (Master a) s = memory-exactly a.guard.0 a.offset (carried (attributes_of s.rifsc a.master) a.write) s

pub refused-exactly : (e : Event) (s : State) → number_of (step e s).answer ≡ 1 → (step e s).next ≡ refused_state e s
refused-exactly e s h = rw (step-leaves e s) (by (step e s).answer h)
  where
    by : (a : Answer) → number_of a ≡ 1 → left a s (effect e s) (refused e s) ≡ refused_state e s
    by (Done v) h = absurd (omega (arith, h))
    by (Refused v) h = all-exactly e s
    by (Rejected why) h = absurd (omega (arith, h, (why-number why).0))

-- ---- what is done and is neither reset nor a register write leaves the state as it was

read-effect : (b : Block) (q : Request) (s : State) → q.write ≡ false → register_effect b q s ≡ s
unfolding register_effect rifsc.written iac.written
read-effect Rifsc q s h = at (rifsc-registers.register_at q.offset)
  where
    at : (o : Option RifscRegister) → with_rifsc s (rifsc_written o q s.rifsc) ≡ s
    at None = refl
    at (Some reg) = rw (h, rifsc.written)
read-effect Iac q s h = at (iac-registers.register_at q.offset)
  where
    at : (o : Option IacRegister) → with_iac s (iac_written o q s.iac) ≡ s
    at None = refl
    at (Some reg) = rw (h, iac.written)
read-effect (Risaf n) q s h = go (row_at (shape_of n.0).regions q.offset)
  where
    go : (r : Option Row) → with_guard s n.0 (written_at (shape_of n.0).granule r q (guard_of s n.0)) ≡ s
    go None = with_guard-same s n.0
    go (Some row) = rw h (with_guard-same s n.0)

grant-effect : (e : Event) (s : State) → configures e ≡ false → effect e s ≡ s
unfolding effect
grant-effect Reset s h = absurd (true≢false h)
grant-effect (Register a) s h = read-effect a.block a.request s h
grant-effect (Peripheral a) s h = refl
grant-effect (Memory a) s h = refl
grant-effect (Master a) s h = refl

pub done-leaves : (e : Event) (s : State) → configures e ≡ false → number_of (step e s).answer ≡ 0 → (step e s).next ≡ s
done-leaves e s c h =
    step_by (λ t. t ≡ s) e s refl (λ v d. grant-effect e s c) (λ v r. absurd (omega (arith, ap number_of r)))

-- it never changes a setting, however it is answered
pub settings-kept : (e : Event) (s : State) → configures e ≡ false → settings (step e s).next ≡ settings s
settings-kept e s c =
    step_by (λ t. settings t ≡ settings s) e s refl (λ v d. ap settings (grant-effect e s c)) (λ v r. refused-kept e s)
