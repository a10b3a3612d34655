-- Any event is answered by named bits alone, and leaves them by them alone: document 01, "The rules read only the bits named here".
use mathlib.Core.Bool.{Bool, true, false, ◌&&◌, cond}
use mathlib.Core.List.{List}
use mathlib.Core.Path.{◌≡◌, refl, sym, ◌∙◌}
use Prim.Native.Nat.{ℕ}
use borrow.Author.Tests.{eqb-true, ltb-true}
use lib.Dec.{eqb, ltb}
use lib.ListN.{length}
use Rattle.words.specs.Bit.{one}
use Rattle.words.specs.Six.{bit_at}
use Rattle.words.proofs.Alike.{Same, same_refl, same-fits, each-get}
use Rattle.access.specs.Checks.{answered, answered_with}
use Rattle.access.specs.declared.answer.Answer.{Answer}
use Rattle.access.specs.declared.answer.Answer.TheVariants.{Done, Refused, Rejected}
use Rattle.access.specs.declared.answer.Why.TheVariants.{NoSuch, WrongLength}
use Rattle.access.specs.declared.flag.Flag.{Flag}
use Rattle.access.specs.declared.kind.Kind.{Kind}
use Rattle.access.specs.declared.request.Request.{Request}
use Rattle.rifsc.specs.Contents as rifsc-contents
use Rattle.rifsc.specs.Masters.{is_master}
use Rattle.rifsc.specs.Peripherals.{exists}
use Rattle.rifsc.specs.Registers.{ppsrs}
use Rattle.rifsc.specs.declared.peripherals.PeripheralNumber.{PeripheralNumber}
use Rattle.rifsc.proofs.NamedAccess.{filter_same, carried_same}
use Rattle.rifsc.proofs.NamedBits as rifsc
use Rattle.iac.specs.Contents as iac-contents
use Rattle.iac.specs.Held.{held_line}
use Rattle.iac.proofs.NamedBits as iac
use Rattle.risaf.specs.Contents as risaf-contents
use Rattle.risaf.specs.Guards.{is_guard, shape_of}
use Rattle.risaf.specs.Memory.{memory_answer, memory_checks, memory_stepped}
use Rattle.risaf.proofs.NamedBits as risaf
use Rattle.risaf.proofs.NamedMemory.{memory-same}
use Rattle.risaf.proofs.NamedWords as risaf-words
use Rattle.device.specs.Applied.{applied_answer, applied_state, line_answer}
use Rattle.device.specs.Layout.{joined, parts_of, layout, state_of, state_words}
use Rattle.device.specs.Named.{named_state, named_of, Agree, Words32}
use Rattle.device.specs.State.{State, guard_at, guard_of, reset_state}
use Rattle.device.specs.Step.{Outcome, settled, rifsc_flag, iac_flag, register_step, peripheral_checks, peripheral_step, memory_step, step}
use Rattle.device.specs.declared.event.Block.{Block}
use Rattle.device.specs.declared.event.Block.TheVariants.{Rifsc, Iac, Risaf}
use Rattle.device.specs.declared.event.Event.{Event}
use Rattle.device.specs.declared.event.Event.TheVariants.{Reset, Register, Peripheral, Memory, Master}
use Rattle.device.specs.declared.event.MasterAccess.{MasterAccess}
use Rattle.device.specs.declared.event.PeripheralAccess.{PeripheralAccess}
use Rattle.device.proofs.NamedPlaces.{rifsc-has, iac-has, guards-have}
use Rattle.device.proofs.NamedStates.{Alike, memory-alike, layout-alike, guard-alike, with-guard}

-- ---- reset

reset-same : Alike Same named_state reset_state reset_state
unfolding reset_state layout joined state_of parts_of rifsc-contents.reset iac-contents.reset risaf-contents.reset
reset-same = memory-alike Same (layout reset_state) (layout reset_state) (same_refl 0 0) refl refl (λ i. same_refl _ _)

-- ---- what is rejected as none that there is

pub no-master : (a : MasterAccess) (s : State) → is_master a.master ≡ false → step (Master a) s ≡ record { answer = Rejected NoSuch; next = s }
unfolding step memory_step memory_stepped memory_answer memory_checks answered_with
no-master a s h = rw h

named-peripheral : (p : PeripheralNumber) → exists p ≡ true → bit_at ppsrs p.0 ≡ true
unfolding exists
named-peripheral p h = last (ltb p.0 128) h
  where
    last : (a : Bool) → (a && bit_at ppsrs p.0) ≡ true → bit_at ppsrs p.0 ≡ true
    last true e = e
    last false e = cc

module _ {s s' : State} (same : Alike Same named_state s s') where
  -- the two have the same answer, and the states left are alike
  abbrev Both : Outcome → Outcome → Type 0
  Both o o' = (o.answer ≡ o'.answer) × Alike Same named_state o.next o'.next

  same-guard : (n : ℕ) → risaf-words.Alike Same (guard_at named_state (shape_of n).place) (guard_of s n) (guard_of s' n)
  same-guard n = guard-alike (same_refl 0 0) same n

  settled_same : {a a' : Answer} {t t' : State} (i : Flag) → a ≡ a' → Alike Same named_state t t' → Both (settled a i s t) (settled a' i s' t')
  settled_same {a} {a'} {t} {t'} i e r = (e, rw e (go a'))
    where
      go : (b : Answer) → Alike Same named_state (settled b i s t).next (settled b i s' t').next
      go (Done v) = r
      go (Refused v) = record { rifsc = r.rifsc; iac = iac.raise-same iac-has r.iac i; guards = r.guards }
      go (Rejected why) = same

  register-same : (b : Block) (q : Request) → Both (register_step b q s) (register_step b q s')
  unfolding register_step
  register-same Rifsc q =
      let o = rifsc.stepped_same rifsc-has same.rifsc q in
      settled_same rifsc_flag o.0 (record { rifsc = o.1; iac = same.iac; guards = same.guards })
  register-same Iac q =
      let o = iac.stepped_same iac-has same.iac q in
      settled_same iac_flag o.0 (record { rifsc = same.rifsc; iac = o.1; guards = same.guards })
  register-same (Risaf n) q =
      let shape = shape_of n.0 in
      let o = risaf.stepped_same (is_guard n.0) shape (guards-have n.0) (same-guard n.0) q in
      settled_same shape.flag o.0 (with-guard n.0 same o.1)

  memory-both : (there : Bool) (n o width : ℕ) (k : Kind) → Both (memory_step there n o width k s) (memory_step there n o width k s')
  unfolding memory_step
  memory-both there n o width k =
      let shape = shape_of n in
      let r = memory-same (there && is_guard n) shape o width k (guards-have n) (same-guard n) in
      settled_same shape.flag r.0 (with-guard n same r.1)

  -- the peripheral's SEC and PRIV are looked at where it is one there is
  peripheral-same : (a : PeripheralAccess) → Both (peripheral_step a s) (peripheral_step a s')
  unfolding peripheral_step answered_with
  peripheral-same a = settled_same _ (go (exists a.peripheral) refl) same
    where
      go : (b : Bool) → exists a.peripheral ≡ b → answered (peripheral_checks a s) 0 ≡ answered (peripheral_checks a s') 0
      go true h = rw (filter_same rifsc-has same.rifsc a.peripheral (named-peripheral a.peripheral h))
      go false h = rw h

  -- and ATTR where the master is
  master-same : (a : MasterAccess) → Both (step (Master a) s) (step (Master a) s')
  unfolding step is_master
  master-same a = go (is_master a.master) refl
    where
      go : (b : Bool) → is_master a.master ≡ b → Both (step (Master a) s) (step (Master a) s')
      go true h =
          rw (carried_same rifsc-has same.rifsc a.master a.write (ltb-true _ _ h))
          (memory-both (is_master a.master) a.guard.0 a.offset a.width _)
      go false h = rw (no-master a s h, no-master a s' h) (refl, same)

  pub step_same : (e : Event) → Both (step e s) (step e s')
  unfolding step
  step_same Reset = (refl, reset-same)
  step_same (Register a) = register-same a.block a.request
  step_same (Peripheral a) = peripheral-same a
  step_same (Memory a) = memory-both true a.guard.0 a.offset a.width a.kind
  step_same (Master a) = master-same a

-- ---- memory

-- the states in memory that agrees
pub states-same : (m m' : List ℕ) → length m ≡ state_words → length m ≡ length m' → Words32 m → Words32 m' → Agree m m'
    → Alike Same named_state (state_of m) (state_of m')
unfolding named_of
states-same m m' k l fits fits' agree =
    memory-alike Same m m' (same_refl 0 0) k (sym l ∙ k) (λ i. same-fits _ _ _ (fits i) (fits' i) (agree i))

-- memory of any length; of a wrong one the answer is 8, and it is left
pub named-decide : (e : Event) (m m' : List ℕ) → length m ≡ length m' → Words32 m → Words32 m' → Agree m m'
    → (applied_answer e m ≡ applied_answer e m') × Agree (applied_state e m) (applied_state e m')
unfolding applied_answer applied_state named_of
named-decide e m m' l fits fits' agree = rw (← l) (go (eqb (length m) state_words) refl)
  where
    go : (b : Bool) → eqb (length m) state_words ≡ b
        → (cond b (step e (state_of m)).answer (Rejected WrongLength) ≡ cond b (step e (state_of m')).answer (Rejected WrongLength))
        × Agree (cond b (layout (step e (state_of m)).next) m) (cond b (layout (step e (state_of m')).next) m')
    go true h =
        let same = states-same m m' (eqb-true (length m) state_words h) l fits fits' agree in
        let o = step_same same e in
        (o.0, λ i. (each-get (layout-alike o.1) (same_refl 0 0) i).bits)
    go false h = (refl, agree)

-- they decide the interrupt line too
pub named-line : (m m' : List ℕ) → length m ≡ length m' → Words32 m → Words32 m' → Agree m m' → line_answer m ≡ line_answer m'
unfolding line_answer
named-line m m' l fits fits' agree = rw (← l) (go (eqb (length m) state_words) refl)
  where
    go : (b : Bool) → eqb (length m) state_words ≡ b
        → cond b (Done (one (held_line (state_of m).iac))) (Rejected WrongLength)
        ≡ cond b (Done (one (held_line (state_of m').iac))) (Rejected WrongLength)
    go true h =
        let same = states-same m m' (eqb-true (length m) state_words h) l fits fits' agree in
        rw (iac.line_same iac-has same.iac)
    go false h = refl
