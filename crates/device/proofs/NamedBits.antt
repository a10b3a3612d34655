-- Any event but reset changes named bits alone: document 01, "any other event changes named bits alone".
use mathlib.Core.Bool.{Bool, true, false, ◌&&◌, cond}
use mathlib.Core.List.{List}
use mathlib.Core.Path.{◌≡◌, refl, subst}
use Prim.Native.Nat.{ℕ, ◌<◌}
use borrow.Author.Tests.{eqb-true}
use lib.Dec.{eqb}
use lib.ListN.{length, get_or}
use Rattle.words.specs.Bit.{bit}
use Rattle.words.proofs.Alike.{Kept, kept_refl, Each, each-get}
use Rattle.access.specs.declared.answer.Answer.{Answer}
use Rattle.access.specs.declared.answer.Answer.TheVariants.{Done, Refused, Rejected}
use Rattle.access.specs.declared.flag.Flag.{Flag}
use Rattle.access.specs.declared.kind.Kind.{Kind}
use Rattle.access.specs.declared.request.Request.{Request}
use Rattle.rifsc.proofs.NamedBits as rifsc
use Rattle.iac.proofs.NamedBits as iac
use Rattle.risaf.specs.Guards.{is_guard, shape_of}
use Rattle.risaf.specs.declared.contents.Guard.{Guard}
use Rattle.risaf.proofs.NamedBits as risaf
use Rattle.risaf.proofs.NamedMemory.{memory_kept}
use Rattle.risaf.proofs.NamedWords as risaf-words
use Rattle.device.specs.Applied.{applied_state}
use Rattle.device.specs.Layout.{layout, state_of, state_words}
use Rattle.device.specs.Locks.{NotReset}
use Rattle.device.specs.Named.{named_state, named_of}
use Rattle.device.specs.State.{State, guard_at, guard_of, with_guard}
use Rattle.device.specs.Step.{settled, rifsc_flag, iac_flag, register_step, peripheral_step, memory_step, step}
use Rattle.device.specs.declared.event.Block.{Block}
use Rattle.device.specs.declared.event.Block.TheVariants.{Rifsc, Iac, Risaf}
use Rattle.device.specs.declared.event.Event.{Event}
use Rattle.device.specs.declared.event.Event.TheVariants.{Reset, Register, Peripheral, Memory, Master}
use Rattle.device.proofs.GuardSteps.{guard-same}
use Rattle.device.proofs.NamedPlaces.{rifsc-has, iac-has, guards-have}
use Rattle.device.proofs.NamedStates.{Alike, memory-alike, layout-alike, guard-alike, with-guard}
use Rattle.device.proofs.StateLayout.{layout_of}

module _ {s : State} (own : Alike Kept named_state s s) where
  -- t is s but for named bits
  abbrev Near : State → Type 0
  Near t = Alike Kept named_state t s

  own-guard : (n : ℕ) → risaf-words.Alike Kept (guard_at named_state (shape_of n).place) (guard_of s n) (guard_of s n)
  own-guard n = guard-alike (kept_refl 0 0) own n

  guard-kept : (n : ℕ) (g : Guard) → risaf-words.Alike Kept (guard_at named_state (shape_of n).place) g (guard_of s n) → Near (with_guard s n g)
  unfolding with_guard guard_of
  guard-kept n g r = subst (Alike Kept named_state (with_guard s n g)) (guard-same s (shape_of n).place) (with-guard n own r)

  settled-kept : (a : Answer) (i : Flag) (t : State) → Near t → Near (settled a i s t).next
  settled-kept (Done v) i t r = r
  settled-kept (Refused v) i t r = record { rifsc = r.rifsc; iac = iac.raise-kept iac-has r.iac i; guards = r.guards }
  settled-kept (Rejected why) i t r = own

  register-kept : (b : Block) (q : Request) → Near (register_step b q s).next
  unfolding register_step
  register-kept Rifsc q =
      settled-kept (register_step Rifsc q s).answer rifsc_flag _
      (record { rifsc = rifsc.stepped_kept rifsc-has own.rifsc q; iac = own.iac; guards = own.guards })
  register-kept Iac q =
      settled-kept (register_step Iac q s).answer iac_flag _
      (record { rifsc = own.rifsc; iac = iac.stepped_kept iac-has own.iac q; guards = own.guards })
  register-kept (Risaf n) q =
      let shape = shape_of n.0 in
      settled-kept (register_step (Risaf n) q s).answer shape.flag _
      (guard-kept n.0 _ (risaf.stepped_kept (is_guard n.0) shape (guards-have n.0) (own-guard n.0) q))

  memory-next : (there : Bool) (n o width : ℕ) (k : Kind) → Near (memory_step there n o width k s).next
  unfolding memory_step
  memory-next there n o width k =
      let shape = shape_of n in
      settled-kept (memory_step there n o width k s).answer shape.flag _
      (guard-kept n _ (memory_kept (there && is_guard n) shape o width k (guards-have n) (own-guard n)))

  next-kept : (e : Event) → NotReset e → Near (step e s).next
  unfolding step peripheral_step
  next-kept Reset other = absurd (other refl)
  next-kept (Register a) other = register-kept a.block a.request
  next-kept (Peripheral a) other = settled-kept (peripheral_step a s).answer (record { 0 = a.peripheral.0 }) s own
  next-kept (Memory a) other = memory-next true a.guard.0 a.offset a.width a.kind
  next-kept (Master a) other = memory-next _ a.guard.0 a.offset a.width _

-- in memory of any length; of a wrong one nothing is changed
pub unnamed-kept : (e : Event) (m : List ℕ) → NotReset e
    → (i j : ℕ) → j < 32 → bit (named_of i) j ≡ false → bit (get_or (applied_state e m) i 0) j ≡ bit (get_or m i 0) j
unfolding applied_state named_of
unnamed-kept e m other i = go (eqb (length m) state_words) refl
  where
    go : (b : Bool) → eqb (length m) state_words ≡ b
        → Kept (get_or (layout named_state) i 0) (get_or (cond b (layout (step e (state_of m)).next) m) i 0) (get_or m i 0)
    go true h =
        let l : length m ≡ state_words = eqb-true (length m) state_words h in
        let own = memory-alike Kept m m (kept_refl 0 0) l l (λ k. kept_refl _ (get_or m k 0)) in
        let words : Each Kept (layout named_state) (layout (step e (state_of m)).next) m =
        rw (layout_of m l) at (layout-alike (next-kept own e other)) in
        each-get words (kept_refl 0 0) i
    go false h = kept_refl _ (get_or m i 0)
