-- A master's access is the memory access of the kind that it carries, and is nonsecure where its guarding peripheral is: document 02, Q-2.
use mathlib.Core.Bool.{Bool, true, false, ◌&&◌, ◌||◌}
use mathlib.Core.Path.{◌≡◌, refl, ap, ◌∙◌}
use Prim.Native.Nat.{ℕ, ◌≤◌, ◌<◌}
use native.Mathlib.Omega.{arith}
use borrow.Author.Tests.{lt-ltb, ne_eqb}
use lib.Dec.{eqb}
use Rattle.words.proofs.Laws.{field_lt}
use Rattle.access.specs.Answer.{number_of}
use Rattle.access.specs.declared.kind.Kind.{Kind}
use Rattle.rifsc.specs.Masters.{masters, is_master, attributes_of, carried}
use Rattle.device.specs.Masters.{made_as, carried_by, with_secure, msec_of, guard_sec, Guarded}
use Rattle.device.specs.State.{State}
use Rattle.device.specs.Step.{step}
use Rattle.device.specs.declared.event.Event.TheVariants.{Master}
use Rattle.device.specs.declared.event.MasterAccess.{MasterAccess}

nothing : (b : Bool) → (b && false) ≡ false
nothing true = refl
nothing false = refl

all : (b : Bool) → (b && true) ≡ b
all true = refl
all false = refl

module _ (a : MasterAccess) (s : State) where
  there : a.master.0 < masters → is_master a.master ≡ true
  unfolding is_master
  there h = lt-ltb _ _ h

  pub master-carries : a.master.0 < masters → step (Master a) s ≡ step (made_as a (carried_by a s)) s
  unfolding step
  master-carries h = rw (there h)

  -- the flag of a guarded master
  flag : Guarded a → (carried_by a s).secure ≡ (msec_of a s && guard_sec a s)
  unfolding carried attributes_of
  flag g = rw (ne_eqb a.master.0 0 (λ e. omega (arith, e, g.0)))

  -- what it carries, with its own flag
  flagged : (b : Bool) → (carried_by a s).secure ≡ b → carried_by a s ≡ with_secure b (carried_by a s)
  flagged b e = ap (λ (x : Bool). with_secure x (carried_by a s)) e

  -- its guarding peripheral is nonsecure: so is the access, whatever MSEC is
  pub goes-nonsecure : Guarded a → guard_sec a s ≡ false → step (Master a) s ≡ step (made_as a (with_secure false (carried_by a s))) s
  goes-nonsecure g e =
      master-carries g.1
      ∙ ap (λ (k : Kind). step (made_as a k) s) (flagged false (flag g ∙ ap (λ (b : Bool). msec_of a s && b) e ∙ nothing (msec_of a s)))

  -- it is secure: MSEC as stored
  pub goes-as-stored : Guarded a → guard_sec a s ≡ true → step (Master a) s ≡ step (made_as a (with_secure (msec_of a s) (carried_by a s))) s
  goes-as-stored g e =
      master-carries g.1
      ∙ ap (λ (k : Kind). step (made_as a k) s) (flagged (msec_of a s) (flag g ∙ ap (λ (b : Bool). msec_of a s && b) e ∙ all (msec_of a s)))

  -- and so master 0, which has none
  pub zero-as-stored : a.master.0 ≡ 0 → step (Master a) s ≡ step (made_as a (with_secure (msec_of a s) (carried_by a s))) s
  unfolding carried attributes_of
  zero-as-stored h =
      let l : a.master.0 < masters = omega (arith, h) in
      let f : (carried_by a s).secure ≡ msec_of a s = ap (λ (n : ℕ). msec_of a s && (eqb n 0 || guard_sec a s)) h ∙ all (msec_of a s) in
      master-carries l ∙ ap (λ (k : Kind). step (made_as a k) s) (flagged (msec_of a s) f)

  -- where every nonsecure access of its direction is refused, so is that of a master whose guarding peripheral is nonsecure
  pub never-secure : Guarded a → guard_sec a s ≡ false
      → ((k : Kind) → k.secure ≡ false → k.write ≡ a.write → k.cid.0 ≤ 7 → number_of (step (made_as a k) s).answer ≡ 1)
      → number_of (step (Master a) s).answer ≡ 1
  unfolding carried
  never-secure g e refused =
      let l = field_lt (attributes_of s.rifsc a.master).attr 4 3 in
      ap (λ o. number_of o.answer) (goes-nonsecure g e)
      ∙ refused (with_secure false (carried_by a s)) refl refl (omega (arith, l))
