-- Locks hold: document 01, "A lock bit is set by 1 and not cleared by 0; only reset clears it".
use Rattle.std.specs.Prelude.{Option, Some, None, option_map}
use mathlib.Core.Bool.{true, false, true≢false}
use mathlib.Core.List.{List, [], ◌∷◌, map}
use mathlib.Core.Path.{◌≡◌, refl, sym, ap, ◌∙◌, subst}
use Prim.Native.Nat.{ℕ, zero, suc, ◌+◌, ◌*◌, ◌^◌, ◌<◌}
use native.Mathlib.Decide.{dec_lt}
use native.Mathlib.Omega.{arith}
use lib.Dec.{lit<}
use lib.ListN.{length, get_or, replicate, get_or-map}
use lib.Seq.{get_or-append-add}
use Rattle.words.specs.Bit.{bit}
use Rattle.words.proofs.Laws.{bit_high, bit-zero}
use Rattle.access.specs.declared.answer.Answer.TheVariants.{Done}
use Rattle.access.specs.declared.request.Request.{Request}
use Rattle.regions.specs.Words.{subregion_words, region_words, most_regions, sub}
use Rattle.rifsc.specs.Contents as rifsc-contents
use Rattle.rifsc.specs.Registers.{ppsr}
use Rattle.risaf.specs.Contents as risaf-contents
use Rattle.risaf.specs.Contents.{guard_from, region_reset, regions_reset}
use Rattle.risaf.specs.Guards.{GuardRow, guards, is_guard, shape_of}
use Rattle.risaf.specs.Port as risaf
use Rattle.risaf.specs.Registers.{register_at}
use Rattle.risaf.specs.Rows.{row_of, row_at}
use Rattle.risaf.specs.declared.guards.Shape.{Shape}
use Rattle.risaf.specs.declared.registers.Register.{Register as GuardRegister}
use Rattle.risaf.specs.declared.contents.Guard.{Guard}
use Rattle.device.specs.Locks.{Lock, glock, rimc_lock, rlock, guard_lock, sub_lock, Named, is_set, NotReset, NoReset, Settings, guard_settings, settings}
use Rattle.device.specs.Run.{run}
use Rattle.device.specs.State.{State, guard_of, with_guard, reset_state}
use Rattle.device.specs.Step.{register_step, step}
use Rattle.device.specs.declared.event.Block.{Block}
use Rattle.device.specs.declared.event.Block.TheVariants.{Rifsc, Iac, Risaf}
use Rattle.device.specs.declared.event.Event.{Event}
use Rattle.device.specs.declared.event.Event.TheVariants.{Reset, Register, Peripheral, Memory, Master}
use Rattle.device.proofs.LockWrites.{stored-by, RifscHeld, rifsc-still, rifsc-written, GuardHeld, guard-still, guard-written}
use Rattle.device.proofs.Effects.{written_at, register_effect, effect, refused, step_by}
use Rattle.device.proofs.Refusals.{refused-kept}

-- ---- the locks of a state that hold in another

abbrev Held : State → State → Type 0
Held s t = record { rifsc : RifscHeld s.rifsc t.rifsc; guards : (n : ℕ) → GuardHeld (guard_of s n) (guard_of t n) }

still : (s : State) → Held s s
still s = record { rifsc = rifsc-still s.rifsc; guards = λ n. guard-still (guard_of s n) }

held-guard : (s : State) (n : ℕ) (g : Guard) → GuardHeld (guard_of s n) g → Held s (with_guard s n g)
unfolding guard_of with_guard
held-guard s n g held =
    record {
      rifsc = rifsc-still s.rifsc;
      guards =
          λ m.
          stored-by (GuardHeld (guard_of s m)) s.guards (shape_of n).place (shape_of m).place g (guard_from [])
          (guard-still (guard_of s m)) (λ e. subst (λ p. GuardHeld (get_or s.guards p (guard_from [])) g) e held);
    }

-- ---- where an event is refused: flags and fault registers hold no lock

settings-guard : (s t : State) (n : ℕ) → settings t ≡ settings s → guard_settings (guard_of t n) ≡ guard_settings (guard_of s n)
unfolding settings guard_of
settings-guard s t n e =
    let place = (shape_of n).place in
    sym (get_or-map guard_settings t.guards place (guard_from []))
    ∙ ap (λ (x : Settings). get_or x.guards place (guard_settings (guard_from []))) e
    ∙ get_or-map guard_settings s.guards place (guard_from [])

held-settings : (s t : State) → settings t ≡ settings s → Held s t
unfolding settings
held-settings s t e =
    record {
      rifsc = subst (RifscHeld s.rifsc) (sym (ap (λ (x : Settings). x.rifsc) e)) (rifsc-still s.rifsc);
      guards =
          λ n.
          let g = settings-guard s t n e in
          record {
            cr = λ h. ap (λ (x : ℕ × List ℕ). bit x.0 0) g ∙ h;
            regions = λ x p h. ap (λ (y : ℕ × List ℕ). bit (get_or y.1 (sub x p) 0) 1) g ∙ h;
          };
    }

-- ---- where it is done

held-register : (b : Block) (q : Request) (s : State) (v : ℕ) → (register_step b q s).answer ≡ Done v → Held s (register_effect b q s)
unfolding register_step register_effect guard_of risaf.stepped risaf.stepped_at risaf.accessed row_at
held-register Rifsc q s v d = record { rifsc = rifsc-written s.rifsc _ q; guards = λ n. guard-still (guard_of s n) }
held-register Iac q s v d = still s
held-register (Risaf n) q s v d =
    held-guard s n.0 _ (go (register_at shape.regions q.offset) d)
  where
    shape : Shape
    shape = shape_of n.0

    g : Guard
    g = guard_of s n.0

    go : (r : Option GuardRegister) → (risaf.stepped_at (is_guard n.0) shape (option_map row_of r) g q).answer ≡ Done v
        → GuardHeld g (written_at shape.granule (option_map row_of r) q g)
    go None d = guard-still g
    go (Some reg) d = guard-written (is_guard n.0) shape g reg q v d

held-effect : (e : Event) (s : State) (v : ℕ) → NotReset e → (step e s).answer ≡ Done v → Held s (effect e s)
unfolding effect step
held-effect Reset s v other d = absurd (other refl)
held-effect (Register a) s v other d = held-register a.block a.request s v d
held-effect (Peripheral a) s v other d = still s
held-effect (Memory a) s v other d = still s
held-effect (Master a) s v other d = still s

held_next : (e : Event) (s : State) → NotReset e → Held s (step e s).next
held_next e s other =
    step_by (Held s) e s (still s) (λ v d. held-effect e s v other d) (λ v r. held-settings s (refused e s) (refused-kept e s))

-- ---- a named lock is one of these

ppsr-fits : (x : ℕ) → ppsr x < 2 ^ 32
unfolding ppsr
ppsr-fits zero = lit< tt
ppsr-fits (suc zero) = lit< tt
ppsr-fits (suc (suc zero)) = lit< tt
ppsr-fits (suc (suc (suc zero))) = lit< tt
ppsr-fits (suc (suc (suc (suc zero)))) = lit< tt
ppsr-fits (suc (suc (suc (suc (suc zero))))) = lit< tt
ppsr-fits (suc (suc (suc (suc (suc (suc x)))))) = lit< tt

named-low : (x i : ℕ) → bit (ppsr x) i ≡ true → i < 32
named-low x i h = by (dec_lt i 32)
  where
    by : Dec (i < 32) → i < 32
    by (yes l) = l
    by (no g) = absurd (true≢false (sym h ∙ bit_high 32 (ppsr x) i (ppsr-fits x) (omega arith)))

held-set : (l : Lock) (s t : State) → Named l → Held s t → is_set l s ≡ true → is_set l t ≡ true
unfolding is_set
held-set glock s t named held = held.rifsc.cr
held-set rimc_lock s t named held = held.rifsc.rimccr
held-set (rlock x i) s t named held = held.rifsc.rcfglockr x i (named-low x i named)
held-set (guard_lock n) s t named held = (held.guards n).cr
held-set (sub_lock n x p) s t named held = (held.guards n).regions x p

-- ---- a lock that is set stays set, whatever the event, unless it is reset

pub lock-kept : (l : Lock) (e : Event) (s : State) → Named l → NotReset e → is_set l s ≡ true → is_set l (step e s).next ≡ true
lock-kept l e s named other = held-set l s (step e s).next named (held_next e s other)

pub locks-kept : (l : Lock) (es : List Event) (s : State) → Named l → NoReset es → is_set l s ≡ true → is_set l (run es s) ≡ true
unfolding run
locks-kept l [] s named others h = h
locks-kept l (e ∷ es) s named others h =
    locks-kept l es (step e s).next named others.1 (lock-kept l e s named others.0 h)

-- ---- reset clears it

-- what holds of an element repeated and past its end holds at every place
replicated : {A : Type 0} (P : A → Type 0) (n i : ℕ) (a d : A) → P a → P d → P (get_or (replicate n a) i d)
replicated P zero i a d p q = q
replicated P (suc n) zero a d p q = p
replicated P (suc n) (suc i) a d p q = replicated P n i a d p q

-- what holds of every row of a table as it is made, and past its end, holds at every place
made : {A B : Type 0} (P : B → Type 0) (f : A → B) (l : List A) (i : ℕ) (d : B) → ((a : A) → P (f a)) → P d → P (get_or (map f l) i d)
made P f [] i d p q = q
made P f (a ∷ l) zero d p q = p a
made P f (a ∷ l) (suc i) d p q = made P f l i d p q

-- every subregion_words-th word of the regions is a CFGR or lies past the end
cfgr-reset : (granule n k : ℕ) → get_or (regions_reset granule n) (subregion_words * k) 0 ≡ 0
cfgr-reset granule zero k = refl
cfgr-reset granule (suc n) zero = refl
cfgr-reset granule (suc n) (suc zero) = refl
cfgr-reset granule (suc n) (suc (suc zero)) = refl
cfgr-reset granule (suc n) (suc (suc (suc k))) =
    let e : subregion_words * suc (suc (suc k)) ≡ region_words + subregion_words * k = omega arith in
    rw e (get_or-append-add (region_reset granule) (regions_reset granule n) (subregion_words * k) 0 ∙ cfgr-reset granule n k)

abbrev guard_reset : GuardRow → Guard
guard_reset row = risaf-contents.reset row.granule

pub reset-clears : (l : Lock) (s : State) → is_set l (step Reset s).next ≡ false
unfolding is_set step reset_state guard_of rifsc-contents.reset risaf-contents.reset
reset-clears glock s = refl
reset-clears rimc_lock s = refl
reset-clears (rlock x i) s = replicated (λ w. bit w i ≡ false) (length (rifsc-contents.reset).rcfglockr) x 0 0 (bit-zero i) (bit-zero i)
reset-clears (guard_lock n) s = made (λ (g : Guard). bit g.cr 0 ≡ false) guard_reset guards (shape_of n).place (guard_from []) (λ row. refl) refl
reset-clears (sub_lock n x p) s =
    let e : sub x p ≡ subregion_words * (3 * x + 1 + p) = omega arith in
    made (λ (g : Guard). bit (get_or g.regions (sub x p) 0) 1 ≡ false) guard_reset guards (shape_of n).place (guard_from [])
    (λ row.
    ap (λ (w : ℕ). bit w 1)
    (ap (λ (k : ℕ). get_or (regions_reset row.granule most_regions) k 0) e ∙ cfgr-reset row.granule most_regions (3 * x + 1 + p)))
    refl
