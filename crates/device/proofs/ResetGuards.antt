-- Guard after guard reset, by their numbers, is every guard reset.
use Rattle.std.specs.Prelude.{Some}
use mathlib.Core.Bool.{Bool, true, false, cond}
use mathlib.Core.List.{List, [], ◌∷◌, map}
use mathlib.Core.Path.{◌≡◌, refl, ap, ap₂, ◌∙◌}
use Prim.Native.Nat.{ℕ, zero, suc, ◌+◌}
use native.Mathlib.Numerals.{add-one}
use native.Mathlib.Omega.{arith}
use lib.ListN.{length, set}
use Rattle.risaf.specs.Contents.{guard_words, guard_from, reset}
use Rattle.risaf.specs.Guards.{GuardRow, guards, guard_count, shape_in, shape_at, shape_of, is_guard}
use Rattle.risaf.specs.declared.contents.Guard.{Guard}
use Rattle.risaf.specs.declared.guards.Shape.{Shape}
use Rattle.rifsc.specs.Contents as rifsc
use Rattle.rifsc.specs.declared.contents.Rifsc.{Rifsc}
use Rattle.iac.specs.Contents as iac
use Rattle.iac.specs.declared.contents.Iac.{Iac}
use Rattle.device.specs.Layout.{state_of}
use Rattle.device.specs.State.{State, with_rifsc, with_iac, with_guards, with_guard_at, with_guard, reset_state}
use Rattle.risaf.proofs.Shapes.{found}
use Rattle.device.proofs.GuardLayout.{guards-count}

-- ---- the guard with a number, if there is one

module _ (s : State) (n : ℕ) where
  pub guard-reset : {shape : Shape} {t : State} {w : List ℕ} → shape_at n ≡ Some shape → w ≡ guard_words (reset shape.granule)
      → t ≡ with_guard_at s shape.place (guard_from w) → t ≡ cond (is_guard n) (with_guard s n (reset (shape_of n).granule)) s
  unfolding with_guard
  guard-reset {shape} e ew et =
      let f = found n e in
      rw f.1
      (et ∙ ap (λ (u : List ℕ). with_guard_at s shape.place (guard_from u)) ew
      ∙ ap (λ (x : Shape). with_guard_at s x.place (reset x.granule)) f.0)

-- ---- guards stored one after the other, from a place on

stored : List Guard → ℕ → List Guard → List Guard
stored [] place gs = gs
stored (h ∷ hs) place gs = stored hs (suc place) (set gs place h)

stored-behind : (hs : List Guard) (place : ℕ) (g : Guard) (gs : List Guard) → stored hs (suc place) (g ∷ gs) ≡ g ∷ stored hs place gs
unfolding stored
stored-behind [] place g gs = refl
stored-behind (h ∷ hs) place g gs = stored-behind hs (suc place) g (set gs place h)

stored-all : (hs gs : List Guard) → length gs ≡ length hs → stored hs 0 gs ≡ hs
unfolding stored
stored-all [] [] e = refl
stored-all [] (g ∷ gs) e = absurd (omega arith)
stored-all (h ∷ hs) [] e = absurd (omega arith)
stored-all (h ∷ hs) (g ∷ gs) e = stored-behind hs 0 h gs ∙ ap (λ (l : List Guard). h ∷ l) (stored-all hs gs (omega arith))

-- ---- the guards whose numbers are below n

abbrev pub reset_below : ℕ → List Guard → List Guard
reset_below zero gs = gs
reset_below (suc n) gs =
    cond (is_guard n) (set (reset_below n gs) (shape_of n).place (reset (shape_of n).granule)) (reset_below n gs)

-- one more
pub reset-more : (s : State) (n : ℕ) {t : State} → t ≡ with_guards s (reset_below n s.guards)
    → cond (is_guard n) (with_guard t n (reset (shape_of n).granule)) t ≡ with_guards s (reset_below (n + 1) s.guards)
unfolding with_guard
reset-more s n e = rw (e, add-one) (go (is_guard n))
  where
    go : (b : Bool)
        → cond b (with_guard_at (with_guards s (reset_below n s.guards)) (shape_of n).place (reset (shape_of n).granule)) (with_guards s (reset_below n s.guards))
        ≡ with_guards s (cond b (set (reset_below n s.guards) (shape_of n).place (reset (shape_of n).granule)) (reset_below n s.guards))
    go true = refl
    go false = refl

-- all of them, behind the controllers'
abbrev pub numbers : ℕ
numbers = 24

reset-all : (gs : List Guard) → length gs ≡ guard_count → reset_below numbers gs ≡ map (λ (g : GuardRow). reset g.granule) guards
unfolding stored shape_of shape_at shape_in
reset-all gs e = stored-all (map (λ (g : GuardRow). reset g.granule) guards) gs e

pub state-reset : (m : List ℕ) (s : State) {t : State} {r : Rifsc} {i : Iac} → r ≡ rifsc.reset → t ≡ with_rifsc s r
    → i ≡ iac.reset → state_of m ≡ with_iac t i → with_guards (state_of m) (reset_below numbers (state_of m).guards) ≡ reset_state
unfolding reset_state
state-reset m s er et ei em =
    ap₂ with_guards (em ∙ ap₂ with_iac (et ∙ ap (with_rifsc s) er) ei) (reset-all (state_of m).guards (guards-count m))
