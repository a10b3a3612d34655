-- Where the lent words are enough, the code decides as the rules do.
use mathlib.Core.Bool.{Bool, true, false, ◌&&◌, cond, true≢false}
use mathlib.Core.List.{List}
use mathlib.Core.Path.{◌≡◌, refl, sym, ap, ap₂}
use Prim.Native.Nat.{ℕ, ◌*◌, ◌≤◌}
use lib.ListN.{length}
use lib.Dec.{leb}
use borrow.Author.Tests.{le-leb, leb-true}
use Rattle.std.specs.Prelude.{Some}
use Rattle.access.specs.declared.bus.Bus.{Bus}
use Rattle.access.specs.declared.kind.Kind.{Kind}
use Rattle.regions.specs.Active.{active, active_in, none_active}
use Rattle.regions.specs.Ahead.{ahead, ahead_in}
use Rattle.regions.specs.Lent.{enough, decided_in, rights_in}
use Rattle.regions.specs.Rights.{rights_word}
use Rattle.regions.specs.Rules.{decided}
use Rattle.regions.specs.declared.verdict.Reason.TheVariants.{Compartment}
use Rattle.regions.specs.declared.verdict.Rule.TheVariants.{Default}

-- by the code's test
pub from-enough : (w : List ℕ) (n : ℕ) → enough w n ≡ true → (n ≤ 11) × (12 * n ≤ length w)
from-enough w n e = go (leb n 11) refl (leb (12 * n) (length w)) refl e
  where
    go : (a : Bool) → leb n 11 ≡ a → (b : Bool) → leb (12 * n) (length w) ≡ b → (a && b) ≡ true → (n ≤ 11) × (12 * n ≤ length w)
    go true e true f h = (leb-true n 11 e, leb-true (12 * n) (length w) f)
    go true e false f h = absurd (true≢false (sym h))
    go false e b f h = absurd (true≢false (sym h))

module _ (bus : Bus) (w : List ℕ) (n o : ℕ) (h : n ≤ 11) (l : 12 * n ≤ length w) where
  is-enough : enough w n ≡ true
  is-enough = ap₂ ◌&&◌ (le-leb n 11 h) (le-leb (12 * n) (length w) l)

  pub decided-enough : (k : Kind) → k.cid.0 ≤ 7 → decided_in bus w n o k ≡ decided bus w n o k
  unfolding decided_in
  decided-enough k m =
      ap (λ (b : Bool). cond b (decided bus w n o k) (record { rule = Default; reason = Some Compartment }))
      (ap₂ ◌&&◌ is-enough (le-leb k.cid.0 7 m))

  pub rights-enough : rights_in bus w n o ≡ rights_word bus w n o
  unfolding rights_in
  rights-enough =
      ap (λ (b : Bool). cond b (rights_word bus w n o) 0) is-enough

  pub ahead-enough : (to : ℕ) → ahead_in w n o to ≡ ahead w n o to
  unfolding ahead_in
  ahead-enough to =
      ap (λ (b : Bool). cond b (ahead w n o to) to) is-enough

  pub active-enough : (to : ℕ) → active_in w n o to ≡ active w n o to
  unfolding active_in
  active-enough to =
      ap (λ (b : Bool). cond b (active w n o to) (none_active to)) is-enough
