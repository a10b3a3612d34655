-- The boundary that is found ahead of an offset: it is ahead, and a boundary of one of the regions.
use mathlib.Core.List.{List}
use mathlib.Core.Logic.{◌⊎◌, inl, inr, ⊎_elim}
use mathlib.Core.Path.{◌≡◌, refl, subst, ◌∙◌}
use Prim.Native.Nat.{ℕ, zero, suc, ◌+◌, ◌≤◌, ◌<◌}
use native.Mathlib.Omega.{arith}
use Rattle.regions.specs.Active.{active, with_region}
use Rattle.regions.specs.Ahead.{lesser, region_ahead, sub_ahead, base_ahead, ahead}
use Rattle.regions.specs.Words.{base, sub}
use Rattle.regions.specs.declared.active.Active.{Active}
use Rattle.regions.proofs.Inactive.{with-off, with-before, with-past, with-inside}
use Rattle.regions.proofs.Lies.{is-lesser, first, last, Lies, off, before, past, inside, lies, ahead-off, ahead_before, ahead_past, ahead-inside}

-- both boundaries of the region or subregion at p are of a kind B; and those of base region x and its subregions
abbrev pub Ends : (ℕ → Type 0) → List ℕ → ℕ → Type 0
Ends B w p = B (first w p) × B (last w p + 1)

abbrev pub RegionEnds : (ℕ → Type 0) → List ℕ → ℕ → Type 0
RegionEnds B w x = Ends B w (base x) × Ends B w (sub x 0) × Ends B w (sub x 1)

-- r is found ahead of o from `to` on: it is `to`, or a nearer boundary of a kind B
pub record Found (B : ℕ → Type 0) (o to r : ℕ) : Type 0 where
  pub low : r ≤ to
  pub above : o < to → o < r
  pub is : (r ≡ to) ⊎ B r

-- one found from another on
onward : {B : ℕ → Type 0} {o to t r : ℕ} → Found B o to t → Found B o t r → Found B o to r
onward {B} {o} {to} {t} {r} a b =
    record {
      low = omega (arith, a.low, b.low);
      above = λ h. b.above (a.above h);
      is = ⊎_elim (λ e. ⊎_elim (λ d. inl (e ∙ d)) (λ d. inr (rw e d)) a.is) inr b.is;
    }

module _ {B : ℕ → Type 0} (w : List ℕ) (o : ℕ) where
  none : (to : ℕ) → Found B o to to
  none to = record { low = omega arith; above = λ h. h; is = inl refl }

  -- a boundary b above o, or `to`
  nearer : (b to : ℕ) → B b → o < b → Found B o to (lesser b to)
  nearer b to k h =
      let l = is-lesser b to in
      record { low = l.right; above = l.above o h; is = ⊎_elim (λ e. inr (rw e k)) inl l.is }

  region-found : (p to : ℕ) (further : ℕ → ℕ) → Ends B w p → ((t : ℕ) → Found B o t (further t))
      → Found B o to (region_ahead w p o further to)
  region-found p to further b f = by (lies w p o)
    where
      by : Lies w p o → Found B o to (region_ahead w p o further to)
      by (off e) = rw (← (ahead-off w p o further to e).0) (none to)
      by (before e l) = rw (← (ahead_before w p o further to e l).0) (nearer (first w p) to b.0 l)
      by (past e l k) = rw (← (ahead_past w p o further to e l k).0) (none to)
      by (inside e l k) =
          rw (← (ahead-inside w p o further to e l k).0) (onward (nearer (last w p + 1) to b.1 (omega arith)) (f (lesser (last w p + 1) to)))

  sub-found : (p to : ℕ) → Ends B w p → Found B o to (sub_ahead w p o to)
  unfolding sub_ahead
  sub-found p to b = region-found p to (λ t. t) b none

  subs-found : (x to : ℕ) → RegionEnds B w x → Found B o to (sub_ahead w (sub x 1) o (sub_ahead w (sub x 0) o to))
  subs-found x to b = onward (sub-found (sub x 0) to b.1) (sub-found (sub x 1) (sub_ahead w (sub x 0) o to) b.2)

  base-found : (x to : ℕ) → RegionEnds B w x → Found B o to (base_ahead w x o to)
  unfolding base_ahead
  base-found x to b = region-found (base x) to _ b.0 (λ t. subs-found x t b)

  pub ahead-found : (n to : ℕ) → ((x : ℕ) → x < n → RegionEnds B w x) → Found B o to (ahead w n o to)
  unfolding ahead
  ahead-found zero to b = none to
  ahead-found (suc n) to b =
      onward (ahead-found n to (λ x h. b x (omega arith))) (base-found n (ahead w n o to) (b n (omega arith)))

  more-found : (x : ℕ) (a : Active) → RegionEnds B w x → Found B o a.to (with_region w x o a).to
  more-found x a b = by (lies w (base x) o)
    where
      found : {r : Active} → r ≡ with_region w x o a → Found B o a.to r.to → Found B o a.to (with_region w x o a).to
      found e f = subst (λ (r : Active). Found B o a.to r.to) e f

      by : Lies w (base x) o → Found B o a.to (with_region w x o a).to
      by (off e) = found (with-off w x o a e) (none a.to)
      by (before e l) = found (with-before w x o a e l) (nearer (first w (base x)) a.to b.0.0 l)
      by (past e l k) = found (with-past w x o a e l k) (none a.to)
      by (inside e l k) = found (with-inside w x o a e l k) (none a.to)

  -- of the START up to which no other base region is active
  pub active-found : (n to : ℕ) → ((x : ℕ) → x < n → RegionEnds B w x) → Found B o to (active w n o to).to
  unfolding active
  active-found zero to b = none to
  active-found (suc n) to b = onward (active-found n to (λ x h. b x (omega arith))) (more-found n (active w n o to) (b n (omega arith)))

-- ---- of whatever kind, it is no further than `to`

module _ (w : List ℕ) (o : ℕ) where
  abbrev Any : ℕ → Type 0
  Any b = Unit {0}

  pub sub_low : (p to : ℕ) → sub_ahead w p o to ≤ to
  sub_low p to = (sub-found {B = Any} w o p to (tt, tt)).low

  pub subs-low : (x to : ℕ) → sub_ahead w (sub x 1) o (sub_ahead w (sub x 0) o to) ≤ to
  subs-low x to = (subs-found {B = Any} w o x to ((tt, tt), (tt, tt), (tt, tt))).low

  pub base-low : (x to : ℕ) → base_ahead w x o to ≤ to
  base-low x to = (base-found {B = Any} w o x to ((tt, tt), (tt, tt), (tt, tt))).low
