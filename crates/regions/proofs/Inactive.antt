-- The base regions that are not active do not cover, up to where the active ones are said to be all.
use mathlib.Core.Bool.{true, false, cond}
use mathlib.Core.List.{List}
use mathlib.Core.Path.{◌≡◌, refl, sym, ap, subst, ◌∙◌}
use Prim.Native.Nat.{ℕ, zero, suc, ◌+◌, ◌≤◌, ◌<◌}
use native.Mathlib.Decide.{dec_lt}
use native.Mathlib.Numerals.{add-one}
use native.Mathlib.Omega.{arith}
use lib.Dec.{eqb}
use borrow.Author.Tests.{eq-eqb, ne_eqb, lt-ltb, le-ltb}
use Rattle.regions.specs.Active.{with_region, none_active, active}
use Rattle.regions.specs.Ahead.{lesser, reach_of}
use Rattle.regions.specs.Masks.{Passed, some_enabled}
use Rattle.regions.specs.Rules.{covers}
use Rattle.regions.specs.Words.{base, most_regions}
use Rattle.regions.specs.declared.active.Active.{Active}
use Rattle.regions.specs.declared.ahead.Reach.{Reach}
use Rattle.regions.specs.declared.ahead.Reach.TheVariants.{Inside, Outside}
use Rattle.regions.proofs.Enabled.{none_of}
use Rattle.regions.proofs.Gathered.{pass-none, pass-more}
use Rattle.regions.proofs.Lies.{is-lesser, on, first, last, Lies, off, before, past, inside, lies, ahead-off, ahead_before, ahead_past}

-- ---- with one base region, each way that the offset lies to it

module _ (w : List ℕ) (x o : ℕ) (a : Active) where
  pub with-off : on w (base x) ≡ false → a ≡ with_region w x o a
  unfolding with_region
  with-off e = simp e

  pub with-before : on w (base x) ≡ true → o < first w (base x)
      → record { low = a.low; high = a.high; to = lesser (first w (base x)) a.to } ≡ with_region w x o a
  unfolding with_region
  with-before e l = simp (e, lt-ltb o (first w (base x)) l)

  pub with-past : on w (base x) ≡ true → first w (base x) ≤ o → last w (base x) < o → a ≡ with_region w x o a
  unfolding with_region
  with-past e l g = simp (e, le-ltb o (first w (base x)) l, lt-ltb (last w (base x)) o g)

  pub with-inside : on w (base x) ≡ true → first w (base x) ≤ o → o ≤ last w (base x)
      → record { low = cond (eqb a.high 0) x a.low; high = x + 1; to = a.to } ≡ with_region w x o a
  unfolding with_region
  with-inside e l g = simp (e, le-ltb o (first w (base x)) l, le-ltb (last w (base x)) o g)

  -- the same, by what the code is told
  abbrev pub With : Reach → Type 0
  With (Inside t) = record { low = cond (eqb a.high 0) x a.low; high = x + 1; to = a.to } ≡ with_region w x o a
  With (Outside t) = record { low = a.low; high = a.high; to = t } ≡ with_region w x o a

  with-reach : Lies w (base x) o → With (reach_of w (base x) o a.to)
  unfolding reach_of
  with-reach (off e) = simp e (with-off e)
  with-reach (before e l) = simp (e, lt-ltb o (first w (base x)) l) (with-before e l)
  with-reach (past e l g) = simp (e, le-ltb o (first w (base x)) l, lt-ltb (last w (base x)) o g) (with-past e l g)
  with-reach (inside e l g) = simp (e, le-ltb o (first w (base x)) l, le-ltb (last w (base x)) o g) (with-inside e l g)

  pub with-told : {r : Reach} → r ≡ reach_of w (base x) o a.to → With r
  with-told e = subst With (sym e) (with-reach (lies w (base x) o))

-- ---- all of them

module _ (w : List ℕ) (o : ℕ) where
  pub record Inactive (n : ℕ) (a : Active) : Type 0 where
    pub low : a.low ≤ a.high
    pub high : a.high ≤ n
    -- none below them, and none past them
    pub below : (y : ℕ) → o ≤ y → y < a.to → Passed w y 0 a.low
    pub past : (y : ℕ) → o ≤ y → y < a.to → Passed w y a.high n

  -- one more that does not cover up to `to`
  passes : {n : ℕ} {a : Active} → Inactive n a → (to : ℕ) → to ≤ a.to → ((y : ℕ) → o ≤ y → y < to → covers w (base n) y ≡ false)
      → Inactive (suc n) (record { low = a.low; high = a.high; to = to })
  passes {n} {a} i to h c =
      record {
        low = i.low;
        high = omega (arith, i.high);
        below = λ y l g. i.below y l (omega arith);
        past = λ y l g. rw (← add-one n) (pass-more w y a.high n (i.past y l (omega arith)) refl (c y l g));
      }

  -- one more that covers: where it is the first, none below it does
  joins : {n : ℕ} {a : Active} → Inactive n a → Inactive (suc n) (record { low = cond (eqb a.high 0) n a.low; high = n + 1; to = a.to })
  joins {n} {a} i = by (dec_lt 0 a.high)
    where
      by : Dec (0 < a.high) → Inactive (suc n) (record { low = cond (eqb a.high 0) n a.low; high = n + 1; to = a.to })
      by (yes h) =
          simp (ne_eqb a.high 0 (λ e. omega (arith, e)))
          (record { low = omega (arith, i.low, i.high); high = omega arith; below = i.below; past = λ y l g x p q. absurd (omega arith) })
      by (no h) =
          simp (eq-eqb a.high 0 (omega arith))
          (record {
            low = omega arith;
            high = omega arith;
            below = λ y l g x p q. i.past y l g x (omega arith) q;
            past = λ y l g x p q. absurd (omega arith);
          })

  -- one more, each way that the offset lies to it
  more : (n : ℕ) (a : Active) → Inactive n a → Inactive (suc n) (with_region w n o a)
  more n a i = by (lies w (base n) o)
    where
      by : Lies w (base n) o → Inactive (suc n) (with_region w n o a)
      by (off e) =
          subst (Inactive (suc n)) (with-off w n o a e) (passes i a.to (omega arith) (λ y l g. (ahead-off w (base n) y (λ t. t) 0 e).1))
      by (before e b) =
          let s = is-lesser (first w (base n)) a.to in
          subst (Inactive (suc n)) (with-before w n o a e b)
          (passes i (lesser (first w (base n)) a.to) s.right (λ y l g. (ahead_before w (base n) y (λ t. t) 0 e (omega (arith, g, s.left))).1))
      by (past e b c) =
          subst (Inactive (suc n)) (with-past w n o a e b c)
          (passes i a.to (omega arith) (λ y l g. (ahead_past w (base n) y (λ t. t) 0 e (omega arith) (omega arith)).1))
      by (inside e b c) = subst (Inactive (suc n)) (with-inside w n o a e b c) (joins i)

  pub inactive : (n to : ℕ) → Inactive n (active w n o to)
  unfolding active
  inactive zero to = record { low = omega arith; high = omega arith; below = λ y l g. pass-none w y 0; past = λ y l g. pass-none w y 0 }
  inactive (suc n) to = more n (active w n o to) (inactive n to)

  -- where none is enabled, none is active
  pub unenabled-inactive : (n to : ℕ) → n ≤ most_regions → some_enabled w most_regions ≡ false → none_active to ≡ active w n o to
  unfolding active
  unenabled-inactive zero to h e = refl
  unenabled-inactive (suc n) to h e =
      unenabled-inactive n to (omega arith) e
      ∙ with-off w n o (active w n o to) (none_of most_regions (λ x. on w (base x)) e n (omega arith))

-- one base region more, by the code's call
pub active-more : (w : List ℕ) (n o to : ℕ) {a b : Active} → a ≡ active w n o to → b ≡ with_region w n o a → b ≡ active w (n + 1) o to
unfolding active
active-more w n o to ea eb = eb ∙ ap (with_region w n o) ea ∙ sym (ap (λ (i : ℕ). active w i o to) (add-one n))
