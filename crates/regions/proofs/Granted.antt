-- Granted is "no test fails": that is document 01's definition of granted, and so nothing that is granted changes with the reasons.
use mathlib.Core.Bool.{Bool, true, false, not, ◌&&◌, ◌||◌, cond, and-false}
use mathlib.Core.List.{List}
use mathlib.Core.Path.{◌≡◌, refl, sym, ap, ◌∙◌}
use Prim.Native.Nat.{ℕ, zero, suc}
use Rattle.std.specs.Prelude.{Some, None, is_none}
use Rattle.access.specs.Bus.{heard}
use Rattle.access.specs.Fold.{all}
use Rattle.access.specs.declared.bus.Bus.{Bus}
use Rattle.access.specs.declared.kind.Kind.{Kind}
use Rattle.regions.specs.Words.{base}
use Rattle.regions.specs.Rules.{Tests, reason_of, covers, tests0, tests1, tests2, counted, covered, sec_equal, privc_passed, enabled_for, tests, decided, granted}
use Rattle.regions.specs.declared.verdict.Reason.TheVariants.{Security, Privilege, Compartment}
use Rattle.regions.specs.Grants.{grants0, grants1, grants2, rule_grants}

-- all three pass
abbrev passed : Tests → Bool
passed t = t.security && t.privilege && t.compartment

pub all_pass : (t : Tests) → is_none (reason_of t) ≡ passed t
all_pass t = go t.security t.privilege t.compartment
  where
    go : (a b c : Bool) → is_none (cond a (cond b (cond c None (Some Compartment)) (Some Privilege)) (Some Security)) ≡ (a && b && c)
    go true true true = refl
    go true true false = refl
    go true false c = refl
    go false b c = refl

-- ---- rule 1: each test over all regions, or all tests over each region

three-more : (a b c d e f : Bool) → ((a && d) && (b && e) && (c && f)) ≡ ((a && b && c) && (d && e && f))
three-more false b c d e f = refl
three-more true false c true e f = refl
three-more true false c false e f = refl
three-more true true c false e f = sym (and-false c)
three-more true true false true e f = simp and-false
three-more true true true true e f = refl

one_more : (v a b c d e f : Bool)
    → ((a && (not v || d)) && (b && (not v || e)) && (c && (not v || f))) ≡ ((a && b && c) && (not v || d && e && f))
one_more true a b c d e f = three-more a b c d e f
one_more false a b c d e f = three-more a b c true true true

pub all_three : (n : ℕ) (v p q r : ℕ → Bool)
    → (all n (λ x. not (v x) || p x) && all n (λ x. not (v x) || q x) && all n (λ x. not (v x) || r x))
    ≡ all n (λ x. not (v x) || p x && q x && r x)
all_three zero v p q r = refl
all_three (suc n) v p q r =
    one_more (v n) (all n (λ x. not (v x) || p x)) (all n (λ x. not (v x) || q x)) (all n (λ x. not (v x) || r x)) (p n) (q n) (r n)
    ∙ ap (λ (b : Bool). b && (not (v n) || p n && q n && r n)) (all_three n v p q r)

-- ---- the theorem

pub granted-is : (bus : Bus) (w : List ℕ) (n o : ℕ) (k : Kind) → granted (decided bus w n o k) ≡ rule_grants bus w n o k
unfolding decided tests rule_grants
granted-is bus w n o k = all_pass (tests bus w n o h) ∙ by (counted w n o) (covered w n o)
  where
    h : Kind
    h = heard bus k

    by : (c d : Bool)
        → passed (cond c (tests2 w n o h) (cond d (tests1 w n o h) (tests0 bus h)))
        ≡ cond c (grants2 w n o h) (cond d (grants1 w n o h) (grants0 bus h))
    by true d = refl
    by false true = all_three n (λ x. covers w (base x) o) (sec_equal w h) (privc_passed w h) (enabled_for w h)
    by false false = refl
