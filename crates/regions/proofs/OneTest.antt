-- What each test looks at: the first at the security alone, the second at the privilege and the CID.
use mathlib.Core.Bool.{Bool, true, false, not, ◌||◌, cond, beq}
use mathlib.Core.List.{List}
use mathlib.Core.Path.{◌≡◌, ap, ap₂}
use Prim.Native.Nat.{ℕ}
use lib.ListN.{get_or}
use Rattle.words.specs.Bit.{bit}
use Rattle.access.specs.declared.bus.Bus.{Bus}
use Rattle.access.specs.declared.kind.Kind.{Kind}
use Rattle.regions.specs.Words.{base, sec_bit, privc_bit}
use Rattle.regions.specs.Rules.{every_base, working_sec, working_priv, every_sub, tests0, tests1, tests2, counted, covered, tests}

module _ (bus : Bus) (w : List ℕ) (n o : ℕ) (k k' : Kind) where
  pub security-by : k.secure ≡ k'.secure → (tests bus w n o k).security ≡ (tests bus w n o k').security
  unfolding tests
  security-by e = by (counted w n o) (covered w n o)
    where
      by : (c d : Bool)
          → (cond c (tests2 w n o k) (cond d (tests1 w n o k) (tests0 bus k))).security
          ≡ (cond c (tests2 w n o k') (cond d (tests1 w n o k') (tests0 bus k'))).security
      by true d = ap (λ (s : Bool). beq s (every_sub w n o (working_sec w))) e
      by false true = ap (λ (s : Bool). every_base w n o (λ x. beq s (bit (get_or w (base x) 0) sec_bit))) e
      by false false = e

  pub privilege-by : k.privileged ≡ k'.privileged → k.cid.0 ≡ k'.cid.0 → (tests bus w n o k).privilege ≡ (tests bus w n o k').privilege
  unfolding tests
  privilege-by e f = by (counted w n o) (covered w n o)
    where
      by : (c d : Bool)
          → (cond c (tests2 w n o k) (cond d (tests1 w n o k) (tests0 bus k))).privilege
          ≡ (cond c (tests2 w n o k') (cond d (tests1 w n o k') (tests0 bus k'))).privilege
      by true d = ap (λ (p : Bool). p || not (every_sub w n o (working_priv w))) e
      by false true =
          ap₂ (λ (p : Bool) (i : ℕ). every_base w n o (λ x. p || not (bit (get_or w (base x) 0) (privc_bit i)))) e f
      by false false = e
