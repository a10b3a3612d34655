-- The first test that fails, by the code's branches.
use mathlib.Core.Bool.{Bool, true, false, not, ◌&&◌, ◌||◌}
use mathlib.Core.Path.{◌≡◌, refl}
use Rattle.std.specs.Prelude.{Option, Some, None}
use Rattle.words.specs.Bit.{bit}
use Rattle.access.specs.declared.kind.Kind.{Kind}
use Rattle.regions.specs.Rules.{reason_of}
use Rattle.regions.specs.Admits.{admits_security, open_to, tests_of}
use Rattle.regions.specs.declared.admits.Admits.{Admits}
use Rattle.regions.specs.declared.verdict.Reason.{Reason}
use Rattle.regions.specs.declared.verdict.Reason.TheVariants.{Security, Privilege, Compartment}

-- unprivileged where the compartment is closed
fails : (p b t : Bool) → (not p && b) ≡ t → (p || not b) ≡ not t
fails true b true e = cc
fails true b false e = refl
fails false b t e = rw e refl

module _ (a : Admits) (k : Kind) where
  abbrev shut : Bool
  shut = not k.privileged && bit a.closed k.cid.0

  abbrev opened : Bool
  opened = bit (open_to a k.write) k.cid.0

  abbrev reason : Option Reason
  reason = reason_of (tests_of a k)

  pub for-security : admits_security a k.secure ≡ false → Some Security ≡ reason
  unfolding tests_of
  for-security e = rw e refl

  pub for-privilege : admits_security a k.secure ≡ true → shut ≡ true → Some Privilege ≡ reason
  unfolding tests_of
  for-privilege e f = rw (e, fails k.privileged (bit a.closed k.cid.0) true f) refl

  pub for-compartment : admits_security a k.secure ≡ true → shut ≡ false → opened ≡ false → Some Compartment ≡ reason
  unfolding tests_of
  for-compartment e f g = rw (e, fails k.privileged (bit a.closed k.cid.0) false f, g) refl

  pub for-none : admits_security a k.secure ≡ true → shut ≡ false → opened ≡ true → None ≡ reason
  unfolding tests_of
  for-none e f g = rw (e, fails k.privileged (bit a.closed k.cid.0) false f, g) refl
