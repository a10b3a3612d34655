-- A peripheral access, by the first of its tests that fails.
use mathlib.Core.Bool.{true, false}
use mathlib.Core.Path.{◌≡◌, refl}
use Rattle.access.specs.Checks.{answered_with, reached_with}
use Rattle.access.specs.declared.answer.Answer.{Answer}
use Rattle.access.specs.declared.answer.Answer.TheVariants.{Done, Refused, Rejected}
use Rattle.access.specs.declared.answer.Why.TheVariants.{NoSuch, Fetch}
use Rattle.rifsc.specs.Peripherals.{exists, filter_of, grants}
use Rattle.device.specs.State.{State, flagged}
use Rattle.device.specs.Step.{fetches, peripheral_step}
use Rattle.device.specs.declared.event.PeripheralAccess.{PeripheralAccess}

module _ (x : PeripheralAccess) (s : State) where
  -- the step has this answer, and leaves this state
  abbrev Gives : Answer → State → Type 0
  Gives a t = (a ≡ (peripheral_step x s).answer) × (t ≡ (peripheral_step x s).next)

  pub no-peripheral : exists x.peripheral ≡ false → Gives (Rejected NoSuch) s
  unfolding peripheral_step answered_with
  no-peripheral e = rw e (refl, refl)

  module _ (there : exists x.peripheral ≡ true) where
    pub peripheral-fetched : fetches x.operation ≡ true → Gives (Rejected Fetch) s
    unfolding peripheral_step answered_with
    peripheral-fetched e = rw (there, e) (refl, refl)

    module _ (used : fetches x.operation ≡ false) where
      pub peripheral-granted : grants (filter_of s.rifsc x.peripheral) x.secure x.privileged ≡ true → Gives (Done 0) s
      unfolding peripheral_step answered_with reached_with
      peripheral-granted e = rw (there, used, e) (refl, refl)

      pub peripheral-refused : grants (filter_of s.rifsc x.peripheral) x.secure x.privileged ≡ false → {t : State}
          → t ≡ flagged (record { 0 = x.peripheral.0 }) s → Gives (Refused 0) t
      unfolding peripheral_step answered_with reached_with
      peripheral-refused e f = rw (there, used, e) (refl, f)
