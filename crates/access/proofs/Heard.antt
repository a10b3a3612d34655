-- What a bus hears is a kind of asking like others.
use Prim.Native.Nat.{◌≤◌}
use native.Mathlib.Omega.{arith}
use Rattle.access.specs.Bus.{heard}
use Rattle.access.specs.declared.bus.Bus.{Bus}
use Rattle.access.specs.declared.bus.Bus.TheVariants.{Axi, Ahb}
use Rattle.access.specs.declared.kind.Kind.{Kind}

pub heard-cid : (bus : Bus) (k : Kind) → k.cid.0 ≤ 7 → (heard bus k).cid.0 ≤ 7
heard-cid Axi k h = h
heard-cid Ahb k h = omega arith
