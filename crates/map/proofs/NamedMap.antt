-- Named bits decide the maps: memory of two states that agree on them has the same map of each guard.
use mathlib.Core.Bool.{true}
use mathlib.Core.List.{List}
use mathlib.Core.Path.{◌≡◌, ap}
use Prim.Native.Nat.{ℕ}
use lib.Dec.{eqb}
use lib.ListN.{length}
use Rattle.access.specs.Answer.{number_of}
use Rattle.access.specs.declared.answer.Answer.{Answer}
use Rattle.risaf.specs.Guards.{is_guard}
use Rattle.spans.specs.Rows.{flat}
use Rattle.device.specs.Layout.{state_words, state_of}
use Rattle.device.specs.Named.{Agree, Words32}
use Rattle.device.specs.declared.event.Event.TheVariants.{Memory}
use Rattle.device.proofs.NamedDecide.{states-same, step_same}
use Rattle.map.specs.Demand.{grants_at}
use Rattle.map.specs.Map.{rows_of}
use Rattle.map.specs.Sheets.{SameGrants}
use Rattle.map.proofs.Sheets.{sheets}

pub named-map : (m m' : List ℕ) (n : ℕ) → is_guard n ≡ true → length m ≡ state_words → length m ≡ length m' → Words32 m → Words32 m'
    → Agree m m' → flat (rows_of (state_of m) n) ≡ flat (rows_of (state_of m') n)
unfolding SameGrants grants_at
named-map m m' n h sized l fits fits' agree =
    let same = states-same m m' sized l fits fits' agree in
    (sheets (state_of m) (state_of m') n h).1
    (λ x width k i w a u.
    ap (λ (a : Answer). eqb (number_of a) 0)
    (step_same same (Memory (record { guard = record { 0 = n }; offset = x; width = width; kind = k }))).0)
