-- Each byte of the rights word is the rules' verdicts on eight compartments: document 02, Q-3, "bit c is 1 exactly when the rules grant
-- that secure, privileged and direction to CID c".
use mathlib.Core.Bool.{Bool}
use mathlib.Core.List.{List}
use mathlib.Core.Path.{◌≡◌, ap, ◌∙◌}
use Prim.Native.Nat.{ℕ, ◌+◌, ◌≤◌}
use native.Mathlib.Omega.{arith}
use Rattle.words.specs.Bit.{bit}
use Rattle.words.proofs.Laws.{bit_word}
use Rattle.access.specs.Kind.{kind_of, rights_bit}
use Rattle.access.specs.declared.bus.Bus.{Bus}
use Rattle.access.specs.declared.kind.Kind.{Kind}
use Rattle.regions.specs.Admits.{admitted, as_heard, verdict_of, rights_from, byte_at, byte_of}
use Rattle.regions.specs.Rules.{decided, granted}
use Rattle.regions.proofs.AdmitsTests.{verdict-is, as-heard}
use Rattle.regions.proofs.RightsBits.{kind-place}

-- what the code's tests say to a kind of asking
abbrev says : Bus → List ℕ → ℕ → ℕ → Kind → Bool
says bus w n o k = granted (verdict_of (as_heard bus (admitted bus w n o)) k)

pub byte-bit : (bus : Bus) (w : List ℕ) (n o : ℕ) (k : Kind) → k.cid.0 ≤ 7
    → bit (byte_of (as_heard bus (admitted bus w n o)) k.write k.privileged k.secure) k.cid.0 ≡ granted (decided bus w n o k)
unfolding rights_from
byte-bit bus w n o k h =
    let e : byte_at k.write k.privileged k.secure + k.cid.0 ≡ rights_bit k = omega arith in
    bit_word 8 (λ i. says bus w n o (kind_of (byte_at k.write k.privileged k.secure + i))) k.cid.0 (omega (arith, h))
    ∙ ap (says bus w n o) (ap kind_of e ∙ kind-place k h)
    ∙ ap granted (as-heard bus (admitted bus w n o) k h ∙ verdict-is bus w n o k h)
