-- Each bit of a rights word is the verdict on its kind of asking.
use mathlib.Core.Bool.{Bool}
use mathlib.Core.List.{List}
use mathlib.Core.Path.{◌≡◌, ap, ◌∙◌}
use Prim.Native.Nat.{ℕ, ◌/◌, ◌%◌, ◌^◌, ◌≤◌, ◌<◌}
use native.Mathlib.Omega.{arith}
use lib.Dec.{eqb}
use Rattle.words.specs.Bit.{bit, one}
use Rattle.words.proofs.Laws.{bit_word}
use Rattle.access.specs.Kind.{kind_of, rights_bit}
use Rattle.access.specs.declared.bus.Bus.{Bus}
use Rattle.access.specs.declared.kind.Kind.{Kind}
use Rattle.regions.specs.Rights.{rights_word}
use Rattle.regions.specs.Rules.{decided, granted}
use Rattle.regions.proofs.Digits.{one-most, one-is}

-- ---- a kind of asking and its place

pub place-lt : (k : Kind) → k.cid.0 ≤ 7 → rights_bit k < 64
place-lt k h = omega (arith, one-most k.write, one-most k.privileged, one-most k.secure)

kind-same : {c d : ℕ} {w x p q s t : Bool} → c ≡ d → w ≡ x → p ≡ q → s ≡ t
    → ◌≡◌ {A = Kind} (record { cid = record { 0 = c }; write = w; privileged = p; secure = s })
    (record { cid = record { 0 = d }; write = x; privileged = q; secure = t })
kind-same e f g h = cc

pub kind-place : (k : Kind) → k.cid.0 ≤ 7 → kind_of (rights_bit k) ≡ k
kind-place k h = kind-same cid (is 3 k.write write) (is 4 k.privileged privileged) (is 5 k.secure secure)
  where
    is : (j : ℕ) (b : Bool) → rights_bit k / 2 ^ j % 2 ≡ one b → bit (rights_bit k) j ≡ b
    is j b e = ap (λ (d : ℕ). eqb d 1) e ∙ one-is b

    cid : rights_bit k % 8 ≡ k.cid.0
    cid = omega (arith, one-most k.write, one-most k.privileged, one-most k.secure)

    write : rights_bit k / 2 ^ 3 % 2 ≡ one k.write
    write = omega (arith, one-most k.write, one-most k.privileged, one-most k.secure)

    privileged : rights_bit k / 2 ^ 4 % 2 ≡ one k.privileged
    privileged = omega (arith, one-most k.write, one-most k.privileged, one-most k.secure)

    secure : rights_bit k / 2 ^ 5 % 2 ≡ one k.secure
    secure = omega (arith, one-most k.write, one-most k.privileged, one-most k.secure)

pub rights-bit : (bus : Bus) (w : List ℕ) (n o : ℕ) (k : Kind) → k.cid.0 ≤ 7
    → bit (rights_word bus w n o) (rights_bit k) ≡ granted (decided bus w n o k)
unfolding rights_word
rights-bit bus w n o k h =
    bit_word 64 (λ b. granted (decided bus w n o (kind_of b))) (rights_bit k) (place-lt k h)
    ∙ ap (λ (q : Kind). granted (decided bus w n o q)) (kind-place k h)
