-- What a struct by value tells of a field that is an array of unsigned numbers.
-- At a place c whose record has `good`, `c.good.0.1.1` is what the first parameter tells where it is a struct,
-- `c.good.1.0.1.1` the second, `c.good.1.1.0.1.1` the third. In that, `.1` passes a field and `.0` takes one: a field that
-- is a number gives a pair, whose `.1` is the number's bound, and a field that is an array a triple, which these laws take apart.
-- With the second parameter h, whose third field, long, is a [u64; 4]:
--     let long = c.good.1.0.1.1.1.1.0 in
--     length-known c.args.h.long long.1.0.1                    says that the length is 4
--     fits-known w64 c.args.h.long long.0 long.1.1 i         says that the element at i is below 2 ^ 64
use mathlib.Core.List.{List, [], ◌∷◌, map}
use Prim.Native.Nat.{ℕ, zero, suc, ◌^◌, ◌<◌}
use lib.ListN.{get_or}
use lib.Pow.{pow_pos}
use mir.Syntax.{Width}
use mir.Val.{Val, bits}
use denote.Plain.{UInt}
use denote.Array.{each}
use denote.Shadow.{shadow}

pub fits-known : (w : Width) (xs : List ℕ) (us : List Val) → shadow (each ℕ (UInt w).own_val (map (λ (v : ℕ). v) xs) us)
    → (i : ℕ) → get_or xs i 0 < 2 ^ bits w
fits-known w [] us h i = pow_pos (bits w)
fits-known w (x ∷ xs) [] h i = absurd h
fits-known w (x ∷ xs) (u ∷ us) h zero = h.0.1
fits-known w (x ∷ xs) (u ∷ us) h (suc i) = fits-known w xs us h.1 i
