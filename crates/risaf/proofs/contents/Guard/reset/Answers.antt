use mathlib.Core.List.{List}
use mathlib.Core.Path.{◌≡◌, refl, sym, ap, ap₂, ◌∙◌}
use Prim.Native.Nat.{ℕ, ◌+◌, ◌*◌}
use native.Mathlib.Numerals.{add-one}
use native.Mathlib.Omega.{arith}
use lib.ListN.{set}
use borrow.Author.Rules.{rules}
use Rattle.regions.specs.Words.{subregion_words, end_at}
use Rattle.risaf.specs.Contents.{reset}
use Rattle.risaf.specs.Guards.{low_bits}
use Rattle.risaf.proofs.contents.Guard.reset.Goals as goal
use Rattle.risaf.proofs.contents.Guard.reset.Invariants.{count, reset_to}

reset-all : (granule : ℕ) → record { cr = 0; iasr = 0; iaesr = 0; iaddr = 0; regions = reset_to (low_bits granule) count } ≡ reset granule
unfolding reset
reset-all granule = refl

pub loop-i-preserved : goal.loop-i-preserved
loop-i-preserved c =
    let l = c.loop-i in
    let end = c.low_bits-end.result in
    (search rules, ap (λ (w : List ℕ). set w (subregion_words * l.i + end_at) end) l.invariant.1 ∙ sym (ap (reset_to end) (add-one l.i)))

pub returns : goal.returns
returns c =
    let e : c.loop-i.i ≡ count = omega arith in
    ap (λ (w : List ℕ). record { cr = 0; iasr = 0; iaesr = 0; iaddr = 0; regions = w })
    (c.loop-i.invariant.1 ∙ ap₂ reset_to c.low_bits-end.ensures e)
    ∙ reset-all c.args.granule

pub bounds-regions-i : goal.bounds-regions-i
bounds-regions-i c = omega arith
