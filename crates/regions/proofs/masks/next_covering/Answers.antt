-- `regions::masks::next_covering` meets its contract: those passed by do not cover.
use borrow.Author.Rules.{rules}
use borrow.Author.Tests.{tests}
use mathlib.Core.Bool.{true, false}
use mathlib.Core.List.{List}
use mathlib.Core.Path.{◌≡◌}
use Prim.Native.Nat.{ℕ, ◌≤◌, ◌<◌}
use Rattle.std.specs.Prelude.{Option, Some, None, MatchOption}
use Rattle.std.proofs.lemmas.Iterator.{first_from_Range, serves_from_Range}
use Rattle.regions.specs.Masks.{Passed, Next}
use Rattle.regions.specs.Rules.{covers}
use Rattle.regions.specs.Words.{base}
use Rattle.regions.proofs.masks.next_covering.Goals as goal

pub find-requires : goal.find-requires
find-requires c =
    record { can = tt; finite = tt; callable = serves_from_Range (λ x q k. search (rules, tests)) (λ x low high. search (rules, c.requires)) }

as_next : (w : List ℕ) (o n : ℕ) (r : Option ℕ)
    → MatchOption r (Passed w o 0 n) (λ i. (0 ≤ i) × (i < n) × (covers w (base i) o ≡ true) × Passed w o 0 i)
    → MatchOption r (Passed w o 0 n) (Next w o n)
as_next w o n None h = h
as_next w o n (Some i) h = record { high = h.1; passed = h.3; found = h.2 }

pub returns : goal.returns
returns c =
    let a = c.args in
    as_next a.w.now a.o a.n c.find.result
    (first_from_Range _ _ _ _ (λ i. covers a.w.now (base i) a.o ≡ true) (λ i. covers a.w.now (base i) a.o ≡ false) c.find.ensures.ran
    (λ x q k. search (rules, tests)) (λ x q k. (search rules, search (rules, tests))))
