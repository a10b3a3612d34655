-- A function that changes only at boundaries, and when one does that is made of tests whether pairs enclose the offset. Assumes nothing.
use Prim.Native.Nat.{ℕ, ◌+◌, ◌*◌, ◌≤◌, ◌<◌}
use mathlib.Core.Path.{◌≡◌, refl}
use mathlib.Core.List.{List, [], ◌∷◌}
use mathlib.Core.Logic.{⊎_elim}
use native.Mathlib.Omega.{arith}
use lib.Dec.{leb}
use lib.ListN.{length}
use Rattle.spans.specs.Rows.{encloses}
use Rattle.spans.specs.Sweep.{bounds_of}
use Rattle.spans.proofs.Order.{below_or, same_test}

-- no boundary of bs lies above x and at most at y
unfoldable pub Clear : ℕ → ℕ → List ℕ → Type 0
Clear x y [] = Unit {0}
Clear x y (b ∷ bs) = (x < b → b ≤ y → ⊥) × Clear x y bs

-- f stays the same where no boundary of bs is passed
pub record Steady (f : ℕ → ℕ) (bs : List ℕ) : Type 0 where
  pub stays : (x y : ℕ) → x ≤ y → Clear x y bs → f y ≡ f x

-- ---- the boundaries of pairs

-- each pair of ps, a start and an end, encloses x exactly where it encloses y
unfoldable pub Alike : List (ℕ × ℕ) → ℕ → ℕ → Type 0
Alike [] x y = Unit {0}
Alike (p ∷ ps) x y = (encloses p.0 p.1 x ≡ encloses p.0 p.1 y) × Alike ps x y

-- a pair encloses y as it encloses x where neither its start nor the offset past its end is passed on the way
pub encloses-same : (s e x y : ℕ) → x ≤ y → (x < s → s ≤ y → ⊥) → (x < e + 1 → e + 1 ≤ y → ⊥) → encloses s e y ≡ encloses s e x
encloses-same s e x y h cs ce =
    let a : leb s y ≡ leb s x = same_test s y s x (λ l. ⊎_elim (λ g. absurd (cs g l)) (λ g. g) (below_or x s)) (λ l. omega arith) in
    let b : leb y e ≡ leb x e = same_test y e x e (λ l. omega arith) (λ l. ⊎_elim (λ g. absurd (ce (omega arith) (omega arith))) (λ g. g) (below_or e y)) in
    rw (a, b)

clear-alike : (ps : List (ℕ × ℕ)) (x y : ℕ) → x ≤ y → Clear x y (bounds_of ps) → Alike ps y x
unfolding bounds_of Clear Alike
clear-alike [] x y h c = tt
clear-alike (p ∷ ps) x y h c = (encloses-same p.0 p.1 x y h c.0 c.1.0, clear-alike ps x y h c.1.1)

-- a function that goes only by which pairs enclose the offset changes only at their boundaries
pub steady-pairs : (f : ℕ → ℕ) (ps : List (ℕ × ℕ)) → ((x y : ℕ) → Alike ps x y → f x ≡ f y) → Steady f (bounds_of ps)
steady-pairs f ps same = record { stays = λ x y h c. same y x (clear-alike ps x y h c) }

pub length-bounds : (ps : List (ℕ × ℕ)) → length (bounds_of ps) ≡ 2 * length ps
unfolding bounds_of
length-bounds [] = refl
length-bounds (p ∷ ps) = omega (arith, length-bounds ps)
