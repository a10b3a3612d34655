-- What holds of each row of the table of guards holds of every guard's shape.
use Rattle.std.specs.Prelude.{Option, Some, None, is_some, unwrap_or}
use mathlib.Core.Bool.{Bool, true, false, ◌&&◌, cond, true≢false}
use mathlib.Core.List.{List, [], ◌∷◌}
use mathlib.Core.Path.{◌≡◌, refl, sym}
use Prim.Native.Nat.{ℕ, zero, suc, ◌+◌, ◌^◌, ◌≤◌, ◌<◌}
use native.Mathlib.Omega.{arith}
use lib.Dec.{eqb, leb, lit≤, lit<}
use lib.ListN.{length, get_or}
use borrow.Author.Tests.{leb-true, eqb-true}
use Rattle.regions.specs.Words.{most_regions}
use Rattle.access.specs.declared.bus.Bus.TheVariants.{Axi}
use Rattle.risaf.specs.Guards.{GuardRow, guards, guard_count, shaped, no_shape, shape_in, shape_at, shape_of, is_guard}
use Rattle.risaf.specs.declared.guards.Shape.{Shape}

-- a row past the table's end
abbrev pub no_row : GuardRow
no_row = record { number = 0; regions = 0; window = 0; granule = 0; bus = Axi; flag = 0 }

abbrev row_at : List GuardRow → ℕ → GuardRow
row_at gs i = get_or gs i no_row

-- ---- by the rows of a table

module _ (P : Option Shape → Type 0) (n : ℕ) (none : P None) where
  by_rows : (gs : List GuardRow) (place : ℕ)
      → ((i : ℕ) → i < length gs → n ≡ (row_at gs i).number → P (Some (shaped (place + i) (row_at gs i)))) → P (shape_in gs place n)
  unfolding shape_in
  by_rows [] place each = none
  by_rows (g ∷ gs) place each = go (eqb n g.number) refl (by_rows gs (suc place) next)
    where
      next : (i : ℕ) → i < length gs → n ≡ (row_at gs i).number → P (Some (shaped (suc place + i) (row_at gs i)))
      next i h q =
          let s : suc place + i ≡ place + suc i = omega arith in
          rw s (each (suc i) (omega arith) q)

      go : (t : Bool) → eqb n g.number ≡ t → P (shape_in gs (suc place) n)
          → P (cond t (Some (shaped place g)) (shape_in gs (suc place) n))
      go true e rest =
          let z : place ≡ place + 0 = omega arith in
          rw z (each 0 (omega arith) (eqb-true _ _ e))
      go false e rest = rest

  by_table : ((i : ℕ) → i < guard_count → n ≡ (row_at guards i).number → P (Some (shaped i (row_at guards i)))) → P (shape_at n)
  unfolding shape_at
  by_table each = by_rows guards 0 (λ i h q. let z : 0 + i ≡ i = omega arith in rw z (each i h q))

module _ (P : Shape → Type 0) (n : ℕ) where
  abbrev EachRow : Type 0
  EachRow = (i : ℕ) → i < guard_count → n ≡ (row_at guards i).number → P (shaped i (row_at guards i))

  -- of any number
  pub by-guard : P no_shape → EachRow → P (shape_of n)
  unfolding shape_of
  by-guard none each = by_table (λ r. P (unwrap_or r no_shape)) n none each

  -- of a guard's
  pub by-row : is_guard n ≡ true → EachRow → P (shape_of n)
  unfolding shape_of
  by-row there each =
      by_table (λ r. is_some r ≡ true → P (unwrap_or r no_shape)) n (λ e. absurd (true≢false (sym e))) (λ i h q e. each i h q) there

-- ---- what the search gives

pub found : (n : ℕ) {shape : Shape} → shape_at n ≡ Some shape → (shape ≡ shape_of n) × (is_guard n ≡ true)
unfolding shape_of
found n e = (rw e refl, rw e refl)

pub missed : (n : ℕ) → shape_at n ≡ None → is_guard n ≡ false
missed n e = rw e refl

pub found-as : (n : ℕ) → shape_at n ≡ cond (is_guard n) (Some (shape_of n)) None
unfolding shape_of
found-as n = go (shape_at n)
  where
    go : (r : Option Shape) → r ≡ cond (is_some r) (Some (unwrap_or r no_shape)) None
    go None = refl
    go (Some shape) = refl

-- ---- a test that every row passes

unfoldable pub every : (GuardRow → Bool) → List GuardRow → Bool
every t [] = true
every t (g ∷ gs) = t g && every t gs

and_left : (a b : Bool) → (a && b) ≡ true → a ≡ true
and_left true b e = refl
and_left false b e = e

and_right : (a b : Bool) → (a && b) ≡ true → b ≡ true
and_right true b e = e
and_right false b e = cc

pub passed : (t : GuardRow → Bool) (gs : List GuardRow) → every t gs ≡ true → (i : ℕ) → i < length gs → t (row_at gs i) ≡ true
unfolding every
passed t [] e i h = absurd (omega arith)
passed t (g ∷ gs) e zero h = and_left (t g) (every t gs) e
passed t (g ∷ gs) e (suc i) h = passed t gs (and_right (t g) (every t gs) e) i (omega arith)

-- no more base regions than there can be, and a window of at most 2^32
fits : GuardRow → Bool
fits g = leb g.regions most_regions && leb g.window (2 ^ 32)

all_fit : every fits guards ≡ true
unfolding every fits
all_fit = refl

pub regions-most : (n : ℕ) → (shape_of n).regions ≤ most_regions
unfolding fits
regions-most n =
    by-guard (λ s. s.regions ≤ most_regions) n (lit≤ tt) (λ i h q. leb-true _ _ (and_left _ _ (passed fits guards all_fit i h)))

pub window-most : (n : ℕ) → (shape_of n).window ≤ 2 ^ 32
unfolding fits
window-most n =
    by-guard (λ s. s.window ≤ 2 ^ 32) n (lit≤ tt)
    (λ i h q. leb-true _ _ (and_right (leb (row_at guards i).regions most_regions) _ (passed fits guards all_fit i h)))

-- ---- places

pub place-lt : (n : ℕ) → (shape_of n).place < guard_count
place-lt n = by-guard (λ s. s.place < guard_count) n (lit< tt) (λ i h q. h)

pub place-found : (n : ℕ) {shape : Shape} → shape_at n ≡ Some shape → shape.place < guard_count
place-found n e = rw (found n e).0 (place-lt n)
