-- What a lookup finds: in a map the row around the offset, with f's rights there; past the window nothing; where it begins; and, for the code, row after row. Assumes nothing.
use Prim.Native.Nat.{ℕ, ◌+◌, ◌*◌, ◌≤◌, ◌<◌}
use mathlib.Core.Path.{◌≡◌, refl, sym, ap, ◌∙◌}
use mathlib.Core.Bool.{Bool, true, false, ◌&&◌, cond}
use mathlib.Core.List.{List, [], ◌∷◌, ◌++◌, append-nil}
use mathlib.Core.Logic.{◌⊎◌, inl, inr, ⊎_elim}
use native.Mathlib.Omega.{arith}
use native.Mathlib.Numerals.{add-three}
use borrow.Author.Tests.{le-leb, lt-leb}
use lib.Dec.{leb}
use lib.ListN.{length, get_or, take, drop, take-append-drop, length-drop}
use Rattle.spans.specs.Rows.{Rows, none, more, flat, encloses}
use Rattle.spans.specs.Map.{IsMap, map_of}
use Rattle.spans.specs.Lookup.{lookup_in, row_place, Finds}
use Rattle.spans.specs.Passed.{Passed}
use Rattle.spans.proofs.Order.{below_or}
use Rattle.spans.proofs.Unique.{MapRows, map_rows}
use Rattle.spans.proofs.Memory.{flat-more, three}
use Rattle.spans.proofs.Maps.{is-the-map}

-- ---- whether a row encloses an offset

module _ (s e x : ℕ) where
  pub inside : s ≤ x → x ≤ e → encloses s e x ≡ true
  inside l u = simp (le-leb s x l, le-leb x e u)

  pub outside : (x < s) ⊎ (e < x) → encloses s e x ≡ false
  outside (inl l) = simp (lt-leb s x l)
  outside (inr u) = rw (lt-leb x e u) (never (leb s x))
    where
      never : (b : Bool) → (b && false) ≡ false
      never true = refl
      never false = refl

-- ---- in any numbers

-- what is found is three numbers, or none
pub found-or-none : (l : List ℕ) (x : ℕ) → (length (lookup_in l x) ≡ 3) ⊎ (lookup_in l x ≡ [])
unfolding lookup_in
found-or-none [] x = inr refl
found-or-none (s ∷ []) x = inr refl
found-or-none (s ∷ e ∷ []) x = inr refl
found-or-none (s ∷ e ∷ q ∷ rest) x = go (encloses s e x) (found-or-none rest x)
  where
    go : (b : Bool) → (length (lookup_in rest x) ≡ 3) ⊎ (lookup_in rest x ≡ [])
        → (length (cond b (s ∷ e ∷ q ∷ []) (lookup_in rest x)) ≡ 3) ⊎ (cond b (s ∷ e ∷ q ∷ []) (lookup_in rest x) ≡ [])
    go true h = inl refl
    go false h = h

-- ---- in rows that are a map, with any numbers behind them

-- an offset at or past the window is in none of the rows
past-rows : (f : ℕ → ℕ) (w : ℕ) (rs : Rows) (rest : List ℕ) (x : ℕ) → MapRows f w rs → w ≤ x → lookup_in (flat rs ++ rest) x ≡ lookup_in rest x
unfolding MapRows flat lookup_in
past-rows f w none rest x m h = refl
past-rows f w (more r s e q) rest x m h =
    rw flat-more
    (past-rows f s r (s ∷ e ∷ q ∷ rest) x m.4 (omega arith) ∙ simp (outside s e x (inr (omega arith))))

finds-rows : (f : ℕ → ℕ) (w : ℕ) (rs : Rows) (rest : List ℕ) (x : ℕ) → MapRows f w rs → x < w → Finds f x (lookup_in (flat rs ++ rest) x)
unfolding MapRows lookup_in
finds-rows f w none rest x m h = absurd (omega arith)
finds-rows f w (more r s e q) rest x m h =
    rw flat-more
    (⊎_elim
    (λ l. finds-rows f s r (s ∷ e ∷ q ∷ rest) x m.4 l)
    (λ l.
    record {
      from = s;
      to = e;
      row = past-rows f s r (s ∷ e ∷ q ∷ rest) x m.4 l ∙ simp (inside s e x l (omega arith), m.2 x l (omega arith));
      low = l;
      high = omega arith;
    })
    (below_or x s))

-- ---- in a map

module _ {f : ℕ → ℕ} {w n : ℕ} {m : List ℕ} (I : IsMap f w n m) (x : ℕ) where
  -- an offset of the window is found in the map, whatever numbers stand behind it
  pub lookup-finds : x < w → Finds f x (lookup_in m x)
  lookup-finds h =
      let e : m ≡ flat (map_of f w) ++ drop (3 * n) m = sym (take-append-drop (3 * n) m) ∙ ap (λ (l : List ℕ). l ++ drop (3 * n) m) (is-the-map I).1 in
      rw e (finds-rows f w (map_of f w) (drop (3 * n) m) x (map_rows f w) h)

  -- any other offset is not found in the map's own numbers
  pub lookup-past : w ≤ x → lookup_in (take (3 * n) m) x ≡ []
  unfolding lookup_in
  lookup-past h = rw ((is-the-map I).1, ← append-nil (flat (map_of f w))) (past-rows f w (map_of f w) [] x (map_rows f w) h)

-- ---- where the row that a lookup finds begins

-- the row stands there; at the end of the numbers, where none is found, nothing does
pub at_place : (m : List ℕ) (x : ℕ) → lookup_in m x ≡ take 3 (drop (row_place m x) m)
unfolding lookup_in row_place
at_place [] x = refl
at_place (s ∷ []) x = refl
at_place (s ∷ e ∷ []) x = refl
at_place (s ∷ e ∷ q ∷ rest) x = rw (at_place rest x) (by (encloses s e x))
  where
    by : (t : Bool) → cond t (s ∷ e ∷ q ∷ []) (take 3 (drop (row_place rest x) rest))
        ≡ take 3 (drop (cond t 0 (row_place rest x + 3)) (s ∷ e ∷ q ∷ rest))
    by true = refl
    by false = rw add-three

-- and has all its three numbers
pub whole_row : (m : List ℕ) (x : ℕ) → row_place m x < length m → row_place m x + 3 ≤ length m
unfolding row_place
whole_row [] x h = absurd (omega arith)
whole_row (s ∷ []) x h = absurd (omega arith)
whole_row (s ∷ e ∷ []) x h = absurd (omega arith)
whole_row (s ∷ e ∷ q ∷ rest) x h = by (encloses s e x) (whole_row rest x) h
  where
    by : (t : Bool) → (row_place rest x < length rest → row_place rest x + 3 ≤ length rest)
        → cond t 0 (row_place rest x + 3) < length (s ∷ e ∷ q ∷ rest) → cond t 0 (row_place rest x + 3) + 3 ≤ length (s ∷ e ∷ q ∷ rest)
    by true w l = omega arith
    by false w l = omega (arith, w (omega arith))

-- ---- row after row, as the code goes

pub place_short : (m : List ℕ) (x : ℕ) → length m < 3 → row_place m x ≡ length m
unfolding row_place
place_short [] x h = refl
place_short (s ∷ []) x h = refl
place_short (s ∷ e ∷ []) x h = refl
place_short (s ∷ e ∷ q ∷ rest) x h = absurd (omega arith)

-- the row from i on encloses x
abbrev pub encloses-at : List ℕ → ℕ → ℕ → Bool
encloses-at m x i = encloses (get_or m i 0) (get_or m (i + 1) 0) x

module _ (m : List ℕ) (x i : ℕ) (h : i + 3 ≤ length m) (p : Passed m x i) where
  one-row : row_place (drop i m) x ≡ cond (encloses-at m x i) 0 (row_place (drop (i + 3) m) x + 3)
  unfolding row_place
  one-row = rw (three m i h)

  pub place_here : encloses-at m x i ≡ true → i ≡ row_place m x
  place_here e =
      let r : row_place (drop i m) x ≡ 0 = one-row ∙ simp e in
      omega (arith, r, p.1)

  pub place-later : (j : ℕ) → j ≡ i + 3 → encloses-at m x i ≡ false → Passed m x j
  place-later j s e =
      let r : row_place (drop i m) x ≡ row_place (drop (i + 3) m) x + 3 = one-row ∙ simp e in
      rw s (h, omega (arith, r, p.1))

  -- a row that ends before x does not enclose it
  pub place-ended : get_or m (i + 1) 0 < x → (j : ℕ) → j ≡ i + 3 → Passed m x j
  place-ended u j s = place-later j s (outside (get_or m i 0) (get_or m (i + 1) 0) x (inr u))

-- where no whole row is left, the numbers are at an end
pub ended-all : (m : List ℕ) (x i : ℕ) → length m < i + 3 → Passed m x i → Passed m x (length m)
ended-all m x i h p =
    let rest = length-drop i m in
    let none = length-drop (length m) m in
    let short = place_short (drop i m) x (omega (arith, rest, h)) in
    let gone = place_short (drop (length m) m) x (omega (arith, none)) in
    (omega arith, omega (arith, p.0, p.1, rest, none, short, gone))

pub place-all : (m : List ℕ) (x i : ℕ) → length m ≤ i → Passed m x i → length m ≡ row_place m x
place-all m x i h p =
    let rest = length-drop i m in
    omega (arith, p.0, p.1, rest, place_short (drop i m) x (omega (arith, rest, h)))
