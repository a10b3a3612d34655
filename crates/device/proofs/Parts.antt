-- Words in parts of any sizes: joined again, one part found, one part or one word of it stored.
use mathlib.Core.List.{List, [], ◌∷◌, ◌++◌, map, append_assoc}
use mathlib.Core.Path.{◌≡◌, refl, sym, ap, ap₂, ◌∙◌}
use Prim.Native.Nat.{ℕ, zero, suc, ◌+◌, ◌-◌, ◌*◌, ◌≤◌, ◌<◌}
use native.Mathlib.Numerals.{add-one}
use native.Mathlib.Omega.{arith}
use lib.ListN.{length, take, drop, get_or, set, replicate, length-take, length-drop}
use lib.Seq.{append_snoc, set_split, paste, drop-paste, take_at, drop_at, take-length, take-nil, drop-nil, length-take-le, drop-drop, take-take, take-append-le, drop-append-le, take-set-le, take-set-lt, drop-set-lt, drop-set-add, take-add}
use Rattle.device.specs.Layout.{place_in, total, parts_of, joined}

-- ---- joined again

pub joined-parts : (ns m : List ℕ) → joined (parts_of ns m) ≡ take (total ns) m
unfolding parts_of joined
joined-parts [] m = refl
joined-parts (n ∷ ns) m =
    ap (λ (l : List ℕ). take n m ++ l) (joined-parts ns (drop n m)) ∙ sym (take-add n (total ns) m)

pub parts-count : (ns m : List ℕ) → length (parts_of ns m) ≡ length ns
unfolding parts_of
parts-count [] m = refl
parts-count (n ∷ ns) m = ap suc (parts-count ns (drop n m))

-- ---- one part

pub part-is : (ns m : List ℕ) (k : ℕ) → k < length ns → get_or (parts_of ns m) k [] ≡ take (get_or ns k 0) (drop (place_in ns k) m)
unfolding parts_of
part-is [] m k h = absurd (omega arith)
part-is (n ∷ ns) m zero h = refl
part-is (n ∷ ns) m (suc k) h =
    part-is ns (drop n m) k (omega arith) ∙ ap (take (get_or ns k 0)) (drop-drop (place_in ns k) n m)

pub place-most : (ns : List ℕ) (k : ℕ) → k < length ns → place_in ns k + get_or ns k 0 ≤ total ns
place-most [] k h = absurd (omega arith)
place-most (n ∷ ns) zero h = omega arith
place-most (n ∷ ns) (suc k) h = omega (arith, place-most ns k (omega arith))

pub part_length : (ns m : List ℕ) (k : ℕ) → k < length ns → total ns ≤ length m → length (get_or (parts_of ns m) k []) ≡ get_or ns k 0
part_length ns m k h l =
    ap length (part-is ns m k h)
    ∙ length-take-le _ _ (simp length-drop (omega (arith, place-most ns k h)))

-- ---- a word stored in part k, at its place i

pub part-set : (ns m : List ℕ) (k i v : ℕ) → k < length ns → i < get_or ns k 0
    → parts_of ns (set m (place_in ns k + i) v) ≡ set (parts_of ns m) k (set (get_or (parts_of ns m) k []) i v)
unfolding parts_of
part-set [] m k i v h l = absurd (omega arith)
part-set (n ∷ ns) m zero i v h l =
    let e : 0 + i ≡ i = omega arith in
    rw e (ap₂ (λ (p q : List ℕ). p ∷ parts_of ns q) (take-set-lt n m i v l) (drop-set-lt n m i v l))
part-set (n ∷ ns) m (suc k) i v h l =
    let e : n + place_in ns k + i ≡ n + (place_in ns k + i) = omega arith in
    rw e
    (ap₂ (λ (p q : List ℕ). p ∷ parts_of ns q) (take-set-le n m (n + (place_in ns k + i)) v (omega arith)) (drop-set-add n m (place_in ns k + i) v)
    ∙ ap (λ (ps : List (List ℕ)). take n m ∷ ps) (part-set ns (drop n m) k i v (omega arith) l))

-- stored past the parts
pub parts-past : (ns m : List ℕ) (j v : ℕ) → parts_of ns (set m (total ns + j) v) ≡ parts_of ns m
unfolding parts_of
parts-past [] m j v = refl
parts-past (n ∷ ns) m j v =
    let e : n + total ns + j ≡ n + (total ns + j) = omega arith in
    rw e
    (ap₂ (λ (p q : List ℕ). p ∷ parts_of ns q) (take-set-le n m (n + (total ns + j)) v (omega arith))
    (drop-set-add n m (total ns + j) v)
    ∙ ap (λ (ps : List (List ℕ)). take n m ∷ ps) (parts-past ns (drop n m) j v))

-- ---- a whole part stored

pub drop-take : (n p : ℕ) (m : List ℕ) → drop n (take (n + p) m) ≡ take p (drop n m)
drop-take zero p m = let e : 0 + p ≡ p = omega arith in rw e
drop-take (suc n) p [] = simp (take-nil, drop-nil)
drop-take (suc n) p (x ∷ m) = let e : suc n + p ≡ suc (n + p) = omega arith in rw e (drop-take n p m)

-- past n words of a paste behind them
module _ (m : List ℕ) (n p : ℕ) (w : List ℕ) (h : n + p + length w ≤ length m) where
  paste-take : take n (paste m (n + p) w (length w)) ≡ take n m
  paste-take =
      ap (take n) (append_assoc (take (n + p) m) (take (length w) w) (drop (n + p + length w) m))
      ∙ take-append-le n (take (n + p) m) _ (simp length-take (omega arith))
      ∙ take-take n (n + p) m (omega arith)

  pub paste-drop : drop n (paste m (n + p) w (length w)) ≡ paste (drop n m) p w (length w)
  paste-drop =
      let e : n + p + length w ≡ n + (p + length w) = omega arith in
      ap (drop n) (append_assoc (take (n + p) m) (take (length w) w) (drop (n + p + length w) m))
      ∙ drop-append-le n (take (n + p) m) _ (simp length-take (omega arith))
      ∙ ap₂ (λ (a b : List ℕ). a ++ (take (length w) w ++ b)) (drop-take n p m)
      (ap (λ (k : ℕ). drop k m) e ∙ sym (drop-drop (p + length w) n m))
      ∙ sym (append_assoc (take p (drop n m)) (take (length w) w) (drop (p + length w) (drop n m)))

-- copied past the parts
pub parts-paste : (ns m : List ℕ) (j : ℕ) (w : List ℕ) → total ns + j + length w ≤ length m
    → parts_of ns (paste m (total ns + j) w (length w)) ≡ parts_of ns m
unfolding parts_of
parts-paste [] m j w h = refl
parts-paste (n ∷ ns) m j w h =
    let e : n + total ns + j ≡ n + (total ns + j) = omega arith in
    rw e
    (ap₂ (λ (p q : List ℕ). p ∷ parts_of ns q) (paste-take m n (total ns + j) w (omega arith)) (paste-drop m n (total ns + j) w (omega arith))
    ∙ ap (λ (ps : List (List ℕ)). take n m ∷ ps) (parts-paste ns (drop n m) j w (simp length-drop (omega arith))))

pub part-paste : (ns m : List ℕ) (k : ℕ) (w : List ℕ) → k < length ns → length w ≡ get_or ns k 0 → total ns ≤ length m
    → parts_of ns (paste m (place_in ns k) w (length w)) ≡ set (parts_of ns m) k w
unfolding parts_of
part-paste [] m k w h l t = absurd (omega arith)
part-paste (n ∷ ns) m zero w h l t =
    let e : paste m 0 w (length w) ≡ w ++ drop n m =
    let z : 0 + length w ≡ n = omega arith in
    ap₂ ◌++◌ (take-length w) (ap (λ (k : ℕ). drop k m) z) in
    rw e (ap₂ (λ (p q : List ℕ). p ∷ parts_of ns q) (take_at w (drop n m) n l) (drop_at w (drop n m) n l))
part-paste (n ∷ ns) m (suc k) w h l t =
    let f = place-most ns k (omega arith) in
    ap₂ (λ (p q : List ℕ). p ∷ parts_of ns q) (paste-take m n (place_in ns k) w (omega arith)) (paste-drop m n (place_in ns k) w (omega arith))
    ∙ ap (λ (ps : List (List ℕ)). take n m ∷ ps)
    (part-paste ns (drop n m) k w (omega arith) l (simp length-drop (omega arith)))

-- ---- parts that are alike

pub place-alike : (c s k : ℕ) → k ≤ c → place_in (replicate c s) k ≡ s * k
place-alike zero s zero h = omega arith
place-alike zero s (suc k) h = absurd (omega arith)
place-alike (suc c) s zero h = omega arith
place-alike (suc c) s (suc k) h = ap (λ (x : ℕ). s + x) (place-alike c s k (omega arith)) ∙ omega arith

pub total-alike : (c s : ℕ) → total (replicate c s) ≡ c * s
total-alike zero s = omega arith
total-alike (suc c) s = ap (λ (x : ℕ). s + x) (total-alike c s) ∙ omega arith

-- ---- lists of parts

pub map-set : {A B : Type 0} (f : A → B) (l : List A) (i : ℕ) (a : A) → map f (set l i a) ≡ set (map f l) i (f a)
map-set f [] i a = refl
map-set f (x ∷ l) zero a = refl
map-set {B = B} f (x ∷ l) (suc i) a = ap (λ (r : List B). f x ∷ r) (map-set f l i a)

-- what lies past a paste
pub paste-past : (m : List ℕ) (at : ℕ) (w : List ℕ) (a : ℕ) → at + length w ≤ a → at + length w ≤ length m
    → drop a (paste m at w (length w)) ≡ drop a m
paste-past m at w a h l =
    let e : at + length w + (a - (at + length w)) ≡ a = omega arith in
    ap (λ (k : ℕ). drop k (paste m at w (length w))) (sym e)
    ∙ sym (drop-drop (a - (at + length w)) (at + length w) (paste m at w (length w)))
    ∙ ap (drop (a - (at + length w))) (drop-paste m at w (length w) (omega arith) (omega arith))
    ∙ drop-drop (a - (at + length w)) (at + length w) m
    ∙ ap (λ (k : ℕ). drop k m) e

-- a word stored is a copy of one
pub set-paste : (m : List ℕ) (at v : ℕ) → at < length m → set m at v ≡ paste m at (v ∷ []) 1
set-paste m at v h = set_split m at v h ∙ sym (append_snoc (take at m) v (drop (suc at) m)) ∙ sym (rw add-one refl)
