-- The words of one guard in the lent words: read, and stored.
use mathlib.Core.List.{List, []}
use mathlib.Core.Path.{◌≡◌, refl, sym, ap, ap₂, ◌∙◌}
use Prim.Native.Nat.{ℕ, ◌+◌, ◌*◌, ◌<◌}
use native.Mathlib.Omega.{arith}
use borrow.Author.Tests.{eq-eqb, lt-ltb}
use lib.ListN.{length, length-map, length-set, take, drop, get_or, set, length-drop, length-replicate, get_or-replicate, get_or-map}
use lib.Seq.{paste, set-get_or, set-set, get_or-set_same, drop-set-add, drop-drop, length-take-le}
use Rattle.risaf.specs.Contents.{head_words, regions_words, guard_size, guard_words, guard_from, with_word}
use Rattle.risaf.specs.Guards.{guard_count}
use Rattle.risaf.specs.declared.contents.Guard.{Guard}
use Rattle.device.specs.State.{State, guard_at, with_guards, with_guard_at}
use Rattle.device.specs.Layout.{place_in, parts_of, head_sizes, guard_sizes, guards_at, state_words, state_from, state_of, regions_in}
use Rattle.device.proofs.Parts.{drop-take, paste-drop, parts-paste, parts-count, part-is, part-set, parts-past, part-paste, map-set, place-alike, total-alike}
use Rattle.device.proofs.StateLayout.{words-guard, guard_parts}

-- ---- words of one guard stored one after the other: m' is m with the words w for those of the guard at place p

pub record InGuard (m : List ℕ) (p : ℕ) (w m' : List ℕ) : Type 0 where
  pub size : length m' ≡ state_words
  pub heads : parts_of head_sizes m' ≡ parts_of head_sizes m
  pub guards : guard_parts m' ≡ set (guard_parts m) p w

pub in-none : (m : List ℕ) (p : ℕ) → length m ≡ state_words → InGuard m p (get_or (guard_parts m) p []) m
in-none m p h = record { size = h; heads = refl; guards = sym (set-get_or (guard_parts m) p []) }

pub in-more : {m m' w : List ℕ} {p : ℕ} (i v : ℕ) → p < guard_count → i < guard_size → InGuard m p w m'
    → InGuard m p (set w i v) (set m' (guards_at + guard_size * p + i) v)
in-more {m} {m'} {w} {p} i v l h s =
    let e : guards_at + guard_size * p + i ≡ guards_at + (place_in guard_sizes p + i) =
    omega (arith, place-alike guard_count guard_size p (omega arith)) in
    let c : length guard_sizes ≡ guard_count = length-replicate guard_count guard_size in
    let g : get_or guard_sizes p 0 ≡ guard_size = get_or-replicate guard_count p guard_size 0 l in
    let d : length (guard_parts m) ≡ guard_count = parts-count guard_sizes (drop guards_at m) ∙ c in
    let same : get_or (guard_parts m') p [] ≡ w =
    ap (λ (x : List (List ℕ)). get_or x p []) s.guards ∙ get_or-set_same (guard_parts m) p w [] (omega arith) in
    record {
      size = length-set m' _ v ∙ s.size;
      heads = ap (λ (j : ℕ). parts_of head_sizes (set m' j v)) e ∙ parts-past head_sizes m' (place_in guard_sizes p + i) v ∙ s.heads;
      guards =
          ap (λ (j : ℕ). guard_parts (set m' j v)) e
          ∙ ap (parts_of guard_sizes) (drop-set-add guards_at m' (place_in guard_sizes p + i) v)
          ∙ part-set guard_sizes (drop guards_at m') p i v (omega arith) (omega arith)
          ∙ ap₂ (λ (x : List (List ℕ)) (y : List ℕ). set x p (set y i v)) s.guards same
          ∙ set-set (guard_parts m) p w (set w i v);
    }

pub in-state : {m m' w : List ℕ} {p : ℕ} → InGuard m p w m'
    → state_of m' ≡ with_guards (state_of m) (set (state_of m).guards p (guard_from w))
unfolding state_of
in-state {m} {m'} {w} {p} s =
    ap₂ (λ (ps gs : List (List ℕ)). state_from ps gs) s.heads s.guards
    ∙ ap (λ (gs : List Guard). with_guards (state_from (parts_of head_sizes m) (guard_parts m)) gs) (map-set guard_from (guard_parts m) p w)

-- ---- a guard as it is read and stored

pub guard-from : (m : List ℕ) (p : ℕ) → guard_at (state_of m) p ≡ guard_from (get_or (guard_parts m) p [])
unfolding state_of
guard-from m p = get_or-map guard_from (guard_parts m) p []

pub guard-part : (m : List ℕ) (p : ℕ) → p < guard_count
    → get_or (guard_parts m) p [] ≡ take guard_size (drop (guards_at + guard_size * p) m)
guard-part m p l =
    let c : length guard_sizes ≡ guard_count = length-replicate guard_count guard_size in
    let e : guards_at + place_in guard_sizes p ≡ guards_at + guard_size * p = omega (arith, place-alike guard_count guard_size p (omega arith)) in
    part-is guard_sizes (drop guards_at m) p (omega arith)
    ∙ ap₂ take (get_or-replicate guard_count p guard_size 0 l) (drop-drop (place_in guard_sizes p) guards_at m ∙ ap (λ (j : ℕ). drop j m) e)

pub regions-part : (m : List ℕ) (p : ℕ) → p < guard_count
    → take regions_words (drop (guards_at + guard_size * p + head_words) m) ≡ drop head_words (get_or (guard_parts m) p [])
regions-part m p l =
    sym
    (ap (drop head_words) (guard-part m p l) ∙ drop-take head_words regions_words (drop (guards_at + guard_size * p) m)
    ∙ ap (take regions_words) (drop-drop head_words (guards_at + guard_size * p) m))

pub guard-words : (m : List ℕ) (p : ℕ) → length m ≡ state_words → p < guard_count
    → guard_words (guard_at (state_of m) p) ≡ take guard_size (drop (guards_at + guard_size * p) m)
guard-words m p h l =
    let n : length (take guard_size (drop (guards_at + guard_size * p) m)) ≡ guard_size =
    length-take-le guard_size (drop (guards_at + guard_size * p) m) (simp length-drop (omega arith)) in
    ap guard_words (guard-from m p ∙ ap guard_from (guard-part m p l)) ∙ words-guard _ (omega arith)

pub word-stored : (m : List ℕ) (p i v : ℕ) → length m ≡ state_words → p < guard_count → i < guard_size
    → state_of (set m (guards_at + guard_size * p + i) v) ≡ with_guard_at (state_of m) p (with_word (guard_at (state_of m) p) i v)
unfolding with_word
word-stored m p i v h l k =
    in-state (in-more i v l k (in-none m p h))
    ∙ ap (λ (w : List ℕ). with_guard_at (state_of m) p (guard_from (set w i v))) (guard-part m p l ∙ sym (guard-words m p h l))

-- ---- a guard changed more than once

pub guards-count : (m : List ℕ) → length (state_of m).guards ≡ guard_count
unfolding state_of
guards-count m =
    length-map (guard_parts m) guard_from ∙ parts-count guard_sizes (drop guards_at m) ∙ length-replicate guard_count guard_size

-- a word of a guard stored after others of its words
pub word-again : (s : State) {t : State} (g : Guard) (p i v : ℕ) → length s.guards ≡ guard_count → p < guard_count → t ≡ with_guard_at s p g
    → with_guard_at t p (with_word (guard_at t p) i v) ≡ with_guard_at s p (with_word g i v)
word-again s {t} g p i v n l e =
    rw e
    (ap (λ (h : Guard). with_guards s (set (set s.guards p g) p (with_word h i v)))
    (get_or-set_same s.guards p g (guard_from []) (omega arith))
    ∙ ap (with_guards s) (set-set s.guards p g (with_word g i v)))

-- ---- a guard's regions as they are read

pub regions-read : (m : List ℕ) (p : ℕ) → length m ≡ state_words → p < guard_count → regions_in m p ≡ (guard_at (state_of m) p).regions
unfolding regions_in
regions-read m p h l =
    simp (eq-eqb (length m) state_words h, lt-ltb p guard_count l) (ap (λ (g : Guard). g.regions) (sym (guard-from m p)))

pub regions-length : (m : List ℕ) (p : ℕ) → length m ≡ state_words → p < guard_count → length (guard_at (state_of m) p).regions ≡ regions_words
regions-length m p h l =
    let n : length (get_or (guard_parts m) p []) ≡ guard_size =
    ap length (guard-part m p l) ∙ length-take-le guard_size (drop (guards_at + guard_size * p) m) (simp length-drop (omega arith)) in
    ap (λ (g : Guard). length g.regions) (guard-from m p) ∙ length-drop head_words (get_or (guard_parts m) p []) ∙ omega arith

-- ---- a guard stored whole

pub guard-stored : (m : List ℕ) (p : ℕ) (w : List ℕ) → length m ≡ state_words → p < guard_count → length w ≡ guard_size
    → state_of (paste m (guards_at + guard_size * p) w (length w)) ≡ with_guard_at (state_of m) p (guard_from w)
unfolding state_of
guard-stored m p w h l k =
    let c : length guard_sizes ≡ guard_count = length-replicate guard_count guard_size in
    let e : guard_size * p ≡ place_in guard_sizes p = sym (place-alike guard_count guard_size p (omega arith)) in
    ap₂ (λ (ps gs : List (List ℕ)). state_from ps gs) (parts-paste head_sizes m (guard_size * p) w (omega arith))
    (ap (parts_of guard_sizes)
    (paste-drop m guards_at (guard_size * p) w (omega arith) ∙ ap (λ (j : ℕ). paste (drop guards_at m) j w (length w)) e)
    ∙ part-paste guard_sizes (drop guards_at m) p w (omega arith) (k ∙ sym (get_or-replicate guard_count p guard_size 0 l))
    (simp length-drop (omega (arith, total-alike guard_count guard_size))))
    ∙ ap (λ (gs : List Guard). with_guards (state_from (parts_of head_sizes m) (guard_parts m)) gs) (map-set guard_from (guard_parts m) p w)
