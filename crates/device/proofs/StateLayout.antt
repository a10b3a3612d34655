-- The state in lent words: the words are its layout, and what a part or a word stored there changes of it.
use mathlib.Core.List.{List, [], ◌∷◌, ◌++◌, map}
use mathlib.Core.Path.{◌≡◌, refl, ap, ap₂, ◌∙◌}
use Prim.Native.Nat.{ℕ, zero, suc, ◌+◌, ◌*◌, ◌≤◌, ◌<◌}
use native.Mathlib.Omega.{arith}
use lib.Dec.{lit<}
use lib.ListN.{length, take, drop, get_or, set, replicate, take-append-drop, length-take, length-drop}
use lib.Seq.{paste, length-paste, take_all, get_or-take, get_or-drop}
use borrow.Rule.Slice.PartMut.{put_mid}
use Rattle.std.proofs.lemmas.Slice.{put_mid-paste}
use Rattle.risaf.specs.Contents.{head_words, guard_size, guard_words, guard_from}
use Rattle.risaf.specs.Guards.{guard_count}
use Rattle.rifsc.specs.declared.contents.Rifsc.{Rifsc}
use Rattle.iac.specs.declared.contents.Iac.{Iac}
use Rattle.iac.specs.Contents.{with_held}
use Rattle.iac.specs.declared.held.Held.{Held}
use Rattle.device.specs.State.{with_rifsc, with_iac}
use Rattle.device.specs.Layout.{place_in, total, parts_of, joined, head_sizes, guard_sizes, guards_at, state_words, cr_part, seccfgr_part, privcfgr_part, rcfglockr_part, rimccr_part, attr_part, ier_part, isr_part, line_part, count_part, only, head_of, layout, state_from, state_of}
use Rattle.device.proofs.Parts.{joined-parts, part-is, part_length, part-paste, paste-past, set-paste, total-alike, place-most}

-- ---- a guard as words

pub words-guard : (w : List ℕ) → head_words ≤ length w → guard_words (guard_from w) ≡ w
words-guard [] h = absurd (omega arith)
words-guard (a ∷ []) h = absurd (omega arith)
words-guard (a ∷ b ∷ []) h = absurd (omega arith)
words-guard (a ∷ b ∷ c ∷ []) h = absurd (omega arith)
words-guard (a ∷ b ∷ c ∷ d ∷ w) h = refl

words-guards : (c : ℕ) (m : List ℕ) → c * guard_size ≤ length m
    → map guard_words (map guard_from (parts_of (replicate c guard_size) m)) ≡ parts_of (replicate c guard_size) m
unfolding parts_of
words-guards zero m h = refl
words-guards (suc c) m h =
    ap₂ (λ (w : List ℕ) (ws : List (List ℕ)). w ∷ ws)
    (words-guard (take guard_size m) (simp length-take (omega arith)))
    (words-guards c (drop guard_size m) (simp length-drop (omega arith)))

-- ---- lent words of the right length are the layout of the state that they are

-- the part of one word
one_word : (p : List ℕ) → length p ≡ 1 → only p ∷ [] ≡ p
one_word [] h = absurd (omega arith)
one_word (x ∷ []) h = refl
one_word (x ∷ y ∷ p) h = absurd (omega arith)

module _ (m : List ℕ) (h : length m ≡ state_words) where
  abbrev heads : List (List ℕ)
  heads = parts_of head_sizes m

  abbrev rest : List ℕ
  rest = drop guards_at m

  rest-length : length rest ≡ guard_count * guard_size
  rest-length = length-drop guards_at m ∙ omega arith

  head-words : (gs : List (List ℕ)) → head_of (state_from heads gs) ≡ heads
  unfolding parts_of
  head-words gs =
      rw (
        one_word (get_or heads cr_part []) (part_length head_sizes m cr_part (lit< tt) (omega arith)),
        one_word (get_or heads rimccr_part []) (part_length head_sizes m rimccr_part (lit< tt) (omega arith)),
        one_word (get_or heads line_part []) (part_length head_sizes m line_part (lit< tt) (omega arith)),
        one_word (get_or heads count_part []) (part_length head_sizes m count_part (lit< tt) (omega arith)),
      )

  pub layout_of : layout (state_of m) ≡ m
  unfolding layout state_of
  layout_of =
      ap₂ (λ (a b : List (List ℕ)). joined a ++ joined b) (head-words (parts_of guard_sizes rest))
      (words-guards guard_count rest (omega (arith, rest-length)))
      ∙ ap₂ ◌++◌ (joined-parts head_sizes m)
      (joined-parts guard_sizes rest ∙ take_all (total guard_sizes) rest (omega (arith, rest-length, total-alike guard_count guard_size)))
      ∙ take-append-drop guards_at m

-- the guards' parts
abbrev pub guard_parts : List ℕ → List (List ℕ)
guard_parts m = parts_of guard_sizes (drop guards_at m)

-- ---- parts before the guards' stored one after the other: m' is m with the parts ps there

pub record Heads (m : List ℕ) (ps : List (List ℕ)) (m' : List ℕ) : Type 0 where
  pub size : length m' ≡ state_words
  pub heads : parts_of head_sizes m' ≡ ps
  pub rest : drop guards_at m' ≡ drop guards_at m

pub heads-none : (m : List ℕ) → length m ≡ state_words → Heads m (parts_of head_sizes m) m
heads-none m h = record { size = h; heads = refl; rest = refl }

heads-more : {m m' m'' : List ℕ} {ps : List (List ℕ)} (k : ℕ) (w : List ℕ) → k < length head_sizes → length w ≡ get_or head_sizes k 0
    → Heads m ps m' → m'' ≡ paste m' (place_in head_sizes k) w (length w) → Heads m (set ps k w) m''
heads-more {m} {m'} {m''} {ps} k w l e s q =
    let f = place-most head_sizes k l in
    let z = s.size in
    record {
      size = ap length q ∙ length-paste m' (place_in head_sizes k) w (length w) (omega arith) (omega arith) ∙ z;
      heads =
          ap (parts_of head_sizes) q ∙ part-paste head_sizes m' k w l e (omega arith)
          ∙ ap (λ (x : List (List ℕ)). set x k w) s.heads;
      rest = ap (drop guards_at) q ∙ paste-past m' (place_in head_sizes k) w guards_at (omega arith) (omega arith) ∙ s.rest;
    }

-- words copied over a part
pub heads-copied : {m m' ys : List ℕ} {ps : List (List ℕ)} (k : ℕ) (w : List ℕ) → k < length head_sizes → length w ≡ get_or head_sizes k 0
    → ys ≡ w → Heads m ps m' → Heads m (set ps k w) (put_mid (place_in head_sizes k) (get_or head_sizes k 0) m' ys)
heads-copied {m} {m'} {ys} k w l e y s = heads-more k w l e s (put_mid-paste _ _ m' ys w (length w) y e refl)

-- a part of one word
pub heads-word : {m m' m'' : List ℕ} {ps : List (List ℕ)} (k v : ℕ) → k < length head_sizes → 1 ≡ get_or head_sizes k 0
    → Heads m ps m' → m'' ≡ set m' (place_in head_sizes k) v → Heads m (set ps k (v ∷ [])) m''
heads-word {m} {m'} {m''} {ps} k v l e s q =
    let f = place-most head_sizes k l in
    let z = s.size in
    heads-more k (v ∷ []) l e s (q ∙ set-paste m' (place_in head_sizes k) v (omega arith))

pub heads-state : {m m' : List ℕ} {ps : List (List ℕ)} → Heads m ps m' → state_of m' ≡ state_from ps (parts_of guard_sizes (drop guards_at m))
unfolding state_of
heads-state s = ap₂ (λ (ps : List (List ℕ)) (r : List ℕ). state_from ps (parts_of guard_sizes r)) s.heads s.rest

-- ---- the blocks as they are read

pub head-part : (m : List ℕ) (k : ℕ) → k < length head_sizes
    → get_or (parts_of head_sizes m) k [] ≡ take (get_or head_sizes k 0) (drop (place_in head_sizes k) m)
head-part m k l = part-is head_sizes m k l

pub head-word : (m : List ℕ) (k : ℕ) → k < length head_sizes → get_or head_sizes k 0 ≡ 1
    → only (get_or (parts_of head_sizes m) k []) ≡ get_or m (place_in head_sizes k) 0
head-word m k l e =
    let z : place_in head_sizes k + 0 ≡ place_in head_sizes k = omega arith in
    ap only (part-is head_sizes m k l ∙ ap (λ (n : ℕ). take n (drop (place_in head_sizes k) m)) e)
    ∙ get_or-take 1 (drop (place_in head_sizes k) m) 0 0 (lit< tt) ∙ get_or-drop (place_in head_sizes k) m 0 0
    ∙ ap (λ (j : ℕ). get_or m j 0) z

-- ---- the blocks stored

module _ {m m' : List ℕ} where
  pub iac-stored : (i : Iac)
      → Heads m
      (set (set (set (set (parts_of head_sizes m) ier_part i.ier) isr_part i.isr) line_part (i.line ∷ [])) count_part (i.count ∷ [])) m'
      → state_of m' ≡ with_iac (state_of m) i
  unfolding state_of parts_of
  iac-stored i s = heads-state s ∙ by (guard_parts m)
    where
      by : (gs : List (List ℕ))
          → state_from
          (set (set (set (set (parts_of head_sizes m) ier_part i.ier) isr_part i.isr) line_part (i.line ∷ [])) count_part (i.count ∷ [])) gs
          ≡ with_iac (state_from (parts_of head_sizes m) gs) i
      by gs = refl

  -- the line and the count alone
  pub held-stored : (h : Held) → Heads m (set (set (parts_of head_sizes m) line_part (h.line ∷ [])) count_part (h.count ∷ [])) m'
      → state_of m' ≡ with_iac (state_of m) (with_held (state_of m).iac h)
  unfolding state_of parts_of
  held-stored h s = heads-state s

  pub rifsc-stored : (r : Rifsc)
      → Heads m
      (set (set (set (set (set (set (parts_of head_sizes m) cr_part (r.cr ∷ [])) seccfgr_part r.seccfgr) privcfgr_part r.privcfgr) rcfglockr_part
      r.rcfglockr)
      rimccr_part (r.rimccr ∷ []))
      attr_part r.attr)
      m'
      → state_of m' ≡ with_rifsc (state_of m) r
  unfolding state_of parts_of
  rifsc-stored r s = heads-state s ∙ by (guard_parts m)
    where
      by : (gs : List (List ℕ))
          → state_from
          (set (set (set (set (set (set (parts_of head_sizes m) cr_part (r.cr ∷ [])) seccfgr_part r.seccfgr) privcfgr_part r.privcfgr) rcfglockr_part
          r.rcfglockr)
          rimccr_part (r.rimccr ∷ []))
          attr_part r.attr)
          gs
          ≡ with_rifsc (state_from (parts_of head_sizes m) gs) r
      by gs = refl
