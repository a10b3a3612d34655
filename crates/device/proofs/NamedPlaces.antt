-- The masks of Named.antt: the state that they are has every named bit of every register; a few of them, computed.
use mathlib.Core.Bool.{Bool, true, false, cond, true≢false}
use mathlib.Core.List.{List, [], ◌∷◌, map}
use mathlib.Core.Path.{◌≡◌, refl, sym, ap, ◌∙◌}
use Prim.Native.Nat.{ℕ, zero, suc, ◌+◌, ◌*◌, ◌≤◌, ◌<◌}
use native.Mathlib.Decide.{dec_lt}
use native.Mathlib.Omega.{arith}
use borrow.Author.Tests.{lt-ltb}
use lib.Dec.{ltb, lit≤, lit<}
use lib.ListN.{length, get_or, replicate, get_or-eq_default, get_or-append}
use lib.Seq.{get_or-append-add, get_or-drop}
use Rattle.words.specs.Bit.{bit}
use Rattle.words.specs.Six.{bit_words}
use Rattle.words.proofs.Laws.{bit-zero}
use Rattle.words.proofs.Alike.{Within}
use Rattle.regions.specs.Words.{most_regions, base_words, subregion_words, region_words, start_at, end_at, cidcfgr_at, nest_at, base, sub}
use Rattle.rifsc.specs.Contents as rifsc-contents
use Rattle.rifsc.specs.Masters.{masters}
use Rattle.rifsc.specs.Registers as rifsc
use Rattle.rifsc.specs.Registers.{ppsr, ppsrs}
use Rattle.rifsc.specs.declared.registers.Register.TheVariants as in-rifsc
use Rattle.rifsc.proofs.NamedBits as rifsc-named
use Rattle.iac.specs.Contents as iac-contents
use Rattle.iac.specs.Registers as iac
use Rattle.iac.specs.Registers.{iisr, iisrs}
use Rattle.iac.specs.declared.registers.Register.{Register as IacRegister}
use Rattle.iac.specs.declared.registers.Register.TheVariants as in-iac
use Rattle.iac.proofs.NamedWords as iac-named
use Rattle.risaf.specs.Contents.{head_words, iaesr_at, guard_size, guard_words, guard_from}
use Rattle.risaf.specs.Guards.{GuardRow, guards, shape_of}
use Rattle.risaf.specs.Rows.{of_head, of_base, of_sub, row_of}
use Rattle.risaf.specs.declared.guards.Shape.{Shape}
use Rattle.risaf.specs.declared.registers.Head.TheVariants.{Cr, Iasr, Iacr, Iaesr, Iaddr}
use Rattle.risaf.specs.declared.registers.BaseField.TheVariants.{Cfgr, Start, End, Cidcfgr}
use Rattle.risaf.specs.declared.registers.SubField.TheVariants.{SubCfgr, SubStart, SubEnd, Nest}
use Rattle.risaf.specs.declared.registers.Register.TheVariants.{OfHead, OfBase, OfSub}
use Rattle.risaf.proofs.NamedWords as risaf-named
use Rattle.risaf.proofs.Shapes.{no_row, by-guard, regions-most}
use Rattle.device.specs.Layout.{place_in, head_sizes, guards_at, state_words, rimccr_part, attr_part, isr_part, line_part, count_part, joined, layout, parts_of, state_of}
use Rattle.device.specs.Named.{firsts, named_sub, named_region, named_guard, named_state, named_of}
use Rattle.device.specs.State.{guard_at}

-- ---- computed

attr-0 : named_of (place_in head_sizes attr_part) ≡ 0x0000_0370
unfolding named_sub named_region named_guard named_state named_of layout joined rifsc.row_of
attr-0 = refl

-- of RIMC_CR the bit that reads 1 whatever is stored is not named
rimc-cr : named_of (place_in head_sizes rimccr_part) ≡ 0x0000_0701
unfolding named_sub named_region named_guard named_state named_of layout joined rifsc.row_of
rimc-cr = refl

isr-4 : named_of (place_in head_sizes isr_part + 4) ≡ 0x7bef_ffef
unfolding named_sub named_region named_guard named_state named_of layout joined iac.row_of iisr
isr-4 = refl

-- the line and the count
line-0 : named_of (place_in head_sizes line_part) ≡ 0x0000_0001
unfolding named_sub named_region named_guard named_state named_of layout joined
line-0 = refl

count-7-0 : named_of (place_in head_sizes count_part) ≡ 0x0000_00ff
unfolding named_sub named_region named_guard named_state named_of layout joined
count-7-0 = refl

iaesr-1 : named_of (guards_at + iaesr_at) ≡ 0x0000_00b7
unfolding named_sub named_region named_guard named_state named_of layout joined of_head
iaesr-1 = refl

-- CFGR of the last base region of guard 1, and of the next, which it has not; guard 4, the fourth, has eleven
cfgr-1-7 : named_of (guards_at + head_words + base 6) ≡ 0x00ff_0101
unfolding named_sub named_region named_guard named_state named_of layout joined of_base
cfgr-1-7 = refl

cfgr-1-8 : named_of (guards_at + head_words + base 7) ≡ 0
unfolding named_sub named_region named_guard named_state named_of layout joined
cfgr-1-8 = refl

cfgr-4-8 : named_of (guards_at + 3 * guard_size + head_words + base 7) ≡ 0x00ff_0101
unfolding named_sub named_region named_guard named_state named_of layout joined of_base
cfgr-4-8 = refl

-- ---- in memory

pub named-length : length (layout named_state) ≡ state_words
unfolding named_sub named_region named_guard named_state layout joined
named-length = refl

pub named-parts : state_of (layout named_state) ≡ named_state
unfolding named_sub named_region named_guard named_state layout joined state_of parts_of
named-parts = refl

-- ---- the first of some masks

firsts_at : {A : Type 0} (n x : ℕ) (f : ℕ → A) (d : A) → x < n → get_or (firsts n f) x d ≡ f x
firsts_at zero x f d h = absurd (omega arith)
firsts_at (suc n) zero f d h = refl
firsts_at (suc n) (suc x) f d h = firsts_at n x (λ i. f (suc i)) d (omega arith)

within-is : (x y : ℕ) → y ≡ x → Within x y
within-is x y e j l h = ap (λ (w : ℕ). bit w j) e ∙ h

-- where there are no bits past them
within-firsts : (n x : ℕ) (f : ℕ → ℕ) → (n ≤ x → f x ≡ 0) → Within (f x) (get_or (firsts n f) x 0)
within-firsts n x f past = go (dec_lt x n)
  where
    go : Dec (x < n) → Within (f x) (get_or (firsts n f) x 0)
    go (yes l) = within-is _ _ (firsts_at n x f 0 l)
    go (no r) = λ j l h. absurd (true≢false (sym h ∙ ap (λ (w : ℕ). bit w j) (past (omega arith)) ∙ bit-zero j))

-- ---- the controller and the IAC

ppsr-within : (x : ℕ) → Within (ppsr x) (get_or (firsts bit_words ppsr) x 0)
unfolding ppsr
ppsr-within x = within-firsts bit_words x ppsr (λ h. get_or-eq_default ppsrs 0 h)

iisr-within : (x : ℕ) → Within (iisr x) (get_or (firsts bit_words iisr) x 0)
unfolding iisr
iisr-within x = within-firsts bit_words x iisr (λ h. get_or-eq_default iisrs 0 h)

pub rifsc-has : rifsc-named.Has named_state.rifsc
unfolding named_state rifsc-contents.stored rifsc.row_of
rifsc-has in-rifsc.Cr placed = λ j l h. h
rifsc-has (in-rifsc.Seccfgr x) placed = ppsr-within x
rifsc-has (in-rifsc.Privcfgr x) placed = ppsr-within x
rifsc-has (in-rifsc.Rcfglockr x) placed = ppsr-within x
rifsc-has in-rifsc.Rimccr placed = λ j l h. h
rifsc-has (in-rifsc.Attr m) placed = within-is _ _ (firsts_at masters m (λ i. (rifsc.row_of (in-rifsc.Attr i)).named) 0 placed)
rifsc-has (in-rifsc.Ppsr x) placed = λ j l h. h

iac-words : (reg : IacRegister) → Within (iac.row_of reg).named (iac-contents.stored named_state.iac reg)
unfolding named_state iac-contents.stored iac.row_of
iac-words (in-iac.Ier x) = iisr-within x
iac-words (in-iac.Isr x) = iisr-within x
iac-words (in-iac.Icr x) = iisr-within x
iac-words (in-iac.Iisr x) = λ j l h. h

pub iac-has : iac-named.Has named_state.iac
unfolding named_state
iac-has = record { words = iac-words; line = λ j l h. h; count = λ j l h. h }

-- ---- a guard

-- word i of block x, of blocks of one size one after the other
block_at : (c size : ℕ) (f : ℕ → List ℕ) → ((x : ℕ) → length (f x) ≡ size) → (x i : ℕ) → x < c → i < size
    → get_or (joined (firsts c f)) (size * x + i) 0 ≡ get_or (f x) i 0
unfolding joined
block_at zero size f sized x i h l = absurd (omega arith)
block_at (suc c) size f sized zero i h l =
    let e : size * 0 + i ≡ i = omega arith in
    rw e (get_or-append (f 0) _ 0 i (omega (arith, sized 0)))
block_at (suc c) size f sized (suc x) i h l =
    let e : size * suc x + i ≡ length (f 0) + (size * x + i) = omega (arith, sized 0) in
    rw e (get_or-append-add (f 0) _ (size * x + i) 0 ∙ block_at c size (λ j. f (suc j)) (λ j. sized (suc j)) x i (omega arith) l)

-- word i of subregion s of base region x
sub_at : (x s i : ℕ) → s < 2 → i < subregion_words → get_or (named_region x) (base_words + (subregion_words * s + i)) 0 ≡ get_or (named_sub x s) i 0
unfolding named_region named_sub
sub_at x s i l k =
    get_or-append-add ((of_base x Cfgr).named ∷ (of_base x Start).named ∷ (of_base x End).named ∷ (of_base x Cidcfgr).named ∷ [])
    (joined (firsts 2 (named_sub x))) (subregion_words * s + i) 0
    ∙ block_at 2 subregion_words (named_sub x) (λ j. refl) s i l k

module _ (n : ℕ) where
  abbrev region : ℕ → List ℕ
  region x = cond (ltb x n) (named_region x) (replicate region_words 0)

  region-size : (x : ℕ) → length (region x) ≡ region_words
  unfolding named_region named_sub joined
  region-size x = go (ltb x n)
    where
      go : (b : Bool) → length (cond b (named_region x) (replicate region_words 0)) ≡ region_words
      go true = refl
      go false = refl

  -- word i of base region x, which the guard has
  region-at : (x i : ℕ) → x < n → n ≤ most_regions → i < region_words
      → get_or (guard_words (named_guard n)) (head_words + base x + i) 0 ≡ get_or (named_region x) i 0
  unfolding named_guard
  region-at x i h l k =
      let e : head_words + base x + i ≡ head_words + (base x + i) = omega arith in
      ap (λ (q : ℕ). get_or (guard_words (named_guard n)) q 0) e
      ∙ sym (get_or-drop head_words (guard_words (named_guard n)) (base x + i) 0)
      ∙ block_at most_regions region_words region region-size x i (omega arith) k
      ∙ ap (λ (b : Bool). get_or (cond b (named_region x) (replicate region_words 0)) i 0) (lt-ltb x n h)

  sub_word : (x s i : ℕ) → x < n → n ≤ most_regions → s < 2 → i < subregion_words
      → get_or (guard_words (named_guard n)) (head_words + sub x s + i) 0 ≡ get_or (named_sub x s) i 0
  sub_word x s i h l t k =
      let e : head_words + sub x s + i ≡ head_words + base x + (base_words + (subregion_words * s + i)) = omega arith in
      ap (λ (q : ℕ). get_or (guard_words (named_guard n)) q 0) e
      ∙ region-at x (base_words + (subregion_words * s + i)) h l (omega arith) ∙ sub_at x s i t k

  -- of one with as many base regions, or more
  guard-has : (k : ℕ) → k ≤ n → n ≤ most_regions → risaf-named.Has k (named_guard n)
  unfolding named_guard named_region named_sub row_of of_head of_base of_sub
  guard-has k m t (OfHead Cr) placed = λ j l h. h
  guard-has k m t (OfHead Iasr) placed = λ j l h. h
  guard-has k m t (OfHead Iacr) placed = λ j l h. h
  guard-has k m t (OfHead Iaesr) placed = λ j l h. h
  guard-has k m t (OfHead Iaddr) placed = λ j l h. h
  guard-has k m t (OfBase x Cfgr) h = within-is _ _ (region-at x 0 (omega arith) t (lit< tt))
  guard-has k m t (OfBase x Start) h = within-is _ _ (region-at x start_at (omega arith) t (lit< tt))
  guard-has k m t (OfBase x End) h = within-is _ _ (region-at x end_at (omega arith) t (lit< tt))
  guard-has k m t (OfBase x Cidcfgr) h = within-is _ _ (region-at x cidcfgr_at (omega arith) t (lit< tt))
  guard-has k m t (OfSub x s SubCfgr) (h, l) = within-is _ _ (sub_word x s 0 (omega arith) t l (lit< tt))
  guard-has k m t (OfSub x s SubStart) (h, l) = within-is _ _ (sub_word x s start_at (omega arith) t l (lit< tt))
  guard-has k m t (OfSub x s SubEnd) (h, l) = within-is _ _ (sub_word x s end_at (omega arith) t l (lit< tt))
  guard-has k m t (OfSub x s Nest) (h, l) = within-is _ _ (sub_word x s nest_at (omega arith) t l (lit< tt))

map_at : {A B : Type 0} (f : A → B) (l : List A) (i : ℕ) (d : A) (e : B) → i < length l → get_or (map f l) i e ≡ f (get_or l i d)
map_at f [] i d e h = absurd (omega arith)
map_at f (x ∷ l) zero d e h = refl
map_at f (x ∷ l) (suc i) d e h = map_at f l i d e (omega arith)

pub guards-have : (n : ℕ) → risaf-named.Has (shape_of n).regions (guard_at named_state (shape_of n).place)
unfolding named_state
guards-have n =
    by-guard (λ (s : Shape). s.regions ≤ most_regions → risaf-named.Has s.regions (guard_at named_state s.place)) n
    (λ h. guard-has _ 0 (omega arith) (lit≤ tt))
    (λ i h q l. rw (map_at (λ (g : GuardRow). named_guard g.regions) guards i no_row (guard_from []) h) (guard-has _ _ (omega arith) l))
    (regions-most n)
