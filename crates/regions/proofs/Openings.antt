-- What the subregions that count open: who may read, who may write, and whether there are any.
use mathlib.Core.Bool.{Bool, true, false, not, ◌&&◌, ◌||◌, cond, beq, not-not, and-true, or-true, or-false}
use mathlib.Core.List.{List}
use mathlib.Core.Path.{◌≡◌, refl, sym, ap, ap₂, ◌∙◌}
use Prim.Native.Nat.{ℕ, zero, suc, ◌+◌, ◌*◌, ◌/◌, ◌%◌, ◌^◌, ◌<◌}
use native.Mathlib.Decide.{dec_lt}
use native.Mathlib.Omega.{arith}
use lib.Bits.{bit_or, or_shr, or_mod, or_add_and, and_le_l, and_le_r}
use lib.Dec.{eqb}
use lib.ListN.{get_or}
use borrow.Author.Tests.{eqb-true, eqb-false, eq-eqb, ne_eqb}
use Rattle.words.specs.Bit.{bit, one, field}
use Rattle.words.proofs.Laws.{bit-zero, bit-pow, bit-field, field_lt, field_past, one_bit}
use Rattle.words.proofs.Ops.{bit-or}
use Rattle.access.specs.Fold.{all}
use Rattle.access.proofs.Folds.{any_same}
use Rattle.regions.specs.Words.{sub, srcid_bit, rden_bit, wren_bit, read_bit, write_bit}
use Rattle.regions.specs.Rules.{covers, counts, srcid, some_sub, counted}
use Rattle.regions.specs.Masks.{masks, sub_gathered, opening, openings}
use Rattle.regions.specs.Admits.{with_debugger}
use Rattle.regions.specs.declared.masks.Masks.{Masks}
use Rattle.regions.proofs.MaskBits.{ap-cond, or-cond, some-sub}

-- ---- one subregion, by a test that computes

-- opening, of the two enables
abbrev opened : Bool → Bool → ℕ → ℕ
opened reads writes i = (one reads + 0x100 + one writes * 0x1_0000) * 2 ^ i % 2 ^ 32

opened-is : (cfgr i : ℕ) → opening cfgr i ≡ opened (bit cfgr rden_bit) (bit cfgr wren_bit) i
unfolding opening
opened-is cfgr i = ap₂ (λ (r w : ℕ). (r + 0x100 + w * 0x1_0000) * 2 ^ i % 2 ^ 32) (sym (one_bit cfgr rden_bit)) (sym (one_bit cfgr wren_bit))

-- of the compartments from bit `at` it has that of SRCID i alone, and that where the enable b is 1
abbrev srcid_alone : ℕ → Bool → ℕ → ℕ → ℕ → Bool
srcid_alone at b x i c = beq (bit (field x at 8) c) (eqb i c && b)

abbrev none_unless : ℕ → Bool → ℕ → Bool
none_unless at b x = beq (eqb (field x at 8) 0) (not b)

abbrev right : ℕ → Bool → ℕ → ℕ → Bool
right at b x i = all 8 (srcid_alone at b x i) && none_unless at b x

abbrev right_at : Bool → Bool → ℕ → Bool
right_at r w i = right (read_bit 0) r (opened r w i) i && right (write_bit 0) w (opened r w i) i && not (eqb (opened r w i) 0)

all_right : (r w : Bool) → all 8 (right_at r w) ≡ true
all_right true true = refl
all_right true false = refl
all_right false true = refl
all_right false false = refl

pub and_left : (a b : Bool) → (a && b) ≡ true → a ≡ true
and_left true b e = refl
and_left false b e = e

pub and_right : (a b : Bool) → (a && b) ≡ true → b ≡ true
and_right true b e = e
and_right false b e = cc

pub all-at : (n : ℕ) (p : ℕ → Bool) → all n p ≡ true → (x : ℕ) → x < n → p x ≡ true
all-at zero p e x h = absurd (omega arith)
all-at (suc n) p e x h = go (dec_lt x n) (all-at n p (and_left (all n p) (p n) e) x)
  where
    go : Dec (x < n) → (x < n → p x ≡ true) → p x ≡ true
    go (yes l) below = below l
    go (no r) below =
        let q : x ≡ n = omega arith in
        ap p q ∙ and_right (all n p) (p n) e

pub beq-is : (a b : Bool) → beq a b ≡ true → a ≡ b
beq-is true true e = refl
beq-is true false e = cc
beq-is false true e = cc
beq-is false false e = refl

abbrev Right : ℕ → Bool → ℕ → ℕ → Type 0
Right at b x i = ((c : ℕ) → c < 8 → bit (field x at 8) c ≡ (eqb i c && b)) × (eqb (field x at 8) 0 ≡ not b)

right_is : (at : ℕ) (b : Bool) (x i : ℕ) → right at b x i ≡ true → Right at b x i
right_is at b x i e =
    let alone = and_left (all 8 (srcid_alone at b x i)) (none_unless at b x) e in (
      λ c h. beq-is (bit (field x at 8) c) (eqb i c && b) (all-at 8 (srcid_alone at b x i) alone c h),
      beq-is (eqb (field x at 8) 0) (not b) (and_right (all 8 (srcid_alone at b x i)) (none_unless at b x) e),
    )

module _ (w : List ℕ) (x s : ℕ) where
  abbrev cfgr : ℕ
  cfgr = get_or w (sub x s) 0

  abbrev id : ℕ
  id = (srcid w x s).0

  abbrev its : ℕ
  its = opened (bit cfgr rden_bit) (bit cfgr wren_bit) id

  abbrev reads_right : Bool
  reads_right = right (read_bit 0) (bit cfgr rden_bit) its id

  abbrev writes_right : Bool
  writes_right = right (write_bit 0) (bit cfgr wren_bit) its id

  here : right_at (bit cfgr rden_bit) (bit cfgr wren_bit) id ≡ true
  here = all-at 8 (right_at (bit cfgr rden_bit) (bit cfgr wren_bit)) (all_right (bit cfgr rden_bit) (bit cfgr wren_bit)) id (field_lt cfgr srcid_bit 3)

  pub reads-right : Right (read_bit 0) (bit cfgr rden_bit) (opening cfgr id) id
  reads-right =
      rw (opened-is cfgr id)
      (right_is (read_bit 0) (bit cfgr rden_bit) its id
      (and_left reads_right writes_right (and_left (reads_right && writes_right) (not (eqb its 0)) here)))

  pub writes-right : Right (write_bit 0) (bit cfgr wren_bit) (opening cfgr id) id
  writes-right =
      rw (opened-is cfgr id)
      (right_is (write_bit 0) (bit cfgr wren_bit) its id
      (and_right reads_right writes_right (and_left (reads_right && writes_right) (not (eqb its 0)) here)))

  some_right : not (eqb (opening cfgr id) 0) ≡ true
  some_right = rw (opened-is cfgr id) (and_right (reads_right && writes_right) (not (eqb its 0)) here)

-- ---- all that count

or_some : (a b : ℕ) → not (eqb (bit_or a b) 0) ≡ (not (eqb a 0) || not (eqb b 0))
or_some a b = go (eqb a 0) refl (eqb b 0) refl
  where
    go : (p : Bool) → eqb a 0 ≡ p → (q : Bool) → eqb b 0 ≡ q → not (eqb (bit_or a b) 0) ≡ (not p || not q)
    go true e true f =
        ap not (eq-eqb (bit_or a b) 0 (omega (arith, or_add_and a b, eqb-true a 0 e, eqb-true b 0 f)))
    go true e false f =
        ap not (ne_eqb (bit_or a b) 0 (λ z. eqb-false b 0 f (omega (arith, z, or_add_and a b, and_le_l a b))))
    go false e q f = ap not (ne_eqb (bit_or a b) 0 (λ z. eqb-false a 0 e (omega (arith, z, or_add_and a b, and_le_r a b))))

field-or : (a b at : ℕ) → field (bit_or a b) at 8 ≡ bit_or (field a at 8) (field b at 8)
field-or a b at = ap (λ (d : ℕ). d % 2 ^ 8) (or_shr a b at) ∙ or_mod (a / 2 ^ at) (b / 2 ^ at) 8

pub some_same : (w : List ℕ) (n o : ℕ) (p q : ℕ → ℕ → Bool) → ((x s : ℕ) → p x s ≡ q x s) → some_sub w n o p ≡ some_sub w n o q
some_same w n o p q e =
    any_same n _ _ (λ x h. any_same 2 _ _ (λ s l. ap (λ (b : Bool). counts w o x s && b) (e x s)))

pub counted_is : (w : List ℕ) (n o : ℕ) → not (eqb (masks false openings w n o).opens 0) ≡ counted w n o
unfolding masks sub_gathered
counted_is w n o =
    some-sub false openings w o (λ m. not (eqb m.opens 0)) (λ x s. true) (λ x m. refl) refl
    (λ x s m.
    ap-cond (λ (l : Masks). not (eqb l.opens 0)) (covers w (sub x s) o) _ m
    ∙ ap (λ (b : Bool). cond (covers w (sub x s) o) b (not (eqb m.opens 0)))
    (or_some m.opens _ ∙ ap (λ (b : Bool). not (eqb m.opens 0) || b) (some_right w x s))
    ∙ or-cond (covers w (sub x s) o) (not (eqb m.opens 0)) true) n
    ∙ any_same n _ _ (λ x h. any_same 2 _ _ (λ s l. and-true (counts w o x s)))

-- CID 7 is one of them where there are any
debugger-bit : (x c : ℕ) → bit (with_debugger x) c ≡ cond (eqb c 7) (not (eqb x 0)) (bit x c)
unfolding with_debugger
debugger-bit x c = go (eqb x 0) refl (eqb c 7) refl
  where
    go : (p : Bool) → eqb x 0 ≡ p → (q : Bool) → eqb c 7 ≡ q → bit (cond p 0 (bit_or x 0x80)) c ≡ cond q (not p) (bit x c)
    go true e true f = bit-zero c
    go true e false f = ap (λ (y : ℕ). bit y c) (sym (eqb-true x 0 e))
    go false e true f = bit-or x 0x80 c ∙ ap (λ (b : Bool). bit x c || b) (bit-pow 7 c ∙ f) ∙ or-true (bit x c)
    go false e false f = bit-or x 0x80 c ∙ ap (λ (b : Bool). bit x c || b) (bit-pow 7 c ∙ f) ∙ or-false (bit x c)

-- the compartments from bit `at`, which bit e of a subregion's CFGR enables
module _ (w : List ℕ) (o at e : ℕ) (own : (x s : ℕ) → Right at (bit (cfgr w x s) e) (opening (cfgr w x s) (id w x s)) (id w x s)) where
  more : (f : ℕ → Bool) (q : ℕ → ℕ → Bool) → ((a b : ℕ) → f (bit_or a b) ≡ (f a || f b))
      → ((x s : ℕ) → f (field (opening (cfgr w x s) (id w x s)) at 8) ≡ q x s) → f (field 0 at 8) ≡ false → (n : ℕ)
      → f (field (masks false openings w n o).opens at 8) ≡ some_sub w n o q
  unfolding masks sub_gathered
  more f q joins adds none n =
      some-sub false openings w o (λ m. f (field m.opens at 8)) q (λ x m. refl) none
      (λ x s m.
      ap-cond (λ (l : Masks). f (field l.opens at 8)) (covers w (sub x s) o) _ m
      ∙ ap (λ (b : Bool). cond (covers w (sub x s) o) b (f (field m.opens at 8)))
      (ap f (field-or m.opens _ at) ∙ joins (field m.opens at 8) _ ∙ ap (λ (b : Bool). f (field m.opens at 8) || b) (adds x s))
      ∙ or-cond (covers w (sub x s) o) (f (field m.opens at 8)) (q x s)) n

  any_open : (n : ℕ) → not (eqb (field (masks false openings w n o).opens at 8) 0) ≡ some_sub w n o (λ x s. bit (cfgr w x s) e)
  any_open n =
      more (λ y. not (eqb y 0)) (λ x s. bit (cfgr w x s) e) or_some (λ x s. ap not (own x s).1 ∙ not-not (bit (cfgr w x s) e))
      (ap (λ (y : ℕ). not (eqb y 0)) (field_past 0 0 at 8 (omega arith) (omega arith))) n

  srcid-open : (n c : ℕ) → c < 8
      → bit (field (masks false openings w n o).opens at 8) c ≡ some_sub w n o (λ x s. eqb (id w x s) c && bit (cfgr w x s) e)
  srcid-open n c h =
      more (λ y. bit y c) (λ x s. eqb (id w x s) c && bit (cfgr w x s) e) (λ a b. bit-or a b c) (λ x s. (own x s).0 c h)
      (bit-field 0 at 8 c h ∙ bit-zero (at + c)) n

  pub open-bit : (n c : ℕ) → c < 8
      → bit (with_debugger (field (masks false openings w n o).opens at 8)) c
      ≡ some_sub w n o (λ x s. (eqb (id w x s) c || eqb c 7) && bit (cfgr w x s) e)
  open-bit n c h = debugger-bit (field (masks false openings w n o).opens at 8) c ∙ go (eqb c 7)
    where
      go : (t : Bool)
          → cond t (not (eqb (field (masks false openings w n o).opens at 8) 0)) (bit (field (masks false openings w n o).opens at 8) c)
          ≡ some_sub w n o (λ x s. (eqb (id w x s) c || t) && bit (cfgr w x s) e)
      go true =
          any_open n
          ∙ some_same w n o _ _ (λ x s. ap (λ (t : Bool). t && bit (cfgr w x s) e) (sym (or-true (eqb (id w x s) c))))
      go false =
          srcid-open n c h
          ∙ some_same w n o _ _ (λ x s. ap (λ (t : Bool). t && bit (cfgr w x s) e) (sym (or-false (eqb (id w x s) c))))
