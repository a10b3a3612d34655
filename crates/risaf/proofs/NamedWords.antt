-- Guards compared word by word, with a mask for each word, and the words that a write leaves.
use mathlib.Core.Bool.{Bool, not, ◌&&◌, ◌||◌, cond, true≢false, and-true, or-false}
use mathlib.Core.List.{List}
use mathlib.Core.Path.{◌≡◌, sym, ap, ap₂, ◌∙◌}
use Prim.Native.Nat.{ℕ}
use lib.Dec.{eqb}
use lib.ListN.{get_or}
use Rattle.words.specs.Bit.{bit}
use Rattle.words.proofs.Laws.{bit-ones}
use Rattle.words.proofs.Alike.{Within, Whole, Kept, Same, within-not, kept_refl, same_refl, kept_word, same_word, kept-merged, same-merged, Each, more, each-get, each_set, each-drop}
use Rattle.regions.specs.Words.{sec_bit}
use Rattle.risaf.specs.Contents.{cr_at, iasr_at, iaesr_at, iaddr_at, head_words, guard_words, guard_from, with_word}
use Rattle.risaf.specs.Rows.{PlacedIn, of_head, of_base, of_sub, row_of}
use Rattle.risaf.specs.Port.{bit_if, subcfgr_written, word_in}
use Rattle.risaf.specs.declared.contents.Guard.{Guard}
use Rattle.risaf.specs.declared.port.Port.{Port}
use Rattle.risaf.specs.declared.rows.Form.{Form}
use Rattle.risaf.specs.declared.rows.Form.TheVariants as form
use Rattle.risaf.specs.declared.registers.Head.TheVariants.{Cr, Iasr, Iacr, Iaesr, Iaddr}
use Rattle.risaf.specs.declared.registers.BaseField.TheVariants.{Cfgr, Start, End, Cidcfgr}
use Rattle.risaf.specs.declared.registers.SubField.TheVariants.{SubCfgr, SubStart, SubEnd, Nest}
use Rattle.risaf.specs.declared.registers.Register.{Register}
use Rattle.risaf.specs.declared.registers.Register.TheVariants.{OfHead, OfBase, OfSub}

-- ---- guards compared word by word

pub record Alike (R : ℕ → ℕ → ℕ → Type 0) (G g g' : Guard) : Type 0 where
  pub cr : R G.cr g.cr g'.cr
  pub iasr : R G.iasr g.iasr g'.iasr
  pub iaesr : R G.iaesr g.iaesr g'.iaesr
  pub iaddr : R G.iaddr g.iaddr g'.iaddr
  pub regions : Each R G.regions g.regions g'.regions

module _ {R : ℕ → ℕ → ℕ → Type 0} where
  pub words-alike : {G g g' : Guard} → Alike R G g g' → Each R (guard_words G) (guard_words g) (guard_words g')
  words-alike r = more r.cr (more r.iasr (more r.iaesr (more r.iaddr r.regions)))

  pub from-alike : {w u u' : List ℕ} → R 0 0 0 → Each R w u u' → Alike R (guard_from w) (guard_from u) (guard_from u')
  from-alike z r =
      record {
        cr = each-get r z cr_at;
        iasr = each-get r z iasr_at;
        iaesr = each-get r z iaesr_at;
        iaddr = each-get r z iaddr_at;
        regions = each-drop r head_words;
      }

  -- with another word at a place
  pub word-alike : {G g g' : Guard} {v v' : ℕ} (place : ℕ) → R 0 0 0 → Alike R G g g' → R (get_or (guard_words G) place 0) v v'
      → Alike R G (with_word g place v) (with_word g' place v')
  unfolding with_word
  word-alike place z r e = from-alike z (each_set (words-alike r) place 0 e)

-- G has every named bit of the registers of n base regions
abbrev pub Has : ℕ → Guard → Type 0
Has n G = (reg : Register) → PlacedIn n reg → Within (row_of reg).named (get_or (guard_words G) (row_of reg).place 0)

-- ---- the word that a write leaves

-- of START and END all bits are named
abbrev WholeIn : Form → ℕ → Type 0
WholeIn form.GranuleStart named = Whole named
WholeIn form.GranuleEnd named = Whole named
WholeIn form.Kept named = Unit {0}
WholeIn form.Taken named = Unit {0}
WholeIn form.SetByOne named = Unit {0}
WholeIn form.ClearedByOne named = Unit {0}
WholeIn form.SubregionCfgr named = Unit {0}

pub row-whole : (reg : Register) → WholeIn (row_of reg).form (row_of reg).named
unfolding row_of of_head of_base of_sub
row-whole (OfHead Cr) = tt
row-whole (OfHead Iasr) = tt
row-whole (OfHead Iacr) = tt
row-whole (OfHead Iaesr) = tt
row-whole (OfHead Iaddr) = tt
row-whole (OfBase x Cfgr) = tt
row-whole (OfBase x Start) = bit-ones 32
row-whole (OfBase x End) = bit-ones 32
row-whole (OfBase x Cidcfgr) = tt
row-whole (OfSub x s SubCfgr) = tt
row-whole (OfSub x s SubStart) = bit-ones 32
row-whole (OfSub x s SubEnd) = bit-ones 32
row-whole (OfSub x s Nest) = tt

-- then there is nothing to keep
pub whole-kept : (named mask x y : ℕ) → Whole named → Within named mask → Kept mask x y
whole-kept named mask x y all within j l h = absurd (true≢false (sym (within j l (all j l)) ∙ h))

module _ (granule named mask value : ℕ) (secure : Bool) where
  pub word_kept : (f : Form) (p : Port) → WholeIn f named → Within named mask → Kept mask (word_in f granule named p value secure) p.word
  unfolding word_in subcfgr_written
  word_kept form.Kept p all within = kept_refl mask p.word
  word_kept form.Taken p all within = kept-merged named mask p.word value within
  word_kept form.SetByOne p all within =
      kept_word mask p.word _
      (λ j l h. ap (λ (b : Bool). bit p.word j || b && bit value j) (within-not named mask within j l h) ∙ or-false (bit p.word j))
  word_kept form.ClearedByOne p all within =
      kept_word mask p.word _
      (λ j l h. ap (λ (b : Bool). bit p.word j && not (b && bit value j)) (within-not named mask within j l h) ∙ and-true (bit p.word j))
  word_kept form.GranuleStart p all within = whole-kept named mask _ _ all within
  word_kept form.GranuleEnd p all within = whole-kept named mask _ _ all within
  word_kept form.SubregionCfgr p all within =
      kept_word mask p.word _
      (λ j l h.
      ap (λ (b : Bool). cond (b && (p.glock || not (eqb j 1)) && (secure || not (eqb j sec_bit))) (bit value j) (bit p.word j))
      (within-not named mask within j l h))

  pub word_same : (f : Form) (p p' : Port) → p.glock ≡ p'.glock → Same mask p.word p'.word
      → Same mask (word_in f granule named p value secure) (word_in f granule named p' value secure)
  unfolding word_in subcfgr_written
  word_same form.Kept p p' e r = r
  word_same form.Taken p p' e r = same-merged named mask p.word p'.word value r
  word_same form.SetByOne p p' e r =
      same_word mask _ _ (λ j l h. ap (λ (b : Bool). b || bit named j && bit value j) (r.bits j l h))
  word_same form.ClearedByOne p p' e r =
      same_word mask _ _ (λ j l h. ap (λ (b : Bool). b && not (bit named j && bit value j)) (r.bits j l h))
  word_same form.GranuleStart p p' e r = same_refl mask _
  word_same form.GranuleEnd p p' e r = same_refl mask _
  word_same form.SubregionCfgr p p' e r =
      same_word mask _ _
      (λ j l h.
      ap₂ (λ (a b : Bool). cond (bit_if named 1 a j && (secure || not (eqb j sec_bit))) (bit value j) b) e (r.bits j l h))
