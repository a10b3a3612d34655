-- Which bits of which word of the state are named: document 01, "The rules read only the bits named here", "any other event changes named bits
-- alone". proofs/NamedBits has the two theorems.
use Rattle.std.specs.Prelude.{true, cond, List, [], ◌∷◌, ◌++◌, map, ◌≡◌, ℕ, zero, suc, ◌^◌, ◌<◌, ltb, get_or, replicate}
use Rattle.words.specs.Bit.{bit}
use Rattle.words.specs.Six.{bit_words}
use Rattle.regions.specs.Words.{most_regions, region_words}
use Rattle.rifsc.specs.Masters.{masters}
use Rattle.rifsc.specs.Registers as rifsc
use Rattle.rifsc.specs.declared.registers.Register.TheVariants.{Cr, Seccfgr, Privcfgr, Rcfglockr, Rimccr, Attr}
use Rattle.iac.specs.Registers as iac
use Rattle.iac.specs.declared.registers.Register.TheVariants.{Ier, Isr}
use Rattle.risaf.specs.Guards.{GuardRow, guards}
use Rattle.risaf.specs.Rows.{of_head, of_base, of_sub}
use Rattle.risaf.specs.declared.contents.Guard.{Guard}
use Rattle.risaf.specs.declared.registers.Head.TheVariants as head
use Rattle.risaf.specs.declared.registers.BaseField.TheVariants.{Cfgr, Start, End, Cidcfgr}
use Rattle.risaf.specs.declared.registers.SubField.TheVariants.{SubCfgr, SubStart, SubEnd, Nest}
use Rattle.device.specs.Layout.{joined, layout}
use Rattle.device.specs.State.{State}

-- f 0, f 1 and so on, n of them
abbrev pub firsts : {A : Type 0} → ℕ → (ℕ → A) → List A
firsts zero f = []
firsts (suc n) f = f 0 ∷ firsts n (λ i. f (suc i))

-- ---- a state whose words are masks: the column `named` of each word's register

unfoldable pub named_sub : ℕ → ℕ → List ℕ
named_sub x s = (of_sub x s SubCfgr).named ∷ (of_sub x s SubStart).named ∷ (of_sub x s SubEnd).named ∷ (of_sub x s Nest).named ∷ []

unfoldable pub named_region : ℕ → List ℕ
named_region x =
    ((of_base x Cfgr).named ∷ (of_base x Start).named ∷ (of_base x End).named ∷ (of_base x Cidcfgr).named ∷ [])
    ++ joined (firsts 2 (named_sub x))

-- of a guard with n base regions; no bit of a region past them is named
unfoldable pub named_guard : ℕ → Guard
named_guard n =
    record {
      cr = (of_head head.Cr).named;
      iasr = (of_head head.Iasr).named;
      iaesr = (of_head head.Iaesr).named;
      iaddr = (of_head head.Iaddr).named;
      regions = joined (firsts most_regions (λ x. cond (ltb x n) (named_region x) (replicate region_words 0)));
    }

unfoldable pub named_state : State
named_state =
    record {
      rifsc =
          record {
            cr = (rifsc.row_of Cr).named;
            seccfgr = firsts bit_words (λ x. (rifsc.row_of (Seccfgr x)).named);
            privcfgr = firsts bit_words (λ x. (rifsc.row_of (Privcfgr x)).named);
            rcfglockr = firsts bit_words (λ x. (rifsc.row_of (Rcfglockr x)).named);
            rimccr = (rifsc.row_of Rimccr).named;
            attr = firsts masters (λ m. (rifsc.row_of (Attr m)).named);
          };
      iac =
          record {
            ier = firsts bit_words (λ x. (iac.row_of (Ier x)).named);
            isr = firsts bit_words (λ x. (iac.row_of (Isr x)).named);
            -- the line is bit 0 of its word, the count bits 7:0 of its word (Q-4)
            line = 0x0000_0001;
            count = 0x0000_00ff;
          };
      guards = map (λ (g : GuardRow). named_guard g.regions) guards;
    }

-- the named bits of word i of the state's memory
unfoldable pub named_of : ℕ → ℕ
named_of i = get_or (layout named_state) i 0

-- ---- states compared

-- the named bits of every word are the same in both
abbrev pub Agree : List ℕ → List ℕ → Type 0
Agree m m' = (i j : ℕ) → j < 32 → bit (named_of i) j ≡ true → bit (get_or m i 0) j ≡ bit (get_or m' i 0) j

-- every word has 32 bits
abbrev pub Words32 : List ℕ → Type 0
Words32 m = (i : ℕ) → get_or m i 0 < 2 ^ 32
