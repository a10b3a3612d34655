-- A memory access to a guard changes and reads named bits alone: g is a guard, G has a mask for each of its words.
use mathlib.Core.Bool.{Bool, true, false, cond}
use mathlib.Core.Path.{◌≡◌, refl, sym, ap, ◌∙◌}
use Prim.Native.Nat.{ℕ, ◌+◌, ◌<◌}
use native.Mathlib.Decide.{dec_lt}
use native.Mathlib.Nat.{zero-add}
use native.Mathlib.Omega.{arith}
use lib.Dec.{lit<}
use lib.ListN.{get_or}
use lib.Seq.{get_or-drop}
use Rattle.words.specs.Bit.{bit, merged}
use Rattle.words.proofs.Laws.{bit-ones, field-ext}
use Rattle.words.proofs.Alike.{Whole, Kept, Same, same_refl, kept-merged, same-merged, kept_set, same_set, field-full}
use Rattle.access.specs.Answer.{left}
use Rattle.access.specs.Bus.{heard}
use Rattle.access.specs.Kind.{debugger}
use Rattle.access.specs.declared.answer.Answer.{Answer}
use Rattle.access.specs.declared.answer.Answer.TheVariants.{Done, Refused, Rejected}
use Rattle.access.specs.declared.kind.Kind.{Kind}
use Rattle.regions.specs.Rules.{decided}
use Rattle.regions.specs.Words.{start_at, end_at, cidcfgr_at, base, sub, enable_bit, sec_bit, privc_bit, srcid_bit, priv_bit, rden_bit, wren_bit, read_bit, write_bit}
use Rattle.regions.proofs.NamedBits.{Sub, Region, decided-same}
use Rattle.risaf.specs.Contents.{head_words, guard_words}
use Rattle.risaf.specs.Memory.{memory_answer, iaesr_of, recorded_fault, faulted, memory_stepped}
use Rattle.risaf.specs.Rows.{PlacedIn, of_head, of_base, of_sub, row_of}
use Rattle.risaf.specs.declared.contents.Guard.{Guard}
use Rattle.risaf.specs.declared.guards.Shape.{Shape}
use Rattle.risaf.specs.declared.registers.Head.TheVariants.{Iasr, Iaesr, Iaddr}
use Rattle.risaf.specs.declared.registers.BaseField.TheVariants.{Cfgr, Start, End, Cidcfgr}
use Rattle.risaf.specs.declared.registers.SubField.TheVariants.{SubCfgr, SubStart, SubEnd}
use Rattle.risaf.specs.declared.registers.Register.{Register}
use Rattle.risaf.specs.declared.registers.Register.TheVariants.{OfHead, OfBase, OfSub}
use Rattle.risaf.proofs.MemoryAnswer.{answer-over}
use Rattle.risaf.proofs.NamedBits.{bit-same, whole_same}
use Rattle.risaf.proofs.NamedWords.{Alike, Has, whole-kept}

-- ---- a fault is recorded in named bits alone

module _ {n : ℕ} {G g : Guard} (has : Has n G) (own : Alike Kept G g g) (o : ℕ) (k : Kind) where
  faulted-kept : Alike Kept G (faulted g o k) g
  unfolding faulted recorded_fault row_of of_head
  faulted-kept =
      record {
        cr = own.cr;
        iasr = kept_set G.iasr g.iasr 1 (has (OfHead Iasr) tt 1 (lit< tt) refl);
        iaesr = iaesr (bit g.iasr 1);
        iaddr = iaddr (bit g.iasr 1);
        regions = own.regions;
      }
    where
      iaesr : (b : Bool) → Kept G.iaesr (cond b g.iaesr (merged 32 g.iaesr (iaesr_of k) (of_head Iaesr).named)) g.iaesr
      iaesr true = own.iaesr
      iaesr false = kept-merged _ G.iaesr g.iaesr (iaesr_of k) (has (OfHead Iaesr) tt)

      iaddr : (b : Bool) → Kept G.iaddr (cond b g.iaddr o) g.iaddr
      iaddr true = own.iaddr
      iaddr false = whole-kept _ G.iaddr o g.iaddr (bit-ones 32) (has (OfHead Iaddr) tt)

module _ {n : ℕ} {G g g' : Guard} (has : Has n G) (same : Alike Same G g g') where
  faulted-same : (o : ℕ) (k : Kind) → Alike Same G (faulted g o k) (faulted g' o k)
  unfolding faulted recorded_fault row_of of_head
  faulted-same o k =
      let iaef : bit g.iasr 1 ≡ bit g'.iasr 1 = bit-same has same (OfHead Iasr) tt 1 (lit< tt) refl in
      record {
        cr = same.cr;
        iasr = same_set G.iasr g.iasr g'.iasr 1 same.iasr;
        iaesr = rw iaef (iaesr (bit g'.iasr 1));
        iaddr = rw iaef (iaddr (bit g'.iasr 1));
        regions = same.regions;
      }
    where
      iaesr : (b : Bool)
          → Same G.iaesr (cond b g.iaesr (merged 32 g.iaesr (iaesr_of k) (of_head Iaesr).named))
          (cond b g'.iaesr (merged 32 g'.iaesr (iaesr_of k) (of_head Iaesr).named))
      iaesr true = same.iaesr
      iaesr false = same-merged _ G.iaesr g.iaesr g'.iaesr (iaesr_of k) same.iaesr

      iaddr : (b : Bool) → Same G.iaddr (cond b g.iaddr o) (cond b g'.iaddr o)
      iaddr true = same.iaddr
      iaddr false = same_refl G.iaddr o

  -- ---- the rules read named bits alone

  -- the word at p among the regions' is a register's
  module _ (reg : Register) (placed : PlacedIn n reg) (p : ℕ) (e : head_words + p ≡ (row_of reg).place) where
    region-word : (t : Guard) → get_or t.regions p 0 ≡ get_or (guard_words t) (row_of reg).place 0
    region-word t = get_or-drop head_words (guard_words t) p 0 ∙ ap (λ (i : ℕ). get_or (guard_words t) i 0) e

    region-bit : (j : ℕ) → j < 32 → bit (row_of reg).named j ≡ true → bit (get_or g.regions p 0) j ≡ bit (get_or g'.regions p 0) j
    region-bit j l h =
        ap (λ (w : ℕ). bit w j) (region-word g) ∙ bit-same has same reg placed j l h ∙ sym (ap (λ (w : ℕ). bit w j) (region-word g'))

    region-whole : Whole (row_of reg).named → get_or g.regions p 0 ≡ get_or g'.regions p 0
    region-whole all = region-word g ∙ whole_same has same reg placed all ∙ sym (region-word g')

  sub_read : (x s : ℕ) → x < n → s < 2 → Sub g.regions g'.regions x s
  unfolding row_of of_sub
  sub_read x s h l =
      let cfgr = region-bit (OfSub x s SubCfgr) (h, l) (sub x s) (omega arith) in
      record {
        span =
            record {
              enable = cfgr enable_bit (lit< tt) refl;
              start = region-whole (OfSub x s SubStart) (h, l) (sub x s + start_at) (omega arith) (bit-ones 32);
              last = region-whole (OfSub x s SubEnd) (h, l) (sub x s + end_at) (omega arith) (bit-ones 32);
            };
        source = field-ext _ _ srcid_bit 3 (λ k i. cfgr (srcid_bit + k) (omega arith) (field-full _ srcid_bit 3 refl k i));
        sec = cfgr sec_bit (lit< tt) refl;
        priv = cfgr priv_bit (lit< tt) refl;
        rden = cfgr rden_bit (lit< tt) refl;
        wren = cfgr wren_bit (lit< tt) refl;
      }

  region-read : (x : ℕ) → x < n → Region g.regions g'.regions x
  unfolding row_of of_base
  region-read x h =
      let cfgr = region-bit (OfBase x Cfgr) h (base x) (omega arith) in
      let cidcfgr = region-bit (OfBase x Cidcfgr) h (base x + cidcfgr_at) (omega arith) in
      record {
        span =
            record {
              enable = cfgr enable_bit (lit< tt) refl;
              start = region-whole (OfBase x Start) h (base x + start_at) (omega arith) (bit-ones 32);
              last = region-whole (OfBase x End) h (base x + end_at) (omega arith) (bit-ones 32);
            };
        sec = cfgr sec_bit (lit< tt) refl;
        privc = λ c i. cfgr (privc_bit c) (omega arith) (field-full _ 16 8 refl c i);
        reads = λ c i. cidcfgr (read_bit c) (omega arith) (rw zero-add at (field-full (of_base x Cidcfgr).named 0 8 refl c i));
        writes = λ c i. cidcfgr (write_bit c) (omega arith) (field-full _ 16 8 refl c i);
        subs = λ s l. sub_read x s h l;
      }

-- a CID over 7 is rejected before the rules are asked
answer-same : {G g g' : Guard} (there : Bool) (shape : Shape) (o width : ℕ) (k : Kind) → Has shape.regions G → Alike Same G g g'
    → memory_answer there shape o width k (decided shape.bus g.regions shape.regions o k)
    ≡ memory_answer there shape o width k (decided shape.bus g'.regions shape.regions o k)
answer-same {G} {g} {g'} there shape o width k has same = go (dec_lt debugger.0 k.cid.0)
  where
    go : Dec (debugger.0 < k.cid.0)
        → memory_answer there shape o width k (decided shape.bus g.regions shape.regions o k)
        ≡ memory_answer there shape o width k (decided shape.bus g'.regions shape.regions o k)
    go (yes l) = answer-over there shape o width k _ l ∙ sym (answer-over there shape o width k _ l)
    go (no r) = ap (memory_answer there shape o width k) (decided-same shape.bus shape.regions o k (omega arith) (region-read has same))

-- ---- a memory access

pub memory_kept : {G g : Guard} (there : Bool) (shape : Shape) (o width : ℕ) (k : Kind) → Has shape.regions G → Alike Kept G g g
    → Alike Kept G (memory_stepped there shape g o width k).next g
unfolding memory_stepped
memory_kept {G} {g} there shape o width k has own =
    go (memory_answer there shape o width k (decided shape.bus g.regions shape.regions o k))
  where
    go : (a : Answer) → Alike Kept G (left a g g (faulted g o (heard shape.bus k))) g
    go (Done v) = own
    go (Refused v) = faulted-kept has own o (heard shape.bus k)
    go (Rejected why) = own

pub memory-same : {G g g' : Guard} (there : Bool) (shape : Shape) (o width : ℕ) (k : Kind) → Has shape.regions G → Alike Same G g g'
    → ((memory_stepped there shape g o width k).answer ≡ (memory_stepped there shape g' o width k).answer)
    × Alike Same G (memory_stepped there shape g o width k).next (memory_stepped there shape g' o width k).next
unfolding memory_stepped
memory-same {G} {g} {g'} there shape o width k has same =
    let e = answer-same there shape o width k has same in
    (e, rw e (go (memory_answer there shape o width k (decided shape.bus g'.regions shape.regions o k))))
  where
    go : (a : Answer) → Alike Same G (left a g g (faulted g o (heard shape.bus k))) (left a g' g' (faulted g' o (heard shape.bus k)))
    go (Done v) = same
    go (Refused v) = faulted-same has same o (heard shape.bus k)
    go (Rejected why) = same
