-- The words of some base regions, one after the other, among those of all: where no other covers an offset, they give the same rights there.
use mathlib.Core.Bool.{Bool, false, cond}
use mathlib.Core.List.{List}
use mathlib.Core.Path.{◌≡◌, sym, ap, ap₂, ◌∙◌}
use Prim.Native.Nat.{ℕ, zero, suc, ◌+◌, ◌≤◌, ◌<◌}
use native.Mathlib.Omega.{arith}
use lib.ListN.{get_or}
use Rattle.access.specs.declared.bus.Bus.{Bus}
use Rattle.regions.specs.Admits.{as_heard, by_masks, rights_from}
use Rattle.regions.specs.Masks.{Passed, base_gathered, masks, openings, sub_gathered, with_base, with_sub}
use Rattle.regions.specs.Rights.{rights_word}
use Rattle.regions.specs.Rules.{covers}
use Rattle.regions.specs.Words.{base, sub, start_at, end_at, cidcfgr_at}
use Rattle.regions.specs.declared.admits.Admits.{Admits}
use Rattle.regions.specs.declared.masks.Masks.{Masks}
use Rattle.regions.proofs.AdmitsTests.{masks-found}
use Rattle.regions.proofs.Found.{Ends, RegionEnds}
use Rattle.regions.proofs.Gathered.{masks-pass}
use Rattle.regions.proofs.Lies.{first, last}
use Rattle.regions.proofs.RightsBytes.{rights-admitted}

-- v has the words of k base regions of w, from base region low on
abbrev pub IsPart : List ℕ → ℕ → ℕ → List ℕ → Type 0
IsPart w low k v = (p : ℕ) → p < base k → get_or v p 0 ≡ get_or w (base low + p) 0

module _ (w : List ℕ) (low k : ℕ) (v : List ℕ) (is : IsPart w low k v) where
  -- the word at p, which is at q among those of all
  word_at : (p q : ℕ) → p < base k → base low + p ≡ q → get_or v p 0 ≡ get_or w q 0
  word_at p q h e = is p h ∙ ap (λ (i : ℕ). get_or w i 0) e

  -- START and END of the region or subregion there
  ends_at : (p q : ℕ) → p + end_at < base k → base low + p ≡ q → (first v p ≡ first w q) × (last v p ≡ last w q)
  ends_at p q h e = (word_at (p + start_at) (q + start_at) (omega arith) (omega arith), word_at (p + end_at) (q + end_at) h (omega arith))

  pub part-ends : (B : ℕ → Type 0) (x : ℕ) → x < k → RegionEnds B w (low + x) → RegionEnds B v x
  part-ends B x h r = (
    both (base x) (base (low + x)) (omega arith) (omega arith) r.0,
    both (sub x 0) (sub (low + x) 0) (omega arith) (omega arith) r.1,
    both (sub x 1) (sub (low + x) 1) (omega arith) (omega arith) r.2,
  )
    where
      both : (p q : ℕ) → p + end_at < base k → base low + p ≡ q → Ends B w q → Ends B v p
      both p q l e b = let a = ends_at p q l e in (rw a.0 b.0, rw a.1 b.1)

  covers_at : (p q o : ℕ) → p + end_at < base k → base low + p ≡ q → covers v p o ≡ covers w q o
  covers_at p q o h e = let a = ends_at p q h e in rw (word_at p q (omega arith) e, a.0, a.1)

  part-sub : (o x s : ℕ) (m : Masks) → x < k → s < 2 → sub_gathered false openings v x s o m ≡ sub_gathered false openings w (low + x) s o m
  unfolding sub_gathered
  part-sub o x s m h l =
      ap₂ (λ (c : Bool) (r : Masks). cond c r m) (covers_at (sub x s) (sub (low + x) s) o (omega arith) (omega arith))
      (ap₂ (λ (b i : ℕ). with_sub false b i (openings i) m) (word_at (base x) (base (low + x)) (omega arith) (omega arith))
      (word_at (sub x s) (sub (low + x) s) (omega arith) (omega arith)))

  part-gathered : (o x : ℕ) (m : Masks) → x < k → base_gathered false openings v x o m ≡ base_gathered false openings w (low + x) o m
  unfolding base_gathered
  part-gathered o x m h =
      let own =
      ap₂ (λ (a b : ℕ). with_base a b m) (word_at (base x) (base (low + x)) (omega arith) (omega arith))
      (word_at (base x + cidcfgr_at) (base (low + x) + cidcfgr_at) (omega arith) (omega arith)) in
      let first = part-sub o x 0 _ h (omega arith) ∙ ap (sub_gathered false openings w (low + x) 0 o) own in
      ap₂ (λ (c : Bool) (r : Masks). cond c r m) (covers_at (base x) (base (low + x)) o (omega arith) (omega arith))
      (part-sub o x 1 _ h (omega arith) ∙ ap (sub_gathered false openings w (low + x) 1 o) first)

  part-masks : (o j : ℕ) → Passed w o 0 low → j ≤ k → masks false openings v j o ≡ masks false openings w (low + j) o
  unfolding masks
  part-masks o zero below h =
      let e : low + 0 ≡ low = omega arith in
      masks-pass false openings w o 0 low (omega arith) below ∙ ap (λ (i : ℕ). masks false openings w i o) (sym e)
  part-masks o (suc j) below h =
      let e : suc (low + j) ≡ low + suc j = omega arith in
      part-gathered o j (masks false openings v j o) (omega arith)
      ∙ ap (base_gathered false openings w (low + j) o) (part-masks o j below (omega arith))
      ∙ ap (λ (i : ℕ). masks false openings w i o) e

  pub rights-part : (bus : Bus) (n o : ℕ) → low + k ≤ n → Passed w o 0 low → Passed w o (low + k) n
      → rights_word bus v k o ≡ rights_word bus w n o
  rights-part bus n o h below past =
      let e = part-masks o k below (omega arith) ∙ masks-pass false openings w o (low + k) n h past in
      sym (rights-admitted bus v k o)
      ∙ ap (λ (a : Admits). rights_from (as_heard bus a) 0 64)
      (sym (masks-found bus v k o) ∙ ap (by_masks bus) e ∙ masks-found bus w n o)
      ∙ rights-admitted bus w n o
