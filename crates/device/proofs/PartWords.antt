-- The registers of the controller and of the IAC in lent words: one word of one part stored.
use mathlib.Core.List.{List, [], ◌∷◌}
use mathlib.Core.Path.{◌≡◌, sym, ap, ◌∙◌}
use Prim.Native.Nat.{ℕ, ◌<◌}
use native.Mathlib.Omega.{arith}
use borrow.Rule.Slice.PartMut.{put_mid}
use lib.ListN.{length, length-set, take, drop, get_or, set}
use Rattle.rifsc.specs.Contents.{with_stored}
use Rattle.iac.specs.Contents as iac
use Rattle.iac.specs.declared.registers.Register.TheVariants.{Ier, Icr}
use Rattle.rifsc.specs.declared.registers.Register.TheVariants.{Cr, Seccfgr, Privcfgr, Rcfglockr, Rimccr, Attr}
use Rattle.device.specs.Layout.{place_in, parts_of, head_sizes, state_words, cr_part, seccfgr_part, privcfgr_part, rcfglockr_part, rimccr_part, attr_part, ier_part, isr_part, state_of}
use Rattle.device.specs.State.{with_iac, with_rifsc}
use Rattle.device.proofs.Parts.{part_length}
use Rattle.device.proofs.StateLayout.{Heads, heads-none, heads-copied, heads-state, head-part}

-- word x of part k stored, where the part has one
pub heads-set : {m ys : List ℕ} (k x v : ℕ) → length m ≡ state_words → k < length head_sizes
    → ys ≡ set (take (get_or head_sizes k 0) (drop (place_in head_sizes k) m)) x v
    → Heads m (set (parts_of head_sizes m) k (set (get_or (parts_of head_sizes m) k []) x v))
    (put_mid (place_in head_sizes k) (get_or head_sizes k 0) m ys)
heads-set {m} k x v h l e =
    heads-copied k (set (get_or (parts_of head_sizes m) k []) x v) l (length-set _ x v ∙ part_length head_sizes m k l (omega arith))
    (e ∙ ap (λ (p : List ℕ). set p x v) (sym (head-part m k l))) (heads-none m h)

-- ---- by register

-- m' is m with v for word x of part k
abbrev OfPart : List ℕ → List ℕ → ℕ → ℕ → ℕ → Type 0
OfPart m m' x v k = Heads m (set (parts_of head_sizes m) k (set (get_or (parts_of head_sizes m) k []) x v)) m'

module _ {m m' : List ℕ} (x v : ℕ) where
  pub seccfgr-stored : OfPart m m' x v seccfgr_part → state_of m' ≡ with_rifsc (state_of m) (with_stored (state_of m).rifsc (Seccfgr x) v)
  unfolding state_of parts_of with_stored
  seccfgr-stored s = heads-state s

  pub privcfgr-stored : OfPart m m' x v privcfgr_part → state_of m' ≡ with_rifsc (state_of m) (with_stored (state_of m).rifsc (Privcfgr x) v)
  unfolding state_of parts_of with_stored
  privcfgr-stored s = heads-state s

  pub rcfglockr-stored : OfPart m m' x v rcfglockr_part → state_of m' ≡ with_rifsc (state_of m) (with_stored (state_of m).rifsc (Rcfglockr x) v)
  unfolding state_of parts_of with_stored
  rcfglockr-stored s = heads-state s

  pub attr-stored : OfPart m m' x v attr_part → state_of m' ≡ with_rifsc (state_of m) (with_stored (state_of m).rifsc (Attr x) v)
  unfolding state_of parts_of with_stored
  attr-stored s = heads-state s

  pub ier-stored : OfPart m m' x v ier_part → state_of m' ≡ with_iac (state_of m) (iac.with_word (state_of m).iac (Ier x) v)
  unfolding state_of parts_of iac.with_word
  ier-stored s = heads-state s

  pub isr-stored : OfPart m m' x v isr_part → state_of m' ≡ with_iac (state_of m) (iac.with_word (state_of m).iac (Icr x) v)
  unfolding state_of parts_of iac.with_word
  isr-stored s = heads-state s

module _ {m m' : List ℕ} (v : ℕ) where
  pub cr-stored : Heads m (set (parts_of head_sizes m) cr_part (v ∷ [])) m' → state_of m' ≡ with_rifsc (state_of m) (with_stored (state_of m).rifsc Cr v)
  unfolding state_of parts_of with_stored
  cr-stored s = heads-state s

  pub rimccr-stored : Heads m (set (parts_of head_sizes m) rimccr_part (v ∷ [])) m'
      → state_of m' ≡ with_rifsc (state_of m) (with_stored (state_of m).rifsc Rimccr v)
  unfolding state_of parts_of with_stored
  rimccr-stored s = heads-state s
