-- The bits that the rules read of a guard's regions: two lists of words that have them alike get the same verdict.
use mathlib.Core.Bool.{◌&&◌}
use mathlib.Core.List.{List}
use mathlib.Core.Path.{◌≡◌, ap, ap₂, ◌∙◌}
use Prim.Native.Nat.{ℕ, ◌+◌, ◌≤◌, ◌<◌}
use native.Mathlib.Omega.{arith}
use lib.ListN.{get_or}
use Rattle.words.specs.Bit.{bit, field}
use Rattle.words.proofs.Laws.{field_lt}
use Rattle.access.specs.Bus.{heard}
use Rattle.access.specs.declared.bus.Bus.{Bus}
use Rattle.access.specs.declared.kind.Kind.{Kind}
use Rattle.access.proofs.Heard.{heard-cid}
use Rattle.regions.specs.Words.{start_at, end_at, cidcfgr_at, base, sub, enable_bit, sec_bit, privc_bit, srcid_bit, priv_bit, rden_bit, wren_bit, read_bit, write_bit}
use Rattle.regions.specs.Rules.{covers, counts, srcid, working_priv, decided}
use Rattle.regions.proofs.SameVerdict.{BaseSays, SubSays, same-verdict}

-- ---- the bits

-- bit k of the word at p is the same in both
abbrev SameBit : List ℕ → List ℕ → ℕ → ℕ → Type 0
SameBit w w' p k = bit (get_or w p 0) k ≡ bit (get_or w' p 0) k

-- of a region or subregion: the enable, and START and END, whole words
pub record Span (w w' : List ℕ) (p : ℕ) : Type 0 where
  pub enable : SameBit w w' p enable_bit
  pub start : get_or w (p + start_at) 0 ≡ get_or w' (p + start_at) 0
  pub last : get_or w (p + end_at) 0 ≡ get_or w' (p + end_at) 0

-- of subregion s of base region x
pub record Sub (w w' : List ℕ) (x s : ℕ) : Type 0 where
  pub span : Span w w' (sub x s)
  pub source : field (get_or w (sub x s) 0) srcid_bit 3 ≡ field (get_or w' (sub x s) 0) srcid_bit 3
  pub sec : SameBit w w' (sub x s) sec_bit
  pub priv : SameBit w w' (sub x s) priv_bit
  pub rden : SameBit w w' (sub x s) rden_bit
  pub wren : SameBit w w' (sub x s) wren_bit

-- of base region x, with its subregions; a compartment is below 8
pub record Region (w w' : List ℕ) (x : ℕ) : Type 0 where
  pub span : Span w w' (base x)
  pub sec : SameBit w w' (base x) sec_bit
  pub privc : (c : ℕ) → c < 8 → SameBit w w' (base x) (privc_bit c)
  pub reads : (c : ℕ) → c < 8 → SameBit w w' (base x + cidcfgr_at) (read_bit c)
  pub writes : (c : ℕ) → c < 8 → SameBit w w' (base x + cidcfgr_at) (write_bit c)
  pub subs : (s : ℕ) → s < 2 → Sub w w' x s

-- ---- the verdict

covers-same : {w w' : List ℕ} {p : ℕ} (o : ℕ) → Span w w' p → covers w p o ≡ covers w' p o
covers-same o r = rw (r.enable, r.start, r.last)

module _ (bus : Bus) {w w' : List ℕ} (n o : ℕ) (k : Kind) (cid : k.cid.0 ≤ 7) (same : (x : ℕ) → x < n → Region w w' x) where
  counts_same : (x : ℕ) → x < n → (s : ℕ) → s < 2 → counts w o x s ≡ counts w' o x s
  counts_same x h s l = ap₂ ◌&&◌ (covers-same o (same x h).span) (covers-same o ((same x h).subs s l).span)

  bases-same : (x : ℕ) → x < n → BaseSays w w' (heard bus k) x
  bases-same x h =
      let r = same x h in
      let c = (heard bus k).cid.0 in
      let l : c < 8 = omega (arith, heard-cid bus k cid) in
      (rw r.sec, rw (r.privc c l), rw (r.reads c l, r.writes c l))

  priv-same : (x : ℕ) → x < n → (s : ℕ) → s < 2 → working_priv w x s ≡ working_priv w' x s
  priv-same x h s l =
      let r = (same x h).subs s l in
      ap₂ ◌&&◌ r.priv
      ((same x h).privc (srcid w x s).0 (field_lt (get_or w (sub x s) 0) srcid_bit 3)
      ∙ ap (λ (c : ℕ). bit (get_or w' (base x) 0) (privc_bit c)) r.source)

  subs-same : (x : ℕ) → x < n → (s : ℕ) → s < 2 → SubSays w w' (heard bus k) x s
  subs-same x h s l =
      let r = (same x h).subs s l in
      (ap₂ ◌&&◌ r.sec (same x h).sec, priv-same x h s l, rw (r.source, r.wren, r.rden))

  pub decided-same : decided bus w n o k ≡ decided bus w' n o k
  decided-same = same-verdict bus w w' n o o k (λ x h. covers-same o (same x h).span) counts_same bases-same subs-same
