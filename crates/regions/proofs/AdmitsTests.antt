-- The tests that the code makes of the gathered words are the rules'.
use mathlib.Core.Bool.{Bool, true, false, not, ◌&&◌, ◌||◌, cond, beq, or-true, or-false, true≢false}
use mathlib.Core.List.{List}
use mathlib.Core.Path.{◌≡◌, refl, sym, ap, ap₂, ◌∙◌}
use Prim.Native.Nat.{ℕ, zero, suc, ◌+◌, ◌/◌, ◌^◌, ◌≤◌, ◌<◌}
use native.Mathlib.Decide.{dec_lt}
use native.Mathlib.Omega.{arith}
use lib.Bits.{bit_or}
use lib.Dec.{eqb, lit<}
use lib.ListN.{get_or}
use borrow.Author.Tests.{not-true, not-false}
use Rattle.words.specs.Bit.{bit, field}
use Rattle.words.proofs.Laws.{bit-ones, bit-pow, bit-shr, bit_word, bit-zero}
use Rattle.words.proofs.Ops.{bit-or}
use Rattle.access.specs.Bus.{heard}
use Rattle.access.specs.Fold.{any, all}
use Rattle.access.specs.declared.bus.Bus.{Bus}
use Rattle.access.specs.declared.bus.Bus.TheVariants.{Axi, Ahb}
use Rattle.access.specs.declared.kind.Kind.{Kind}
use Rattle.access.proofs.Folds.{any_same, all_same}
use Rattle.access.proofs.Heard.{heard-cid}
use Rattle.regions.specs.Words.{base, sub, cidcfgr_at, enable_bit, sec_bit, priv_bit, privc_bit, rden_bit, wren_bit, read_bit, write_bit}
use Rattle.regions.specs.Rules.{Tests, reason_of, covers, every_base, every_sub, srcid, working_priv, is_default, tests0, tests1, tests2, opens, some_sub, counted, covered, rule_of, tests, decided}
use Rattle.regions.specs.Masks.{masks, openings, Passed}
use Rattle.regions.specs.Admits.{defaults, by_default, by_bases, by_subs, by_regions, by_masks, admitted, all_if, all_as_zero, with_debugger, as_heard, admits_security, tests_of, verdict_of}
use Rattle.regions.specs.declared.admits.Admits.{Admits}
use Rattle.regions.specs.declared.masks.Masks.{Masks}
use Rattle.regions.specs.declared.verdict.Rule.{Rule}
use Rattle.regions.specs.declared.verdict.Rule.TheVariants.{Default, Base, Subregion}
use Rattle.regions.specs.declared.verdict.Verdict.{Verdict}
use Rattle.regions.proofs.MaskBits.{some-bit, every-bit, enables-bit, secure-bit, privileged-bit}
use Rattle.regions.proofs.Openings.{counted_is, open-bit, reads-right, writes-right}

-- ---- tests that are the same

tests_same : {a b c d e f : Bool} → a ≡ d → b ≡ e → c ≡ f
    → ◌≡◌ {A = Tests} (record { security = a; privilege = b; compartment = c }) (record { security = d; privilege = e; compartment = f })
tests_same p q r = cc

-- ---- over all base regions that cover: v says which do

beq-true : (b : Bool) → b ≡ beq true b
beq-true true = refl
beq-true false = refl

beq-false : (b : Bool) → not b ≡ beq false b
beq-false true = refl
beq-false false = refl

every_true : (n : ℕ) (v : ℕ → Bool) → true ≡ all n (λ x. not (v x) || true)
every_true zero v = refl
every_true (suc n) v = rw (or-true (not (v n))) (rw (← every_true n v) refl)

not_some : (n : ℕ) (v p : ℕ → Bool) → not (any n (λ x. v x && p x)) ≡ all n (λ x. not (v x) || not (p x))
not_some zero v p = refl
not_some (suc n) v p = go (any n (λ x. v x && p x)) (v n) ∙ ap (λ (b : Bool). b && (not (v n) || not (p n))) (not_some n v p)
  where
    go : (a c : Bool) → not (a || c && p n) ≡ (not a && (not c || not (p n)))
    go true c = refl
    go false true = refl
    go false false = refl

pub default-bit : (bus : Bus) (k : Kind) → k.cid.0 ≤ 7 → bit (defaults bus) k.cid.0 ≡ is_default bus k
default-bit Axi k h = bit_word 8 (λ i. eqb i 1 || eqb i 7) k.cid.0 (omega (arith, h))
default-bit Ahb k h = bit-ones 8 k.cid.0 (omega (arith, h))

module _ (p : Bool) (adds : ℕ → ℕ) (w : List ℕ) (n o : ℕ) (k : Kind) (h : k.cid.0 ≤ 7) where
  abbrev c : ℕ
  c = k.cid.0

  abbrev m : Masks
  m = masks p adds w n o

  small : c < 8
  small = omega (arith, h)

  every-same : (p q : ℕ → Bool) → ((x : ℕ) → p x ≡ q x) → every_base w n o p ≡ every_base w n o q
  every-same p q e = all_same n _ _ (λ x l. ap (λ (b : Bool). not (covers w (base x) o) || b) (e x))

  -- ---- rule 0

  default-tests : (bus : Bus) → tests_of (by_default bus) k ≡ tests0 bus k
  unfolding tests_of by_default
  default-tests bus = tests_same (security k.secure) (privilege k.privileged) (compartment bus k.write)
    where
      security : (s : Bool) → cond s true false ≡ s
      security true = refl
      security false = refl

      privilege : (p : Bool) → (p || not (bit 0xff c)) ≡ p
      privilege true = refl
      privilege false = ap not (bit-ones 8 c small)

      compartment : (bus : Bus) (d : Bool) → bit (cond d (defaults bus) (defaults bus)) c ≡ is_default bus k
      compartment bus true = default-bit bus k h
      compartment bus false = default-bit bus k h

  -- ---- rule 1

  bases-security : (s : Bool) → cond s (bit m.every sec_bit) (not (bit m.some sec_bit)) ≡ every_base w n o (λ x. beq s (bit (get_or w (base x) 0) sec_bit))
  bases-security true = every-bit p adds w o n sec_bit (lit< tt) ∙ every-same _ _ (λ x. beq-true (bit (get_or w (base x) 0) sec_bit))
  bases-security false =
      ap not (some-bit p adds w o n sec_bit) ∙ not_some n (λ x. covers w (base x) o) (λ x. bit (get_or w (base x) 0) sec_bit)
      ∙ every-same _ _ (λ x. beq-false (bit (get_or w (base x) 0) sec_bit))

  bases-privilege : (p : Bool) → (p || not (bit (m.some / 2 ^ 16) c)) ≡ every_base w n o (λ x. p || not (bit (get_or w (base x) 0) (privc_bit c)))
  bases-privilege true = every_true n (λ x. covers w (base x) o)
  bases-privilege false =
      ap not (bit-shr m.some 16 c ∙ some-bit p adds w o n (16 + c)) ∙ not_some n (λ x. covers w (base x) o) (λ x. bit (get_or w (base x) 0) (16 + c))

  -- the enables from bit `at`
  bases-enabled : (at x : ℕ) → at + c < 32 → bit x c ≡ bit m.enables (at + c)
      → bit (bit_or x 0x80) c ≡ every_base w n o (λ y. eqb c 7 || bit (get_or w (base y + cidcfgr_at) 0) (at + c))
  bases-enabled at x l e =
      bit-or x 0x80 c ∙ ap₂ ◌||◌ (e ∙ enables-bit p adds w o n (at + c) l) (bit-pow 7 c) ∙ go (eqb c 7)
    where
      go : (t : Bool)
          → (every_base w n o (λ y. bit (get_or w (base y + cidcfgr_at) 0) (at + c)) || t)
          ≡ every_base w n o (λ y. t || bit (get_or w (base y + cidcfgr_at) 0) (at + c))
      go true = or-true (every_base w n o (λ y. bit (get_or w (base y + cidcfgr_at) 0) (at + c))) ∙ every_true n (λ y. covers w (base y) o)
      go false = or-false (every_base w n o (λ y. bit (get_or w (base y + cidcfgr_at) 0) (at + c)))

  bases-compartment : (d : Bool)
      → bit (cond d (bit_or (m.enables / 2 ^ 16) 0x80) (bit_or m.enables 0x80)) c
      ≡ every_base w n o (λ x. eqb c 7 || cond d (bit (get_or w (base x + cidcfgr_at) 0) (write_bit c)) (bit (get_or w (base x + cidcfgr_at) 0) (read_bit c)))
  bases-compartment true = bases-enabled 16 (m.enables / 2 ^ 16) (omega (arith, h)) (bit-shr m.enables 16 c)
  bases-compartment false =
      let e : 0 + c ≡ c = omega arith in
      bases-enabled 0 m.enables (omega (arith, h)) (ap (bit m.enables) (sym e))
      ∙ every-same _ _ (λ x. ap (λ (i : ℕ). eqb c 7 || bit (get_or w (base x + cidcfgr_at) 0) i) e)

  pub bases-tests : tests_of (by_bases m) k ≡ tests1 w n o k
  unfolding tests_of by_bases
  bases-tests = tests_same (bases-security k.secure) (bases-privilege k.privileged) (bases-compartment k.write)

  -- ---- rule 2

  subs-security : (s b d : Bool) → b ≡ d → cond s b (not b) ≡ beq s d
  subs-security true b d e = beq-true b ∙ ap (beq true) e
  subs-security false b d e = beq-false b ∙ ap (beq false) e

  pub all-if : (b d : Bool) → b ≡ d → bit (all_if b) c ≡ d
  all-if true d e = bit-ones 8 c small ∙ e
  all-if false d e = bit-zero c ∙ e

  -- PRIV was looked at, or need not be
  subs-privilege : (q : Bool) → p ≡ q → (p ≡ true → k.privileged ≡ true)
      → (k.privileged || not (bit (all_if (bit m.privileged priv_bit)) c)) ≡ (k.privileged || not (every_sub w n o (working_priv w)))
  subs-privilege true e passed = rw (passed e) refl
  subs-privilege false e passed = ap (λ (b : Bool). k.privileged || not b) (all-if _ _ (privileged-bit p adds w o e n))

  -- with the compartments that may read and write, by what this one may
  pub subs-tests : (p ≡ true → k.privileged ≡ true) → (reads writes : ℕ) → bit (cond k.write writes reads) c ≡ some_sub w n o (opens w k) → tests_of (by_subs m reads writes) k ≡ tests2 w n o k
  unfolding tests_of by_subs
  subs-tests passed reads writes e =
      tests_same (subs-security k.secure _ _ (secure-bit p adds w o n)) (subs-privilege p refl passed) e

-- who may read and write, for all compartments
abbrev reads : Masks → ℕ
reads m = with_debugger (field m.opens (read_bit 0) 8)

abbrev writes : Masks → ℕ
writes m = with_debugger (field m.opens (write_bit 0) 8)

all-compartment : (w : List ℕ) (n o : ℕ) (k : Kind) → k.cid.0 ≤ 7 → (d : Bool)
    → bit (cond d (writes (masks false openings w n o)) (reads (masks false openings w n o))) k.cid.0
    ≡ some_sub w n o
    (λ x s.
    (eqb (srcid w x s).0 k.cid.0 || eqb k.cid.0 7) && cond d (bit (get_or w (sub x s) 0) wren_bit) (bit (get_or w (sub x s) 0) rden_bit))
all-compartment w n o k h true = open-bit w o 16 wren_bit (writes-right w) n k.cid.0 (omega (arith, h))
all-compartment w n o k h false = open-bit w o 0 rden_bit (reads-right w) n k.cid.0 (omega (arith, h))

-- ---- which rule governs

pub neither : (a b : Bool) → (a || b) ≡ false → (a ≡ false) × (b ≡ false)
neither true b e = absurd (true≢false e)
neither false b e = (refl, e)

module _ (w : List ℕ) (o : ℕ) where
  pub none-covered : (n : ℕ) → Passed w o 0 n → covered w n o ≡ false
  none-covered zero passed = refl
  none-covered (suc n) passed =
      rw (none-covered n (λ y a b. passed y a (omega arith)), passed n (omega arith) (omega arith)) refl

  pub some-covered : (n x : ℕ) → x < n → covers w (base x) o ≡ true → covered w n o ≡ true
  some-covered zero x h e = absurd (omega arith)
  some-covered (suc n) x h e = go (dec_lt x n) (λ l. some-covered n x l e)
    where
      go : Dec (x < n) → (x < n → covered w n o ≡ true) → (covered w n o || covers w (base n) o) ≡ true
      go (yes l) below = rw (below l) refl
      go (no r) below =
          let q : n ≡ x = omega arith in
          rw q (rw e (or-true (covered w x o)))

  -- where no base region covers, no subregion counts
  pub none-counted : (n : ℕ) → covered w n o ≡ false → counted w n o ≡ false
  none-counted zero e = refl
  none-counted (suc n) e =
      let d = neither (covered w n o) (covers w (base n) o) e in
      rw (none-counted n d.0, d.1) refl

-- what one pass over all base regions finds: one that covers has its enable in CFGR
pub masks-found : (bus : Bus) (w : List ℕ) (n o : ℕ) → by_masks bus (masks false openings w n o) ≡ admitted bus w n o
unfolding by_masks admitted
masks-found bus w n o =
    ap (λ (c : Bool). cond c (by_regions (masks false openings w n o)) (by_default bus))
    (some-bit false openings w o n enable_bit ∙ any_same n _ _ (λ x h. own (bit (get_or w (base x) 0) enable_bit) _))
  where
    own : (e i : Bool) → ((e && i) && e) ≡ (e && i)
    own true true = refl
    own true false = refl
    own false i = refl

-- ---- the theorem

-- of a kind of asking, as heard
tests-is : (bus : Bus) (w : List ℕ) (n o : ℕ) (k : Kind) → k.cid.0 ≤ 7
    → verdict_of (admitted bus w n o) k ≡ record { rule = rule_of w n o; reason = reason_of (tests bus w n o k) }
unfolding verdict_of admitted by_regions by_default by_bases by_subs tests
tests-is bus w n o k h = by (covered w n o) refl (counted w n o) refl
  where
    -- of either rule
    verdict : (a : Admits) (r : Rule) (t : Tests) → a.rule ≡ r → tests_of a k ≡ t
        → ◌≡◌ {A = Verdict} (record { rule = a.rule; reason = reason_of (tests_of a k) }) (record { rule = r; reason = reason_of t })
    verdict a r t e f = ap₂ (λ (r : Rule) (t : Tests). record { rule = r; reason = reason_of t }) e f

    by : (d : Bool) → covered w n o ≡ d → (c : Bool) → counted w n o ≡ c
        → verdict_of (cond d (cond (eqb (masks false openings w n o).opens 0) (by_bases (masks false openings w n o)) (by_subs (masks false openings w n o) (reads (masks false openings w n o)) (writes (masks false openings w n o)))) (by_default bus)) k
        ≡ record { rule = cond c Subregion (cond d Base Default); reason = reason_of (cond c (tests2 w n o k) (cond d (tests1 w n o k) (tests0 bus k))) }
    by true e true f =
        ap (λ (b : Bool). verdict_of (cond b (by_bases (masks false openings w n o)) (by_subs (masks false openings w n o) (reads (masks false openings w n o)) (writes (masks false openings w n o)))) k) (not-true (eqb (masks false openings w n o).opens 0) (counted_is w n o ∙ f))
        ∙ verdict (by_subs (masks false openings w n o) (reads (masks false openings w n o)) (writes (masks false openings w n o))) Subregion (tests2 w n o k) refl (subs-tests false openings w n o k h (λ e. absurd (true≢false (sym e))) _ _ (all-compartment w n o k h k.write))
    by true e false f =
        ap (λ (b : Bool). verdict_of (cond b (by_bases (masks false openings w n o)) (by_subs (masks false openings w n o) (reads (masks false openings w n o)) (writes (masks false openings w n o)))) k) (not-false (eqb (masks false openings w n o).opens 0) (counted_is w n o ∙ f))
        ∙ verdict (by_bases (masks false openings w n o)) Base (tests1 w n o k) refl (bases-tests false openings w n o k h)
    by false e true f = absurd (true≢false (sym f ∙ none-counted w o n e))
    by false e false f = verdict (by_default bus) Default (tests0 bus k) refl (default-tests false openings w n o k h bus)

pub verdict-is : (bus : Bus) (w : List ℕ) (n o : ℕ) (k : Kind) → k.cid.0 ≤ 7
    → verdict_of (admitted bus w n o) (heard bus k) ≡ decided bus w n o k
unfolding decided
verdict-is bus w n o k h = tests-is bus w n o (heard bus k) (heard-cid bus k h)

-- the tests as the bus hears them, of a kind of asking
pub as-heard : (bus : Bus) (a : Admits) (k : Kind) → k.cid.0 ≤ 7 → verdict_of (as_heard bus a) k ≡ verdict_of a (heard bus k)
unfolding verdict_of tests_of as_heard
as-heard Axi a k h = refl
as-heard Ahb a k h =
    ap (λ (t : Tests). record { rule = a.rule; reason = reason_of t })
    (tests_same {a = admits_security a k.secure} refl (ap (λ (b : Bool). k.privileged || not b) (as-zero a.closed)) (opened k.write))
  where
    as-zero : (x : ℕ) → bit (all_as_zero x) k.cid.0 ≡ bit x 0
    as-zero x = go (bit x 0)
      where
        go : (b : Bool) → bit (cond b 0xff 0) k.cid.0 ≡ b
        go true = bit-ones 8 k.cid.0 (omega (arith, h))
        go false = bit-zero k.cid.0

    opened : (d : Bool) → bit (cond d (all_as_zero a.writes) (all_as_zero a.reads)) k.cid.0 ≡ bit (cond d a.writes a.reads) 0
    opened true = as-zero a.writes
    opened false = as-zero a.reads
