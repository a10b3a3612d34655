-- What the code gathers of the base regions that cover: words, all compartments at once. proofs/MaskBits says what their bits are.
use Rattle.std.specs.Prelude.{Bool, true, false, cond, List, ◌≡◌, ℕ, zero, suc, ◌+◌, ◌-◌, ◌*◌, ◌/◌, ◌%◌, ◌^◌, ◌≤◌, ◌<◌, eqb, get_or}
use Rattle.std.specs.Int.Bits.{bit_and, bit_or}
use Rattle.words.specs.Bit.{bit, field}
use Rattle.access.specs.Fold.{any}
use Rattle.access.specs.Kind.{debugger}
use Rattle.regions.specs.Words.{base, sub, cidcfgr_at, enable_bit, priv_bit, privc_bit, srcid_bit, rden_bit, wren_bit}
use Rattle.regions.specs.Rules.{covers}
use Rattle.regions.specs.declared.masks.Masks.{Masks}
use Rattle.regions.specs.declared.masks.Served.{Served}

-- ---- one base region more

-- a subregion's CFGR with SRCID i: bit i where reads are enabled, bit 8 + i, bit 16 + i where writes are
unfoldable pub opening : ℕ → ℕ → ℕ
opening cfgr i = (cfgr / 2 ^ rden_bit % 2 + 0x100 + cfgr / 2 ^ wren_bit % 2 * 0x1_0000) * 2 ^ i % 2 ^ 32

-- of the rights of all compartments: what a subregion's CFGR adds to `opens`
abbrev pub openings : ℕ → ℕ
openings cfgr = opening cfgr (field cfgr srcid_bit 3)

-- the SRCIDs that serve compartment c, where they lie in CFGR: its own; CID 7 every one serves
abbrev pub served_by : ℕ → Served
served_by c = cond (eqb c debugger.0) (record { mask = 0; srcid = 0 }) (record { mask = (2 ^ 3 - 1) * 2 ^ srcid_bit; srcid = c * 2 ^ srcid_bit % 2 ^ 32 })

-- of one asking, the same: CFGR, where it has an SRCID that serves, else its enable alone, which is 1 where the subregion counts
abbrev pub serving : Served → ℕ → ℕ
serving by cfgr = cond (eqb (bit_and cfgr by.mask) by.srcid) cfgr 1

-- with the words of a base region that covers
abbrev pub with_base : ℕ → ℕ → Masks → Masks
with_base cfgr cidcfgr m =
    record {
      some = bit_or m.some cfgr;
      every = bit_and m.every cfgr;
      enables = bit_and m.enables cidcfgr;
      secure = m.secure;
      privileged = m.privileged;
      opens = m.opens;
    }

-- with CFGR of a subregion that counts, and of its base region; opens is what it adds there. Where all is for a privileged asking, PRIV is
-- not looked at
abbrev pub with_sub : Bool → ℕ → ℕ → ℕ → Masks → Masks
with_sub p base sub opens m =
    let i = field sub srcid_bit 3 in
    record {
      some = m.some;
      every = m.every;
      enables = m.enables;
      secure = bit_and m.secure (bit_and sub base);
      privileged = cond p m.privileged (bit_and m.privileged (bit_and sub (base / 2 ^ i / 2 ^ (privc_bit 0 - priv_bit))));
      opens = bit_or m.opens opens;
    }

-- with subregion s of a base region that covers; p says whether all is for a privileged asking, adds what a subregion's CFGR adds to `opens`
unfoldable pub sub_gathered : Bool → (ℕ → ℕ) → List ℕ → ℕ → ℕ → ℕ → Masks → Masks
sub_gathered p adds w x s o m =
    cond (covers w (sub x s) o) (with_sub p (get_or w (base x) 0) (get_or w (sub x s) 0) (adds (get_or w (sub x s) 0)) m) m

-- with base region x, which covers, and its subregions
abbrev pub inside_gathered : Bool → (ℕ → ℕ) → List ℕ → ℕ → ℕ → Masks → Masks
inside_gathered p adds w x o m =
    sub_gathered p adds w x 1 o (sub_gathered p adds w x 0 o (with_base (get_or w (base x) 0) (get_or w (base x + cidcfgr_at) 0) m))

-- with base region x and its subregions: nothing where it does not cover
unfoldable pub base_gathered : Bool → (ℕ → ℕ) → List ℕ → ℕ → ℕ → Masks → Masks
base_gathered p adds w x o m = cond (covers w (base x) o) (inside_gathered p adds w x o m) m

-- of none
abbrev pub none_gathered : Masks
none_gathered =
    record {
      some = 0;
      every = 2 ^ 32 - 1;
      enables = 2 ^ 32 - 1;
      secure = 2 ^ 32 - 1;
      privileged = 2 ^ 32 - 1;
      opens = 0;
    }

-- of n base regions
unfoldable pub masks : Bool → (ℕ → ℕ) → List ℕ → ℕ → ℕ → Masks
masks p adds w zero o = none_gathered
masks p adds w (suc n) o = base_gathered p adds w n o (masks p adds w n o)

-- ---- the search for a base region that covers

-- no base region from `from` up to r, r not included, covers
abbrev pub Passed : List ℕ → ℕ → ℕ → ℕ → Type 0
Passed w o from r = (y : ℕ) → from ≤ y → y < r → covers w (base y) o ≡ false

-- some base region of n is enabled
abbrev pub some_enabled : List ℕ → ℕ → Bool
some_enabled w n = any n (λ x. bit (get_or w (base x) 0) enable_bit)

-- r is the first of n base regions that covers
pub record Next (w : List ℕ) (o n r : ℕ) : Type 0 where
  pub high : r < n
  pub passed : Passed w o 0 r
  pub found : covers w (base r) o ≡ true
