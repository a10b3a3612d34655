-- The peripheral filter, and what a master carries, are read from named bits alone: r is a controller, M has a mask for each of its words.
use mathlib.Core.Bool.{Bool, true, false, ◌&&◌}
use mathlib.Core.List.{List, [], ◌∷◌}
use mathlib.Core.Path.{◌≡◌, refl}
use Prim.Native.Nat.{ℕ, zero, suc, ◌+◌, ◌/◌, ◌%◌, ◌<◌}
use native.Mathlib.Nat.{mod-lt}
use native.Mathlib.Omega.{arith}
use lib.Dec.{lit<}
use lib.ListN.{get_or}
use Rattle.words.specs.Six.{bit_at}
use Rattle.words.proofs.Laws.{field-ext}
use Rattle.words.proofs.Alike.{Same, field-full}
use Rattle.rifsc.specs.Contents.{stored}
use Rattle.rifsc.specs.Masters.{masters, guarding, guarding_of, attributes_of, carried}
use Rattle.rifsc.specs.Peripherals.{filter_of}
use Rattle.rifsc.specs.Registers.{ppsr, ppsrs, row_of}
use Rattle.rifsc.specs.declared.contents.Rifsc.{Rifsc}
use Rattle.rifsc.specs.declared.masters.MasterNumber.{MasterNumber}
use Rattle.rifsc.specs.declared.peripherals.PeripheralNumber.{PeripheralNumber}
use Rattle.rifsc.specs.declared.registers.Register.TheVariants.{Seccfgr, Privcfgr, Attr}
use Rattle.rifsc.proofs.NamedBits.{Alike, Has, bit-same}

-- ---- each guarding peripheral is one there is: its PPSR bit is 1, by computing over the table

all_named : List ℕ → Bool
all_named [] = true
all_named (p ∷ ps) = bit_at ppsrs p && all_named ps

both : (a b : Bool) → (a && b) ≡ true → (a ≡ true) × (b ≡ true)
both true b h = (refl, h)
both false b h = (h, cc)

named_get : (ps : List ℕ) (n : ℕ) → all_named ps ≡ true → bit_at ppsrs (get_or ps n 0) ≡ true
unfolding all_named
named_get [] n h = refl
named_get (p ∷ ps) zero h = (both (bit_at ppsrs p) (all_named ps) h).0
named_get (p ∷ ps) (suc n) h = named_get ps n (both (bit_at ppsrs p) (all_named ps) h).1

pub guarding-named : (m : MasterNumber) → bit_at ppsrs (guarding_of m).0 ≡ true
unfolding all_named guarding_of
guarding-named m = named_get (0 ∷ guarding) m.0 refl

-- ---- r and r' are the same on the named bits

module _ {M r r' : Rifsc} (has : Has M) (same : Alike Same M r r') where
  sec-same : (p : PeripheralNumber) → bit_at ppsrs p.0 ≡ true → bit_at r.seccfgr p.0 ≡ bit_at r'.seccfgr p.0
  unfolding row_of stored ppsr
  sec-same p h = bit-same has same (Seccfgr (p.0 / 32)) tt (p.0 % 32) (mod-lt p.0 (omega arith)) h

  pub filter_same : (p : PeripheralNumber) → bit_at ppsrs p.0 ≡ true → filter_of r p ≡ filter_of r' p
  unfolding filter_of row_of stored ppsr
  filter_same p h =
      rw (sec-same p h, bit-same has same (Privcfgr (p.0 / 32)) tt (p.0 % 32) (mod-lt p.0 (omega arith)) h)

  pub carried_same : (m : MasterNumber) (write : Bool) → m.0 < masters
      → carried (attributes_of r m) write ≡ carried (attributes_of r' m) write
  unfolding carried attributes_of row_of stored
  carried_same m write h =
      let named = bit-same has same (Attr m.0) h in
      rw (
        field-ext (get_or r.attr m.0 0) (get_or r'.attr m.0 0) 4 3 (λ k i. named (4 + k) (omega arith) (field-full _ 4 3 refl k i)),
        named 8 (lit< tt) refl,
        named 9 (lit< tt) refl,
        sec-same (guarding_of m) (guarding-named m),
      )
