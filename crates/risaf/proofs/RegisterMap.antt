-- A register of a guard is one of a region that it has, and can have.
use Rattle.std.specs.Prelude.{Option, Some, None, IfSome, is_some, unwrap_or}
use mathlib.Core.Bool.{Bool, true, false, ◌&&◌, cond, true≢false}
use mathlib.Core.Path.{◌≡◌, refl, sym, ap, subst}
use Prim.Native.Nat.{ℕ, ◌-◌, ◌/◌, ◌%◌, ◌≤◌, ◌<◌}
use native.Mathlib.Omega.{arith}
use lib.Dec.{eqb, ltb, leb, lit<}
use borrow.Author.Tests.{leb-true, ltb-true}
use Rattle.access.specs.Offset.{within}
use Rattle.regions.specs.Words.{most_regions}
use Rattle.risaf.specs.Registers.{region_at, sub_register, region_register, register_in, register_at}
use Rattle.risaf.specs.Rows.{PlacedIn, Placed}
use Rattle.risaf.specs.declared.registers.Register.{Register}

module _ (m : ℕ) where
  abbrev Fits : Option Register → Type 0
  Fits r = IfSome r (PlacedIn m)

  fits : (c : Bool) (a b : Option Register) → (c ≡ true → Fits a) → Fits b → Fits (cond c a b)
  fits true a b p q = p refl
  fits false a b p q = q

  sub-fits : (x s k : ℕ) → x < m → s < 2 → Fits (sub_register x s k)
  unfolding sub_register
  sub-fits x s k h l =
      fits (eqb k 0x0) _ _ (λ e. (h, l))
      (fits (eqb k 0x4) _ _ (λ e. (h, l))
      (fits (eqb k 0x8) _ _ (λ e. (h, l))
      (fits (eqb k 0xc) _ _ (λ e. (h, l)) tt)))

  region-fits : (x k : ℕ) → x < m → Fits (region_register x k)
  unfolding region_register
  region-fits x k h =
      fits (eqb k 0x0) _ _ (λ e. h)
      (fits (eqb k 0x4) _ _ (λ e. h)
      (fits (eqb k 0x8) _ _ (λ e. h)
      (fits (eqb k 0xc) _ _ (λ e. h)
      (fits (within 0x10 0x1f k) _ _ (λ e. sub-fits x 0 (k - 0x10) h (lit< tt))
      (fits (within 0x20 0x2f k) _ _ (λ e. sub-fits x 1 (k - 0x20) h (lit< tt)) tt)))))

  -- where a block that is the guard's is one of m
  register-fits : (n o : ℕ) → ((x : ℕ) → region_at o ≡ Some x → x < n → x < m) → Fits (register_at n o)
  unfolding register_at
  register-fits n o among =
      fits (eqb o 0x000) _ _ (λ e. tt)
      (fits (eqb o 0x008) _ _ (λ e. tt)
      (fits (eqb o 0x00c) _ _ (λ e. tt)
      (fits (eqb o 0x020) _ _ (λ e. tt)
      (fits (eqb o 0x024) _ _ (λ e. tt) (go (region_at o) refl)))))
    where
      go : (r : Option ℕ) → region_at o ≡ r → Fits (register_in n r (o % 0x40))
      go None e = tt
      go (Some x) e = fits (ltb x n) _ _ (λ l. region-fits x (o % 0x40) (among x e (ltb-true _ _ l))) tt

and_right : (a b : Bool) → (a && b) ≡ true → b ≡ true
and_right true b e = e
and_right false b e = cc

-- no block is past the most that there can be
block-most : (o x : ℕ) → region_at o ≡ Some x → x < most_regions
unfolding region_at
block-most o x = go (within 0x040 0x2ff o) refl
  where
    some-of : {a b : ℕ} → Some a ≡ Some b → a ≡ b
    some-of {a} e = ap (λ (r : Option ℕ). unwrap_or r a) e

    go : (t : Bool) → within 0x040 0x2ff o ≡ t → cond t (Some ((o - 0x040) / 0x40)) None ≡ Some x → x < most_regions
    go true h e =
        let l : o ≤ 0x2ff = leb-true o 0x2ff (and_right (leb 0x040 o) _ h) in
        let q : (o - 0x040) / 0x40 ≡ x = some-of e in
        omega arith
    go false h e = absurd (true≢false (sym (ap is_some e)))

-- the register at an offset
pub register-placed : (n o : ℕ) {reg : Register} → register_at n o ≡ Some reg → Placed reg
register-placed n o e = subst (Fits most_regions) e (register-fits most_regions n o (λ x h l. block-most o x h))

pub register-own : (n o : ℕ) → Fits n (register_at n o)
register-own n o = register-fits n n o (λ x h l. l)
