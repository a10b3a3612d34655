-- The bits that a write takes, as the code makes them, and the answer to a read.
use mathlib.Core.Bool.{Bool, true, false, not, ◌&&◌, ◌||◌, cond, and-true}
use mathlib.Core.Path.{◌≡◌, refl, sym, ◌∙◌}
use Prim.Native.Nat.{ℕ}
use lib.Dec.{eqb}
use Rattle.words.specs.Bit.{bit, word, field, masked, less, united}
use Rattle.words.proofs.Laws.{bit-less, less-lt, word-ext}
use Rattle.words.proofs.Masks.{united-masked}
use Rattle.std.specs.Prelude.{Some, None}
use Rattle.access.specs.Checks.{answered_with, no_register, reached_with}
use Rattle.access.specs.declared.request.Request.{Request}
use Rattle.rifsc.specs.Port.{answer_of, attr_bits, checks_of, read_answer, read_at, takes}
use Rattle.rifsc.specs.declared.port.Seen.{Seen}
use Rattle.rifsc.specs.declared.registers.Row.{Row}
use Rattle.rifsc.specs.declared.registers.Register.TheVariants.{Privcfgr, Rimccr, Attr}

-- of a PRIV write
free : (n x rlock sec : ℕ) (secure : Bool) → cond secure (less n x rlock) (less n (less n x rlock) sec)
    ≡ word n (λ i. bit x i && not (bit rlock i) && (secure || not (bit sec i)))
free n x rlock sec true = word-ext n _ _ (less-lt n _ _) (λ k h. bit-less n x rlock k h ∙ sym (and-true _))
free n x rlock sec false = word-ext n _ _ (less-lt n _ _) (λ k h. simp bit-less)

pub priv-taken : (x : ℕ) (row : Row) (v : Seen) (value : ℕ) (secure : Bool)
    → cond secure (less 32 row.named v.rlock) (less 32 (less 32 row.named v.rlock) v.sec)
    ≡ word 32 (takes (Privcfgr x) row v value secure)
unfolding takes
priv-taken x row v value secure = free 32 row.named v.rlock v.sec secure

pub rimc-taken : (row : Row) (v : Seen) (value : ℕ) (secure : Bool)
    → united 32 0x0000_0700 (masked 32 value 0x0000_0001) ≡ word 32 (takes Rimccr row v value secure)
unfolding takes
rimc-taken row v value secure = united-masked 32 0x0000_0700 value 0x0000_0001

pub attr-taken : (m : ℕ) (row : Row) (v : Seen) (value : ℕ) (secure : Bool)
    → attr_bits value ≡ word 32 (takes (Attr m) row v value secure)
unfolding takes
attr-taken m row v value secure = go (eqb (field value 4 3) 7)
  where
    go : (b : Bool) → cond b 0x0000_0300 0x0000_0370 ≡ word 32 (bit (cond b 0x0000_0300 0x0000_0370))
    go true = refl
    go false = refl

-- ---- a read

pub read_is : (row : Row) (locked : Bool) (stored : ℕ) (q : Request) → q.write ≡ false
    → answer_of row locked stored q ≡ read_answer (Some row) stored q.offset
unfolding answer_of checks_of answered_with reached_with read_answer read_at
read_is row locked stored q w = rw w refl

-- of no register
pub read_none : (stored offset : ℕ) → no_register offset ≡ read_answer None stored offset
unfolding answered_with reached_with read_answer read_at
read_none stored offset = refl
