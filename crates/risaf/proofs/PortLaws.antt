-- The words that a write leaves, as the code makes them, and the answer to a read.
use Rattle.std.specs.Prelude.{Option, Some, None, List}
use mathlib.Core.Bool.{Bool, true, false, not, ◌&&◌, ◌||◌, cond, and-true, and-false}
use mathlib.Core.Path.{◌≡◌, refl, sym, ap, ◌∙◌}
use Prim.Native.Nat.{ℕ, ◌^◌, ◌%◌, ◌<◌}
use lib.Dec.{eqb}
use Rattle.words.specs.Bit.{bit, word, merged, with_bit}
use Rattle.words.proofs.Laws.{bit_word, bit-with_bit, with_bit-lt, word-ext}
use Rattle.words.proofs.Masks.{merged_by}
use Rattle.regions.specs.Words.{sec_bit}
use Rattle.access.specs.Answer.{left}
use Rattle.access.specs.Checks.{unless, answered_with, reached_with}
use Rattle.access.specs.declared.answer.Answer.{Answer}
use Rattle.access.specs.declared.answer.Answer.TheVariants.{Done, Refused, Rejected}
use Rattle.access.specs.declared.answer.Why.TheVariants.{Misaligned, NoRegister, NoSuch}
use Rattle.access.specs.declared.request.Request.{Request}
use Rattle.risaf.specs.Port.{allowed_of, answer_at, answer_of, bit_if, checks_of, checks_none, port_in, read_answer, read_at, read_reached, subcfgr_written, refused_port, accessed, stepped, stepped_at}
use Rattle.risaf.specs.Contents.{iasr_at, guard_words, with_word}
use Rattle.risaf.specs.declared.contents.Guard.{Guard}
use Rattle.risaf.specs.Rows.{row_at}
use Rattle.risaf.specs.declared.guards.Shape.{Shape}
use Rattle.risaf.specs.declared.port.Port.{Port}
use Rattle.risaf.specs.declared.rows.Row.{Row}

-- ---- bits, one of them only where it may be

pub bit_kept : (n bits k : ℕ) → bits < 2 ^ n → bits ≡ word n (bit_if bits k true)
bit_kept n bits k l = word-ext n bits _ l (λ i h. sym (and-true _))

but : (t b : Bool) → cond t false b ≡ (b && not t)
but true b = sym (and-false b)
but false b = sym (and-true b)

pub bit-dropped : (n bits k : ℕ) → with_bit n bits k false ≡ word n (bit_if bits k false)
bit-dropped n bits k = word-ext n _ _ (with_bit-lt n _ _ _) (λ i h. bit-with_bit n bits k false i h ∙ but (eqb i k) (bit bits i))

-- ---- a subregion's CFGR

cfgr-by : (n named old value k l : ℕ) (a b : Bool)
    → merged n old value (word n (bit_if (word n (bit_if named k a)) l b))
    ≡ word n (λ i. cond (bit_if named k a i && (b || not (eqb i l))) (bit value i) (bit old i))
cfgr-by n named old value k l a b =
    merged_by n _ _
    (λ i h. bit_word n _ i h ∙ ap (λ (c : Bool). c && (b || not (eqb i l))) (bit_word n (bit_if named k a) i h)) old value

pub cfgr-is : (named : ℕ) (p : Port) (value : ℕ) (secure : Bool)
    → merged 32 p.word value (word 32 (bit_if (word 32 (bit_if named 1 p.glock)) sec_bit secure))
    ≡ subcfgr_written named p value secure
unfolding subcfgr_written
cfgr-is named p value secure = cfgr-by 32 named p.word value 1 sec_bit p.glock secure

-- ---- a read

-- it is what an access gives that is no write
pub read_is : (there : Bool) (shape : Shape) (w : List ℕ) (q : Request) → q.write ≡ false
    → answer_at there shape.bus (row_at shape.regions q.offset) w q ≡ read_answer (cond there (Some shape) None) w q
unfolding answer_of checks_of checks_none allowed_of answered_with reached_with port_in read_answer read_at read_reached
read_is false shape w q h = go (row_at shape.regions q.offset)
  where
    go : (r : Option Row) → answer_at false shape.bus r w q ≡ Rejected NoSuch
    go None = refl
    go (Some row) = refl
read_is true shape w q h = go (row_at shape.regions q.offset)
  where
    go : (r : Option Row) → answer_at true shape.bus r w q ≡ unless (eqb (q.offset % 4) 0) (Rejected Misaligned) (read_at r w q)
    go None = refl
    go (Some row) = rw h refl

pub read_stepped : (shape : Shape) (g : Guard) (q : Request) → q.write ≡ false
    → (stepped true shape g q).answer ≡ read_answer (Some shape) (guard_words g) q
unfolding stepped stepped_at accessed
read_stepped shape g q h = go (row_at shape.regions q.offset) ∙ read_is true shape (guard_words g) q h
  where
    go : (r : Option Row) → (stepped_at true shape r g q).answer ≡ answer_at true shape.bus r (guard_words g) q
    go None = refl
    go (Some row) = refl

-- and it leaves all as it was, but CAEF where it is refused
pub read_leaves : (shape : Shape) (g : Guard) (q : Request) → q.write ≡ false
    → (stepped true shape g q).next ≡ left (stepped true shape g q).answer g g (with_word g iasr_at (with_bit 32 g.iasr 0 true))
unfolding stepped stepped_at accessed checks_none answered_with reached_with port_in
read_leaves shape g q h = go (row_at shape.regions q.offset)
  where
    none : (b : Bool) → g ≡ left (unless b (Rejected Misaligned) (Rejected NoRegister)) g g (with_word g iasr_at (with_bit 32 g.iasr 0 true))
    none true = refl
    none false = refl

    some : (row : Row) (a : Answer) {w : Bool} → w ≡ false → (h : Guard) (t : Port)
        → let p = port_in (guard_words g) row in
        left a g (cond w h g) (with_word g iasr_at (left a p (cond w t p) (refused_port p)).iasr)
        ≡ left a g g (with_word g iasr_at (with_bit 32 g.iasr 0 true))
    some row (Done v) e h t = rw e refl
    some row (Refused v) e h t = refl
    some row (Rejected why) e h t = refl

    go : (r : Option Row)
        → (stepped_at true shape r g q).next ≡ left (stepped_at true shape r g q).answer g g (with_word g iasr_at (with_bit 32 g.iasr 0 true))
    go None = none (eqb (q.offset % 4) 0)
    go (Some row) = some row (answer_of true shape.bus row (port_in (guard_words g) row) q) h _ _
