-- A register access to a guard changes and reads named bits alone: g is a guard, G has a mask for each of its words.
use Rattle.std.specs.Prelude.{Option, Some, None, IfSome, option_map}
use mathlib.Core.Bool.{Bool, true, false, cond}
use mathlib.Core.Path.{◌≡◌, refl, ap, subst}
use Prim.Native.Nat.{ℕ, ◌+◌, ◌<◌}
use native.Mathlib.Nat.{add-zero}
use native.Mathlib.Omega.{arith}
use lib.Dec.{lit<}
use lib.ListN.{get_or}
use lib.Seq.{set-get_or}
use Rattle.words.specs.Bit.{bit, field, with_bit}
use Rattle.words.proofs.Laws.{field-ext}
use Rattle.words.proofs.Alike.{Whole, Kept, Same, kept_refl, same_refl, kept_set, same_set, same-masked, field-full, each-get}
use Rattle.access.specs.Answer.{left}
use Rattle.access.specs.declared.answer.Answer.{Answer}
use Rattle.access.specs.declared.answer.Answer.TheVariants.{Done, Refused, Rejected}
use Rattle.access.specs.declared.bus.Bus.{Bus}
use Rattle.access.specs.declared.request.Request.{Request}
use Rattle.regions.specs.Words.{sec_bit, base, sub, nest_at}
use Rattle.risaf.specs.Contents.{iasr_at, head_words, guard_words, guard_from, with_word}
use Rattle.risaf.specs.Registers.{register_at}
use Rattle.risaf.specs.Rows.{PlacedIn, of_head, of_base, of_sub, row_of, row_at}
use Rattle.risaf.specs.Port.{port_in, read_of, delegated, allowed_of, locked_of, word_written, checks_of, answer_of, with_port_word, refused_port, accessed, stepped, stepped_at}
use Rattle.risaf.specs.declared.contents.Guard.{Guard}
use Rattle.risaf.specs.declared.guards.Shape.{Shape}
use Rattle.risaf.specs.declared.port.Port.{Port}
use Rattle.risaf.specs.declared.registers.Head.TheVariants.{Cr, Iasr, Iacr, Iaesr, Iaddr}
use Rattle.risaf.specs.declared.registers.BaseField.TheVariants.{Cfgr, Start, End, Cidcfgr}
use Rattle.risaf.specs.declared.registers.SubField.TheVariants.{SubCfgr, SubStart, SubEnd, Nest}
use Rattle.risaf.specs.declared.registers.Register.{Register}
use Rattle.risaf.specs.declared.registers.Register.TheVariants.{OfHead, OfBase, OfSub}
use Rattle.risaf.proofs.RegisterMap.{register-own}
use Rattle.risaf.proofs.NamedWords.{Alike, Has, words-alike, word-alike, row-whole, word_kept, word_same}

-- ---- what an access to a register of a guard with this granule leaves, by its answer; w says whether it is a write

abbrev leaves : ℕ → Answer → Bool → Guard → Register → Request → Guard
leaves granule a w g reg q =
    let row = row_of reg in
    let p = port_in (guard_words g) row in
    let t = left a p (cond w (with_port_word p (word_written granule row p q.value q.secure)) p) (refused_port p) in
    left a g (cond w (with_word g row.place t.word) g) (with_word g iasr_at t.iasr)

-- ---- an access changes named bits alone

module _ {n : ℕ} {G g : Guard} (has : Has n G) (own : Alike Kept G g g) where
  stored-kept : (place v : ℕ) → Kept (get_or (guard_words G) place 0) v (get_or (guard_words g) place 0) → Alike Kept G (with_word g place v) g
  unfolding with_word
  stored-kept place v r =
      subst (Alike Kept G (with_word g place v)) (ap guard_from (set-get_or (guard_words g) place 0)) (word-alike place (kept_refl 0 0) own r)

  -- where it is done
  written-kept : (granule : ℕ) (reg : Register) → PlacedIn n reg → (value : ℕ) (secure : Bool)
      → Alike Kept G (with_word g (row_of reg).place (word_written granule (row_of reg) (port_in (guard_words g) (row_of reg)) value secure)) g
  unfolding port_in
  written-kept granule reg placed value secure =
      let row = row_of reg in
      let mask = get_or (guard_words G) row.place 0 in
      stored-kept row.place _
      (word_kept granule row.named mask value secure row.form (port_in (guard_words g) row) (row-whole reg) (has reg placed))

  -- where it is refused
  refused-kept : Alike Kept G (with_word g iasr_at (with_bit 32 g.iasr 0 true)) g
  unfolding row_of of_head
  refused-kept = stored-kept iasr_at _ (kept_set G.iasr g.iasr 0 (has (OfHead Iasr) tt 0 (lit< tt) refl))

module _ (granule : ℕ) {n : ℕ} {G g : Guard} (has : Has n G) (own : Alike Kept G g g) (reg : Register) (placed : PlacedIn n reg) (q : Request) where
  leaves-kept : (a : Answer) (w : Bool) → Alike Kept G (leaves granule a w g reg q) g
  unfolding port_in
  leaves-kept (Done v) true = written-kept has own granule reg placed q.value q.secure
  leaves-kept (Done v) false = own
  leaves-kept (Refused v) w = refused-kept has own
  leaves-kept (Rejected why) w = own

pub stepped_kept : (there : Bool) (shape : Shape) {G g : Guard} → Has shape.regions G → Alike Kept G g g → (q : Request)
    → Alike Kept G (stepped there shape g q).next g
unfolding stepped stepped_at row_at accessed port_in
stepped_kept there shape {G} {g} has own q = by (register_at shape.regions q.offset) (register-own shape.regions q.offset)
  where
    by : (r : Option Register) → IfSome r (PlacedIn shape.regions) → Alike Kept G (stepped_at there shape (option_map row_of r) g q).next g
    by None placed = own
    by (Some reg) placed =
        leaves-kept shape.granule has own reg placed q (answer_of there shape.bus (row_of reg) (port_in (guard_words g) (row_of reg)) q) q.write

-- ---- it is answered by named bits alone, and leaves them alike where they were

module _ {n : ℕ} {G g g' : Guard} (has : Has n G) (same : Alike Same G g g') where
  abbrev port : Register → Port
  port reg = port_in (guard_words g) (row_of reg)

  abbrev port' : Register → Port
  port' reg = port_in (guard_words g') (row_of reg)

  stored_same : (place : ℕ) → Same (get_or (guard_words G) place 0) (get_or (guard_words g) place 0) (get_or (guard_words g') place 0)
  stored_same place = each-get (words-alike same) (same_refl 0 0) place

  pub bit-same : (reg : Register) → PlacedIn n reg → (j : ℕ) → j < 32 → bit (row_of reg).named j ≡ true
      → bit (get_or (guard_words g) (row_of reg).place 0) j ≡ bit (get_or (guard_words g') (row_of reg).place 0) j
  bit-same reg placed j l h = (stored_same (row_of reg).place).bits j l (has reg placed j l h)

  pub whole_same : (reg : Register) → PlacedIn n reg → Whole (row_of reg).named
      → get_or (guard_words g) (row_of reg).place 0 ≡ get_or (guard_words g') (row_of reg).place 0
  whole_same reg placed all = (stored_same (row_of reg).place).whole (λ j l. has reg placed j l (all j l))

  glock-same : bit g.cr 0 ≡ bit g'.cr 0
  unfolding row_of of_head
  glock-same = bit-same (OfHead Cr) tt 0 (lit< tt) refl

  -- RLOCK of a subregion, SEC of its base region, DCEN and DCCID
  module _ (x s : ℕ) (h : x < n) (l : s < 2) where
    rlock-same : bit (get_or (guard_words g) (head_words + sub x s) 0) 1 ≡ bit (get_or (guard_words g') (head_words + sub x s) 0) 1
    unfolding row_of of_sub
    rlock-same = rw add-zero at (bit-same (OfSub x s SubCfgr) (h, l) 1 (lit< tt) refl)

    sec-same : bit (get_or (guard_words g) (head_words + base x) 0) sec_bit ≡ bit (get_or (guard_words g') (head_words + base x) 0) sec_bit
    unfolding row_of of_base
    sec-same = rw add-zero at (bit-same (OfBase x Cfgr) h sec_bit (lit< tt) refl)

    abbrev nest : Guard → ℕ
    nest t = get_or (guard_words t) (head_words + sub x s + nest_at) 0

    dcen-same : bit (nest g) 2 ≡ bit (nest g') 2
    unfolding row_of of_sub
    dcen-same = bit-same (OfSub x s Nest) (h, l) 2 (lit< tt) refl

    dccid-same : field (nest g) 4 3 ≡ field (nest g') 4 3
    unfolding row_of of_sub
    dccid-same = field-ext (nest g) (nest g') 4 3 (λ k i. bit-same (OfSub x s Nest) (h, l) (4 + k) (omega arith) (field-full _ 4 3 refl k i))

  allowed_same : (bus : Bus) (reg : Register) → PlacedIn n reg → (q : Request)
      → allowed_of bus (row_of reg) (port reg) q ≡ allowed_of bus (row_of reg) (port' reg) q
  unfolding row_of of_head of_base of_sub allowed_of delegated port_in
  allowed_same bus (OfHead Cr) placed q = refl
  allowed_same bus (OfHead Iasr) placed q = refl
  allowed_same bus (OfHead Iacr) placed q = refl
  allowed_same bus (OfHead Iaesr) placed q = refl
  allowed_same bus (OfHead Iaddr) placed q = refl
  allowed_same bus (OfBase x Cfgr) placed q = refl
  allowed_same bus (OfBase x Start) placed q = refl
  allowed_same bus (OfBase x End) placed q = refl
  allowed_same bus (OfBase x Cidcfgr) placed q = refl
  allowed_same bus (OfSub x s SubCfgr) (h, l) q = rw (dcen-same x s h l, dccid-same x s h l, sec-same x s h l)
  allowed_same bus (OfSub x s SubStart) (h, l) q = rw (dcen-same x s h l, dccid-same x s h l, sec-same x s h l)
  allowed_same bus (OfSub x s SubEnd) (h, l) q = rw (dcen-same x s h l, dccid-same x s h l, sec-same x s h l)
  allowed_same bus (OfSub x s Nest) placed q = refl

  locked-same : (reg : Register) → PlacedIn n reg → locked_of (row_of reg).lock (port reg) ≡ locked_of (row_of reg).lock (port' reg)
  unfolding row_of of_head of_base of_sub port_in
  locked-same (OfHead Cr) placed = glock-same
  locked-same (OfHead Iasr) placed = glock-same
  locked-same (OfHead Iacr) placed = refl
  locked-same (OfHead Iaesr) placed = glock-same
  locked-same (OfHead Iaddr) placed = glock-same
  locked-same (OfBase x Cfgr) placed = glock-same
  locked-same (OfBase x Start) placed = glock-same
  locked-same (OfBase x End) placed = glock-same
  locked-same (OfBase x Cidcfgr) placed = glock-same
  locked-same (OfSub x s SubCfgr) (h, l) = rlock-same x s h l
  locked-same (OfSub x s SubStart) (h, l) = rlock-same x s h l
  locked-same (OfSub x s SubEnd) (h, l) = rlock-same x s h l
  locked-same (OfSub x s Nest) placed = glock-same

  read_same : (reg : Register) → PlacedIn n reg → read_of (row_of reg) (port reg).word ≡ read_of (row_of reg) (port' reg).word
  unfolding read_of port_in
  read_same reg placed = same-masked (row_of reg).named _ _ _ (has reg placed) (stored_same (row_of reg).place)

  answer-same : (there : Bool) (bus : Bus) (reg : Register) → PlacedIn n reg → (q : Request)
      → answer_of there bus (row_of reg) (port reg) q ≡ answer_of there bus (row_of reg) (port' reg) q
  unfolding answer_of checks_of
  answer-same there bus reg placed q = rw (allowed_same bus reg placed q, locked-same reg placed, read_same reg placed)

  -- where it is done
  written_same : (granule : ℕ) (reg : Register) → PlacedIn n reg → (value : ℕ) (secure : Bool)
      → Alike Same G (with_word g (row_of reg).place (word_written granule (row_of reg) (port reg) value secure))
      (with_word g' (row_of reg).place (word_written granule (row_of reg) (port' reg) value secure))
  unfolding port_in
  written_same granule reg placed value secure =
      let row = row_of reg in
      word-alike row.place (same_refl 0 0) same
      (word_same granule row.named _ value secure row.form (port reg) (port' reg) glock-same (stored_same row.place))

  -- where it is refused
  refused-same : Alike Same G (with_word g iasr_at (with_bit 32 g.iasr 0 true)) (with_word g' iasr_at (with_bit 32 g'.iasr 0 true))
  refused-same = word-alike iasr_at (same_refl 0 0) same (same_set G.iasr g.iasr g'.iasr 0 same.iasr)

  leaves-same : (granule : ℕ) (reg : Register) → PlacedIn n reg → (q : Request) (a : Answer) (w : Bool)
      → Alike Same G (leaves granule a w g reg q) (leaves granule a w g' reg q)
  unfolding port_in
  leaves-same granule reg placed q (Done v) true = written_same granule reg placed q.value q.secure
  leaves-same granule reg placed q (Done v) false = same
  leaves-same granule reg placed q (Refused v) w = refused-same
  leaves-same granule reg placed q (Rejected why) w = same

pub stepped_same : (there : Bool) (shape : Shape) {G g g' : Guard} → Has shape.regions G → Alike Same G g g' → (q : Request)
    → ((stepped there shape g q).answer ≡ (stepped there shape g' q).answer)
    × Alike Same G (stepped there shape g q).next (stepped there shape g' q).next
unfolding stepped stepped_at row_at accessed port_in
stepped_same there shape {G} {g} {g'} has same q = by (register_at shape.regions q.offset) (register-own shape.regions q.offset)
  where
    by : (r : Option Register) → IfSome r (PlacedIn shape.regions)
        → ((stepped_at there shape (option_map row_of r) g q).answer ≡ (stepped_at there shape (option_map row_of r) g' q).answer)
        × Alike Same G (stepped_at there shape (option_map row_of r) g q).next (stepped_at there shape (option_map row_of r) g' q).next
    by None placed = (refl, same)
    by (Some reg) placed =
        let e = answer-same has same there shape.bus reg placed q in
        (e, rw e (leaves-same has same shape.granule reg placed q (answer_of there shape.bus (row_of reg) (port_in (guard_words g') (row_of reg)) q) q.write))
