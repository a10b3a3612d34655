-- What a register write does to lock bits, in a controller and in a guard.
use mathlib.Core.Bool.{Bool, true, false, not, ◌&&◌, ◌||◌, cond, true≢false}
use mathlib.Core.List.{List, [], ◌∷◌}
use mathlib.Core.Path.{◌≡◌, refl, sym, ap, ◌∙◌, subst}
use Prim.Native.Nat.{ℕ, zero, suc, ◌+◌, ◌≤◌, ◌<◌}
use native.Mathlib.Nat.{add-zero}
use native.Mathlib.Omega.{arith}
use lib.Dec.{lit<, lit≤}
use lib.ListN.{get_or, set}
use lib.Seq.{get_or-drop}
use borrow.Author.Tests.{not-true}
use Rattle.words.specs.Bit.{bit, word}
use Rattle.words.proofs.Laws.{bit_word, bit-merged}
use Rattle.access.specs.Answer.{number_of}
use Rattle.access.specs.Checks.{unless, answered, answered_with, reached_with}
use Rattle.access.specs.declared.answer.Answer.{Answer}
use Rattle.access.specs.declared.answer.Answer.TheVariants.{Done, Refused, Rejected}
use Rattle.access.specs.declared.answer.Why.TheVariants.{Locked, NoRegister, NoSuch, Misaligned, Outside, Fetch}
use Rattle.access.specs.declared.checks.Checks.{Checks}
use Rattle.access.specs.declared.request.Request.{Request}
use Rattle.rifsc.specs.Contents as rifsc-contents
use Rattle.rifsc.specs.Port as rifsc
use Rattle.rifsc.specs.Registers as rifsc-registers
use Rattle.rifsc.specs.declared.contents.Rifsc.{Rifsc}
use Rattle.rifsc.specs.declared.registers.Register.{Register as RifscRegister}
use Rattle.rifsc.specs.declared.registers.Register.TheVariants as in-rifsc
use Rattle.regions.specs.Words.{sub}
use Rattle.risaf.specs.Contents.{cr_at, head_words, guard_words, with_word}
use Rattle.risaf.specs.Port as risaf
use Rattle.risaf.specs.Port.{port_in, locked_of, word_in, word_written}
use Rattle.risaf.specs.Rows.{of_head, of_base, of_sub, row_of}
use Rattle.risaf.specs.declared.contents.Guard.{Guard}
use Rattle.risaf.specs.declared.guards.Shape.{Shape}
use Rattle.risaf.specs.declared.registers.Head.{Head}
use Rattle.risaf.specs.declared.registers.Head.TheVariants.{Cr, Iasr, Iacr, Iaesr, Iaddr}
use Rattle.risaf.specs.declared.registers.BaseField.{BaseField}
use Rattle.risaf.specs.declared.registers.BaseField.TheVariants.{Cfgr, Start, End, Cidcfgr}
use Rattle.risaf.specs.declared.registers.SubField.{SubField}
use Rattle.risaf.specs.declared.registers.SubField.TheVariants.{SubCfgr, SubStart, SubEnd, Nest}
use Rattle.risaf.specs.declared.registers.Register.{Register as GuardRegister}
use Rattle.risaf.specs.declared.registers.Register.TheVariants.{OfHead, OfBase, OfSub}
use Rattle.risaf.specs.declared.rows.Row.{Row}
use Rattle.std.specs.Prelude.{Option, Some, None}
use Rattle.device.proofs.Effects.{guard_written, rifsc_written}

-- ---- one bit

-- bit i stays 1
abbrev Keeps : ℕ → ℕ → ℕ → Type 0
Keeps i old new = bit old i ≡ true → bit new i ≡ true

raised_keeps : (old value bits i : ℕ) → i < 32 → Keeps i old (word 32 (λ j. bit old j || bit bits j && bit value j))
raised_keeps old value bits i l h =
    bit_word 32 (λ j. bit old j || bit bits j && bit value j) i l ∙ ap (λ (b : Bool). b || bit bits i && bit value i) h

-- ---- an element of a list after a store, and one of two

pub stored-by : {A : Type 0} (P : A → Type 0) (l : List A) (i j : ℕ) (v d : A) → P (get_or l j d) → (i ≡ j → P v)
    → P (get_or (set l i v) j d)
stored-by P [] i j v d p q = p
stored-by P (x ∷ l) zero zero v d p q = q refl
stored-by P (x ∷ l) zero (suc j) v d p q = p
stored-by P (x ∷ l) (suc i) zero v d p q = p
stored-by P (x ∷ l) (suc i) (suc j) v d p q = stored-by P l i j v d p (λ e. q (ap suc e))

-- a word stored over one whose bit it keeps
stored-keeps : (l : List ℕ) (k j v i : ℕ) → (k ≡ j → Keeps i (get_or l k 0) v) → Keeps i (get_or l j 0) (get_or (set l k v) j 0)
stored-keeps l k j v i keeps h =
    stored-by (λ w. bit w i ≡ true) l k j v 0 h
    (λ e. keeps e (subst (λ m. bit (get_or l m 0) i ≡ true) (sym e) h))

cond-by : {A : Type 0} (P : A → Type 0) (b : Bool) (x y : A) → (b ≡ true → P x) → P y → P (cond b x y)
cond-by P true x y p q = p refl
cond-by P false x y p q = q

-- ---- the controller's locks: GLOCK, RIMC_CR's, and the RLOCK bits

abbrev pub RifscHeld : Rifsc → Rifsc → Type 0
RifscHeld r t =
    record {
      cr : Keeps 0 r.cr t.cr;
      rimccr : Keeps 0 r.rimccr t.rimccr;
      rcfglockr : (x i : ℕ) → i < 32 → Keeps i (get_or r.rcfglockr x 0) (get_or t.rcfglockr x 0);
    }

pub rifsc-still : (r : Rifsc) → RifscHeld r r
rifsc-still r = record { cr = λ h. h; rimccr = λ h. h; rcfglockr = λ x i l h. h }

-- the word that a write leaves, and the bits that it takes
abbrev word_of : Rifsc → RifscRegister → ℕ → Bool → ℕ
word_of r reg value secure =
    let row = rifsc-registers.row_of reg in
    rifsc.word_written reg row (rifsc-contents.seen r reg row.lock row.index) value secure

abbrev takes_of : Rifsc → RifscRegister → ℕ → Bool → ℕ → Bool
takes_of r reg value secure =
    let row = rifsc-registers.row_of reg in
    rifsc.takes reg row (rifsc-contents.seen r reg row.lock row.index) value secure

-- a bit that a write takes only where it is 1
taken-keeps : (r : Rifsc) (reg : RifscRegister) (value : ℕ) (secure : Bool) (i : ℕ) → i < 32
    → (takes_of r reg value secure i ≡ true → bit value i ≡ true) → Keeps i (rifsc-contents.stored r reg) (word_of r reg value secure)
unfolding rifsc.word_written rifsc-contents.seen
taken-keeps r reg value secure i l takes h =
    bit_word 32 (λ j. cond (takes_of r reg value secure j) (bit value j) (bit (rifsc-contents.stored r reg) j)) i l
    ∙ cond-by (λ b. b ≡ true) (takes_of r reg value secure i) (bit value i) (bit (rifsc-contents.stored r reg) i) takes h

and_right : (a b : Bool) → (a && b) ≡ true → b ≡ true
and_right true b e = e
and_right false b e = cc

rifsc-stored : (r : Rifsc) (reg : RifscRegister) (value : ℕ) (secure : Bool)
    → RifscHeld r (rifsc-contents.with_stored r reg (word_of r reg value secure))
unfolding rifsc-contents.with_stored rifsc-contents.stored rifsc.takes
rifsc-stored r in-rifsc.Cr value secure =
    record { cr = taken-keeps r in-rifsc.Cr value secure 0 (lit< tt) (and_right (bit (rifsc-registers.row_of in-rifsc.Cr).named 0) (bit value 0)); rimccr = λ h. h; rcfglockr = λ x i l h. h }
rifsc-stored r (in-rifsc.Seccfgr x) value secure = rifsc-still r
rifsc-stored r (in-rifsc.Privcfgr x) value secure = rifsc-still r
rifsc-stored r (in-rifsc.Rcfglockr x) value secure =
    record {
      cr = λ h. h;
      rimccr = λ h. h;
      rcfglockr =
          λ y i l.
          stored-keeps r.rcfglockr x y _ i
          (λ e. taken-keeps r (in-rifsc.Rcfglockr x) value secure i l (and_right (bit (rifsc-registers.row_of (in-rifsc.Rcfglockr x)).named i) (bit value i)));
    }
rifsc-stored r in-rifsc.Rimccr value secure =
    record { cr = λ h. h; rimccr = taken-keeps r in-rifsc.Rimccr value secure 0 (lit< tt) (λ e. e); rcfglockr = λ x i l h. h }
rifsc-stored r (in-rifsc.Attr m) value secure = rifsc-still r
rifsc-stored r (in-rifsc.Ppsr x) value secure = rifsc-still r

pub rifsc-written : (r : Rifsc) (o : Option RifscRegister) (q : Request) → RifscHeld r (rifsc_written o q r)
unfolding rifsc.written
rifsc-written r None q = rifsc-still r
rifsc-written r (Some reg) q =
    cond-by (RifscHeld r) q.write (rifsc-contents.with_stored r reg (word_of r reg q.value q.secure)) r
    (λ w. rifsc-stored r reg q.value q.secure) (rifsc-still r)

-- ---- a guard's locks: GLOCK, and RLOCK of each subregion

abbrev pub GuardHeld : Guard → Guard → Type 0
GuardHeld g t =
    record {
      cr : Keeps 0 g.cr t.cr;
      regions : (x p : ℕ) → Keeps 1 (get_or g.regions (sub x p) 0) (get_or t.regions (sub x p) 0);
    }

pub guard-still : (g : Guard) → GuardHeld g g
guard-still g = record { cr = λ h. h; regions = λ x p h. h }

-- a word stored at a place keeps the lock bit that is there
record PlaceHeld (w : List ℕ) (place v : ℕ) : Type 0 where
  cr : place ≡ cr_at → Keeps 0 (get_or w place 0) v
  regions : (x p : ℕ) → place ≡ head_words + sub x p → Keeps 1 (get_or w place 0) v

word-stored : (g : Guard) (place v : ℕ) → PlaceHeld (guard_words g) place v → GuardHeld g (with_word g place v)
unfolding with_word
word-stored g place v held =
    let w = guard_words g in
    record {
      cr = stored-keeps w place cr_at v 0 held.cr;
      regions =
          λ x p h.
          ap (λ (u : ℕ). bit u 1) (get_or-drop head_words (set w place v) (sub x p) 0)
          ∙ stored-keeps w place (head_words + sub x p) v 1 (held.regions x p)
          (sym (ap (λ (u : ℕ). bit u 1) (get_or-drop head_words w (sub x p) 0)) ∙ h);
    }

-- where there is none
lockless : {w : List ℕ} {place v : ℕ} → (place ≡ cr_at → ⊥) → ((x p : ℕ) → place ≡ head_words + sub x p → ⊥) → PlaceHeld w place v
lockless head region = record { cr = λ e. absurd (head e); regions = λ x p e. absurd (region x p e) }

-- a write that no lock stops
module _ (granule : ℕ) (w : List ℕ) (value : ℕ) (secure : Bool) where
  abbrev RowHeld : Row → Type 0
  RowHeld row = locked_of row.lock (port_in w row) ≡ false → PlaceHeld w row.place (word_written granule row (port_in w row) value secure)

  head-held : (head : Head) → RowHeld (of_head head)
  unfolding of_head word_in port_in
  head-held Cr free =
      record {
        cr = λ e. raised_keeps (get_or w cr_at 0) value (of_head Cr).named 0 (lit< tt);
        regions = λ x p e. absurd (omega arith);
      }
  head-held Iasr free = lockless (λ e. omega arith) (λ x p e. omega arith)
  head-held Iacr free = lockless (λ e. omega arith) (λ x p e. omega arith)
  head-held Iaesr free = lockless (λ e. omega arith) (λ x p e. omega arith)
  head-held Iaddr free = lockless (λ e. omega arith) (λ x p e. omega arith)

  -- bit 1 is no named one of a base region's CFGR
  base-held : (x : ℕ) (field : BaseField) → RowHeld (of_base x field)
  unfolding of_base word_in port_in
  base-held x Cfgr free =
      record { cr = λ e. absurd (omega arith); regions = λ y p e h. bit-merged 32 _ value _ 1 (lit< tt) ∙ h }
  base-held x Start free = lockless (λ e. omega arith) (λ y p e. omega arith)
  base-held x End free = lockless (λ e. omega arith) (λ y p e. omega arith)
  base-held x Cidcfgr free = lockless (λ e. omega arith) (λ y p e. omega arith)

  -- bit 1 is the RLOCK that stops the write
  sub_held : (x s : ℕ) (field : SubField) → RowHeld (of_sub x s field)
  unfolding of_sub port_in
  sub_held x s SubCfgr free =
      record { cr = λ e. absurd (omega arith); regions = λ y p e h. absurd (true≢false (sym (rw add-zero at h) ∙ free)) }
  sub_held x s SubStart free = lockless (λ e. omega arith) (λ y p e. omega arith)
  sub_held x s SubEnd free = lockless (λ e. omega arith) (λ y p e. omega arith)
  sub_held x s Nest free = lockless (λ e. omega arith) (λ y p e. omega arith)

  row-held : (reg : GuardRegister) → RowHeld (row_of reg)
  unfolding row_of word_in port_in
  row-held (OfHead head) = head-held head
  row-held (OfBase x field) = base-held x field
  row-held (OfSub x s field) = sub_held x s field

-- ---- what is done was not locked

passed : (b : Bool) (refusal rest : Answer) (v : ℕ) → 1 ≤ number_of refusal → unless b refusal rest ≡ Done v → rest ≡ Done v
passed true refusal rest v h e = e
passed false refusal rest v h e = absurd (omega (arith, ap number_of e))

free-last : (b : Bool) (value v : ℕ) → unless b (Rejected Locked) (Done value) ≡ Done v → b ≡ true
free-last true value v e = refl
free-last false value v e = absurd (omega (arith, ap number_of e))

done-free : (c : Checks) (value v : ℕ) → answered c value ≡ Done v → c.unlocked ≡ true
unfolding answered_with reached_with
done-free c value v e =
    free-last c.unlocked value v
    (passed c.direction (Rejected NoRegister) _ v (lit≤ tt)
    (passed c.allowed (Refused 0) _ v (lit≤ tt)
    (passed c.known (Rejected NoRegister) _ v (lit≤ tt)
    (passed c.fetchless (Rejected Fetch) _ v (lit≤ tt)
    (passed c.inside (Rejected Outside) _ v (lit≤ tt)
    (passed c.aligned (Rejected Misaligned) _ v (lit≤ tt)
    (passed c.present (Rejected NoSuch) _ v (lit≤ tt) e)))))))

pub guard-written : (there : Bool) (shape : Shape) (g : Guard) (reg : GuardRegister) (q : Request) (v : ℕ)
    → risaf.answer_of there shape.bus (row_of reg) (port_in (guard_words g) (row_of reg)) q ≡ Done v
    → GuardHeld g (guard_written shape.granule (row_of reg) q g)
unfolding risaf.answer_of risaf.checks_of
guard-written there shape g reg q v e =
    let row = row_of reg in
    let p = port_in (guard_words g) row in
    let locked = locked_of row.lock p in
    let free = done-free (risaf.checks_of there shape.bus row p q) _ v e in
    cond-by (GuardHeld g) q.write _ g
    (λ w.
    rw w (word-stored g row.place _
    (row-held shape.granule (guard_words g) q.value q.secure reg (not-true locked (sym (ap (λ (b : Bool). not b || not locked) w) ∙ free)))))
    (guard-still g)
