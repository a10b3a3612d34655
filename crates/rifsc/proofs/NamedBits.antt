-- The controller changes and reads named bits alone: r is a controller, M has a mask for each of its words.
use mathlib.Core.Bool.{Bool, true, false, not, ◌&&◌, ◌||◌, cond}
use mathlib.Core.Path.{◌≡◌, refl, sym, ap, ap₂, ◌∙◌, subst}
use Prim.Native.Nat.{ℕ, ◌<◌}
use native.Mathlib.Omega.{arith}
use lib.Dec.{eqb, leb, lit<}
use lib.Seq.{set-get_or}
use Rattle.std.specs.Prelude.{Option, Some, None}
use borrow.Author.Tests.{leb-true}
use Rattle.words.specs.Bit.{bit, field, masked}
use Rattle.words.proofs.Alike.{Within, Kept, Same, within-not, within-masked, kept_refl, same_refl, kept_word, same_word, same-masked, Each, each-get, each_set}
use Rattle.access.specs.Answer.{left}
use Rattle.access.specs.Kind.{debugger}
use Rattle.access.specs.Offset.{within}
use Rattle.access.specs.declared.answer.Answer.{Answer}
use Rattle.access.specs.declared.answer.Answer.TheVariants.{Done, Refused, Rejected}
use Rattle.access.specs.declared.request.Request.{Request}
use Rattle.rifsc.specs.Contents.{stored, with_stored, is_locked, seen}
use Rattle.rifsc.specs.Masters.{masters}
use Rattle.rifsc.specs.Port.{read_of, attr_bits, takes, word_written, checks_of, answer_of, written, stepped_at, stepped}
use Rattle.rifsc.specs.Registers.{register_at, row_of}
use Rattle.rifsc.specs.declared.contents.Rifsc.{Rifsc}
use Rattle.rifsc.specs.declared.port.Seen.{Seen}
use Rattle.rifsc.specs.declared.registers.Lock.{Lock}
use Rattle.rifsc.specs.declared.registers.Lock.TheVariants.{Glock, RimcLock, Never}
use Rattle.rifsc.specs.declared.registers.Register.{Register}
use Rattle.rifsc.specs.declared.registers.Register.TheVariants.{Cr, Seccfgr, Privcfgr, Rcfglockr, Rimccr, Attr, Ppsr}

-- ---- compared word by word

pub record Alike (R : ℕ → ℕ → ℕ → Type 0) (M r r' : Rifsc) : Type 0 where
  pub cr : R M.cr r.cr r'.cr
  pub seccfgr : Each R M.seccfgr r.seccfgr r'.seccfgr
  pub privcfgr : Each R M.privcfgr r.privcfgr r'.privcfgr
  pub rcfglockr : Each R M.rcfglockr r.rcfglockr r'.rcfglockr
  pub rimccr : R M.rimccr r.rimccr r'.rimccr
  pub attr : Each R M.attr r.attr r'.attr

module _ {R : ℕ → ℕ → ℕ → Type 0} {M r r' : Rifsc} (z : R 0 0 0) (a : Alike R M r r') where
  stored-alike : (reg : Register) → R (stored M reg) (stored r reg) (stored r' reg)
  unfolding stored
  stored-alike Cr = a.cr
  stored-alike (Seccfgr x) = each-get a.seccfgr z x
  stored-alike (Privcfgr x) = each-get a.privcfgr z x
  stored-alike (Rcfglockr x) = each-get a.rcfglockr z x
  stored-alike Rimccr = a.rimccr
  stored-alike (Attr m) = each-get a.attr z m
  stored-alike (Ppsr x) = z

  with-alike : {v v' : ℕ} (reg : Register) → R (stored M reg) v v' → Alike R M (with_stored r reg v) (with_stored r' reg v')
  unfolding stored with_stored
  with-alike Cr e = record { cr = e; seccfgr = a.seccfgr; privcfgr = a.privcfgr; rcfglockr = a.rcfglockr; rimccr = a.rimccr; attr = a.attr }
  with-alike (Seccfgr x) e =
      record { cr = a.cr; seccfgr = each_set a.seccfgr x 0 e; privcfgr = a.privcfgr; rcfglockr = a.rcfglockr; rimccr = a.rimccr; attr = a.attr }
  with-alike (Privcfgr x) e =
      record { cr = a.cr; seccfgr = a.seccfgr; privcfgr = each_set a.privcfgr x 0 e; rcfglockr = a.rcfglockr; rimccr = a.rimccr; attr = a.attr }
  with-alike (Rcfglockr x) e =
      record { cr = a.cr; seccfgr = a.seccfgr; privcfgr = a.privcfgr; rcfglockr = each_set a.rcfglockr x 0 e; rimccr = a.rimccr; attr = a.attr }
  with-alike Rimccr e = record { cr = a.cr; seccfgr = a.seccfgr; privcfgr = a.privcfgr; rcfglockr = a.rcfglockr; rimccr = e; attr = a.attr }
  with-alike (Attr m) e =
      record { cr = a.cr; seccfgr = a.seccfgr; privcfgr = a.privcfgr; rcfglockr = a.rcfglockr; rimccr = a.rimccr; attr = each_set a.attr m 0 e }
  with-alike (Ppsr x) e = a

-- what is stored for a register, stored again
stored-again : (r : Rifsc) (reg : Register) → with_stored r reg (stored r reg) ≡ r
unfolding stored with_stored
stored-again r Cr = refl
stored-again r (Seccfgr x) = rw (set-get_or r.seccfgr x 0)
stored-again r (Privcfgr x) = rw (set-get_or r.privcfgr x 0)
stored-again r (Rcfglockr x) = rw (set-get_or r.rcfglockr x 0)
stored-again r Rimccr = refl
stored-again r (Attr m) = rw (set-get_or r.attr m 0)
stored-again r (Ppsr x) = refl

-- the register is one there is
abbrev pub Placed : Register → Type 0
Placed Cr = Unit {0}
Placed (Seccfgr x) = Unit {0}
Placed (Privcfgr x) = Unit {0}
Placed (Rcfglockr x) = Unit {0}
Placed Rimccr = Unit {0}
Placed (Attr m) = m < masters
Placed (Ppsr x) = Unit {0}

-- where there is one
abbrev pub PlacedAt : Option Register → Type 0
PlacedAt None = Unit {0}
PlacedAt (Some reg) = Placed reg

pub register-placed : (o : ℕ) → PlacedAt (register_at o)
unfolding register_at
register-placed o =
    go (eqb o 0x000) _ _ (λ e. tt)
    (go (within 0x010 0x027 o) _ _ (λ e. tt)
    (go (within 0x030 0x047 o) _ _ (λ e. tt)
    (go (within 0x050 0x067 o) _ _ (λ e. tt)
    (go (eqb o 0xc00) _ _ (λ e. tt)
    (go (within 0xc10 0xc43 o) _ _ (λ e. omega (arith, leb-true o 0xc43 (last (leb 0xc10 o) (leb o 0xc43) e)))
    (go (within 0xfb0 0xfc7 o) _ _ (λ e. tt) tt))))))
  where
    go : (c : Bool) (a b : Option Register) → (c ≡ true → PlacedAt a) → PlacedAt b → PlacedAt (cond c a b)
    go true a b p q = p refl
    go false a b p q = q

    last : (a b : Bool) → (a && b) ≡ true → b ≡ true
    last true b e = e
    last false b e = cc

-- M has every named bit
abbrev pub Has : Rifsc → Type 0
Has M = (reg : Register) → Placed reg → Within (row_of reg).named (stored M reg)

-- ---- the word that a write leaves

attr-within : (value : ℕ) → Within (attr_bits value) 0x0000_0370
unfolding masked
attr-within value = go (eqb (field value 4 3) debugger.0)
  where
    go : (b : Bool) → Within (cond b 0x0000_0300 0x0000_0370) 0x0000_0370
    go true = within-masked 0x0000_0300 0x0000_0370 refl
    go false = within-masked 0x0000_0370 0x0000_0370 refl

-- a bit that is not named takes no write
takes_none : (reg : Register) (v : Seen) (value : ℕ) (secure : Bool) (j : ℕ) → j < 32 → bit (row_of reg).named j ≡ false
    → takes reg (row_of reg) v value secure j ≡ false
unfolding takes row_of masked
takes_none Cr v value secure j l h = ap (λ (b : Bool). b && bit value j) h
takes_none (Seccfgr x) v value secure j l h = ap (λ (b : Bool). b && not (bit v.rlock j)) h
takes_none (Privcfgr x) v value secure j l h =
    ap (λ (b : Bool). b && not (bit v.rlock j) && (secure || not (bit v.sec j))) h
takes_none (Rcfglockr x) v value secure j l h = ap (λ (b : Bool). b && bit value j) h
takes_none Rimccr v value secure j l h =
    ap₂ (λ (a b : Bool). a || b && bit value j) (within-not 0x0000_0700 0x0000_0701 (within-masked 0x0000_0700 0x0000_0701 refl) j l h)
    (within-not 0x0000_0001 0x0000_0701 (within-masked 0x0000_0001 0x0000_0701 refl) j l h)
takes_none (Attr m) v value secure j l h = within-not (attr_bits value) 0x0000_0370 (attr-within value) j l h
takes_none (Ppsr x) v value secure j l h = refl

-- ---- an access changes named bits alone

-- what an access to a register looks at
abbrev seen_of : Rifsc → Register → Seen
seen_of r reg = seen r reg (row_of reg).lock (row_of reg).index

-- what it leaves, by its answer; w says whether it is a write
abbrev leaves : Answer → Bool → Rifsc → Register → Request → Rifsc
leaves a w r reg q = left a r (cond w (with_stored r reg (word_written reg (row_of reg) (seen_of r reg) q.value q.secure)) r) r

module _ {M r : Rifsc} (has : Has M) (own : Alike Kept M r r) where
  word_kept : (reg : Register) → Placed reg → (value : ℕ) (secure : Bool)
      → Kept (stored M reg) (word_written reg (row_of reg) (seen_of r reg) value secure) (stored r reg)
  unfolding word_written seen
  word_kept reg placed value secure =
      kept_word (stored M reg) (stored r reg) _
      (λ j l h.
      ap (λ (b : Bool). cond b (bit value j) (bit (stored r reg) j))
      (takes_none reg (seen_of r reg) value secure j l (within-not (row_of reg).named (stored M reg) (has reg placed) j l h)))

  pub stepped_kept : (q : Request) → Alike Kept M (stepped r q).next r
  unfolding stepped_at written
  stepped_kept q = at (register_at q.offset) (register-placed q.offset)
    where
      go : (reg : Register) → Placed reg → (a : Answer) (w : Bool) → Alike Kept M (leaves a w r reg q) r
      go reg placed (Done v) true =
          subst (Alike Kept M (with_stored r reg _)) (stored-again r reg)
          (with-alike (kept_refl 0 0) own reg (word_kept reg placed q.value q.secure))
      go reg placed (Done v) false = own
      go reg placed (Refused v) w = own
      go reg placed (Rejected why) w = own

      at : (o : Option Register) → PlacedAt o → Alike Kept M (stepped_at o r q).next r
      at None placed = own
      at (Some reg) placed = go reg placed (stepped_at (Some reg) r q).answer q.write

-- ---- it reads named bits alone, and leaves them alike where they were

module _ {M r r' : Rifsc} (has : Has M) (same : Alike Same M r r') where
  stored_same : (reg : Register) → Same (stored M reg) (stored r reg) (stored r' reg)
  stored_same reg = stored-alike (same_refl 0 0) same reg

  pub bit-same : (reg : Register) → Placed reg → (j : ℕ) → j < 32 → bit (row_of reg).named j ≡ true → bit (stored r reg) j ≡ bit (stored r' reg) j
  bit-same reg placed j l h = (stored_same reg).bits j l (has reg placed j l h)

  locked-same : (lock : Lock) → is_locked r lock ≡ is_locked r' lock
  unfolding stored row_of
  locked-same Glock = bit-same Cr tt 0 (lit< tt) refl
  locked-same RimcLock = bit-same Rimccr tt 0 (lit< tt) refl
  locked-same Never = refl

  answer-same : (reg : Register) → Placed reg → (q : Request) → (stepped_at (Some reg) r q).answer ≡ (stepped_at (Some reg) r' q).answer
  unfolding stepped_at answer_of checks_of read_of seen
  answer-same reg placed q =
      rw (locked-same (row_of reg).lock, same-masked (row_of reg).named (stored M reg) _ _ (has reg placed) (stored_same reg))

  -- a named bit is taken of both or of none
  takes_same : (reg : Register) (value : ℕ) (secure : Bool) (j : ℕ) → j < 32 → bit (row_of reg).named j ≡ true
      → takes reg (row_of reg) (seen_of r reg) value secure j ≡ takes reg (row_of reg) (seen_of r' reg) value secure j
  unfolding takes row_of stored seen
  takes_same Cr value secure j l h = refl
  takes_same (Seccfgr x) value secure j l h = rw (bit-same (Rcfglockr x) tt j l h)
  takes_same (Privcfgr x) value secure j l h = rw (bit-same (Rcfglockr x) tt j l h, bit-same (Seccfgr x) tt j l h)
  takes_same (Rcfglockr x) value secure j l h = refl
  takes_same Rimccr value secure j l h = refl
  takes_same (Attr m) value secure j l h = refl
  takes_same (Ppsr x) value secure j l h = refl

  word_same : (reg : Register) (value : ℕ) (secure : Bool)
      → Same (stored M reg) (word_written reg (row_of reg) (seen_of r reg) value secure) (word_written reg (row_of reg) (seen_of r' reg) value secure)
  unfolding word_written seen
  word_same reg value secure =
      same_word (stored M reg) _ _
      (λ j l h. ap₂ (λ (a b : Bool). cond a (bit value j) b) (either j l (bit (row_of reg).named j) refl) ((stored_same reg).bits j l h))
    where
      either : (j : ℕ) → j < 32 → (b : Bool) → bit (row_of reg).named j ≡ b
          → takes reg (row_of reg) (seen_of r reg) value secure j ≡ takes reg (row_of reg) (seen_of r' reg) value secure j
      either j l true e = takes_same reg value secure j l e
      either j l false e = takes_none reg (seen_of r reg) value secure j l e ∙ sym (takes_none reg (seen_of r' reg) value secure j l e)

  pub stepped_same : (q : Request) → ((stepped r q).answer ≡ (stepped r' q).answer) × Alike Same M (stepped r q).next (stepped r' q).next
  unfolding stepped_at written
  stepped_same q = at (register_at q.offset) (register-placed q.offset)
    where
      go : (reg : Register) (a : Answer) (w : Bool) → Alike Same M (leaves a w r reg q) (leaves a w r' reg q)
      go reg (Done v) true = with-alike (same_refl 0 0) same reg (word_same reg q.value q.secure)
      go reg (Done v) false = same
      go reg (Refused v) w = same
      go reg (Rejected why) w = same

      at : (o : Option Register) → PlacedAt o
          → ((stepped_at o r q).answer ≡ (stepped_at o r' q).answer) × Alike Same M (stepped_at o r q).next (stepped_at o r' q).next
      at None placed = (refl, same)
      at (Some reg) placed = let e = answer-same reg placed q in (e, rw e (go reg (stepped_at (Some reg) r' q).answer q.write))
