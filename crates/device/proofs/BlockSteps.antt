-- A register access to the controller or to the IAC, by what the code's calls give.
use mathlib.Core.Bool.{Bool, true, false, cond}
use mathlib.Core.Path.{◌≡◌, refl, sym, ap, ◌∙◌}
use Prim.Native.Nat.{ℕ, ◌%◌}
use lib.Dec.{eqb}
use borrow.Author.Tests.{eq-eqb, ne_eqb}
use Rattle.std.specs.Prelude.{Option, Some, None}
use Rattle.access.specs.declared.accessed.Accessed.{Accessed}
use Rattle.access.specs.Answer.{left}
use Rattle.access.specs.Checks.{answered_with, reached_with, unless}
use Rattle.access.specs.declared.answer.Why.{Why}
use Rattle.access.specs.declared.answer.Why.TheVariants.{Misaligned, NoRegister}
use Rattle.access.specs.declared.answer.Answer.{Answer}
use Rattle.access.specs.declared.answer.Answer.TheVariants.{Done, Refused, Rejected}
use Rattle.access.specs.declared.request.Request.{Request}
use Rattle.rifsc.specs.Port as rifsc
use Rattle.rifsc.proofs.PortLaws.{read_is, read_none}
use Rattle.rifsc.specs.Contents.{seen, stored, with_stored}
use Rattle.rifsc.specs.Registers.{register_at, row_of}
use Rattle.rifsc.specs.declared.port.Seen.{Seen}
use Rattle.rifsc.specs.declared.registers.Register.{Register}
use Rattle.rifsc.specs.declared.registers.Row.{Row}
use Rattle.iac.specs.Held.{held}
use Rattle.iac.specs.Port as iac
use Rattle.iac.proofs.PortLaws as iac-laws
use Rattle.iac.specs.Contents as iac-contents
use Rattle.iac.specs.Registers as iac-registers
use Rattle.iac.specs.declared.port.Seen.{Seen as IacSeen}
use Rattle.iac.specs.declared.registers.Register.{Register as IacRegister}
use Rattle.iac.specs.declared.registers.Row.{Row as IacRow}
use Rattle.device.specs.State.{State, flagged, with_rifsc, with_iac}
use Rattle.device.specs.Step.{Outcome, settled, rifsc_flag, iac_flag, register_step}
use Rattle.device.specs.declared.event.Block.TheVariants.{Rifsc, Iac}

-- an access that leaves the state
abbrev Leaves : Why → Outcome → State → Type 0
Leaves why o s = (Rejected why ≡ o.answer) × (s ≡ o.next)

-- what an access to a register, or to none, leaves
abbrev pub controller_at : Option Register → Request → State → Outcome
controller_at reg q s =
    let o = rifsc.stepped_at reg s.rifsc q in
    settled o.answer rifsc_flag s (with_rifsc s o.next)

abbrev pub flags_at : Option IacRegister → Request → State → Outcome
flags_at reg q s =
    let o = iac.stepped_at reg s.iac q in
    settled o.answer iac_flag s (with_iac s o.next)

-- ---- an offset that is no multiple of 4

module _ (s : State) (q : Request) (h : q.offset % 4 ≡ 0 → ⊥) where
  pub controller-misaligned : Leaves Misaligned (register_step Rifsc q s) s
  unfolding register_step rifsc.stepped_at rifsc.answer_of rifsc.checks_of answered_with
  controller-misaligned = at (register_at q.offset)
    where
      at : (o : Option Register) → Leaves Misaligned (controller_at o q s) s
      at None = rw (ne_eqb (q.offset % 4) 0 h) (refl, refl)
      at (Some reg) = rw (ne_eqb (q.offset % 4) 0 h) (refl, refl)

  pub flags-misaligned : Leaves Misaligned (register_step Iac q s) s
  unfolding register_step iac.stepped_at iac.answer_of iac.checks_of answered_with
  flags-misaligned = at (iac-registers.register_at q.offset)
    where
      at : (o : Option IacRegister) → Leaves Misaligned (flags_at o q s) s
      at None = rw (ne_eqb (q.offset % 4) 0 h) (refl, refl)
      at (Some reg) = rw (ne_eqb (q.offset % 4) 0 h) (refl, refl)

-- ---- one that is no register's

module _ (s : State) (q : Request) (h : q.offset % 4 ≡ 0) where
  pub controller-none : register_at q.offset ≡ None → Leaves NoRegister (register_step Rifsc q s) s
  unfolding register_step rifsc.stepped_at answered_with reached_with
  controller-none e = rw (e, eq-eqb (q.offset % 4) 0 h) (refl, refl)

  pub flags-none : iac-registers.register_at q.offset ≡ None → Leaves NoRegister (register_step Iac q s) s
  unfolding register_step iac.stepped_at answered_with reached_with
  flags-none e = rw (e, eq-eqb (q.offset % 4) 0 h) (refl, refl)

-- what a read and an access give of none, at any offset
module _ (s : State) (q : Request) where
  pub controller-none-read : {a : Answer} (x : ℕ) → register_at q.offset ≡ None → a ≡ rifsc.read_answer None x q.offset
      → register_step Rifsc q s ≡ settled a rifsc_flag s s
  unfolding register_step rifsc.stepped_at
  controller-none-read x e k = rw (e, k, ← read_none x q.offset) refl

  pub controller-none-is : {r : Accessed Seen} (v : Seen) → register_at q.offset ≡ None → r ≡ rifsc.accessed_at None None v q
      → register_step Rifsc q s ≡ settled r.answer rifsc_flag s s
  unfolding register_step rifsc.stepped_at rifsc.accessed_at
  controller-none-is v e k = rw (e, k) refl

  pub flags-none-read : {a : Answer} (x : ℕ) → iac-registers.register_at q.offset ≡ None → a ≡ iac.read_answer None x q
      → register_step Iac q s ≡ settled a iac_flag s s
  unfolding register_step iac.stepped_at
  flags-none-read x e k = rw (e, k, ← iac-laws.read_none x q) refl

  pub flags-none-is : {r : Accessed IacSeen} (v : IacSeen) → iac-registers.register_at q.offset ≡ None → r ≡ iac.accessed_at None None v q
      → register_step Iac q s ≡ settled r.answer iac_flag s s
  unfolding register_step iac.stepped_at iac.accessed_at
  flags-none-is v e k = rw (e, k) refl

-- ---- the controller, by what the code's calls give

-- a read, which is never refused
module _ (s : State) (q : Request) (w : q.write ≡ false) {reg : Register} {row : Option Row} {x : ℕ} {a : Answer}
    (eg : register_at q.offset ≡ Some reg) (er : row ≡ Some (row_of reg)) (ex : x ≡ stored s.rifsc reg)
    (ea : a ≡ rifsc.read_answer row x q.offset) where
  abbrev answering : Answer → Outcome
  answering b = settled b rifsc_flag s (with_rifsc s (left b s.rifsc s.rifsc s.rifsc))

  read_step : register_step Rifsc q s ≡ answering a
  unfolding register_step rifsc.stepped_at rifsc.written seen
  read_step = rw (ea, ex, er, eg) (rw (read_is (row_of reg) _ _ q w, w) refl)

  kept : s ≡ (answering a).next
  unfolding rifsc.read_answer rifsc.read_at
  kept = rw (ea, er) (by (eqb (q.offset % 4) 0))
    where
      by : (b : Bool) → s ≡ (answering (unless b (Rejected Misaligned) (Done (rifsc.read_of (row_of reg) x)))).next
      by true = refl
      by false = refl

  pub controller-read : (a ≡ (register_step Rifsc q s).answer) × (s ≡ (register_step Rifsc q s).next)
  controller-read = rw read_step (refl, kept)

module _ (s : State) (q : Request) {reg : Register} {row : Row} {v : Seen} {r : Accessed Seen} (eg : register_at q.offset ≡ Some reg)
    (er : row ≡ row_of reg) (ev : v ≡ seen s.rifsc reg row.lock row.index) (ea : r ≡ rifsc.accessed_at (Some reg) (Some row) v q) where
  controller-is : register_step Rifsc q s
      ≡ settled r.answer rifsc_flag s
      (with_rifsc s
      (left r.answer s.rifsc (cond q.write (with_stored s.rifsc reg (rifsc.word_written reg row v q.value q.secure)) s.rifsc) s.rifsc))
  unfolding register_step rifsc.stepped_at rifsc.written rifsc.accessed_at rifsc.accessed
  controller-is = rw (ea, ev, er, eg)

  controller-answer : r.answer ≡ (register_step Rifsc q s).answer
  controller-answer = sym (ap (λ (o : Outcome). o.answer) controller-is)

  pub controller-written : {t : State} {x : ℕ} → r.answer ≡ Done x → q.write ≡ true
      → t ≡ with_rifsc s (with_stored s.rifsc reg r.next.word)
      → (r.answer ≡ (register_step Rifsc q s).answer) × (t ≡ (register_step Rifsc q s).next)
  unfolding rifsc.accessed_at rifsc.accessed
  controller-written d w e =
      let n : r.next.word ≡ rifsc.word_written reg row v q.value q.secure = ap (λ (o : Accessed Seen). o.next.word) ea ∙ rw (sym (ap (λ (o : Accessed Seen). o.answer) ea) ∙ d, w) in
      (controller-answer, rw controller-is (rw (d, w) (e ∙ ap (λ (k : ℕ). with_rifsc s (with_stored s.rifsc reg k)) n)))

  pub controller-refused : {t : State} {x : ℕ} → r.answer ≡ Refused x → t ≡ flagged rifsc_flag s
      → (r.answer ≡ (register_step Rifsc q s).answer) × (t ≡ (register_step Rifsc q s).next)
  controller-refused d e = (controller-answer, rw controller-is (rw d e))

  pub controller-rejected : {w : Why} → r.answer ≡ Rejected w
      → (r.answer ≡ (register_step Rifsc q s).answer) × (s ≡ (register_step Rifsc q s).next)
  controller-rejected d = (controller-answer, rw controller-is (rw d refl))

-- ---- the IAC, by what the code's calls give

-- a read
module _ (s : State) (q : Request) (w : q.write ≡ false) {reg : IacRegister} {row : Option IacRow} {v : ℕ} {a : Answer}
    (eg : iac-registers.register_at q.offset ≡ Some reg) (er : row ≡ Some (iac-registers.row_of reg)) (ev : v ≡ iac-contents.stored s.iac reg)
    (ea : a ≡ iac.read_answer row v q) where
  abbrev flagging : Answer → Outcome
  flagging b = settled b iac_flag s (with_iac s (left b s.iac s.iac s.iac))

  flags-reading : register_step Iac q s ≡ flagging a
  unfolding register_step iac.stepped_at iac.written
  flags-reading = rw (ea, ev, er, eg) (rw (iac-laws.read_is (iac-registers.row_of reg) _ q w, w) refl)

  pub flags-read-refused : {t : State} {x : ℕ} → a ≡ Refused x → t ≡ flagged iac_flag s
      → (a ≡ (register_step Iac q s).answer) × (t ≡ (register_step Iac q s).next)
  flags-read-refused d e = rw flags-reading (refl, rw d e)

  pub flags-read-kept : ((x : ℕ) → a ≡ Refused x → ⊥) → (a ≡ (register_step Iac q s).answer) × (s ≡ (register_step Iac q s).next)
  flags-read-kept o = rw flags-reading (refl, by a o)
    where
      by : (b : Answer) → ((x : ℕ) → b ≡ Refused x → ⊥) → s ≡ (flagging b).next
      by (Done x) o = refl
      by (Refused x) o = absurd (o x refl)
      by (Rejected y) o = refl

module _ (s : State) (q : Request) {reg : IacRegister} {row : IacRow} {v : ℕ} {r : Accessed IacSeen} (eg : iac-registers.register_at q.offset ≡ Some reg)
    (er : row ≡ iac-registers.row_of reg) (ev : v ≡ iac-contents.stored s.iac reg) (ea : r ≡ iac.accessed_at (Some reg) (Some row) (record { word = v }) q) where
  flags-is : register_step Iac q s
      ≡ settled r.answer iac_flag s
      (with_iac s
      (left r.answer s.iac (cond q.write (held s.iac (iac-contents.with_word s.iac reg (iac.word_written reg v q.value))) s.iac) s.iac))
  unfolding register_step iac.stepped_at iac.written iac.accessed_at iac.accessed
  flags-is = rw (ea, ev, er, eg)

  flags-answer : r.answer ≡ (register_step Iac q s).answer
  flags-answer = sym (ap (λ (o : Outcome). o.answer) flags-is)

  pub flags-written : {t : State} {x : ℕ} → r.answer ≡ Done x → q.write ≡ true
      → t ≡ with_iac s (held s.iac (iac-contents.with_word s.iac reg r.next.word))
      → (r.answer ≡ (register_step Iac q s).answer) × (t ≡ (register_step Iac q s).next)
  unfolding iac.accessed_at iac.accessed
  flags-written d w e =
      let n : r.next.word ≡ iac.word_written reg v q.value = ap (λ (o : Accessed IacSeen). o.next.word) ea ∙ rw (sym (ap (λ (o : Accessed IacSeen). o.answer) ea) ∙ d, w) in
      (flags-answer, rw flags-is (rw (d, w) (e ∙ ap (λ (k : ℕ). with_iac s (held s.iac (iac-contents.with_word s.iac reg k))) n)))

  pub flags-refused : {t : State} {x : ℕ} → r.answer ≡ Refused x → t ≡ flagged iac_flag s
      → (r.answer ≡ (register_step Iac q s).answer) × (t ≡ (register_step Iac q s).next)
  flags-refused d e = (flags-answer, rw flags-is (rw d e))

  pub flags-rejected : {w : Why} → r.answer ≡ Rejected w
      → (r.answer ≡ (register_step Iac q s).answer) × (s ≡ (register_step Iac q s).next)
  flags-rejected d = (flags-answer, rw flags-is (rw d refl))
