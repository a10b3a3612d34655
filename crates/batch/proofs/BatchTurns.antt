-- What the loop of a batch keeps, turn by turn: what is still to come, from here on, is what was to come on entry. No program logic.
use mathlib.Core.Bool.{Bool, true, false, ◌&&◌}
use mathlib.Core.List.{List, [], ◌∷◌, ◌++◌, map}
use mathlib.Core.Path.{◌≡◌, refl, sym, ap, ap₂, ◌∙◌}
use Prim.Native.Nat.{ℕ, suc, ◌+◌, ◌<◌, ◌≤◌}
use native.Mathlib.Numerals.{add-one}
use native.Mathlib.Omega.{arith}
use lib.Dec.{leb}
use lib.ListN.{length, get_or, set, drop}
use lib.Seq.{drop-cons, drop-length, sets, sets-eq}
use borrow.Author.Tests.{leb-true}
use Rattle.access.specs.Answer.{encoded_of}
use Rattle.access.specs.Kind.{kind_of}
use Rattle.device.specs.Applied.{sized, applied_answer, applied_state}
use Rattle.batch.specs.Batch.{fits, applied, applied_answers, batched, batch_state, batch_answers}
use Rattle.access.specs.declared.answer.Answer.{Answer}
use Rattle.access.specs.declared.answer.Answer.TheVariants.{Done, Rejected}
use Rattle.access.specs.declared.answer.Why.TheVariants.{WrongLength}
use Rattle.device.specs.Layout.{state_words}
use Rattle.device.specs.declared.event.MemoryAccess.{MemoryAccess}
use Rattle.device.specs.declared.event.Event.TheVariants.{Memory}

-- what stands for an access past the list's end; none is asked for
abbrev pub none : MemoryAccess
none = record { guard = record { 0 = 0 }; offset = 0; width = 0; kind = kind_of 0 }

-- the answers to accesses, as they are stored
abbrev coded : List MemoryAccess → List ℕ → List ℕ
coded ys m = map encoded_of (applied_answers (map Memory ys) m)

length-coded : (ys : List MemoryAccess) (m : List ℕ) → length (coded ys m) ≡ length ys
unfolding applied_answers
length-coded [] m = refl
length-coded (y ∷ ys) m = ap suc (length-coded ys (applied_state (Memory y) m))

-- both of two tests are passed
pub first : (a b : Bool) → (a && b) ≡ true → a ≡ true
first true b e = refl
first false b e = e

pub second : (a b : Bool) → (a && b) ≡ true → b ≡ true
second true b e = e
second false b e = cc

-- what one access does to the two memories
abbrev pub Does : MemoryAccess → ℕ → (st an st' an' : List ℕ) → Type 0
Does y i st an st' an' =
    (st' ≡ applied_state (Memory y) st) × (an' ≡ set an i (encoded_of (applied_answer (Memory y) st)))

-- a batch from the memories st₀ and an₀
module _ (st₀ : List ℕ) (ys : List MemoryAccess) (an₀ : List ℕ) where
  -- what it ensures of its answer and of the two memories
  abbrev pub Ensured : Answer → (st an : List ℕ) → Type 0
  Ensured r st an =
      (r ≡ batched st₀ ys an₀) × ((st ≡ batch_state st₀ ys an₀) × (an ≡ batch_answers st₀ ys an₀))

  -- what holds where i accesses are done
  pub record Kept (i : ℕ) (st an : List ℕ) : Type 0 where
    pub within : i ≤ length ys
    pub words : length st ≡ state_words
    pub places : length an ≡ length an₀
    pub state : applied (map Memory (drop i ys)) st ≡ applied (map Memory ys) st₀
    pub stored : sets an i (coded (drop i ys) st) ≡ sets an₀ 0 (coded ys st₀)

  pub kept-first : length st₀ ≡ state_words → Kept 0 st₀ an₀
  kept-first h = record { within = omega arith; words = h; places = refl; state = refl; stored = refl }

  pub kept_next : (i : ℕ) (st an st' an' : List ℕ) → i < length ys → Kept i st an → length st' ≡ length st → length an' ≡ length an
      → Does (get_or ys i none) i st an st' an' → Kept (i + 1) st' an'
  unfolding applied applied_answers
  kept_next i st an st' an' h k e₁ e₃ d =
      let here : drop i ys ≡ get_or ys i none ∷ drop (i + 1) ys = rw add-one (drop-cons ys i none h) in
      record {
        within = omega arith;
        words = e₁ ∙ k.words;
        places = e₃ ∙ k.places;
        state = ap (applied (map Memory (drop (i + 1) ys))) d.0 ∙ sym (ap (λ l. applied (map Memory l) st) here) ∙ k.state;
        stored = ap₂ (λ l s. sets l (i + 1) (coded (drop (i + 1) ys) s)) d.1 d.0
            ∙ rw add-one (sym (ap (λ l. sets an i (coded l st)) (rw add-one at here)) ∙ k.stored);
      }

  pub kept-last : (st an : List ℕ) → fits st₀ ys an₀ ≡ true → Kept (length ys) st an → Ensured (Done 0) st an
  unfolding applied applied_answers batched batch_state batch_answers
  kept-last st an f k =
      let end : drop (length ys) ys ≡ [] = drop-length ys in
      let long : 0 + length (coded ys st₀) ≡ length ys = omega (arith, length-coded ys st₀) in
      let room = leb-true (length ys) (length an₀) (second (sized st₀) (leb (length ys) (length an₀)) f) in
      let state : st ≡ applied (map Memory ys) st₀ = sym (ap (λ l. applied (map Memory l) st) end) ∙ k.state in
      let stored : an ≡ coded ys st₀ ++ drop (length ys) an₀ =
      sym (ap (λ l. sets an (length ys) (coded l st)) end) ∙ k.stored ∙ sets-eq (coded ys st₀) an₀ 0 (omega (arith, long, room))
      ∙ ap (λ n. coded ys st₀ ++ drop n an₀) long in
      simp f (refl, (state, stored))

  pub none_done : fits st₀ ys an₀ ≡ false → Ensured (Rejected WrongLength) st₀ an₀
  unfolding batched batch_state batch_answers
  none_done f = simp f (refl, (refl, refl))
