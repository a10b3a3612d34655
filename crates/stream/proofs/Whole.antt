-- All that any calls put out, one after the other, with what the end of the input prints, is the transcript of all that they took.
use Rattle.std.proofs.Common.{◌≡◌, ℕ, ◌+◌, ◌-◌, ◌^◌, ◌<◌, ◌≤◌, false, eqb, List, [], ◌∷◌, ◌++◌, length, take, drop, sym, refl, ap, ◌∙◌, append-nil, arith, eq-eqb, ne_eqb, le-leb}
use Rattle.device.specs.Applied.{applied_state}
use Rattle.device.specs.Layout.{layout, state_words}
use Rattle.device.specs.State.{reset_state}
use Rattle.device.specs.Step.{step}
use Rattle.device.specs.declared.event.Event.TheVariants.{Reset}
use Rattle.stream.specs.Blocks.{called, place_at}
use Rattle.stream.specs.Calls.{Call, all_put, all_taken, kept_after, put_by, taken_by}
use Rattle.stream.specs.Kept.{Kept, kept_at_start, line_room}
use Rattle.stream.specs.Transcript.{count, end_text, lines_in, printed, rest, transcript}
use Rattle.stream.proofs.Cut.{headed, headed-rest}
use Rattle.stream.proofs.Goes.{Goes, Holds, goes, held_bytes}

call-goes : {k : Kept} {n : ℕ} {p : List ℕ} → Holds k n p → (c : Call)
    → Goes (place_at 0 k c.out c.at) (called k c.block c.out c.at) c.block n p
unfolding called
call-goes {k} {n} {p} h c =
    rw (eq-eqb (length k.memory) line_room h.long, le-leb k.held.bytes line_room h.few)
    (goes c.block (place_at 0 k c.out c.at) n p h)

-- the end of the input
end-prints : {k : Kept} {n : ℕ} (p : List ℕ) → Holds k n p → n + count (rest p) ≤ 2 ^ 64 → end_text k.held.bytes k.held.number ≡ end_text (length p) n
unfolding end_text count
end-prints {k} {n} [] h few = rw (held_bytes h)
end-prints {k} {n} (b ∷ p) h few =
    let some : k.held.bytes ≡ 0 → ⊥ = λ z. omega (arith, z, held_bytes h) in
    let long : eqb (length (b ∷ p)) 0 ≡ false = ne_eqb (length (b ∷ p)) 0 (λ z. omega (arith, z)) in
    let one : n + 1 ≤ 2 ^ 64 = simp long at few in
    let its : k.held.number ≡ n = omega (arith, h.number, one) in
    rw (ne_eqb k.held.bytes 0 some, its, long)

runs : (cs : List Call) (k : Kept) (n : ℕ) (p : List ℕ) → Holds k n p → n + count (headed p (lines_in (all_taken k cs))) ≤ 2 ^ 64
    → all_put k cs ≡ printed n k.words (headed p (lines_in (all_taken k cs)))
unfolding all_put all_taken lines_in printed
runs [] k n p h few =
    let e : headed p (rest []) ≡ rest p = headed-rest p [] ∙ rw (append-nil p) in
    rw e (end-prints p h (rw (← e) few))
runs (c ∷ cs) k n p h few =
    let g = call-goes h c in
    let after = all_taken (kept_after k c) cs in
    let s = called k c.block c.out c.at in
    let size : s.at - c.at ≡ length g.text = omega (arith, g.put.next) in
    let took : s.took ≡ g.taken = omega (arith, g.took) in
    let its : put_by k c ≡ g.text = ap (λ (i : ℕ). take i (drop c.at s.out)) size ∙ g.put.there in
    let first : taken_by k c ≡ take g.taken c.block = ap (λ (i : ℕ). take i c.block) took in
    let now : n + count (headed p (lines_in (take g.taken c.block ++ after))) ≤ 2 ^ 64 = rw (← first) few in
    rw (its, first)
    (ap (λ (t : List ℕ). g.text ++ t) (runs cs (kept_after k c) g.number g.pending g.holds (omega (arith, now, g.counts after)))
    ∙ sym (g.prints after now))

pub started : (m : List ℕ) → length m ≡ state_words → applied_state Reset m ≡ layout reset_state
unfolding applied_state step
started m h = rw (eq-eqb (length m) state_words h)

-- however the input is cut into blocks, and whatever room each call has
pub whole : (input m memory : List ℕ) (cs : List Call) → length m ≡ state_words → length memory ≡ line_room
    → all_taken (kept_at_start memory m) cs ≡ input → count (lines_in input) < 2 ^ 64 → all_put (kept_at_start memory m) cs ≡ transcript input
unfolding transcript headed
whole input m memory cs sized long all few =
    let k = kept_at_start memory m in
    let lines : count (lines_in (all_taken k cs)) < 2 ^ 64 = rw all few in
    runs cs k 1 [] (record { long = long; few = omega arith; number = refl; line = refl }) (omega (arith, lines))
    ∙ ap (λ (w : List ℕ). printed 1 w (lines_in (all_taken k cs))) (started m sized)
    ∙ ap (λ (i : List ℕ). printed 1 (layout reset_state) (lines_in i)) all
