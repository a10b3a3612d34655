-- What is printed from where a call stands is what the call puts out, and then what is printed from where it stops.
use Rattle.std.proofs.Common.{◌≡◌, ℕ, zero, suc, ◌+◌, ◌-◌, ◌%◌, ◌^◌, ◌<◌, ◌≤◌, Bool, true, false, cond, is_some, eqb, List, [], ◌++◌, length, take, drop, sym, refl, ap, ◌∙◌, append_assoc, arith, length-drop, length-take-le, take-add, leb-true}
use native.Mathlib.Decide.{dec_lt}
use lib.Seq.{take-length}
use Rattle.script.specs.Command.{command_of}
use Rattle.response.specs.Response.{most, room_for_longest, text_of}
use Rattle.stream.specs.Blocks.{Place, behind, keeping, kept_behind, stop, whole_line}
use Rattle.stream.specs.Feeds.{feed_at}
use Rattle.stream.specs.Kept.{Kept, kept_count, kept_in, line_room}
use Rattle.stream.specs.Transcript.{Lines, count, line, lines_in, printed}
use Rattle.stream.proofs.Cut.{all_rest, cut, cut_off, feed-within, headed, headed-headed, headed-line, uncut}
use Rattle.stream.proofs.Memory.{begun-long, kept_line, kept-long, kept-most, take-both}
use Rattle.stream.proofs.Put.{Put, put-none, put-over, put_then}
use Rattle.stream.proofs.Turns.{at-bad, full, past-good}

-- the unfinished line p with the number n is kept, as far as there is room
pub record Holds (k : Kept) (n : ℕ) (p : List ℕ) : Type 0 where
  pub long : length k.memory ≡ line_room
  pub few : k.held.bytes ≤ line_room
  pub number : k.held.number ≡ n % 2 ^ 64
  pub line : take k.held.bytes k.memory ≡ take line_room p

pub held_bytes : {k : Kept} {n : ℕ} {p : List ℕ} → Holds k n p → k.held.bytes ≡ length (take line_room p)
held_bytes {k} {n} {p} h = sym (length-take-le k.held.bytes k.memory (omega (arith, h.long, h.few))) ∙ ap length h.line

-- the line that ends with l is p and l, for what it reads as
whole-line : {k : Kept} {n : ℕ} {p : List ℕ} → Holds k n p → (l : List ℕ) → command_of (whole_line k l) ≡ command_of (p ++ l)
whole-line {k} {n} {p} h l = rw h.line (begun-long p l)

-- more of it is kept
pub holds_more : {k : Kept} {n : ℕ} {p : List ℕ} → Holds k n p → (l : List ℕ)
    → take (kept_count k.held.bytes l) (kept_in k.memory k.held.bytes l) ≡ take line_room (p ++ l)
holds_more {k} {n} {p} h l =
    kept_line k.memory l k.held.bytes h.long h.few ∙ ap (λ (t : List ℕ). t ++ take (line_room - k.held.bytes) l) h.line
    ∙ take-both p l k.held.bytes (held_bytes h)

-- from s, with the line p and the number n, a call takes the first bytes of bs and stands at s'
pub record Goes (s s' : Place) (bs : List ℕ) (n : ℕ) (p : List ℕ) : Type 0 where
  pub taken : ℕ
  pub text : List ℕ
  pub number : ℕ
  pub pending : List ℕ
  pub took : s'.took ≡ s.took + taken
  pub within : taken ≤ length bs
  pub put : Put s.out s.at text s'.out s'.at
  pub holds : Holds s'.kept number pending
  pub counts : (more : List ℕ) → n + count (headed p (lines_in (take taken bs ++ more))) ≡ number + count (headed pending (lines_in more))
  pub prints : (more : List ℕ) → n + count (headed p (lines_in (take taken bs ++ more))) ≤ 2 ^ 64
      → printed n s.kept.words (headed p (lines_in (take taken bs ++ more))) ≡ text ++ printed number s'.kept.words (headed pending (lines_in more))

goes-nowhere : {s : Place} {n : ℕ} {p : List ℕ} (bs : List ℕ) → Holds s.kept n p → Goes s s bs n p
goes-nowhere {s} {n} {p} bs h =
    record {
      taken = 0;
      text = [];
      number = n;
      pending = p;
      took = omega arith;
      within = omega arith;
      put = put-none s.out s.at;
      holds = h;
      counts = λ more. refl;
      prints = λ more few. refl;
    }

goes_then : {s s' s'' : Place} {bs : List ℕ} {n : ℕ} {p : List ℕ} (a : Goes s s' bs n p) → Goes s' s'' (drop a.taken bs) a.number a.pending → Goes s s'' bs n p
goes_then {s} {s'} {s''} {bs} {n} {p} a b =
    let split : (more : List ℕ) → take (a.taken + b.taken) bs ++ more ≡ take a.taken bs ++ (take b.taken (drop a.taken bs) ++ more) =
    λ more. rw (take-add a.taken b.taken bs) (append_assoc (take a.taken bs) (take b.taken (drop a.taken bs)) more) in
    record {
      taken = a.taken + b.taken;
      text = a.text ++ b.text;
      number = b.number;
      pending = b.pending;
      took = omega (arith, a.took, b.took);
      within = omega (arith, a.within, b.within, length-drop a.taken bs);
      put = put_then a.put b.put;
      holds = b.holds;
      counts = λ more. rw (split more) (a.counts (take b.taken (drop a.taken bs) ++ more) ∙ b.counts more);
      prints =
          λ more few.
          let next = take b.taken (drop a.taken bs) ++ more in
          let now : n + count (headed p (lines_in (take a.taken bs ++ next))) ≤ 2 ^ 64 = rw (← split more) few in
          rw (split more)
          (a.prints next now ∙ ap (λ (t : List ℕ). a.text ++ t) (b.prints more (omega (arith, now, a.counts next)))
          ∙ sym (append_assoc a.text b.text (printed b.number s''.kept.words (headed b.pending (lines_in more)))));
    }

-- the rest of a block is kept
goes_last : {s : Place} {n : ℕ} {p : List ℕ} (bs : List ℕ) → Holds s.kept n p → feed_at bs ≡ length bs → Goes s (keeping s bs) bs n p
unfolding keeping
goes_last {s} {n} {p} bs h last =
    let k = s.kept in
    let b = k.held.bytes in
    let lines : (more : List ℕ) → headed p (lines_in (take (length bs) bs ++ more)) ≡ headed (p ++ bs) (lines_in more) =
    λ more. rw (take-length bs, uncut bs more last) (headed-headed p bs (lines_in more)) in
    record {
      taken = length bs;
      text = [];
      number = n;
      pending = p ++ bs;
      took = refl;
      within = omega arith;
      put = put-none s.out s.at;
      holds =
          record {
            long = kept-long k.memory bs b h.long h.few;
            few = kept-most bs b h.few;
            number = h.number;
            line = holds_more h bs;
          };
      counts = λ more. ap (λ (ls : Lines). n + count ls) (lines more);
      prints = λ more few. ap (printed n k.words) (lines more);
    }

memory-long : (a b : List ℕ) (t : Bool) → length a ≡ line_room → length b ≡ line_room → length (cond t a b) ≡ line_room
memory-long a b true h k = h
memory-long a b false h k = k

-- a line ends
unfoldable goes-line : {s : Place} {n : ℕ} {p : List ℕ} (bs : List ℕ) → Holds s.kept n p → feed_at bs < length bs
    → room_for_longest s.out s.at ≡ true → Goes s (behind s (take (feed_at bs) bs)) bs n p
unfolding behind kept_behind headed count printed
goes-line {s} {n} {p} bs h ends room =
    let k = s.kept in
    let l = take (feed_at bs) bs in
    let lines : (more : List ℕ) → headed p (lines_in (take (suc (feed_at bs)) bs ++ more)) ≡ line (p ++ l) (lines_in more) =
    λ more. rw (cut bs more ends) (headed-line p l (lines_in more)) in
    record {
      taken = suc (feed_at bs);
      text = text_of (command_of (whole_line k l)) k.held.number k.words;
      number = suc n;
      pending = [];
      took = omega (arith, length-take-le (feed_at bs) bs (omega (arith, ends)));
      within = omega (arith, ends);
      put = put-over s.out s.at (text_of (command_of (whole_line k l)) k.held.number k.words) (omega (arith, leb-true (s.at + most) (length s.out) room));
      holds =
          record {
            long = memory-long k.memory (kept_in k.memory k.held.bytes l) (eqb k.held.bytes 0) h.long (kept-long k.memory l k.held.bytes h.long h.few);
            few = omega arith;
            number = omega (arith, h.number);
            line = refl;
          };
      counts = λ more. ap (λ (ls : Lines). n + count ls) (lines more) ∙ omega arith;
      prints =
          λ more few.
          let c : n + count (headed p (lines_in (take (suc (feed_at bs)) bs ++ more))) ≡ n + suc (count (lines_in more)) =
          ap (λ (ls : Lines). n + count ls) (lines more) in
          let its : k.held.number ≡ n = omega (arith, h.number, few, c) in
          ap (printed n k.words) (lines more) ∙ rw (its, whole-line h l);
    }

goes_at : {s s' s'' : Place} {bs : List ℕ} {n : ℕ} {p : List ℕ} → s'' ≡ s' → Goes s s' bs n p → Goes s s'' bs n p
goes_at e g = rw e g

-- one line after the other, by what the lines behind the first do
goes_step : (bs : List ℕ) (s : Place) {n : ℕ} {p : List ℕ} → Holds s.kept n p
    → (feed_at bs < length bs → (s' : Place) (n' : ℕ) (p' : List ℕ) → Holds s'.kept n' p'
    → Goes s' (stop s' (lines_in (drop (suc (feed_at bs)) bs))) (drop (suc (feed_at bs)) bs) n' p')
    → Goes s (stop s (lines_in bs)) bs n p
unfolding stop goes-line
goes_step bs s {n} {p} h rec = by (dec_lt (feed_at bs) (length bs))
  where
    by : Dec (feed_at bs < length bs) → Goes s (stop s (lines_in bs)) bs n p
    by (no other) =
        let e : feed_at bs ≡ length bs = omega (arith, other, feed-within bs) in
        goes_at (ap (stop s) (all_rest bs e)) (goes_last bs h e)
    by (yes ends) = go (room_for_longest s.out s.at) (is_some (behind s (take (feed_at bs) bs)).bad) refl refl
      where
        go : (t b : Bool) → room_for_longest s.out s.at ≡ t → is_some (behind s (take (feed_at bs) bs)).bad ≡ b → Goes s (stop s (lines_in bs)) bs n p
        go false b room bad = goes_at (ap (stop s) (cut_off bs ends) ∙ full s (take (feed_at bs) bs) (lines_in (drop (suc (feed_at bs)) bs)) room) (goes-nowhere bs h)
        go true true room bad = goes_at (ap (stop s) (cut_off bs ends) ∙ at-bad s (take (feed_at bs) bs) (lines_in (drop (suc (feed_at bs)) bs)) room bad) (goes-line bs h ends room)
        go true false room bad =
            let g = goes-line bs h ends room in
            goes_at (ap (stop s) (cut_off bs ends) ∙ past-good s (take (feed_at bs) bs) (lines_in (drop (suc (feed_at bs)) bs)) room bad)
            (goes_then g (rec ends (behind s (take (feed_at bs) bs)) g.number g.pending g.holds))

-- in as many steps as there are bytes at most
goes_in : (steps : ℕ) (bs : List ℕ) → length bs ≤ steps → (s : Place) (n : ℕ) (p : List ℕ) → Holds s.kept n p → Goes s (stop s (lines_in bs)) bs n p
goes_in zero bs f s n p h = goes_step bs s h (λ ends. absurd (omega (arith, f, ends)))
goes_in (suc steps) bs f s n p h =
    goes_step bs s h (λ ends. goes_in steps (drop (suc (feed_at bs)) bs) (omega (arith, f, ends, length-drop (suc (feed_at bs)) bs)))

pub goes : (bs : List ℕ) (s : Place) (n : ℕ) (p : List ℕ) → Holds s.kept n p → Goes s (stop s (lines_in bs)) bs n p
goes bs = goes_in (length bs) bs (omega arith)
