-- Parts of a run: a call, what is written out, one part behind the other, and the end.
use Rattle.std.proofs.Common.{◌≡◌, ℕ, ◌+◌, ◌-◌, ◌^◌, ◌<◌, ◌≤◌, Bool, true, false, cond, is_some, List, [], ◌∷◌, ◌++◌, length, take, drop, sym, refl, ap, ◌∙◌, append-nil, append_assoc, arith, take-add, take_at, take-append-drop, leb-true, subst, eqb}
use Rattle.std.specs.Prelude.{Option}
use Rattle.std.specs.Io.KnownBytes.{Appends, Consumes}
use Rattle.std.proofs.KnownBytes.{Appends-nil, Appends-trans, Consumes-nil, Consumes-trans}
use Rattle.std.proofs.lemmas.List.{nil_from_length}
use Rattle.print.specs.Bytes.{bytes}
use Rattle.print.specs.Print.{bad_line}
use Rattle.print.specs.Writing.{bytes_with, place_with}
use Rattle.response.specs.Response.{most, room_for_longest, text_of}
use Rattle.response.proofs.Written.{label-most, roomy}
use Rattle.script.specs.Command.{command_of}
use Rattle.stream.specs.Blocks.{Place, behind, called, fits, given, keeping, place_at, stop, whole_line}
use Rattle.stream.specs.Calls.{Call, all_put, all_taken, kept_after, put_by, taken_by}
use Rattle.stream.specs.Kept.{Kept, kept_at_start, kept_of, line_room}
use Rattle.stream.specs.declared.blocks.Taken.{Taken}
use Rattle.stream.specs.Transcript.{Lines, end_text, line, lines_in, rest}
use Rattle.stream.proofs.Put.{Put, put-none, put-over, put_then}
use Rattle.stream.proofs.Stops.{part_left}
use Rattle.stream.proofs.Turns.{part}
use Rattle.stream.proofs.Whole.{whole}
use Rattle.suthrain.specs.Runs.{Part, Step, Transcribed, kept_by_all, put_by_all}

-- ---- calls

kept-both : (cs ds : List Call) (k : Kept) → kept_by_all k (cs ++ ds) ≡ kept_by_all (kept_by_all k cs) ds
unfolding kept_by_all
kept-both [] ds k = refl
kept-both (c ∷ cs) ds k = kept-both cs ds (kept_after k c)

took-both : (cs ds : List Call) (k : Kept) → all_taken k (cs ++ ds) ≡ all_taken k cs ++ all_taken (kept_by_all k cs) ds
unfolding kept_by_all all_taken
took-both [] ds k = refl
took-both (c ∷ cs) ds k =
    ap (λ (t : List ℕ). taken_by k c ++ t) (took-both cs ds (kept_after k c))
    ∙ sym (append_assoc (taken_by k c) (all_taken (kept_after k c) cs) (all_taken (kept_by_all (kept_after k c) cs) ds))

put-both : (cs ds : List Call) (k : Kept) → put_by_all k (cs ++ ds) ≡ put_by_all k cs ++ put_by_all (kept_by_all k cs) ds
unfolding kept_by_all put_by_all
put-both [] ds k = refl
put-both (c ∷ cs) ds k =
    ap (λ (t : List ℕ). put_by k c ++ t) (put-both cs ds (kept_after k c))
    ∙ sym (append_assoc (put_by k c) (put_by_all (kept_after k c) cs) (put_by_all (kept_by_all (kept_after k c) cs) ds))

-- with what the end prints
put-ended : (cs : List Call) (k : Kept)
    → all_put k cs ≡ put_by_all k cs ++ end_text (kept_by_all k cs).held.bytes (kept_by_all k cs).held.number
unfolding kept_by_all put_by_all all_put
put-ended [] k = refl
put-ended (c ∷ cs) k =
    let l = kept_by_all (kept_after k c) cs in
    ap (λ (t : List ℕ). put_by k c ++ t) (put-ended cs (kept_after k c))
    ∙ sym (append_assoc (put_by k c) (put_by_all (kept_after k c) cs) (end_text l.held.bytes l.held.number))

-- a call puts its text behind what was filled
put-stop : (ls : Lines) (s : Place) → (text : List ℕ) × Put s.out s.at text (stop s ls).out (stop s ls).at
unfolding stop behind keeping
put-stop (rest l) s = ([], put-none s.out s.at)
put-stop (line l more) s = go (room_for_longest s.out s.at) (is_some (behind s l).bad) refl (put-stop more (behind s l))
  where
    text : List ℕ
    text = text_of (command_of (whole_line s.kept l)) s.kept.held.number s.kept.words

    first : room_for_longest s.out s.at ≡ true → Put s.out s.at text (behind s l).out (behind s l).at
    first e = put-over s.out s.at text (omega (arith, leb-true (s.at + most) (length s.out) e))

    go : (t b : Bool) → room_for_longest s.out s.at ≡ t
        → (more-text : List ℕ) × Put (behind s l).out (behind s l).at more-text (stop (behind s l) more).out (stop (behind s l) more).at
        → (x : List ℕ) × Put s.out s.at x (cond t (cond b (behind s l) (stop (behind s l) more)) s).out (cond t (cond b (behind s l) (stop (behind s l) more)) s).at
    go true true e h = (text, first e)
    go true false e h = (text ++ h.0, put_then (first e) h.1)
    go false b e h = ([], put-none s.out s.at)

put-called : (k : Kept) (block out : List ℕ) (at : ℕ) → (text : List ℕ) × Put out at text (called k block out at).out (called k block out at).at
unfolding called
put-called k block out at = go (fits k)
  where
    go : (t : Bool) → (text : List ℕ) × Put out at text (cond t (stop (place_at 0 k out at) (lines_in block)) (place_at 0 k out at)).out
        (cond t (stop (place_at 0 k out at) (lines_in block)) (place_at 0 k out at)).at
    go true = put-stop (lines_in block) (place_at 0 k out at)
    go false = ([], put-none out at)

filled : (k : Kept) (c : Call) → take (called k c.block c.out c.at).at (called k c.block c.out c.at).out ≡ take c.at c.out ++ put_by k c
filled k c =
    let s = called k c.block c.out c.at in
    let p = put-called k c.block c.out c.at in
    let size : s.at - c.at ≡ length p.0 = omega (arith, p.1.next) in
    let its : put_by k c ≡ p.0 = ap (λ (i : ℕ). take i (drop c.at s.out)) size ∙ p.1.there in
    ap (λ (i : ℕ). take i s.out) p.1.next ∙ take-add c.at (length p.0) s.out ∙ ap (λ (t : List ℕ). t ++ take (length p.0) (drop c.at s.out)) p.1.front
    ∙ ap (λ (t : List ℕ). take c.at c.out ++ t) (p.1.there ∙ sym its)

-- ---- parts

pub part-none : (k : Kept) (x : Option (List ℕ)) (b : List ℕ) → Part k k [] x x b b
unfolding kept_by_all all_taken put_by_all
part-none k x b =
    record { calls = []; leads = refl; takes = refl; written = []; appended = Appends-nil x; joined = append-nil b }

-- what is filled is written
pub part-written : (k : Kept) (x y : Option (List ℕ)) (b : List ℕ) → Appends x y b → Part k k [] x y b []
unfolding kept_by_all all_taken put_by_all
part-written k x y b w = record { calls = []; leads = refl; takes = refl; written = b; appended = w; joined = refl }

pub part-call : (k : Kept) (c : Call) (x : Option (List ℕ))
    → Part k (kept_after k c) (taken_by k c) x x (take c.at c.out) (take (called k c.block c.out c.at).at (called k c.block c.out c.at).out)
unfolding kept_by_all all_taken put_by_all
part-call k c x =
    record {
      calls = c ∷ [];
      leads = refl;
      takes = append-nil (taken_by k c);
      written = [];
      appended = Appends-nil x;
      joined = ap (λ (t : List ℕ). take c.at c.out ++ t) (append-nil (put_by k c)) ∙ sym (filled k c);
    }

pub part-then : {k l m : Kept} {s t : List ℕ} {x y z : Option (List ℕ)} {a b c : List ℕ} → Part k l s x y a b → Part l m t y z b c → Part k m (s ++ t) x z a c
part-then {k} {l} {m} {s} {t} {x} {y} {z} {a} {b} {c} p q =
    let at : kept_by_all k p.calls ≡ l = p.leads in
    let first = put_by_all k p.calls in
    let second = put_by_all l q.calls in
    let puts : put_by_all k (p.calls ++ q.calls) ≡ first ++ second = put-both p.calls q.calls k ∙ rw at in
    record {
      calls = p.calls ++ q.calls;
      leads = kept-both p.calls q.calls k ∙ rw at q.leads;
      takes = took-both p.calls q.calls k ∙ rw (at, p.takes, q.takes);
      written = p.written ++ q.written;
      appended = Appends-trans x y z p.written q.written p.appended q.appended;
      joined =
          ap (λ (u : List ℕ). a ++ u) puts ∙ sym (append_assoc a first second) ∙ ap (λ (u : List ℕ). u ++ second) p.joined
          ∙ append_assoc p.written b second ∙ ap (λ (u : List ℕ). p.written ++ u) q.joined ∙ sym (append_assoc p.written q.written c);
    }

part-to : {k l : Kept} {s t : List ℕ} {x y : Option (List ℕ)} {a b : List ℕ} → s ≡ t → Part k l s x y a b → Part k l t x y a b
part-to e p =
    record { calls = p.calls; leads = p.leads; takes = p.takes ∙ e; written = p.written; appended = p.appended; joined = p.joined }

-- what was taken of a block and what is left of it, once n more are taken, and at the end
pub onward : (done left : List ℕ) (n : ℕ) {block : List ℕ} → done ++ left ≡ block → (done ++ take n left) ++ part n (length left) left ≡ block
onward done left n e =
    ap (λ (t : List ℕ). (done ++ take n left) ++ t) (part_left left n) ∙ append_assoc done (take n left) (drop n left)
    ∙ ap (λ (t : List ℕ). done ++ t) (take-append-drop n left) ∙ e

pub all_done : (done left : List ℕ) {block : List ℕ} → length left ≡ 0 → done ++ left ≡ block → done ≡ block
all_done done left none e = sym (append-nil done) ∙ ap (λ (t : List ℕ). done ++ t) (sym (nil_from_length left none)) ∙ e

-- once what is filled is written
pub part-end : {k l : Kept} {s t : List ℕ} {x y z : Option (List ℕ)} {a b : List ℕ} → s ≡ t → Part k l s x y a b → Appends y z b → Part k l t x z a []
part-end {k} {l} {s} {t} {x} {y} {z} {a} {b} e p w = part-to (append-nil s ∙ e) (part-then p (part-written l y z b w))

-- what a call of `stream::take` gave back and left
pub part-taken : (k : Kept) (block out : List ℕ) (at : ℕ) {r : Taken} {out' line' state' : List ℕ} (x : Option (List ℕ))
    → r ≡ given (called k block out at) → out' ≡ (called k block out at).out → line' ≡ (called k block out at).kept.memory
    → state' ≡ (called k block out at).kept.words → Part k (kept_of r.held line' state') (take r.took block) x x (take at out) (take r.filled out')
part-taken k block out at x e o m w = rw (e, o, m, w) (part-call k (record { block = block; out = out; at = at }) x)

-- ---- steps

pub step-none : (k : Kept) (x w : Option (List ℕ)) → Step k k x x w w
step-none k x w = record { input = []; consumed = Consumes-nil x; part = part-none k w [] }

-- a block is read and taken, nothing being filled before
pub step-block : {k l m : Kept} {x y z u v w : Option (List ℕ)} {s a : List ℕ} → Step k l x y u v → Consumes y z s → a ≡ [] → Part l m s v w a []
    → Step k m x z u w
step-block {k} {l} {m} {x} {y} {z} {u} {v} {w} {s} {a} p read none q =
    record {
      input = p.input ++ s;
      consumed = Consumes-trans x y z p.input s p.consumed read;
      part = part-then p.part (subst (λ (b : List ℕ). Part l m s v w b []) none q);
    }

-- the end of the input: what it prints has room
end-most : (t : Bool) (number : ℕ) → number < 2 ^ 64 → length (cond t [] (bad_line number)) ≤ most
end-most true number few = omega arith
end-most false number few = omega (arith, label-most (bytes "bad\t") number few)

ended : (out : List ℕ) (count-of number : ℕ) {out' : List ℕ} {p : ℕ} → number < 2 ^ 64 → most ≤ length out
    → p ≡ place_with out 0 (end_text count-of number) → out' ≡ bytes_with out 0 (end_text count-of number) → take p out' ≡ end_text count-of number
unfolding end_text
ended out count-of number {out'} {p} few room place text =
    let last = cond (eqb count-of 0) [] (bad_line number) in
    let w = roomy (omega (arith, end-most (eqb count-of 0) number few, room)) place text in
    let size : p ≡ length last = omega (arith, w.next) in
    rw (size, w.bytes) (take_at last (drop (0 + length last) out) (length last) refl)

pub transcribed : (m memory : List ℕ) {k : Kept} {x y u v w : Option (List ℕ)} (out : List ℕ) {out' : List ℕ} {p : ℕ}
    → Step (kept_at_start memory m) k x y u v → length memory ≡ line_room → k.held.number < 2 ^ 64 → most ≤ length out
    → p ≡ place_with out 0 (end_text k.held.bytes k.held.number) → out' ≡ bytes_with out 0 (end_text k.held.bytes k.held.number)
    → Appends v w (take p out') → Transcribed x y u w m
transcribed m memory {k} {x} {y} {u} {v} {w} out {out'} {p} s long number room place text appended =
    let k₀ = kept_at_start memory m in
    let t = s.part in
    let last = end_text k.held.bytes k.held.number in
    let all : t.written ++ take p out' ≡ all_put k₀ t.calls =
    rw (ended out k.held.bytes k.held.number number room place text, sym (t.joined ∙ append-nil t.written), put-ended t.calls k₀, t.leads) in
    record {
      input = s.input;
      consumed = s.consumed;
      printed =
          λ sized few.
          subst (λ (l : List ℕ). Appends u w l) (all ∙ whole s.input m memory t.calls sized long t.takes few)
          (Appends-trans u v w t.written (take p out') t.appended appended);
    }
