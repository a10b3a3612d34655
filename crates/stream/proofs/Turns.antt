-- A call goes from line to line: where it stands behind the next one.
use Rattle.std.proofs.Common.{◌≡◌, ℕ, ◌+◌, ◌-◌, Bool, true, false, cond, ◌&&◌, None, Some, is_some, eqb, List, length, take, drop}
use Rattle.script.specs.Command.{command_of}
use Rattle.response.specs.Response.{bytes_after, place_after, room_for_longest, state_after}
use Rattle.stream.specs.Blocks.{Place, behind, is_bad, kept_behind, stop, place_at, whole_line}
use Rattle.stream.specs.Kept.{Kept, kept_in, kept_of, next_number, nothing_of}
use Rattle.stream.specs.Transcript.{Lines, line}

-- of a block, from `start` up to, not including, `end`
abbrev pub part : ℕ → ℕ → List ℕ → List ℕ
part start end block = take (end - start) (drop start block)

-- ---- where a call stops

module _ (s : Place) (l : List ℕ) (more : Lines) where
  pub full : room_for_longest s.out s.at ≡ false → stop s (line l more) ≡ s
  unfolding stop
  full h = rw h

  pub at-bad : room_for_longest s.out s.at ≡ true → is_some (behind s l).bad ≡ true → stop s (line l more) ≡ behind s l
  unfolding stop
  at-bad h e = rw (h, e)

  pub past-good : room_for_longest s.out s.at ≡ true → is_some (behind s l).bad ≡ false → stop s (line l more) ≡ stop (behind s l) more
  unfolding stop
  past-good h e = rw (h, e)

-- ---- behind a line, by what obeying it gave

module _ (took : ℕ) (k : Kept) (out : List ℕ) (at : ℕ) (l x : List ℕ) (same : command_of x ≡ command_of (whole_line k l)) {m' out' : List ℕ} {p : ℕ} {b : Bool}
    (place : p ≡ place_after x k.held.number k.words out at) (bad : b ≡ (room_for_longest out at && is_bad (command_of x)))
    (bytes : out' ≡ bytes_after x k.held.number k.words out at) (words : m' ≡ state_after x k.words out at)
    (room : room_for_longest out at ≡ true) where
  pub behind-line : behind (place_at took k out at) l
      ≡ record {
        took = took + length l + 1;
        kept = kept_of (nothing_of (next_number k.held.number)) (cond (eqb k.held.bytes 0) k.memory (kept_in k.memory k.held.bytes l)) m';
        out = out';
        at = p;
        bad = cond b (Some k.held.number) None;
      }
  unfolding behind kept_behind place_after bytes_after state_after
  behind-line = rw (place, bad, bytes, words, room, same)
