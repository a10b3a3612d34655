-- Where a call stops that has come to a place of the block, by what its calls gave.
use Rattle.std.proofs.Common.{◌≡◌, ℕ, ◌+◌, ◌-◌, Bool, true, false, cond, ◌&&◌, None, Some, is_some, eqb, List, length, drop, refl, ap, ◌∙◌, arith, length-drop, take_all}
use Rattle.script.specs.Command.{command_of}
use Rattle.response.specs.Response.{bytes_after, place_after, room_for_longest, state_after}
use Rattle.stream.specs.Blocks.{Place, behind, is_bad, keeping, place_at, stop, whole_line}
use Rattle.stream.specs.Feeds.{IsFirstLine}
use Rattle.stream.specs.Kept.{Kept, kept_count, kept_in, kept_of, next_number, nothing_of}
use Rattle.stream.specs.Stands.{Stands}
use Rattle.stream.specs.Transcript.{Lines, lines_in, rest}
use Rattle.stream.specs.declared.blocks.Taken.{Taken}
use Rattle.stream.proofs.Turns.{at-bad, behind-line, full, part, past-good}

pub stands_at : {S s : Place} {r : Taken} {m memory out : List ℕ} → S ≡ s → Stands s r m memory out → Stands S r m memory out
stands_at e h = rw e h

-- all that is left of the block
pub part_left : (block : List ℕ) (start : ℕ) → part start (length block) block ≡ drop start block
part_left block start = take_all (length block - start) (drop start block) (omega (arith, length-drop start block))

-- of a block of so many bytes so many are taken, and these are left
module _ {S : Place} (size took : ℕ) (left : List ℕ) (k : Kept) (out : List ℕ) (at : ℕ) (sum : took + length left ≡ size)
    (reached : S ≡ stop (place_at took k out at) (lines_in left)) where
  stops-at : {ls : Lines} → lines_in left ≡ ls → S ≡ stop (place_at took k out at) ls
  stops-at e = reached ∙ ap (stop (place_at took k out at)) e

  -- the rest is kept
  pub stops-last : {r : Taken} {memory : List ℕ} {bytes : ℕ} → lines_in left ≡ rest left
      → bytes ≡ kept_count k.held.bytes left → memory ≡ kept_in k.memory k.held.bytes left
      → r ≡ record { took = size; filled = at; held = record { bytes = bytes; number = k.held.number }; bad = None }
      → Stands S r k.words memory out
  unfolding stop keeping
  stops-last none count copied gives =
      stands_at (stops-at none) (record { taken = gives ∙ rw (sum, count); words = refl; memory = copied; bytes = refl })

  module _ {text more : List ℕ} (first : IsFirstLine left text more) where
    pub stops-full : {r : Taken} {m' out' : List ℕ} → room_for_longest out at ≡ false → (m' ≡ k.words) × (out' ≡ out)
        → r ≡ record { took = took; filled = at; held = k.held; bad = None } → Stands S r m' k.memory out'
    stops-full room left gives =
        stands_at (stops-at first.lines ∙ full (place_at took k out at) text (lines_in more) room)
        (record { taken = gives; words = left.0; memory = refl; bytes = left.1 })

    -- the line is obeyed
    module _ (x : List ℕ) (same : command_of x ≡ command_of (whole_line k text)) {m' out' memory : List ℕ} {p : ℕ} {b : Bool}
        (place : p ≡ place_after x k.held.number k.words out at) (bad : b ≡ (room_for_longest out at && is_bad (command_of x)))
        (bytes : out' ≡ bytes_after x k.held.number k.words out at) (words : m' ≡ state_after x k.words out at)
        (copied : memory ≡ cond (eqb k.held.bytes 0) k.memory (kept_in k.memory k.held.bytes text))
        (room : room_for_longest out at ≡ true) where
      abbrev after : Place
      after =
          record {
            took = size - length more;
            kept = kept_of (nothing_of (next_number k.held.number)) memory m';
            out = out';
            at = p;
            bad = cond b (Some k.held.number) None;
          }

      its-place : behind (place_at took k out at) text ≡ after
      its-place =
          let e : took + length text + 1 ≡ size - length more = omega (arith, sum, first.size) in
          behind-line took k out at text x same place bad bytes words room ∙ rw (e, ← copied)

      pub stops-bad : {r : Taken} → b ≡ true
          → r ≡ record { took = size - length more; filled = p; held = nothing_of (next_number k.held.number); bad = Some k.held.number }
          → Stands S r m' memory out'
      stops-bad is gives =
          let t : is_some (behind (place_at took k out at) text).bad ≡ true = rw (its-place, is) in
          stands_at (stops-at first.lines ∙ at-bad (place_at took k out at) text (lines_in more) room t ∙ its-place)
          (record { taken = gives ∙ rw is; words = refl; memory = refl; bytes = refl })

      pub goes-on : b ≡ false
          → S ≡ stop (place_at (size - length more) (kept_of (nothing_of (next_number k.held.number)) memory m') out' p) (lines_in more)
      goes-on is =
          let t : is_some (behind (place_at took k out at) text).bad ≡ false = rw (its-place, is) in
          stops-at first.lines ∙ past-good (place_at took k out at) text (lines_in more) room t
          ∙ ap (λ (s : Place). stop s (lines_in more)) (its-place ∙ rw is)
