-- How much a call takes: no more than it is given, and something where there is room for the longest text. How much is kept.
use Rattle.std.proofs.Common.{◌≡◌, ℕ, ◌+◌, ◌<◌, ◌≤◌, Bool, true, false, cond, is_some, eqb, List, [], ◌∷◌, length, refl, arith, eq-eqb, le-leb}
use Rattle.response.specs.Response.{room_for_longest}
use Rattle.stream.specs.Blocks.{Place, behind, called, fits, keeping, kept_behind, place_at, stop}
use Rattle.stream.specs.Kept.{Kept, line_room}
use Rattle.stream.specs.Transcript.{Lines, before, feed, line, lines_in, rest}
use Rattle.stream.proofs.Memory.{kept-most}

-- the bytes of lines, with their feeds
unfoldable size : Lines → ℕ
size (line l more) = length l + 1 + size more
size (rest l) = length l

size-lines : (bs : List ℕ) → size (lines_in bs) ≡ length bs
unfolding lines_in size before
size-lines [] = refl
size-lines (b ∷ bs) = go (eqb b feed) (lines_in bs) (size-lines bs)
  where
    go : (t : Bool) (ls : Lines) → size ls ≡ length bs → size (cond t (line [] ls) (before b ls)) ≡ length (b ∷ bs)
    go true ls h = omega (arith, h)
    go false (line l more) h = omega (arith, h)
    go false (rest l) h = omega (arith, h)

stop-took : (ls : Lines) (s : Place) → (s.took ≤ (stop s ls).took) × ((stop s ls).took ≤ s.took + size ls)
unfolding stop size behind keeping
stop-took (rest l) s = (omega arith, omega arith)
stop-took (line l more) s = go (room_for_longest s.out s.at) (is_some (behind s l).bad) (stop-took more (behind s l))
  where
    go : (t b : Bool) → ((behind s l).took ≤ (stop (behind s l) more).took) × ((stop (behind s l) more).took ≤ (behind s l).took + size more)
        → (s.took ≤ (cond t (cond b (behind s l) (stop (behind s l) more)) s).took)
        × ((cond t (cond b (behind s l) (stop (behind s l) more)) s).took ≤ s.took + (length l + 1 + size more))
    go true true h = (omega arith, omega arith)
    go true false h = (omega (arith, h.0), omega (arith, h.1))
    go false b h = (omega arith, omega arith)

stop-few : (ls : Lines) (s : Place) → s.kept.held.bytes ≤ line_room → (stop s ls).kept.held.bytes ≤ line_room
unfolding stop behind kept_behind keeping
stop-few (rest l) s few = kept-most l s.kept.held.bytes few
stop-few (line l more) s few = go (room_for_longest s.out s.at) (is_some (behind s l).bad) (stop-few more (behind s l) (omega arith))
  where
    go : (t b : Bool) → (stop (behind s l) more).kept.held.bytes ≤ line_room
        → (cond t (cond b (behind s l) (stop (behind s l) more)) s).kept.held.bytes ≤ line_room
    go true true h = omega arith
    go true false h = h
    go false b h = few

module _ (k : Kept) (block out : List ℕ) (at : ℕ) where
  pub takes-most : (called k block out at).took ≤ length block
  unfolding called
  takes-most = go (fits k)
    where
      go : (t : Bool) → (cond t (stop (place_at 0 k out at) (lines_in block)) (place_at 0 k out at)).took ≤ length block
      go true = omega (arith, (stop-took (lines_in block) (place_at 0 k out at)).1, size-lines block)
      go false = omega arith

  -- at most line_room bytes of a line are kept
  pub keeps-few : k.held.bytes ≤ line_room → (called k block out at).kept.held.bytes ≤ line_room
  unfolding called
  keeps-few few = go (fits k)
    where
      go : (t : Bool) → (cond t (stop (place_at 0 k out at) (lines_in block)) (place_at 0 k out at)).kept.held.bytes ≤ line_room
      go true = stop-few (lines_in block) (place_at 0 k out at) few
      go false = few

  pub takes-some : 0 < length block → length k.memory ≡ line_room → k.held.bytes ≤ line_room → room_for_longest out at ≡ true
      → 0 < (called k block out at).took
  unfolding called stop size keeping behind
  takes-some some long few room =
      rw (eq-eqb (length k.memory) line_room long, le-leb k.held.bytes line_room few) (go (lines_in block) (size-lines block))
    where
      go : (ls : Lines) → size ls ≡ length block → 0 < (stop (place_at 0 k out at) ls).took
      go (rest l) h = omega (arith, h, some)
      go (line l more) h = rw room (first (is_some (behind (place_at 0 k out at) l).bad) (stop-took more (behind (place_at 0 k out at) l)).0)
        where
          first : (b : Bool) → (behind (place_at 0 k out at) l).took ≤ (stop (behind (place_at 0 k out at) l) more).took
              → 0 < (cond b (behind (place_at 0 k out at) l) (stop (behind (place_at 0 k out at) l) more)).took
          first true f = omega arith
          first false f = omega (arith, f)
