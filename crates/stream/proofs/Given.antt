-- What a caller goes by: what it lends of a block, that no more is taken and what is kept has room, and that something is taken where nothing
-- was put out yet.
use Rattle.std.proofs.Common.{◌≡◌, ℕ, zero, suc, ◌+◌, ◌-◌, ◌<◌, ◌≤◌, List, length, refl, ap, ◌∙◌, arith, length-drop, le-leb}
use Rattle.response.specs.Response.{most}
use Rattle.stream.specs.Blocks.{called, given}
use Rattle.stream.specs.Kept.{Kept, at_start, line_room}
use Rattle.stream.specs.declared.blocks.Taken.{Taken}
use Rattle.stream.specs.declared.kept.Held.{Held}
use Rattle.stream.proofs.Stops.{part_left}
use Rattle.stream.proofs.Took.{keeps-few, takes-most, takes-some}
use Rattle.stream.proofs.Turns.{part}

module _ (k : Kept) (block out : List ℕ) (at : ℕ) {r : Taken} (e : r ≡ given (called k block out at)) where
  pub took-most : r.took ≤ length block
  took-most = omega (arith, ap (λ (t : Taken). t.took) e, takes-most k block out at)

  pub left-few : k.held.bytes ≤ line_room → r.held.bytes ≤ line_room
  left-few few = omega (arith, ap (λ (t : Taken). t.held.bytes) e, keeps-few k block out at few)

  module _ (long : length k.memory ≡ line_room) (few : k.held.bytes ≤ line_room) (room : most ≤ length out) (some : 0 < length block) where
    pub some-taken : at ≡ 0 → 0 < r.took
    some-taken z =
        let t = takes-some k block out at some long few (le-leb (at + most) (length out) (omega (arith, room, z))) in
        omega (arith, t, ap (λ (t : Taken). t.took) e)

    pub none-taken : r.took ≡ 0 → 0 < at
    none-taken none = go at some-taken
      where
        go : (n : ℕ) → (n ≡ 0 → 0 < r.took) → 0 < n
        go zero h = omega (arith, h refl, none)
        go (suc n) h = omega arith

pub start-few : {h : Held} → h ≡ at_start → h.bytes ≤ line_room
start-few e = omega (arith, ap (λ (h : Held). h.bytes) e)

-- a block's part from a place on
pub left-size : (block : List ℕ) (from : ℕ) → length (part from (length block) block) ≡ length block - from
left-size block from = ap (λ (l : List ℕ). length l) (part_left block from) ∙ length-drop from block
