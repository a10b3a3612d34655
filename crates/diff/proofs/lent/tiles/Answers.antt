-- `diff::lent::tiles` meets its contract. The rows that are left go on from at as those of the whole do from 0, and as many numbers are over.
use mathlib.Core.List.{List}
use mathlib.Core.Path.{◌≡◌, sym, ap, ◌∙◌}
use Prim.Native.Nat.{ℕ, ◌+◌, ◌%◌}
use native.Mathlib.Omega.{arith}
use lib.ListN.{length}
use Rattle.std.proofs.lemmas.List.{length-append}
use Rattle.diff.specs.Lent.{tiles_from}
use Rattle.diff.proofs.Tiled.{tiles-broken, tiles-on, tiles-end}
use Rattle.diff.proofs.lent.tiles.Goals as goal

pub loop-row-init : goal.loop-row-init
loop-row-init c =
    let k = c.chunks_exact-row-items.ensures in
    rw c.into_iter-row-iterator.ensures.into_iter_gives
    (record { size = k.size; over = ap (λ (l : List ℕ). length l % 3) k.rest; same = ap (tiles_from 0 c.args.window) k.rest })

pub returns-then-row-at : goal.returns-then-row-at
returns-then-row-at c =
    let v = c.loop-row.invariant in
    let s = c.in-Some.ensures.steps in
    sym (ap (tiles_from c.loop-row.at c.args.window) s.1.0 ∙ tiles-broken c.loop-row.at c.args.window c.in-Some.row.now _ (s.1.1 ∙ v.size) c.if-row-at.true) ∙ v.same

pub loop-row-preserved : goal.loop-row-preserved
loop-row-preserved c =
    let v = c.loop-row.invariant in
    let s = c.in-Some.ensures.steps in
    let t = tiles-on c.loop-row.at c.args.window c.in-Some.row.now c.next.new.self.rest.now (s.1.1 ∙ v.size) c.if-row-at.false in
    let long : length c.loop-row.row-iterator.rest.now ≡ length c.in-Some.row.now + length c.next.new.self.rest.now = ap (λ (l : List ℕ). length l) s.1.0 ∙ length-append _ _ in
    record {
      size = s.0 ∙ v.size;
      over = omega (arith, long, s.1.1, v.size, v.over);
      same = t.1 ∙ sym (ap (tiles_from c.loop-row.at c.args.window) s.1.0) ∙ v.same;
    }

pub returns : goal.returns
returns c =
    let v = c.loop-row.invariant in
    let s = c.in-None.ensures.steps in
    rw (← v.over) (tiles-end c.loop-row.at c.args.window c.loop-row.row-iterator.rest.now (omega (arith, s.1.0, v.size)) ∙ v.same)
