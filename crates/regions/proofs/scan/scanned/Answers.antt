-- `regions::scan::scanned` meets its contract. The loop's invariant: what the base regions passed say, and what they have ahead.
use mathlib.Core.Path.{◌≡◌}
use native.Mathlib.Omega.{arith}
use borrow.Author.Rules.{rules}
use Rattle.regions.specs.Ahead.{ahead}
use Rattle.regions.specs.Masks.{masks}
use Rattle.regions.proofs.Gathered.{masks-more}
use Rattle.regions.proofs.Lies.{ahead_more}
use Rattle.regions.proofs.scan.scanned.Goals as goal

pub loop-x-init : goal.loop-x-init
unfolding masks ahead
loop-x-init c = search rules

pub loop-x-preserved : goal.loop-x-preserved
loop-x-preserved c =
    let l = c.loop-x.invariant in
    let r = c.base_scanned-s.ensures in
    (search rules, masks-more _ _ _ _ _ l.1 r.masks_value, ahead_more _ _ _ _ l.2 r.to_value)

pub returns : goal.returns
returns c =
    let e : c.loop-x.x ≡ c.args.n = omega arith in
    record { masks_value = cc; to_value = cc }
