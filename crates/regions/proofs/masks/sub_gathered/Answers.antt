use Rattle.regions.specs.Masks.{sub_gathered}
use Rattle.regions.proofs.masks.sub_gathered.Goals as goal

pub returns-then-not-covers : goal.returns-then-not-covers
unfolding sub_gathered
returns-then-not-covers c = simp (← c.covers.ensures, c.if-not-covers.true)

pub returns-then-not-privileged : goal.returns-then-not-privileged
unfolding sub_gathered
returns-then-not-privileged c =
    simp (c.if-not-privileged.true, ← c.covers.ensures, c.if-not-covers.false, ← c.serving-opens.ensures) c.with_sub.ensures

pub returns : goal.returns
unfolding sub_gathered
returns c =
    simp (c.if-not-privileged.false, ← c.covers.ensures, c.if-not-covers.false, ← c.serving-opens.ensures) c.with_sub_privileged.ensures
