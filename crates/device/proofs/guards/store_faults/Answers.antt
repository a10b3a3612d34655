use mathlib.Core.Path.{◌∙◌}
use Rattle.risaf.specs.Contents.{iaesr_at, iaddr_at, with_word}
use Rattle.device.specs.Layout.{state_of}
use Rattle.device.proofs.GuardLayout.{guards-count, word-again}
use Rattle.device.proofs.guards.store_faults.Goals as goal

pub returns : goal.returns
unfolding with_word
returns c =
    let n = guards-count c.args.state.now in
    let p = c.args.place.at in
    let t = state_of c.args.state.now in
    c.store_word-3.ensures
    ∙ word-again t _ p iaddr_at _ n c.args.place.within (c.store_word-2.ensures ∙ word-again t _ p iaesr_at _ n c.args.place.within c.store_word.ensures)
