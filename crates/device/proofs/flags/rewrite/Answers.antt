use mathlib.Core.List.{List}
use mathlib.Core.Path.{◌≡◌, sym, ap}
use Prim.Native.Nat.{ℕ}
use borrow.Rule.Slice.PartMut.{put_mid}
use lib.Dec.{lit<}
use lib.ListN.{get_or}
use Rattle.words.specs.Six.{bit_words}
use Rattle.iac.specs.Contents.{stored, with_word}
use Rattle.iac.specs.Registers.{iisr, row_of}
use Rattle.iac.proofs.HeldAt.{at_none}
use Rattle.device.specs.Layout.{place_in, head_sizes, ier_part, isr_part, state_of}
use Rattle.device.specs.State.{with_iac}
use Rattle.device.proofs.HeldSteps.{state-sized, ier-kept, isr-kept}
use Rattle.device.proofs.PartWords.{heads-set, ier-stored, isr-stored}
use Rattle.device.proofs.StateLayout.{head-part}
use Rattle.device.proofs.flags.rewrite.Goals as goal

-- a state with other words of part k
abbrev with_part : ℕ → List ℕ → List ℕ → List ℕ
with_part k m w = put_mid (place_in head_sizes k) bit_words m w

pub returns-in-Ier : goal.returns-in-Ier
unfolding row_of stored state_of
returns-in-Ier c =
    let a = c.args in
    let m = a.state.now in
    let x = c.in-Ier.x in
    let e = c.in-Ier.is in
    let p = c.requires in
    let named : a.named ≡ iisr x = rw e at p.0 in
    let old : a.old ≡ get_or (state_of m).iac.ier x 0 = rw e at p.1 in
    rw e
    (ier-kept (state_of m) x a.new (state-sized m c.told-state) named c.keep.ensures old
    (ier-stored x a.new (heads-set ier_part x a.new c.told-state (lit< tt) c.store_in.ensures))
    (simp (c.word_in-isr.ensures, head-part (with_part ier_part m c.store_in.new.part) isr_part (lit< tt))))

pub returns-in-Icr : goal.returns-in-Icr
unfolding row_of stored state_of
returns-in-Icr c =
    let a = c.args in
    let m = a.state.now in
    let x = c.in-Icr.x in
    let e = c.in-Icr.is in
    let p = c.requires in
    let named : a.named ≡ iisr x = rw e at p.0 in
    let old : a.old ≡ get_or (state_of m).iac.isr x 0 = rw e at p.1 in
    rw e
    (isr-kept (state_of m) x a.new (state-sized m c.told-state) named c.keep-in-Icr.ensures old
    (isr-stored x a.new (heads-set isr_part x a.new c.told-state (lit< tt) c.store_in-in-Icr.ensures))
    (simp (c.word_in-ier.ensures, head-part (with_part isr_part m c.store_in-in-Icr.new.part) ier_part (lit< tt))))

pub returns-in-Isr : goal.returns-in-Isr
unfolding with_word
returns-in-Isr c =
    let s = state_of c.args.state.now in
    rw c.in-Isr.is (ap (with_iac s) (sym (at_none s.iac)))

pub returns-in-Iisr : goal.returns-in-Iisr
unfolding with_word
returns-in-Iisr c =
    let s = state_of c.args.state.now in
    rw c.in-Iisr.is (ap (with_iac s) (sym (at_none s.iac)))
