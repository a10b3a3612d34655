use mathlib.Core.List.{List}
use mathlib.Core.Path.{◌≡◌, ◌∙◌, sym}
use Prim.Native.Nat.{ℕ, ◌/◌, ◌%◌}
use native.Mathlib.Omega.{arith}
use borrow.Rule.Slice.PartMut.{put_mid}
use lib.Dec.{lit<}
use lib.ListN.{get_or}
use Rattle.words.specs.Bit.{bit}
use Rattle.words.specs.Six.{bit_words}
use Rattle.iac.proofs.HeldLaws.{one-most}
use Rattle.device.specs.Layout.{place_in, head_sizes, ier_part, isr_part, state_of}
use Rattle.device.proofs.HeldSteps.{state-sized, flag-raised, flag-left, flag-none}
use Rattle.device.proofs.PartWords.{heads-set, isr-stored}
use Rattle.device.proofs.StateLayout.{head-part}
use Rattle.device.proofs.flags.raise.Goals as goal

-- m with other flags
abbrev stored : List ℕ → List ℕ → List ℕ
stored m flags = put_mid (place_in head_sizes isr_part) bit_words m flags

pub recount-requires : goal.recount-requires
recount-requires c = (omega arith, omega (arith, one-most c.bit_in-enabled.result))

pub returns-then-not-bit_of : goal.returns-then-not-bit_of
unfolding state_of
returns-then-not-bit_of c =
    let a = c.args in
    let h = c.told-state in
    let m = a.state.now in
    let s = state_of m in
    let x = a.flag.0 / 32 in
    let v = c.with_bit.result in
    let ei : c.word_in-isr.result ≡ get_or s.iac.isr x 0 = simp (c.word_in-isr.ensures, head-part m isr_part (lit< tt)) in
    let ee : c.bit_in-enabled.result ≡ bit (get_or (state_of (stored m c.store_in.new.part)).iac.ier x 0) (a.flag.0 % 32) =
    simp (c.bit_in-enabled.ensures, head-part (stored m c.store_in.new.part) ier_part (lit< tt)) in
    flag-raised s a.flag ei (sym c.is_flag.ensures ∙ c.if-is_flag.true) (state-sized m h)
    (sym c.bit_of.ensures ∙ c.if-not-bit_of.true) c.with_bit.ensures
    (isr-stored x v (heads-set isr_part x v h (lit< tt) c.store_in.ensures)) ee c.recount.ensures

pub returns-else-not-bit_of : goal.returns-else-not-bit_of
unfolding state_of
returns-else-not-bit_of c =
    let a = c.args in
    let m = a.state.now in
    let ei : c.word_in-isr.result ≡ get_or (state_of m).iac.isr (a.flag.0 / 32) 0 = simp (c.word_in-isr.ensures, head-part m isr_part (lit< tt)) in
    flag-left (state_of m) a.flag ei (sym c.is_flag.ensures ∙ c.if-is_flag.true) c.word_in-isr.type_inv
    (sym c.bit_of.ensures ∙ c.if-not-bit_of.false)

pub returns-else-is_flag : goal.returns-else-is_flag
returns-else-is_flag c =
    let a = c.args in
    flag-none (state_of a.state.now) a.flag (sym c.is_flag.ensures ∙ c.if-is_flag.false)
