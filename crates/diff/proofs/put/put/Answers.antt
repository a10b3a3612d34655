-- `diff::put::put` meets its contract: at each return the tests that led there say which way the span went.
use mathlib.Core.Path.{sym, ◌∙◌}
use native.Mathlib.Nat.{add-zero}
use native.Mathlib.Omega.{arith}
use lib.ListN.{length-set}
use borrow.Author.Rules.{rules}
use Rattle.diff.proofs.Added.{continues-some, put-none, put-grows, put-adds}
use Rattle.diff.proofs.put.put.Goals as goal

pub returns-then-old-new : goal.returns-then-old-new
returns-then-old-new c =
    let a = c.args in
    let all = put-none a.lent.now a.count a.start a.end a.old a.new c.if-old-new.true in
    record { value = all.0; lent_after = all.1 }

pub overflow_sub-lent : goal.overflow_sub-lent
overflow_sub-lent c =
    let k = c.continues in
    let a = c.args in
    omega (arith, continues-some a.lent.now a.count a.start a.old a.new (sym k.ensures ∙ c.if-continues.true))

pub bounds-lent-i : goal.bounds-lent-i
bounds-lent-i c = search rules

pub returns-then-continues : goal.returns-then-continues
returns-then-continues c =
    let a = c.args in
    let all = put-grows a.lent.now a.count a.start a.end a.old a.new c.if-old-new.false (sym c.continues.ensures ∙ c.if-continues.true) in
    record { value = all.0; lent_after = all.1 }

pub bounds-lent-i-3 : goal.bounds-lent-i-3
bounds-lent-i-3 c = simp length-set (omega arith)

pub bounds-lent-i-4 : goal.bounds-lent-i-4
bounds-lent-i-4 c = simp length-set (omega arith)

pub bounds-lent-i-5 : goal.bounds-lent-i-5
bounds-lent-i-5 c = simp length-set (omega arith)

pub bounds-lent-i-6 : goal.bounds-lent-i-6
bounds-lent-i-6 c = simp length-set (omega arith)

pub returns : goal.returns
returns c =
    let a = c.args in
    rw c.differing.ensures
    (let all = (put-adds a.lent.now a.count a.start a.end a.old a.new c.if-old-new.false (sym c.continues.ensures ∙ c.if-continues.false)) in record { value = all.0; lent_after = rw add-zero all.1 })
