-- `spans::put` meets its contract: at each return the tests that led there say which way the span went. Assumes nothing.
use mathlib.Core.Path.{◌≡◌}
use Rattle.std.proofs.Common.{◌≢◌, ℕ, ◌<◌, ◌+◌, ◌-◌, ◌*◌, get_or}
use native.Mathlib.Omega.{arith}
use native.Mathlib.Nat.{add-zero}
use lib.ListN.{length-set}
use Rattle.spans.proofs.Added.{put_full, put-grows, put-adds}
use Rattle.spans.proofs.put.Goals as goal
use Rattle.spans.proofs.put.Goals.{then-count-gt0+else-lent-last, else-count-gt0}

pub returns-then-lent-count : goal.returns-then-lent-count
returns-then-lent-count c =
    let a = c.args in
    let r = put_full a.lent.now a.count a.start a.end a.rights c.if-lent-count.true in
    record { value = r.0; lent_after = r.1 }

-- where the last row's rights stand
last-rights : (n : ℕ) → 0 < n → 3 * n - 1 ≡ 3 * n - 3 + 2
last-rights n some = omega arith

pub returns-then-lent-last : goal.returns-then-lent-last
returns-then-lent-last c =
    let a = c.args in
    let end : 3 * a.count - 2 ≡ 3 * a.count - 3 + 1 = omega (arith, c.if-count-gt0.true) in
    let r = put-grows a.lent.now a.count a.start a.end a.rights c.if-lent-count.false c.if-count-gt0.true (rw (last-rights a.count c.if-count-gt0.true) c.if-lent-last.true) in
    record { value = r.0; lent_after = rw end at r.1 }

pub bounds-lent-i-3 : goal.bounds-lent-i-3
bounds-lent-i-3 c = simp length-set (omega arith)

pub returns : goal.returns
returns c =
    let a = c.args in
    let other : 0 < a.count → get_or a.lent.now (3 * a.count - 1) 0 ≢ a.rights =
    λ some same.
    elim c.if-count-gt0.branch [
      | then-count-gt0+else-lent-last w ↦ w.if-lent-last.false (rw (last-rights a.count some) at same)
      | else-count-gt0 w ↦ omega arith
    ] in
    let r = put-adds a.lent.now a.count a.start a.end a.rights c.if-lent-count.false other in
    record { value = r.0; lent_after = rw add-zero r.1 }
