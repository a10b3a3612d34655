-- What code goes by: the line and the count where one word becomes another. proofs/HeldAt has the laws that it is Held.
use Rattle.std.specs.Prelude.{cond, ℕ}
use Rattle.iac.specs.Held.{fresh_of, changes, added, with_count}
use Rattle.iac.specs.declared.held.Held.{Held}

-- old becomes new, and other is the other word of its index; where no named bit changes both are left
unfoldable pub kept : ℕ → ℕ → ℕ → ℕ → Held → Held
kept named other old new h =
    cond (changes named old new) (with_count h (added h.count (fresh_of named old other) (fresh_of named new other))) h
