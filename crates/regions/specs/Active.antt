-- What the code of a map goes by: the base regions that are active from an offset on, as a sweep calls those that it has to look at. Those from
-- `low` up to `high`, `high` not included, have all that cover the offset, and short of `to`, the nearest START ahead, no other begins to
-- (proofs/Inactive). w are the words of a guard's regions, o is the offset.
use Rattle.std.specs.Prelude.{cond, List, ℕ, zero, suc, ◌+◌, eqb, ltb, get_or}
use Rattle.words.specs.Bit.{bit}
use Rattle.regions.specs.Words.{base, start_at, end_at, enable_bit}
use Rattle.regions.specs.Ahead.{lesser}
use Rattle.regions.specs.Lent.{enough}
use Rattle.regions.specs.declared.active.Active.{Active}

-- with base region x, where it is enabled: START before it; nothing past END; where it covers, itself
unfoldable pub with_region : List ℕ → ℕ → ℕ → Active → Active
with_region w x o a =
    cond (bit (get_or w (base x) 0) enable_bit)
    (cond (ltb o (get_or w (base x + start_at) 0))
    (record { low = a.low; high = a.high; to = lesser (get_or w (base x + start_at) 0) a.to })
    (cond (ltb (get_or w (base x + end_at) 0) o) a (record { low = cond (eqb a.high 0) x a.low; high = x + 1; to = a.to })))
    a

-- of none
abbrev pub none_active : ℕ → Active
none_active to = record { low = 0; high = 0; to = to }

-- of n base regions
unfoldable pub active : List ℕ → ℕ → ℕ → ℕ → Active
active w zero o to = none_active to
active w (suc n) o to = with_region w n o (active w n o to)

-- over words that may be too few: then there is none
unfoldable pub active_in : List ℕ → ℕ → ℕ → ℕ → Active
active_in w n o to = cond (enough w n) (active w n o to) (none_active to)
