-- What the code of a map goes by: a boundary ahead of an offset, up to which the rights stay as they are there (rights-stay in
-- proofs/Stay). w are the words of a guard's regions, o is the offset, and `to` a place further on that is taken where none is nearer.
use Rattle.std.specs.Prelude.{cond, List, ℕ, zero, suc, ◌+◌, ltb, get_or}
use Rattle.words.specs.Bit.{bit}
use Rattle.regions.specs.Words.{base, sub, start_at, end_at, enable_bit}
use Rattle.regions.specs.Lent.{enough}
use Rattle.regions.specs.declared.ahead.Reach.{Reach}
use Rattle.regions.specs.declared.ahead.Reach.TheVariants.{Inside, Outside}

-- the lesser of two
abbrev pub lesser : ℕ → ℕ → ℕ
lesser a b = cond (ltb a b) a b

-- of the region or subregion at p, where it is enabled: START before it; nothing past END; where it covers the offset past END, and
-- what is further inside it
abbrev pub region_ahead : List ℕ → ℕ → ℕ → (ℕ → ℕ) → ℕ → ℕ
region_ahead w p o inside to =
    cond (bit (get_or w p 0) enable_bit)
    (cond (ltb o (get_or w (p + start_at) 0))
    (lesser (get_or w (p + start_at) 0) to)
    (cond (ltb (get_or w (p + end_at) 0) o) to (inside (lesser (get_or w (p + end_at) 0 + 1) to))))
    to

-- whether the offset lies in that, and up to where those that follow lie as it does, what is further inside left out
unfoldable pub reach_of : List ℕ → ℕ → ℕ → ℕ → Reach
reach_of w p o to =
    cond (bit (get_or w p 0) enable_bit)
    (cond (ltb o (get_or w (p + start_at) 0))
    (Outside (lesser (get_or w (p + start_at) 0) to))
    (cond (ltb (get_or w (p + end_at) 0) o) (Outside to) (Inside (lesser (get_or w (p + end_at) 0 + 1) to))))
    (Outside to)

-- of a subregion: nothing is inside it
unfoldable pub sub_ahead : List ℕ → ℕ → ℕ → ℕ → ℕ
sub_ahead w p o to = region_ahead w p o (λ t. t) to

-- of base region x: its subregions are inside it
abbrev pub subs_ahead : List ℕ → ℕ → ℕ → ℕ → ℕ
subs_ahead w x o to = sub_ahead w (sub x 1) o (sub_ahead w (sub x 0) o to)

unfoldable pub base_ahead : List ℕ → ℕ → ℕ → ℕ → ℕ
base_ahead w x o to = region_ahead w (base x) o (subs_ahead w x o) to

-- of n base regions
unfoldable pub ahead : List ℕ → ℕ → ℕ → ℕ → ℕ
ahead w zero o to = to
ahead w (suc n) o to = base_ahead w n o (ahead w n o to)

-- over words that may be too few: then there is none
unfoldable pub ahead_in : List ℕ → ℕ → ℕ → ℕ → ℕ
ahead_in w n o to = cond (enough w n) (ahead w n o to) to
