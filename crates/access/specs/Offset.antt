-- Offsets.
use Rattle.std.specs.Prelude.{Bool, ◌&&◌, ℕ, leb}

-- o lies from first to last, both included
abbrev pub within : ℕ → ℕ → ℕ → Bool
within first last o = leb first o && leb o last
