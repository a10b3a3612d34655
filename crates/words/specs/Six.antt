-- Words that hold a bit for each peripheral, or for each flag.
use Rattle.std.specs.Prelude.{Bool, List, ℕ, ◌/◌, ◌%◌, get_or}
use Rattle.words.specs.Bit.{bit}

-- how many words
abbrev pub bit_words : ℕ
bit_words = 6

-- bit i, counted over all the words
abbrev pub bit_at : List ℕ → ℕ → Bool
bit_at words i = bit (get_or words (i / 32) 0) (i % 32)
