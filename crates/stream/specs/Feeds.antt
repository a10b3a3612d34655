-- Where a line of a block ends, which is what code goes by.
use Rattle.std.specs.Prelude.{◌≡◌, ℕ, suc, ◌+◌, cond, List, [], ◌∷◌, length, ◌==◌}
use Rattle.stream.specs.Transcript.{feed, line, lines_in}

-- how many bytes stand before the first feed; all of them where there is none
unfoldable pub feed_at : List ℕ → ℕ
feed_at [] = 0
feed_at (b ∷ bs) =
    let more = suc (feed_at bs) in
    cond (b == feed) 0 more

-- the text is the block's first line, and `more` stands behind its feed
pub record IsFirstLine (block text more : List ℕ) : Type 0 where
  pub lines : lines_in block ≡ line text (lines_in more)
  pub size : length block ≡ length text + 1 + length more
