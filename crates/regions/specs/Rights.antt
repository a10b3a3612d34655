-- The rights word of an offset: document 01, "rights bit .. is 1 exactly when the rule that governs there grants that kind of asking".
use Rattle.std.specs.Prelude.{List, ℕ}
use Rattle.words.specs.Bit.{word}
use Rattle.access.specs.Kind.{kind_of}
use Rattle.access.specs.declared.bus.Bus.{Bus}
use Rattle.regions.specs.Rules.{decided, granted}

unfoldable pub rights_word : Bus → List ℕ → ℕ → ℕ → ℕ
rights_word bus w n o = word 64 (λ b. granted (decided bus w n o (kind_of b)))
