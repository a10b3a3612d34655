-- What a register access gives: document 01, "a register read gives the word, a write 0".
use Rattle.std.specs.Prelude.{cond, ℕ}
use Rattle.access.specs.declared.request.Request.{Request}

abbrev pub gives : Request → ℕ → ℕ
gives q word = cond q.write 0 word
