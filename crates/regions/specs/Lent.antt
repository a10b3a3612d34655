-- The rules over words that a caller lends, which may be too few.
use Rattle.std.specs.Prelude.{Bool, ◌&&◌, cond, List, ℕ, leb, length, Some}
use Rattle.access.specs.Kind.{is_cid}
use Rattle.access.specs.declared.bus.Bus.{Bus}
use Rattle.access.specs.declared.kind.Kind.{Kind}
use Rattle.regions.specs.Words.{base, most_regions}
use Rattle.regions.specs.Rights.{rights_word}
use Rattle.regions.specs.Rules.{decided}
use Rattle.regions.specs.declared.verdict.Reason.TheVariants.{Compartment}
use Rattle.regions.specs.declared.verdict.Rule.TheVariants.{Default}
use Rattle.regions.specs.declared.verdict.Verdict.{Verdict}

-- the words of n base regions are there, and a guard may have so many
abbrev pub enough : List ℕ → ℕ → Bool
enough w n = leb n most_regions && leb (base n) (length w)

-- too few words, or a CID over 7: rule 0, refused for the compartment
unfoldable pub decided_in : Bus → List ℕ → ℕ → ℕ → Kind → Verdict
decided_in bus w n o k = cond (enough w n && is_cid k.cid) (decided bus w n o k) (record { rule = Default; reason = Some Compartment })

-- too few words: no rights
unfoldable pub rights_in : Bus → List ℕ → ℕ → ℕ → ℕ
rights_in bus w n o = cond (enough w n) (rights_word bus w n o) 0
