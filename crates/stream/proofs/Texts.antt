-- How a line's text begins: with a b where the line is bad, else with another byte.
use Prim.Native.Char.{code}
use Rattle.std.proofs.Common.{◌≡◌, ℕ, Bool, true, false, cond, eqb, List, ◌∷◌, refl, Option, Some, None}
use Rattle.access.specs.declared.answer.Answer.TheVariants.{Rejected}
use Rattle.access.specs.declared.answer.Why.TheVariants.{NoSuch, WrongLength}
use Rattle.print.specs.Print.{answer_line, label_line}
use Rattle.risaf.specs.Guards.{is_guard}
use Rattle.device.specs.Applied.{sized}
use Rattle.device.specs.Layout.{state_of}
use Rattle.map.specs.Map.{rows_of}
use Rattle.script.specs.declared.command.Command.{Command}
use Rattle.script.specs.declared.command.Command.TheVariants.{Event, Map}
use Rattle.response.specs.Response.{answer_text, map_text, text_of}
use Rattle.response.specs.Sheet.{sheet}
use Rattle.stream.specs.Blocks.{is_bad}

pub record Begins (text : List ℕ) (bad : Bool) : Type 0 where
  pub first : ℕ
  pub others : List ℕ
  pub is : text ≡ first ∷ others
  pub tells : eqb first (code "b") ≡ bad

map-begins : (m : List ℕ) (n : ℕ) → Begins (map_text m n) false
unfolding map_text answer_text answer_line sheet label_line
map-begins m n = go (sized m) (is_guard n)
  where
    go : (s g : Bool) → Begins (cond s (cond g (sheet n (rows_of (state_of m) n)) (answer_text (Rejected NoSuch))) (answer_text (Rejected WrongLength))) false
    go true true = record { first = _; others = _; is = refl; tells = refl }
    go true false = record { first = _; others = _; is = refl; tells = refl }
    go false g = record { first = _; others = _; is = refl; tells = refl }

pub begins : (c : Option Command) (number : ℕ) (m : List ℕ) → Begins (text_of c number m) (is_bad c)
unfolding text_of answer_text answer_line label_line
begins (Some (Event e)) number m = record { first = _; others = _; is = refl; tells = refl }
begins (Some (Map n)) number m = map-begins m n.0
begins None number m = record { first = _; others = _; is = refl; tells = refl }
