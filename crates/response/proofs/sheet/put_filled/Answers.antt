-- `response::sheet::put_filled` meets its contract: the sheet where the map is made, else its answer.
use mathlib.Core.Path.{◌∙◌}
use Rattle.response.proofs.Sheets.{made-few, made-map, refused-map}
use Rattle.response.proofs.sheet.put_filled.Goals as goal

pub returns-then-number-ne0 : goal.returns-then-number-ne0
returns-then-number-ne0 c =
    let f = c.fill-filled in
    refused-map c.args.state.now c.args.lent.now c.args.guard.0 c.requires.1 (c.answer-answer.ensures ∙ f.ensures.answer_value) c.number.ensures
    c.if-number-ne0.true c.put_answer.ensures

pub put_sheet-requires : goal.put_sheet-requires
put_sheet-requires c =
    let f = c.fill-filled in (
      c.requires.0,
      made-few c.args.state.now c.args.lent.now c.args.guard.0 c.requires.1 (c.answer-answer.ensures ∙ f.ensures.answer_value) c.number.ensures
          c.if-number-ne0.false f.ensures.buffer_after f.ensures.used_value c.used_part-map.ensures,
    )

pub returns : goal.returns
returns c =
    let f = c.fill-filled in
    made-map c.args.state.now c.args.lent.now c.args.guard.0 c.requires.1 (c.answer-answer.ensures ∙ f.ensures.answer_value) c.number.ensures
    c.if-number-ne0.false f.ensures.buffer_after f.ensures.used_value c.used_part-map.ensures c.put_sheet.ensures
