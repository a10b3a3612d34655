-- Document 01's sample, bytes in to bytes out: its two lines, from reset, print its four lines.
use mathlib.Core.Bool.{true, false}
use mathlib.Core.List.{List, ◌++◌}
use mathlib.Core.Path.{◌≡◌, refl, ap, ◌∙◌}
use Prim.Native.Nat.{ℕ}
use borrow.Author.Tests.{eq-eqb}
use lib.ListN.{length}
use Rattle.std.specs.Prelude.{Some}
use Rattle.access.specs.Checks.{answered_with, reached_with}
use Rattle.rifsc.specs.Contents.{reset as rifsc-reset}
use Rattle.iac.specs.Contents.{reset as iac-reset}
use Rattle.risaf.specs.Contents.{reset}
use Rattle.risaf.specs.Guards.{shape_in, shape_at, shape_of}
use Rattle.risaf.specs.Memory.{memory_checks, memory_answer, memory_stepped}
use Rattle.regions.specs.Rights.{rights_word}
use Rattle.regions.specs.Rules.{tests, decided}
use Rattle.spans.specs.Map.{join}
use Rattle.spans.specs.Rows.{size}
use Rattle.spans.specs.Sweep.{next_of, sweep_from, swept_map, bounds_of}
use Rattle.device.specs.Applied.{applied_answer, applied_state}
use Rattle.device.specs.Layout.{joined, layout, parts_of, state_of, state_words}
use Rattle.device.specs.State.{guard_of, with_guard, reset_state}
use Rattle.device.specs.Step.{memory_step, step}
use Rattle.device.specs.declared.event.Event.{Event}
use Rattle.device.specs.declared.event.Event.TheVariants.{Reset, Memory}
use Rattle.map.specs.Bounds.{pairs_of}
use Rattle.map.specs.Map.{rights_of, rows_of}
use Rattle.map.proofs.Steady.{rows-swept}
use Rattle.print.specs.Bytes.{bytes}
use Rattle.print.specs.Print.{digits_of, width_in, width_of, decimal_text, answer_line, span_line, label_line}
use Rattle.script.specs.Command.{command_of, by_keyword, lines_of, reset_line, blocks_of, request_fields, peripheral_line, memory_line, master_line, map_line, rights_fields, target_fields}
use Rattle.script.specs.Fields.{fields_of, onto, same}
use Rattle.script.specs.Numbers.{every, value_from, hex_of, decimal_of, either_of, operation_of}
use Rattle.script.specs.declared.command.Command.TheVariants.{Event as AnEvent, Map}
use Rattle.response.specs.Response.{answer_text, map_text, text_of, left_by}
use Rattle.response.specs.Sheet.{sheet, span_lines}

-- ---- the sample, tabs and line feeds as bytes

abbrev pub line1 : List ℕ
line1 = bytes "mem\t2\t00000000\t4\tr\t1\ts\tp"

abbrev pub line2 : List ℕ
line2 = bytes "map\t2"

abbrev text1 : List ℕ
text1 = bytes "ans\t0\t00000000\n"

abbrev text2 : List ℕ
text2 = bytes "guard\t2\nspan\t00000000\t000fffff\t8282000000000000\nend\t1\n"

-- ---- reading

abbrev access : Event
access =
    Memory (record {
      guard = record { 0 = 2 };
      offset = 0;
      width = 4;
      kind = record { cid = record { 0 = 1 }; write = false; privileged = true; secure = true };
    })

reads : (command_of line1 ≡ Some (AnEvent access)) × (command_of line2 ≡ Some (Map (record { 0 = 2 })))
unfolding command_of by_keyword lines_of reset_line blocks_of request_fields peripheral_line memory_line master_line map_line rights_fields target_fields fields_of onto same every value_from hex_of decimal_of either_of operation_of
reads = (refl, refl)

-- ---- the memory after reset, whatever it held

abbrev start : List ℕ
start = layout reset_state

started : (m : List ℕ) → length m ≡ state_words → applied_state Reset m ≡ start
unfolding applied_state step
started m h = rw (eq-eqb (length m) state_words h)

-- ---- the access is granted, and leaves the memory as it was

first : (text_of (Some (AnEvent access)) 1 start ≡ text1) × (left_by (Some (AnEvent access)) start ≡ start)
unfolding text_of left_by answer_text answer_line digits_of width_in width_of decimal_text applied_answer applied_state layout joined parts_of state_of reset_state rifsc-reset iac-reset reset step memory_step memory_stepped memory_answer memory_checks answered_with reached_with shape_in shape_at shape_of guard_of with_guard decided tests
first = (refl, refl)

-- ---- the map's text is its sheet, whose rows a sweep computes (rows-swept)

asked : text_of (Some (Map (record { 0 = 2 }))) 2 start ≡ sheet 2 (rows_of (state_of start) 2)
unfolding text_of map_text layout joined reset_state rifsc-reset iac-reset reset shape_in shape_at shape_of
asked = refl

swept : sheet 2
    (swept_map (rights_of (state_of start) 2) (bounds_of (pairs_of (guard_of (state_of start) 2).regions (shape_of 2).regions)) (shape_of 2).window)
    ≡ text2
unfolding sheet span_lines label_line span_line digits_of width_in width_of decimal_text size swept_map sweep_from next_of bounds_of join pairs_of rights_of rights_word decided tests layout joined parts_of state_of reset_state rifsc-reset iac-reset reset shape_in shape_at shape_of guard_of
swept = refl

second : text_of (Some (Map (record { 0 = 2 }))) 2 start ≡ text2
second = asked ∙ ap (sheet 2) (rows-swept (state_of start) 2) ∙ swept

-- ---- Whatever the lent memory held: reset, then line 1 and line 2, print the four lines.

pub sample : (m : List ℕ) → length m ≡ state_words
    → text_of (command_of line1) 1 (applied_state Reset m) ++ text_of (command_of line2) 2 (left_by (command_of line1) (applied_state Reset m))
    ≡ bytes "ans\t0\t00000000\nguard\t2\nspan\t00000000\t000fffff\t8282000000000000\nend\t1\n"
sample m h = rw (started m h, reads.0, reads.1, first.1, first.0, second)
