-- Document 01's sample: its two lines read.
use Rattle.std.specs.Prelude.{true, false, [], ◌≡◌, refl, Some, None}
use Rattle.device.specs.declared.event.Event.TheVariants.{Memory}
use Rattle.script.specs.Command.{command_of, by_keyword, lines_of, reset_line, blocks_of, request_fields, peripheral_line, memory_line, master_line, map_line, rights_fields, target_fields}
use Rattle.print.specs.Bytes.{bytes}
use Rattle.script.specs.Fields.{fields_of, onto, same}
use Rattle.script.specs.Numbers.{every, value_from, hex_of, decimal_of, either_of, operation_of}
use Rattle.script.specs.declared.command.Command.TheVariants.{Event, Map}

-- the two lines of the sample, and lines that are bad: an empty one, a leading zero, an upper-case digit, a field too many
read : (command_of (bytes "mem\t2\t00000000\t4\tr\t1\ts\tp")
    ≡ Some
    (Event
    (Memory
    (record {
      guard = record { 0 = 2 };
      offset = 0;
      width = 4;
      kind = record { cid = record { 0 = 1 }; write = false; privileged = true; secure = true };
    }))))
    × (command_of (bytes "map\t2") ≡ Some (Map (record { 0 = 2 })))
    × (command_of [] ≡ None)
    × (command_of (bytes "map\t02") ≡ None)
    × (command_of (bytes "reg\tiac\t0000000C\tr\t00000000\ts\tp") ≡ None)
    × (command_of (bytes "reset\t") ≡ None)
unfolding command_of by_keyword lines_of reset_line blocks_of request_fields peripheral_line memory_line master_line map_line rights_fields target_fields fields_of onto same every value_from hex_of decimal_of either_of operation_of
read = (refl, refl, refl, refl, refl, refl)
