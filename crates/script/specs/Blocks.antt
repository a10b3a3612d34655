-- What a register line says whose block is read, which is what code goes by; fs are the fields behind the block.
use Rattle.std.specs.Prelude.{List, ℕ, Option, Some, None}
use Rattle.device.specs.declared.event.Block.{Block}
use Rattle.script.specs.Command.{request_fields}
use Rattle.script.specs.declared.command.Command.{Command}

abbrev pub block_line : Option Block → List (List ℕ) → Option Command
block_line None fs = None
block_line (Some block) fs = request_fields block 0 fs
