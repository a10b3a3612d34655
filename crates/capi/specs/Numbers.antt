-- What a number of a call from C stands for, if it stands for anything.
use Rattle.std.specs.Prelude.{cond, ℕ, eqb, Option, Some, None}
use Rattle.device.specs.declared.event.Block.{Block}
use Rattle.device.specs.declared.event.Block.TheVariants.{Rifsc, Iac, Risaf}
use Rattle.device.specs.declared.event.Operation.{Operation}
use Rattle.device.specs.declared.event.Operation.TheVariants.{Read, Write, Fetch}

-- block: 0 RIFSC, 1 IAC, 2 RISAF, that of the guard's number
unfoldable pub block_numbered : ℕ → ℕ → Option Block
block_numbered block guard =
    cond (eqb block 0) (Some Rifsc)
    (cond (eqb block 1) (Some Iac)
    (cond (eqb block 2) (Some (Risaf (record { 0 = guard })))
    None))

-- operation: 0 read, 1 write, 2 fetch
unfoldable pub operation_numbered : ℕ → Option Operation
operation_numbered operation =
    cond (eqb operation 0) (Some Read)
    (cond (eqb operation 1) (Some Write)
    (cond (eqb operation 2) (Some Fetch)
    None))
