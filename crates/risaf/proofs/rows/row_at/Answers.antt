use Rattle.std.proofs.Common.{rules}
use Rattle.risaf.proofs.RegisterMap.{register-placed}
use Rattle.risaf.proofs.rows.row_at.Goals as goal

pub row_of-requires : goal.row_of-requires
row_of-requires c = register-placed c.args.n c.args.offset (search rules)
