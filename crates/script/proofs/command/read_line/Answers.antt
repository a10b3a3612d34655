-- `script::command::read_line` meets its contract.
use borrow.Author.Tests.{le-leb, lt-leb}
use Rattle.script.specs.Command.{command_of}
use Rattle.script.specs.Fields.{line_most}
use Rattle.script.proofs.command.read_line.Goals as goal

pub returns-then-line-gt-LINE_MOST : goal.returns-then-line-gt-LINE_MOST
unfolding command_of
returns-then-line-gt-LINE_MOST c = rw (lt-leb _ line_most c.if-line-gt-LINE_MOST.true)

pub returns : goal.returns
unfolding command_of
returns c = rw (le-leb _ line_most c.if-line-gt-LINE_MOST.false) c.by_keyword.ensures
