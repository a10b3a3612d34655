-- `script::command::by_keyword` meets its contract: the keyword that the line begins with says which line it is.
use mathlib.Core.Bool.{Bool, ◌&&◌}
use mathlib.Core.Path.{refl, sym, ap, ◌∙◌}
use lib.Dec.{eqb}
use lib.ListN.{length}
use Rattle.print.specs.Bytes.{bytes}
use Rattle.script.specs.Command.{by_keyword, blocks_of, lines_of, map_line, master_line, memory_line, peripheral_line, register_line, request_fields, rights_fields, target_fields}
use Rattle.script.specs.Fields.{same}
use Rattle.script.specs.Numbers.{every}
use Rattle.script.proofs.Keywords.{line-by, line-next, line-rest, reset-is, no_line}
use Rattle.script.proofs.Told.{told}
use Rattle.script.proofs.command.by_keyword.Goals as goal

pub new-requires : goal.new-requires
unfolding every
new-requires c = (line-next _ (bytes "mem") refl (told c.begins.ensures c.if-begins.true)).within

pub returns-then-begins : goal.returns-then-begins
unfolding by_keyword lines_of same every memory_line target_fields rights_fields
returns-then-begins c =
    let h = told c.begins.ensures c.if-begins.true in
    c.memory.ensures ∙ line-rest _ (bytes "mem") refl h c.new.ensures memory_line (λ f fs. refl) ∙ sym (line-by _ (bytes "mem") refl h)

pub new-requires-then-begins-2 : goal.new-requires-then-begins-2
unfolding every
new-requires-then-begins-2 c = (line-next _ (bytes "reg") refl (told c.begins-2.ensures c.if-begins-2.true)).within

pub returns-then-begins-2 : goal.returns-then-begins-2
unfolding by_keyword lines_of same every blocks_of request_fields rights_fields
returns-then-begins-2 c =
    let h = told c.begins-2.ensures c.if-begins-2.true in
    c.register.ensures ∙ line-rest _ (bytes "reg") refl h c.new-then-begins-2.ensures register_line (λ f fs. refl) ∙ sym (line-by _ (bytes "reg") refl h)

pub new-requires-then-begins-3 : goal.new-requires-then-begins-3
unfolding every
new-requires-then-begins-3 c = (line-next _ (bytes "per") refl (told c.begins-3.ensures c.if-begins-3.true)).within

pub returns-then-begins-3 : goal.returns-then-begins-3
unfolding by_keyword lines_of same every peripheral_line rights_fields
returns-then-begins-3 c =
    let h = told c.begins-3.ensures c.if-begins-3.true in
    c.peripheral.ensures ∙ line-rest _ (bytes "per") refl h c.new-then-begins-3.ensures peripheral_line (λ f fs. refl) ∙ sym (line-by _ (bytes "per") refl h)

pub new-requires-then-begins-4 : goal.new-requires-then-begins-4
unfolding every
new-requires-then-begins-4 c = (line-next _ (bytes "dma") refl (told c.begins-4.ensures c.if-begins-4.true)).within

pub returns-then-begins-4 : goal.returns-then-begins-4
unfolding by_keyword lines_of same every master_line target_fields
returns-then-begins-4 c =
    let h = told c.begins-4.ensures c.if-begins-4.true in
    c.master.ensures ∙ line-rest _ (bytes "dma") refl h c.new-then-begins-4.ensures master_line (λ f fs. refl) ∙ sym (line-by _ (bytes "dma") refl h)

pub new-requires-then-begins-5 : goal.new-requires-then-begins-5
unfolding every
new-requires-then-begins-5 c = (line-next _ (bytes "map") refl (told c.begins-5.ensures c.if-begins-5.true)).within

pub returns-then-begins-5 : goal.returns-then-begins-5
unfolding by_keyword lines_of same every map_line
returns-then-begins-5 c =
    let h = told c.begins-5.ensures c.if-begins-5.true in
    c.map.ensures ∙ line-rest _ (bytes "map") refl h c.new-then-begins-5.ensures map_line (λ f fs. refl) ∙ sym (line-by _ (bytes "map") refl h)

pub returns-then-begins-line : goal.returns-then-begins-line
returns-then-begins-line c =
    let l = c.args.line.now in
    reset-is l (ap (λ (t : Bool). t && eqb (length l) 5) (sym c.begins-6.ensures) ∙ c.if-begins-line.true)

pub returns : goal.returns
returns c =
    let l = c.args.line.now in
    sym
    (no_line l (told c.begins.ensures c.if-begins.false) (told c.begins-2.ensures c.if-begins-2.false)
    (told c.begins-3.ensures c.if-begins-3.false) (told c.begins-4.ensures c.if-begins-4.false)
    (told c.begins-5.ensures c.if-begins-5.false)
    (ap (λ (t : Bool). t && eqb (length l) 5) (sym c.begins-6.ensures) ∙ c.if-begins-line.false))
