-- `text::is_byte_at` meets its contract.
use Rattle.std.proofs.Common.{sym}
use borrow.Author.Tests.{ltb-false}
use Rattle.text.proofs.Lines.{byte_none, byte_same, byte_ends}
use Rattle.text.proofs.is_byte_at.Goals as goal

pub returns-then-c-ne10 : goal.returns-then-c-ne10
returns-then-c-ne10 c =
    let k = c.in-Some.ensures.lookup.3 in
    byte_same _ _ _ k.0 (k.1 0) c.if-c-ne10.true

pub returns-else-c-ne10 : goal.returns-else-c-ne10
returns-else-c-ne10 c =
    let k = c.in-Some.ensures.lookup.3 in
    byte_ends _ _ _ k.0 (k.1 0) c.if-c-ne10.false

pub returns-in-None : goal.returns-in-None
returns-in-None c =
    byte_none _ _ _ (ltb-false _ _ (sym c.in-None.ensures.lookup.0))
