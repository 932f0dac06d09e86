-- `put_last` meets its contract: the digits from i on are stored, and those before them are the last i of `rest`.
use Rattle.std.proofs.Common.{rules}
use Rattle.writing.proofs.Writing.{lasts_none, lasts_more}
use Rattle.writing.proofs.put_last.Goals as goal

pub loop-i-init : goal.loop-i-init
loop-i-init c =
    lasts_none c.requires

pub loop-i-preserved : goal.loop-i-preserved
loop-i-preserved c =
    search (rules, lasts_more)
