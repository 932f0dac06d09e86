-- `text::line_at` meets its contract.
use Rattle.std.proofs.Common.{sym, rules}
use Rattle.text.proofs.Forms.{ends_whole, ends_tail}
use Rattle.text.proofs.line_at.Goals as goal

pub returns-in-Some : goal.returns-in-Some
returns-in-Some c =
    let w = ends_whole _ _ c.args.form c.min-from.ensures (sym c.in-Some.ensures) in
    record { form = w.0; next = w.1 }

pub returns-in-None : goal.returns-in-None
returns-in-None c =
    let w = ends_tail _ _ c.args.form c.min-from.ensures (sym c.in-None.ensures) in
    record { form = search rules; next = w.1 }
