-- `query_text::read` meets its contract: at each turn, what the whole text comes to is what the rest of it comes to.
use Rattle.std.proofs.Common.{rules, ◌∙◌}
use Rattle.std.proofs.lemmas.Result.{err_from_is_err_and}
use Rattle.query_text.proofs.Turns.{too_long, reads_begun, reads_finished, mapped_ok, mapped_err, reads_refused, reads_less, reads_more}
use Rattle.query_text.proofs.read.Goals as goal

pub returns-then-text-gt-LONGEST_TEXT : goal.returns-then-text-gt-LONGEST_TEXT
returns-then-text-gt-LONGEST_TEXT c =
    too_long _ c.if-text-gt-LONGEST_TEXT.true

pub loop-form-init : goal.loop-form-init
loop-form-init c =
    search (reads_begun, rules)

pub returns-in_err-map_err : goal.returns-in_err-map_err
returns-in_err-map_err c =
    let p = err_from_is_err_and c.from_residual.result c.from_residual.ensures.1 in
    let m = mapped_err _ c.loop-form.line c.check_line.result c.map_err.result c.map_err.ensures.cases c.in_err-map_err.was (λ e w h. search rules) in
    rw (p.1, p.2) (reads_refused c.loop-form.invariant c.is_finished.ensures c.loop-form-test.true c.line_at-next.ensures _ (m.1 ∙ c.check_line.ensures) m.0)

pub loop-form-smaller : goal.loop-form-smaller
loop-form-smaller c =
    let n = mapped_ok _ c.loop-form.line c.check_line.result c.map_err.result c.map_err.ensures.cases c.in_ok-map_err.was in
    search (reads_less, rules)

pub loop-form-preserved : goal.loop-form-preserved
loop-form-preserved c =
    let n = mapped_ok _ c.loop-form.line c.check_line.result c.map_err.result c.map_err.ensures.cases c.in_ok-map_err.was in
    search (reads_more, rules)

pub returns : goal.returns
returns c =
    search (reads_finished, rules)
