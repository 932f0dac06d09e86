-- What `read_terms` returns, and that the terms that have been read up to the line of form `f` go on.
use Rattle.std.proofs.lemmas.Result.{err_from_is_err_and}
use Rattle.plant_text.proofs.Index.{terms_refused, terms_closed, term_refused, entered, terms_more}
use Rattle.plant_text.proofs.terms.read_terms.Goals as goal

pub returns-in_err-open_term : goal.returns-in_err-open_term
returns-in_err-open_term c =
    let p = err_from_is_err_and c.from_residual.result c.from_residual.ensures.1 in
    record { reads = rw (p.1, p.2) (term_refused c.loop-f.invariant c.loop-f-test.true c.in_err-open_term.ensures) }

pub returns-in_err-end : goal.returns-in_err-end
returns-in_err-end c =
    let p = err_from_is_err_and c.from_residual-in_err-end.result c.from_residual-in_err-end.ensures.1 in
    record { reads = rw (p.1, p.2) (entered c.loop-f.invariant c.loop-f-test.true c.in_ok-open_term.ensures c.in_err-end.ensures) }

pub loop-f-preserved : goal.loop-f-preserved
loop-f-preserved c = terms_more c.loop-f.invariant c.loop-f-test.true c.in_ok-open_term.ensures c.in_ok-end.ensures c.line_at-found.ensures

pub returns-in_err-check_kind : goal.returns-in_err-check_kind
returns-in_err-check_kind c =
    let p = err_from_is_err_and c.from_residual-in_err-check_kind.result c.from_residual-in_err-check_kind.ensures.1 in
    record { reads = rw (p.1, p.2) (terms_refused c.loop-f.invariant c.loop-f-test.false c.in_err-check_kind.ensures) }

pub returns : goal.returns
returns c = record { reads = terms_closed c.loop-f.invariant c.loop-f-test.false c.in_ok-check_kind.ensures }
