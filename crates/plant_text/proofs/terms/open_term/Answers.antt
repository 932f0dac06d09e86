-- `plant_text::terms::open_term` meets its contract.
use Rattle.std.proofs.lemmas.Result.{err_from_is_err_and}
use Rattle.plant_text.proofs.Index.{term_barred, term_opened}
use Rattle.plant_text.proofs.terms.open_term.Goals as goal

pub returns-in_err-check_term : goal.returns-in_err-check_term
returns-in_err-check_term c =
    let p = err_from_is_err_and c.from_residual.result c.from_residual.ensures.1 in
    rw (p.1, p.2) (term_barred _ _ _ _ _ _ c.requires.0 c.requires.1 c.requires.2 c.in_err-check_term.ensures)

pub returns : goal.returns
returns c = term_opened _ _ _ _ _ _ c.requires.0 c.requires.1 c.requires.2 c.in_ok-check_term.ensures
