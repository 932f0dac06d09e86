-- `query::terms::terms_of` meets its contract: the first terms are copied, up to eight.
use Rattle.query.proofs.Places.{copied}
use Rattle.query.proofs.terms.terms_of.Goals as goal

pub returns : goal.returns
returns c =
    copied c.args.list.now _ c.min-kept.ensures c.copy_from_slice.ensures.after
