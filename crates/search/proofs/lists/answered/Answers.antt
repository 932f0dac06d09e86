-- `search::lists::answered` meets its contract: the lists looked up are those that the query names.
use native.Mathlib.Omega.{arith}
use Rattle.std.proofs.Common.{length-take}
use Rattle.two_indexes.proofs.Accepted.{accepted_rise}
use Rattle.query.specs.Query.{used}
use Rattle.search.proofs.Answers.{admitted, lists-fit, begins, run-ended}
use Rattle.search.proofs.lists.answered.Goals as goal

pub shared_ref_as_front-required : goal.shared_ref_as_front-required
shared_ref_as_front-required c = (admitted _ _ _ _ c.requires).query.query.few_required

pub shared_ref_as_front-forbidden : goal.shared_ref_as_front-forbidden
shared_ref_as_front-forbidden c = (admitted _ _ _ _ c.requires).query.query.few_forbidden

pub gather-requires-clause-rise : goal.gather-requires-clause-rise
gather-requires-clause-rise c = accepted_rise _ _ (admitted _ _ _ _ c.requires).indexes

pub run-requires-clause-tables : goal.run-requires-clause-tables
run-requires-clause-tables c =
    let r = admitted _ _ _ _ c.requires in
    (r.tables, r.forest.levels, r.query.roomy, r.query.query.from_first, r.query.query.to_end)

pub run-requires-clause-lists : goal.run-requires-clause-lists
run-requires-clause-lists c =
    let r = admitted _ _ _ _ c.requires in
    let q = r.query.query in
    lists-fit (used c.args.query.required) (used c.args.query.forbidden) c.gather.ensures (simp length-take (omega arith)) r.list

pub returns : goal.returns
returns c = run-ended _ _ c.args.query (begins (used c.args.query.required) (used c.args.query.forbidden) c.gather.ensures) c.run.ensures
