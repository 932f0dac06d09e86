-- `search::lists::gather` meets its contract: the first slices are the lists of the first terms.
use lib.ListN.{length-append}
use Rattle.std.proofs.lemmas.List.{length_push}
use Rattle.std.proofs.lemmas.Iterator.{YieldsList-from_slice}
use Rattle.std.proofs.lemmas.Iterator.Consumers.{YieldsList-from_enumerate, YieldsList-from_chain, YieldsList-turn, YieldsList-end}
use Rattle.two_indexes.proofs.Looked.{looked_list}
use Rattle.search.proofs.Gathering.{gathered_more, gathered_all}
use Rattle.search.proofs.lists.gather.Goals as goal

pub loop-i-preserved : goal.loop-i-preserved
loop-i-preserved c =
    let t = YieldsList-turn
    (YieldsList-from_enumerate (YieldsList-from_chain (YieldsList-from_slice c.args.required.now cc) (YieldsList-from_slice c.args.forbidden.now cc) (cc) (cc)) (cc))
    c.loop-i.yielded _ c.loop-i.yielded_by _ _ (c.in-Some.i, c.in-Some.field-0-1) c.in-Some.is c.next.ensures.steps in
    rw length_push
    (gathered_more c.loop-i.invariant c.list_of.result (rw length-append c.requires.few) t
    (looked_list _ c.requires.rise.0 c.requires.rise.1 c.list_of.ensures))

pub returns : goal.returns
returns c =
    let t = YieldsList-end
    (YieldsList-from_enumerate (YieldsList-from_chain (YieldsList-from_slice c.args.required.now cc) (YieldsList-from_slice c.args.forbidden.now cc) (cc) (cc)) (cc))
    c.loop-i.yielded _ c.loop-i.yielded_by _ _ c.in-None.is c.next.ensures.steps in
    gathered_all c.loop-i.invariant t.1
