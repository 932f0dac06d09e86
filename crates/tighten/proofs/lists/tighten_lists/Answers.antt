-- `tighten::lists::tighten_lists` meets its contract: the first k lists are tightened.
use Rattle.std.proofs.Common.{refl, arith}
use Rattle.index.proofs.Laying.{lay_start}
use Rattle.tighten.proofs.Rounds.{round_bounds, round_apart, round_turn}
use Rattle.tighten.proofs.lists.tighten_lists.Goals as goal

pub loop-k-init : goal.loop-k-init
loop-k-init c = lay_start _ _ c.requires.sound_lists.outline

pub tighten_list-made-requires-clause-bounds : goal.tighten_list-made-requires-clause-bounds
tighten_list-made-requires-clause-bounds c =
    let p = c.requires in
    round_bounds c.args.branches.forest p.sound_lists c.loop-k.invariant (omega arith) c.start_at-end.ensures

pub tighten_list-made-requires-clause-apart : goal.tighten_list-made-requires-clause-apart
tighten_list-made-requires-clause-apart c =
    let p = c.requires in
    round_apart c.args.branches.forest p.sound_lists c.loop-k.invariant (omega arith) c.start_at-end.ensures

pub loop-k-preserved : goal.loop-k-preserved
loop-k-preserved c =
    let p = c.requires in
    round_turn c.args.branches.forest p.sound_lists c.loop-k.invariant (omega arith) c.start_at-end.ensures refl refl c.tighten_list-made.ensures
