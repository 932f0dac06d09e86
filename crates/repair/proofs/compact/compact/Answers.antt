-- `repair::compact::compact` meets its contract: the first k lists are compacted.
use Rattle.std.proofs.Common.{refl, arith}
use Rattle.repair.proofs.Lists.{round_start, round_bounds, round_fit, round_room, round_turn}
use Rattle.repair.proofs.compact.compact.Goals as goal

pub loop-k-init : goal.loop-k-init
loop-k-init c = round_start c.requires.repairable

pub compact_list-filled-requires : goal.compact_list-filled-requires
compact_list-filled-requires c =
    let p = c.requires in
    let e = c.start_at-end.ensures in
    let h = c.loop-k.invariant in
    record {
      in_order = round_bounds p.repairable p.report_in_bounds h (omega arith) e;
      fit = round_fit p.repairable p.report_in_bounds h (omega arith) e;
      report_in_bounds = round_room p.repairable p.report_in_bounds h (omega arith) e;
    }

pub loop-k-preserved : goal.loop-k-preserved
loop-k-preserved c =
    let p = c.requires in
    round_turn p.repairable p.report_in_bounds c.loop-k.invariant (omega arith) c.start_at-end.ensures refl refl
    c.from.ensures c.compact_list-filled.ensures
