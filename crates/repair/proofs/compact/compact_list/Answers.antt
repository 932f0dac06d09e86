-- `repair::compact::compact_list` meets its contract: the postings up to i are kept or reported.
use Rattle.std.proofs.Common.{arith}
use Rattle.repair.proofs.Compacting.{course_start, course_place, course_held, course_room, course_device, course_turn}
use Rattle.repair.proofs.compact.compact_list.Goals as goal

pub loop-i-init : goal.loop-i-init
loop-i-init c = let p = c.requires in course_start c.args.branches.forest p.in_order p.fit p.report_in_bounds

pub put-filled-requires : goal.put-filled-requires
put-filled-requires c =
    let e = c.device_of.ensures in
    let h = c.loop-i.invariant in
    record {
      postings_in_bounds = course_place h (omega arith);
      one_is_kept = λ z. course_held h (omega arith) (rw e at z);
      report_in_bounds = λ z. course_room h (omega arith) (rw e at z);
    }

pub further-reached-requires : goal.further-reached-requires
further-reached-requires c = course_device c.loop-i.invariant (omega arith)

pub loop-i-preserved : goal.loop-i-preserved
loop-i-preserved c =
    let e = c.device_of.ensures in
    course_turn c.loop-i.invariant (omega arith) (rw e at c.put-filled.ensures) c.further-reached.ensures
