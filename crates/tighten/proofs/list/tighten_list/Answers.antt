-- `tighten::list::tighten_list` meets its contract: what was read up to `at` stands tight at `to`, up to `place`.
use Rattle.std.proofs.Common.{arith}
use Rattle.tighten.proofs.Course.{course_end, course_apart, course_known, course_turn}
use Rattle.tighten.proofs.list.tighten_list.Goals as goal

pub lead_of-lead-requires-clause-apart : goal.lead_of-lead-requires-clause-apart
lead_of-lead-requires-clause-apart c = course_apart c.args.branches.forest c.loop-at.invariant (omega arith)

pub lead_of-lead-requires-clause-known : goal.lead_of-lead-requires-clause-known
lead_of-lead-requires-clause-known c = course_known c.args.branches.forest c.loop-at.invariant (omega arith)

pub loop-at-preserved : goal.loop-at-preserved
loop-at-preserved c = course_turn c.args.branches.forest c.loop-at.invariant (omega arith) c.lead_of-lead.ensures

pub returns : goal.returns
returns c = course_end c.args.branches.forest c.loop-at.invariant (omega arith)
