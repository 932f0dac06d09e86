-- `plant_text::terms::read_postings` meets its contract: up to `p` the term's lines are read.
use Prim.Native.Nat.{◌-◌}
use lib.ListN.{length}
use Rattle.plant_text.specs.PlantText.{postings}
use Rattle.plant_text.specs.inner.Terms.{PostsAt, from_posting}
use Rattle.plant_text.proofs.terms.read_postings.Given as goal

abbrev pub invariant-loop-room : goal.invariant-loop-room
invariant-loop-room l =
    let s = l.initial in
    PostsAt l.room l.text l.last l.count s.p.count (from_posting l.room l.text postings s.postings s.p) s.p.at postings l.postings l.p

abbrev pub decreases-loop-room : goal.decreases-loop-room
decreases-loop-room l = length l.text - l.p.at
