-- `plant_text::terms::read_terms` meets its contract: up to the line of form `f` the terms are read.
use Prim.Native.Nat.{◌-◌}
use lib.ListN.{length}
use Rattle.index.specs.Index.{index}
use Rattle.plant_text.specs.inner.Terms.{TermsAt, at_term}
use Rattle.plant_text.proofs.terms.read_terms.Given as goal

abbrev pub invariant-loop-f : goal.invariant-loop-f
invariant-loop-f l =
    let s = l.initial in
    TermsAt l.room l.text l.last l.count (at_term l.room l.text (index s.terms s.starts s.postings) s.f 0 s.p) (index l.terms l.starts l.postings) l.f l.n l.p

abbrev pub decreases-loop-f : goal.decreases-loop-f
decreases-loop-f l = length l.text - l.p.at
