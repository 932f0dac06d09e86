-- `tighten::tighten` meets its contract: a refusal leaves all, else the lists are laid out anew and the rest is cleared.
use Rattle.std.proofs.Common.{sym}
use Rattle.std.proofs.lemmas.Result.{err_from_is_err_and}
use Rattle.plant.specs.Tables.{plant_of}
use Rattle.index.specs.Index.{index}
use Rattle.tighten.proofs.Theorems.{sound_lists}
use Rattle.tighten.proofs.Outcomes.{ends_refused, ends_made}
use Rattle.tighten.proofs.tighten.Goals as goal

pub returns-in_err-branches : goal.returns-in_err-branches
returns-in_err-branches c =
    let p = err_from_is_err_and c.from_residual.result c.from_residual.ensures.1 in
    rw (p.1, p.2) (ends_refused _ _ c.in_err-branches.field-0.0 c.in_err-branches.ensures.refusal)

pub tighten_lists-left-requires : goal.tighten_lists-left-requires
tighten_lists-left-requires c =
    let a = c.in_ok-branches.ensures in
    record {
      sound_lists = rw a.branches (sound_lists (plant_of c.args.plant) (index c.args.terms.now c.args.starts.now c.args.postings.now) (sym a.refusal));
    }

pub returns : goal.returns
returns c =
    let a = c.in_ok-branches.ensures in
    ends_made _ _ (sym a.refusal) (rw a.branches at c.tighten_lists-left.ensures) c.clear.ensures
