-- `plant_text::terms::add_posting` meets its contract.
use Rattle.std.proofs.lemmas.Result.{err_from_is_err_and}
use Rattle.plant_text.proofs.Posts.{in_plant, post_barred, post_added}
use Rattle.plant_text.proofs.terms.add_posting.Goals as goal

pub check_posting-requires : goal.check_posting-requires
check_posting-requires c =
    let a = c.args in
    let q = c.requires.counts_fit in
    in_plant a.room a.last.now a.postings.now a.count a.begin a.place.count q.0 q.2 q.3 q.4 c.requires.sound_list

pub returns-in_err-check_posting : goal.returns-in_err-check_posting
returns-in_err-check_posting c =
    let a = c.args in
    let q = c.requires.counts_fit in
    let p = err_from_is_err_and c.from_residual.result c.from_residual.ensures.1 in
    rw (p.1, p.2) (post_barred a.room a.last.now a.postings.now a.count a.begin a.place.count q.0 q.2 q.3 q.4 c.requires.sound_list a.d a.kind c.requires.kind_is_posting c.in_err-check_posting.ensures)

pub returns : goal.returns
returns c =
    let a = c.args in
    let q = c.requires.counts_fit in
    post_added a.room a.last.now a.postings.now a.count a.begin a.place.count q.0 q.2 q.3 q.4 c.requires.sound_list a.d a.kind c.requires.kind_is_posting
    c.in_ok-check_posting.ensures c.posting_for.ensures
