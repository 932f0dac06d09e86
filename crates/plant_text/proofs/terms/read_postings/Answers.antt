-- What `read_postings` returns, and that a list that has been read up to `p` goes on.
use Rattle.std.proofs.lemmas.Result.{err_from_is_err_and}
use Rattle.plant_text.proofs.Posts.{posts_start, posts_refused, posts_ended, posting_refused, posting_added}
use Rattle.plant_text.proofs.terms.read_postings.Goals as goal

pub loop-room-init : goal.loop-room-init
loop-room-init c = posts_start c.requires

pub returns-in_err-check_kind : goal.returns-in_err-check_kind
returns-in_err-check_kind c =
    let p = err_from_is_err_and c.from_residual.result c.from_residual.ensures.1 in
    rw (p.1, p.2) (posts_refused c.loop-room.invariant c.posting_at-found.ensures c.is_posting.ensures c.if-not-is_posting.true c.in_err-check_kind.ensures)

pub returns-then-not-is_posting : goal.returns-then-not-is_posting
returns-then-not-is_posting c =
    posts_ended c.loop-room.invariant c.posting_at-found.ensures c.is_posting.ensures c.if-not-is_posting.true c.in_ok-check_kind.ensures

pub returns-in_err-add_posting : goal.returns-in_err-add_posting
returns-in_err-add_posting c =
    let p = err_from_is_err_and c.from_residual-in_err-add_posting.result c.from_residual-in_err-add_posting.ensures.1 in
    rw (p.1, p.2) (posting_refused c.loop-room.invariant c.posting_at-found.ensures c.is_posting.ensures c.if-not-is_posting.false c.in_err-add_posting.ensures)

pub loop-room-preserved : goal.loop-room-preserved
loop-room-preserved c =
    posting_added c.loop-room.invariant c.posting_at-found.ensures c.is_posting.ensures c.if-not-is_posting.false c.in_ok-add_posting.ensures
