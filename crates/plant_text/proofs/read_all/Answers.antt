-- `plant_text::read_all` meets its contract.
use Rattle.std.proofs.lemmas.Result.{err_from_is_err_and}
use Rattle.plant.specs.Plant.{plant}
use Rattle.index.specs.Index.{index}
use Rattle.plant_text.proofs.Whole.{all_20, all_start, listed_reads, terms_reads, all_after, all_made}
use Rattle.plant_text.proofs.read_all.Goals as goal

pub returns-then-text-gt65536 : goal.returns-then-text-gt65536
returns-then-text-gt65536 c = record { reads = all_20 c.args.room c.args.text.now c.if-text-gt65536.true }

pub returns-in_err-check_kind : goal.returns-in_err-check_kind
returns-in_err-check_kind c =
    let a = c.args in
    let p = err_from_is_err_and c.from_residual.result c.from_residual.ensures.1 in
    record { reads = rw (p.1, p.2) (all_start a.text.now a.room c.if-text-gt65536.false c.line_at-first.ensures c.in_err-check_kind.ensures) }

pub returns-in_err-form : goal.returns-in_err-form
returns-in_err-form c =
    let a = c.args in
    let p = err_from_is_err_and c.from_residual-in_err-form.result c.from_residual-in_err-form.ensures.1 in
    record {
      reads =
          rw (p.1, p.2)
          (listed_reads a.text.now a.room c.if-text-gt65536.false c.line_at-first.ensures c.in_ok-check_kind.ensures (plant a.last.now a.root.now a.level.now)
          c.in_err-form.ensures.reads);
    }

pub returns-in_err-count : goal.returns-in_err-count
returns-in_err-count c =
    let a = c.args in
    let p = err_from_is_err_and c.from_residual-in_err-count.result c.from_residual-in_err-count.ensures.1 in
    record {
      reads =
          rw (p.1, p.2)
          (terms_reads a.text.now a.room c.if-text-gt65536.false c.line_at-first.ensures c.in_ok-check_kind.ensures (plant a.last.now a.root.now a.level.now)
          c.in_ok-form.ensures.reads (index a.terms.now a.starts.now a.postings.now) c.in_err-count.ensures.reads);
    }

pub returns-then-end-text : goal.returns-then-end-text
returns-then-end-text c =
    let a = c.args in
    record {
      reads =
          all_after a.text.now a.room c.if-text-gt65536.false c.line_at-first.ensures c.in_ok-check_kind.ensures (plant a.last.now a.root.now a.level.now)
          c.in_ok-form.ensures.reads (index a.terms.now a.starts.now a.postings.now) c.in_ok-count.ensures.reads c.if-end-text.true;
    }

pub returns : goal.returns
returns c =
    let a = c.args in
    record {
      reads =
          all_made a.text.now a.room c.if-text-gt65536.false c.line_at-first.ensures c.in_ok-check_kind.ensures (plant a.last.now a.root.now a.level.now)
          c.in_ok-form.ensures.reads (index a.terms.now a.starts.now a.postings.now) c.in_ok-count.ensures.reads c.if-end-text.false;
    }
