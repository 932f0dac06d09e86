-- `query_text::line_at` meets its contract: one row of the table after another, from the first on.
use mathlib.Core.Path.{refl}
use Rattle.laws.specs.Limits.{largest_number}
use Rattle.text.specs.Lines.{line_at}
use Rattle.text.specs.Patterns.{bytes}
use Rattle.text.specs.Forms.{row}
use Rattle.text.proofs.Forms.{own_kinds, no_row, row_on, found_by}
use Rattle.query_text.specs.Form.{open_line, required_line, forbidden_line, level_line, any_level_line, start_line, budget_line, close_line, rows}
use Rattle.query_text.proofs.line_at.Goals as goal

pub returns : goal.returns
unfolding bytes own_kinds
returns c =
    let a = c.args in
    let n = largest_number in
    let l = line_at a.text.now a.at in
    let r₁ = row_on n l (row open_line "(ask") (no_row n l c.no_form-form.ensures) c.row-form.ensures in
    let r₂ = row_on n l (row required_line "(need #)") r₁ c.row-form-2.ensures in
    let r₃ = row_on n l (row forbidden_line "(not #)") r₂ c.row-form-3.ensures in
    let r₄ = row_on n l (row level_line "(level # #)") r₃ c.row-form-4.ensures in
    let r₅ = row_on n l (row any_level_line "(level any)") r₄ c.row-form-5.ensures in
    let r₆ = row_on n l (row start_line "(from #)") r₅ c.row-form-6.ensures in
    let r₇ = row_on n l (row budget_line "(moves #)") r₆ c.row-form-7.ensures in
    let r₈ = row_on n l (row close_line ")") r₇ c.row-form-8.ensures in
    found_by n rows a.text.now a.at refl r₈ c.line_at.ensures.form c.line_at.ensures.next
