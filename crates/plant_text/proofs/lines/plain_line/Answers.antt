-- `plant_text::lines::plain_line` meets its contract: one row of the table after another.
use mathlib.Core.Path.{refl}
use Rattle.text.specs.Lines.{line_at}
use Rattle.text.specs.Patterns.{bytes}
use Rattle.text.proofs.Forms.{own_kinds, no_row, row_on, found_by}
use Rattle.text.specs.Forms.{row}
use Rattle.plant_text.specs.Form.{plant_line, device_line, term_line, own_line, all_line, close_line, rows}
use Rattle.plant_text.specs.inner.Rest.{highest_known}
use Rattle.plant_text.proofs.lines.plain_line.Goals as goal

pub returns : goal.returns
unfolding bytes own_kinds
returns c =
    let a = c.args in
    let n = highest_known in
    let l = line_at a.text.now a.at in
    let r₁ = row_on n l (row plant_line "(plant") (no_row n l c.no_form-form.ensures) c.row-form.ensures in
    let r₂ = row_on n l (row device_line "(dev #") r₁ c.row-form-2.ensures in
    let r₃ = row_on n l (row term_line "(mark #") r₂ c.row-form-3.ensures in
    let r₄ = row_on n l (row own_line "(own #)") r₃ c.row-form-4.ensures in
    let r₅ = row_on n l (row all_line "(all #)") r₄ c.row-form-5.ensures in
    let r₆ = row_on n l (row close_line ")") r₅ c.row-form-6.ensures in
    found_by n rows a.text.now a.at refl r₆ c.line_at.ensures.form c.line_at.ensures.next
