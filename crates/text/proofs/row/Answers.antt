-- `text::row` meets its contract.
use Rattle.text.proofs.Forms.{row_known, asks}
use Rattle.text.proofs.row.Goals as goal

pub returns-then-form-ne-OTHER : goal.returns-then-form-ne-OTHER
returns-then-form-ne-OTHER c =
    row_known _ _ _ _ _ c.if-form-ne-OTHER.true

pub returns-in-Some : goal.returns-in-Some
returns-in-Some c =
    asks _ _ _ _ _ c.if-form-ne-OTHER.false c.in-Some.ensures

pub returns-in-None : goal.returns-in-None
returns-in-None c =
    asks _ _ _ _ _ c.if-form-ne-OTHER.false c.in-None.ensures
