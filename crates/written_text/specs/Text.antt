-- The text of a plant and its index. The table that the reader goes by says how each form is written.
use Rattle.std.specs.Prelude.{ℕ, List, map}
use Rattle.plant.specs.Plant.{Plant}
use Rattle.index.specs.Index.{Index}
use Rattle.text.specs.Lines.{ended}
use Rattle.text.specs.Forms.{spelled}
use Rattle.text.specs.declared.Form.{Form}
use Rattle.plant_text.specs.Form.{rows}
use Rattle.written_text.specs.Forms.{plant_forms}

-- forms as bytes, each on a line of its own
abbrev pub bytes_of : List Form → List ℕ
bytes_of fs = ended (map (spelled rows) fs)

abbrev pub text_of : Plant → Index → List ℕ
text_of P I = bytes_of (plant_forms P I)
