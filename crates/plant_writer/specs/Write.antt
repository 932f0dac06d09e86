-- What the writer answers, and what it leaves in the lent buffer.
use Rattle.std.specs.Prelude.{ℕ, zero, suc, List, ◌++◌, length, drop, Result, Ok, Err}
use Rattle.laws.specs.Lent.{value_or}
use Rattle.plant.specs.Plant.{Plant}
use Rattle.index.specs.Index.{Index}
use Rattle.written_text.specs.Text.{text_of}
use Rattle.written_text.specs.Refusals.{write_refusal}
use Rattle.refusal.specs.declared.Refusal.{Refusal}
use Rattle.refusal.specs.Numbers.{refused, given}

-- for a buffer of so many bytes: the length of the text, or the refusal
abbrev pub outcome_of : Plant → Index → ℕ → Result ℕ Refusal
outcome_of P I room = given (write_refusal P I room) (length (text_of P I))

-- "Past the written length the lent text buffer keeps its contents; a refusal changes nothing in it."
abbrev pub text_or : ℕ → List ℕ → List ℕ → List ℕ
text_or zero text out = text ++ drop (length text) out
text_or (suc n) text out = out

abbrev pub text_after : Plant → Index → List ℕ → List ℕ
text_after P I out = text_or (write_refusal P I (length out)) (text_of P I) out

-- An outcome in document 02's numbers, case by case: its number, 0 or the refusal; and its value, the length written, 0 where it is refused.
abbrev pub written_number : Result ℕ Refusal → ℕ
written_number r = refused r

abbrev pub written_length : Result ℕ Refusal → ℕ
written_length (Ok long) = long
written_length (Err e) = 0

-- and the length that is written, by the refusal
abbrev pub length_of : Plant → Index → ℕ → ℕ
length_of P I room = value_or (write_refusal P I room) (length (text_of P I))
