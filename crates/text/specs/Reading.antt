-- Reading a text line by line. "In text the earliest line wins": the first line that is refused decides.
use Rattle.std.specs.Prelude.{ℕ, zero, suc, ◌+◌, Bool, cond, ◌&&◌, List, [], ◌∷◌, eqb, length}
use Rattle.text.specs.Lines.{lines}
use Rattle.text.specs.Forms.{Row, form, plain, unfinished}
use Rattle.text.specs.declared.Form.{Form}
use Rattle.text.specs.declared.Refused.{Refused}
use Rattle.refusal.specs.Numbers.{numbered}

-- what a line comes to after those that made s: it makes more, or it is refused by a number
pub data Step (S : Type 0) : Type 0 where
  to : S → Step S
  refused : ℕ → Step S

-- what a text comes to: what its lines make, or the number and the line of the refusal
pub data Read (S : Type 0) : Type 0 where
  made : S → Read S
  no : ℕ → ℕ → Read S

-- a refusal by its number, and its line
abbrev pub refused_at : ℕ → ℕ → Refused
refused_at n k = record { line = k; refusal = numbered n }

-- the refusal that a table of rows gives, or, where that is 0, what is made
abbrev pub unless : {S : Type 0} → ℕ → S → Step S
unless zero s = to s
unless (suc n) s = refused (suc n)

-- a step at line k, and what is read after it
abbrev pub and_then : {S : Type 0} → Step S → ℕ → (S → Read S) → Read S
and_then (refused n) k f = no n k
and_then (to s) k f = f s

-- whole lines from number k on, by what each does, and then the tail by what an end does
unfoldable pub read_lines : {S : Type 0} → (S → List ℕ → Step S) → (S → List ℕ → Step S) → S → ℕ → List (List ℕ) → List ℕ → Read S
read_lines line end s k [] tail = and_then (end s tail) k made
read_lines line end s k (l ∷ ls) tail = and_then (line s l) k (λ s'. read_lines line end s' (k + 1) ls tail)

-- what is read from line k on, in a text that goes on as t
abbrev pub reading : {S : Type 0} → (S → List ℕ → Step S) → (S → List ℕ → Step S) → S → ℕ → List ℕ → Read S
reading line end s k t = read_lines line end s k (lines t).whole (lines t).tail

-- A text of forms: what a form does, and when the text is closed. It may end there; bytes without a line feed are an unfinished line, and so is
-- an end before.
abbrev pub line_of : {S : Type 0} → List Row → (S → Form → Step S) → S → List ℕ → Step S
line_of rows step s l = step s (form rows l)

abbrev pub end_of : {S : Type 0} → (S → Bool) → (S → Form → Step S) → S → List ℕ → Step S
end_of closed step s tail = cond (closed s && eqb (length tail) 0) (to s) (step s (plain unfinished))

abbrev pub reading_forms : {S : Type 0} → List Row → (S → Bool) → (S → Form → Step S) → S → ℕ → List ℕ → Read S
reading_forms rows closed step = reading (line_of rows step) (end_of closed step)
