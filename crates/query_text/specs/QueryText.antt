-- Query text (document 01: ask text), read line by line.
use Rattle.std.specs.Prelude.{ℕ, ◌+◌, Bool, cond, ◌&&◌, ◌||◌, List, leb, ltb, eqb, length, Result, Ok, Err}
use Rattle.laws.specs.Limits.{largest_number}
use Rattle.laws.specs.Rows.{pick}
use Rattle.text.specs.Forms.{unfinished}
use Rattle.text.specs.Reading.{Step, Read, made, no, unless, reading_forms}
use Rattle.text.specs.declared.Form.{Form}
use Rattle.text.specs.declared.Refused.{Refused}
use Rattle.refusal.specs.Numbers.{number}
use Rattle.query.specs.Query.{most_named, empty, with_required, with_forbidden, with_levels, with_start, with_budget}
use Rattle.query.specs.declared.Query.{Query}
use Rattle.query.specs.declared.Levels.{Levels}
use Rattle.query_text.specs.Form.{open_line, required_line, forbidden_line, level_line, any_level_line, start_line, budget_line, close_line, rows, repeats}
use Rattle.query_text.specs.declared.Draft.{Draft}

-- The order of lines: the stage is the lowest kind that the next line may be of. The kinds of no form and of an unfinished line are below every
-- stage.
abbrev pub first_stage : ℕ
first_stage = open_line

-- the stage after the close: no line may follow
abbrev pub closed_stage : ℕ
closed_stage = close_line + 1

-- a line of a kind that repeats may follow itself. No level line follows either of the two: "at most one each of level, from and moves".
abbrev pub next_stage : ℕ → ℕ
next_stage kind = cond (repeats kind) kind (cond (eqb kind level_line) start_line (kind + 1))

-- 31: a line of a kind below the stage, or a first line that does not open the query
abbrev pub out_of_order : ℕ → ℕ → Bool
out_of_order stage kind = ltb kind stage || (eqb stage first_stage && ltb open_line kind)

-- nothing is read yet: "What is absent takes the empty ask's setting." So without a level line true levels only are wanted.
abbrev pub begun : Draft
begun = record { stage = first_stage; query = empty }

abbrev pub closed : Draft → Bool
closed d = eqb d.stage closed_stage

-- 32: "a number over 4,294,967,295"
abbrev pub over : Form → Bool
over f = ltb largest_number f.before || ltb largest_number f.number

-- 35: "a ninth need or not line"
abbrev pub ninth : Query → ℕ → Bool
ninth q kind =
    (eqb kind required_line && leb most_named q.required.count)
    || (eqb kind forbidden_line && leb most_named q.forbidden.count)

-- document 01's rows for one line, in the table's order
unfoldable pub line_refusal : Draft → Form → ℕ
line_refusal d f =
    pick (closed d) 34
    (pick (eqb f.kind unfinished) 33
    (pick (out_of_order d.stage f.kind) 31
    (pick (over f) 32
    (pick (ninth d.query f.kind) 35
    0))))

-- the query with one line more; document 02: "`(level any)` asks for what the missing line meant before"
abbrev pub with_form : Query → Form → Query
with_form q f =
    let k = f.kind in
    cond (eqb k required_line) (with_required q f.number)
    (cond (eqb k forbidden_line) (with_forbidden q f.number)
    (cond (eqb k level_line) (with_levels q (Levels.Range f.before f.number))
    (cond (eqb k any_level_line) (with_levels q Levels.Any)
    (cond (eqb k start_line) (with_start q f.number)
    (cond (eqb k budget_line) (with_budget q f.number)
    q)))))

abbrev pub with_line : Draft → Form → Draft
with_line d f = record { stage = next_stage f.kind; query = with_form d.query f }

abbrev pub step : Draft → Form → Step Draft
step d f = unless (line_refusal d f) (with_line d f)

-- what a text comes to in numbers: the refusal and its line, or 0 and 0, and the query
pub record QueryRead : Type 0 where
  pub refusal : ℕ
  pub line : ℕ
  pub query : Query

-- "A refusal gives number and line and an empty ask."
abbrev pub told : Read Draft → QueryRead
told (made d) = record { refusal = 0; line = 0; query = d.query }
told (no n k) = record { refusal = n; line = k; query = empty }

-- and as the code tells it
abbrev pub told_of : Result Query Refused → QueryRead
told_of (Ok q) = record { refusal = 0; line = 0; query = q }
told_of (Err e) = record { refusal = number e.refusal; line = e.line; query = empty }

-- 30: "over 4,096 bytes (line 0)"
abbrev pub longest_text : ℕ
longest_text = 4_096

-- the query of a text, or its refusal
unfoldable pub read_query : List ℕ → QueryRead
read_query t = told (cond (ltb longest_text (length t)) (no 30 0) (reading_forms rows closed step begun 1 t))
