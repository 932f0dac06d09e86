-- Plant text, read line by line: what it makes, and document 01's rows 20 to 29 without 26, which no text gave (document 02, §13;
-- proofs/Row26.antt).
use Rattle.std.specs.Prelude.{ℕ, ◌+◌, ◌-◌, min, Bool, true, false, cond, ◌&&◌, ◌||◌, not, List, [], ◌∷◌, ◌++◌, leb, ltb, eqb, length, set, Result, Ok, Err}
use Rattle.laws.specs.Lent.{filled}
use Rattle.laws.specs.Limits.{most_devices, highest_term}
use Rattle.laws.specs.Rows.{pick}
use Rattle.laws.specs.Tables.{entry}
use Rattle.plant.specs.Plant.{Plant, plant, size}
use Rattle.index.specs.Postings.{posting, device, shadowed}
use Rattle.index.specs.Index.{Index, index, count, list, most_terms, most_postings}
use Rattle.text.specs.Forms.{unfinished}
use Rattle.refusal.specs.Numbers.{number}
use Rattle.text.specs.Reading.{Step, Read, made, no, unless, reading_forms, refused_at}
use Rattle.text.specs.declared.Form.{Form}
use Rattle.text.specs.declared.Refused.{Refused}
use Rattle.plant_text.specs.Form.{plant_line, device_line, term_line, all_line, close_line, rows, is_posting, numbered}
use Rattle.plant_text.specs.declared.Room.{Room}
use Rattle.plant_text.specs.declared.Counts.{Counts}

-- 20: "over 65,536 bytes (line 0)"
abbrev pub longest_text : ℕ
longest_text = 65_536

-- "its level code 0 to 255, held as one byte"
abbrev pub highest_code : ℕ
highest_code = 255

-- "at most 32 are open together"
abbrev pub most_open : ℕ
most_open = 32

-- "The text opens with a plant line, then come devices, then marks, then the closing line": before the plant line; among the devices; between
-- terms; among the postings of a term; after the closing line
pub data Stage : Type 0 where
  start devices terms postings closed : Stage

-- what the lines read so far have made
pub record State : Type 0 where
  pub stage : Stage
  pub opened : List ℕ  -- the open devices, the innermost first
  pub plant : Plant
  pub index : Index

abbrev pub nothing : State
nothing = record { stage = start; opened = []; plant = plant [] [] []; index = index [] [] [] }

abbrev pub rank : Stage → ℕ
rank start = 0
rank devices = 1
rank terms = 2
rank postings = 3
rank closed = 4

abbrev pub is : Stage → State → Bool
is s m = eqb (rank m.stage) (rank s)

abbrev pub empty : List ℕ → Bool
empty [] = true
empty (x ∷ xs) = false

-- the postings of the newest term
abbrev pub current : State → List ℕ
current m = list m.index (count m.index)

-- 21: "not a form, or a form that can't stand here": the kinds of line that may stand at a stage, where those devices are open; a closing
-- bracket can't be the first line, and after the closing line nothing stands
abbrev pub stands : Stage → List ℕ → ℕ → Bool
stands start ds kind = eqb kind plant_line
stands devices ds kind = eqb kind device_line || (eqb kind term_line && empty ds) || eqb kind close_line
stands terms ds kind = eqb kind term_line || eqb kind close_line
stands postings ds kind = is_posting kind || eqb kind close_line
stands closed ds kind = false

abbrev pub misplaced : State → Form → Bool
misplaced m f = not (stands m.stage m.opened f.kind)

-- 22: "level over 255, mark outside 1..65,535, posting device outside 1..N"
abbrev pub out_of_range : State → Form → Bool
out_of_range m f =
    let n = f.number in
    numbered (ltb highest_code n) (eqb n 0 || ltb highest_term n) (eqb n 0 || ltb (size m.plant) n) f.kind

-- 23: "a 33rd open device"
abbrev pub too_deep : State → Form → Bool
too_deep m f = numbered (leb most_open (length m.opened)) false false f.kind

-- 27: "a lent table has no place left for the line"
abbrev pub no_place : Room → State → Form → Bool
no_place r m f =
    numbered (leb r.devices (size m.plant)) (leb r.terms (count m.index)) (leb r.postings (length m.index.postings)) f.kind

-- 28: "marks, or devices in a mark, not rising"
abbrev pub not_rising : State → Form → Bool
not_rising m f =
    let n = f.number in
    numbered false (leb n (entry m.index.terms (count m.index))) (leb n (device (entry (current m) (length (current m))))) f.kind

-- 29: "a redundant posting"
abbrev pub is_redundant : State → Form → Bool
is_redundant m f = numbered false false (shadowed m.plant.last (current m) f.number) f.kind

-- document 01's rows for a line of plant text, in its order: the first that applies, or 0. 25: "bytes after the closed plant"; 24: "bytes end,
-- or a line is unfinished, before the plant closes"
unfoldable pub line_refusal : Room → State → Form → ℕ
line_refusal r m f =
    pick (is closed m) 25
    (pick (eqb f.kind unfinished) 24
    (pick (misplaced m f) 21
    (pick (out_of_range m f) 22
    (pick (too_deep m f) 23
    (pick (no_place r m f) 27
    (pick (not_rising m f) 28
    (pick (is_redundant m f) 29
    0)))))))

-- the outermost open device, or the device that opens
abbrev pub outermost : List ℕ → ℕ → ℕ
outermost [] d = d
outermost (o ∷ os) d = outermost os o

abbrev pub at_stage : Stage → State → State
at_stage s m = record { stage = s; opened = m.opened; plant = m.plant; index = m.index }

-- a device opens: "Numbers follow the order in which devices open"; its last device is known when it closes
abbrev pub open_device : State → ℕ → State
open_device m n = record {
  stage = devices;
  opened = (size m.plant + 1) ∷ m.opened;
  plant = plant (m.plant.last ++ (0 ∷ [])) (m.plant.root ++ (outermost m.opened (size m.plant + 1) ∷ [])) (m.plant.level ++ (n ∷ []));
  index = m.index;
}

abbrev pub open_term : State → ℕ → State
open_term m t = record {
  stage = postings;
  opened = m.opened;
  plant = m.plant;
  index = index (m.index.terms ++ (t ∷ [])) (m.index.starts ++ (length m.index.postings ∷ [])) m.index.postings;
}

abbrev pub add_posting : State → ℕ → Bool → State
add_posting m d shared = record {
  stage = postings;
  opened = m.opened;
  plant = m.plant;
  index = index m.index.terms m.index.starts (m.index.postings ++ (posting d shared ∷ []));
}

-- the innermost open device closes: the last device of its branch is the last that opened; or the plant closes
abbrev pub close_device : State → List ℕ → State
close_device m [] = at_stage closed m
close_device m (d ∷ ds) = record {
  stage = devices;
  opened = ds;
  plant = plant (set m.plant.last (d - 1) (size m.plant)) m.plant.root m.plant.level;
  index = m.index;
}

-- what a closing bracket closes
abbrev pub close : State → Stage → State
close m start = m
close m devices = close_device m m.opened
close m terms = at_stage closed m
close m postings = at_stage terms m
close m closed = m

-- what a line that is not refused makes
unfoldable pub next : State → Form → State
next m f =
    let k = f.kind in
    cond (eqb k plant_line) (at_stage devices m)
    (cond (eqb k device_line) (open_device m f.number)
    (cond (eqb k term_line) (open_term m f.number)
    (cond (is_posting k) (add_posting m f.number (eqb k all_line))
    (cond (eqb k close_line) (close m m.stage)
    m))))

abbrev pub step : Room → State → Form → Step State
step r m f = unless (line_refusal r m f) (next m f)

-- what a text comes to, with room for so many devices, terms and postings
unfoldable pub read_plant : Room → List ℕ → Read State
read_plant r text = cond (ltb longest_text (length text)) (no 20 0) (reading_forms rows (is closed) (step r) nothing 1 text)

-- the room of lent tables: a device has an entry in each of three, a term in each of two. However long they are, it is no more than a plant and an
-- index may have (rows 1 and 5)
abbrev pub places : ℕ → ℕ → ℕ → ℕ → ℕ → ℕ → Room
places l r v t s p =
    record { devices = min most_devices (min l (min r v)); terms = min most_terms (min t s); postings = min most_postings p }

abbrev pub room : Plant → Index → Room
room P I = places (length P.last) (length P.root) (length P.level) (length I.terms) (length I.starts) (length I.postings)

-- what a text comes to that is read into the device tables P and the index's tables I
abbrev pub read_into : List ℕ → Plant → Index → Read State
read_into text P I = read_plant (room P I) text

-- "Success gives the numbers of devices, marks and postings"; a refusal "gives the number and the line"
abbrev pub counts : ℕ → ℕ → ℕ → Counts
counts d n p = record { devices = d; terms = n; postings = p }

abbrev pub outcome_of : Read State → Result Counts Refused
outcome_of (made m) = Ok (counts (size m.plant) (count m.index) (length m.index.postings))
outcome_of (no n k) = Err (refused_at n k)

-- An outcome in document 01's numbers, case by case: its number, 0 or the refusal; and its values, the line of a refusal, or the numbers of devices,
-- terms and postings. A value that a case does not have is 0.
pub record Values : Type 0 where
  pub line : ℕ
  pub devices : ℕ
  pub terms : ℕ
  pub postings : ℕ

abbrev pub counted : ℕ → ℕ → ℕ → Values
counted d n p = record { line = 0; devices = d; terms = n; postings = p }

abbrev pub at_line : ℕ → Values
at_line k = record { line = k; devices = 0; terms = 0; postings = 0 }

abbrev pub outcome_number : Result Counts Refused → ℕ
outcome_number (Ok c) = 0
outcome_number (Err e) = number e.refusal

abbrev pub outcome_values : Result Counts Refused → Values
outcome_values (Ok c) = counted c.devices c.terms c.postings
outcome_values (Err e) = at_line e.line

-- and those of what a text comes to
abbrev pub read_number : Read State → ℕ
read_number (made m) = 0
read_number (no n k) = n

abbrev pub read_values : Read State → Values
read_values (made m) = counted (size m.plant) (count m.index) (length m.index.postings)
read_values (no n k) = at_line k

-- what is left in the tables: "entries beyond those are 0. Any plant-text refusal sets every entry of every lent table to 0"
abbrev pub kept : Read State → State
kept (made m) = m
kept (no n k) = nothing

-- what reading a text into P and I answers, and what the tables hold then
abbrev pub outcome_after : List ℕ → Plant → Index → Result Counts Refused
outcome_after text P I = outcome_of (read_into text P I)

abbrev pub plant_after : List ℕ → Plant → Index → Plant
plant_after text P I =
    let m = kept (read_into text P I) in
    plant (filled (length P.last) m.plant.last) (filled (length P.root) m.plant.root) (filled (length P.level) m.plant.level)

abbrev pub index_after : List ℕ → Plant → Index → Index
index_after text P I =
    let m = kept (read_into text P I) in
    index (filled (length I.terms) m.index.terms) (filled (length I.starts) m.index.starts) (filled (length I.postings) m.index.postings)
