-- 26, "a closing bracket with nothing open", was a row of document 01's table between 21 and 22. It applied only where 25 or 21, which stood before
-- it, did too (`bracket_was`). So no text of any length, into tables of any room, was refused by it (`never`), and without it every text keeps its
-- number and its line (`the_same`). Document 02, §13: it is no row any more, and its number isn't used again.
use Prim.Native.Nat.{ℕ, suc}
use mathlib.Core.Path.{◌≡◌, refl, sym, ap, ◌∙◌}
use mathlib.Core.Bool.{Bool, true, cond, ◌&&◌, ◌||◌, not, and-false, true≢false}
use mathlib.Core.List.{List, [], ◌∷◌, ◌++◌, map}
use native.Mathlib.Omega.{arith}
use borrow.Author.Tests.{ne_eqb, eqb-true}
use lib.Dec.{ltb, eqb}
use lib.ListN.{length}
use Rattle.laws.specs.Front.{until}
use Rattle.laws.specs.Rows.{pick}
use Rattle.laws.specs.Search.{any}
use Rattle.laws.proofs.Cases.{either, split_cond}
use Rattle.laws.proofs.Rows.{pick_other}
use Rattle.laws.proofs.Tests.{and_yes}
use Rattle.text.specs.Lines.{lines, ended}
use Rattle.text.specs.Decimal.{decimal, number}
use Rattle.text.specs.Patterns.{bytes, fit_after}
use Rattle.text.specs.Forms.{unfinished, plain, form}
use Rattle.text.specs.Reading.{Step, Read, no, unless, read_lines, reading_forms}
use Rattle.text.specs.declared.Form.{Form}
use Rattle.text.proofs.Reading.{reads_alike, never_refused, unless_other}
use Rattle.plant_text.specs.Form.{plant_line, device_line, term_line, close_line, rows, is_posting}
use Rattle.plant_text.specs.PlantText.{Stage, start, devices, terms, postings, closed, State, nothing, rank, is, empty, stands, misplaced, out_of_range, too_deep, no_place, not_rising, is_redundant, line_refusal, next, longest_text, read_plant, places, read_number}
use Rattle.plant_text.specs.declared.Room.{Room}
use Rattle.plant_text.proofs.Example.{text_P, made_P}

-- ---- the rows as they stood

-- the number of open brackets: the plant's, and those of the open devices or of the term
abbrev brackets : Stage → List ℕ → ℕ
brackets start ds = 0
brackets devices ds = suc (length ds)
brackets terms ds = 1
brackets postings ds = 2
brackets closed ds = 0

-- 21: "not a form, or a form that can't stand here"; after the closing line a closing bracket could stand, as far as 21 went
abbrev stood : Stage → List ℕ → ℕ → Bool
stood start ds kind = eqb kind plant_line
stood devices ds kind = eqb kind device_line || (eqb kind term_line && empty ds) || eqb kind close_line
stood terms ds kind = eqb kind term_line || eqb kind close_line
stood postings ds kind = is_posting kind || eqb kind close_line
stood closed ds kind = eqb kind close_line

-- 26: "a closing bracket with nothing open"
abbrev pub unopened : State → Form → Bool
unopened m f = eqb f.kind close_line && eqb (brackets m.stage m.opened) 0

abbrev pub line_refusal_with_26 : Room → State → Form → ℕ
line_refusal_with_26 r m f =
    pick (is closed m) 25
    (pick (eqb f.kind unfinished) 24
    (pick (not (stood m.stage m.opened f.kind)) 21
    (pick (unopened m f) 26
    (pick (out_of_range m f) 22
    (pick (too_deep m f) 23
    (pick (no_place r m f) 27
    (pick (not_rising m f) 28
    (pick (is_redundant m f) 29
    0))))))))

-- what a line and a text came to by them
abbrev pub step_with_26 : Room → State → Form → Step State
step_with_26 r m f = unless (line_refusal_with_26 r m f) (next m f)

abbrev pub read_with_26 : Room → List ℕ → Read State
read_with_26 r text = cond (ltb longest_text (length text)) (no 20 0) (reading_forms rows (is closed) (step_with_26 r) nothing 1 text)

-- ---- where 26 applied, 25 or 21 did

-- after any lines, a closing bracket with nothing open was 25 where the plant is closed, and 21 elsewhere, which is the first line
pub bracket_was : (r : Room) (m : State) (f : Form) → unopened m f ≡ true → line_refusal_with_26 r m f ≡ cond (is closed m) 25 21
bracket_was r m f e =
    let u = (and_yes (eqb f.kind close_line) (eqb (brackets m.stage m.opened) 0)).0 e in
    go m.stage m.opened (eqb-true f.kind close_line u.0) u.1 _
  where
    go : (s : Stage) (ds : List ℕ) {kind : ℕ} → kind ≡ close_line → eqb (brackets s ds) 0 ≡ true → (x : ℕ) →
        pick (eqb (rank s) (rank closed)) 25 (pick (eqb kind unfinished) 24 (pick (not (stood s ds kind)) 21 x)) ≡ cond (eqb (rank s) (rank closed)) 25 21
    go start ds k o x = rw k
    go devices ds k o x = absurd (true≢false (sym o ∙ ne_eqb (suc (length ds)) 0 (omega arith)))
    go terms ds k o x = absurd (true≢false (sym o))
    go postings ds k o x = absurd (true≢false (sym o))
    go closed ds k o x = refl

-- so without 26 every line keeps its number, after any lines and whatever the room
pub same_refusal : (r : Room) (m : State) (f : Form) → line_refusal_with_26 r m f ≡ line_refusal r m f
unfolding line_refusal
same_refusal r m f = go m.stage m.opened f.kind _
  where
    go : (s : Stage) (ds : List ℕ) (kind x : ℕ) →
        pick (eqb (rank s) (rank closed)) 25 (pick (eqb kind unfinished) 24 (pick (not (stood s ds kind)) 21 (pick (eqb kind close_line && eqb (brackets s ds) 0) 26 x)))
        ≡ pick (eqb (rank s) (rank closed)) 25 (pick (eqb kind unfinished) 24 (pick (not (stands s ds kind)) 21 x))
    go start ds kind x = either (eqb kind close_line) (λ c. let k : kind ≡ close_line = eqb-true kind close_line c in rw k) (λ c. rw c)
    go devices ds kind x = rw (ne_eqb (suc (length ds)) 0 (omega arith), and-false (eqb kind close_line))
    go terms ds kind x = rw (and-false (eqb kind close_line))
    go postings ds kind x = rw (and-false (eqb kind close_line))
    go closed ds kind x = refl

-- and every text its number and its line, and what it makes
pub the_same : (r : Room) (text : List ℕ) → read_with_26 r text ≡ read_plant r text
unfolding read_plant
the_same r text =
    ap (cond (ltb longest_text (length text)) (no 20 0))
    (reads_alike rows (is closed) (λ m f. ap (λ (x : ℕ). unless x (next m f)) (same_refusal r m f)) nothing 1 text)

-- ---- no text was refused by 26

not_26 : (r : Room) (m : State) (f : Form) → line_refusal r m f ≡ 26 → ⊥
unfolding line_refusal
not_26 r m f =
    pick_other (is closed m) (λ e. omega arith)
    (pick_other (eqb f.kind unfinished) (λ e. omega arith)
    (pick_other (misplaced m f) (λ e. omega arith)
    (pick_other (out_of_range m f) (λ e. omega arith)
    (pick_other (too_deep m f) (λ e. omega arith)
    (pick_other (no_place r m f) (λ e. omega arith)
    (pick_other (not_rising m f) (λ e. omega arith)
    (pick_other (is_redundant m f) (λ e. omega arith)
    (λ e. omega arith))))))))

-- however long a text is: 20 has no part in it
lines_never : (r : Room) (m : State) (k l : ℕ) (text : List ℕ) → reading_forms rows (is closed) (step_with_26 r) m k text ≡ no 26 l → ⊥
lines_never r =
    never_refused rows (is closed) (step_with_26 r) 26
    (λ m f. unless_other (line_refusal_with_26 r m f) (next m f) (λ e. not_26 r m f (sym (same_refusal r m f) ∙ e)))

pub never : (r : Room) (text : List ℕ) (k : ℕ) → read_with_26 r text ≡ no 26 k → ⊥
never r text k =
    split_cond (λ x. x ≡ no 26 k → ⊥) (ltb longest_text (length text))
    (λ e h. let z : 20 ≡ 26 = ap read_number h in omega arith)
    (λ e. lines_never r nothing 1 k text)

-- nor is one refused by it now
pub never_again : (r : Room) (text : List ℕ) (k : ℕ) → read_plant r text ≡ no 26 k → ⊥
never_again r text k e = never r text k (the_same r text ∙ e)

-- ---- the two places, on texts

-- 26 applied to some lines: to a closing bracket before all lines, and to one after plant P
pub applied : (unopened nothing (plain close_line) ≡ true) × (unopened made_P (plain close_line) ≡ true)
applied = (refl, refl)

-- the first is 21 and the second 25
pub both_places : (read_with_26 (places 6 6 6 2 2 3) (ended (map bytes (")" ∷ []))) ≡ no 21 1)
    × (read_with_26 (places 6 6 6 2 2 3) (text_P ++ ended (map bytes (")" ∷ []))) ≡ no 25 22)
unfolding any until lines ended decimal number bytes fit_after form read_lines next
both_places = (refl, refl)
