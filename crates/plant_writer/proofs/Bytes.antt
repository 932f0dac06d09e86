-- The bytes of forms, part by part.
use Prim.Native.Nat.{ℕ, ◌+◌, ◌-◌, ◌≤◌, ◌<◌}
use mathlib.Core.Path.{◌≡◌, refl, ap, ◌∙◌}
use mathlib.Core.List.{List, [], ◌∷◌, ◌++◌, map, append_assoc}
use native.Mathlib.Omega.{arith}
use lib.ListN.{get_or}
use Rattle.plant.specs.Plant.{Plant, size}
use Rattle.index.specs.Index.{Index, count}
use Rattle.text.specs.Lines.{ended}
use Rattle.text.specs.Decimal.{numeral}
use Rattle.text.specs.Patterns.{bytes}
use Rattle.text.specs.Forms.{plain, with_number, spelled}
use Rattle.text.specs.declared.Form.{Form}
use Rattle.text.proofs.Spelling.{ended_append}
use Rattle.plant_text.specs.Form.{plant_line, device_line, term_line, own_line, all_line, close_line, rows}
use Rattle.written_text.specs.Forms.{device_forms, posting_form, term_forms, terms_forms}
use Rattle.written_text.specs.Text.{bytes_of, text_of}
use Rattle.written_text.specs.inner.Nested.{Nested, stretch}
use Rattle.written_text.proofs.Written.{plant_is, close_is, device_is, term_is, own_is, all_is}
use Rattle.written_text.proofs.Stretches.{stretch_none, stretch_more}

map_append : (a b : List Form) → map (spelled rows) (a ++ b) ≡ map (spelled rows) a ++ map (spelled rows) b
map_append [] b = refl
map_append (f ∷ a) b = ap (λ (x : List (List ℕ)). spelled rows f ∷ x) (map_append a b)

pub bytes_append : (a b : List Form) → bytes_of (a ++ b) ≡ bytes_of a ++ bytes_of b
bytes_append a b = rw (map_append a b) (ended_append (map (spelled rows) a) (map (spelled rows) b))

-- a form before others
pub bytes_more : (f : Form) (fs : List Form) → bytes_of (f ∷ fs) ≡ bytes_of (f ∷ []) ++ bytes_of fs
bytes_more f fs = bytes_append (f ∷ []) fs

pub bytes_none : bytes_of [] ≡ []
unfolding ended
bytes_none = refl

-- ---- the line of each form, as it is put together

-- the words
abbrev pub word_dev : List ℕ
word_dev = 40 ∷ 100 ∷ 101 ∷ 118 ∷ 32 ∷ []

abbrev pub word_mark : List ℕ
word_mark = 40 ∷ 109 ∷ 97 ∷ 114 ∷ 107 ∷ 32 ∷ []

abbrev pub word_own : List ℕ
word_own = 40 ∷ 111 ∷ 119 ∷ 110 ∷ 32 ∷ []

abbrev pub word_all : List ℕ
word_all = 40 ∷ 97 ∷ 108 ∷ 108 ∷ 32 ∷ []

abbrev pub word_plant : List ℕ
word_plant = 40 ∷ 112 ∷ 108 ∷ 97 ∷ 110 ∷ 116 ∷ 10 ∷ []

abbrev pub word_close : List ℕ
word_close = 41 ∷ 10 ∷ []

-- a line of a word, a number and an ending
line_is : (f : Form) (w ending : List ℕ) (n : ℕ) → spelled rows f ≡ w ++ (numeral n ++ ending) → bytes_of (f ∷ []) ≡ w ++ (numeral n ++ (ending ++ (10 ∷ [])))
unfolding ended
line_is f w ending n e = rw e (append_assoc w (numeral n ++ ending) (10 ∷ []) ∙ rw (append_assoc (numeral n) ending (10 ∷ [])))

module _ (n : ℕ) where
  pub device_bytes : bytes_of (with_number device_line n ∷ []) ≡ word_dev ++ (numeral n ++ (10 ∷ []))
  unfolding bytes
  device_bytes = line_is (with_number device_line n) word_dev [] n (device_is n)

  pub term_bytes : bytes_of (with_number term_line n ∷ []) ≡ word_mark ++ (numeral n ++ (10 ∷ []))
  unfolding bytes
  term_bytes = line_is (with_number term_line n) word_mark [] n (term_is n)

  pub own_bytes : bytes_of (with_number own_line n ∷ []) ≡ word_own ++ (numeral n ++ word_close)
  unfolding bytes
  own_bytes = line_is (with_number own_line n) word_own (41 ∷ []) n (own_is n)

  pub all_bytes : bytes_of (with_number all_line n ∷ []) ≡ word_all ++ (numeral n ++ word_close)
  unfolding bytes
  all_bytes = line_is (with_number all_line n) word_all (41 ∷ []) n (all_is n)

pub close_bytes : bytes_of (plain close_line ∷ []) ≡ word_close
unfolding ended bytes
close_bytes = rw close_is

pub plant_bytes : bytes_of (plain plant_line ∷ []) ≡ word_plant
unfolding ended bytes
plant_bytes = rw plant_is

-- ---- devices

module _ (last level : List ℕ) (a e : ℕ) where
  abbrev inner : List Form
  inner = stretch last level (a + 1) (get_or last a 0)

  abbrev after : List Form
  after = stretch last level (get_or last a 0) e

  pub stretch_end : e ≤ a → bytes_of (stretch last level a e) ≡ []
  stretch_end h = rw (stretch_none last level a e h) bytes_none

  pub stretch_bytes : Nested last a e → a < e →
      bytes_of (stretch last level a e) ≡ bytes_of (with_number device_line (get_or level a 0) ∷ []) ++ (bytes_of inner ++ (bytes_of (plain close_line ∷ []) ++ bytes_of after))
  stretch_bytes n l =
      let f = with_number device_line (get_or level a 0) in
      ap bytes_of (stretch_more last level a e n l) ∙ bytes_more f (inner ++ plain close_line ∷ after)
      ∙ ap (λ (x : List ℕ). bytes_of (f ∷ []) ++ x) (bytes_append inner (plain close_line ∷ after) ∙ ap (λ (x : List ℕ). bytes_of inner ++ x) (bytes_more (plain close_line) after))

-- ---- terms

pub term_parts : (t : ℕ) (list : List ℕ) →
    bytes_of (term_forms t list) ≡ bytes_of (with_number term_line t ∷ []) ++ (bytes_of (map posting_form list) ++ bytes_of (plain close_line ∷ []))
term_parts t list =
    bytes_more (with_number term_line t) (map posting_form list ++ plain close_line ∷ [])
    ∙ ap (λ (x : List ℕ). bytes_of (with_number term_line t ∷ []) ++ x) (bytes_append (map posting_form list) (plain close_line ∷ []))

-- ---- the whole

pub text_parts : (P : Plant) (I : Index) →
    text_of P I ≡ bytes_of (plain plant_line ∷ []) ++ (bytes_of (stretch P.last P.level 0 (size P)) ++ (bytes_of (terms_forms I (count I)) ++ bytes_of (plain close_line ∷ [])))
text_parts P I =
    let z : size P - 0 ≡ size P = omega arith in
    rw z (bytes_more (plain plant_line) (device_forms P ++ (terms_forms I (count I) ++ plain close_line ∷ []))
    ∙ ap (λ (x : List ℕ). bytes_of (plain plant_line ∷ []) ++ x) (bytes_append (device_forms P) (terms_forms I (count I) ++ plain close_line ∷ [])
    ∙ ap (λ (x : List ℕ). bytes_of (device_forms P) ++ x) (bytes_append (terms_forms I (count I)) (plain close_line ∷ []))))
