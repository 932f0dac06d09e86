-- A text is refused only by numbers that a refusal has. So what is told of a text has the number that the definition gives (`told`).
use Prim.Native.Nat.{ℕ, zero, suc}
use mathlib.Core.Path.{◌≡◌, refl, sym, ap, subst}
use mathlib.Core.List.{List}
use native.Mathlib.Omega.{arith}
use borrow.Author.Tests.{eqb-true, eqb-false}
use lib.Dec.{ltb, eqb}
use lib.ListN.{length}
use Rattle.laws.proofs.Cases.{either, split_cond}
use Rattle.laws.proofs.Rows.{pick_other}
use Rattle.refusal.specs.Numbers.{number, numbered}
use Rattle.plant.specs.Plant.{Plant}
use Rattle.index.specs.Index.{Index}
use Rattle.text.specs.Forms.{unfinished}
use Rattle.text.specs.Reading.{refused, Read, made, no, unless}
use Rattle.text.specs.declared.Form.{Form}
use Rattle.text.proofs.Reading.{never_refused, unless_other}
use Rattle.plant_text.specs.Form.{rows}
use Rattle.plant_text.specs.PlantText.{State, nothing, is, closed, misplaced, out_of_range, too_deep, no_place, not_rising, is_redundant, line_refusal, next, step, longest_text, read_plant, room, read_into, outcome_of, outcome_after, outcome_number, read_number}
use Rattle.plant_text.specs.declared.Room.{Room}

module _ (x : ℕ) (h : number (numbered x) ≡ x → ⊥) where
  -- it is no number of a refusal
  other : (n : ℕ) → number (numbered n) ≡ n → n ≡ x → ⊥
  other n k e = h (subst (λ (y : ℕ). number (numbered y) ≡ y) e k)

  no_row : (r : Room) (m : State) (f : Form) → (x ≡ 0 → ⊥) → line_refusal r m f ≡ x → ⊥
  unfolding line_refusal
  no_row r m f z =
      pick_other (is closed m) (other 25 refl)
      (pick_other (eqb f.kind unfinished) (other 24 refl)
      (pick_other (misplaced m f) (other 21 refl)
      (pick_other (out_of_range m f) (other 22 refl)
      (pick_other (too_deep m f) (other 23 refl)
      (pick_other (no_place r m f) (other 27 refl)
      (pick_other (not_rising m f) (other 28 refl)
      (pick_other (is_redundant m f) (other 29 refl)
      (λ e. z (sym e)))))))))

-- no line is refused by 0
not_by_none : (n : ℕ) (s : State) → unless n s ≡ refused 0 → ⊥
not_by_none zero s e = let z : ◌≡◌ {A = ℕ} 0 1 = cc in omega arith
not_by_none (suc n) s e = let z : suc n ≡ 0 = cc in omega arith

no_step : (x : ℕ) → (number (numbered x) ≡ x → ⊥) → (r : Room) (m : State) (f : Form) → step r m f ≡ refused x → ⊥
no_step zero h r m f = not_by_none (line_refusal r m f) (next m f)
no_step (suc x) h r m f = unless_other (line_refusal r m f) (next m f) (no_row (suc x) h r m f (λ e. omega arith))

never : (x : ℕ) → (number (numbered x) ≡ x → ⊥) → (r : Room) (text : List ℕ) (k : ℕ) → read_plant r text ≡ no x k → ⊥
unfolding read_plant
never x h r text k =
    split_cond (λ s. s ≡ no x k → ⊥) (ltb longest_text (length text))
    (λ e q. let z : 20 ≡ x = ap read_number q in other x h 20 refl z)
    (λ e. never_refused rows (is closed) (step r) x (no_step x h r) nothing 1 k text)

pub known : (r : Room) (text : List ℕ) (n k : ℕ) → read_plant r text ≡ no n k → number (numbered n) ≡ n
known r text n k e =
    either (eqb (number (numbered n)) n) (λ p. eqb-true (number (numbered n)) n p)
    (λ p. absurd (never n (eqb-false (number (numbered n)) n p) r text k e))

number_of : (s : Read State) → ((n k : ℕ) → s ≡ no n k → number (numbered n) ≡ n) → outcome_number (outcome_of s) ≡ read_number s
number_of (made m) h = refl
number_of (no n k) h = h n k refl

pub told : (text : List ℕ) (P : Plant) (I : Index) → outcome_number (outcome_after text P I) ≡ read_number (read_into text P I)
told text P I = number_of (read_into text P I) (known (room P I) text)
