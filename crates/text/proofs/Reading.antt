-- Reading a text from an index on: what the line there does, and what is read from the next on. And what a text comes to goes by what each form
-- does.
use Prim.Native.Nat.{ℕ, zero, suc, ◌+◌, ◌-◌, ◌<◌, ◌≤◌}
use mathlib.Core.Path.{◌≡◌, refl, sym, ap, ◌∙◌, fun_ext}
use mathlib.Core.Bool.{Bool, true, false, ◌&&◌}
use mathlib.Core.List.{List, [], ◌∷◌}
use lib.Dec.{eqb}
use lib.ListN.{length, drop, length-drop}
use native.Mathlib.Omega.{arith}
use borrow.Author.Tests.{ltb-true, ltb-false, eqb-true}
use Rattle.laws.proofs.Tests.{and_yes}
use Rattle.laws.proofs.Cases.{either, split_cond}
use Rattle.text.specs.Lines.{lines, line_at, whole_at, next_at}
use Rattle.text.specs.Forms.{Row, form, plain, unfinished}
use Rattle.text.specs.inner.Finding.{form_at}
use Rattle.text.specs.Reading.{Step, to, refused, Read, made, no, unless, and_then, read_lines, reading, line_of, end_of, reading_forms}
use Rattle.text.specs.declared.Form.{Form}
use Rattle.text.proofs.Lines.{lines_whole, lines_tail}

-- a row that applies: the line is refused, and nothing is read after it
pub stops : {S : Type 0} (f : S → Read S) (x k : ℕ) (s : S) → (x ≡ 0 → ⊥) → and_then (unless x s) k f ≡ no x k
stops f zero k s h = absurd (h refl)
stops f (suc x) k s h = refl

module _ {S : Type 0} (line end : S → List ℕ → Step S) (s : S) (k : ℕ) (t : List ℕ) (at : ℕ) where
  reading_line : at + length (line_at t at) < length t
      → reading line end s k (drop at t) ≡ and_then (line s (line_at t at)) k (λ s'. reading line end s' (k + 1) (drop (at + length (line_at t at) + 1) t))
  unfolding read_lines
  reading_line h = rw (lines_whole t at h)

  reading_tail : length t ≤ at + length (line_at t at) → reading line end s k (drop at t) ≡ and_then (end s (drop at t)) k made
  unfolding read_lines
  reading_tail h = rw (lines_tail t at h)

-- an unfinished line is always refused
pub record Refuses {S : Type 0} (step : S → Form → Step S) : Type 0 where
  pub by : S → ℕ
  pub refuses : (s : S) → step s (plain unfinished) ≡ refused (by s)

module _ {S : Type 0} (rows : List Row) (closed : S → Bool) (step : S → Form → Step S) (s : S) (k : ℕ) (t : List ℕ) (at : ℕ) where
  -- the text ends where it is closed
  pub reading_end : (closed s && eqb (length t - at) 0) ≡ true → reading_forms rows closed step s k (drop at t) ≡ made s
  reading_end e =
      let z = eqb-true (length t - at) 0 ((and_yes (closed s) (eqb (length t - at) 0)).0 e).1 in
      reading_tail (line_of rows step) (end_of closed step) s k t at (omega arith) ∙ rw (length-drop at t, e)

  -- or it goes on with a line
  pub reading_at : Refuses step → (closed s && eqb (length t - at) 0) ≡ false
      → reading_forms rows closed step s k (drop at t) ≡ and_then (step s (form_at rows t at)) k (λ s'. reading_forms rows closed step s' (k + 1) (drop (next_at t at) t))
  reading_at u e =
      either (whole_at t at)
      (λ w. reading_line (line_of rows step) (end_of closed step) s k t at (ltb-true (at + length (line_at t at)) (length t) w) ∙ rw w)
      (λ w. reading_tail (line_of rows step) (end_of closed step) s k t at (ltb-false (at + length (line_at t at)) (length t) w)
      ∙ rw (length-drop at t, e, w, u.refuses s))

-- ---- what a text comes to goes by what each form does

-- steps that do the same with every form read every text alike
pub reads_alike : {S : Type 0} (rows : List Row) (closed : S → Bool) {step step' : S → Form → Step S} → ((s : S) (f : Form) → step s f ≡ step' s f) →
    (s : S) (k : ℕ) (t : List ℕ) → reading_forms rows closed step s k t ≡ reading_forms rows closed step' s k t
reads_alike {S} rows closed e s k t = ap (λ (g : S → Form → Step S). reading_forms rows closed g s k t) (fun_ext (λ s'. fun_ext (e s')))

-- what is refused makes nothing
pub not_made : {S X : Type 0} (x k : ℕ) (s : S) → no x k ≡ made s → X
not_made x k s h = let z : ◌≡◌ {A = ℕ} 0 1 = cc in absurd (omega arith)

-- what is made by a line that may be refused
pub unless_made : {S : Type 0} (x : ℕ) (s : S) (k : ℕ) (f : S → Read S) (m : S) → and_then (unless x s) k f ≡ made m → (x ≡ 0) × (f s ≡ made m)
unless_made zero s k f m h = (refl, h)
unless_made (suc x) s k f m h = not_made (suc x) k m h

-- rows that come to another number do not refuse by this one
pub unless_other : {S : Type 0} (n : ℕ) (s : S) {x : ℕ} → (n ≡ x → ⊥) → unless n s ≡ refused x → ⊥
unless_other zero s h e = let z : ◌≡◌ {A = ℕ} 0 1 = cc in omega arith
unless_other (suc n) s h e = h cc

-- a number that refuses no form refuses no text
module _ {S : Type 0} (rows : List Row) (closed : S → Bool) (step : S → Form → Step S) (x : ℕ) (h : (s : S) (f : Form) → step s f ≡ refused x → ⊥) where
  after : (k : ℕ) {l : ℕ} (y : Step S) {f : S → Read S} → (y ≡ refused x → ⊥) → ((s : S) → f s ≡ no x l → ⊥) → and_then y k f ≡ no x l → ⊥
  after k (to s) a b e = b s e
  after k (refused n) a b e = a cc

  at_end : (s : S) (tail : List ℕ) → end_of closed step s tail ≡ refused x → ⊥
  at_end s tail =
      split_cond (λ y. y ≡ refused x → ⊥) (closed s && eqb (length tail) 0) (λ c e. let z : ◌≡◌ {A = ℕ} 0 1 = cc in omega arith) (λ c. h s (plain unfinished))

  in_lines : (s : S) (k l : ℕ) (ls : List (List ℕ)) (tail : List ℕ) → read_lines (line_of rows step) (end_of closed step) s k ls tail ≡ no x l → ⊥
  unfolding read_lines
  in_lines s k l [] tail = after k (end_of closed step s tail) (at_end s tail) (λ s' e. not_made x l s' (sym e))
  in_lines s k l (b ∷ ls) tail = after k (step s (form rows b)) (h s (form rows b)) (λ s'. in_lines s' (k + 1) l ls tail)

  pub never_refused : (s : S) (k l : ℕ) (t : List ℕ) → reading_forms rows closed step s k t ≡ no x l → ⊥
  never_refused s k l t = in_lines s k l (lines t).whole (lines t).tail
