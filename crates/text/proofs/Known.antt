-- A line that is a word, a number and an ending, as a reader may find it before it asks its table.
use Prim.Native.Nat.{ℕ, suc, ◌+◌, ◌-◌, ◌<◌, ◌≤◌}
use mathlib.Core.Path.{◌≡◌, refl, sym, ap, ◌∙◌}
use mathlib.Core.Bool.{Bool, true, false, not, ◌&&◌, true≢false}
use mathlib.Core.List.{List, [], ◌∷◌, ◌++◌}
use lib.Dec.{eqb}
use lib.ListN.{length, get_or, drop, length-append, length-drop, drop_of_length-le}
use lib.Seq.{drop-cons}
use native.Mathlib.Numerals.{add-one}
use native.Mathlib.Omega.{arith}
use borrow.Author.Tests.{lt-ltb, eq-eqb, eqb-true, eqb-false}
use Rattle.laws.proofs.Tests.{and_yes, not_yes}
use Rattle.laws.proofs.Cases.{by_order}
use Rattle.text.specs.Lines.{begins, line_at, whole_at, next_at}
use Rattle.text.specs.Decimal.{digits, behind, up_to, number_at}
use Rattle.text.specs.Patterns.{any_number, fit, fit_after, fitting, capped_fit}
use Rattle.text.specs.Forms.{Row, plain, fitted, form}
use Rattle.text.specs.inner.Finding.{found_at}
use Rattle.text.specs.declared.Fit.{Fit}
use Rattle.text.specs.declared.Form.{Form}
use Rattle.text.specs.declared.NumberAt.{NumberAt}
use Rattle.text.proofs.Lines.{line_cons, line_nil}
use Rattle.text.specs.declared.Scan.{Scan}
use Rattle.std.specs.Prelude.{Option, Some, None}
use Rattle.std.proofs.lemmas.Option.{same_Some}
use Rattle.text.specs.inner.Parts.{Goes}
use Rattle.text.proofs.Decimal.{digits_within}
use Rattle.text.proofs.Patterns.{line_behind, line_digits, number_end, past_found}
use Rattle.text.proofs.Forms.{capped_plain}

-- a line from an index on, without numbers yet
abbrev scan_at : ℕ → Scan
scan_at at = record { before = 0; number = 0; at = at }

-- a word that goes on in the text, byte by byte
pub begins_there : (t : List ℕ) (at w : ℕ) (ws : List ℕ) → begins (w ∷ ws) (drop at t) ≡ true
    → (at < length t) × (get_or t at 0 ≡ w) × (begins ws (drop (at + 1) t) ≡ true)
unfolding begins
begins_there t at w ws h =
    by_order at (length t)
    (λ l. let e : (eqb w (get_or t at 0) && begins ws (drop (at + 1) t)) ≡ true = rw (drop-cons t at 0 l, ← add-one) at h in
    let p = (and_yes (eqb w (get_or t at 0)) (begins ws (drop (at + 1) t))).0 e in
    (l, sym (eqb-true w (get_or t at 0) p.0), p.1))
    (λ l. let e : begins (w ∷ ws) [] ≡ true = rw (drop_of_length-le t {i = at} l) at h in absurd (true≢false (sym e)))

pub there_begins : (t : List ℕ) (at w : ℕ) (ws : List ℕ) → at < length t → get_or t at 0 ≡ w → begins ws (drop (at + 1) t) ≡ true → begins (w ∷ ws) (drop at t) ≡ true
unfolding begins
there_begins t at w ws h e q = rw (drop-cons t at 0 h, ← add-one, eq-eqb w (get_or t at 0) (sym e)) q

-- bytes that stand for themselves in a pattern and are of one line
unfoldable pub literal : List ℕ → Bool
literal [] = true
literal (w ∷ ws) = (not (eqb w any_number) && not (eqb w 10)) && literal ws

module _ (w : ℕ) (ws : List ℕ) (h : literal (w ∷ ws) ≡ true) where
  pub first_literal : (eqb w any_number ≡ false) × (eqb w 10 ≡ false) × (literal ws ≡ true)
  unfolding literal
  first_literal =
      let p = (and_yes (not (eqb w any_number) && not (eqb w 10)) (literal ws)).0 h in
      let q = (and_yes (not (eqb w any_number)) (not (eqb w 10))).0 p.0 in
      ((not_yes (eqb w any_number)).0 q.0, (not_yes (eqb w 10)).0 q.1, p.1)

-- the line that a word begins
pub line_word : (w t : List ℕ) (at : ℕ) → literal w ≡ true → begins w (drop at t) ≡ true → line_at t at ≡ w ++ line_at t (at + length w)
line_word [] t at e h = let z : at + 0 ≡ at = omega arith in rw z
line_word (w ∷ ws) t at e h =
    let p = begins_there t at w ws h in
    let l = first_literal w ws e in
    let n : (get_or t at 0 ≡ 10 → ⊥) = λ g. eqb-false w 10 l.1 (sym p.1 ∙ g) in
    let m : at + 1 + length ws ≡ at + suc (length ws) = omega arith in
    rw (line_cons t at p.0 n, p.1, line_word ws t (at + 1) l.2 p.2, m)

pub fit_word : (w ps l : List ℕ) (m n : ℕ) → literal w ≡ true → fit_after m n (w ++ ps) (w ++ l) ≡ fit_after m n ps l
unfolding fit_after
fit_word [] ps l m n e = refl
fit_word (w ∷ ws) ps l m n e = let p = first_literal w ws e in rw (p.0, eq-eqb w w refl) (fit_word ws ps l m n p.2)

pub fit_ending : (w : List ℕ) (m n : ℕ) → literal w ≡ true → fit_after m n w w ≡ fitting m n
unfolding fit_after
fit_ending [] m n e = refl
fit_ending (w ∷ ws) m n e = let p = first_literal w ws e in rw (p.0, eq-eqb w w refl) (fit_ending ws m n p.2)

-- the line that a word and a line feed end
line_ending : (w t : List ℕ) (at : ℕ) → literal w ≡ true → begins (w ++ (10 ∷ [])) (drop at t) ≡ true → (line_at t at ≡ w) × (at + length w < length t)
line_ending [] t at e h = let p = begins_there t at 10 [] h in (line_nil t at p.0 p.1, omega (arith, p.0))
line_ending (w ∷ ws) t at e h =
    let p = begins_there t at w (ws ++ (10 ∷ [])) h in
    let l = first_literal w ws e in
    let n : (get_or t at 0 ≡ 10 → ⊥) = λ g. eqb-false w 10 l.1 (sym p.1 ∙ g) in
    let i = line_ending ws t (at + 1) l.2 p.2 in
    (rw (line_cons t at p.0 n, p.1, i.0), omega (arith, i.1))

-- a line that is a word w, a number and an ending
module _ (limit : ℕ) (t : List ℕ) (at : ℕ) (w ending : List ℕ) (lw : literal w ≡ true) (le : literal ending ≡ true) (fits : at + length w ≤ length t)
    (bw : begins w (drop at t) ≡ true) {r : NumberAt} (e : r ≡ number_at limit t (at + length w)) (there : r.end ≡ at + length w → ⊥)
    (be : begins (ending ++ (10 ∷ [])) (drop r.end t) ≡ true) where
  whole_line : line_at t at ≡ w ++ line_at t (at + length w)
  whole_line = line_word w t at lw bw

  past : Goes limit t any_number (scan_at (at + length w)) (record { before = 0; number = r.value; at = r.end })
  past = past_found limit t (scan_at (at + length w)) (record { within = fits; low = omega arith; lower = omega arith }) e there

  pub known_fit : capped_fit limit (fit (w ++ (any_number ∷ ending)) (line_at t at)) ≡ fitting 0 r.value
  known_fit =
      let z : up_to limit 0 ≡ 0 = omega arith in
      let v : up_to limit r.value ≡ r.value = omega (arith, past.on.lower) in
      ap (capped_fit limit) (ap (fit (w ++ (any_number ∷ ending))) whole_line ∙ fit_word w (any_number ∷ ending) (line_at t (at + length w)) 0 0 lw)
      ∙ past.goes_on ending
      ∙ rw ((line_ending ending t r.end le be).0, fit_ending ending 0 r.value le, z, v)

  pub known_next : (whole_at t at ≡ true) × (next_at t at ≡ r.end + length ending + 1)
  known_next =
      let from = at + length w in
      let l = line_ending ending t r.end le be in
      let d = number_end limit t from fits e there in
      let n : length (line_at t at) ≡ length w + length (line_at t from) = ap length whole_line ∙ length-append w (line_at t from) in
      let m : length (behind (line_at t from)) ≡ length (line_at t from) - digits (line_at t from) = length-drop (digits (line_at t from)) (line_at t from) in
      let g : line_at t (from + digits (drop from t)) ≡ ending = rw (← d) l.0 in
      let k : length (behind (line_at t from)) ≡ length ending = ap length (line_behind t from ∙ g) in
      let i = digits_within (line_at t from) in
      let j = line_digits t from in
      let far : at + length (line_at t at) ≡ r.end + length ending = omega arith in
      let whole : whole_at t at ≡ true = lt-ltb (at + length (line_at t at)) (length t) (omega (arith, l.1)) in
      (whole, rw whole (omega arith))

-- and so its form is that of the row of its pattern, where no row before it fits
pub known_found : (limit : ℕ) (rows : List Row) (t : List ℕ) (at kind n next : ℕ) (f : Option Fit) (rest : Form) → form rows (line_at t at) ≡ fitted kind f rest
    → capped_fit limit f ≡ fitting 0 n → whole_at t at ≡ true → next_at t at ≡ next
    → record { form = record { kind = kind; before = 0; number = n }; next = next } ≡ found_at limit rows t at
known_found limit rows t at kind n next None rest e c w x = absurd cc
known_found limit rows t at kind n next (Some f) rest e c w x =
    let g : record { before = up_to limit f.before; number = up_to limit f.number } ≡ record { before = 0; number = n } = same_Some _ _ c in
    let a : up_to limit f.before ≡ 0 = ap (λ (g : Fit). g.before) g in
    let b : up_to limit f.number ≡ n = ap (λ (g : Fit). g.number) g in
    rw (← x, w, e, a, b)

-- a line that is a word alone
pub known_alone : (limit : ℕ) (rows : List Row) (t : List ℕ) (at kind : ℕ) (w : List ℕ) → literal w ≡ true → begins (w ++ (10 ∷ [])) (drop at t) ≡ true
    → form rows w ≡ plain kind → record { form = plain kind; next = at + length w + 1 } ≡ found_at limit rows t at
known_alone limit rows t at kind w lw bw e =
    let l = line_ending w t at lw bw in
    let n : length (line_at t at) ≡ length w = ap length l.0 in
    let whole : whole_at t at ≡ true = lt-ltb (at + length (line_at t at)) (length t) (omega (arith, l.1)) in
    rw (whole, n, l.0, e) (sym (ap (λ (f : Form). record { form = f; next = at + length w + 1 }) (capped_plain limit kind)))
