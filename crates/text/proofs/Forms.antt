-- The form of a line, its numbers known up to a limit: the cap goes through each row of a table.
use Prim.Native.Nat.{ℕ, ◌+◌, ◌-◌, min}
use mathlib.Core.Path.{◌≡◌, refl, sym, ap, ◌∙◌}
use mathlib.Core.Bool.{Bool, true, false, cond, not, ◌&&◌}
use mathlib.Core.List.{List, [], ◌∷◌, ◌++◌}
use lib.Dec.{eqb}
use lib.ListN.{length, take, drop}
use borrow.Author.Tests.{eq-eqb, ne_eqb}
use Rattle.laws.proofs.Tests.{and_yes, not_yes}
use native.Mathlib.Omega.{arith}
use Rattle.laws.proofs.Cases.{either}
use Rattle.text.specs.Lines.{line_at, whole_at, next_at}
use Rattle.text.specs.Decimal.{up_to}
use Rattle.text.specs.Patterns.{fit, capped_fit}
use Rattle.text.specs.Forms.{Row, unfinished, other, plain, fitted, form, row_after}
use Rattle.text.specs.inner.Finding.{capped_form, form_at, found_at}
use Rattle.std.specs.Prelude.{Option, Some, None, position}
use Rattle.text.specs.declared.Fit.{Fit}
use Rattle.text.specs.declared.Form.{Form}
use Rattle.text.specs.declared.Found.{Found}
use Rattle.text.proofs.Lines.{whole_there, tail_there}

pub capped_plain : (limit k : ℕ) → capped_form limit (plain k) ≡ plain k
capped_plain limit k = let z : up_to limit 0 ≡ 0 = omega arith in rw z

-- a line fits, or it does not: for any goal, and for a goal of the form of a line that fits
pub by_fit {ℓ} : {X : Type ℓ} (o : Option Fit) → ((f : Fit) → o ≡ Some f → X) → (o ≡ None → X) → X
by_fit None y n = n refl
by_fit (Some f) y n = y f refl

pub split_fitted {ℓ} : (F : Form → Type ℓ) (kind : ℕ) (o : Option Fit) {rest : Form} →
    ((f : Fit) → o ≡ Some f → F (record { kind = kind; before = f.before; number = f.number })) → (o ≡ None → F rest) → F (fitted kind o rest)
split_fitted F kind None y n = n refl
split_fitted F kind (Some f) y n = y f refl

-- the form of a line by the rows of a table, one asked after the other, from a form on
unfoldable pub asked : ℕ → List Row → List ℕ → Form → Form
asked limit [] l f = f
asked limit (r ∷ rs) l f = asked limit rs l (row_after limit r.kind r.pattern l f)

-- f is the form of a line by some rows
pub record Asked (limit : ℕ) (rs : List Row) (l : List ℕ) (f : Form) : Type 0 where
  pub is : f ≡ asked limit rs l (plain other)

-- no row is for lines that fit no pattern
unfoldable pub own_kinds : List Row → Bool
own_kinds [] = true
own_kinds (r ∷ rs) = not (eqb r.kind other) && own_kinds rs

module _ (limit : ℕ) (l : List ℕ) where
  row_stays : (kind : ℕ) (pattern : List ℕ) (f : Form) → eqb f.kind other ≡ false → row_after limit kind pattern l f ≡ f
  unfolding row_after
  row_stays kind pattern f e = rw e

  asked_stays : (rs : List Row) (f : Form) → eqb f.kind other ≡ false → asked limit rs l f ≡ f
  unfolding asked
  asked_stays [] f e = refl
  asked_stays (r ∷ rs) f e = rw (row_stays r.kind r.pattern f e) (asked_stays rs f e)

  module _ (r : Row) where
    first_fits : {f : Fit} → fit r.pattern l ≡ Some f → row_after limit r.kind r.pattern l (plain other)
        ≡ record { kind = r.kind; before = up_to limit f.before; number = up_to limit f.number }
    unfolding row_after
    first_fits y = rw y

    first_not : fit r.pattern l ≡ None → row_after limit r.kind r.pattern l (plain other) ≡ plain other
    unfolding row_after
    first_not y = rw y

  -- all rows asked give the form of the line
  asked_all : (rs : List Row) → own_kinds rs ≡ true → asked limit rs l (plain other) ≡ capped_form limit (form rs l)
  unfolding asked own_kinds form
  asked_all [] o = sym (capped_plain limit other)
  asked_all (r ∷ rs) o =
      let p = (and_yes (not (eqb r.kind other)) (own_kinds rs)).0 o in
      by_fit (fit r.pattern l)
      (λ f y. rw (first_fits r y, y) (asked_stays rs (record { kind = r.kind; before = up_to limit f.before; number = up_to limit f.number }) ((not_yes (eqb r.kind other)).0 p.0)))
      (λ y. rw (first_not r y, y) (asked_all rs p.1))

  -- one row more
  asked_more : (rs : List Row) (r : Row) (f : Form) → asked limit (rs ++ (r ∷ [])) l f ≡ row_after limit r.kind r.pattern l (asked limit rs l f)
  unfolding asked
  asked_more [] r f = refl
  asked_more (x ∷ xs) r f = asked_more xs r (row_after limit x.kind x.pattern l f)

  pub no_row : {f : Form} → f ≡ plain other → Asked limit [] l f
  unfolding asked
  no_row e = record { is = e }

  pub row_on : (r : Row) {rs : List Row} {f g : Form} → Asked limit rs l f → g ≡ row_after limit r.kind r.pattern l f → Asked limit (rs ++ (r ∷ [])) l g
  row_on r {rs} p q = record { is = q ∙ ap (row_after limit r.kind r.pattern l) p.is ∙ sym (asked_more rs r (plain other)) }

module _ (limit : ℕ) (rows : List Row) (t : List ℕ) (at : ℕ) where
  found_is : {f : Form} {r : Found} → f ≡ capped_form limit (form rows (line_at t at)) → r.form ≡ cond (whole_at t at) f (plain unfinished) → r.next ≡ next_at t at
      → r ≡ found_at limit rows t at
  found_is {f} {r} e p q = ap (λ (x : Form). record { form = x; next = r.next }) (p ∙ form_is) ∙ ap (λ (n : ℕ). record { form = (found_at limit rows t at).form; next = n }) q
    where
      form_is : cond (whole_at t at) f (plain unfinished) ≡ capped_form limit (form_at rows t at)
      form_is = either (whole_at t at) (λ w. rw w e) (λ w. rw w (sym (capped_plain limit unfinished)))

  -- what a reader finds, by the rows of its table
  pub found_by : own_kinds rows ≡ true → {f : Form} {r : Found} → Asked limit rows (line_at t at) f → r.form ≡ cond (whole_at t at) f (plain unfinished) → r.next ≡ next_at t at
      → r ≡ found_at limit rows t at
  found_by o a = found_is (a.is ∙ asked_all limit (line_at t at) rows o)

-- a line that is not unfinished is whole
pub whole_kind : (rows : List Row) (t : List ℕ) (at : ℕ) → ((form_at rows t at).kind ≡ unfinished → ⊥) → whole_at t at ≡ true
whole_kind rows t at h = either (whole_at t at) (λ w. w) (λ w. absurd (h (rw w)))

-- the line at an index as the code finds it, by the first line feed from `from` on
module _ (t : List ℕ) (at : ℕ) (f : Form) {from : ℕ} (e : from ≡ min at (length t)) where
  pub ends_whole : {n : ℕ} → position (λ x. eqb x 10) (take (length t - from) (drop from t)) ≡ Some n
      → (f ≡ cond (whole_at t at) f (plain unfinished)) × (from + n + 1 ≡ next_at t at)
  ends_whole h = let w = whole_there t at e h in (rw w.0, w.1)

  pub ends_tail : position (λ x. eqb x 10) (take (length t - from) (drop from t)) ≡ None → (plain unfinished ≡ cond (whole_at t at) f (plain unfinished)) × (length t ≡ next_at t at)
  ends_tail h = let w = tail_there t at e h in (rw w.0, w.1)

-- a row, as the code asks it
module _ (limit kind : ℕ) (ps l : List ℕ) (form : Form) where
  pub row_known : (form.kind ≡ other → ⊥) → form ≡ row_after limit kind ps l form
  unfolding row_after
  row_known h = rw (ne_eqb form.kind other h)

  module _ (h : form.kind ≡ other) where
    pub asks : {o : Option Fit} → o ≡ capped_fit limit (fit ps l) → fitted kind o form ≡ row_after limit kind ps l form
    unfolding row_after
    asks e = rw (eq-eqb form.kind other h, e)
