-- The forms that are written: the line of such a form reads as the form, and a line that fits a row is the line of its form.
use Prim.Native.Nat.{ℕ}
use mathlib.Core.Path.{◌≡◌, refl, sym, ◌∙◌}
use mathlib.Core.Bool.{Bool, true, false, cond}
use mathlib.Core.List.{List, [], ◌∷◌, ◌++◌}
use Rattle.laws.specs.Front.{until}
use Rattle.std.specs.Prelude.{Some}
use Rattle.std.proofs.lemmas.Option.{same_Some}
use Rattle.text.specs.Decimal.{numeral}
use Rattle.text.specs.Patterns.{bytes, any_number, fit, fit_after}
use Rattle.text.specs.Forms.{other, plain, with_number, form, pattern_of, spelled}
use Rattle.text.specs.declared.Fit.{Fit}
use Rattle.text.specs.declared.Form.{Form}
use Rattle.text.proofs.Known.{literal}
use Rattle.text.proofs.Forms.{split_fitted}
use Rattle.text.proofs.Spelling.{fill_alone, fill_number, fits_number, fits_alone, fits_spells, Plain, plain_literal, plain_number}
use Rattle.plant_text.specs.Form.{plant_line, device_line, term_line, own_line, all_line, close_line, rows}
use Rattle.plant_text.proofs.Lexing.{form_dev, form_mark, form_own, form_all}

pub data Written : Form → Type 0 where
  plant : Written (plain plant_line)
  device : (v : ℕ) → Written (with_number device_line v)
  term : (t : ℕ) → Written (with_number term_line t)
  own : (d : ℕ) → Written (with_number own_line d)
  all : (d : ℕ) → Written (with_number all_line d)
  close : Written (plain close_line)

-- a posting of either kind
pub posting_written : (d : ℕ) (shared : Bool) → Written (with_number (cond shared all_line own_line) d)
posting_written d true = all d
posting_written d false = own d

-- ---- the line of each

pub plant_is : spelled rows (plain plant_line) ≡ bytes "(plant"
unfolding pattern_of literal bytes
plant_is = fill_alone (bytes "(plant") 0 refl

pub close_is : spelled rows (plain close_line) ≡ bytes ")"
unfolding pattern_of literal bytes
close_is = fill_alone (bytes ")") 0 refl

module _ (n : ℕ) where
  pub device_is : spelled rows (with_number device_line n) ≡ bytes "(dev " ++ (numeral n ++ [])
  unfolding pattern_of literal bytes
  device_is = fill_number (bytes "(dev ") [] n refl refl

  pub term_is : spelled rows (with_number term_line n) ≡ bytes "(mark " ++ (numeral n ++ [])
  unfolding pattern_of literal bytes
  term_is = fill_number (bytes "(mark ") [] n refl refl

  pub own_is : spelled rows (with_number own_line n) ≡ bytes "(own " ++ (numeral n ++ bytes ")")
  unfolding pattern_of literal bytes
  own_is = fill_number (bytes "(own ") (bytes ")") n refl refl

  pub all_is : spelled rows (with_number all_line n) ≡ bytes "(all " ++ (numeral n ++ bytes ")")
  unfolding pattern_of literal bytes
  all_is = fill_number (bytes "(all ") (bytes ")") n refl refl

-- ---- it reads as the form

pub spelled_reads : {f : Form} → Written f → form rows (spelled rows f) ≡ f
unfolding form fit_after literal bytes until
spelled_reads plant = rw plant_is
spelled_reads (device v) = rw (device_is v) (form_dev (numeral v ++ []) ∙ rw (fits_number (bytes "(dev ") [] v refl refl refl))
spelled_reads (term t) = rw (term_is t) (form_mark (numeral t ++ []) ∙ rw (fits_number (bytes "(mark ") [] t refl refl refl))
spelled_reads (own d) = rw (own_is d) (form_own (numeral d ++ bytes ")") ∙ rw (fits_number (bytes "(own ") (bytes ")") d refl refl refl))
spelled_reads (all d) = rw (all_is d) (form_all (numeral d ++ bytes ")") ∙ rw (fits_number (bytes "(all ") (bytes ")") d refl refl refl))
spelled_reads close = rw close_is

pub spelled_plain : {f : Form} → Written f → Plain (spelled rows f)
unfolding literal bytes
spelled_plain plant = rw plant_is (plain_literal (bytes "(plant") refl)
spelled_plain (device v) = rw (device_is v) (plain_number (bytes "(dev ") [] v refl refl)
spelled_plain (term t) = rw (term_is t) (plain_number (bytes "(mark ") [] t refl refl)
spelled_plain (own d) = rw (own_is d) (plain_number (bytes "(own ") (bytes ")") d refl refl)
spelled_plain (all d) = rw (all_is d) (plain_number (bytes "(all ") (bytes ")") d refl refl)
spelled_plain close = rw close_is (plain_literal (bytes ")") refl)

-- ---- a line that fits a row

pub record Spelt (l : List ℕ) (f : Form) : Type 0 where
  pub written : Written f
  pub is : l ≡ spelled rows f

alone_row : (l w : List ℕ) (kind : ℕ) → literal w ≡ true → Written (plain kind) → spelled rows (plain kind) ≡ w → (f : Fit) → fit w l ≡ Some f →
    Spelt l (record { kind = kind; before = f.before; number = f.number })
alone_row l w kind e x q f h =
    let a = fits_alone w l e (rw h) in
    let z = same_Some _ _ (sym h ∙ a.1) in
    rw z (record { written = x; is = a.0 ∙ sym q })

number_row : (l w ending : List ℕ) (kind : ℕ) → literal w ≡ true → literal ending ≡ true → ((n : ℕ) → Written (with_number kind n)) →
    ((n : ℕ) → spelled rows (with_number kind n) ≡ w ++ (numeral n ++ ending)) → (f : Fit) → fit (w ++ (any_number ∷ ending)) l ≡ Some f →
    Spelt l (record { kind = kind; before = f.before; number = f.number })
number_row l w ending kind e g x q f h =
    let a = fits_spells w ending l e g (rw h) in
    let z = same_Some _ _ (sym h ∙ a.same) in
    rw z (record { written = x a.value; is = a.is ∙ sym (q a.value) })

pub reads_spelled : (l : List ℕ) → ((form rows l).kind ≡ other → ⊥) → Spelt l (form rows l)
unfolding form literal bytes
reads_spelled l =
    split_fitted F plant_line (fit (bytes "(plant") l) (λ f e n. alone_row l (bytes "(plant") plant_line refl plant plant_is f e)
    (λ e. split_fitted F device_line (fit (bytes "(dev #") l) (λ f e n. number_row l (bytes "(dev ") [] device_line refl refl device device_is f e)
    (λ e. split_fitted F term_line (fit (bytes "(mark #") l) (λ f e n. number_row l (bytes "(mark ") [] term_line refl refl term term_is f e)
    (λ e. split_fitted F own_line (fit (bytes "(own #)") l) (λ f e n. number_row l (bytes "(own ") (bytes ")") own_line refl refl own own_is f e)
    (λ e. split_fitted F all_line (fit (bytes "(all #)") l) (λ f e n. number_row l (bytes "(all ") (bytes ")") all_line refl refl all all_is f e)
    (λ e. split_fitted F close_line (fit (bytes ")") l) (λ f e n. alone_row l (bytes ")") close_line refl close close_is f e) (λ e n. absurd (n refl)))))))
  where
    F : Form → Type 0
    F f = (f.kind ≡ other → ⊥) → Spelt l f
