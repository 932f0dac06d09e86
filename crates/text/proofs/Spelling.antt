-- Lines as patterns write them: such a line fits its pattern, and a line that fits is as the pattern writes it. Texts that are made of lines.
use Prim.Native.Nat.{ℕ, ◌+◌, ◌/◌, ◌%◌, ◌<◌, ◌≤◌}
use mathlib.Core.Path.{◌≡◌, refl, sym, ap, ◌∙◌}
use mathlib.Core.Bool.{true, false, true≢false}
use mathlib.Core.List.{List, [], ◌∷◌, ◌++◌, append_assoc, append-nil}
use mathlib.Core.Option.{Option as Maybe, none, some}
use Rattle.std.specs.Prelude.{Option, is_some}
use native.Mathlib.Omega.{arith}
use borrow.Author.Tests.{ne_eqb, eqb-true}
use lib.Dec.{eqb}
use lib.ListN.{length, length-append, take-append-drop}
use lib.Seq.{take_at, drop_at}
use Rattle.laws.proofs.Cases.{either}
use Rattle.text.specs.Lines.{lines, onto, ended}
use Rattle.text.specs.Decimal.{number, numeral, digits, front, behind}
use Rattle.text.specs.Patterns.{any_number, fill, fit, fit_after, fitting, misfit, past_byte, past_number}
use Rattle.text.specs.declared.Fit.{Fit}
use Rattle.text.proofs.Decimal.{digit_is, digits_go}
use Rattle.text.proofs.Numerals.{numeral_one, numeral_more, by_digits, numeral_reads, reads_numeral}
use Rattle.text.proofs.Known.{literal, first_literal, fit_word, fit_ending}

-- ---- what a pattern writes

-- a pattern without a number, and one with a number between two words
fill_word : (w ps : List ℕ) (n : ℕ) → literal w ≡ true → fill (w ++ ps) n ≡ w ++ fill ps n
unfolding fill
fill_word [] ps n e = refl
fill_word (w ∷ ws) ps n e = let p = first_literal w ws e in rw (p.0, fill_word ws ps n p.2)

pub fill_alone : (w : List ℕ) (n : ℕ) → literal w ≡ true → fill w n ≡ w
unfolding fill
fill_alone w n e = ap (λ (x : List ℕ). fill x n) (sym (append-nil w)) ∙ fill_word w [] n e ∙ append-nil w

pub fill_number : (w ending : List ℕ) (n : ℕ) → literal w ≡ true → literal ending ≡ true → fill (w ++ (any_number ∷ ending)) n ≡ w ++ (numeral n ++ ending)
unfolding fill
fill_number w ending n e f = fill_word w (any_number ∷ ending) n e ∙ rw (fill_alone ending n f)

-- ---- it fits

-- the digits of a number are those before what is no digit
abbrev Digits : ℕ → Type 0
Digits n = (s : List ℕ) → digits (numeral n ++ s) ≡ length (numeral n) + digits s

numeral_digits : (n : ℕ) → Digits n
numeral_digits = by_digits Digits one more
  where
    one : (n : ℕ) → n < 10 → Digits n
    one n h s = rw (numeral_one n h) (digits_go (48 + n) s (digit_is (48 + n) (omega arith) (omega arith)) ∙ omega arith)

    more : (n : ℕ) → 10 ≤ n → Digits (n / 10) → Digits n
    more n h f s =
        let d = 48 + n % 10 in
        let e = digits_go d s (digit_is d (omega arith) (omega arith)) in
        let m = f (d ∷ s) in
        let l = length-append (numeral (n / 10)) (d ∷ []) in
        rw (numeral_more n h, append_assoc) (omega arith)

module _ (n : ℕ) (s : List ℕ) (h : digits s ≡ 0) where
  ends : digits (numeral n ++ s) ≡ length (numeral n)
  ends = numeral_digits n s ∙ rw h (omega arith)

  number_front : front (numeral n ++ s) ≡ numeral n
  number_front = rw ends (take_at (numeral n) s (length (numeral n)) refl)

  number_behind : behind (numeral n ++ s) ≡ s
  number_behind = rw ends (drop_at (numeral n) s (length (numeral n)) refl)

pub fits_number : (w ending : List ℕ) (n : ℕ) → literal w ≡ true → literal ending ≡ true → digits ending ≡ 0 → fit (w ++ (any_number ∷ ending)) (w ++ (numeral n ++ ending)) ≡ fitting 0 n
unfolding fit_after
fits_number w ending n e f h =
    fit_word w (any_number ∷ ending) (numeral n ++ ending) 0 0 e
    ∙ rw (number_front n ending h, number_behind n ending h, numeral_reads n) (fit_ending ending 0 n f)

-- ---- what fits is so written

not_fit : {X : Type 0} → is_some misfit ≡ true → X
not_fit e = absurd (true≢false (sym e))

-- a word at the front of a line that fits
record Begins (w ps l : List ℕ) (m n : ℕ) : Type 0 where
  rest : List ℕ
  is : l ≡ w ++ rest
  same : fit_after m n (w ++ ps) l ≡ fit_after m n ps rest

fit_begins : (w ps l : List ℕ) (m n : ℕ) → literal w ≡ true → is_some (fit_after m n (w ++ ps) l) ≡ true → Begins w ps l m n
unfolding fit_after
fit_begins [] ps l m n e h = record { rest = l; is = refl; same = refl }
fit_begins (w ∷ ws) ps l m n e h =
    let p = first_literal w ws e in
    byte l p.0 (rw p.0 at h) (λ bs. fit_begins ws ps bs m n p.2)
  where
    both : {a b : ℕ} {xs ys : List ℕ} → a ≡ b → xs ≡ ys → a ∷ xs ≡ b ∷ ys
    both p q = cc

    byte : (l : List ℕ) → eqb w any_number ≡ false → is_some (past_byte w l (λ bs. fit_after m n (ws ++ ps) bs)) ≡ true →
        ((bs : List ℕ) → is_some (fit_after m n (ws ++ ps) bs) ≡ true → Begins ws ps bs m n) → Begins (w ∷ ws) ps l m n
    byte [] q h f = not_fit h
    byte (b ∷ bs) q h f =
        either (eqb w b)
        (λ y.
        let r = f bs (rw y at h) in
        let z : b ≡ w = sym (eqb-true w b y) in
        record { rest = r.rest; is = both z r.is; same = rw (q, y) r.same })
        (λ y. not_fit (rw y at h))

fit_nothing : (l : List ℕ) (m n : ℕ) → is_some (fit_after m n [] l) ≡ true → (l ≡ []) × (fit_after m n [] l ≡ fitting m n)
unfolding fit_after
fit_nothing [] m n h = (refl, refl)
fit_nothing (b ∷ bs) m n h = not_fit h

fit_word_alone : (w l : List ℕ) (m n : ℕ) → literal w ≡ true → is_some (fit_after m n w l) ≡ true → (l ≡ w) × (fit_after m n w l ≡ fitting m n)
fit_word_alone w l m n e h =
    let a : w ++ [] ≡ w = append-nil w in
    let b = fit_begins w [] l m n e (rw a h) in
    let z = fit_nothing b.rest m n (ap (λ (f : Option Fit). is_some f) (sym b.same) ∙ rw a h) in
    (b.is ∙ rw (z.0, a), ap (λ (x : List ℕ). fit_after m n x l) (sym a) ∙ b.same ∙ z.1)

pub fits_alone : (w l : List ℕ) → literal w ≡ true → is_some (fit w l) ≡ true → (l ≡ w) × (fit w l ≡ fitting 0 0)
fits_alone w l e h = fit_word_alone w l 0 0 e h

-- the number of a line that fits
pub record Numbered (w ending l : List ℕ) : Type 0 where
  pub value : ℕ
  pub is : l ≡ w ++ (numeral value ++ ending)
  pub same : fit (w ++ (any_number ∷ ending)) l ≡ fitting 0 value

pub fits_spells : (w ending l : List ℕ) → literal w ≡ true → literal ending ≡ true → is_some (fit (w ++ (any_number ∷ ending)) l) ≡ true → Numbered w ending l
unfolding fit_after
fits_spells w ending l e f h =
    let b = fit_begins w (any_number ∷ ending) l 0 0 e h in
    go b.rest b.is b.same (number (front b.rest)) refl
  where
    go : (r : List ℕ) → l ≡ w ++ r → fit (w ++ (any_number ∷ ending)) l ≡ past_number (number (front r)) (λ k. fit_after 0 k ending (behind r)) → (x : Maybe ℕ) → number (front r) ≡ x → Numbered w ending l
    go r i s none q = let g : fit (w ++ (any_number ∷ ending)) l ≡ misfit = s ∙ rw q in not_fit (rw g at h)
    go r i s (some k) q =
        let g : fit (w ++ (any_number ∷ ending)) l ≡ fit_after 0 k ending (behind r) = s ∙ rw q in
        let z = fit_word_alone ending (behind r) 0 k f (rw g at h) in
        let parts : r ≡ numeral k ++ ending = sym (take-append-drop (digits r) r) ∙ rw (reads_numeral k (front r) q, z.0) in
        record { value = k; is = i ∙ rw parts; same = g ∙ z.1 }

-- ---- no line feed

abbrev pub Plain : List ℕ → Type 0
Plain [] = Unit {0}
Plain (b ∷ bs) = (eqb b 10 ≡ false) × Plain bs

plain_append : (a b : List ℕ) → Plain a → Plain b → Plain (a ++ b)
plain_append [] b p q = q
plain_append (x ∷ xs) b p q = (p.0, plain_append xs b p.1 q)

pub plain_literal : (w : List ℕ) → literal w ≡ true → Plain w
plain_literal [] e = tt
plain_literal (w ∷ ws) e = let p = first_literal w ws e in (p.1, plain_literal ws p.2)

plain_numeral : (n : ℕ) → Plain (numeral n)
plain_numeral = by_digits (λ n. Plain (numeral n))
    (λ n h. rw (numeral_one n h) (ne_eqb (48 + n) 10 (omega arith), tt))
    (λ n h p. rw (numeral_more n h) (plain_append (numeral (n / 10)) ((48 + n % 10) ∷ []) p (ne_eqb (48 + n % 10) 10 (omega arith), tt)))

pub plain_number : (w ending : List ℕ) (n : ℕ) → literal w ≡ true → literal ending ≡ true → Plain (w ++ (numeral n ++ ending))
plain_number w ending n e f = plain_append w _ (plain_literal w e) (plain_append (numeral n) ending (plain_numeral n) (plain_literal ending f))

-- ---- texts made of lines

-- the first line of a text
lines_first : (l t : List ℕ) → Plain l → lines (l ++ (10 ∷ t)) ≡ record { whole = l ∷ (lines t).whole; tail = (lines t).tail }
unfolding lines
lines_first [] t p = refl
lines_first (b ∷ bs) t p = rw (p.0, lines_first bs t p.1)

-- each of some lines has no line feed
abbrev pub AllPlain : List (List ℕ) → Type 0
AllPlain [] = Unit {0}
AllPlain (l ∷ ls) = Plain l × AllPlain ls

-- the lines of a text that is made of them
pub lines_ended : (ls : List (List ℕ)) → AllPlain ls → lines (ended ls) ≡ record { whole = ls; tail = [] }
unfolding ended lines
lines_ended [] p = refl
lines_ended (l ∷ ls) p = lines_first l (ended ls) p.0 ∙ rw (lines_ended ls p.1)

-- lines in two parts
pub ended_append : (a b : List (List ℕ)) → ended (a ++ b) ≡ ended a ++ ended b
unfolding ended
ended_append [] b = refl
ended_append (l ∷ a) b = rw (ended_append a b, append_assoc)

-- a text is its whole lines and its tail
onto_ended : (b : ℕ) (ls : List (List ℕ)) (tail : List ℕ) → ended (onto b ls tail).whole ++ (onto b ls tail).tail ≡ b ∷ (ended ls ++ tail)
unfolding ended
onto_ended b [] tail = refl
onto_ended b (l ∷ ls) tail = refl

pub ended_lines : (t : List ℕ) → ended (lines t).whole ++ (lines t).tail ≡ t
unfolding ended lines
ended_lines [] = refl
ended_lines (b ∷ bs) =
    either (eqb b 10) (λ e. let z : b ≡ 10 = eqb-true b 10 e in rw (e, ended_lines bs) (ap (λ (x : ℕ). x ∷ bs) (sym z)))
    (λ e. rw e (onto_ended b (lines bs).whole (lines bs).tail ∙ ap (λ (x : List ℕ). b ∷ x) (ended_lines bs)))
