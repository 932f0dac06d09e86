-- A line against a pattern, its numbers known up to a limit.
use Prim.Native.Nat.{ℕ, suc, ◌+◌, ◌≤◌, min}
use mathlib.Core.Path.{◌≡◌, refl, sym, ap, ◌∙◌}
use mathlib.Core.Bool.{Bool, true, false, not, true≢false}
use mathlib.Core.List.{List, [], ◌∷◌}
use mathlib.Core.Option.{Option as Maybe, none, some}
use lib.Dec.{eqb}
use lib.ListN.{length, take, drop, length-drop, drop_of_length-le}
use lib.Seq.{drop-drop}
use native.Mathlib.Omega.{arith}
use borrow.Author.Tests.{eq-eqb, ne_eqb, eqb-true, eqb-false}
use Rattle.laws.specs.Front.{until}
use Rattle.laws.proofs.Cases.{either, by_order}
use Rattle.text.specs.Lines.{begins, bytes_before, line_at}
use Rattle.text.specs.Decimal.{digit, number, digits, front, behind, up_to, number_at}
use Rattle.text.specs.Patterns.{any_number, fit, fit_after, fitting, misfit, past_byte, past_number, capped_fit}
use Rattle.std.specs.Prelude.{Option, None}
use Rattle.std.specs.Bool.{then_some}
use Rattle.text.specs.inner.Parts.{On, left_of, Goes, Past}
use Rattle.text.specs.declared.Fit.{Fit}
use Rattle.text.specs.declared.NumberAt.{NumberAt}
use Rattle.text.specs.declared.Scan.{Scan}
use Rattle.text.proofs.Lines.{before_found, before_more, byte_there}
use Rattle.text.proofs.Decimal.{digit_below, digits_stop, digits_go, digits_within}

-- a line ends before a line feed, which is no digit: its digits are the text's
record Leads (s l : List ℕ) : Type 0 where
  many : digits l ≡ digits s
  lead : front l ≡ front s
  rest : behind l ≡ take (bytes_before 10 (behind s)) (behind s)

leads : (s : List ℕ) → Leads s (take (bytes_before 10 s) s)
unfolding until
leads [] = record { many = refl; lead = refl; rest = refl }
leads (b ∷ bs) =
    either (eqb b 10)
    (λ e. let z : digit b ≡ false = digit_below b (omega (arith, eqb-true b 10 e)) in
    rw (before_found 10 b bs e) (feed z (before_found 10 b bs e)))
    (λ e. rw (before_more 10 b bs e) (either (digit b) (λ d. digit_byte d (leads bs)) (λ d. other_byte d (before_more 10 b bs e))))
  where
    feed : digit b ≡ false → bytes_before 10 (b ∷ bs) ≡ 0 → Leads (b ∷ bs) []
    feed d e = record { many = sym (digits_stop b bs d); lead = rw (digits_stop b bs d); rest = rw (digits_stop b bs d, e) }

    digit_byte : digit b ≡ true → Leads bs (take (bytes_before 10 bs) bs) → Leads (b ∷ bs) (b ∷ take (bytes_before 10 bs) bs)
    digit_byte d i =
        let l = take (bytes_before 10 bs) bs in
        record {
          many = rw (digits_go b bs d, digits_go b l d, i.many);
          lead = rw (digits_go b bs d, digits_go b l d) (ap (λ (x : List ℕ). b ∷ x) i.lead);
          rest = rw (digits_go b bs d, digits_go b l d) i.rest;
        }

    other_byte : digit b ≡ false → bytes_before 10 (b ∷ bs) ≡ suc (bytes_before 10 bs) → Leads (b ∷ bs) (b ∷ take (bytes_before 10 bs) bs)
    other_byte d e =
        let l = take (bytes_before 10 bs) bs in
        record {
          many = rw (digits_stop b bs d, digits_stop b l d);
          lead = rw (digits_stop b bs d, digits_stop b l d);
          rest = rw (digits_stop b bs d, digits_stop b l d, e);
        }

module _ (t : List ℕ) (at : ℕ) where
  pub line_front : front (line_at t at) ≡ front (drop at t)
  line_front = (leads (drop at t)).lead

  pub line_digits : digits (line_at t at) ≡ digits (drop at t)
  line_digits = (leads (drop at t)).many

  pub line_behind : behind (line_at t at) ≡ line_at t (at + digits (drop at t))
  line_behind = (leads (drop at t)).rest ∙ rw (drop-drop (digits (drop at t)) at t)

-- numbers that are the same up to the limit make the same, up to the limit
capped_after : (limit : ℕ) (ps l : List ℕ) (m n m' n' : ℕ) → up_to limit m ≡ up_to limit m' → up_to limit n ≡ up_to limit n'
    → capped_fit limit (fit_after m n ps l) ≡ capped_fit limit (fit_after m' n' ps l)
unfolding fit_after
capped_after limit [] [] m n m' n' e q = rw (e, q)
capped_after limit [] (b ∷ bs) m n m' n' e q = refl
capped_after limit (p ∷ ps) l m n m' n' e q =
    either (eqb p any_number)
    (λ h. rw h (numbers (number (front l)) (λ k. capped_after limit ps (behind l) n k n' k q refl)))
    (λ h. rw h (byte l (λ bs. capped_after limit ps bs m n m' n' e q)))
  where
    numbers : (x : Maybe ℕ) → ((k : ℕ) → capped_fit limit (fit_after n k ps (behind l)) ≡ capped_fit limit (fit_after n' k ps (behind l)))
        → capped_fit limit (past_number x (λ k. fit_after n k ps (behind l))) ≡ capped_fit limit (past_number x (λ k. fit_after n' k ps (behind l)))
    numbers none f = refl
    numbers (some k) f = f k

    byte : (l : List ℕ) → ((bs : List ℕ) → capped_fit limit (fit_after m n ps bs) ≡ capped_fit limit (fit_after m' n' ps bs))
        → capped_fit limit (past_byte p l (λ bs. fit_after m n ps bs)) ≡ capped_fit limit (past_byte p l (λ bs. fit_after m' n' ps bs))
    byte [] f = refl
    byte (b ∷ bs) f = either (eqb p b) (λ h. rw h (f bs)) (λ h. rw h)

-- a number is one digit long at least
given : Maybe ℕ → Bool
given none = false
given (some n) = true

number_long : (s : List ℕ) (k : ℕ) → number (front s) ≡ some k → 1 ≤ digits s
unfolding number given
number_long s k e =
    by_order 0 (digits s) (λ h. h) (λ h. let z : digits s ≡ 0 = omega arith in absurd (true≢false (sym (ap given (rw z at e)))))

-- a line that does not go on with a byte, that ends, that does not
no_byte : (p : ℕ) (l : List ℕ) (f : List ℕ → Option Fit) → begins (p ∷ []) l ≡ false → past_byte p l f ≡ misfit
unfolding begins
no_byte p [] f e = refl
no_byte p (b ∷ bs) f e = either (eqb p b) (λ q. absurd (true≢false (rw q at e))) (λ q. rw q)

nil_is : (l : List ℕ) → eqb (length l) 0 ≡ true → l ≡ []
nil_is [] e = refl
nil_is (b ∷ bs) e = absurd (omega (arith, eqb-true (suc (length bs)) 0 e))

long : (l : List ℕ) (m n : ℕ) → eqb (length l) 0 ≡ false → fit_after m n [] l ≡ misfit
unfolding fit_after
long [] m n e = absurd (true≢false e)
long (b ∷ bs) m n e = refl

-- a number that is there ends after its digits
pub number_end : (limit : ℕ) (t : List ℕ) (at : ℕ) {r : NumberAt} → at ≤ length t → r ≡ number_at limit t at → (r.end ≡ at → ⊥) → r.end ≡ at + digits (drop at t)
number_end limit t at {r} l e h = go (number (front (drop at t))) refl
  where
    go : (x : Maybe ℕ) → number (front (drop at t)) ≡ x → r.end ≡ at + digits (drop at t)
    go none q = let z : r.end ≡ min at (length t) = ap (λ (n : NumberAt). n.end) e ∙ rw q in absurd (h (omega arith))
    go (some k) q = let z : r.end ≡ min at (length t) + digits (drop at t) = ap (λ (n : NumberAt). n.end) e ∙ rw q in omega arith

-- one byte of a pattern: what its number or its byte comes to
module _ (limit : ℕ) (t : List ℕ) (s : Scan) (on : On limit t s) where
  -- the number at the scan's index
  fit_number : (ps : List ℕ) → left_of limit t (35 ∷ ps) s
      ≡ capped_fit limit (past_number (number (front (drop s.at t))) (λ k. fit_after s.number k ps (line_at t (s.at + digits (drop s.at t)))))
  unfolding fit_after
  fit_number ps = rw (line_front t s.at, line_behind t s.at)

  -- what the code finds there: no number, or one and the index after it
  pub past_none : {r : NumberAt} → r ≡ number_at limit t s.at → r.end ≡ s.at → Past limit t 35 s None
  past_none {r} e h = go (number (front (drop s.at t))) refl
    where
      go : (x : Maybe ℕ) → number (front (drop s.at t)) ≡ x → Past limit t 35 s None
      go none q = λ ps. fit_number ps ∙ rw q
      go (some k) q =
          let l = number_long (drop s.at t) k q in
          let z : r.end ≡ min s.at (length t) + digits (drop s.at t) = ap (λ (n : NumberAt). n.end) e ∙ rw q in
          absurd (omega (arith, on.within))

  pub past_found : {r : NumberAt} → r ≡ number_at limit t s.at → (r.end ≡ s.at → ⊥)
      → Goes limit t 35 s (record { before = s.number; number = r.value; at = r.end })
  past_found {r} e h = go (number (front (drop s.at t))) refl
    where
      go : (x : Maybe ℕ) → number (front (drop s.at t)) ≡ x → Goes limit t 35 s (record { before = s.number; number = r.value; at = r.end })
      go none q =
          let z : r.end ≡ min s.at (length t) = ap (λ (n : NumberAt). n.end) e ∙ rw q in
          absurd (h (omega (arith, on.within)))
      go (some k) q =
          let z : r.end ≡ min s.at (length t) + digits (drop s.at t) = ap (λ (n : NumberAt). n.end) e ∙ rw q in
          let y : r.end ≡ s.at + digits (drop s.at t) = omega (arith, on.within) in
          let v : r.value ≡ up_to limit k = ap (λ (n : NumberAt). n.value) e ∙ rw q in
          let w : up_to limit k ≡ up_to limit r.value = omega arith in
          record {
            goes_on = λ ps. fit_number ps ∙ rw (q, ← y) (capped_after limit ps (line_at t r.end) s.number k s.number r.value refl w);
            on = record { within = omega (arith, digits_within (drop s.at t), length-drop s.at t); low = on.lower; lower = omega arith };
          }

  pub past_number_is : {r : NumberAt} {n : Option Scan} → r ≡ number_at limit t s.at
      → n ≡ then_some (not (eqb r.end s.at)) (record { before = s.number; number = r.value; at = r.end }) → Past limit t 35 s n
  past_number_is {r} e q =
      rw q (either (eqb r.end s.at) (λ h. rw h (past_none e (eqb-true r.end s.at h))) (λ h. rw h (past_found e (eqb-false r.end s.at h))))

  -- another byte
  module _ (p : ℕ) (other : p ≡ 35 → ⊥) {b : Bool} (e : b ≡ begins (p ∷ []) (line_at t s.at)) where
    fit_byte : (ps : List ℕ) → left_of limit t (p ∷ ps) s ≡ capped_fit limit (past_byte p (line_at t s.at) (λ bs. fit_after s.before s.number ps bs))
    unfolding fit_after
    fit_byte ps = rw (ne_eqb p 35 other)

    pub past_not : b ≡ false → Past limit t p s None
    past_not h = λ ps. fit_byte ps ∙ ap (capped_fit limit) (no_byte p (line_at t s.at) (λ bs. fit_after s.before s.number ps bs) (sym e ∙ h))

    pub past_is : b ≡ true → Goes limit t p s (record { before = s.before; number = s.number; at = s.at + 1 })
    past_is h =
        let l = byte_there t s.at p (sym e ∙ h) in
        record {
          goes_on = λ ps. fit_byte ps ∙ rw (l.1, eq-eqb p p refl);
          on = record { within = omega (arith, l.0); low = on.low; lower = on.lower };
        }

    pub past_byte_is : {n : Option Scan} → n ≡ then_some b (record { before = s.before; number = s.number; at = s.at + 1 }) → Past limit t p s n
    past_byte_is q = rw q (either b (λ h. rw h (past_is h)) (λ h. rw h (past_not h)))

-- a line against a pattern, up to an index of the pattern
pub record Scanned (limit : ℕ) (t : List ℕ) (at : ℕ) (ps : List ℕ) (s : Scan) (i : ℕ) : Type 0 where
  pub on : On limit t s
  pub within : i ≤ length ps
  pub known : capped_fit limit (fit ps (line_at t at)) ≡ left_of limit t (drop i ps) s

module _ {limit : ℕ} {t : List ℕ} {at : ℕ} {ps : List ℕ} where
  module _ {s : Scan} {i : ℕ} (a : Scanned limit t at ps s i) where
    module _ (h : length ps ≤ i) {b : Bool} (e : b ≡ eqb (length (line_at t s.at)) 0) where
      over : capped_fit limit (fit ps (line_at t at)) ≡ capped_fit limit (fit_after s.before s.number [] (line_at t s.at))
      over = a.known ∙ rw (drop_of_length-le ps {i = i} h)

      pub scan_fits : b ≡ true → fitting s.before s.number ≡ capped_fit limit (fit ps (line_at t at))
      unfolding fit_after
      scan_fits q =
          let z = nil_is (line_at t s.at) (sym e ∙ q) in
          let m : up_to limit s.before ≡ s.before = omega (arith, a.on.low) in
          let n : up_to limit s.number ≡ s.number = omega (arith, a.on.lower) in
          sym (over ∙ rw (z, m, n))

      pub scan_long : b ≡ false → misfit ≡ capped_fit limit (fit ps (line_at t at))
      scan_long q = sym (over ∙ ap (capped_fit limit) (long (line_at t s.at) s.before s.number (sym e ∙ q)))

      pub scan_is : {f : Option Fit} → f ≡ then_some b (record { before = s.before; number = s.number }) → f ≡ capped_fit limit (fit ps (line_at t at))
      scan_is q = q ∙ either b (λ h. rw h (scan_fits h)) (λ h. rw h (scan_long h))
