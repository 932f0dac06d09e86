-- Numbers, known up to a limit.
use Prim.Native.Nat.{ℕ, suc, ◌+◌, ◌-◌, ◌*◌, ◌<◌, ◌≤◌, min}
use mathlib.Core.Path.{◌≡◌, refl, sym, ap, ◌∙◌}
use mathlib.Core.Bool.{Bool, true, false, cond, not, true≢false}
use mathlib.Core.List.{List, [], ◌∷◌}
use mathlib.Core.Option.{Option, none, some}
use lib.ListN.{length, get_or, take, drop, length-drop, get_or-eq_default}
use lib.Seq.{drop-cons}
use native.Mathlib.Numerals.{add-one}
use native.Mathlib.Omega.{arith}
use borrow.Author.Tests.{le-leb, lt-leb, ne_eqb}
use Rattle.laws.specs.Front.{until}
use Rattle.laws.proofs.Cases.{either, by_order}
use Rattle.laws.proofs.Front.{until_within, until_here, until_next, until_end}
use Rattle.text.specs.Decimal.{digit, decimal, number, digits, front, up_to, known_number, number_at}
use Rattle.std.proofs.lemmas.List.{get_or-drop}
use Rattle.text.specs.inner.Parts.{zero_at}
use Rattle.text.specs.declared.NumberAt.{NumberAt}
use Rattle.text.proofs.Lines.{drop_take}

-- What is the same for all numbers above the limit does not tell a number from its cap.
pub by_cap : {A : Type 0} (g : ℕ → A) (limit n : ℕ) → (limit < n → g (up_to limit n) ≡ g n) → g (up_to limit n) ≡ g n
by_cap g limit n h = by_order limit n h (λ l. let e : up_to limit n ≡ n = omega arith in ap g e)

pub capped_step : {A : Type 0} (g : ℕ → A) (limit n : ℕ) (refused : A) → ((k : ℕ) → limit < k → g k ≡ refused) → g (up_to limit n) ≡ g n
capped_step g limit n refused h = by_cap g limit n (λ l. h (up_to limit n) (omega arith) ∙ sym (h n l))

abbrev pub capped : ℕ → Option ℕ → Option ℕ
capped limit none = none
capped limit (some n) = some (up_to limit n)

-- a number that is known up to the limit decides what it is with more digits, up to the limit
capped_decimal : (limit a b : ℕ) (s : List ℕ) → up_to limit a ≡ up_to limit b → capped limit (decimal a s) ≡ capped limit (decimal b s)
unfolding decimal
capped_decimal limit a b [] e = ap some e
capped_decimal limit a b (x ∷ xs) e =
    go (decimal (a * 10 + (x - 48)) xs) (decimal (b * 10 + (x - 48)) xs) (digit x) (capped_decimal limit (a * 10 + (x - 48)) (b * 10 + (x - 48)) xs (omega arith))
  where
    go : (m n : Option ℕ) (d : Bool) → capped limit m ≡ capped limit n → capped limit (cond d m none) ≡ capped limit (cond d n none)
    go m n true e = e
    go m n false e = refl

-- which bytes are digits
pub digit_below : (b : ℕ) → b < 48 → digit b ≡ false
digit_below b h = rw (lt-leb 48 b h)

pub digit_above : (b : ℕ) → 57 < b → digit b ≡ false
digit_above b h = let l : 48 ≤ b = omega arith in rw (le-leb 48 b l, lt-leb b 57 h)

pub digit_is : (b : ℕ) → 48 ≤ b → b ≤ 57 → digit b ≡ true
digit_is b h k = rw (le-leb 48 b h, le-leb b 57 k)

-- the first byte of a list is a digit, or it is not
module _ (b : ℕ) (bs : List ℕ) where
  pub digits_stop : digit b ≡ false → digits (b ∷ bs) ≡ 0
  unfolding until
  digits_stop e = rw (e, until)

  pub digits_go : digit b ≡ true → digits (b ∷ bs) ≡ suc (digits bs)
  unfolding until
  digits_go e = rw (e, until)

pub digits_within : (s : List ℕ) → digits s ≤ length s
digits_within = until_within (λ b. not (digit b))

-- the digits at an index: none, or one and those after it
module _ (t : List ℕ) (at : ℕ) where
  no_byte : length t ≤ at → digit (get_or t at 0) ≡ false
  no_byte h = rw (get_or-eq_default t 0 {n = at} h) (digit_below 0 (omega arith))

  pub digits_none : digit (get_or t at 0) ≡ false → digits (drop at t) ≡ 0
  digits_none e =
      by_order at (length t) (λ h. until_here (λ b. not (digit b)) t at h (rw e)) (λ h. until_end (λ b. not (digit b)) t at h)

  front_none : digit (get_or t at 0) ≡ false → front (drop at t) ≡ []
  front_none e = rw (digits_none e)

  module _ (h : at < length t) (e : digit (get_or t at 0) ≡ true) where
    digits_more : digits (drop at t) ≡ suc (digits (drop (at + 1) t))
    digits_more = until_next (λ b. not (digit b)) t at h (rw e)

    front_more : front (drop at t) ≡ get_or t at 0 ∷ front (drop (at + 1) t)
    front_more = rw (digits_more, drop-cons t at 0 h, add-one)

-- one digit more of a number
decimal_more : (limit a b n : ℕ) (s : List ℕ) → digit b ≡ true → n ≡ up_to limit (a * 10 + (b - 48)) → capped limit (decimal a (b ∷ s)) ≡ capped limit (decimal n s)
unfolding decimal
decimal_more limit a b n s d e = rw d (capped_decimal limit (a * 10 + (b - 48)) n s (omega arith))

pub number_first : (b : ℕ) (s : List ℕ) → (b ≡ 48 → ⊥) → number (b ∷ s) ≡ decimal 0 (b ∷ s)
unfolding number
number_first b [] e = refl
number_first b (c ∷ cs) e = rw (ne_eqb b 48 e)

-- what the code finds where no number begins
module _ (limit : ℕ) (t : List ℕ) (at : ℕ) where
  none_is : number (front (drop at t)) ≡ none → record { value = 0; end = min at (length t) } ≡ number_at limit t at
  none_is e = rw e

  no_digit : digit (get_or t at 0) ≡ false → number (front (drop at t)) ≡ none
  unfolding number
  no_digit e = rw (front_none t at e)

  pub none_end : length t ≤ at → record { value = 0; end = length t } ≡ number_at limit t at
  none_end h = let m : length t ≡ min at (length t) = omega arith in ap (λ (n : ℕ). record { value = 0; end = n }) m ∙ none_is (no_digit (no_byte t at h))

  module _ (h : at < length t) where
    within : at ≡ min at (length t)
    within = omega arith

    missing : digit (get_or t at 0) ≡ false → record { value = 0; end = at } ≡ number_at limit t at
    missing e = ap (λ (n : ℕ). record { value = 0; end = n }) within ∙ none_is (no_digit e)

    pub none_low : {b : ℕ} → b ≡ get_or t at 0 → b < 48 → record { value = 0; end = at } ≡ number_at limit t at
    none_low e l = missing (rw (← e) (digit_below _ l))

    pub none_high : {b : ℕ} → b ≡ get_or t at 0 → 57 < b → record { value = 0; end = at } ≡ number_at limit t at
    none_high e l = missing (rw (← e) (digit_above _ l))

    zero_more : front (drop at t) ≡ 48 ∷ front (drop (at + 1) t) → digit (get_or t (at + 1) 0) ≡ true → zero_at t at ≡ number_at limit t at
    unfolding number
    zero_more l g =
        let k : at + 1 < length t = by_order (at + 1) (length t) (λ v. v) (λ v. absurd (true≢false (sym g ∙ no_byte t (at + 1) v))) in
        rw (l, front_more t (at + 1) k g, g, ← within)

    zero_alone : front (drop at t) ≡ 48 ∷ front (drop (at + 1) t) → digits (drop at t) ≡ suc (digits (drop (at + 1) t)) → digit (get_or t (at + 1) 0) ≡ false
        → zero_at t at ≡ number_at limit t at
    unfolding number decimal
    zero_alone l m g =
        let z : up_to limit 0 ≡ 0 = omega arith in
        rw (l, front_none t (at + 1) g, m, digits_none t (at + 1) g, g, z, ← within)

    pub zero_is : get_or t at 0 ≡ 48 → {r : NumberAt} → r ≡ zero_at t at → r ≡ number_at limit t at
    zero_is e q =
        let d : digit (get_or t at 0) ≡ true = rw e (digit_is 48 (omega arith) (omega arith)) in
        let l : front (drop at t) ≡ 48 ∷ front (drop (at + 1) t) = front_more t at h d ∙ rw e in
        q ∙ either (digit (get_or t (at + 1) 0)) (λ g. zero_more l g) (λ g. zero_alone l (digits_more t at h d) g)

-- n is what the digits from at up to i make, up to the limit
pub record Counted (limit : ℕ) (t : List ℕ) (at n i : ℕ) : Type 0 where
  pub onward : at ≤ i
  pub within : i ≤ length t
  pub small : n ≤ limit + 1
  pub far : at + digits (drop at t) ≡ i + digits (drop i t)
  pub value : capped limit (number (front (drop at t))) ≡ capped limit (decimal n (front (drop i t)))

module _ {limit : ℕ} {t : List ℕ} {at : ℕ} where
  pub count_first : at < length t → 49 ≤ get_or t at 0 → get_or t at 0 ≤ 57 → Counted limit t at 0 at
  count_first h a b =
      let d = digit_is (get_or t at 0) (omega arith) b in
      record {
        onward = omega arith;
        within = omega arith;
        small = omega arith;
        far = refl;
        value = rw (front_more t at h d, number_first (get_or t at 0) (front (drop (at + 1) t)) (λ z. omega arith));
      }

  module _ {n i : ℕ} (s : Counted limit t at n i) where
    pub count_more : {m : ℕ} → i < length t → 48 ≤ get_or t i 0 → get_or t i 0 ≤ 57 → m ≡ up_to limit (n * 10 + (get_or t i 0 - 48)) → Counted limit t at m (i + 1)
    count_more {m} h a b e =
        let d = digit_is (get_or t i 0) a b in
        record {
          onward = omega (arith, s.onward);
          within = omega arith;
          small = omega arith;
          far = omega (arith, s.far, digits_more t i h d);
          value = s.value ∙ rw (front_more t i h d) (decimal_more limit n (get_or t i 0) m (front (drop (i + 1) t)) d e);
        }

    pub stop : digit (get_or t i 0) ≡ false → record { value = n; end = i } ≡ number_at limit t at
    unfolding decimal
    stop e =
        let k : i ≡ min at (length t) + digits (drop at t) = omega (arith, s.far, s.onward, s.within, digits_none t i e) in
        let m : up_to limit n ≡ n = omega (arith, s.small) in
        go (number (front (drop at t))) (s.value ∙ rw (front_none t i e, m)) k
      where
        go : (x : Option ℕ) → capped limit x ≡ some n → i ≡ min at (length t) + digits (drop at t)
            → record { value = n; end = i } ≡ known_number limit (min at (length t)) (digits (drop at t)) x
        go none v k = cc
        go (some j) v k = cc (v, k)

    pub stop_end : length t ≤ i → record { value = n; end = length t } ≡ number_at limit t at
    stop_end h = let e : length t ≡ i = omega (arith, s.within) in ap (λ (k : ℕ). record { value = n; end = k }) e ∙ stop (no_byte t i h)

-- the byte of the text at an index of what is left of it, as the code goes over that
module _ (t : List ℕ) (at i : ℕ) where
  pub tail_byte : get_or (take (length t - at) (drop at t)) i 0 ≡ get_or t (at + i) 0
  tail_byte = rw (drop_take at t) (get_or-drop at t i 0)

  pub tail_within : i < length (take (length t - at) (drop at t)) → at + i < length t
  tail_within h = omega (arith, rw (drop_take at t, length-drop at t) at h)

  pub tail_end : length (take (length t - at) (drop at t)) ≤ i → length t ≤ at + i
  tail_end h = omega (arith, rw (drop_take at t, length-drop at t) at h)
