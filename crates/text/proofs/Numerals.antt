-- Numbers as they are written: the digits of n read as n, and bytes that read as n are the digits of n.
use Prim.Native.Nat.{ℕ, zero, suc, ◌+◌, ◌-◌, ◌*◌, ◌/◌, ◌%◌, ◌≤◌, ◌<◌}
use mathlib.Core.Path.{◌≡◌, sym, ap, ◌∙◌}
use mathlib.Core.Bool.{true, false}
use mathlib.Core.List.{List, [], ◌∷◌, ◌++◌, append_assoc, append-nil}
use mathlib.Core.Option.{none, some}
use native.Mathlib.Omega.{arith}
use native.Mathlib.Numerals.{add-one}
use lib.Dec.{ltb, eqb}
use lib.ListN.{length}
use Rattle.laws.proofs.Tests.{tests, flags}
use Rattle.laws.proofs.Cases.{either, by_order}
use Rattle.text.specs.Decimal.{digit, decimal, number, numeral_in, numeral, WrittenAs}
use Rattle.text.proofs.Decimal.{digit_is, number_first}

-- no more digits are looked for than there are
enough : (k j n : ℕ) → n < k → n < j → numeral_in k n ≡ numeral_in j n
unfolding numeral_in
enough zero j n h g = absurd (omega arith)
enough (suc k) zero n h g = absurd (omega arith)
enough (suc k) (suc j) n h g =
    either (ltb n 10) (λ e. rw e) (λ e. rw (e, enough k j (n / 10) (omega flags) (omega flags)))

-- a number is one digit, or the digits before the last and then the last
pub numeral_one : (n : ℕ) → n < 10 → numeral n ≡ (48 + n) ∷ []
unfolding numeral numeral_in
numeral_one n h = let e : ltb n 10 ≡ true = omega flags in rw (add-one, e)

pub numeral_more : (n : ℕ) → 10 ≤ n → numeral n ≡ numeral (n / 10) ++ ((48 + n % 10) ∷ [])
unfolding numeral numeral_in
numeral_more n h = let e : ltb n 10 ≡ false = omega flags in rw (add-one n, e, enough n (n / 10 + 1) (n / 10) (omega arith) (omega arith))

-- so what holds of one digit, and of a number with one digit more, holds of each
pub by_digits : (P : ℕ → Type 0) → ((n : ℕ) → n < 10 → P n) → ((n : ℕ) → 10 ≤ n → P (n / 10) → P n) → (n : ℕ) → P n
by_digits P one more n = go (n + 1) n (omega arith)
  where
    go : (k n : ℕ) → n < k → P n
    go zero n h = absurd (omega arith)
    go (suc k) n h = by_order n 10 (λ l. one n l) (λ l. more n l (go k (n / 10) (omega arith)))

-- ---- reading what is written

-- reading one digit more
digit_read : (a b : ℕ) (s : List ℕ) → 48 ≤ b → b ≤ 57 → decimal a (b ∷ s) ≡ decimal (a * 10 + (b - 48)) s
unfolding decimal
digit_read a b s l u = rw (digit_is b l u)

-- reading a number, and then more
abbrev Reads : ℕ → Type 0
Reads n = (s : List ℕ) → decimal 0 (numeral n ++ s) ≡ decimal n s

reads : (n : ℕ) → Reads n
reads = by_digits Reads one more
  where
    one : (n : ℕ) → n < 10 → Reads n
    one n h s = let e : 0 * 10 + (48 + n - 48) ≡ n = omega arith in rw (numeral_one n h) (digit_read 0 (48 + n) s (omega arith) (omega arith) ∙ rw e)

    more : (n : ℕ) → 10 ≤ n → Reads (n / 10) → Reads n
    more n h f s =
        let e : n / 10 * 10 + (48 + n % 10 - 48) ≡ n = omega arith in
        rw (numeral_more n h, append_assoc) (f ((48 + n % 10) ∷ s) ∙ digit_read (n / 10) (48 + n % 10) s (omega arith) (omega arith) ∙ rw e)

-- the first digit of a number is 0 for 0 alone
record Leads (n : ℕ) : Type 0 where
  first : ℕ
  rest : List ℕ
  is : numeral n ≡ first ∷ rest
  nonzero : 1 ≤ n → first ≡ 48 → ⊥

leads : (n : ℕ) → Leads n
leads = by_digits Leads one more
  where
    one : (n : ℕ) → n < 10 → Leads n
    one n h = record { first = 48 + n; rest = []; is = numeral_one n h; nonzero = λ l z. omega arith }

    more : (n : ℕ) → 10 ≤ n → Leads (n / 10) → Leads n
    more n h L = record {
      first = L.first;
      rest = L.rest ++ ((48 + n % 10) ∷ []);
      is = numeral_more n h ∙ rw L.is;
      nonzero = λ _. L.nonzero (omega arith);
    }

-- a number has a digit
pub numeral_some : (n : ℕ) → 0 < length (numeral n)
numeral_some n = rw (leads n).is (omega arith)

-- reading the digits of n gives n
pub numeral_reads : (n : ℕ) → number (numeral n) ≡ some n
unfolding decimal number
numeral_reads n =
    let d : decimal 0 (numeral n) ≡ some n = ap (decimal 0) (sym (append-nil (numeral n))) ∙ reads n [] in
    by_order n 1 (λ l. rw (numeral_one n (omega arith)) (sym (ap (decimal 0) (numeral_one n (omega arith))) ∙ d))
    (λ l. let L = leads n in rw L.is (number_first L.first L.rest (L.nonzero l) ∙ ap (decimal 0) (sym L.is) ∙ d))

-- ---- writing what is read

-- a number and one digit more
numeral_next : (a b : ℕ) → 1 ≤ a → 48 ≤ b → b ≤ 57 → numeral (a * 10 + (b - 48)) ≡ numeral a ++ (b ∷ [])
numeral_next a b h l u =
    let d : (a * 10 + (b - 48)) / 10 ≡ a = omega arith in
    let m : 48 + (a * 10 + (b - 48)) % 10 ≡ b = omega arith in
    numeral_more (a * 10 + (b - 48)) (omega arith) ∙ rw (d, m)

none_not_some : {X : Type 0} (n : ℕ) → none ≡ some n → X
none_not_some n e = let z : ◌≡◌ {A = ℕ} 0 1 = cc in absurd (omega arith)

is_digit : (a b n : ℕ) (s : List ℕ) → decimal a (b ∷ s) ≡ some n → (48 ≤ b) × (b ≤ 57)
unfolding decimal
is_digit a b n s h = either (digit b) (λ e. simp tests at e) (λ e. none_not_some n (rw e at h))

-- digits that are read after those of a number
read_after : (a n : ℕ) (s : List ℕ) → 1 ≤ a → decimal a s ≡ some n → numeral a ++ s ≡ numeral n
unfolding decimal
read_after a n [] l h = let e : n ≡ a = cc in rw e (append-nil (numeral a))
read_after a n (b ∷ s) l h =
    let d = is_digit a b n s h in
    sym (rw (numeral_next a b l d.0 d.1, append_assoc))
    ∙ read_after (a * 10 + (b - 48)) n s (omega arith) (sym (digit_read a b s d.0 d.1) ∙ h)

-- the first digit, and those after it
first_read : (b n : ℕ) (s : List ℕ) → decimal 0 (b ∷ s) ≡ some n → (numeral (b - 48) ≡ b ∷ []) × (decimal (b - 48) s ≡ some n)
first_read b n s h =
    let d = is_digit 0 b n s h in
    let z : 0 * 10 + (b - 48) ≡ b - 48 = omega arith in
    let y : 48 + (b - 48) ≡ b = omega arith in
    (numeral_one (b - 48) (omega arith) ∙ rw y, rw z at (sym (digit_read 0 b s d.0 d.1) ∙ h))

-- bytes that read as n are the digits of n
pub reads_numeral : (n : ℕ) (l : List ℕ) → number l ≡ some n → l ≡ numeral n
unfolding number decimal
reads_numeral n [] h = none_not_some n h
reads_numeral n (b ∷ []) h = let d = first_read b n [] h in let e : n ≡ b - 48 = cc in rw e (sym d.0)
reads_numeral n (b ∷ c ∷ cs) h =
    either (eqb b 48) (λ e. none_not_some n (rw e at h))
    (λ e.
    let d = first_read b n (c ∷ cs) (rw e at h) in
    let g = is_digit 0 b n (c ∷ cs) (rw e at h) in
    rw d.0 at (read_after (b - 48) n (c ∷ cs) (omega flags) d.1))

-- so there is one way to write a number
pub numeral_form : (n : ℕ) → WrittenAs n (numeral n)
numeral_form n = record { reads = numeral_reads n; alone = reads_numeral n }
