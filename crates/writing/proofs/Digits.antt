-- How many digits a number has, and its digits in a number of places.
use Prim.Native.Nat.{ℕ, zero, suc, ◌+◌, ◌*◌, ◌/◌, ◌%◌, ◌^◌, ◌≤◌, ◌<◌}
use mathlib.Core.Path.{◌≡◌, refl, sym, ap, ◌∙◌}
use mathlib.Core.Bool.{true, false}
use native.Mathlib.Omega.{arith}
use native.Mathlib.Nat.{one-le-pow}
use native.Mathlib.Numerals.{add-one}
use borrow.Author.Tests.{le-leb, lt-leb}
use lib.Dec.{leb}
use lib.ListN.{length, length-append}
use Rattle.laws.specs.Search.{tally}
use Rattle.laws.proofs.Cases.{by_order}
use Rattle.text.specs.Decimal.{numeral}
use Rattle.text.proofs.Numerals.{numeral_one, numeral_more, numeral_some, by_digits}
use Rattle.writing.specs.inner.Puts.{padded, Above}

-- one digit for each power of ten that the number reaches
pub numeral_short : (k n : ℕ) → n < 10 ^ suc k → length (numeral n) ≤ suc k
numeral_short zero n h = rw (numeral_one n h) (omega arith)
numeral_short (suc k) n h =
    by_order n 10 (λ l. rw (numeral_one n l) (omega arith))
    (λ l. rw (numeral_more n l, length-append) (let f = numeral_short k (n / 10) (omega arith) in omega arith))

numeral_long : (k n : ℕ) → 10 ^ k ≤ n → k < length (numeral n)
numeral_long zero n h = numeral_some n
numeral_long (suc k) n h =
    let p = one-le-pow k 10 (omega arith) in
    let f = numeral_long k (n / 10) (omega arith) in
    rw (numeral_more n (omega arith), length-append) (omega arith)

pub digits_one : (n : ℕ) → n < 10 → 1 ≡ length (numeral n)
digits_one n h = rw (numeral_one n h)

-- so a number between two powers of ten has as many as the higher
pub digits_between : (k n : ℕ) → 10 ^ k ≤ n → n < 10 ^ suc k → suc k ≡ length (numeral n)
digits_between k n l u = let a = numeral_short k n u in let b = numeral_long k n l in omega arith

-- and one more than its logarithm
pub digits_log : (n k : ℕ) → 10 ^ k ≤ n → n < 10 * 10 ^ k → k + 1 ≡ length (numeral n)
digits_log n k l u = rw add-one (digits_between k n l (omega arith))

-- one digit, and one for each power that the number is not below
powers : ℕ → ℕ → ℕ
powers n k = tally k (λ j. leb (10 ^ j) n)

all_powers : (n k : ℕ) → 10 ^ k ≤ n → powers n k ≡ k
unfolding powers tally
all_powers n zero h = refl
all_powers n (suc k) h =
    let p = one-le-pow k 10 (omega arith) in
    let e : leb (10 ^ suc k) n ≡ true = le-leb (10 ^ suc k) n h in
    rw e (ap suc (all_powers n k (omega arith)))

digits_powers : (n k : ℕ) → n < 10 ^ suc k → length (numeral n) ≡ 1 + powers n k
unfolding powers tally
digits_powers n zero h = rw (numeral_one n h)
digits_powers n (suc k) h =
    by_order n (10 ^ suc k)
    (λ l. let e : leb (10 ^ suc k) n ≡ false = lt-leb (10 ^ suc k) n l in rw e (digits_powers n k l))
    (λ l. let e = digits_between (suc k) n l h in let a = all_powers n (suc k) l in sym e ∙ omega arith)

-- a comparison with each
powers_more : {n m r : ℕ} (k t : ℕ) → powers n k ≡ t → 10 ^ suc k ≡ m + 1 → Above n m r → powers n (suc k) ≡ t + r
unfolding powers tally
powers_more {n} {m} {r} k t e p a =
    by_order m n
    (λ l. let y = a.yes l in let b : leb (10 ^ suc k) n ≡ true = le-leb (10 ^ suc k) n (omega arith) in rw (b, e) (omega arith))
    (λ l. let y = a.no l in let b : leb (10 ^ suc k) n ≡ false = lt-leb (10 ^ suc k) n (omega arith) in rw (b, e) (omega arith))

pub digits_compared : {n r₁ r₂ r₃ r₄ r₅ r₆ r₇ r₈ r₉ : ℕ} → Above n 9 r₁ → Above n 99 r₂ → Above n 999 r₃ → Above n 9999 r₄ → Above n 99999 r₅ → Above n 999999 r₆ →
    Above n 9999999 r₇ → Above n 99999999 r₈ → Above n 999999999 r₉ → n < 10 ^ 10 →
    1 + (r₁ + r₂ + r₃ + r₄) + (r₅ + r₆ + r₇) + (r₈ + r₉) ≡ length (numeral n)
unfolding powers tally
digits_compared {n} a b c d e f g h i l =
    let p₁ = powers_more 0 0 refl refl a in
    let p₂ = powers_more 1 _ p₁ refl b in
    let p₃ = powers_more 2 _ p₂ refl c in
    let p₄ = powers_more 3 _ p₃ refl d in
    let p₅ = powers_more 4 _ p₄ refl e in
    let p₆ = powers_more 5 _ p₅ refl f in
    let p₇ = powers_more 6 _ p₆ refl g in
    let p₈ = powers_more 7 _ p₇ refl h in
    let p₉ = powers_more 8 _ p₈ refl i in
    let z = digits_powers n 9 l in
    omega arith

-- ---- the digits in a number of places

pub length_padded : (k n : ℕ) → length (padded k n) ≡ k
length_padded zero n = refl
length_padded (suc k) n = length-append (padded k (n / 10)) _ ∙ rw (length_padded k (n / 10), add-one)

abbrev Padded : ℕ → Type 0
Padded n = padded (length (numeral n)) n ≡ numeral n

pub numeral_padded : (n : ℕ) → Padded n
numeral_padded = by_digits Padded one more
  where
    one : (n : ℕ) → n < 10 → Padded n
    one n h = let e : n % 10 ≡ n = omega arith in rw (numeral_one n h, e)

    more : (n : ℕ) → 10 ≤ n → Padded (n / 10) → Padded n
    more n h p = rw (numeral_more n h, length-append, add-one, p)
