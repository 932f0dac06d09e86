-- Searches by `any`: of a list, and of the lists of an index by their numbers.
use Prim.Native.Nat.{ℕ, ◌+◌, ◌-◌}
use mathlib.Core.Path.{◌≡◌, sym, ◌∙◌}
use mathlib.Core.Bool.{Bool, true≢false}
use mathlib.Core.List.{List}
use native.Mathlib.Omega.{arith}
use lib.ListN.{length}
use Rattle.std.proofs.lemmas.List.Folds.{list_any_at, Any-from_list_any}
use Rattle.std.proofs.lemmas.List.FromFn.{length-range_with_len, get_or-range_with_len}
use Rattle.std.specs.List.{list_any, range_with_len}
use Rattle.laws.specs.Search.{any}
use Rattle.laws.specs.Tables.{entry}
use Rattle.laws.proofs.Cases.{either}
use Rattle.laws.proofs.Joined.{any_same}
use Rattle.laws.proofs.Lists.{getD_within}
use Rattle.laws.proofs.Search.{any_found, any_none}
use Rattle.laws.proofs.Tests.{refuted}

-- whether some item of a list passes a test, by the items' numbers
pub any_listed : (test : ℕ → Bool) (xs : List ℕ) → list_any test xs ≡ any (length xs) (λ k. test (entry xs k))
any_listed test xs = either (list_any test xs)
    (λ p. let h = Any-from_list_any test xs p in
    let k : h.0 + 1 - 1 ≡ h.0 = omega arith in
    let y = sym h.3 ∙ getD_within xs h.0 h.1 0 h.2 in
    rw p (any_found (λ k. test (entry xs k)) (h.0 + 1) (let u = h.2 in omega arith) (rw (k, ← y) h.4)))
    (λ p. rw p (any_none (λ k. test (entry xs k)) (λ d l u. refuted _ (λ q. true≢false (sym (list_any_at test xs (d - 1) 0 (omega arith) q) ∙ p)))))

-- whether some number of 1 to n passes a test, by the indexes 0..n
pub any_counted : (test : ℕ → Bool) (n : ℕ) → list_any (λ i. test (i + 1)) (range_with_len 0 n) ≡ any n test
any_counted test n =
    any_listed (λ i. test (i + 1)) (range_with_len 0 n)
    ∙ rw (length-range_with_len 0 n) (any_same _ test n (λ d l u.
    let e = get_or-range_with_len 0 n (d - 1) 0 (omega arith) in
    let z : entry (range_with_len 0 n) d + 1 ≡ d = omega arith in
    rw z))
