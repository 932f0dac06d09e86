-- `index_check::unordered_in` meets its contract: a list is sorted where each device is above the one before it.
use Prim.Native.Nat.{ℕ, ◌+◌, ◌-◌}
use mathlib.Core.Path.{◌≡◌, sym}
use mathlib.Core.Bool.{Bool, true, false, not}
use mathlib.Core.List.{List}
use native.Mathlib.Omega.{arith}
use lib.Dec.{ltb}
use lib.ListN.{length}
use Rattle.std.proofs.Common.{rules}
use Rattle.std.proofs.lemmas.List.Sorted.{answers_always}
use Rattle.std.specs.List.{IsAllAdjacentAnswer}
use Rattle.laws.specs.Search.{any}
use Rattle.index.specs.Postings.{device, not_rising}
use Rattle.laws.proofs.Cases.{by_order}
use Rattle.laws.proofs.Search.{any_found, any_none}
use Rattle.laws.proofs.Tests.{tests, flags}
use Rattle.index_check.proofs.unordered_in.Goals as goal

sorted_tells : (l : List ℕ) (r : Bool) → IsAllAdjacentAnswer (λ x y b. b ≡ ltb (device x) (device y)) l r → not r ≡ any (length l) (not_rising device l)
sorted_tells l true h = any_none _ (λ i a b.
    by_order 1 i
    (λ v. let e : i - 1 - 1 + 1 ≡ i - 1 = omega arith in
    let z = sym (rw e at (h (i - 1 - 1) 0 (omega arith))) in simp tests (omega flags))
    (λ v. simp tests (omega arith)))
sorted_tells l false (k, u, h) =
    let e : k + 2 - 1 ≡ k + 1 = omega arith in
    let f : k + 1 - 1 ≡ k = omega arith in
    let z = sym (h 0) in
    any_found _ (k + 2) (omega arith) (rw (e, f) (simp tests (omega flags)))

pub returns : goal.returns
returns c =
    sorted_tells c.args.list.now _ (c.is_sorted_by.ensures.cases (λ x y. ltb (device x) (device y)) (answers_always _ _ _ (λ f a r q y. search rules)))
