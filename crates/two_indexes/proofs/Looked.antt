-- The lookup of a term in two indexes, by that in one.
use Prim.Native.Nat.{ℕ, ◌≤◌, ◌<◌}
use mathlib.Core.Path.{◌≡◌}
use mathlib.Core.Bool.{true, false}
use mathlib.Core.List.{List}
use Rattle.laws.proofs.Cases.{either}
use Rattle.laws.proofs.Tests.{tests, flags}
use Rattle.index.specs.Index.{list}
use Rattle.index.specs.Lookup as one
use Rattle.index.specs.Lookup.{Numbered}
use Rattle.index.proofs.Lookup.{looked_some}
use Rattle.two_indexes.specs.Indexes.{Indexes, in_second, home, list_of}
use Rattle.two_indexes.specs.Lookup.{Looked}
use Rattle.two_indexes.specs.inner.Rising.{Rise}

-- what was looked up in the term's own index: without a number it is empty, as any part from 0 to 0 is
looked_home : (S : Indexes) {t : ℕ} {r : List ℕ} → one.Looked (home S t) t r → Looked S t r
looked_home S l = record { at_home = l; absent = λ z. rw z at l.part }

module _ (S : Indexes) {t : ℕ} {r : List ℕ} where
  pub looked_second : 32_768 ≤ t → one.Looked S.second t r → Looked S t r
  looked_second h l = let e : in_second t ≡ true = simp tests (omega flags) in looked_home S (rw e l)

  module _ {number : ℕ} (h : t < 32_768) (n : Numbered S.first.terms t number) where
    pub looked_first : (number ≡ 0 → ⊥) → r ≡ list S.first number → Looked S t r
    looked_first z p = let e : in_second t ≡ false = simp tests (omega flags) in looked_home S (rw e (looked_some {I = S.first} n z p))

-- where the terms of both indexes rise, what is looked up is the list of the term
pub looked_list : (S : Indexes) → Rise S.first.terms → Rise S.second.terms → {t : ℕ} {r : List ℕ} → Looked S t r → r ≡ list_of S t
looked_list S a b {t} l = l.at_home.sound (either (in_second t) (λ e. rw e b.placed) (λ e. rw e a.placed))
