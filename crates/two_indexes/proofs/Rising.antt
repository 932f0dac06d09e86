-- Where terms rise, the last tells whether one is from 32,768 up, and the first whether one is below.
use Prim.Native.Nat.{ℕ, ◌-◌}
use mathlib.Core.Path.{◌≡◌, ◌∙◌}
use mathlib.Core.Bool.{Bool, false}
use mathlib.Core.List.{List}
use native.Mathlib.Omega.{arith}
use lib.Dec.{ltb}
use lib.ListN.{length}
use denote.Ref.{Bor}
use Rattle.std.proofs.Common.{Option, None, Some}
use Rattle.std.specs.Option.{MatchOption}
use Rattle.std.specs.Slice.{IsGetResult}
use Rattle.laws.specs.Limits.{highest_term}
use Rattle.laws.proofs.Cases.{either}
use Rattle.laws.proofs.Search.{any_found, any_none}
use Rattle.laws.proofs.Tests.{tests, flags}
use Rattle.index.proofs.Lists.{not_falling}
use Rattle.two_indexes.specs.Indexes.{in_second}
use Rattle.two_indexes.specs.inner.Rising.{AnySecond, AnyFirst}

module _ {terms : List ℕ} where
  -- o lends the last of the terms, where there is one; or the first
  pub second_told : (o : Option (Bor ℕ)) {r : Bool} → IsGetResult terms 0 (length terms - 1) o → MatchOption o (r ≡ false) (λ x. r ≡ in_second x.now) → AnySecond terms r
  second_told None g e = record { told = λ _. rw e (any_none _ (λ k a b. absurd (omega (arith, g.3)))) }
  second_told (Some x) g e =
      let z = g.4 (omega arith) 0 in
      record {
        told = λ s. e ∙ either (in_second x.now)
            (λ p. rw p (any_found _ (length terms) (omega (arith, g.3.0)) (rw z at p)))
            (λ p. rw p (any_none _ (λ k a b. let m = not_falling highest_term (λ t. t) terms s.placed (k - 1) (length terms - 1) (omega arith) (omega arith) in
            simp tests (omega flags))));
      }

  pub first_told : (o : Option (Bor ℕ)) {r : Bool} → IsGetResult terms 0 0 o → MatchOption o (r ≡ false) (λ x. r ≡ ltb x.now 32_768) → AnyFirst terms r
  first_told None g e = record { told = λ _. rw e (any_none _ (λ k a b. absurd (omega (arith, g.3)))) }
  first_told (Some x) g e =
      let z = g.4 (omega arith) 0 in
      record {
        told = λ s. e ∙ either (ltb x.now 32_768)
            (λ p. rw p (any_found _ 1 (omega (arith, g.3.0)) (simp tests (omega flags))))
            (λ p. rw p (any_none _ (λ k a b. let m = not_falling highest_term (λ t. t) terms s.placed 0 (k - 1) (omega arith) (omega arith) in
            simp tests (omega flags))));
      }
