-- What stands at the front of a list, before the first entry of a kind: `until` of specs/Front.antt, from an index on.
use Prim.Native.Nat.{ℕ, suc, ◌+◌, ◌≤◌, ◌<◌}
use mathlib.Core.Path.{◌≡◌}
use mathlib.Core.Bool.{Bool, true, false}
use mathlib.Core.List.{List, [], ◌∷◌}
use native.Mathlib.Omega.{arith}
use native.Mathlib.Numerals.{add-one}
use lib.ListN.{length, get_or, drop, drop_of_length-le}
use lib.Seq.{drop-cons}
use Rattle.laws.specs.Front.{until}
use Rattle.laws.proofs.Cases.{split}

module _ (test : ℕ → Bool) where
  pub until_within : (l : List ℕ) → until test l ≤ length l
  unfolding until
  until_within [] = omega arith
  until_within (x ∷ xs) = split (λ n. n ≤ suc (length xs)) (test x) (λ e. omega arith) (λ e. omega (arith, until_within xs))

  module _ (l : List ℕ) (i : ℕ) where
    -- the entry at index i passes
    pub until_here : i < length l → test (get_or l i 0) ≡ true → until test (drop i l) ≡ 0
    unfolding until
    until_here h e = rw (drop-cons l i 0 h, until, e)

    -- it fails
    pub until_next : i < length l → test (get_or l i 0) ≡ false → until test (drop i l) ≡ suc (until test (drop (i + 1) l))
    unfolding until
    until_next h e = rw (add-one, drop-cons l i 0 h, until, e)

    -- there is none
    pub until_end : length l ≤ i → until test (drop i l) ≡ 0
    unfolding until
    until_end h = rw (drop_of_length-le l {i = i} h)
