-- What passes a test and what does not are all entries together, and so are what is kept and what is dropped.
use Prim.Native.Nat.{ℕ, zero, suc, ◌+◌, ◌-◌, ◌≤◌}
use mathlib.Core.Path.{◌≡◌, refl, ap}
use mathlib.Core.Bool.{Bool, not}
use mathlib.Core.List.{List, [], ◌∷◌, ◌++◌}
use native.Mathlib.Omega.{arith}
use lib.ListN.{length, take}
use lib.Seq.{take-suc, take-length}
use Rattle.laws.specs.Joined.{joined, picked}
use Rattle.laws.proofs.Cases.{either}
use Rattle.repair.specs.Kept.{keeps, kept, dropped}
use Rattle.repair.specs.Promises.{Interleaved, none, one, other}

-- one after another
append : {xs ys zs us vs ws : List ℕ} → Interleaved xs ys zs → Interleaved us vs ws → Interleaved (xs ++ us) (ys ++ vs) (zs ++ ws)
append none j = j
append (one q i) j = one q (append i j)
append (other q i) j = other q (append i j)

-- as many
pub interleaved_length : {xs ys zs : List ℕ} → Interleaved xs ys zs → length xs + length ys ≡ length zs
interleaved_length none = refl
interleaved_length (one q i) = omega (arith, interleaved_length i)
interleaved_length (other q i) = omega (arith, interleaved_length i)

-- nothing of the second
pub interleaved_none : {xs ys zs : List ℕ} → Interleaved xs ys zs → ys ≡ [] → xs ≡ zs
interleaved_none none e = refl
interleaved_none (one q i) e = ap (λ (t : List ℕ). q ∷ t) (interleaved_none i e)
interleaved_none (other q i) e = absurd (let n = ap length e in omega arith)

-- the first n entries
picked_interleaved : (f : ℕ → Bool) (l : List ℕ) (n : ℕ) → n ≤ length l → Interleaved (picked f l n) (picked (λ k. not (f k)) l n) (take n l)
unfolding joined
picked_interleaved f l zero u = none
picked_interleaved f l (suc n) u =
    let e : suc n - 1 ≡ n = omega arith in
    rw (take-suc l n 0) (append (picked_interleaved f l n (omega arith)) (rw e (either (f (suc n)) (λ p. rw p (one _ none)) (λ p. rw p (other _ none)))))

pub joined_interleaved : (f g h : ℕ → List ℕ) (n : ℕ) → ((k : ℕ) → 1 ≤ k → k ≤ n → Interleaved (f k) (g k) (h k)) → Interleaved (joined f n) (joined g n) (joined h n)
unfolding joined
joined_interleaved f g h zero i = none
joined_interleaved f g h (suc n) i = append (joined_interleaved f g h n (λ k a b. i k a (omega arith))) (i (suc n) (omega arith) (omega arith))

-- what is kept of a list and what is dropped of it
pub kept_interleaved : (last l : List ℕ) → Interleaved (kept last l) (dropped last l) l
kept_interleaved last l = rw (take-length l) at (picked_interleaved (keeps last l) l (length l) (omega arith))
