-- Laws of lists put together from numbered parts, of tables made by their numbers, and of values chosen by a test.
use Prim.Native.Nat.{ℕ, zero, suc, ◌+◌, ◌-◌, ◌≤◌, ◌<◌}
use mathlib.Core.Path.{◌≡◌, refl, sym, ◌∙◌, ap}
use mathlib.Core.Bool.{Bool, true, false, cond, ◌||◌, ◌&&◌, or_assoc, or-false}
use mathlib.Core.List.{List, [], ◌∷◌, ◌++◌, append-nil, append_assoc}
use native.Mathlib.Omega.{arith}
use native.Mathlib.Numerals.{add-one}
use lib.ListN.{length, get_or, length-append, get_or-append}
use lib.Seq.{slice, get_or_at, get_or-append-add, take-append_seam, drop-append_seam}
use Rattle.laws.specs.Search.{any}
use Rattle.laws.specs.Tables.{entry}
use Rattle.laws.specs.Joined.{joined, tabled, chosen}
use Rattle.laws.proofs.Cases.{by_order, split_cond}

-- ---- searches over numbers in two parts, and by tests that agree

pub any_same : (f g : ℕ → Bool) (n : ℕ) → ((d : ℕ) → 1 ≤ d → d ≤ n → f d ≡ g d) → any n f ≡ any n g
unfolding any
any_same f g zero h = refl
any_same f g (suc n) h = rw (any_same f g n (λ d a b. h d a (omega arith)), h (suc n) (omega arith) (omega arith))

any_split : (f : ℕ → Bool) (m n : ℕ) → any (m + n) f ≡ (any m f || any n (λ i. f (m + i)))
unfolding any
any_split f m zero = let e : m + 0 ≡ m = omega arith in rw e (sym (or-false (any m f)))
any_split f m (suc n) =
    let e : m + suc n ≡ suc (m + n) = omega arith in
    rw e (rw (any_split f m n) (or_assoc (any m f) (any n (λ i. f (m + i))) (f (suc (m + n)))))

-- ---- the entries of two lists, one after the other

pub entry_left : (xs ys : List ℕ) (k : ℕ) → 1 ≤ k → k ≤ length xs → entry (xs ++ ys) k ≡ entry xs k
entry_left xs ys k a b = get_or-append xs ys 0 (k - 1) (omega arith)

entry_right : (xs ys : List ℕ) (k : ℕ) → 1 ≤ k → entry (xs ++ ys) (length xs + k) ≡ entry ys k
entry_right xs ys k a = let e : length xs + k - 1 ≡ length xs + (k - 1) = omega arith in rw e (get_or-append-add xs ys (k - 1) 0)

pub entry_end : (xs : List ℕ) (q : ℕ) → entry (xs ++ (q ∷ [])) (length xs + 1) ≡ q
entry_end xs q = entry_right xs (q ∷ []) 1 (omega arith)

-- whether an entry passes a test
abbrev pub some : (ℕ → Bool) → List ℕ → Bool
some f l = any (length l) (λ k. f (entry l k))

pub some_append : (f : ℕ → Bool) (xs ys : List ℕ) → some f (xs ++ ys) ≡ (some f xs || some f ys)
some_append f xs ys =
    rw (length-append xs ys, any_split (λ k. f (entry (xs ++ ys) k)) (length xs) (length ys))
    (rw (
      any_same (λ k. f (entry (xs ++ ys) k)) (λ k. f (entry xs k)) (length xs) (λ k a b. rw (entry_left xs ys k a b)),
      any_same (λ k. f (entry (xs ++ ys) (length xs + k))) (λ k. f (entry ys k)) (length ys) (λ k a b. rw (entry_right xs ys k a)),
    ))

pub some_one : (f : ℕ → Bool) (q : ℕ) → some f (q ∷ []) ≡ f q
unfolding any
some_one f q = refl

pub some_cons : (f : ℕ → Bool) (q : ℕ) (qs : List ℕ) → some f (q ∷ qs) ≡ (f q || some f qs)
some_cons f q qs = some_append f (q ∷ []) qs ∙ rw (some_one f q)

-- ---- parts, one after another

module _ (part : ℕ → List ℕ) where
  pub joined_none : joined part 0 ≡ []
  unfolding joined
  joined_none = refl

  pub joined_next : (k : ℕ) → joined part (k + 1) ≡ joined part k ++ part (k + 1)
  unfolding joined
  joined_next k = rw (add-one k)

  pub joined_last : (k : ℕ) → 1 ≤ k → joined part k ≡ joined part (k - 1) ++ part k
  joined_last k a = let e : k - 1 + 1 ≡ k = omega arith in rw e at (joined_next (k - 1))

  pub some_joined : (f : ℕ → Bool) (n : ℕ) → some f (joined part n) ≡ any n (λ k. some f (part k))
  unfolding joined any
  some_joined f zero = refl
  some_joined f (suc n) = some_append f (joined part n) (part (suc n)) ∙ rw (some_joined f n)

-- the first parts are at the front
pub joined_split : (part : ℕ → List ℕ) (k m : ℕ) → joined part (k + m) ≡ joined part k ++ joined (λ j. part (k + j)) m
unfolding joined
joined_split part k zero = let e : k + 0 ≡ k = omega arith in rw (e, append-nil)
joined_split part k (suc m) =
    let e : k + suc m ≡ suc (k + m) = omega arith in
    rw (e, joined_split part k m, append_assoc)

module _ (part : ℕ → List ℕ) where
  pub joined_upto : (k n : ℕ) → k ≤ n → joined part n ≡ joined part k ++ joined (λ j. part (k + j)) (n - k)
  joined_upto k n u = let e : n ≡ k + (n - k) = omega arith in ap (joined part) e ∙ joined_split part k (n - k)

  pub joined_longer : (k n : ℕ) → k ≤ n → length (joined part k) ≤ length (joined part n)
  joined_longer k n u = rw (joined_upto k n u) (simp length-append (omega arith))

  -- part k stands between the ends of the parts before it and its own
  pub joined_part : (n k : ℕ) → 1 ≤ k → k ≤ n → slice (length (joined part (k - 1))) (length (joined part k)) (joined part n) ≡ part k
  joined_part n k a b =
      rw (joined_upto k n b, take-append_seam (joined part k)) (rw (joined_last part k a) (drop-append_seam (joined part (k - 1)) (part k)))

  -- empty parts add nothing
  pub joined_still : (k n : ℕ) → k ≤ n → ((j : ℕ) → k < j → j ≤ n → part j ≡ []) → joined part n ≡ joined part k
  unfolding joined
  joined_still k zero u h = let e : k ≡ 0 = omega arith in rw e
  joined_still k (suc n) u h =
      by_order k (suc n)
      (λ v. rw (h (suc n) v (omega arith), append-nil (joined part n)) (joined_still k n (omega arith) (λ j a b. h j a (omega arith))))
      (λ v. let e : k ≡ suc n = omega arith in rw e)

  pub joined_empty : (n : ℕ) → ((k : ℕ) → 1 ≤ k → k ≤ n → part k ≡ []) → joined part n ≡ []
  joined_empty n h = joined_still 0 n (omega arith) h ∙ joined_none part

-- parts that are equal, one by one
pub joined_same : (f g : ℕ → List ℕ) (n : ℕ) → ((k : ℕ) → 1 ≤ k → k ≤ n → f k ≡ g k) → joined f n ≡ joined g n
unfolding joined
joined_same f g zero h = refl
joined_same f g (suc n) h = rw (joined_same f g n (λ k a b. h k a (omega arith)), h (suc n) (omega arith) (omega arith))

-- ---- tables

module _ (value : ℕ → ℕ) where
  pub length_tabled : (n : ℕ) → length (tabled value n) ≡ n
  unfolding joined
  length_tabled zero = refl
  length_tabled (suc n) = simp length-append (omega (arith, length_tabled n))

  pub tabled_at : (n i d : ℕ) → i < n → get_or (tabled value n) i d ≡ value (i + 1)
  unfolding joined
  tabled_at zero i d u = absurd (omega arith)
  tabled_at (suc n) i d u =
      let w = length_tabled n in
      by_order i n
      (λ v. get_or-append (tabled value n) (value (suc n) ∷ []) d i (omega arith) ∙ tabled_at n i d v)
      (λ v. let e : i ≡ n = omega arith in let g : n + 1 ≡ suc n = omega arith in rw (e, g) (get_or_at (tabled value n) (value (suc n)) [] d n w))

-- ---- chosen values

some_cond : (f : ℕ → Bool) (p : Bool) (q : ℕ) → some f (cond p (q ∷ []) []) ≡ (p && f q)
unfolding any
some_cond f true q = refl
some_cond f false q = refl

module _ (f : ℕ → Bool) (value : ℕ → ℕ) where
  chosen_less : (n : ℕ) → f (suc n) ≡ false → chosen f value (suc n) ≡ chosen f value n
  unfolding joined
  chosen_less n p = rw (p, append-nil)

  -- a search over them
  pub some_chosen : (g : ℕ → Bool) (n : ℕ) → some g (chosen f value n) ≡ any n (λ k. f k && g (value k))
  some_chosen g n = some_joined (λ k. cond (f k) (value k ∷ []) []) g n ∙ any_same _ _ n (λ k a b. some_cond g (f k) (value k))

  -- none passes
  pub chosen_none : (n : ℕ) → ((k : ℕ) → 1 ≤ k → k ≤ n → f k ≡ false) → chosen f value n ≡ []
  unfolding joined
  chosen_none zero h = refl
  chosen_none (suc n) h = rw (chosen_less n (h (suc n) (omega arith) (omega arith)), chosen_none n (λ k a b. h k a (omega arith)))

  -- what holds of the value of each number that passes, holds of each entry
  pub chosen_each : (Q : ℕ → Type 0) (n : ℕ) → ((k : ℕ) → 1 ≤ k → k ≤ n → f k ≡ true → Q (value k))
      → (j : ℕ) → 1 ≤ j → j ≤ length (chosen f value n) → Q (entry (chosen f value n) j)
  unfolding joined
  chosen_each Q zero h j a b = absurd (omega arith)
  chosen_each Q (suc n) h j a b =
      let xs = chosen f value n in
      let before : (k : ℕ) → 1 ≤ k → k ≤ length xs → Q (entry xs k) = chosen_each Q n (λ k c d. h k c (omega arith)) in
      split_cond (λ t. j ≤ length (xs ++ t) → Q (entry (xs ++ t) j)) (f (suc n))
      (λ p u. let m = simp length-append at u in
      by_order j (length xs + 1) (λ v. rw (entry_left xs (value (suc n) ∷ []) j a (omega arith)) (before j a (omega arith)))
      (λ v. let e : j ≡ length xs + 1 = omega arith in rw (e, entry_end xs (value (suc n))) (h (suc n) (omega arith) (omega arith) p)))
      (λ p u. let m = simp append-nil at u in rw append-nil (before j a m)) b

  -- and of each two that pass, of each two entries
  pub chosen_pairs : (R : ℕ → ℕ → Type 0) (n : ℕ) → ((i k : ℕ) → 1 ≤ i → i < k → k ≤ n → f i ≡ true → f k ≡ true → R (value i) (value k))
      → (i j : ℕ) → 1 ≤ i → i < j → j ≤ length (chosen f value n) → R (entry (chosen f value n) i) (entry (chosen f value n) j)
  unfolding joined
  chosen_pairs R zero h i j a c b = absurd (omega arith)
  chosen_pairs R (suc n) h i j a c b =
      let xs = chosen f value n in
      let before : (i k : ℕ) → 1 ≤ i → i < k → k ≤ length xs → R (entry xs i) (entry xs k) = chosen_pairs R n (λ i k c d e. h i k c d (omega arith)) in
      split_cond (λ t. j ≤ length (xs ++ t) → R (entry (xs ++ t) i) (entry (xs ++ t) j)) (f (suc n))
      (λ p u. let m = simp length-append at u in
      rw (entry_left xs (value (suc n) ∷ []) i a (omega arith))
      (by_order j (length xs + 1) (λ v. rw (entry_left xs (value (suc n) ∷ []) j (omega arith) (omega arith)) (before i j a c (omega arith)))
      (λ v. let e : j ≡ length xs + 1 = omega arith in rw (e, entry_end xs (value (suc n)))
      (chosen_each (λ q. R q (value (suc n))) n (λ k d e q. h k (suc n) d (omega arith) (omega arith) q p) i a (omega arith)))))
      (λ p u. let m = simp append-nil at u in rw append-nil (before i j a c m)) b
