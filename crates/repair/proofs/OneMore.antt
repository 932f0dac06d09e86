-- One posting more at the end of a list whose devices do not fall: what is kept and dropped then.
use Prim.Native.Nat.{ℕ, zero, suc, ◌+◌, ◌*◌, ◌-◌, ◌≤◌, ◌<◌}
use mathlib.Core.Path.{◌≡◌, refl, sym, ap, ◌∙◌}
use mathlib.Core.Bool.{Bool, true, false, cond, not, ◌&&◌, ◌||◌, true≢false}
use mathlib.Core.List.{List, [], ◌∷◌, ◌++◌, append-nil, append_assoc}
use native.Mathlib.Omega.{arith}
use lib.Dec.{leb, ltb, eqb}
use lib.ListN.{length, take, replicate, length-append, replicate-append-replicate}
use lib.Seq.{take-suc, take-length, take-append_seam}
use borrow.Author.Tests.{eq-eqb, ne_eqb, eqb-true, eqb-false}
use Rattle.laws.specs.Joined.{joined, picked}
use Rattle.laws.specs.Search.{lowest}
use Rattle.laws.specs.Tables.{entry}
use Rattle.laws.proofs.Tests.{tests, flags, refuted, and_yes, and_no, not_yes}
use Rattle.laws.proofs.Cases.{by_order, either}
use Rattle.laws.proofs.Search.{none_any, any_found, any_none, lowest_is, Lowest, lowest_of}
use Rattle.laws.proofs.Joined.{some, some_append, some_one, entry_left, entry_end, joined_same, joined_empty, joined_split, chosen_each}
use Rattle.laws.specs.inner.Entries.{IsEntry}
use Rattle.index.specs.Postings.{device, shared, reach, shadowed, redundant}
use Rattle.repair.specs.Kept.{choice, keeps, drops, kept, dropped}
use Rattle.repair.specs.inner.Lists.{Held, Fit, furthest}
use Rattle.repair.specs.inner.Compaction.{stays, goes}
use Rattle.repair.proofs.Furthest.{furthest_covers, furthest_at}

-- ---- searches in a list with one entry more

abbrev more : List ℕ → ℕ → List ℕ
more l q = l ++ (q ∷ [])

some_more : (g : ℕ → Bool) (l : List ℕ) (q : ℕ) → some g (more l q) ≡ (some g l || g q)
some_more g l q = some_append g l (q ∷ []) ∙ rw (some_one g q)

longer : (l : List ℕ) (q : ℕ) → length (more l q) ≡ length l + 1
longer l q = length-append l (q ∷ [])

-- the first entry that passes is the same, or it is the new one
module _ (g : ℕ → Bool) (l : List ℕ) (q : ℕ) where
  first_left : some g l ≡ true → lowest (length (more l q)) (λ k. g (entry (more l q) k)) ≡ lowest (length l) (λ k. g (entry l k))
  first_left p =
      let L = lowest_of (λ k. g (entry l k)) (length l) p in
      let n = longer l q in
      let r = lowest (length l) (λ k. g (entry l k)) in
      lowest_is (λ k. g (entry (more l q) k)) (omega (arith, L.first, L.last)) (rw (entry_left l (q ∷ []) r L.first L.last) L.passes)
      (λ d a b. rw (entry_left l (q ∷ []) d a (omega (arith, L.last))) (L.least d a (omega arith)))

  first_right : some g l ≡ false → g q ≡ true → lowest (length (more l q)) (λ k. g (entry (more l q) k)) ≡ length l + 1
  first_right p e =
      let n = longer l q in
      lowest_is (λ k. g (entry (more l q) k)) (omega arith) (rw (entry_end l q) e)
      (λ d a b. rw (entry_left l (q ∷ []) d a (omega arith)) (none_any _ p d a (omega arith)))

and_off : (x : Bool) → (x && false) ≡ false
and_off true = refl
and_off false = refl

-- ---- the posting for a device

abbrev at : ℕ → ℕ → Bool
at d x = eqb (device x) d

abbrev both : ℕ → ℕ → Bool
both d x = eqb (device x) d && shared x

module _ (l : List ℕ) (q d : ℕ) where
  -- it is the same, where there was a shared one, or one, and the new one is no shared one of the device
  choice_left : some (both d) l ≡ true → choice (more l q) d ≡ choice l d
  choice_left p = rw (some_more (both d) l q, p) (first_left (both d) l q p)

  choice_same : some (at d) l ≡ true → both d q ≡ false → choice (more l q) d ≡ choice l d
  choice_same s p =
      either (some (both d) l) choice_left
      (λ e. rw (some_more (both d) l q, e, p) (first_left (at d) l q s))

  -- the new one is the first shared one, or the first
  choice_new : some (both d) l ≡ false → both d q ≡ true → choice (more l q) d ≡ length l + 1
  choice_new e p = rw (some_more (both d) l q, e, p) (first_right (both d) l q e p)

  choice_first : some (at d) l ≡ false → at d q ≡ true → choice (more l q) d ≡ length l + 1
  choice_first e p =
      let none : some (both d) l ≡ false = sym (any_none _ (λ k a b. (and_no (at d (entry l k)) _).1 (λ h. absurd (true≢false (sym h ∙ none_any _ e k a b))))) in
      either (both d q) (choice_new none)
      (λ h. rw (some_more (both d) l q, none, h) (first_right (at d) l q e p))

-- the one for a device of the list stands in it
choice_within : (l : List ℕ) (d : ℕ) → some (at d) l ≡ true → choice l d ≤ length l
choice_within l d s =
    either (some (both d) l)
    (λ e. rw e (lowest_of (λ k. both d (entry l k)) (length l) e).last)
    (λ e. rw e (lowest_of (λ k. at d (entry l k)) (length l) s).last)

-- ---- parts one after another, most of them alike

joined_first : (part : ℕ → List ℕ) (r : ℕ) → ((i : ℕ) → 2 ≤ i → i ≤ suc r → part i ≡ []) → joined part (suc r) ≡ part 1
unfolding joined
joined_first part zero h = refl
joined_first part (suc r) h = rw (joined_first part r (λ i a b. h i a (omega arith)), h (suc (suc r)) (omega arith) (omega arith), append-nil)

joined_each : (part : ℕ → List ℕ) (v r : ℕ) → ((i : ℕ) → 1 ≤ i → i ≤ r → part i ≡ v ∷ []) → joined part r ≡ replicate r v
unfolding joined
joined_each part v zero h = refl
joined_each part v (suc r) h =
    let z : r + 1 ≡ suc r = omega arith in
    rw (joined_each part v r (λ i a b. h i a (omega arith)), h (suc r) (omega arith) (omega arith)) (replicate-append-replicate {A = ℕ} r 1 v ∙ rw z)

-- a list before its last entry, and that entry
front_last : (ks : List ℕ) → 1 ≤ length ks → ks ≡ take (length ks - 1) ks ++ (entry ks (length ks) ∷ [])
front_last ks n =
    let z : suc (length ks - 1) ≡ length ks = omega arith in
    sym (take-length ks) ∙ ap (λ (m : ℕ). take m ks) (sym z) ∙ take-suc ks (length ks - 1) 0 (omega arith)

last_of : (front : List ℕ) (x : ℕ) {ks : List ℕ} → ks ≡ front ++ (x ∷ []) → (take (length ks - 1) ks ≡ front) × (entry ks (length ks) ≡ x)
last_of front x {ks} e =
    let n : length ks ≡ length front + 1 = ap length e ∙ length-append front (x ∷ []) in
    let z : length front + 1 - 1 ≡ length front = omega arith in
    (rw (n, z, e) (take-append_seam front (x ∷ [])), rw (n, e) (entry_end front x))

-- two numbers that are equal where the one passes the test
stays_held : (held q x : ℕ) → (held ≡ x → held ≡ q) → (cond (eqb held x) q held ≡ held) × (cond (eqb held x) held q ≡ q)
stays_held held q x h = either (eqb held x) (λ p. let e = h (eqb-true held x p) in rw p (sym e, e)) (λ p. rw p (refl, refl))

-- a private posting is twice its device
private_is : (x d : ℕ) → device x ≡ d → shared x ≡ false → x ≡ d * 2
private_is x d e s = let z = simp tests at s in omega arith

-- ---- which postings stay

module _ (last : List ℕ) (H : Held last) (l : List ℕ) (q : ℕ) (F : Fit (length last) (more l q)) where
  old : (k : ℕ) → 1 ≤ k → k ≤ length l → entry (more l q) k ≡ entry l k
  old k a b = entry_left l (q ∷ []) k a b

  -- no device of the list is above the new one
  below : (k : ℕ) → 1 ≤ k → k ≤ length l → device (entry l k) ≤ device q
  below k a b =
      let n = longer l q in
      rw (old k a b, entry_end l q) at (F.sorted k (length l + 1) a (omega arith) (omega arith))

  in_plant : (k : ℕ) → 1 ≤ k → k ≤ length l → IsEntry last (device (entry l k))
  in_plant k a b =
      let n = longer l q in
      record { first = rw (old k a b) at (F.first k a (omega arith)); last = rw (old k a b) at (F.last k a (omega arith)) }

  -- a posting reaches its device
  own : (k : ℕ) → 1 ≤ k → k ≤ length l → device (entry l k) ≤ reach last (entry l k)
  own k a b =
      let o = H.held (device (entry l k)) (in_plant k a b) in
      either (shared (entry l k)) (λ s. rw s o) (λ s. rw s (omega arith))

  found : (k : ℕ) → 1 ≤ k → k ≤ length l → (d : ℕ) → device (entry l k) ≡ d → some (at d) l ≡ true
  found k a b d e = sym (any_found (λ k. at d (entry l k)) k (a, b) (eq-eqb _ _ e))

  -- the new posting makes none redundant
  shadowed_more : (e : ℕ) → e ≤ device q → shadowed last (more l q) e ≡ shadowed last l e
  shadowed_more e u =
      let g : ℕ → Bool = λ x. shared x && ltb (device x) e && leb e (entry last (device x)) in
      let z : g q ≡ false = simp tests (λ h. absurd (omega arith)) in
      some_more g l q ∙ either (some g l) (λ p. rw p) (λ p. rw (p, z))

  redundant_old : (k : ℕ) → 1 ≤ k → k ≤ length l → redundant last (more l q) k ≡ redundant last l k
  redundant_old k a b = rw (old k a b) (shadowed_more (device (entry l k)) (below k a b))

  -- an old one stays as before where the one for its device is the same, or it is redundant
  keeps_same : (k : ℕ) → 1 ≤ k → k ≤ length l → choice (more l q) (device (entry l k)) ≡ choice l (device (entry l k)) → keeps last (more l q) k ≡ keeps last l k
  keeps_same k a b e = rw (redundant_old k a b, old k a b, e)

  keeps_redundant : (k : ℕ) → 1 ≤ k → k ≤ length l → redundant last l k ≡ true → keeps last (more l q) k ≡ keeps last l k
  keeps_redundant k a b e =
      rw (redundant_old k a b, e) (and_off (eqb k (choice (more l q) (device (entry (more l q) k)))) ∙ sym (and_off (eqb k (choice l (device (entry l k))))))

  -- where it is of another device, or of the device and the one for it is the same
  keeps_old : (k : ℕ) → 1 ≤ k → k ≤ length l → both (device (entry l k)) q ≡ false → keeps last (more l q) k ≡ keeps last l k
  keeps_old k a b p = keeps_same k a b (choice_same l q (device (entry l k)) (found k a b _ refl) p)

  -- the new one
  new : entry (more l q) (length l + 1) ≡ q
  new = entry_end l q

  keeps_new : choice (more l q) (device q) ≡ length l + 1 → shadowed last l (device q) ≡ false → keeps last (more l q) (length l + 1) ≡ true
  keeps_new e p = rw (new, e, shadowed_more (device q) (omega arith), p) (rw (eq-eqb (length l + 1) (length l + 1) refl))

  drops_new : (choice (more l q) (device q) ≡ length l + 1 → shadowed last l (device q) ≡ true) → keeps last (more l q) (length l + 1) ≡ false
  drops_new h =
      rw (new, shadowed_more (device q) (omega arith))
      ((and_no (eqb (length l + 1) (choice (more l q) (device q))) _).1 (λ t. let e = h (sym (eqb-true _ _ t)) in rw e))

  -- ---- both parts, by which old ones stay and whether the new one does

  picked_end : (f : ℕ → Bool) → picked f (more l q) (length (more l q)) ≡ picked f (more l q) (length l) ++ cond (f (length l + 1)) (q ∷ []) []
  unfolding joined
  picked_end f =
      let n : length (more l q) ≡ suc (length l) = longer l q ∙ omega arith in
      let z : suc (length l) ≡ length l + 1 = omega arith in
      rw (n, joined, z, new)

  picked_old : (f g : ℕ → Bool) → ((k : ℕ) → 1 ≤ k → k ≤ length l → f k ≡ g k) → picked f (more l q) (length l) ≡ picked g l (length l)
  picked_old f g h = joined_same _ _ (length l) (λ k a b. rw (h k a b, old k a b))

  -- all old ones stay as before
  module _ (same : (k : ℕ) → 1 ≤ k → k ≤ length l → keeps last (more l q) k ≡ keeps last l k) where
    stays_too : keeps last (more l q) (length l + 1) ≡ true → (kept last (more l q) ≡ kept last l ++ (q ∷ [])) × (dropped last (more l q) ≡ dropped last l)
    stays_too e = (
      picked_end (keeps last (more l q)) ∙ rw (e, picked_old (keeps last (more l q)) (keeps last l) same),
      picked_end (drops last (more l q)) ∙ rw (e, picked_old (drops last (more l q)) (drops last l) (λ k a b. rw (same k a b)), append-nil),
    )

    drops_too : keeps last (more l q) (length l + 1) ≡ false → (kept last (more l q) ≡ kept last l) × (dropped last (more l q) ≡ dropped last l ++ (q ∷ []))
    drops_too e = (
      picked_end (keeps last (more l q)) ∙ rw (e, picked_old (keeps last (more l q)) (keeps last l) same, append-nil),
      picked_end (drops last (more l q)) ∙ rw (e, picked_old (drops last (more l q)) (drops last l) (λ k a b. rw (same k a b))),
    )

  -- ---- a posting that none before it reaches

  pub fresh : furthest last l < device q → (kept last (more l q) ≡ kept last l ++ (q ∷ [])) × (dropped last (more l q) ≡ dropped last l)
  fresh u =
      let apart : (k : ℕ) → 1 ≤ k → k ≤ length l → device (entry l k) ≡ device q → ⊥ = λ k a b e. omega (arith, own k a b, furthest_covers last l k a b) in
      stays_too (λ k a b. keeps_old k a b (simp tests (λ e. absurd (apart k a b (sym e)))))
      (keeps_new (choice_first l q (device q) (sym (any_none _ (λ k a b. ne_eqb _ _ (apart k a b)))) (eq-eqb (device q) (device q) refl))
      (sym (any_none _ (λ k a b. refuted _ (λ t.
      let v = simp tests at t in
      let s : shared (entry l k) ≡ true = simp tests (omega flags) in
      let c = rw s at (furthest_covers last l k a b) in
      omega (flags, v))))))

  -- ---- a posting that one before it reaches

  first_device : 1 ≤ device q
  first_device = let n = longer l q in rw new at (F.first (length l + 1) (omega arith) (omega arith))

  -- where it is not redundant, one of its device stands before it
  stood : device q ≤ furthest last l → shadowed last l (device q) ≡ false → some (at (device q)) l ≡ true
  stood u p =
      let d = first_device in
      let f = furthest_at last l (omega arith) in
      let k = f.0 in
      let b = below k f.1 f.2 in
      by_order (device (entry l k)) (device q)
      (λ v. either (shared (entry l k))
      (λ s. let r : furthest last l ≡ entry last (device (entry l k)) = rw s at f.3 in
      absurd (true≢false (any_found _ k (f.1, f.2) (simp tests (omega flags)) ∙ p)))
      (λ s. let r : furthest last l ≡ device (entry l k) = rw s at f.3 in absurd (omega arith)))
      (λ v. found k f.1 f.2 (device q) (omega arith))

  other_device : (k : ℕ) → eqb (device (entry l k)) (device q) ≡ false → both (device (entry l k)) q ≡ false
  other_device k e = let n : device (entry l k) ≡ device q → ⊥ = eqb-false _ _ e in simp tests (λ z. absurd (n (sym z)))

  abbrev Gone : Type 0
  Gone = (kept last (more l q) ≡ kept last l) × (dropped last (more l q) ≡ dropped last l ++ (q ∷ []))

  -- it is redundant
  gone_redundant : shadowed last l (device q) ≡ true → Gone
  gone_redundant p =
      drops_too (λ k a b. either (eqb (device (entry l k)) (device q))
      (λ e. let z : device (entry l k) ≡ device q = eqb-true _ _ e in keeps_redundant k a b (rw z p))
      (λ e. keeps_old k a b (other_device k e)))
      (drops_new (λ _. p))

  -- the one for its device stands before it
  gone_stood : some (at (device q)) l ≡ true → choice (more l q) (device q) ≡ choice l (device q) → Gone
  gone_stood s c =
      drops_too (λ k a b. either (eqb (device (entry l k)) (device q))
      (λ e. let z : device (entry l k) ≡ device q = eqb-true _ _ e in keeps_same k a b (rw z c))
      (λ e. keeps_old k a b (other_device k e)))
      (drops_new (λ e. let w = choice_within l (device q) s in absurd (omega arith)))

  -- ---- a shared one takes the place of a private one

  module _ (apart : shadowed last l (device q) ≡ false) (stands : some (at (device q)) l ≡ true) (none : some (both (device q)) l ≡ false) (s : shared q ≡ true) where
    -- the first of the device
    abbrev f : ℕ
    f = lowest (length l) (λ k. at (device q) (entry l k))

    L : Lowest (λ k. at (device q) (entry l k)) (length l) f
    L = lowest_of (λ k. at (device q) (entry l k)) (length l) stands

    was : choice l (device q) ≡ f
    was = rw none

    now : choice (more l q) (device q) ≡ length l + 1
    now = choice_new l q (device q) none (rw s (rw (eq-eqb (device q) (device q) refl)))

    -- from it on all are of the device, and private
    from : (k : ℕ) → f ≤ k → k ≤ length l → device (entry l k) ≡ device q
    from k a b =
        let n = longer l q in
        let p = L.first in
        let e : device (entry l f) ≡ device q = eqb-true _ _ L.passes in
        let o = rw (old f p L.last, old k (omega arith) b) at (F.sorted f k p a (omega arith)) in
        omega (arith, below k (omega arith) b)

    twice : (k : ℕ) → f ≤ k → k ≤ length l → entry l k ≡ device q * 2
    twice k a b =
        let p = L.first in
        let e = from k a b in
        private_is (entry l k) (device q) e (refuted _ (λ t. true≢false (sym (rw t (rw (eq-eqb _ _ e))) ∙ none_any _ none k (omega arith) b)))

    -- which stay, before and after
    stay_before : keeps last l f ≡ true
    stay_before = rw (from f (omega arith) L.last, was, apart) (rw (eq-eqb f f refl))

    go_before : (k : ℕ) → f < k → k ≤ length l → keeps last l k ≡ false
    go_before k a b = rw (from k (omega arith) b, was, ne_eqb k f (omega arith))

    go_after : (k : ℕ) → f ≤ k → k ≤ length l → keeps last (more l q) k ≡ false
    go_after k a b = let p = L.first in rw (old k (omega arith) b, from k a b, now, ne_eqb k (length l + 1) (omega arith))

    same_before : (k : ℕ) → 1 ≤ k → k ≤ f - 1 → keeps last (more l q) k ≡ keeps last l k
    same_before k a b = let p = L.first in let m = L.last in keeps_old k a (omega arith) (other_device k (L.least k a (omega arith)))

    abbrev front : List ℕ
    front = picked (keeps last l) l (f - 1)

    abbrev r : ℕ
    r = length l - f

    size_is : length l ≡ f - 1 + suc r
    size_is = let a = L.first in let b = L.last in omega arith

    at_least : (i : ℕ) → 1 ≤ i → i ≤ suc r → (f ≤ f - 1 + i) × (f - 1 + i ≤ length l)
    at_least i a b = let c = L.first in let d = L.last in (omega arith, omega arith)

    first_index : f - 1 + 1 ≡ f
    first_index = let a = L.first in omega arith

    kept_before : kept last l ≡ front ++ (device q * 2 ∷ [])
    kept_before =
        ap (picked (keeps last l) l) size_is
        ∙ joined_split (λ k. cond (keeps last l k) (entry l k ∷ []) []) (f - 1) (suc r)
        ∙ ap (λ (t : List ℕ). front ++ t)
        (joined_first (λ i. cond (keeps last l (f - 1 + i)) (entry l (f - 1 + i) ∷ []) []) r (λ i a b. rw (go_before (f - 1 + i) (omega (arith, L.first)) (at_least i (omega arith) b).1))
        ∙ rw (first_index, stay_before, twice f (omega arith) L.last))

    kept_after : kept last (more l q) ≡ front ++ (q ∷ [])
    kept_after =
        let m = L.first in
        let e : picked (keeps last (more l q)) (more l q) (length l) ≡ front =
        ap (picked (keeps last (more l q)) (more l q)) size_is
        ∙ joined_split (λ k. cond (keeps last (more l q) k) (entry (more l q) k ∷ []) []) (f - 1) (suc r)
        ∙ rw (
          joined_empty (λ i. cond (keeps last (more l q) (f - 1 + i)) (entry (more l q) (f - 1 + i) ∷ []) []) (suc r)
              (λ i a b. let g = at_least i a b in rw (go_after (f - 1 + i) g.0 g.1)),
          append-nil,
        )
        (joined_same _ _ (f - 1) (λ k a b. rw (same_before k a b, old k a (omega (arith, L.last))))) in
        picked_end (keeps last (more l q)) ∙ rw (e, keeps_new now apart)

    -- of those that go, before and after, the ones from the first on are alike
    abbrev left_out : List ℕ
    left_out = picked (drops last l) l (f - 1)

    dropped_before : dropped last l ≡ left_out ++ replicate r (device q * 2)
    dropped_before =
        let m = L.first in
        let one_more : 1 + r ≡ suc r = omega arith in
        let part : ℕ → List ℕ = λ i. cond (drops last l (f - 1 + i)) (entry l (f - 1 + i) ∷ []) [] in
        ap (picked (drops last l) l) size_is
        ∙ joined_split (λ k. cond (drops last l k) (entry l k ∷ []) []) (f - 1) (suc r)
        ∙ ap (λ (t : List ℕ). left_out ++ t)
        (ap (joined part) (sym one_more) ∙ joined_split part 1 r
        ∙ rw (
          joined_empty part 1 (λ i a b. let z : f - 1 + i ≡ f = omega arith in rw (z, stay_before)),
          joined_each (λ i. part (1 + i)) (device q * 2) r (λ i a b.
              let g = at_least (1 + i) (omega arith) (omega arith) in
              rw (go_before (f - 1 + (1 + i)) (omega arith) g.1, twice (f - 1 + (1 + i)) g.0 g.1)),
        ))

    dropped_after : dropped last (more l q) ≡ dropped last l ++ (device q * 2 ∷ [])
    dropped_after =
        let m = L.first in
        let part : ℕ → List ℕ = λ i. cond (drops last (more l q) (f - 1 + i)) (entry (more l q) (f - 1 + i) ∷ []) [] in
        let e : picked (drops last (more l q)) (more l q) (length l) ≡ left_out ++ replicate (suc r) (device q * 2) =
        ap (picked (drops last (more l q)) (more l q)) size_is
        ∙ joined_split (λ k. cond (drops last (more l q) k) (entry (more l q) k ∷ []) []) (f - 1) (suc r)
        ∙ rw (
          joined_each part (device q * 2) (suc r) (λ i a b.
              let g = at_least i a b in
              rw (go_after (f - 1 + i) g.0 g.1, old (f - 1 + i) (omega arith) g.1, twice (f - 1 + i) g.0 g.1)),
          joined_same (λ k. cond (drops last (more l q) k) (entry (more l q) k ∷ []) []) (λ k. cond (drops last l k) (entry l k ∷ []) []) (f - 1)
              (λ k a b. rw (same_before k a b, old k a (omega (arith, L.last)))),
        ) in
        let z : r + 1 ≡ suc r = omega arith in
        picked_end (drops last (more l q))
        ∙ rw (e, keeps_new now apart, append-nil, dropped_before, append_assoc left_out (replicate r (device q * 2)) (device q * 2 ∷ []))
        (ap (λ (t : List ℕ). left_out ++ t) (sym (replicate-append-replicate {A = ℕ} r 1 (device q * 2) ∙ rw z)))

  -- ---- both cases in one: the posting kept last, and the new one

  abbrev held : ℕ
  held = entry (kept last l) (length (kept last l))

  -- a private posting that is kept stands for a device that is not shadowed and has no shared one
  Lone : ℕ → Type 0
  Lone x = device x ≡ device q → shared x ≡ false → (shadowed last l (device q) ≡ false) × (some (both (device q)) l ≡ false)

  lone : (k : ℕ) → 1 ≤ k → k ≤ length l → keeps last l k ≡ true → Lone (entry l k)
  unfolding Lone
  lone k a b p e s =
      let h = (and_yes (eqb k (choice l (device (entry l k)))) (not (redundant last l k))).0 p in
      let c : k ≡ choice l (device q) = eqb-true _ _ h.0 ∙ ap (choice l) e in (
        rw e at ((not_yes (redundant last l k)).0 h.1),
        refuted _ (λ t.
            let L = lowest_of (λ k. both (device q) (entry l k)) (length l) t in
            let z : k ≡ lowest (length l) (λ k. both (device q) (entry l k)) = rw t at c in
            let y : both (device q) (entry l k) ≡ true = rw z L.passes in
            true≢false (sym ((and_yes (at (device q) (entry l k)) (shared (entry l k))).0 y).1 ∙ s)),
      )

  held_lone : 1 ≤ length (kept last l) → held ≡ device q * 2 → (shadowed last l (device q) ≡ false) × (some (both (device q)) l ≡ false)
  unfolding Lone
  held_lone n e =
      let h = chosen_each (keeps last l) (entry l) Lone (length l) lone (length (kept last l)) n (omega arith) in
      h (omega arith) (simp tests (omega arith))

  -- where the new one goes, and is the same as the last if that is private and of its device
  by_values : Gone → 1 ≤ length (kept last l) → (held ≡ device q * 2 → held ≡ q)
      → (kept last (more l q) ≡ take (length (kept last l) - 1) (kept last l) ++ (stays held q ∷ [])) × (dropped last (more l q) ≡ dropped last l ++ (goes held q ∷ []))
  by_values g n same =
      let v = stays_held held q (device q * 2) same in
      (g.0 ∙ front_last (kept last l) n ∙ rw v.0, g.1 ∙ rw v.1)

  pub covered : device q ≤ furthest last l → 1 ≤ length (kept last l)
      → (kept last (more l q) ≡ take (length (kept last l) - 1) (kept last l) ++ (stays held q ∷ [])) × (dropped last (more l q) ≡ dropped last l ++ (goes held q ∷ []))
  covered u n =
      either (shadowed last l (device q))
      (λ p. by_values (gone_redundant p) n (λ e. absurd (true≢false (sym p ∙ (held_lone n e).0))))
      (λ p.
      let st = stood u p in
      either (shared q)
      (λ s. either (some (both (device q)) l)
      (λ t. by_values (gone_stood st (choice_left l q (device q) t)) n (λ e. absurd (true≢false (sym t ∙ (held_lone n e).1))))
      (λ t.
      let w = last_of (front p st t s) (device q * 2) (kept_before p st t s) in
      let e = eq-eqb held (device q * 2) w.1 in
      (kept_after p st t s ∙ rw (e, w.0), dropped_after p st t s ∙ rw (e, w.1))))
      (λ s. by_values (gone_stood st (choice_same l q (device q) st ((and_no (at (device q) q) (shared q)).1 (λ _. s)))) n (λ e. e ∙ sym (private_is q (device q) refl s))))
