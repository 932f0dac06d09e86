-- Laws of what a repair keeps of a list: it carries to the same devices, its devices rise and none is redundant; a sound list stays as it is.
use Prim.Native.Nat.{ℕ, ◌≤◌, ◌<◌}
use mathlib.Core.Path.{◌≡◌, refl, sym, ap, ◌∙◌}
use mathlib.Core.Bool.{Bool, true, false, not, ◌&&◌, true≢false}
use mathlib.Core.List.{List, []}
use native.Mathlib.Omega.{arith}
use lib.Dec.{leb, ltb, eqb}
use lib.ListN.{length}
use borrow.Author.Tests.{eq-eqb, eqb-true}
use Rattle.laws.specs.Search.{any}
use Rattle.laws.specs.Tables.{entry}
use Rattle.laws.proofs.Tests.{tests, flags, agree, refuted, and_yes, and_no, not_yes, not_no}
use Rattle.laws.proofs.Cases.{by_order, either}
use Rattle.laws.proofs.Search.{none_any, any_found, any_none, lowest_is, Lowest, lowest_of}
use Rattle.laws.proofs.Joined.{some, some_chosen, chosen_none}
use Rattle.plant.specs.Plant.{Plant, size}
use Rattle.plant.proofs.Forest.{Sound}
use Rattle.index.specs.Postings.{device, shared, carries, misplaced, shadowed, redundant}
use Rattle.index.specs.Unshared.{unshared, member}
use Rattle.index.specs.inner.Lists.{SoundList}
use Rattle.index.proofs.Lists.{rises, chosen_placed}
use Rattle.index.proofs.Unshared.{unshared_some}
use Rattle.repair.specs.Kept.{is_at, shared_at, choice, keeps, drops, kept, dropped}
use Rattle.repair.specs.inner.Lists.{Fit}

-- ---- the posting for a device

module _ (l : List ℕ) (k : ℕ) (a : 1 ≤ k) (b : k ≤ length l) where
  -- the first shared one of its device
  choice_shared : shared (entry l k) ≡ true
      → ((i : ℕ) → 1 ≤ i → i < k → device (entry l i) ≡ device (entry l k) → shared (entry l i) ≡ true → ⊥)
      → choice l (device (entry l k)) ≡ k
  choice_shared p h =
      let d = device (entry l k) in
      let q : shared_at l d k ≡ true = simp tests (omega flags) in
      rw (sym (any_found (shared_at l d) k (a, b) q))
      (lowest_is _ (a, b) q (λ i c e. refuted _ (λ t. let u = (and_yes (is_at l d i) (shared (entry l i))).0 t in h i c (omega arith) (omega (flags, u.0)) u.1)))

  -- the first one of a device that has no shared one
  choice_private : any (length l) (shared_at l (device (entry l k))) ≡ false
      → ((i : ℕ) → 1 ≤ i → i < k → device (entry l i) ≡ device (entry l k) → ⊥)
      → choice l (device (entry l k)) ≡ k
  choice_private p h = rw p (lowest_is _ (a, b) (simp tests refl) (λ i c e. simp tests (h i c (omega arith))))

-- ---- what is kept

-- what a shared posting carries to, and a private one
carries_shared : (last : List ℕ) (q d : ℕ) → shared q ≡ true → carries last q d ≡ (leb (device q) d && leb d (entry last (device q)))
carries_shared last q d p = rw p

carries_private : (last : List ℕ) (q d : ℕ) → shared q ≡ false → carries last q d ≡ (leb (device q) d && leb d (device q))
carries_private last q d p = rw p

keeps_it : (last l : List ℕ) (k : ℕ) → choice l (device (entry l k)) ≡ k → redundant last l k ≡ false → keeps last l k ≡ true
keeps_it last l k e r = (and_yes _ _).1 (eq-eqb k _ (sym e), (not_yes _).1 r)

kept_one : (last l : List ℕ) (k : ℕ) → keeps last l k ≡ true → (k ≡ choice l (device (entry l k))) × (redundant last l k ≡ false)
kept_one last l k p =
    let h = (and_yes (eqb k (choice l (device (entry l k)))) (not (redundant last l k))).0 p in
    (eqb-true k _ h.0, (not_yes (redundant last l k)).0 h.1)

-- whether posting q is shared and its branch holds d
abbrev branch : List ℕ → ℕ → ℕ → Bool
branch last d q = shared q && leb (device q) d && leb d (entry last (device q))

branch_not : (last : List ℕ) (d q : ℕ) → branch last d q ≡ false → shared q ≡ true → device q ≤ d → d ≤ entry last (device q) → ⊥
branch_not last d q p s a b = true≢false (sym (simp tests (omega flags)) ∙ p)

module _ (P : Plant) (S : Sound P) (l : List ℕ) (F : Fit (size P) l) where
  -- a posting that is kept and carries to d
  found : (d k : ℕ) → 1 ≤ k → k ≤ length l → keeps P.last l k ≡ true → carries P.last (entry l k) d ≡ true
      → any (length l) (λ k. keeps P.last l k && carries P.last (entry l k) d) ≡ true
  found d k a b p q = sym (any_found _ k (a, b) ((and_yes _ _).1 (p, q)))

  -- the first shared posting whose branch holds d
  by_branch : (d k : ℕ) → Lowest (λ i. branch P.last d (entry l i)) (length l) k
      → any (length l) (λ k. keeps P.last l k && carries P.last (entry l k) d) ≡ true
  by_branch d k L =
      let h = simp tests at L.passes in
      found d k L.first L.last
      (keeps_it P.last l k
      (choice_shared l k L.first L.last (simp tests (omega flags)) (λ i a b e s.
      branch_not P.last d (entry l i) (L.least i a b) s (omega flags) (rw e (omega arith))))
      (sym (any_none _ (λ i a b. refuted _ (λ t.
      let u = simp tests at t in
      by_order i k
      (λ v. let n = S.nested (device (entry l i)) (device (entry l k)) (F.first i a b) (F.last i a b) (omega flags) (omega arith) in
      branch_not P.last d (entry l i) (L.least i a v) (simp tests (omega flags)) (omega flags) (omega flags))
      (λ v. let n = F.sorted k i L.first v b in omega flags))))))
      (rw (carries_shared P.last (entry l k) d (simp tests (omega flags))) (simp tests (omega flags)))

  -- the first posting of d, where no branch holds it
  by_device : (d : ℕ) → any (length l) (λ i. branch P.last d (entry l i)) ≡ false → (k : ℕ) → Lowest (λ i. carries P.last (entry l i) d) (length l) k
      → any (length l) (λ k. keeps P.last l k && carries P.last (entry l k) d) ≡ true
  by_device d p k L =
      let none = none_any _ p in
      let private : shared (entry l k) ≡ false = refuted _ (λ s.
      let c = simp tests at (rw (carries_shared P.last (entry l k) d s) at L.passes) in
      branch_not P.last d (entry l k) (none k L.first L.last) s (omega flags) (omega flags)) in
      let c = simp tests at (rw (carries_private P.last (entry l k) d private) at L.passes) in
      let here : device (entry l k) ≡ d = omega flags in
      found d k L.first L.last
      (keeps_it P.last l k
      (choice_private l k L.first L.last
      (sym (any_none _ (λ i a b. refuted _ (λ t.
      let u = (and_yes (is_at l (device (entry l k)) i) (shared (entry l i))).0 t in
      let o = S.own (device (entry l i)) (F.first i a b) (F.last i a b) in
      branch_not P.last d (entry l i) (none i a b) u.1 (omega flags) (omega flags)))))
      (λ i a b e.
      let o = S.own (device (entry l i)) (F.first i a (omega (arith, L.last))) (F.last i a (omega (arith, L.last))) in
      true≢false (sym (either (shared (entry l i))
      (λ s. rw (carries_shared P.last (entry l i) d s) (simp tests (omega flags)))
      (λ s. rw (carries_private P.last (entry l i) d s) (simp tests (omega flags)))) ∙ L.least i a b)))
      (sym (any_none _ (λ i a b. refuted _ (λ t.
      let u = simp tests at t in
      branch_not P.last d (entry l i) (none i a b) (simp tests (omega flags)) (omega flags) (omega flags))))))
      L.passes

  carried_some : (d : ℕ) → some (λ q. carries P.last q d) (kept P.last l) ≡ some (λ q. carries P.last q d) l
  carried_some d =
      some_chosen (keeps P.last l) (entry l) (λ q. carries P.last q d) (length l)
      ∙ sym (agree _ _ (
        (λ p. either (any (length l) (λ i. branch P.last d (entry l i)))
            (λ b. by_branch d _ (lowest_of _ (length l) b))
            (λ b. by_device d b _ (lowest_of _ (length l) p))),
        λ p. sym (any_none _ (λ k a b. (and_no (keeps P.last l k) _).1 (λ q. none_any _ p k a b))),
      ))

  -- "Every device carries exactly the marks it carried before"
  pub carried_kept : (d : ℕ) → member d (unshared P.last (kept P.last l)) ≡ member d (unshared P.last l)
  carried_kept d = unshared_some P.last (kept P.last l) d ∙ carried_some d ∙ sym (unshared_some P.last l d)

  -- ---- what is kept is sound

  kept_placed : any (length (kept P.last l)) (misplaced (size P) device (kept P.last l)) ≡ false
  kept_placed = chosen_placed (size P) device (keeps P.last l) (entry l) (length l) (λ k a b p. (F.first k a b, F.last k a b)) (λ i k a c b p q.
      let s = F.sorted i k a (omega arith) b in
      by_order (device (entry l i)) (device (entry l k)) (λ v. v) (λ v.
      let e : device (entry l i) ≡ device (entry l k) = omega arith in
      let z : i ≡ k = (kept_one P.last l i p).0 ∙ ap (choice l) e ∙ sym (kept_one P.last l k q).0 in
      absurd (omega arith)))

  kept_single : any (length (kept P.last l)) (redundant P.last (kept P.last l)) ≡ false
  kept_single =
      some_chosen (keeps P.last l) (entry l) (λ q. shadowed P.last (kept P.last l) (device q)) (length l)
      ∙ sym (any_none _ (λ k a b. (and_no (keeps P.last l k) _).1 (λ p.
      let r = none_any _ (kept_one P.last l k p).1 in
      some_chosen (keeps P.last l) (entry l) (λ q. shared q && ltb (device q) (device (entry l k)) && leb (device (entry l k)) (entry P.last (device q))) (length l)
      ∙ sym (any_none _ (λ i c e. (and_no (keeps P.last l i) _).1 (λ q. r i c e))))))

  pub kept_sound : SoundList P.last (kept P.last l)
  kept_sound = record { placed = kept_placed; single = kept_single }

-- ---- a sound list

module _ (last l : List ℕ) (sound : SoundList last l) where
  keeps_each : (k : ℕ) → 1 ≤ k → k ≤ length l → keeps last l k ≡ true
  keeps_each k a b = keeps_it last l k
      (either (shared (entry l k))
      (λ s. choice_shared l k a b s (λ i c e f t. let r = rises (length last) device l sound.placed i k c e b in omega arith))
      (λ s. choice_private l k a b
      (sym (any_none _ (λ i c e. refuted _ (λ t.
      let u = (and_yes (is_at l (device (entry l k)) i) (shared (entry l i))).0 t in
      by_order i k (λ v. let r = rises (length last) device l sound.placed i k c v b in omega flags)
      (λ v. by_order k i (λ w. let r = rises (length last) device l sound.placed k i a w e in omega flags)
      (λ w. let z : i ≡ k = omega arith in true≢false (sym u.1 ∙ rw z s)))))))
      (λ i c e f. let r = rises (length last) device l sound.placed i k c e b in omega arith)))
      (none_any _ sound.single k a b)

  -- "a clean store comes back unchanged with nothing reported"
  pub dropped_none : dropped last l ≡ []
  dropped_none = chosen_none (drops last l) (entry l) (length l) (λ k a b. (not_no _).1 (keeps_each k a b))
