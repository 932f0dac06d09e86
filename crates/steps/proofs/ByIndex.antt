-- A cursor as an index into its list: what a code's proof cites. A cursor at index i is what is left from i on.
use Prim.Native.Nat.{ℕ, suc, ◌+◌, ◌-◌, ◌≤◌, ◌<◌}
use mathlib.Core.Path.{◌≡◌, refl, sym, ◌∙◌, ap, ap₂}
use mathlib.Core.Bool.{true, false, cond, true≢false}
use mathlib.Core.List.{List, ◌∷◌}
use lib.Dec.{ltb}
use lib.ListN.{length, get_or, drop}
use lib.Seq.{drop-cons, drop-drop}
use Rattle.laws.specs.Tables.{entry}
use Rattle.laws.proofs.Tests.{flags}
use Rattle.laws.proofs.Cases.{either, split}
use Rattle.index.specs.Postings.{device}
use Rattle.index.specs.Forward.{forward, passed, step}
use Rattle.index.specs.declared.forward.Step.{Step}
use Rattle.index.proofs.ForwardStep.{forward_passed, forward_next, forward_one, forward_after}
use Rattle.steps.proofs.Counts.{bring_still, lands_after}
use Rattle.steps.specs.Moves.{Moved, lands, move, behind, then, bring}

-- the device that a move from posting q towards p goes to: for the next posting, one past its own, since devices rise
abbrev pub target : List ℕ → List ℕ → ℕ → ℕ → ℕ
target last root p q =
    cond (ltb (device q) (entry root p)) (entry root p)
    (cond (ltb (entry last (device q)) p) (entry last (device q) + 1) (device q + 1))

-- a posting that a move may leave, at index i of a list: its branch holds its device, and the device of the next is above its own
pub record Leaves (last l : List ℕ) (i : ℕ) : Type 0 where
  pub inside : i < length l
  pub held : device (get_or l i 0) ≤ entry last (device (get_or l i 0))
  pub rises : i + 1 < length l → device (get_or l i 0) < device (get_or l (i + 1) 0)

module _ (last root : List ℕ) (p : ℕ) where
  module _ (l : List ℕ) (i : ℕ) (v : Leaves last l i) where
    abbrev q : ℕ
    q = get_or l i 0

    abbrev rest : List ℕ
    rest = drop (suc i) l

    -- it lands where the forward step from there does
    lands_at : i + lands last root p q rest ≡ forward l i (target last root p q)
    lands_at =
        let on : (d : ℕ) → device q < d → i + forward (q ∷ rest) 1 d ≡ forward l i d =
        λ d g. omega (flags, forward_after q rest d, forward_next l i d v.inside g) in
        either (ltb (device q) (entry root p)) (λ e. rw e (on _ (omega flags)))
        (λ e. rw e (either (ltb (entry last (device q)) p) (λ f. rw f (on _ (omega (flags, v.held))))
        (λ f. rw f (forward_one l i (device q + 1) v.inside (omega flags) (λ k. omega (flags, v.rises k))))))

    -- a move is the forward step from the posting that it leaves, and passes what that passes
    pub move_at : {s : Step} → s ≡ step l i (target last root p q) →
        (i + 1 + s.passed ≡ s.at) × (s.at ≤ length l) × (move last root p (drop i l) ≡ record { cursor = drop s.at l; counts = record { moves = 1; passed = s.passed } })
    move_at {s} e =
        let j = lands last root p q rest in
        let W = lands_after last root p q rest in
        let D = drop-cons l i 0 v.inside in
        let at : i + j ≡ s.at = lands_at ∙ sym (ap (λ (x : Step). x.at) e) in
        let skips : s.passed ≡ s.at - i - 1 = rw e refl in
        let few : s.at ≤ length l = rw e (forward_passed l i (target last root p q) (omega (flags, v.inside))).to in
        let c : drop j (q ∷ rest) ≡ drop s.at l = ap (drop j) (sym D) ∙ drop-drop j i l ∙ ap (λ (k : ℕ). drop k l) at in
        let n : passed 0 j ≡ s.passed = omega (flags, W.0) in
        (omega (flags, W.0), few, rw D (ap₂ (λ x y. record { cursor = x; counts = record { moves = 1; passed = y } }) c n))

  pub bring_moves : (n : ℕ) (c : List ℕ) (m : Moved) → behind last p c ≡ true → move last root p c ≡ m →
      bring last root p (suc n) c ≡ then m (bring last root p n m.cursor)
  unfolding bring
  bring_moves n c m b e = split (λ (x : Moved). x ≡ then m (bring last root p n m.cursor)) (behind last p c)
      (λ f. ap (λ (x : Moved). then x (bring last root p n x.cursor)) e) (λ f. absurd (true≢false (sym b ∙ f)))

moved_same : (a b : Moved) → a.cursor ≡ b.cursor → a.counts.moves ≡ b.counts.moves → a.counts.passed ≡ b.counts.passed → a ≡ b
moved_same a b c m p = ap₂ (λ x y. record { cursor = x; counts = y }) c (ap₂ (λ x y. record { moves = x; passed = y }) m p)

-- the cursor at index f of a list, brought to p with n moves left, is at index i after so many moves, which passed over so many postings, and goes
-- on from there: what lies between f and i they landed on or passed over
pub record Ahead (last root l : List ℕ) (p n f i moves passed : ℕ) : Type 0 where
  pub within : i ≤ length l
  pub few : moves ≤ n
  pub sum : f + moves + passed ≡ i
  pub same : bring last root p n (drop f l)
      ≡ then (record { cursor = drop i l; counts = record { moves = moves; passed = passed } }) (bring last root p (n - moves) (drop i l))

module _ {last root l : List ℕ} {p n f : ℕ} where
  pub ahead_start : f ≤ length l → Ahead last root l p n f f 0 0
  ahead_start h = record {
    within = h;
    few = omega flags;
    sum = omega flags;
    same = let u : n - 0 ≡ n = omega flags in rw u (moved_same _ _ refl (omega flags) (omega flags));
  }

  module _ {i moves passed : ℕ} (a : Ahead last root l p n f i moves passed) where
    -- it makes a move
    pub ahead_moves : {s : Step} → Leaves last l i → behind last p (drop i l) ≡ true → moves < n → s ≡ step l i (target last root p (get_or l i 0)) →
        Ahead last root l p n f s.at (moves + 1) (passed + s.passed)
    ahead_moves {s} v b w e =
        let m = move_at last root p l i v e in
        let u : n - moves ≡ suc (n - (moves + 1)) = omega flags in
        record {
          within = m.1;
          few = omega flags;
          sum = omega (flags, a.sum, m.0);
          same = a.same ∙ rw (u, bring_moves last root p (n - (moves + 1)) (drop i l) _ b m.2) (moved_same _ _ refl (omega flags) (omega flags));
        }

    -- it is no more behind, or no move is left
    pub ahead_ends : behind last p (drop i l) ≡ false → bring last root p n (drop f l) ≡ record { cursor = drop i l; counts = record { moves = moves; passed = passed } }
    ahead_ends b = a.same ∙ rw (bring_still last root p (n - moves) (drop i l) b) (moved_same _ _ refl (omega flags) (omega flags))

    pub ahead_spent : n ≤ moves → bring last root p n (drop f l) ≡ record { cursor = drop i l; counts = record { moves = moves; passed = passed } }
    unfolding bring
    ahead_spent w = let u : n - moves ≡ 0 = omega flags in a.same ∙ rw u (moved_same _ _ refl (omega flags) (omega flags))
