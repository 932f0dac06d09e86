-- Laws of one cursor's moves in code, on plain values.
use Prim.Native.Nat.{ℕ, suc, ◌+◌, ◌-◌, ◌≤◌, ◌<◌}
use native.Mathlib.Omega.{arith}
use mathlib.Core.Bool.{true, false, cond}
use mathlib.Core.List.{List, ◌∷◌}
use Rattle.std.proofs.Common.{Some, None}
use mathlib.Core.Path.{◌≡◌, refl}
use lib.ListN.{length, get_or, drop, drop_of_length-le}
use lib.Seq.{drop-cons}
use Rattle.laws.specs.Tables.{entry}
use Rattle.laws.specs.inner.Entries.{IsEntry}
use Rattle.laws.proofs.Cases.{split_cond}
use Rattle.laws.proofs.Tests.{tests, flags}
use Rattle.index.specs.Postings.{device, shared, reach}
use Rattle.index.specs.Forward.{step, Sought}
use Rattle.index.specs.declared.forward.Step.{Step}
use Rattle.index.proofs.Accepted.{sound_device, sound_sorted, sound_next}
use Rattle.steps.specs.Moves.{behind}
use Rattle.steps.proofs.ByIndex.{target, Leaves, Ahead, ahead_moves, ahead_ends, ahead_spent}
use Rattle.steps.proofs.Stretch.{Rests}
use Rattle.search.specs.inner.Cursors.{Cursor, Tables, Brings}
use Rattle.search.specs.declared.cursor.Counts.{Counts}
use Rattle.search.specs.declared.cursor.Rest.{Rest}

-- the cursor, brought from index f with the counts c₀, is at index i with the counts c
pub record Going (last root l : List ℕ) (p budget f i : ℕ) (c₀ c : Counts) : Type 0 where
  pub ahead : Ahead last root l p (budget - c₀.moves) f i (c.moves - c₀.moves) (c.passed - c₀.passed)
  pub more : c₀.moves ≤ c.moves
  pub few : c.moves ≤ budget
  pub further : c₀.passed ≤ c.passed

-- it makes one more move, by a step along its list, of which what is passed over is a part
pub record Moves (last root l : List ℕ) (p budget f i : ℕ) (c₀ c : Counts) (r : Step) : Type 0 where
  pub going : Going last root l p budget f r.at c₀ (record { moves = c.moves + 1; passed = c.passed + r.passed })
  pub fits : c.passed + r.passed ≤ c₀.passed + length l

module _ {last root l : List ℕ} {p budget f i : ℕ} {c₀ c : Counts} (a : Going last root l p budget f i c₀ c) (e : p ≤ length last) where
  bounded : c.passed ≤ c₀.passed + length l
  bounded = omega (arith, a.ahead.sum, a.ahead.within, a.further)

  -- it has been brought to p, where it rests
  going_rests : (r : Rest) → behind last p (drop i l) ≡ false → r.to ≤ length last → Rests last (length last + 1) (drop i l) p r.carries r.to
      → Brings last root l p budget f i c₀ c (Some r)
  going_rests r h t x = record {
    within = a.ahead.within;
    more = a.more;
    few = a.few;
    further = a.further;
    bounded = bounded;
    same = ahead_ends a.ahead h;
    rests = (t, x);
  }

  pub going_ends : length l ≤ i → Brings last root l p budget f i c₀ c (Some (record { carries = false; to = length last }))
  going_ends h =
      let d = drop_of_length-le l {i = i} h in
      going_rests _ (rw d refl) (omega arith) (rw d (record { from = omega arith; here = simp tests (omega flags); next = omega arith }))

  -- it stands on posting q, of device d
  module _ (k : Cursor last l f) {q d : ℕ} (h : (i < length l) × ((x : ℕ) → q ≡ get_or l i x)) (v : d ≡ device q) where
    on : drop i l ≡ q ∷ drop (suc i) l
    on = rw (h.1 0) (drop-cons l i 0 h.0)

    pub going_device : IsEntry last d
    going_device = rw (v, h.1 0) (sound_device k.sound i h.0)

    pub going_past : p < d → Brings last root l p budget f i c₀ c (Some (record { carries = false; to = d - 1 }))
    going_past g =
        let w = going_device in
        going_rests _ (rw on (simp tests (omega flags))) (omega arith) (rw on (record { from = omega arith; here = simp tests (omega flags); next = omega arith }))

    module _ (b : Tables last root) (g : d ≤ p) {reached : ℕ} (x : reached ≡ cond (shared q) (entry last d) (device q)) where
      reaches : reached ≡ reach last q
      reaches = rw v at x

      pub going_carries : p ≤ reached → Brings last root l p budget f i c₀ c (Some (record { carries = true; to = reached }))
      going_carries z =
          let w = going_device in
          let y = reaches in
          going_rests _ (rw on (simp tests (omega flags))) (rw (x, ← v) (split_cond (λ n. n ≤ length last) (shared q) (λ _. b.inside _ w) (λ _. w.last)))
          (rw on (record { from = z; here = simp tests (omega flags); next = omega arith }))

      module _ (z : reached < p) where
        still_behind : behind last p (drop i l) ≡ true
        still_behind = let y = reaches in rw on (simp tests (omega flags))

        pub going_spent : budget ≤ c.moves → Brings last root l p budget f i c₀ c None
        going_spent y = record {
          within = a.ahead.within;
          more = a.more;
          few = a.few;
          further = a.further;
          bounded = bounded;
          same = ahead_spent a.ahead (omega arith);
          rests = still_behind;
        }

        module _ {t : ℕ} {r : Step} (y : c.moves < budget) (w : t ≡ target last root p q) (o : Sought l i t r) where
          leaves : Leaves last l i
          leaves = record { inside = h.0; held = rw (v, h.1 0) at (b.held _ going_device); rises = sound_next k.sound i }

          pub going_moves : Moves last root l p budget f i c₀ c r
          going_moves =
              let s : r ≡ step l i (target last root p (get_or l i 0)) = rw (← h.1 0, ← w) (o.sorted (sound_sorted k.sound i)) in
              let u : c.moves + 1 - c₀.moves ≡ c.moves - c₀.moves + 1 = omega (arith, a.more) in
              let n : c.passed + r.passed - c₀.passed ≡ c.passed - c₀.passed + r.passed = omega (arith, a.further) in
              let m = ahead_moves a.ahead leaves still_behind (omega (arith, a.more)) s in
              record {
                going = record { ahead = rw (u, n) m; more = omega (arith, a.more); few = omega arith; further = omega (arith, a.further) };
                fits = omega (arith, m.sum, m.within, a.further);
              }
