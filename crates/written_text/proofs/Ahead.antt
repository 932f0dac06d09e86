-- What the tables of a whole text say of the lines that are still to come, at each of its lines.
use Prim.Native.Nat.{ℕ, ◌+◌, ◌-◌, ◌≤◌, ◌<◌}
use mathlib.Core.Path.{◌≡◌, sym, ◌∙◌}
use mathlib.Core.List.{List, [], ◌∷◌, ◌++◌, append-nil}
use native.Mathlib.Omega.{arith}
use lib.ListN.{length, get_or, set, length-append, get_or-append}
use lib.Seq.{append_snoc, get_or_at, get_or-set_same, get_or-set_other}
use Rattle.laws.specs.Tables.{entry}
use Rattle.laws.proofs.Tests.{tests}
use Rattle.laws.proofs.Cases.{by_order}
use Rattle.plant.specs.Plant.{holds}
use Rattle.written_text.specs.Refusals.{tiers}
use Rattle.laws.specs.Search.{tally}
use Rattle.laws.proofs.Tally.{tally_more, tally_none}

-- ---- tables that grow at their end

-- B begins with A
pub record Ext (A B : List ℕ) : Type 0 where
  pub more : List ℕ
  pub is : B ≡ A ++ more

pub ext_same : (A : List ℕ) → Ext A A
ext_same A = record { more = []; is = sym (append-nil A) }

module _ (A : List ℕ) (x : ℕ) {B : List ℕ} (e : Ext (A ++ (x ∷ [])) B) where
  pub ext_back : Ext A B
  ext_back = record { more = x ∷ e.more; is = e.is ∙ append_snoc A x e.more }

  pub ext_at : (n d : ℕ) → length A ≡ n → (n < length B) × (get_or B n d ≡ x)
  ext_at n d z =
      let i : B ≡ A ++ x ∷ e.more = e.is ∙ append_snoc A x e.more in (
        rw i (simp length-append (omega arith)),
        rw i (get_or_at A x e.more d n z),
      )

-- ---- the last devices

-- the branches that have closed end before the open device after them: the open devices of a stack, up to device a
abbrev pub Gaps : List ℕ → List ℕ → ℕ → Type 0
Gaps A [] a = (c : ℕ) → 0 < c → c ≤ a → entry A c ≤ a
Gaps A (s ∷ ss) a = (1 ≤ s) × (s ≤ a) × ((c : ℕ) → s < c → c ≤ a → entry A c ≤ a) × Gaps A ss (s - 1)

-- in the end the branches that have closed end where they did, and those of open devices at n or later
abbrev pub Kept : List ℕ → List ℕ → ℕ → List ℕ → ℕ → Type 0
Kept A L n [] a = (c : ℕ) → 0 < c → c ≤ a → entry L c ≡ entry A c
Kept A L n (s ∷ ss) a = (n ≤ entry L s) × ((c : ℕ) → s < c → c ≤ a → entry L c ≡ entry A c) × Kept A L n ss (s - 1)

-- only the entries up to a count
pub gaps_same : (A B ss : List ℕ) (a : ℕ) → ((c : ℕ) → 0 < c → c ≤ a → entry B c ≡ entry A c) → Gaps A ss a → Gaps B ss a
gaps_same A B [] a h g = λ c p q. let e = h c p q in omega (arith, g c p q)
gaps_same A B (s ∷ ss) a h g = (
  g.0,
  g.1,
  (λ c p q. let e = h c (omega arith) q in omega (arith, g.2 c p q)),
  gaps_same A B ss (s - 1) (λ c p q. h c p (omega (arith, g.0, g.1))) g.3,
)

kept_same : (A B L ss : List ℕ) (n a : ℕ) → ((c : ℕ) → 0 < c → c ≤ a → entry B c ≡ entry A c) → Gaps A ss a → Kept B L n ss a → Kept A L n ss a
kept_same A B L [] n a h g k = λ c p q. k c p q ∙ h c p q
kept_same A B L (s ∷ ss) n a h g k = (
  k.0,
  (λ c p q. k.1 c p q ∙ h c (omega arith) q),
  kept_same A B L ss n (s - 1) (λ c p q. h c p (omega (arith, g.0, g.1))) g.3 k.2,
)

kept_less : (A L ss : List ℕ) (n m a : ℕ) → n ≤ m → Kept A L m ss a → Kept A L n ss a
kept_less A L [] n m a l k = k
kept_less A L (s ∷ ss) n m a l k = (omega (arith, k.0), k.1, kept_less A L ss n m (s - 1) l k.2)

pub kept_all : (A L : List ℕ) (n a : ℕ) → L ≡ A → Kept A L n [] a
kept_all A L n a e = λ c p q. rw e

-- entries of a table with one more, and with another set
module _ (A : List ℕ) where
  old_entry : (x c : ℕ) → 0 < c → c ≤ length A → entry (A ++ (x ∷ [])) c ≡ entry A c
  old_entry x c p q = get_or-append A (x ∷ []) 0 (c - 1) (omega arith)

  set_entry : (d n : ℕ) → 1 ≤ d → d ≤ length A → entry (set A (d - 1) n) d ≡ n
  set_entry d n l u = get_or-set_same A (d - 1) n 0 (omega arith)

  other_entry : (d n c : ℕ) → 1 ≤ c → 1 ≤ d → (c ≡ d → ⊥) → entry (set A (d - 1) n) c ≡ entry A c
  other_entry d n c l u h = get_or-set_other A (d - 1) (c - 1) n 0 (λ e. h (omega arith))

-- a device opens
module _ (A ss : List ℕ) (n : ℕ) (z : length A ≡ n) (g : Gaps A ss n) where
  pub gaps_open : Gaps (A ++ (0 ∷ [])) ((n + 1) ∷ ss) (n + 1)
  gaps_open =
      let y : n + 1 - 1 ≡ n = omega arith in
      (omega arith, omega arith, (λ c p q. absurd (omega arith)), rw y (gaps_same A (A ++ (0 ∷ [])) ss n (λ c p q. old_entry A 0 c p (omega arith)) g))

  pub kept_open : (L : List ℕ) → Kept (A ++ (0 ∷ [])) L (n + 1) ((n + 1) ∷ ss) (n + 1) → Kept A L (n + 1) ss n
  kept_open L k =
      let y : n + 1 - 1 ≡ n = omega arith in
      kept_same A (A ++ (0 ∷ [])) L ss (n + 1) n (λ c p q. old_entry A 0 c p (omega arith)) g (rw y at k.2)

  pub kept_before : (L : List ℕ) → Kept (A ++ (0 ∷ [])) L (n + 1) ((n + 1) ∷ ss) (n + 1) → Kept A L n ss n
  kept_before L k = kept_less A L ss n (n + 1) n (omega arith) (kept_open L k)

-- the innermost device closes
module _ (A ss : List ℕ) (d n : ℕ) (z : length A ≡ n) (g : Gaps A (d ∷ ss) n) where
  abbrev B : List ℕ
  B = set A (d - 1) n

  low : (c : ℕ) → 0 < c → c ≤ d - 1 → entry B c ≡ entry A c
  low c p q = other_entry A d n c p g.0 (omega arith)

  past : (c : ℕ) → d ≤ c → c ≤ n → entry B c ≤ n
  past c p q = by_order d c
      (λ v. let e = other_entry A d n c (omega (arith, g.0)) g.0 (omega arith) in omega (arith, g.2 c v q))
      (λ v. let y : c ≡ d = omega arith in rw y (let e = set_entry A d n g.0 (omega (arith, g.1)) in omega arith))

  pub gaps_close : Gaps B ss n
  gaps_close = go ss g.3
    where
      go : (ss : List ℕ) → Gaps A ss (d - 1) → Gaps B ss n
      go [] h = λ c p q. by_order c d (λ v. let e = low c p (omega arith) in omega (arith, h c p (omega arith), g.1)) (λ v. past c v q)
      go (s ∷ ss) h = (
        h.0,
        omega (arith, h.1, g.1),
        (λ c p q. by_order c d (λ v. let e = low c (omega arith) (omega arith) in omega (arith, h.2 c p (omega arith), g.1)) (λ v. past c v q)),
        gaps_same A B ss (s - 1) (λ c p q. low c p (omega (arith, h.1))) h.3,
      )

  pub kept_close : (L : List ℕ) → Kept B L n ss n → (entry L d ≡ n) × Kept A L n (d ∷ ss) n
  kept_close L k = go ss g.3 k
    where
      own : entry B d ≡ n
      own = set_entry A d n g.0 (omega (arith, g.1))

      after : (c : ℕ) → d < c → c ≤ n → entry B c ≡ entry A c
      after c p q = other_entry A d n c (omega (arith, g.0)) g.0 (omega arith)

      go : (ss : List ℕ) → Gaps A ss (d - 1) → Kept B L n ss n → (entry L d ≡ n) × Kept A L n (d ∷ ss) n
      go [] h k =
          let e = k d (omega (arith, g.0)) g.1 ∙ own in
          (e, (omega arith, (λ c p q. k c (omega arith) q ∙ after c p q), λ c p q. k c p (omega (arith, g.1)) ∙ low c p q))
      go (s ∷ ss) h k =
          let e = k.1 d (omega (arith, h.1, g.0)) g.1 ∙ own in (
            e,
            (
              omega arith,
              (λ c p q. k.1 c (omega (arith, h.1)) q ∙ after c p q),
              (
                k.0,
                (λ c p q. k.1 c p (omega (arith, g.1)) ∙ low c (omega arith) q),
                kept_same A B L ss n (s - 1) (λ c p q. low c p (omega (arith, h.1))) h.3 k.2,
              ),
            ),
          )

-- ---- tiers

-- no more branches hold a device after n than devices are open
tally_open : (A L ss : List ℕ) (a n d : ℕ) → Gaps A ss a → Kept A L n ss a → a < d → tally a (λ c. holds L c d) ≤ length ss
unfolding tally
tally_open A L [] a n d g k l =
    let z : 0 + a ≡ a = omega arith in
    let t = tally_none (λ c. holds L c d) 0 a (λ c p q. let e = k c p (omega arith) in let h = g c p (omega arith) in simp tests (λ x. omega arith)) in
    omega (arith, rw z at t)
tally_open A L (s ∷ ss) a n d g k l =
    let y : s - 1 + 1 ≡ s = omega (arith, g.0) in
    let z : s + (a - s) ≡ a = omega (arith, g.1) in
    let t = tally_none (λ c. holds L c d) s (a - s) (λ c p q. let e = k.1 c p (omega arith) in let h = g.2 c p (omega arith) in simp tests (λ x. omega arith)) in
    let b = tally_open A L ss (s - 1) n d g.3 k.2 (omega (arith, g.0, g.1)) in
    let i = tally_more (λ c. holds L c d) (s - 1) in
    omega (arith, rw z at t, rw y at i)

pub tiers_open : (A L ss : List ℕ) (n : ℕ) → Gaps A ss n → Kept A L n ss n → length ss < 32 → tiers L (n + 1) ≤ 32
tiers_open A L ss n g k l =
    let b = tally_open A L ss n n (n + 1) g k (omega arith) in
    let i = tally_more (λ c. holds L c (n + 1)) n in
    omega arith
