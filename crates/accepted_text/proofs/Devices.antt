-- The device tables of an accepted text are not refused: at every line, were all open devices to close there, the tables would be sound.
use Prim.Native.Nat.{ℕ, ◌+◌, ◌-◌, ◌≤◌, ◌<◌}
use mathlib.Core.Path.{◌≡◌, refl, ◌∙◌}
use mathlib.Core.Logic.{◌⊎◌, inl, inr}
use mathlib.Core.List.{List, [], ◌∷◌, ◌++◌}
use native.Mathlib.Omega.{arith}
use lib.ListN.{length, set, length-set, length-append}
use lib.Seq.{get_or-set_same, get_or-set_other}
use Rattle.laws.specs.Limits.{most_devices}
use Rattle.laws.specs.Tables.{entry}
use Rattle.laws.proofs.Cases.{by_order, cases}
use Rattle.plant.specs.Plant.{Plant, plant, size, plant_refusal}
use Rattle.plant.proofs.Forest.{Sound, accepts}
use Rattle.index.proofs.Growing.{entry_before, entry_new}
use Rattle.plant_text.specs.PlantText.{outermost}

-- the table of last devices, were the open devices to close after n devices
unfoldable pub shut : List ℕ → ℕ → List ℕ → List ℕ
shut [] n last = last
shut (d ∷ ds) n last = shut ds n (set last (d - 1) n)

-- the branches before device e that have closed end before it; the entry of an open device is 0
abbrev Below : List ℕ → ℕ → Type 0
Below last e = (c : ℕ) → 1 ≤ c → c < e → entry last c < e

-- device e, and the open devices outside it
abbrev Nest : List ℕ → ℕ → List ℕ → Type 0
Nest last e [] = Below last e
Nest last e (d ∷ ds) = Below last e × (1 ≤ d) × (d < e) × Nest last d ds

-- what is known of the devices where those of a stack are open
pub record Growing (ds : List ℕ) (P : Plant) : Type 0 where
  pub nest : Nest P.last (size P + 1) ds
  pub sound : Sound (plant (shut ds (size P) P.last) P.root P.level)

below : (last : List ℕ) (e : ℕ) (ds : List ℕ) → Nest last e ds → Below last e
below last e [] h = h
below last e (d ∷ ds) h = h.0

outer_low : (last : List ℕ) (e : ℕ) (ds : List ℕ) → 1 ≤ e → Nest last e ds → (1 ≤ outermost ds e) × (outermost ds e ≤ e)
outer_low last e [] l h = (l, omega arith)
outer_low last e (d ∷ ds) l h = let r = outer_low last d ds h.1 h.3 in omega arith

-- only the entries before e count
nest_same : (A B : List ℕ) (e : ℕ) (ds : List ℕ) → ((c : ℕ) → 1 ≤ c → c < e → entry B c ≡ entry A c) → Nest A e ds → Nest B e ds
nest_same A B e [] s h = λ c l u. let z = s c l u in let y = h c l u in omega arith
nest_same A B e (d ∷ ds) s h = (
  (λ c l u. let z = s c l u in let y = h.0 c l u in omega arith),
  h.1,
  h.2,
  nest_same A B d ds (λ c l u. s c l (omega arith)) h.3,
)

-- a device past the innermost
nest_past : (A : List ℕ) (d e : ℕ) (ds : List ℕ) → d ≤ e → Below A e → Nest A d ds → Nest A e ds
nest_past A d e [] l b h = b
nest_past A d e (p ∷ ps) l b h = (b, h.1, omega arith, h.3)

-- an entry of a table with another set
module _ (A : List ℕ) (d n : ℕ) where
  entry_set : 1 ≤ d → d ≤ length A → entry (set A (d - 1) n) d ≡ n
  entry_set l u = get_or-set_same A (d - 1) n 0 (omega arith)

  entry_other : (c : ℕ) → 1 ≤ c → 1 ≤ d → (c ≡ d → ⊥) → entry (set A (d - 1) n) c ≡ entry A c
  entry_other c l u h = get_or-set_other A (d - 1) (c - 1) n 0 (λ e. h (omega arith))

  -- by cases
  entry-split {ℓ} : {X : Type ℓ} (c : ℕ) → 1 ≤ c → 1 ≤ d → d ≤ length A → (c ≡ d → entry (set A (d - 1) n) c ≡ n → X) →
      ((c ≡ d → ⊥) → entry (set A (d - 1) n) c ≡ entry A c → X) → X
  entry-split c a l u f g =
      by_order c d (λ v. g (omega arith) (entry_other c a l (omega arith)))
      (λ v. by_order d c (λ w. g (omega arith) (entry_other c a l (omega arith)))
      (λ w. let e : c ≡ d = omega arith in f e (rw e (entry_set l u))))

length_shut : (ds : List ℕ) (n : ℕ) (A : List ℕ) → length (shut ds n A) ≡ length A
unfolding shut
length_shut [] n A = refl
length_shut (d ∷ ds) n A = length_shut ds n (set A (d - 1) n) ∙ length-set A (d - 1) n

-- an entry that is n already stays
shut_keeps : (last : List ℕ) (e : ℕ) (ds : List ℕ) (n c : ℕ) (A : List ℕ) → Nest last e ds → e ≤ length A + 1 → 1 ≤ c → entry A c ≡ n → entry (shut ds n A) c ≡ n
unfolding shut
shut_keeps last e [] n c A h u l q = q
shut_keeps last e (d ∷ ds) n c A h u l q =
    let z = length-set A (d - 1) n in
    shut_keeps last d ds n c (set A (d - 1) n) h.3 (omega arith) l
    (entry-split A d n c l h.1 (omega arith) (λ x y. y) (λ x y. y ∙ q))

-- the outermost open device closes; where none is open, e stands for it
shut_outer : (last : List ℕ) (e : ℕ) (ds : List ℕ) (n : ℕ) (A : List ℕ) → Nest last e ds → e ≤ length A + 1 → entry A e ≡ n → entry (shut ds n A) (outermost ds e) ≡ n
unfolding shut
shut_outer last e [] n A h u q = q
shut_outer last e (d ∷ ds) n A h u q =
    let z = length-set A (d - 1) n in
    shut_outer last d ds n (set A (d - 1) n) h.3 (omega arith) (entry_set A d n h.1 (omega arith))

-- what one more device does to the last device of c's branch, a before and b after: nothing where c has closed, else that it is the new one
abbrev Grows : List ℕ → ℕ → ℕ → ℕ → ℕ → ℕ → Type 0
Grows last n low c a b = ((a ≡ entry last c) × (b ≡ a)) ⊎ ((a ≡ n) × (b ≡ n + 1) × (low ≤ c) × Below last c)

grows : (last : List ℕ) (n c e : ℕ) (ds : List ℕ) (A B : List ℕ) → Nest last e ds → 1 ≤ c → e ≤ length A + 1 → length B ≡ length A + 1 →
    Grows last n (outermost ds e) c (entry A c) (entry B c) → Grows last n (outermost ds e) c (entry (shut ds n A) c) (entry (shut ds (n + 1) B) c)
unfolding shut
grows last n c e [] A B h l u s g = g
grows last n c e (d ∷ ds) A B h l u s g =
    let y = length-set A (d - 1) n in
    let z = length-set B (d - 1) (n + 1) in
    grows last n c d ds (set A (d - 1) n) (set B (d - 1) (n + 1)) h.3 l (omega arith) (omega arith)
    (entry-split A d n c l h.1 (omega arith)
    (λ x p. inr (p, rw x (entry_set B d (n + 1) h.1 (omega arith)), rw x (outer_low last d ds h.1 h.3).1, rw x (below last d ds h.3)))
    (λ x p. let q = entry_other B d (n + 1) c l h.1 x in rw (p, q) g))

-- a device opens: B is the table of last devices with the new one closed at once
module _ (last root level : List ℕ) (v : ℕ) (ds B : List ℕ) (nest : Nest last (length last + 1) ds)
    (s : Sound (plant (shut ds (length last) last) root level)) (one_more : length B ≡ length last + 1) (new : entry B (length last + 1) ≡ length last + 1)
    (old : (c : ℕ) → 1 ≤ c → c ≤ length last → entry B c ≡ entry last c) where
  abbrev top : ℕ
  top = outermost ds (length last + 1)

  abbrev T : List ℕ
  T = shut ds (length last) last

  abbrev T' : List ℕ
  T' = shut ds (length last + 1) B

  grown : (c : ℕ) → 1 ≤ c → c ≤ length last → Grows last (length last) top c (entry T c) (entry T' c)
  grown c l u = grows last (length last) c (length last + 1) ds last B nest l (omega arith) one_more (inl (refl, old c l u))

  newest : entry T' (length last + 1) ≡ length last + 1
  newest = shut_keeps last (length last + 1) ds (length last + 1) (length last + 1) B nest (omega arith) (omega arith) new

  outer : entry T' top ≡ length last + 1
  outer = shut_outer last (length last + 1) ds (length last + 1) B nest (omega arith) new

  long : length T ≡ length last
  long = length_shut ds (length last) last

  long' : length T' ≡ length last + 1
  long' = length_shut ds (length last + 1) B ∙ one_more

  -- a device has closed, is open, or is the new one
  of-each {ℓ} : {X : Type ℓ} (d : ℕ) → 1 ≤ d → d ≤ length T' → (d ≤ length last → entry T d ≡ entry last d → entry T' d ≡ entry T d → X) →
      (d ≤ length last → entry T d ≡ length last → entry T' d ≡ length last + 1 → top ≤ d → Below last d → X) → (d ≡ length last + 1 → entry T' d ≡ length last + 1 → X) → X
  of-each d l u f g h =
      let z = long' in
      by_order d (length last + 1)
      (λ w. cases (grown d l (omega arith)) (λ x. f (omega arith) x.0 x.1) (λ x. g (omega arith) x.0 x.1 x.2 x.3))
      (λ w. let e : d ≡ length last + 1 = omega arith in h e (rw e newest))

  opened_own : (d : ℕ) → 1 ≤ d → d ≤ length T' → d ≤ entry T' d
  opened_own d l u =
      let z = long in
      of-each d l u (λ a b c. let k = s.own d l (omega arith) in omega arith) (λ a b c e f. omega arith) (λ a b. omega arith)

  opened_inside : (d : ℕ) → 1 ≤ d → d ≤ length T' → entry T' d ≤ length T'
  opened_inside d l u =
      let z = long in
      let z' = long' in
      of-each d l u (λ a b c. let k = s.inside d l (omega arith) in omega arith) (λ a b c e f. omega arith) (λ a b. omega arith)

  opened_nested : (d e : ℕ) → 1 ≤ d → d ≤ length T' → d ≤ e → e ≤ entry T' d → entry T' e ≤ entry T' d
  opened_nested d e l u m w =
      let z = long in
      let z' = long' in
      let i = opened_inside d l u in
      let j = opened_inside e (omega arith) (omega arith) in
      of-each d l u
      (λ a b c. let k = s.inside d l (omega arith) in
      of-each e (omega arith) (omega arith) (λ a' b' c'. let n = s.nested d e l (omega arith) m (omega arith) in omega arith)
      (λ a' b' c' t' f'. by_order d e (λ x. let y = f' d l x in omega arith) (λ x. let y : d ≡ e = omega arith in rw y (omega arith)))
      (λ a' b'. omega arith))
      (λ a b c t f. omega arith)
      (λ a b. omega arith)

  -- the root of an older device stays, and the new device's is the outermost open one
  abbrev R' : List ℕ
  R' = root ++ (top ∷ [])

  old_root : (d : ℕ) → 1 ≤ d → d ≤ length last → entry R' d ≡ entry root d
  old_root d l u = let z = long in let y = s.roots in entry_before root top d l (omega arith)

  new_root : (d : ℕ) → d ≡ length last + 1 → entry R' d ≡ top
  new_root d e = let z = long in let y = s.roots in entry_new root top d (omega arith)

  opened_holds : (d : ℕ) → 1 ≤ d → d ≤ length T' → (1 ≤ entry R' d) × (entry R' d ≤ d) × (d ≤ entry T' (entry R' d))
  opened_holds d l u =
      let z = long in
      let z' = long' in
      by_order d (length last + 1)
      (λ w.
      let h = s.holds d l (omega arith) in
      rw (old_root d l (omega arith))
      (cases (grown (entry root d) h.0 (omega arith)) (λ x. (h.0, h.1, omega arith)) (λ x. (h.0, h.1, omega arith))))
      (λ w.
      let h = outer_low last (length last + 1) ds (omega arith) nest in
      let o = outer in
      rw (new_root d (omega arith)) (h.0, omega arith, omega arith))

  opened_lowest : (d e : ℕ) → 1 ≤ d → d ≤ length T' → 1 ≤ e → e < entry R' d → entry T' e < d
  opened_lowest d e l u m v =
      let z = long in
      let z' = long' in
      by_order d (length last + 1)
      (λ w.
      let r = old_root d l (omega arith) in
      let h = s.holds d l (omega arith) in
      let k = s.lowest d e l (omega arith) m (omega arith) in
      cases (grown e m (omega arith)) (λ x. omega arith) (λ x. omega arith))
      (λ w.
      let r = new_root d (omega arith) in
      let h = outer_low last (length last + 1) ds (omega arith) nest in
      let k = s.inside e m (omega arith) in
      cases (grown e m (omega arith)) (λ x. omega arith) (λ x. omega arith))

  opened_sound : length last + 1 ≤ most_devices → Sound (plant T' R' (level ++ (v ∷ [])))
  opened_sound few =
      let z = long in
      let z' = long' in
      let x = length-append root (top ∷ []) in
      let y = length-append level (v ∷ []) in
      let p = s.roots in
      let q = s.levels in record {
        roots = omega arith;
        levels = omega arith;
        few = omega arith;
        own = opened_own;
        inside = opened_inside;
        nested = opened_nested;
        holds = opened_holds;
        lowest = opened_lowest;
      }

-- ---- what the lines do

pub growing_none : Growing [] (plant [] [] [])
unfolding shut
growing_none = record {
  nest = λ c l u. absurd (omega arith);
  sound = record {
    roots = refl;
    levels = refl;
    few = omega arith;
    own = λ d l u. absurd (omega arith);
    inside = λ d l u. absurd (omega arith);
    nested = λ d e l u. absurd (omega arith);
    holds = λ d l u. absurd (omega arith);
    lowest = λ d e l u. absurd (omega arith);
  };
}

module _ (ds : List ℕ) (P : Plant) where
  pub growing_open : (v : ℕ) → Growing ds P → size P + 1 ≤ most_devices →
      Growing ((size P + 1) ∷ ds) (plant (P.last ++ (0 ∷ [])) (P.root ++ (outermost ds (size P + 1) ∷ [])) (P.level ++ (v ∷ [])))
  unfolding shut
  growing_open v g few =
      let L' = P.last ++ (0 ∷ []) in
      let n = size P in
      let z : length L' ≡ n + 1 = length-append P.last (0 ∷ []) in
      let B = set L' (n + 1 - 1) (n + 1) in
      let y : length B ≡ length L' = length-set L' (n + 1 - 1) (n + 1) in
      let same : (c : ℕ) → 1 ≤ c → c < n + 1 → entry L' c ≡ entry P.last c = λ c l u. entry_before P.last 0 c l (omega arith) in
      let b = below P.last (n + 1) ds g.nest in
      record {
        nest = rw z (
          (λ c l u. by_order c (n + 1) (λ w. let e = same c l w in let h = b c l w in omega arith) (λ w. let e = entry_new P.last 0 c (omega arith) in omega arith)),
          omega arith,
          omega arith,
          nest_same P.last L' (n + 1) ds same g.nest,
        );
        sound = rw z (opened_sound P.last P.root P.level v ds B g.nest g.sound (omega arith) (entry_set L' (n + 1) (n + 1) (omega arith) (omega arith))
            (λ c l u. entry_other L' (n + 1) (n + 1) c l (omega arith) (omega arith) ∙ same c l (omega arith)) few);
      }

  pub growing_close : (d : ℕ) → Growing (d ∷ ds) P → Growing ds (plant (set P.last (d - 1) (size P)) P.root P.level)
  unfolding shut
  growing_close d g =
      let n = size P in
      let z : length (set P.last (d - 1) n) ≡ n = length-set P.last (d - 1) n in
      let h = g.nest in
      record {
        nest = rw z (nest_past _ d (n + 1) ds (omega arith)
            (λ c l u. entry-split P.last d n c l h.1 (omega arith) (λ e p. omega arith) (λ e p. let k = h.0 c l u in omega arith))
            (nest_same P.last _ d ds (λ c l u. entry_other P.last d n c l h.1 (omega arith)) h.3));
        sound = rw z g.sound;
      }

-- with no device open the tables are those that a check accepts
pub growing_end : (P : Plant) → Growing [] P → plant_refusal P ≡ 0
unfolding shut
growing_end P g = accepts P g.sound
