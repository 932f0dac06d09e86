-- The forms of a plant's devices are taken, and make its device tables.
use Prim.Native.Nat.{ℕ, zero, suc, ◌+◌, ◌-◌, ◌≤◌, ◌<◌}
use mathlib.Core.Path.{◌≡◌, refl, sym, ◌∙◌, subst}
use mathlib.Core.Bool.{true, false}
use mathlib.Core.List.{List, [], ◌∷◌, ◌++◌, append_assoc, append-nil}
use native.Mathlib.Omega.{arith}
use native.Mathlib.Numerals.{add-one}
use lib.Dec.{leb, ltb}
use lib.ListN.{length, get_or, take, set, length-append}
use lib.Seq.{slice, slice-cons, slice_empty, length-slice, take-suc, set_at, take_all, take-length}
use Rattle.laws.specs.Tables.{entry}
use Rattle.laws.proofs.Tests.{flags}
use Rattle.laws.proofs.Cases.{by_order}
use Rattle.laws.proofs.Search.{none_any}
use Rattle.plant.specs.Plant.{Plant, plant, size}
use Rattle.plant.proofs.Forest.{Sound}
use Rattle.index.specs.Index.{index}
use Rattle.plant_text.specs.PlantText.{State, devices, line_refusal, next, outermost}
use Rattle.plant_text.specs.declared.Room.{Room}
use Rattle.text.specs.Forms.{plain, with_number}
use Rattle.plant_text.specs.Form.{device_line, close_line}
use Rattle.written_text.specs.Forms.{forest, device_forms}
use Rattle.written_text.specs.Refusals.{too_many_tiers}
use Rattle.written_text.proofs.Written.{device, close}
use Rattle.written_text.proofs.Taking.{Takes, none, takes_on, takes_append}
use Rattle.written_text.specs.inner.Nested.{Nested, Depth, deep}
use Rattle.laws.proofs.Lists.{slice_join}
use Rattle.written_text.proofs.Stretches.{here, nested_all, first_end, nested_first, nested_rest, ends_within, own_tiers, depth_first, depth_rest, depth_none}
use Rattle.written_text.proofs.Roots.{Rooted, rooted_in, rooted_past, rooted_root}

-- ---- what is made of the devices

abbrev pub opened : List ℕ → List ℕ → List ℕ → List ℕ → State
opened L R W stack = record { stage = devices; opened = stack; plant = plant L R W; index = index [] [] [] }

module _ (r : Room) (L R W stack : List ℕ) where
  open_taken : (v : ℕ) → v ≤ 255 → length stack < 32 → length L < r.devices → line_refusal r (opened L R W stack) (with_number device_line v) ≡ 0
  unfolding line_refusal
  open_taken v a b c =
      let x : ltb 255 v ≡ false = omega flags in
      let y : leb 32 (length stack) ≡ false = omega flags in
      let z : leb r.devices (length L) ≡ false = omega flags in
      rw (x, y, z)

  open_next : (v n o : ℕ) → length L ≡ n → outermost stack (n + 1) ≡ o → next (opened L R W stack) (with_number device_line v) ≡ opened (L ++ (0 ∷ [])) (R ++ (o ∷ [])) (W ++ (v ∷ [])) ((n + 1) ∷ stack)
  unfolding next
  open_next v n o e q = rw (e, q)

  close_taken : (d : ℕ) → line_refusal r (opened L R W (d ∷ stack)) (plain close_line) ≡ 0
  unfolding line_refusal
  close_taken d = refl

  close_next : (d n : ℕ) → length L ≡ n → next (opened L R W (d ∷ stack)) (plain close_line) ≡ opened (set L (d - 1) n) R W stack
  unfolding next
  close_next d n e = rw e

module _ (r : Room) (P : Plant) (S : Sound P) (shallow : too_many_tiers P.last ≡ false) (fits : size P ≤ r.devices)
    (coded : (i : ℕ) → get_or P.level i 0 ≤ 255) where
  abbrev last : List ℕ
  last = P.last

  -- the state with a devices, whose last devices are L
  abbrev at : List ℕ → ℕ → List ℕ → State
  at L a stack = opened L (take a P.root) (take a P.level) stack

  -- a device opens
  opens : (a e : ℕ) (L stack : List ℕ) → a < e → Nested last a e → length L ≡ a → Depth last a e (length stack) → Rooted last stack a e →
      (line_refusal r (at L a stack) (with_number device_line (get_or P.level a 0)) ≡ 0) × (next (at L a stack) (with_number device_line (get_or P.level a 0)) ≡ at (L ++ (0 ∷ [])) (a + 1) ((a + 1) ∷ stack))
  opens a e L stack l b n depth rooted =
      let u = b.within in
      let x = S.roots in
      let y = S.levels in
      let z : a + 1 - 1 ≡ a = omega arith in
      let o = rooted_root P S stack a e rooted l u in
      let t = own_tiers b depth l in
      let few : length stack < 32 = let w = none_any (deep last) shallow (a + 1) (omega arith) (omega arith) in omega flags in (
        open_taken r L (take a P.root) (take a P.level) stack (get_or P.level a 0) (coded a) few (omega arith),
        open_next r L (take a P.root) (take a P.level) stack (get_or P.level a 0) a (entry P.root (a + 1)) n (sym o)
            ∙ rw (z, add-one a, take-suc P.root a 0 (omega arith), take-suc P.level a 0 (omega arith)),
      )

  -- the table of last devices after the branch of device a + 1
  closes_table : (a m : ℕ) (L : List ℕ) → a < m → m ≤ size P → length L ≡ a → get_or last a 0 ≡ m →
      (length (L ++ (0 ∷ []) ++ slice (a + 1) m last) ≡ m) × (set (L ++ (0 ∷ []) ++ slice (a + 1) m last) a m ≡ L ++ slice a m last)
  closes_table a m L l u n g =
      let x : length (L ++ (0 ∷ []) ++ slice (a + 1) m last) ≡ m = simp length-append (omega (arith, length-slice (a + 1) m last u)) in
      (x, rw (append_assoc L (0 ∷ []) (slice (a + 1) m last), set_at L 0 (slice (a + 1) m last) m a n, slice-cons a m last 0 l u, g, add-one a))

  -- no device is left
  none_left : (a e : ℕ) (L stack : List ℕ) → e ≡ a → Takes r (at L a stack) [] (at (L ++ slice a e last) e stack)
  none_left a e L stack z = rw (z, slice_empty a last, append-nil L) none

  forest_taken : (k a e : ℕ) (L stack : List ℕ) → Nested last a e → e ≤ a + k → length L ≡ a → Depth last a e (length stack) → Rooted last stack a e →
      Takes r (at L a stack) (forest last P.level k a e) (at (L ++ slice a e last) e stack)
  unfolding forest
  forest_taken zero a e L stack b f n depth rooted = none_left a e L stack (let x = b.ordered in omega arith)
  forest_taken (suc k) a e L stack b f n depth rooted =
      by_order a e
      (λ v.
      let t : ltb a e ≡ true = omega flags in
      let u = b.within in
      let m = get_or last a 0 in
      let g = first_end b v in
      let z : a + 1 - 1 ≡ a = omega arith in
      let y : length (L ++ (0 ∷ [])) ≡ a + 1 = simp length-append (omega arith) in
      let o = opens a e L stack v b n depth rooted in
      let c = closes_table a m L g.0 (omega arith) n refl in
      let deeper : Depth last (a + 1) m (length ((a + 1) ∷ stack)) = rw (add-one (length stack)) at (depth_first b depth v) in
      let inner = forest_taken k (a + 1) m (L ++ (0 ∷ [])) ((a + 1) ∷ stack) (nested_first b v) (omega arith) y deeper (rooted_in last stack a e m (here last a) g.1 rooted) in
      let rest = forest_taken k m e (L ++ slice a m last) stack (nested_rest b v) (omega arith)
      (simp length-append (omega (arith, length-slice a m last (omega arith)))) (depth_rest b depth v) (rooted_past last stack a e m (omega arith) (ends_within b v) rooted) in
      let q : next (at (L ++ (0 ∷ []) ++ slice (a + 1) m last) m ((a + 1) ∷ stack)) (plain close_line) ≡ at (L ++ slice a m last) m stack =
      close_next r (L ++ (0 ∷ []) ++ slice (a + 1) m last) (take m P.root) (take m P.level) stack (a + 1) m c.0 ∙ rw (z, c.1) in
      let w : L ++ slice a m last ++ slice m e last ≡ L ++ slice a e last =
      append_assoc L (slice a m last) (slice m e last) ∙ rw (slice_join last a m e (omega arith) g.1 u) in
      rw t (takes_on (device (get_or P.level a 0)) o.0 o.1 (takes_append inner
      (takes_on close (close_taken r (L ++ (0 ∷ []) ++ slice (a + 1) m last) (take m P.root) (take m P.level) stack (a + 1)) q
      (subst (λ (x : List ℕ). Takes r (at (L ++ slice a m last) m stack) (forest last P.level k m e) (at x e stack)) w rest)))))
      (λ v. let t : ltb a e ≡ false = omega flags in rw t (none_left a e L stack (let x = b.ordered in omega arith)))

  -- all the devices, from none on
  pub devices_taken : Takes r (opened [] [] [] []) (device_forms P) (opened P.last P.root P.level [])
  devices_taken =
      let x : take (size P) P.root ≡ P.root = take_all (size P) P.root (omega (arith, S.roots)) in
      let y : take (size P) P.level ≡ P.level = take_all (size P) P.level (omega (arith, S.levels)) in
      let z : slice 0 (size P) last ≡ last = take-length last in
      let t = forest_taken (size P) 0 (size P) [] [] (nested_all P S) (omega arith) refl (depth_none last (size P)) (λ c p q. absurd (omega arith)) in
      rw (x, y, z) at t
