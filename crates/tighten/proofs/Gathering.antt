-- The first posting of a tight list, by what is read of a list whose postings lie apart.
use Prim.Native.Nat.{ℕ, ◌+◌, ◌-◌, ◌*◌, ◌≤◌, ◌<◌}
use mathlib.Core.Path.{◌≡◌, sym, ◌∙◌, ap}
use mathlib.Core.Bool.{Bool, true, false, cond, not, true≢false}
use mathlib.Core.List.{List, ◌∷◌}
use native.Mathlib.Omega.{arith}
use lib.Dec.{eqb}
use lib.ListN.{length, get_or, drop, get_or-eq_default}
use Rattle.laws.specs.Tables.{entry}
use Rattle.laws.proofs.Tests.{tests, flags, refuted}
use Rattle.laws.proofs.Cases.{by_order, either}
use Rattle.index.specs.Around.{Around}
use Rattle.index.specs.Postings.{posting, device, shared, reach}
use Rattle.tighten.specs.Tight.{whole, leaf, tight}
use Rattle.tighten.specs.inner.Branches.{carried}
use Rattle.plant.specs.inner.Forest.{Forest}
use Rattle.tighten.specs.inner.List.{Apart, RunsTo, Known, Opens, Runs, Leads}
use Rattle.tighten.specs.declared.list.Run.{Run}
use Rattle.tighten.proofs.Branches.{posting_at, whole_has, whole_of}
use Rattle.tighten.proofs.Leading.{leading}
use Rattle.tighten.proofs.Following.{own_device, own_private, of_plant, held}
use Rattle.tighten.proofs.Apart.{own_reach, carries_at, between, before, rest_later, rest_beyond, rest_known, past_known}

module _ {last l : List ℕ} (F : Forest last) (A : Apart last l) (u : 0 < length l) where
  abbrev q : ℕ
  q = get_or l 0 0

  abbrev has : ℕ → Bool
  has = carried last l

  inside : (1 ≤ device q) × (device q ≤ length last)
  inside = let e = A.of_plant 0 u in (e.first, e.last)

  -- the first n postings become the posting of the first device
  leads : (n until x : ℕ) → 1 ≤ n → n ≤ length l → (whole last has (device q) ≡ true → reach last (get_or l (n - 1) 0) ≡ entry last (device q))
      → (whole last has (device q) ≡ false → reach last (get_or l (n - 1) 0) ≡ device q) → x ≡ posting_at last has (device q)
      → Known last (drop n l) until → Leads last l (record { posting = x; taken = n; until = until })
  leads n until x a b w v e k = record {
    some = a;
    within = b;
    is = leading F (record {
      first = inside.0;
      upto = inside.1;
      lower = before F A;
      own = carries_at F A 0 (device q) u (omega arith) (own_reach F A 0 u);
      all = w;
      alone = v;
      later = rest_later F A n a b;
      beyond = rest_beyond F A n a b;
    }) ∙ ap (λ y. y ∷ tight last (carried last (drop n l))) (sym e);
    known = k;
  }

  -- a posting that reaches the end of its branch makes it whole
  whole_by : reach last q ≡ entry last (device q) → whole last has (device q) ≡ true
  whole_by e = whole_of last has (device q) (λ d a b c v. carries_at F A 0 d u c (omega arith))

  lead_whole_one : (until x : ℕ) → reach last q ≡ entry last (device q) → x ≡ posting (device q) (not (leaf last (device q)))
      → Known last (drop 1 l) until → Leads last l (record { posting = x; taken = 1; until = until })
  lead_whole_one until x e f k =
      let w = whole_by e in
      leads 1 until x (omega arith) u (λ z. e) (λ z. absurd (true≢false (sym w ∙ z))) (f ∙ rw w) k

  -- a private posting whose branch is not whole stays
  lead_kept : (until : ℕ) → shared q ≡ false → whole last has (device q) ≡ false
      → Known last (drop 1 l) until → Leads last l (record { posting = q; taken = 1; until = until })
  lead_kept until s w k =
      let r : reach last q ≡ device q = rw s in
      let h = simp tests at s in
      leads 1 until q (omega arith) u (λ z. absurd (true≢false (sym z ∙ w))) (λ z. r) (rw w (omega (arith, h))) k

  -- a branch that is gathered: the first n postings reach its end, and every device carries the term
  lead_gathered : (n until : ℕ) → 1 ≤ n → n ≤ length l → shared q ≡ false → device q < entry last (device q)
      → ((d : ℕ) → device q ≤ d → d ≤ entry last (device q) → has d ≡ true) → reach last (get_or l (n - 1) 0) ≡ entry last (device q)
      → Known last (drop n l) until → Leads last l (record { posting = q + 1; taken = n; until = until })
  lead_gathered n until a b s f all r k =
      let h = simp tests at s in
      let w : whole last has (device q) ≡ true = whole_of last has (device q) (λ d x y c v. all d c v) in
      let y : leaf last (device q) ≡ false = omega flags in
      leads n until (q + 1) a b (λ x. r) (λ x. absurd (true≢false (sym w ∙ x))) (rw (w, y) (omega (arith, h))) k

-- ---- nothing is to be gathered

module _ {last l : List ℕ} (F : Forest last) (A : Apart last l) (u : 0 < length l) {d end x : ℕ} (g : d ≡ device (get_or l 0 0)) (e : end ≡ entry last d)
    (m : x ≡ cond (eqb end d) (device (get_or l 0 0) * 2) (get_or l 0 0)) where
  at_end : end ≡ entry last (device (get_or l 0 0))
  at_end = rw g at e

  module _ {b : Bool} (f : b ≡ not (eqb (device (get_or l 1 0) * 2) (x + cond (eqb end d) 262_144 2))) where
    abbrev q₀ : ℕ
    q₀ = get_or l 0 0

    lacks_next : b ≡ true → eqb end d ≡ false → shared q₀ ≡ false → whole last (carried last l) (device q₀) ≡ false
    lacks_next p n s =
        let r : reach last q₀ ≡ device q₀ = rw s in
        let h = simp tests at s in
        let i = A.of_plant 0 u in
        let o = F.own (device q₀) i.first i.last in
        let z = at_end in
        let y : x ≡ q₀ = rw n at m in
        let apart : device (get_or l 1 0) * 2 ≡ q₀ + 2 → ⊥ = rw y at (simp tests at (rw n at (sym f ∙ p))) in
        refuted _ (λ w. true≢false (sym (whole_has last (carried last l) (device q₀ + 1) w (omega arith, omega (flags, F.inner (device q₀) i.first i.last)) (omega arith, omega flags))
        ∙ between F A 0 (device q₀ + 1) u (omega arith) (λ v. let y = A.beyond 0 1 (omega arith) v in
        by_order (device q₀ + 1) (device (get_or l 1 0)) (λ z. z) (λ z. absurd (apart (omega (arith, h)))))))

    pub lead_alone : {until : ℕ} → b ≡ true → Known last l until → Leads last l (record { posting = x; taken = 1; until = until })
    lead_alone {until} p k =
        let i = at_end in
        let w = rest_known F A 1 (omega arith) u (k.runs u) in
        either (eqb end d)
        (λ t.
        let z : entry last (device q₀) ≡ device q₀ = omega flags in
        let y : leaf last (device q₀) ≡ true = omega flags in
        let c : x ≡ device q₀ * 2 = rw t at m in
        lead_whole_one F A u until x (either (shared q₀) (λ s. rw s) (λ s. rw s (sym z))) (rw y (omega arith)) w)
        (λ t.
        let c : x ≡ q₀ = rw t at m in
        let y : leaf last (device q₀) ≡ false = omega flags in
        either (shared q₀)
        (λ s. let h = simp tests at s in lead_whole_one F A u until x (rw s) (rw y (omega arith)) w)
        (λ s. rw c (lead_kept F A u until s (lacks_next p t s) w)))

    -- else the first posting is private, its device is no leaf, and the next is at the device after it
    pub opens : b ≡ false → Opens last l d end
    opens p =
        let z : device (get_or l 1 0) * 2 ≡ x + cond (eqb end d) 262_144 2 = simp tests at (sym f ∙ p) in
        let few : device (get_or l 1 0) ≤ length last =
        by_order 1 (length l) (λ v. (A.of_plant 1 v).last) (λ v. let y = get_or-eq_default l 0 {n = 1} v in rw y (omega arith)) in
        let n = F.few in
        let i = A.of_plant 0 u in
        let o = F.own (device q₀) i.first i.last in
        let t : eqb end d ≡ false = refuted _ (λ t. let y = rw t at z in omega arith) in
        let c : x ≡ q₀ = rw t at m in
        let y : device (get_or l 1 0) * 2 ≡ x + 2 = rw t at z in
        let j = at_end in
        record { some = u; own = omega arith; branch = e; feeds = omega flags }

-- ---- something is

module _ {last l : List ℕ} {d end : ℕ} (F : Forest last) (A : Apart last l) (o : Opens last l d end) where
  pub known_runs : {until : ℕ} → Known last l until → d ≤ until → RunsTo last l until
  known_runs k v = let z = own_device F A o in k.runs o.some (omega arith)

  -- the run ends before the branch does
  pub lead_short : {run : ℕ} → RunsTo last l run → run < end → Leads last l (record { posting = get_or l 0 0; taken = 1; until = run })
  lead_short {run} R v =
      let a = R.first in
      let z = own_device F A o in
      let p = of_plant F A o in
      let b = o.branch in
      lead_kept F A o.some run (own_private F A o)
      (refuted _ (λ w. true≢false (sym (whole_has last (carried last l) (run + 1) w (omega arith, omega (arith, F.inner d p.0 p.1)) (omega arith, rw z (omega arith))) ∙ R.stop)))
      (rest_known F A 1 (omega arith) o.some (λ z. R))

  -- a run that is known
  pub within_whole : {until n : ℕ} → RunsTo last l until → end ≤ until → Around device l 1 (length l) (end + 1) n n
      → Leads last l (record { posting = get_or l 0 0 + 1; taken = n; until = until })
  within_whole {until} {n} R v N =
      let u = o.some in
      let z = own_device F A o in
      let f = o.feeds in
      let b = o.branch in
      let n1 : 1 ≤ n = omega (arith, N.from) in
      let n2 : n ≤ length l = N.to in
      let j : n - 1 + 1 ≡ n = omega arith in
      let low : device (get_or l (n - 1) 0) ≤ end =
      by_order 1 n (λ x. omega (arith, N.before (omega arith))) (λ x. let j : n - 1 ≡ 0 = omega arith in rw j (omega arith)) in
      let most = held F A o (n - 1) (omega arith) low in
      let reaches : reach last (get_or l (n - 1) 0) ≡ end =
      by_order (reach last (get_or l (n - 1) 0)) end
      (λ x. absurd (true≢false (sym (R.all end (omega arith) v) ∙ between F A (n - 1) end (omega arith) x (λ k. rw j (omega (arith, N.after (omega arith)))))))
      (λ x. omega arith) in
      let is : reach last (get_or l (n - 1) 0) ≡ entry last (device (get_or l 0 0)) = rw z (omega arith) in
      lead_gathered F A u n until n1 n2 (own_private F A o) (rw z (omega arith)) (λ e x y. let k : e ≤ entry last d = rw z at y in R.all e x (omega arith)) is
      (rest_known F A n n1 n2 (λ z. R))

  -- a run that was found
  module _ {r : Run} (R : Runs last l end r) where
    pub run_short : r.until < end → Leads last l (record { posting = get_or l 0 0; taken = 1; until = r.until })
    run_short v = lead_short (record { first = R.running.first; all = R.running.all; stop = R.stop v }) v

    pub run_whole : end ≤ r.until → Leads last l (record { posting = get_or l 0 0 + 1; taken = r.count; until = r.until })
    run_whole v =
        let z = own_device F A o in
        let f = o.feeds in
        let b = o.branch in
        let h = R.running in
        let m = h.most in
        let is : reach last (get_or l (r.count - 1) 0) ≡ entry last (device (get_or l 0 0)) = rw z (omega (arith, h.is)) in
        lead_gathered F A o.some r.count r.until h.some h.within (own_private F A o) (rw z (omega arith))
        (λ e x y. let k : e ≤ entry last d = rw z at y in h.all e x (omega arith)) is (past_known F A r.count h.some h.within h.is)
