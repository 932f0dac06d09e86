-- A device stands in an unshared list where a posting carries to it.
use Prim.Native.Nat.{ℕ, zero, suc, ◌+◌, ◌-◌}
use mathlib.Core.Path.{◌≡◌, refl, sym, ◌∙◌}
use mathlib.Core.Bool.{Bool, false, ◌&&◌, ◌||◌, or_assoc}
use mathlib.Core.List.{List, [], ◌∷◌, ◌++◌}
use native.Mathlib.Omega.{arith}
use lib.Dec.{leb, ltb, eqb}
use borrow.Author.Tests.{eqb-false}
use Rattle.laws.proofs.Tests.{tests, flags, agree}
use Rattle.laws.specs.Search.{any}
use Rattle.laws.proofs.Cases.{either}
use Rattle.laws.proofs.Joined.{some, some_cons}
use Rattle.index.specs.Postings.{device, reach, carries}
use Rattle.index.specs.Unshared.{count_up, unshared, member}

-- whether some posting of the list carries to device d
unfoldable pub carried_by : List ℕ → List ℕ → ℕ → Bool
carried_by last [] d = false
carried_by last (q ∷ qs) d = carries last q d || carried_by last qs d

member_append : (d : ℕ) (a b : List ℕ) → member d (a ++ b) ≡ (member d a || member d b)
unfolding member
member_append d [] b = refl
member_append d (e ∷ es) b = rw (member_append d es b) (sym (or_assoc (eqb d e) (member d es) (member d b)))

member_count : (d a n : ℕ) → member d (count_up a n) ≡ (leb a d && ltb d (a + n))
unfolding member count_up
member_count d a zero = sym (simp tests (omega arith))
member_count d a (suc n) = rw (member_count d (a + 1) n) (either (eqb d a)
    (λ e. let u : d ≡ a = omega flags in rw e (sym (simp tests (omega arith))))
    (λ e. let u : d ≡ a → ⊥ = eqb-false d a e in rw e (agree _ _ (
      (λ h. let k = simp tests at h in simp tests (omega arith)),
      λ h. let k = simp tests at h in simp tests (λ g. omega (arith, k (omega arith))),
    ))))

member_carries : (last : List ℕ) (q d : ℕ) → member d (count_up (device q) (reach last q + 1 - device q)) ≡ carries last q d
member_carries last q d = member_count d (device q) _ ∙ agree _ _ (
  (λ h. let k = simp tests at h in simp tests (omega arith)),
  λ h. let k = simp tests at h in simp tests (λ g. omega (arith, k g)),
)

-- a device stands in an unshared list where some posting carries to it
pub member_unshared : (last l : List ℕ) (d : ℕ) → member d (unshared last l) ≡ carried_by last l d
unfolding member unshared carried_by
member_unshared last [] d = refl
member_unshared last (q ∷ qs) d =
    rw (member_append d (count_up (device q) (reach last q + 1 - device q)) (unshared last qs), member_carries last q d, member_unshared last qs d)

carried_some : (last l : List ℕ) (d : ℕ) → carried_by last l d ≡ some (λ q. carries last q d) l
unfolding carried_by any
carried_some last [] d = refl
carried_some last (q ∷ qs) d = rw (carried_some last qs d) (sym (some_cons (λ p. carries last p d) q qs))

-- and so where a search through the postings finds one that does
pub unshared_some : (last l : List ℕ) (d : ℕ) → member d (unshared last l) ≡ some (λ q. carries last q d) l
unshared_some last l d = member_unshared last l d ∙ carried_some last l d
