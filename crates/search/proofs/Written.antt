-- Laws of the devices that a round writes, on plain values.
use Prim.Native.Nat.{ℕ, zero, suc, ◌+◌, ◌-◌, ◌≤◌, ◌<◌}
use native.Mathlib.Omega.{arith}
use native.Mathlib.Numerals.{add-one}
use native.Mathlib.Nat.{add-zero}
use mathlib.Core.Bool.{Bool, true, false}
use mathlib.Core.List.{List, ◌++◌, append_assoc}
use mathlib.Core.Path.{◌≡◌, sym, ◌∙◌}
use lib.ListN.{length, drop, set, length-set, length-append, length-drop}
use lib.Seq.{sets, sets-eq, take_at, drop_at, drop-drop}
use Rattle.steps.specs.Matching.{put, matching}
use Rattle.search.specs.inner.Cursors.{Writes}

pub matching_few : (ok : ℕ → Bool) (n d : ℕ) → length (matching ok n d) ≤ n
unfolding matching
matching_few ok zero d = omega arith
matching_few ok (suc n) d = put_few (ok d) (matching ok n (d + 1)) (matching_few ok n (d + 1))
  where
    put_few : (b : Bool) (l : List ℕ) → length l ≤ n → length (put b d l) ≤ suc n
    put_few true l h = omega arith
    put_few false l h = omega arith

-- devices put after some that stand at the front
pub sets_after : (ds done out : List ℕ) (n : ℕ) → length done ≡ n → n + length ds ≤ length out
    → sets (done ++ drop n out) n ds ≡ (done ++ ds) ++ drop (n + length ds) out
sets_after ds done out n e h =
    let w : n + length ds ≤ length (done ++ drop n out) = rw (length-append, length-drop) (omega arith) in
    sets-eq ds (done ++ drop n out) n w
    ∙ rw (take_at done (drop n out) n e, ← drop-drop (length ds) n (done ++ drop n out), drop_at done (drop n out) n e, drop-drop, append_assoc)

-- the devices before d are written; those from d on, put from index n on, give what the whole gives
pub record Filling (ok : ℕ → Bool) (from to : ℕ) (out₀ : List ℕ) (count : ℕ) (out : List ℕ) (d n : ℕ) : Type 0 where
  pub long : length out ≡ length out₀
  pub room : n < d
  pub within : d ≤ to + 1
  pub same : sets out₀ count (matching ok (to + 1 - from) from) ≡ sets out n (matching ok (to + 1 - d) d)
  pub total : count + length (matching ok (to + 1 - from) from) ≡ n + length (matching ok (to + 1 - d) d)

module _ {ok : ℕ → Bool} {from to : ℕ} {out₀ : List ℕ} {count : ℕ} {out : List ℕ} {d n : ℕ} (a : Filling ok from to out₀ count out d n) where
  next : d ≤ to → to + 1 - d ≡ suc (to + 1 - (d + 1))
  next h = omega arith

  pub filling_put : {n' : ℕ} {out' : List ℕ} → d ≤ to → ok d ≡ true → out' ≡ set out n d → n' ≡ n + 1 → Filling ok from to out₀ count out' (d + 1) n'
  unfolding matching
  filling_put h e o c = rw (o, c) (record {
    long = rw length-set a.long;
    room = omega arith;
    within = omega arith;
    same = a.same ∙ rw (next h, e, add-one n);
    total = a.total ∙ rw (next h, e) (omega arith);
  })

  pub filling_skip : {n' : ℕ} {out' : List ℕ} → d ≤ to → ok d ≡ false → out' ≡ out → n' ≡ n → Filling ok from to out₀ count out' (d + 1) n'
  unfolding matching
  filling_skip h e o c = rw (o, c) (record {
    long = a.long;
    room = omega arith;
    within = omega arith;
    same = a.same ∙ rw (next h, e);
    total = a.total ∙ rw (next h, e);
  })

  pub filling_ends : to < d → Writes ok from to out₀ out count n
  unfolding matching
  filling_ends h = let u : to + 1 - d ≡ 0 = omega arith in record { written = sym (a.same ∙ rw u); long = sym (a.total ∙ rw (u, add-zero n)) }
