-- Laws of the lists that a query names, as code looks them up.
use Prim.Native.Nat.{ℕ, ◌+◌, ◌≤◌, ◌<◌}
use native.Mathlib.Omega.{arith}
use native.Mathlib.Numerals.{add-one}
use mathlib.Core.List.{List, map, map-append}
use mathlib.Core.Path.{◌≡◌, ap, ◌∙◌}
use denote.Ref.{Bor}
use lib.ListN.{length, get_or, take, set, length-map, length-set}
use lib.Seq.{take-suc, take-suc-set, take-length}
use Rattle.std.specs.List.{enumerate_from}
use Rattle.std.proofs.lemmas.List.{get_or_read}
use Rattle.std.proofs.lemmas.List.FromFn.{length-enumerate_from, get_or-enumerate_from}
use Rattle.laws.proofs.Maps.{map_set}
use Rattle.search.specs.inner.Cursors.{most_cursors, Gathers}

-- the first i of some slices are the lists of the first i terms
pub record Gathered (list : ℕ → List ℕ) (named : List ℕ) (slices : List (Bor (List ℕ))) (i : ℕ) : Type 0 where
  pub long : length slices ≡ most_cursors
  pub same : take i (map (λ x. x.now) slices) ≡ map list (take i named)

module _ {list : ℕ → List ℕ} {named : List ℕ} {slices : List (Bor (List ℕ))} {i : ℕ} (a : Gathered list named slices i) where
  room : length named ≤ most_cursors → i < length named → i < length (map (λ x. x.now) slices)
  room w h = rw length-map (omega (arith, a.long))

  -- the lookup of the term that comes next, and its number
  pub gathered_more : {k x : ℕ} (l : Bor (List ℕ)) → length named ≤ most_cursors
      → (i < length (enumerate_from 0 named)) × ((k, x) ≡ get_or (enumerate_from 0 named) i (k, x)) → l.now ≡ list x → Gathered list named (set slices k l) (i + 1)
  gathered_more {k} {x} l w t e =
      let h : i < length named = rw length-enumerate_from at t.0 in
      let p : (k, x) ≡ (0 + i, get_or named i x) = t.1 ∙ get_or-enumerate_from 0 named i (k, x) h in
      let n : k ≡ i = omega (arith, ap (λ (y : ℕ × ℕ). y.0) p) in
      let v : x ≡ get_or named i 0 = get_or_read named i x h (ap (λ (y : ℕ × ℕ). y.1) p) 0 in
      let u = room w h in
      rw n (record {
        long = rw length-set a.long;
        same = rw (add-one, map_set (λ x. x.now) slices i l, take-suc-set (map (λ x. x.now) slices) i l.now u, a.same, take-suc named i 0 h, map-append, e, v);
      })

  pub gathered_all : i ≡ length (enumerate_from 0 named) → Gathers list named slices
  gathered_all h = let e : i ≡ length named = rw length-enumerate_from at h in record { long = a.long; same = rw (e, take-length) at a.same }
