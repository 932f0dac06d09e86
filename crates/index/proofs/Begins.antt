-- Where the lists of an index begin and end: they lie one after another, and together they are the postings.
use Prim.Native.Nat.{ℕ, zero, suc, ◌+◌, ◌-◌, ◌≤◌, ◌<◌}
use mathlib.Core.Path.{◌≡◌, refl, sym, ap, ◌∙◌}
use mathlib.Core.Bool.{false}
use mathlib.Core.List.{List, ◌++◌}
use native.Mathlib.Omega.{arith}
use lib.ListN.{length, get_or, take, get_or-eq_default, take-append-drop}
use lib.Seq.{slice, ext_get_or, length-take-le, take-length, take-take}
use Rattle.laws.specs.Joined.{joined}
use Rattle.laws.specs.Tables.{entry}
use Rattle.index.specs.Index.{Index, count, list, wrong_start}
use Rattle.index.specs.Laid.{laid}
use Rattle.index.specs.inner.Outlined.{Outlined}
use Rattle.laws.proofs.Tests.{tests}
use Rattle.laws.proofs.Cases.{by_order}
use Rattle.laws.proofs.Lists.{getD_within}
use Rattle.laws.proofs.Search.{none_any}
use Rattle.laws.proofs.Joined.{length_tabled, tabled_at}
use Rattle.index.proofs.Starts.{start_bounds}

-- where the list of the term after n terms begins
abbrev pub begin : Index → ℕ → ℕ
begin I n = get_or I.starts n (length I.postings)

first_start : (I : Index) (k : ℕ) → k ≡ 1 → wrong_start I k ≡ false → entry I.starts k ≡ 0
first_start I k e w = let z = simp tests at w in omega (arith, z.0.0 e)

slice_next : (a e : ℕ) (l : List ℕ) → a ≤ e → take a l ++ slice a e l ≡ take e l
slice_next a e l u = ap (λ (t : List ℕ). t ++ slice a e l) (sym (take-take a e l u)) ∙ take-append-drop a (take e l)

module _ (I : Index) (o : Outlined I) where
  pub start_is : (n : ℕ) → n < count I → entry I.starts (suc n) ≡ begin I n
  start_is n u =
      let e : suc n - 1 ≡ n = omega arith in
      rw e (getD_within I.starts n 0 (length I.postings) (omega (arith, o.even)))

  pub list_is : (n : ℕ) → n < count I → list I (suc n) ≡ slice (begin I n) (begin I (suc n)) I.postings
  list_is n u = rw (start_is n u)

  pub ordered : (n : ℕ) → n < count I → (begin I n ≤ begin I (suc n)) × (begin I (suc n) ≤ length I.postings)
  ordered n u = let b = start_bounds I o (suc n) (omega arith) (omega arith) in let s = start_is n u in (omega arith, omega arith)

  pub first_begin : begin I 0 ≡ 0
  first_begin =
      by_order 0 (count I)
      (λ v.
      let s = start_is 0 v in
      let w = first_start I 1 refl (none_any (wrong_start I) o.starts_rise 1 (omega arith) (omega arith)) in omega arith)
      (λ v.
      let e : begin I 0 ≡ length I.postings = get_or-eq_default I.starts (length I.postings) (omega (arith, o.even)) in
      let w = (simp tests at o.none_stray) (omega arith) in omega arith)

  pub last_begin : begin I (count I) ≡ length I.postings
  last_begin = get_or-eq_default I.starts (length I.postings) (omega (arith, o.even))

  pub begin_within : (n : ℕ) → n ≤ count I → begin I n ≤ length I.postings
  begin_within zero u = omega (arith, first_begin)
  begin_within (suc n) u = (ordered n (omega arith)).1

  -- the first n lists are the postings up to where the next begins
  pub first_lists : (n : ℕ) → n ≤ count I → joined (list I) n ≡ take (begin I n) I.postings
  unfolding joined
  first_lists zero u = rw first_begin
  first_lists (suc n) u =
      rw (first_lists n (omega arith), list_is n (omega arith)) (slice_next (begin I n) (begin I (suc n)) I.postings (ordered n (omega arith)).0)

  pub all_lists : joined (list I) (count I) ≡ I.postings
  all_lists = first_lists (count I) (omega arith) ∙ rw last_begin (take-length I.postings)

  -- so the index is the one made of its terms and lists
  pub laid_own : laid I.terms (list I) ≡ I
  laid_own =
      let n = length_tabled (λ k. length (joined (list I) (k - 1))) (count I) in
      let starts : (laid I.terms (list I)).starts ≡ I.starts = ext_get_or 0 _ _ (n ∙ sym o.even) (λ i u.
      let e : i + 1 - 1 ≡ i = omega arith in
      tabled_at (λ k. length (joined (list I) (k - 1))) (count I) i 0 (omega arith)
      ∙ rw (e, first_lists i (omega arith)) (length-take-le (begin I i) I.postings (begin_within i (omega arith))
      ∙ getD_within I.starts i (length I.postings) 0 (omega (arith, o.even)))) in
      rw (starts, all_lists)
