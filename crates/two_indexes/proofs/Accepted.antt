-- The refusal of two indexes, and what two accepted ones say of the lists that the lookup gives.
use Prim.Native.Nat.{ℕ, zero, suc}
use mathlib.Core.Path.{◌≡◌, refl, sym, ◌∙◌, fun_ext}
use mathlib.Core.Bool.{true, false, not}
use mathlib.Core.List.{[], ◌++◌, append-nil}
use native.Mathlib.Omega.{arith}
use Rattle.laws.specs.Rows.{pick, otherwise}
use Rattle.laws.specs.Search.{any}
use Rattle.laws.specs.Tables.{entry}
use Rattle.laws.proofs.Cases.{either}
use Rattle.laws.proofs.Rows.{otherwise_none, otherwise_last, pick_none, pick_or}
use Rattle.laws.proofs.Search.{none_any, any_none}
use Rattle.laws.proofs.Tests.{tests, flags, or_no}
use Rattle.plant.specs.Plant.{Plant}
use Rattle.index.specs.Index as one
use Rattle.index.specs.Index.{Index, index, count, is_term, index_rows, tables_refusal}
use Rattle.index.specs.inner.Lists.{SoundList}
use Rattle.index.proofs.Accepted as index_laws
use Rattle.index.proofs.Accepted.{accepts, accepted_rows, accepted_list_of}
use Rattle.two_indexes.specs.Indexes.{Indexes, alone, in_second, any_second, any_first, misfiled, list_of, indexes_refusal}
use Rattle.two_indexes.specs.inner.Rising.{Rise, Misfiled}

-- what the rows come to where none applies: each index is accepted alone, and each term is in its index
pub record Accepted (P : Plant) (S : Indexes) : Type 0 where
  pub first : tables_refusal P S.first ≡ 0
  pub second : tables_refusal P S.second ≡ 0
  pub low : any_second S.first.terms ≡ false
  pub high : any_first S.second.terms ≡ false

-- rows that do not apply from one number on do not from another
both_none : (P : Plant) (S : Indexes) → otherwise (tables_refusal P S.first) (index_rows 55 P.last S.second) ≡ 0
    → (tables_refusal P S.first ≡ 0) × (tables_refusal P S.second ≡ 0)
both_none P S h =
    let a = otherwise_none (tables_refusal P S.first) (index_rows 55 P.last S.second) h in
    (a.0, accepts P S.second (accepted_rows 55 P S.second (omega arith) (index_laws.accepted P S.first a.0).tables a.1))

pub accepted : (P : Plant) (S : Indexes) → indexes_refusal P S ≡ 0 → Accepted P S
unfolding indexes_refusal
accepted P S h =
    let a = otherwise_none (otherwise (tables_refusal P S.first) (index_rows 55 P.last S.second)) _ h in
    let b = both_none P S a.0 in
    let c = (or_no (any_second S.first.terms) (any_first S.second.terms)).0 (pick_none (misfiled S) 14 0 a.1).0 in
    record { first = b.0; second = b.1; low = c.0; high = c.1 }

-- the terms of an accepted index rise
rise : (P : Plant) (I : Index) → tables_refusal P I ≡ 0 → Rise I.terms
rise P I h = record { placed = (index_laws.accepted P I h).terms_rise }

-- the refusal, as the code finds it: where neither index has a row, the terms of both rise, and row 15 is as it should be
pub refused : (P : Plant) (S : Indexes) (b : ℕ) → b ≡ otherwise (tables_refusal P S.first) (index_rows 55 P.last S.second)
    → {w : ℕ} → Misfiled S.first.terms S.second.terms w → otherwise b w ≡ indexes_refusal P S
unfolding indexes_refusal
refused P S zero e m =
    let a = both_none P S (sym e) in
    m.told (rise P S.first a.0) (rise P S.second a.1) ∙ rw (← e)
refused P S (suc b) e m = rw (← e)

-- ---- the lists

pub accepted_rise : (P : Plant) (S : Indexes) → indexes_refusal P S ≡ 0 → Rise S.first.terms × Rise S.second.terms
accepted_rise P S h = let a = accepted P S h in (rise P S.first a.first, rise P S.second a.second)

-- each list that the lookup gives is sound
pub accepted_list : (P : Plant) (S : Indexes) → indexes_refusal P S ≡ 0 → (t : ℕ) → SoundList P.last (list_of S t)
accepted_list P S h t = either (in_second t)
    (λ e. rw e (accepted_list_of P S.second (accepted P S h).second t))
    (λ e. rw e (accepted_list_of P S.first (accepted P S h).first t))

-- a term that belongs in the other index is absent
module _ (I : Index) (t : ℕ) where
  absent : any (count I) (is_term I t) ≡ false → one.list_of I t ≡ []
  absent e = rw e

  absent_high : any_second I.terms ≡ false → in_second t ≡ true → one.list_of I t ≡ []
  absent_high h l = absent (sym (any_none _ (λ k a b. let u = none_any (λ k. in_second (entry I.terms k)) h k a b in simp tests (omega flags))))

  absent_low : any_first I.terms ≡ false → in_second t ≡ false → one.list_of I t ≡ []
  absent_low h l = absent (sym (any_none _ (λ k a b. let u = simp tests at (none_any (λ k. not (in_second (entry I.terms k))) h k a b) in simp tests (omega flags))))

-- so the lookup tells of both indexes: of the two lists of a term one at least is empty, and it gives the other
pub of_both : (P : Plant) (S : Indexes) → indexes_refusal P S ≡ 0 → (t : ℕ) → list_of S t ≡ one.list_of S.first t ++ one.list_of S.second t
of_both P S h t =
    let a = accepted P S h in
    either (in_second t)
    (λ e. let u = absent_high S.first t a.low e in rw (e, u))
    (λ e. let u = absent_low S.second t a.high e in rw (e, u) (sym (append-nil (one.list_of S.first t))))

-- ---- an empty second index

nothing : (t : ℕ) → one.list_of (index [] [] []) t ≡ []
unfolding any
nothing t = refl

pub alone_list : (I : Index) → any_second I.terms ≡ false → list_of (alone I) ≡ one.list_of I
alone_list I h = fun_ext (λ t. either (in_second t) (λ e. let u = absent_high I t h e in rw (e, u) (nothing t)) (λ e. rw e))

pub alone_refusal : (P : Plant) (I : Index) → indexes_refusal P (alone I) ≡ otherwise (tables_refusal P I) (pick (any_second I.terms) 15 0)
unfolding indexes_refusal index_rows any
alone_refusal P I = rw (otherwise_last (tables_refusal P I), pick_or (any_second I.terms) false 15 0)
