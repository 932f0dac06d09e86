-- What tightening answers and leaves in the tables.
use Prim.Native.Nat.{ℕ, zero, suc, ◌-◌}
use mathlib.Core.Path.{◌≡◌, refl, sym, ap, ◌∙◌}
use mathlib.Core.List.{List, ◌++◌}
use lib.ListN.{length, take, replicate}
use Rattle.std.specs.Prelude.{Result, Ok, Err}
use Rattle.laws.specs.Lent.{value_or}
use Rattle.laws.proofs.Lent.{untouched}
use Rattle.refusal.specs.declared.Refusal.{Refusal}
use Rattle.refusal.specs.Numbers.{number, refused, given}
use Rattle.refusal.proofs.Numbers.{number_not_zero, gives as given_by}
use Rattle.plant.specs.Plant.{Plant}
use Rattle.index.specs.Index.{Index, count, tables_refusal}
use Rattle.index.specs.inner.Laying.{ListsLaid}
use Rattle.index.proofs.Accepted.{accepted_outline}
use Rattle.index.proofs.Laying.{laid_starts, laid_postings}
use Rattle.tighten.specs.Tightened.{tight_in, tightened}
use Rattle.tighten.specs.Outcome.{outcome_of, starts_after, postings_after, tightened_length}
use Rattle.tighten.specs.Promises.{TightenGives}
use Rattle.tighten.specs.inner.Branches.{tight_of}
use Rattle.tighten.proofs.Theorems.{tight_lists, tightens}

-- the value of an outcome, by the refusal
length_or : (n left : ℕ) → tightened_length (given n left) ≡ value_or n left
length_or zero left = refl
length_or (suc n) left = refl

module _ (P : Plant) (I : Index) where
  -- the outcome and the tables are as the definition says
  gives : (r : Result ℕ Refusal) {starts p : List ℕ} → refused r ≡ tables_refusal P I → (tables_refusal P I ≡ 0 → r ≡ Ok (length (tightened P I).postings))
      → starts ≡ starts_after P I → p ≡ postings_after P I → TightenGives P I starts p r
  gives r a made b c =
      let outcome : r ≡ outcome_of P I = given_by (tables_refusal P I) r a made in
      record {
        outcome = outcome;
        number = a;
        left = ap tightened_length outcome ∙ length_or (tables_refusal P I) _;
        starts = b;
        postings = c;
        promised = tightens P I;
      }

  pub ends_refused : (e : Refusal) → number e ≡ tables_refusal P I → TightenGives P I I.starts I.postings (Err e)
  ends_refused e a =
      let h : tables_refusal P I ≡ 0 → ⊥ = λ z. number_not_zero e (a ∙ z) in
      gives (Err e) a (λ z. absurd (h z)) (untouched _ _ _ h) (untouched _ _ _ h)

  pub ends_made : tables_refusal P I ≡ 0 → {starts p p' : List ℕ} {left : ℕ} → ListsLaid I (tight_of P.last I) (count I) starts p left
      → p' ≡ take left p ++ replicate (length p - left) 0 → TightenGives P I starts p' (Ok left)
  ends_made free {starts} {p} {left = left} m c =
      let o = accepted_outline P I free in
      let d : ListsLaid I (tight_in P I) (count I) starts p left = rw (tight_lists P I) m in
      gives (Ok left) (sym free) (λ _. ap Ok d.place_is) (rw free (laid_starts o d)) (rw free (laid_postings o d c))
