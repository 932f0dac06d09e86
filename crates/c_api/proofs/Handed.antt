-- What is handed back.
use mathlib.Core.Path.{◌≡◌, sym, ap, ◌∙◌}
use mathlib.Core.List.{List, [], ◌∷◌}
use Prim.Native.Nat.{ℕ}
use lib.ListN.{length}
use Rattle.std.specs.Prelude.{Result}
use Rattle.plant.specs.Plant.{Plant}
use Rattle.index.specs.Index.{Index}
use Rattle.two_indexes.specs.Indexes.{Indexes}
use Rattle.query.specs.declared.Query.{Query}
use Rattle.refusal.specs.declared.Refusal.{Refusal}
use Rattle.refusal.specs.Numbers.{refused}
use Rattle.text.specs.declared.Refused.{Refused}
use Rattle.search.specs.Answer.{Numbers, told}
use Rattle.search.specs.Promises.{Searched}
use Rattle.search.specs.declared.Answer.{Answer}
use Rattle.plant_text.specs.PlantText.{outcome_number, outcome_after, plant_after, index_after}
use Rattle.plant_text.specs.declared.Counts.{Counts}
use Rattle.written_text.specs.Refusals.{write_refusal}
use Rattle.written_text.specs.RoundTrip.{RoundTrips}
use Rattle.plant_writer.specs.Write.{text_after, written_number, written_length, length_of}
use Rattle.repair.specs.Outcome.{repaired_values}
use Rattle.repair.specs.Promises.{RepairGives}
use Rattle.repair.specs.declared.Repaired.{Repaired}
use Rattle.tighten.specs.Outcome.{tightened_length}
use Rattle.tighten.specs.Promises.{TightenGives}
use Rattle.c_api.specs.Handing.{numbers_of, outcome_numbers}
use Rattle.c_api.specs.Interface.{SearchHanded, PlantHanded, TextHanded, RepairHanded, TightenHanded}

-- a search of the query that was handed over is a search of the same query, built anew
pub search_handed : {P : Plant} {S : Indexes} {q Q : Query} {out out' : List ℕ} {a : Result Answer Refusal} → q ≡ Q → Searched P S q out out' a
    → SearchHanded P S Q out out' (numbers_of (told a)) (told a).refusal
search_handed same s =
    let t = rw same at s in
    record {
      refusal = ap (λ (x : Numbers). x.refusal) t.answers;
      numbers = ap numbers_of t.answers;
      listing = t.lists;
      promised = t.promised;
      over_both = t.over_both;
    }

module _ {text : List ℕ} {P P' : Plant} {I I' : Index} {o : Result Counts Refused} where
  pub plant_handed : o ≡ outcome_after text P I → P' ≡ plant_after text P I → I' ≡ index_after text P I
      → {four : List ℕ} → four ≡ outcome_numbers o → {r : ℕ} → r ≡ outcome_number o → PlantHanded text P I P' I' four r
  plant_handed e p i f g =
      record { refusal = g ∙ ap outcome_number e; numbers = f ∙ ap outcome_numbers e; plant = p; index = i }

pub text_handed : {P : Plant} {I : Index} {text text' : List ℕ} (w : Result ℕ Refusal) {n r : ℕ} → text' ≡ text_after P I text → written_number w ≡ write_refusal P I (length text) →
    written_length w ≡ length_of P I (length text) → RoundTrips P I (length text) → n ≡ written_length w → r ≡ written_number w → TextHanded P I text text' (n ∷ []) r
text_handed w {n} e p l t q s = record { refusal = s ∙ p; numbers = ap (λ (x : ℕ). x ∷ []) (q ∙ l); written = e; trips = t }

pub repair_handed : {P : Plant} {I : Index} {lent starts' postings' report' : List ℕ} {o : Result Repaired Refusal} → RepairGives P I lent starts' postings' report' o
    → {two : List ℕ} → two ≡ repaired_values o → {r : ℕ} → r ≡ refused o → RepairHanded P I lent starts' postings' report' two r
repair_handed g f e = record {
  refusal = e ∙ g.number;
  numbers = f ∙ g.values;
  starts = g.starts;
  postings = g.postings;
  report = g.report;
  promised = g.promised;
}

pub tighten_handed : {P : Plant} {I : Index} {starts' postings' : List ℕ} {o : Result ℕ Refusal} → TightenGives P I starts' postings' o
    → {n : ℕ} → n ≡ tightened_length o → {r : ℕ} → r ≡ refused o → TightenHanded P I starts' postings' (n ∷ []) r
tighten_handed g f e = record {
  refusal = e ∙ g.number;
  numbers = ap (λ (x : ℕ). x ∷ []) (f ∙ g.left);
  starts = g.starts;
  postings = g.postings;
  promised = λ z. g.promised (sym (e ∙ g.number) ∙ z);
}
