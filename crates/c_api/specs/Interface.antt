-- What to believe of the functions for C that give several things back.
use Rattle.std.specs.Prelude.{ℕ, ◌≡◌, List, [], ◌∷◌, length, take, get_or}
use Rattle.plant.specs.Plant.{Plant}
use Rattle.index.specs.Index.{Index, tables_refusal}
use Rattle.two_indexes.specs.Indexes.{Indexes, list_of}
use Rattle.query.specs.declared.Query.{Query}
use Rattle.search.specs.Answer.{answer, answer_list}
use Rattle.search.specs.Promises.{Promised, OverBoth}
use Rattle.plant_text.specs.PlantText.{outcome_number, outcome_after, plant_after, index_after}
use Rattle.written_text.specs.Refusals.{write_refusal}
use Rattle.written_text.specs.RoundTrip.{RoundTrips}
use Rattle.plant_writer.specs.Write.{text_after, length_of}
use Rattle.repair.specs.Refusals.{repair_refusal}
use Rattle.repair.specs.Outcome.{starts_after, postings_after, report_after, values_of}
use Rattle.repair.specs.Promises as repairs
use Rattle.tighten.specs.Outcome as tightening
use Rattle.tighten.specs.Promises.{Tightens}
use Rattle.c_api.specs.Handing.{numbers_of, outcome_numbers}

-- `plant_search_search`: the refusal r, the four numbers beside it and the answer list, which was `out`
pub record SearchHanded (P : Plant) (S : Indexes) (q : Query) (out out' four : List ℕ) (r : ℕ) : Type 0 where
  pub refusal : r ≡ (answer P S q (length out)).refusal
  pub numbers : four ≡ numbers_of (answer P S q (length out))
  pub listing : out' ≡ answer_list P S q out
  pub promised : r ≡ 0 → Promised P (list_of S) q (take (get_or four 0 0) out') (get_or four 1 0) (get_or four 2 0) (get_or four 3 0)
  pub over_both : OverBoth P S q (length out)

-- `plant_search_read_plant`: the refusal r, the four numbers beside it and the tables, which were those of P and I
pub record PlantHanded (text : List ℕ) (P : Plant) (I : Index) (P' : Plant) (I' : Index) (four : List ℕ) (r : ℕ) : Type 0 where
  pub refusal : r ≡ outcome_number (outcome_after text P I)
  pub numbers : four ≡ outcome_numbers (outcome_after text P I)
  pub plant : P' ≡ plant_after text P I
  pub index : I' ≡ index_after text P I

-- `plant_search_write_plant`: the refusal r, the number beside it and the buffer, which was `text`
pub record TextHanded (P : Plant) (I : Index) (text text' one : List ℕ) (r : ℕ) : Type 0 where
  pub refusal : r ≡ write_refusal P I (length text)
  pub numbers : one ≡ length_of P I (length text) ∷ []
  pub written : text' ≡ text_after P I text
  pub trips : RoundTrips P I (length text)

-- `plant_search_repair`: the refusal r, the two numbers beside it, starts and postings, which were those of I, and the report, which was `lent`
pub record RepairHanded (P : Plant) (I : Index) (lent starts' postings' report' two : List ℕ) (r : ℕ) : Type 0 where
  pub refusal : r ≡ repair_refusal P I (length lent)
  pub numbers : two ≡ values_of P I (length lent)
  pub starts : starts' ≡ starts_after P I (length lent)
  pub postings : postings' ≡ postings_after P I (length lent)
  pub report : report' ≡ report_after P I lent
  pub promised : repairs.Promised P I lent

-- `plant_search_tighten`: the refusal r, the number beside it, and starts and postings, which were those of I
pub record TightenHanded (P : Plant) (I : Index) (starts' postings' one : List ℕ) (r : ℕ) : Type 0 where
  pub refusal : r ≡ tables_refusal P I
  pub numbers : one ≡ tightening.length_of P I ∷ []
  pub starts : starts' ≡ tightening.starts_after P I
  pub postings : postings' ≡ tightening.postings_after P I
  pub promised : r ≡ 0 → Tightens P I
