-- "Reading the text into tables with room returns the same entries, and writing what was read returns the same bytes."
use Rattle.std.specs.Prelude.{ℕ, ◌≤◌, ◌≡◌, List, length, take, Ok}
use Rattle.laws.specs.Lent.{filled}
use Rattle.plant.specs.Plant.{Plant, plant, size}
use Rattle.index.specs.Index.{Index, index, count}
use Rattle.plant_text.specs.PlantText.{counts, outcome_after, plant_after, index_after}
use Rattle.written_text.specs.Text.{text_of}
use Rattle.written_text.specs.Refusals.{write_refusal}

-- each of the tables P' and I' has room for the entries of P and I
pub record HasRoom (P : Plant) (I : Index) (P' : Plant) (I' : Index) : Type 0 where
  pub last : length P.last ≤ length P'.last
  pub root : length P.root ≤ length P'.root
  pub level : length P.level ≤ length P'.level
  pub terms : length I.terms ≤ length I'.terms
  pub starts : length I.starts ≤ length I'.starts
  pub postings : length I.postings ≤ length I'.postings

-- a text that is read into P' and I' makes exactly the entries of P and I, and zeros behind them
pub record Reads (text : List ℕ) (P' : Plant) (I' : Index) (P : Plant) (I : Index) : Type 0 where
  pub counts : outcome_after text P' I' ≡ Ok (counts (size P) (count I) (length I.postings))
  pub devices : plant_after text P' I' ≡ plant (filled (length P'.last) P.last) (filled (length P'.root) P.root) (filled (length P'.level) P.level)
  pub lists : index_after text P' I'
      ≡ index (filled (length I'.terms) I.terms) (filled (length I'.starts) I.starts) (filled (length I'.postings) I.postings)

-- what is written of P and I, into a buffer of so many bytes, reads as P and I
abbrev pub ReadsBack : Plant → Index → ℕ → Type 0
ReadsBack P I room = write_refusal P I room ≡ 0 → (P' : Plant) (I' : Index) → HasRoom P I P' I' → Reads (text_of P I) P' I' P I

-- the first entries of tables: of d devices, of n terms and p postings
abbrev pub first_devices : ℕ → Plant → Plant
first_devices d P = plant (take d P.last) (take d P.root) (take d P.level)

abbrev pub first_lists : ℕ → ℕ → Index → Index
first_lists n p I = index (take n I.terms) (take n I.starts) (take p I.postings)

-- a text is that of P and I, and no row refuses to write it where the buffer, of `room` bytes, holds it
pub record Rewritten (text : List ℕ) (P : Plant) (I : Index) (room : ℕ) : Type 0 where
  pub same : text_of P I ≡ text
  pub taken : length text ≤ room → write_refusal P I room ≡ 0

-- a text that is read into any tables P' and I', and makes P and I of their first entries, is written again as it was
abbrev pub WritesBack : Plant → Index → ℕ → Type 0
WritesBack P I room = (text : List ℕ) (P' : Plant) (I' : Index) (d n p : ℕ) → outcome_after text P' I' ≡ Ok (counts d n p) →
    first_devices d (plant_after text P' I') ≡ P → first_lists n p (index_after text P' I') ≡ I → Rewritten text P I room

-- both, for a buffer of so many bytes
pub record RoundTrips (P : Plant) (I : Index) (room : ℕ) : Type 0 where
  pub reads_back : ReadsBack P I room
  pub writes_back : WritesBack P I room
