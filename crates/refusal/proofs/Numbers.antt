-- Each refusal has a number of its own, and none has 0.
use Prim.Native.Nat.{ℕ, zero, suc, ◌+◌}
use mathlib.Core.Path.{◌≡◌, refl, sym, ap, ◌∙◌}
use native.Mathlib.Omega.{arith}
use Rattle.std.specs.Prelude.{Result, Ok, Err}
use Rattle.std.specs.Result.{MatchResult, IsErrAnd}
use Rattle.std.proofs.lemmas.Result.{err_from_is_err_and}
use Rattle.laws.specs.Rows.{otherwise}
use Rattle.laws.proofs.Rows.{otherwise_first, otherwise_next}
use Rattle.refusal.specs.declared.IndexRow.{IndexRow}
use Rattle.refusal.specs.declared.Refusal.{Refusal}
use Rattle.refusal.specs.Numbers.{place, number, numbered, refused, row_or, given}

-- the refusal of its number is the refusal itself
pub numbered_number : (e : Refusal) → numbered (number e) ≡ e
numbered_number Refusal.UnevenTables = refl
numbered_number Refusal.LastOutOfRange = refl
numbered_number Refusal.OverlappingBranches = refl
numbered_number Refusal.WrongRoot = refl
numbered_number (Refusal.Index IndexRow.Unfit) = refl
numbered_number (Refusal.Index IndexRow.MisplacedTerm) = refl
numbered_number (Refusal.Index IndexRow.WrongStart) = refl
numbered_number (Refusal.Index IndexRow.MisplacedPosting) = refl
numbered_number (Refusal.Index IndexRow.RedundantPosting) = refl
numbered_number Refusal.TooManyTerms = refl
numbered_number Refusal.NoTerm = refl
numbered_number Refusal.NoLevelRange = refl
numbered_number Refusal.NoStart = refl
numbered_number Refusal.ListingTooShort = refl
numbered_number Refusal.MisfiledTerm = refl
numbered_number Refusal.PlantTooLong = refl
numbered_number Refusal.PlantForm = refl
numbered_number Refusal.NumberOutOfRange = refl
numbered_number Refusal.TooDeep = refl
numbered_number Refusal.UnfinishedPlant = refl
numbered_number Refusal.BytesAfterPlant = refl
numbered_number Refusal.NoPlace = refl
numbered_number Refusal.NotRising = refl
numbered_number Refusal.Redundant = refl
numbered_number Refusal.QueryTooLong = refl
numbered_number Refusal.QueryForm = refl
numbered_number Refusal.NumberTooLarge = refl
numbered_number Refusal.UnfinishedQuery = refl
numbered_number Refusal.BytesAfterQuery = refl
numbered_number Refusal.NinthTerm = refl
numbered_number Refusal.TooManyTiers = refl
numbered_number Refusal.TextTooLong = refl
numbered_number Refusal.FallingDevices = refl
numbered_number Refusal.ReportTooShort = refl
numbered_number (Refusal.SecondIndex IndexRow.Unfit) = refl
numbered_number (Refusal.SecondIndex IndexRow.MisplacedTerm) = refl
numbered_number (Refusal.SecondIndex IndexRow.WrongStart) = refl
numbered_number (Refusal.SecondIndex IndexRow.MisplacedPosting) = refl
numbered_number (Refusal.SecondIndex IndexRow.RedundantPosting) = refl

pub number_not_zero : (e : Refusal) → number e ≡ 0 → ⊥
number_not_zero Refusal.UnevenTables h = omega arith
number_not_zero Refusal.LastOutOfRange h = omega arith
number_not_zero Refusal.OverlappingBranches h = omega arith
number_not_zero Refusal.WrongRoot h = omega arith
number_not_zero (Refusal.Index IndexRow.Unfit) h = omega arith
number_not_zero (Refusal.Index IndexRow.MisplacedTerm) h = omega arith
number_not_zero (Refusal.Index IndexRow.WrongStart) h = omega arith
number_not_zero (Refusal.Index IndexRow.MisplacedPosting) h = omega arith
number_not_zero (Refusal.Index IndexRow.RedundantPosting) h = omega arith
number_not_zero Refusal.TooManyTerms h = omega arith
number_not_zero Refusal.NoTerm h = omega arith
number_not_zero Refusal.NoLevelRange h = omega arith
number_not_zero Refusal.NoStart h = omega arith
number_not_zero Refusal.ListingTooShort h = omega arith
number_not_zero Refusal.MisfiledTerm h = omega arith
number_not_zero Refusal.PlantTooLong h = omega arith
number_not_zero Refusal.PlantForm h = omega arith
number_not_zero Refusal.NumberOutOfRange h = omega arith
number_not_zero Refusal.TooDeep h = omega arith
number_not_zero Refusal.UnfinishedPlant h = omega arith
number_not_zero Refusal.BytesAfterPlant h = omega arith
number_not_zero Refusal.NoPlace h = omega arith
number_not_zero Refusal.NotRising h = omega arith
number_not_zero Refusal.Redundant h = omega arith
number_not_zero Refusal.QueryTooLong h = omega arith
number_not_zero Refusal.QueryForm h = omega arith
number_not_zero Refusal.NumberTooLarge h = omega arith
number_not_zero Refusal.UnfinishedQuery h = omega arith
number_not_zero Refusal.BytesAfterQuery h = omega arith
number_not_zero Refusal.NinthTerm h = omega arith
number_not_zero Refusal.TooManyTiers h = omega arith
number_not_zero Refusal.TextTooLong h = omega arith
number_not_zero Refusal.FallingDevices h = omega arith
number_not_zero Refusal.ReportTooShort h = omega arith
number_not_zero (Refusal.SecondIndex IndexRow.Unfit) h = omega arith
number_not_zero (Refusal.SecondIndex IndexRow.MisplacedTerm) h = omega arith
number_not_zero (Refusal.SecondIndex IndexRow.WrongStart) h = omega arith
number_not_zero (Refusal.SecondIndex IndexRow.MisplacedPosting) h = omega arith
number_not_zero (Refusal.SecondIndex IndexRow.RedundantPosting) h = omega arith

-- no two have the same
pub number_decides : (a b : Refusal) → number a ≡ number b → a ≡ b
number_decides a b h = sym (numbered_number a) ∙ ap numbered h ∙ numbered_number b

-- an answer whose refusal is n, and which is x where that is 0, is what is given by n
pub gives : {T : Type 0} (n : ℕ) {x : T} (r : Result T Refusal) → refused r ≡ n → (n ≡ 0 → r ≡ Ok x) → r ≡ given n x
gives zero r h ok = ok refl
gives (suc n) (Ok y) h ok = absurd (omega arith)
gives (suc n) (Err e) h ok = ap Err (sym (numbered_number e) ∙ ap numbered h)

-- the first of two tables refuses, or it does not
pub first_refuses : (e : Refusal) {a : ℕ} (rest : ℕ) → number e ≡ a → number e ≡ otherwise a rest
first_refuses e {a} rest h = h ∙ sym (otherwise_first a rest (λ z. number_not_zero e (h ∙ z)))

pub first_passes : {n a : ℕ} (rest : ℕ) → 0 ≡ a → n ≡ rest → n ≡ otherwise a rest
first_passes {n} {a} rest z h = h ∙ sym (otherwise_next a rest (sym z))

-- the row of an index, mapped to a refusal that is numbered from `first` on
pub row_mapped : {T : Type 0} {C : IndexRow → Refusal → Type 0} (first : ℕ) (s : Result T IndexRow) (r : Result T Refusal)
    → MatchResult s (λ x. r ≡ Ok x) (λ row. IsErrAnd r (C row)) → ((row : IndexRow) (e : Refusal) → C row e → number e ≡ first + place row)
    → refused r ≡ row_or first 0 s
row_mapped first (Ok x) r m f = rw m refl
row_mapped first (Err row) r m f =
    let p = err_from_is_err_and r m in
    rw p.1 (f row p.0 p.2)
