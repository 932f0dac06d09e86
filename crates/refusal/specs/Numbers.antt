-- The papers' number of each refusal.
use Rattle.std.specs.Prelude.{ℕ, zero, suc, ◌+◌, cond, eqb, Result, Ok, Err}
use Rattle.refusal.specs.declared.IndexRow.{IndexRow}
use Rattle.refusal.specs.declared.Refusal.{Refusal}

-- the rows of an index, from 0 on
abbrev pub place : IndexRow → ℕ
place IndexRow.Unfit = 0
place IndexRow.MisplacedTerm = 1
place IndexRow.WrongStart = 2
place IndexRow.MisplacedPosting = 3
place IndexRow.RedundantPosting = 4

-- of what a row of an index may refuse, where the rows are numbered from `first` on: the row's number, or what the rows after these come to
abbrev pub row_or : {T : Type 0} → ℕ → ℕ → Result T IndexRow → ℕ
row_or first rest (Ok x) = rest
row_or first rest (Err row) = first + place row

abbrev pub number : Refusal → ℕ
number Refusal.UnevenTables = 1
number Refusal.LastOutOfRange = 2
number Refusal.OverlappingBranches = 3
number Refusal.WrongRoot = 4
number (Refusal.Index row) = 5 + place row
number Refusal.TooManyTerms = 10
number Refusal.NoTerm = 11
number Refusal.NoLevelRange = 12
number Refusal.NoStart = 13
number Refusal.ListingTooShort = 14
number Refusal.MisfiledTerm = 15
number Refusal.PlantTooLong = 20
number Refusal.PlantForm = 21
number Refusal.NumberOutOfRange = 22
number Refusal.TooDeep = 23
number Refusal.UnfinishedPlant = 24
number Refusal.BytesAfterPlant = 25
number Refusal.NoPlace = 27
number Refusal.NotRising = 28
number Refusal.Redundant = 29
number Refusal.QueryTooLong = 30
number Refusal.QueryForm = 31
number Refusal.NumberTooLarge = 32
number Refusal.UnfinishedQuery = 33
number Refusal.BytesAfterQuery = 34
number Refusal.NinthTerm = 35
number Refusal.TooManyTiers = 36
number Refusal.TextTooLong = 40
number Refusal.FallingDevices = 41
number Refusal.ReportTooShort = 44
number (Refusal.SecondIndex row) = 55 + place row

-- of what may be refused: its refusal's number, or 0
abbrev pub refused : {T : Type 0} → Result T Refusal → ℕ
refused (Ok x) = 0
refused (Err e) = number e

-- the refusal that has a number. A number that no refusal has is not asked for: it gets the last one.
abbrev pub numbered : ℕ → Refusal
numbered n =
    cond (eqb n 1) Refusal.UnevenTables (
    cond (eqb n 2) Refusal.LastOutOfRange (
    cond (eqb n 3) Refusal.OverlappingBranches (
    cond (eqb n 4) Refusal.WrongRoot (
    cond (eqb n 5) (Refusal.Index IndexRow.Unfit) (
    cond (eqb n 6) (Refusal.Index IndexRow.MisplacedTerm) (
    cond (eqb n 7) (Refusal.Index IndexRow.WrongStart) (
    cond (eqb n 8) (Refusal.Index IndexRow.MisplacedPosting) (
    cond (eqb n 9) (Refusal.Index IndexRow.RedundantPosting) (
    cond (eqb n 10) Refusal.TooManyTerms (
    cond (eqb n 11) Refusal.NoTerm (
    cond (eqb n 12) Refusal.NoLevelRange (
    cond (eqb n 13) Refusal.NoStart (
    cond (eqb n 14) Refusal.ListingTooShort (
    cond (eqb n 15) Refusal.MisfiledTerm (
    cond (eqb n 20) Refusal.PlantTooLong (
    cond (eqb n 21) Refusal.PlantForm (
    cond (eqb n 22) Refusal.NumberOutOfRange (
    cond (eqb n 23) Refusal.TooDeep (
    cond (eqb n 24) Refusal.UnfinishedPlant (
    cond (eqb n 25) Refusal.BytesAfterPlant (
    cond (eqb n 27) Refusal.NoPlace (
    cond (eqb n 28) Refusal.NotRising (
    cond (eqb n 29) Refusal.Redundant (
    cond (eqb n 30) Refusal.QueryTooLong (
    cond (eqb n 31) Refusal.QueryForm (
    cond (eqb n 32) Refusal.NumberTooLarge (
    cond (eqb n 33) Refusal.UnfinishedQuery (
    cond (eqb n 34) Refusal.BytesAfterQuery (
    cond (eqb n 35) Refusal.NinthTerm (
    cond (eqb n 36) Refusal.TooManyTiers (
    cond (eqb n 40) Refusal.TextTooLong (
    cond (eqb n 41) Refusal.FallingDevices (
    cond (eqb n 44) Refusal.ReportTooShort (
    cond (eqb n 55) (Refusal.SecondIndex IndexRow.Unfit) (
    cond (eqb n 56) (Refusal.SecondIndex IndexRow.MisplacedTerm) (
    cond (eqb n 57) (Refusal.SecondIndex IndexRow.WrongStart) (
    cond (eqb n 58) (Refusal.SecondIndex IndexRow.MisplacedPosting) (
    Refusal.SecondIndex IndexRow.RedundantPosting))))))))))))))))))))))))))))))))))))))

-- what is given, by the refusal: what was made, or the refusal of that number
abbrev pub given : {T : Type 0} → ℕ → T → Result T Refusal
given zero made = Ok made
given (suc n) made = Err (numbered (suc n))
