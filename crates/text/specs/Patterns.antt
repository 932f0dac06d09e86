-- Lines and their patterns. A pattern is a line as it is written, with `#` for a number: `(level # #)`.
use Rattle.std.specs.Prelude.{ℕ, cond, List, [], ◌∷◌, ◌++◌, eqb, Option, None, Some, option_map}
use Prim.Native.String.{String, [] as nothing, ◌∷◌ as ◌then◌}
use Prim.Native.Char.{code}
use Rattle.std.proofs.Math.Option.{Option as Maybe, none, some}
use Rattle.text.specs.Decimal.{number, numeral, front, behind, up_to}
use Rattle.text.specs.declared.Fit.{Fit}

-- the bytes of a quoted text
unfoldable pub bytes : String → List ℕ
bytes nothing = []
bytes (c then s) = code c ∷ bytes s

-- `#`
abbrev pub any_number : ℕ
any_number = 35

-- a line as a pattern writes it: the digits of the number stand for `#`
unfoldable pub fill : List ℕ → ℕ → List ℕ
fill [] n = []
fill (p ∷ ps) n = cond (eqb p any_number) (numeral n ++ fill ps n) (p ∷ fill ps n)

-- a line that fits a pattern has its last number and the one before it, 0 where there is none; or it does not fit
abbrev pub fitting : ℕ → ℕ → Option Fit
fitting before n = Some (record { before = before; number = n })

abbrev pub misfit : Option Fit
misfit = None

-- what f makes of the rest of a line after a byte, and of a number
abbrev pub past_byte : ℕ → List ℕ → (List ℕ → Option Fit) → Option Fit
past_byte p [] f = misfit
past_byte p (b ∷ bs) f = cond (eqb p b) (f bs) misfit

abbrev pub past_number : Maybe ℕ → (ℕ → Option Fit) → Option Fit
past_number none f = misfit
past_number (some n) f = f n

-- a line against a pattern, after the numbers m and n: byte by byte, and all the digits that stand where a number does
unfoldable pub fit_after : ℕ → ℕ → List ℕ → List ℕ → Option Fit
fit_after m n [] [] = fitting m n
fit_after m n [] (b ∷ bs) = misfit
fit_after m n (p ∷ ps) l =
    cond (eqb p any_number)
    (past_number (number (front l)) (λ k. fit_after n k ps (behind l)))
    (past_byte p l (λ bs. fit_after m n ps bs))

abbrev pub fit : List ℕ → List ℕ → Option Fit
fit = fit_after 0 0

abbrev pub capped_fit : ℕ → Option Fit → Option Fit
capped_fit limit = option_map (λ (f : Fit). record { before = up_to limit f.before; number = up_to limit f.number })
