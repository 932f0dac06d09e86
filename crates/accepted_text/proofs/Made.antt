-- What the reader answers, and its tables cut to the numbers that it answers.
use Prim.Native.Nat.{ℕ, ◌≤◌}
use mathlib.Core.Path.{◌≡◌, refl, sym}
use mathlib.Core.List.{List}
use native.Mathlib.Omega.{arith}
use lib.ListN.{length, take, length-append}
use lib.Seq.{take_at}
use Rattle.laws.specs.Lent.{filled}
use Rattle.plant.specs.Plant.{size}
use Rattle.index.specs.Index.{count}
use Rattle.std.proofs.Common.{ap, Ok, Err}
use Rattle.refusal.specs.Numbers.{number}
use Rattle.text.specs.Reading.{Read, made, no, refused_at}
use Rattle.text.specs.declared.Refused.{Refused}
use Rattle.plant_text.specs.declared.Counts.{Counts}
use Rattle.plant_text.specs.PlantText.{State, counts, outcome_of, read_number}

-- what the reader answers for a text that it accepts, or refuses
pub record IsMade (X : Read State) (d t p : ℕ) : Type 0 where
  pub state : State
  pub is : X ≡ made state
  pub devices : d ≡ size state.plant
  pub terms : t ≡ count state.index
  pub postings : p ≡ length state.index.postings

pub is_made : (X : Read State) (d t p : ℕ) → Ok (counts d t p) ≡ outcome_of X → IsMade X d t p
is_made (made m) d t p e =
    let i : counts d t p ≡ counts (size m.plant) (count m.index) (length m.index.postings) = cc in
    record { state = m; is = refl; devices = ap (λ (c : Counts). c.devices) i; terms = ap (λ (c : Counts). c.terms) i; postings = ap (λ (c : Counts). c.postings) i }
is_made (no n k) d t p e = let z : ◌≡◌ {A = ℕ} 0 1 = cc in absurd (omega arith)

pub is_refused : (X : Read State) (e : Refused) → Err e ≡ outcome_of X → number e.refusal ≡ read_number X → X ≡ no (number e.refusal) e.line
is_refused (made m) e h q = cc
is_refused (no x y) e h q =
    let i : e ≡ refused_at x y = cc in
    let l : e.line ≡ y = ap (λ (r : Refused). r.line) i in
    rw (q, l)

-- a table that was filled, cut to the entries that were put there
pub cut : (l table : List ℕ) (n k : ℕ) → table ≡ filled n l → k ≡ length l → take k table ≡ l
cut l table n k e h = rw e (take_at l _ k (sym h))

pub fits : (l table : List ℕ) (n k : ℕ) → table ≡ filled n l → k ≡ length l → k ≤ length table
fits l table n k e h = rw (e, length-append) (omega (arith, h))
