-- `plant::check` meets its contract: each return is the first refusal that applies.
use mathlib.Core.Path.{◌≡◌, sym, ◌∙◌}
use Prim.Native.Nat.{ℕ}
use mathlib.Core.List.{List}
use mathlib.Core.Bool.{Bool, true, false}
use Rattle.laws.specs.Rows.{pick}
use Rattle.laws.specs.Search.{any}
use Rattle.plant.specs.Plant.{Plant, plant, size, uneven, out_of_range, overlaps, plant_refusal}
use Rattle.plant.specs.inner.Branches.{faulty}
use Rattle.laws.proofs.Tests.{tests, flags}
use Rattle.laws.proofs.Cases.{cases, either}
use Rattle.laws.proofs.Search.{neither, second_found}
use Rattle.plant.specs.Tables.{plant_of}
use Rattle.plant.proofs.Forest.{forest}
use Rattle.plant.proofs.check.Goals.{Else-any_wrong_root}
use Rattle.plant.proofs.check.Goals as goal

refused : (P : Plant) → uneven P ≡ true → 1 ≡ plant_refusal P
unfolding plant_refusal
refused P p = rw p

module _ (P : Plant) (e : uneven P ≡ false) {b : Bool} (f : b ≡ any (size P) (faulty P.last)) where
  fault_told : {r : ℕ} → b ≡ true → r ≡ pick (any (size P) (out_of_range P.last)) 2 3 → r ≡ plant_refusal P
  unfolding plant_refusal
  fault_told t q = either (any (size P) (out_of_range P.last))
      (λ o. q ∙ rw (e, o))
      (λ o. q ∙ rw (e, o, second_found (out_of_range P.last) (overlaps P.last) (size P) f t o))

  no_fault : b ≡ false → (any (size P) (out_of_range P.last) ≡ false) × (any (size P) (overlaps P.last) ≡ false)
  no_fault = neither (out_of_range P.last) (overlaps P.last) (size P) f

-- the tables are even, as the tests said
abbrev Even : List ℕ → List ℕ → List ℕ → Type 0
Even last root level = uneven (plant last root level) ≡ false

pub returns-then-root-last-clause-refusal : goal.returns-then-root-last-clause-refusal
returns-then-root-last-clause-refusal c =
    refused _
    (cases c.then-root-last.either (λ w. simp tests (omega flags)) (λ v. cases v (λ w. simp tests (omega flags)) (λ w. simp tests (omega flags))))

pub returns-then-any_fault-clause-refusal : goal.returns-then-any_fault-clause-refusal
returns-then-any_fault-clause-refusal c =
    let e : Even c.args.tables.last.now c.args.tables.root.now c.args.tables.level.now = simp tests (omega flags) in
    fault_told (plant c.args.tables.last.now c.args.tables.root.now c.args.tables.level.now) e c.any_fault.ensures c.if-any_fault.true c.fault.ensures

pub any_wrong_root-requires : goal.any_wrong_root-requires
any_wrong_root-requires c =
    let e : Even c.args.tables.last.now c.args.tables.root.now c.args.tables.level.now = simp tests (omega flags) in
    let f = no_fault (plant c.args.tables.last.now c.args.tables.root.now c.args.tables.level.now) e c.any_fault.ensures c.if-any_fault.false in
    record { root_len = omega flags; in_range = f.0; apart = f.1 }

pub returns-then-any_wrong_root-clause-refusal : goal.returns-then-any_wrong_root-clause-refusal
unfolding plant_refusal
returns-then-any_wrong_root-clause-refusal c =
    let e : Even c.args.tables.last.now c.args.tables.root.now c.args.tables.level.now = simp tests (omega flags) in
    let f = no_fault (plant c.args.tables.last.now c.args.tables.root.now c.args.tables.level.now) e c.any_fault.ensures c.if-any_fault.false in
    rw (e, f.0, f.1, sym c.any_wrong_root.ensures ∙ c.if-any_wrong_root.true)

-- where no row applies
accepted : (c : Else-any_wrong_root) → 0 ≡ plant_refusal (plant_of c.args.tables)
unfolding plant_refusal
accepted c =
    let e : Even c.args.tables.last.now c.args.tables.root.now c.args.tables.level.now = simp tests (omega flags) in
    let f = no_fault (plant c.args.tables.last.now c.args.tables.root.now c.args.tables.level.now) e c.any_fault.ensures c.if-any_fault.false in
    rw (e, f.0, f.1, sym c.any_wrong_root.ensures ∙ c.if-any_wrong_root.false)

pub returns-clause-refusal : goal.returns-clause-refusal
returns-clause-refusal c =
    accepted (goal.at.returns-clause-refusal c).Else-any_wrong_root

pub invariant_of-result : goal.invariant_of-result
invariant_of-result c =
    record { forest = forest (plant_of c.args.tables) (sym (accepted c)) }
