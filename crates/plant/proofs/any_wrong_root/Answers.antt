-- `plant::any_wrong_root` meets its contract: no device up to d has a wrong root, and `tree` is the last root up to d.
use Prim.Native.Nat.{ℕ, ◌+◌, ◌-◌}
use mathlib.Core.List.{List}
use mathlib.Core.Path.{◌≡◌}
use lib.ListN.{get_or}
use Rattle.laws.specs.Tables.{entry}
use native.Mathlib.Omega.{arith}
use Rattle.plant.specs.Plant.{root_of}
use Rattle.laws.proofs.Tests.{tests}
use Rattle.laws.proofs.Search.{none_up, any_found, any_none}
use Rattle.plant.proofs.Forest.{Tree, same_tree, next_tree}
use Rattle.plant.proofs.any_wrong_root.Goals.{Joined-entry_of-d, then-entry_of-d, else-entry_of-d}
use Rattle.plant.proofs.any_wrong_root.Goals as goal

entry_at : (t : List ℕ) (i : ℕ) → entry t (i + 1) ≡ get_or t i 0
entry_at t i = let e : i + 1 - 1 ≡ i = omega arith in rw e

abbrev Here : Joined-entry_of-d → Type 0
Here c =
    let l = c.args.last.now in
    Tree l c.if-entry_of-d.tree (c.loop-i.i + 1) × (root_of l (c.loop-i.i + 1) ≡ c.if-entry_of-d.tree)

here : (c : Joined-entry_of-d) → Here c
here c =
    let l = c.args.last.now in
    let t = c.loop-i.invariant.0 in
    elim c.if-entry_of-d.branch [
      | then-entry_of-d w ↦ rw w.tree-is (next_tree l c.loop-i.tree c.loop-i.i c.requires.in_range c.requires.apart (omega arith) t (omega arith))
      | else-entry_of-d w ↦ rw w.tree-is (same_tree l c.loop-i.tree c.loop-i.i t (omega arith))
    ]

pub returns-then-from-tree : goal.returns-then-from-tree
returns-then-from-tree c =
    let h = here (goal.at.returns-then-from-tree c).Joined-entry_of-d in
    any_found _ (c.loop-i.i + 1) (omega arith) (simp tests (omega (arith, entry_at)))

pub loop-i-preserved : goal.loop-i-preserved
loop-i-preserved c =
    let h = here (goal.at.loop-i-preserved c).Joined-entry_of-d in
    (h.0, none_up _ c.loop-i.invariant.1 (simp tests (omega (arith, entry_at))))

pub returns : goal.returns
returns c =
    any_none _ (λ e l u. c.loop-i.invariant.1 e l (omega arith))
