-- `index_check::any_wrong_start` meets its contract: the lists after those that are left start in order, and `next` is where they start.
use Prim.Native.Nat.{ℕ, ◌+◌, ◌-◌, ◌≤◌}
use mathlib.Core.Path.{◌≡◌, sym, ap, ◌∙◌}
use mathlib.Core.List.{List, [], ◌∷◌, ◌++◌}
use native.Mathlib.Omega.{arith}
use lib.ListN.{length, take, get_or, length-append}
use lib.Seq.{take-append_seam, take-take, get_or-take, get_or-append-add}
use Rattle.laws.specs.Tables.{entry}
use Rattle.index.proofs.Starts.{Down, down_found, down_turn, down_end}
use Rattle.index_check.proofs.any_wrong_start.Goals as goal

-- the last of the starts that are left
record Last (starts left rest : List ℕ) (x : ℕ) : Type 0 where
  long : length left ≡ length rest + 1
  rest_is : rest ≡ take (length rest) starts
  is : x ≡ entry starts (length left)

last_of : (starts left rest : List ℕ) (x : ℕ) → left ≡ take (length left) starts → left ≡ rest ++ (x ∷ []) → Last starts left rest x
last_of starts left rest x e f =
    let l = ap length f ∙ length-append rest (x ∷ []) in
    let n : length left - 1 ≡ length rest = omega arith in
    let z : length rest + 0 ≡ length rest = omega arith in
    let g = rw z at (get_or-append-add rest (x ∷ []) 0 0) in
    record {
      long = omega arith;
      rest_is = sym (take-append_seam rest (x ∷ [])) ∙ ap (take (length rest)) (sym f ∙ e) ∙ take-take (length rest) (length left) starts (omega arith);
      is = sym g ∙ ap (λ t. get_or t (length rest) 0) (sym f ∙ e) ∙ get_or-take (length left) starts (length rest) 0 (omega arith) ∙ rw n;
    }

down_last : {starts postings left rest : List ℕ} {next x : ℕ} → Down starts postings (length left) next → Last starts left rest x → x ≤ next
    → Down starts postings (length rest) x
down_last {left} {rest} h z u =
    let l = z.long in
    let e : length left - 1 ≡ length rest = omega arith in rw e at (down_turn h _ (omega arith) z.is u)

pub returns-then-next-start : goal.returns-then-next-start
returns-then-next-start c =
    let h = c.loop-start.invariant in
    let z = last_of c.args.starts.now _ _ _ h.2 c.in-Some.ensures.steps in
    let l = z.long in
    down_found h.3 _ (omega arith) z.is c.if-next-start.true

pub loop-start-preserved : goal.loop-start-preserved
loop-start-preserved c =
    let h = c.loop-start.invariant in
    let z = last_of c.args.starts.now _ _ _ h.2 c.in-Some.ensures.steps in
    (tt, tt, z.rest_is, down_last h.3 z c.if-next-start.false)

pub returns : goal.returns
returns c =
    down_end c.loop-start.invariant.3 c.in-None.ensures.steps.0
