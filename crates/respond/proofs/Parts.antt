-- What each part of the answer comes to, and that the whole fits the buffer.
use Prim.Native.Nat.{ℕ, zero, suc, ◌+◌, ◌≤◌}
use mathlib.Core.Path.{◌≡◌, refl, ap, ◌∙◌}
use mathlib.Core.List.{List}
use native.Mathlib.Omega.{arith}
use lib.ListN.{length, take, length-append, length-take}
use lib.Seq.{take-append_seam}
use Rattle.plant.specs.Plant.{Plant}
use Rattle.index.specs.Index.{Index}
use Rattle.steps.specs.Steps.{End}
use Rattle.query.specs.declared.Query.{Query}
use Rattle.std.specs.Prelude.{Ok, Err}
use Rattle.refusal.specs.declared.Refusal.{Refusal}
use Rattle.refusal.specs.Numbers.{number}
use Rattle.refusal.proofs.Numbers.{number_not_zero}
use Rattle.search.specs.Answer.{told, answer_of, written}
use Rattle.search.specs.declared.Answer.{Answer}
use Rattle.text.specs.Reading.{made, no}
use Rattle.plant_text.specs.PlantText as plant_texts
use Rattle.plant_text.specs.PlantText.{State}
use Rattle.query_text.specs.QueryText as query_texts
use Rattle.respond.specs.Lines.{word_plant, word_ask, word_query, numbered, numbered₂, answer_text}
use Rattle.respond.specs.inner.Prints.{Prints}
use Rattle.respond.specs.Respond.{program_room, of_run, of_query, of_query_text, respond, Responds}

-- the search refuses the query, or lists
pub run_refused : (r : Refusal) (n : ℕ) (e : End) → told (Err r) ≡ answer_of n e → numbered word_query (number r) ≡ of_run n e
run_refused r zero e t = absurd (number_not_zero r (ap (λ x. x.refusal) t))
run_refused r (suc n) e t = let z : number r ≡ suc n = ap (λ x. x.refusal) t in rw z

module _ (a : Answer) where
  pub run_listed : (n : ℕ) (e : End) (out out' : List ℕ) → told (Ok a) ≡ answer_of n e → out' ≡ written n e out →
      answer_text (take a.count out') a.position a.passed a.moves ≡ of_run n e
  run_listed zero e out out' t w =
      let c : a.count ≡ length e.listed = ap (λ x. x.count) t in
      let p : a.position ≡ e.position = ap (λ x. x.position) t in
      let q : a.passed ≡ e.counts.passed = ap (λ x. x.passed) t in
      let m : a.moves ≡ e.counts.moves = ap (λ x. x.moves) t in
      rw (c, p, q, m, w, take-append_seam)
  run_listed (suc n) e out out' t w = absurd (omega (arith, ap (λ x. x.refusal) t))

  pub run_count : (n : ℕ) (e : End) (out out' : List ℕ) → told (Ok a) ≡ answer_of n e → out' ≡ written n e out → a.count ≤ length out'
  run_count zero e out out' t w =
      let c : a.count ≡ length e.listed = ap (λ x. x.count) t in
      rw (w, length-append) (omega arith)
  run_count (suc n) e out out' t w = absurd (omega (arith, ap (λ x. x.refusal) t))

-- the query text is refused, or read
pub query_refused : (P : Plant) (I : Index) (n line : ℕ) (q : Query) → (n ≡ 0 → ⊥) → numbered₂ word_ask n line ≡ of_query P I n line q
query_refused P I zero line q h = absurd (h refl)
query_refused P I (suc n) line q h = refl

-- the plant text is refused, or read
module _ (text query : List ℕ) where
  pub plant_refused : (n line : ℕ) → plant_texts.read_plant program_room text ≡ no n line → numbered₂ word_plant n line ≡ respond text query
  unfolding respond
  plant_refused n line e = rw e

  pub plant_read : (P : Plant) (I : Index) (m : State) → plant_texts.read_plant program_room text ≡ made m → P ≡ m.plant → I ≡ m.index →
      of_query_text P I (query_texts.read_query query) ≡ respond text query
  unfolding respond
  plant_read P I m e p i = rw (e, p, i)

-- the whole, from what is printed
pub responds : {plant query out out' bytes : List ℕ} {n : ℕ} → length out ≡ 16384 → Prints out bytes out' n → bytes ≡ respond plant query →
    Responds plant query out out' n
responds {out} {out'} {bytes} {n} l p e =
    let room : 0 + length bytes ≤ length out = omega (arith, p.few, l) in
    let moved = p.puts.moved room in
    let z : 0 + length bytes ≡ length bytes = omega arith in
    record {
      bytes = rw (← e) (p.puts.stored room ∙ rw z);
      counted = rw (← e) (moved ∙ z);
      within = omega (arith, p.puts.same);
      taken = simp length-take (omega (arith, p.puts.same));
    }

-- the same text, said another way
pub prints_as : {out out' a b : List ℕ} {n : ℕ} → Prints out a out' n → a ≡ b → Prints out b out' n
prints_as p e = rw e at p
