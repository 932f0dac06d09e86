-- What an accepted query is, and its answer from the end of its run.
use Prim.Native.Nat.{ℕ, zero, suc, ◌+◌, ◌≤◌, ◌<◌}
use native.Mathlib.Omega.{arith}
use mathlib.Core.Bool.{Bool, false}
use mathlib.Core.List.{List, [], ◌∷◌, ◌++◌, map}
use mathlib.Core.Path.{◌≡◌, refl, sym, ap, ◌∙◌, subst}
use Rattle.std.proofs.Common.{Ok, Err}
use denote.Ref.{Bor}
use lib.ListN.{length, get_or, take, length-map, length-append}
use lib.Seq.{take_at}
use Rattle.laws.specs.Tables.{entry}
use Rattle.laws.proofs.Rows.{otherwise_none, otherwise_pick}
use Rattle.laws.proofs.Maps.{map_take}
use Rattle.laws.proofs.Tests.{and_no}
use Rattle.plant.specs.Plant.{Plant, size}
use Rattle.plant.specs.Levels.{true_level}
use Rattle.plant.proofs.Forest as plants
use Rattle.index.specs.Index.{Index, tables_refusal}
use Rattle.index.specs.inner.Lists.{SoundList}
use Rattle.index.proofs.Accepted as index_laws
use Rattle.index.proofs.Accepted.{sound_rising}
use Rattle.two_indexes.specs.Indexes.{Indexes, indexes, alone, any_second, list_of, indexes_refusal}
use Rattle.two_indexes.proofs.Accepted.{accepted, accepted_list, of_both, alone_list, alone_refusal}
use Rattle.steps.specs.Matching.{matches}
use Rattle.steps.specs.Steps as runs
use Rattle.steps.specs.Steps.{End, placed, cursors, run}
use Rattle.steps.proofs.Promises.{lists_exactly, keeps_budget}
use Rattle.steps.proofs.LevelRule.{ruled, unlisted, run_ruled, run_unlisted}
use Rattle.query.specs.Query.{used, with_levels, wants, any_code}
use Rattle.query.specs.Refusals.{query_refusal}
use Rattle.query.specs.declared.Levels.{Levels}
use Rattle.query.specs.declared.Query.{Query}
use Rattle.query.proofs.Accepted.{AcceptedSearch, accepted_search}
use Rattle.query.proofs.TrueLevels.{untrue}
use Rattle.search.specs.inner.Cursors.{most_cursors, Lists, Tables, Gathers, begin, RunGives}
use Rattle.search.specs.Answer.{search_refusal, criteria, ended, answer_of, written}
use Rattle.search.specs.Promises.{Promised, AsBefore, OverBoth, Searched}
use Rattle.search.specs.declared.Answer.{Answer}
use Rattle.refusal.specs.declared.Refusal.{Refusal}
use Rattle.refusal.specs.Numbers.{number}
use Rattle.refusal.proofs.Numbers.{number_not_zero}
use Rattle.search.proofs.RunByIndex.{begin_is}

-- what the rows come to where none applies
pub record Admitted (P : Plant) (S : Indexes) (q : Query) (room : ℕ) : Type 0 where
  pub forest : plants.Sound P
  pub tables : Tables P.last P.root
  pub indexes : indexes_refusal P S ≡ 0
  pub list : (t : ℕ) → SoundList P.last (list_of S t)
  pub query : AcceptedSearch (size P) room q

pub admitted : (P : Plant) (S : Indexes) (q : Query) (n : ℕ) → search_refusal P S q n ≡ 0 → Admitted P S q n
unfolding search_refusal
admitted P S q n h =
    let a = otherwise_none (indexes_refusal P S) (query_refusal (size P) n q) h in
    let s = plants.accepted P (index_laws.accepted P S.first (accepted P S a.0).first).tables in
    record {
      forest = s;
      tables = record { same = s.roots; few = s.few; held = λ d e. s.own d e.first e.last; inside = λ d e. s.inside d e.first e.last };
      indexes = a.0;
      list = accepted_list P S a.0;
      query = accepted_search (size P) n q a.1;
    }

-- the list of the k-th of some terms
getD-within-map : (f : ℕ → List ℕ) (ts : List ℕ) (k : ℕ) → k < length ts → get_or (map f ts) k [] ≡ f (get_or ts k 0)
getD-within-map f [] k h = absurd (omega arith)
getD-within-map f (t ∷ ts) zero h = refl
getD-within-map f (t ∷ ts) (suc k) h = getD-within-map f ts k (omega arith)

-- the slices that a query's lists were gathered in
module _ {list : ℕ → List ℕ} (ts us : List ℕ) {slices : List (Bor (List ℕ))} (g : Gathers list (ts ++ us) slices) where
  lists-are : map (λ x. x.now) (take (length ts + length us) slices) ≡ map list (ts ++ us)
  lists-are = map_take (λ x. x.now) (length ts + length us) slices ∙ rw (← length-append ts us) g.same

  -- cursors may go along them
  pub lists-fit : {last : List ℕ} → length ts + length us ≤ most_cursors → ((t : ℕ) → SoundList last (list t))
      → Lists last (map (λ x. x.now) (take (length ts + length us) slices))
  lists-fit w s = rw lists-are (record {
    few = rw (length-map, length-append) w;
    each = λ i b. rw (getD-within-map list (ts ++ us) i (rw length-map at b)) (s (get_or (ts ++ us) i 0));
  })

  -- a run along them begins with the cursors of both kinds of terms
  pub begins : begin (length ts) (map (λ x. x.now) (take (length ts + length us) slices)) ≡ placed list runs.required ts ++ placed list runs.forbidden us
  begins = rw lists-are (begin_is list ts us refl)

-- so its end is the end of the steps
pub run-ended : (P : Plant) (list : ℕ → List ℕ) (q : Query) {cs : List runs.Cursor} {out out' : List ℕ} {r : Answer}
    → cs ≡ placed list runs.required (used q.required) ++ placed list runs.forbidden (used q.forbidden)
    → RunGives (run P.last P.root (size P + 1) (λ d. wants q.levels (entry P.level d)) (size P + 1) q.budget q.start cs) out out' r
    → RunGives (ended P list q q.budget) out out' r
unfolding ended
run-ended P list q e x = rw e at x

-- ---- the answer

answer-refused : (n : ℕ) (e : End) → (n ≡ 0 → ⊥) → record { refusal = n; count = 0; position = 0; passed = 0; moves = 0 } ≡ answer_of n e
answer-refused zero e h = absurd (h refl)
answer-refused (suc n) e h = refl

written-refused : (n : ℕ) (e : End) (out : List ℕ) → (n ≡ 0 → ⊥) → out ≡ written n e out
written-refused zero e out h = absurd (h refl)
written-refused (suc n) e out h = refl

-- a device without a true level, at 0 or 255, matches no query but one for any level code
true_levels : (P : Plant) (list : ℕ → List ℕ) (q : Query) → any_code q.levels ≡ false → (d : ℕ) → true_level (entry P.level d) ≡ false
    → matches P.last list (criteria P q) d ≡ false
true_levels P list q h d e = let z = untrue q.levels (entry P.level d) e ∙ h in simp and_no (λ w. z)

-- the level rule takes no part in where the steps go, and picks from what they list where any code is wanted
module _ (P : Plant) (list : ℕ → List ℕ) (q : Query) (l : Levels) where
  abbrev rule : Levels → ℕ → Bool
  rule m = (criteria P (with_levels q m)).ok

  same_way : unlisted (ended P list q q.budget) ≡ unlisted (ended P list (with_levels q l) q.budget)
  unfolding ended
  same_way = run_unlisted P.last P.root (size P + 1) (rule q.levels) (rule l) (size P + 1) q.budget q.start (cursors list (criteria P q))

  picked : ended P list (with_levels q l) q.budget ≡ ruled (rule l) (ended P list (with_levels q Levels.Any) q.budget)
  unfolding ended
  picked = run_ruled P.last P.root (size P + 1) (rule l) (size P + 1) q.budget q.start (cursors list (criteria P q))

-- the theorem: all that is promised of an accepted query holds of how its steps end
pub promised : (P : Plant) (S : Indexes) (q : Query) (room : ℕ) → search_refusal P S q room ≡ 0 → let e = ended P (list_of S) q q.budget in
    Promised P (list_of S) q e.listed e.position e.counts.passed e.counts.moves
unfolding ended
promised P S q room h =
    let a = admitted P S q room h in
    let k = a.query.query in
    record {
      lists = lists_exactly P a.forest (list_of S) (λ t. sound_rising (a.list t)) (criteria P q) k.from_first k.to_end (omega arith) q.budget;
      true_levels = true_levels P (list_of S) q;
      short = (ended P (list_of S) q q.budget).short;
      budget = keeps_budget P a.forest (list_of S) (λ t. sound_rising (a.list t)) (criteria P q) k.from_first k.to_end (omega arith) q.budget;
      unchanged = λ l. let w = same_way P (list_of S) q l in (ap (λ e. e.position) w, ap (λ e. e.counts.passed) w, ap (λ e. e.counts.moves) w);
      kept = ap (λ e. e.listed) (picked P (list_of S) q q.levels);
    }

-- the theorem on an empty second index
as_before : (P : Plant) (I : Index) (q : Query) (room : ℕ) → AsBefore P (alone I) q room
unfolding search_refusal
as_before P I q room = record {
  refused = rw (alone_refusal P I) (otherwise_pick (tables_refusal P I) (any_second I.terms) 14 (query_refusal (size P) room q));
  lists = alone_list I;
}

-- and on any two
pub over_both : (P : Plant) (S : Indexes) (q : Query) (room : ℕ) → OverBoth P S q room
over_both P S q room = record {
  both = λ h. of_both P S (admitted P S q room h).indexes;
  before = λ e. subst (λ (J : Index). AsBefore P (indexes S.first J) q room) (sym e) (as_before P S.first q room);
}

module _ (P : Plant) (S : Indexes) (q : Query) {out : List ℕ} where
  pub searched-refused : (e : Refusal) → number e ≡ search_refusal P S q (length out) → Searched P S q out out (Err e)
  searched-refused e h = record {
    answers = rw h (answer-refused (search_refusal P S q (length out)) _ (λ o. number_not_zero e (h ∙ o)));
    lists = written-refused (search_refusal P S q (length out)) _ out (λ o. number_not_zero e (h ∙ o));
    promised = λ o. absurd (number_not_zero e o);
    over_both = over_both P S q (length out);
  }

  pub searched : {out' : List ℕ} {r : Answer} → search_refusal P S q (length out) ≡ 0 → RunGives (ended P (list_of S) q q.budget) out out' r
      → Searched P S q out out' (Ok r)
  searched {out'} {r} o x =
      let listed = (ended P (list_of S) q q.budget).listed in
      let t : take (length listed) out' ≡ listed = rw x.written (take_at listed _ (length listed) refl) in
      record {
        answers = rw (o, x.count, x.position, x.passed, x.moves);
        lists = rw o x.written;
        promised = λ _. rw (x.count, x.position, x.passed, x.moves, t) (promised P S q (length out) o);
        over_both = over_both P S q (length out);
      }
