-- What an accepted query is.
use Prim.Native.Nat.{ℕ, ◌+◌, ◌≤◌}
use mathlib.Core.Path.{◌≡◌}
use mathlib.Core.Bool.{false, ◌||◌}
use lib.Dec.{ltb, eqb}
use Rattle.laws.proofs.Tests.{tests, flags, or_no}
use Rattle.laws.proofs.Rows.{pick_none, otherwise_none}
use Rattle.query.specs.Query.{most_named, used}
use Rattle.query.specs.Refusals.{no_terms, no_range, count_rows, term_rows, level_rows, room_rows, common_refusal, query_refusal}
use Rattle.query.specs.declared.Query.{Query}

-- what the rows that a search shares with other uses of a query come to where none applies, over a plant of n devices
pub record Accepted (n : ℕ) (q : Query) : Type 0 where
  pub few_required : q.required.count ≤ most_named
  pub few_forbidden : q.forbidden.count ≤ most_named
  pub required_terms : no_terms (used q.required) ≡ false
  pub forbidden_terms : no_terms (used q.forbidden) ≡ false
  pub true_levels : no_range q.levels ≡ false
  pub from_first : 1 ≤ q.start
  pub to_end : q.start ≤ n + 1

pub accepted : (n : ℕ) (q : Query) → common_refusal n q ≡ 0 → Accepted n q
unfolding common_refusal
accepted n q h =
    let a = otherwise_none (count_rows q.required.count q.forbidden.count) _ h in
    let b = otherwise_none (term_rows (used q.required) (used q.forbidden)) _ a.1 in
    let c = otherwise_none (level_rows q.levels) _ b.1 in
    let counts = simp tests at (pick_none (ltb most_named q.required.count || ltb most_named q.forbidden.count) 9 0 a.0).0 in
    let terms = (or_no (no_terms (used q.required)) _).0 (pick_none (no_terms (used q.required) || no_terms (used q.forbidden)) 10 0 b.0).0 in
    let start = simp tests at (pick_none (eqb q.start 0 || ltb (n + 1) q.start) 12 0 c.1).0 in
    record {
      few_required = omega flags;
      few_forbidden = omega flags;
      required_terms = terms.0;
      forbidden_terms = terms.1;
      true_levels = (pick_none (no_range q.levels) 11 0 c.0).0;
      from_first = omega flags;
      to_end = omega flags;
    }

-- a search is accepted where its query is and its answer list has room
pub record AcceptedSearch (n room : ℕ) (q : Query) : Type 0 where
  pub query : Accepted n q
  pub roomy : n ≤ room

pub accepted_search : (n room : ℕ) (q : Query) → query_refusal n room q ≡ 0 → AcceptedSearch n room q
unfolding query_refusal
accepted_search n room q h =
    let a = otherwise_none (common_refusal n q) (room_rows n room) h in
    record { query = accepted n q a.0; roomy = omega (flags, (pick_none (ltb room n) 13 0 a.1).0) }
