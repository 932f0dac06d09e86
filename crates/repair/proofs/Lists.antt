-- Going through the lists of an index, to compact them.
use Prim.Native.Nat.{ℕ, zero, suc, ◌+◌, ◌*◌, ◌-◌, ◌≤◌, ◌<◌}
use mathlib.Core.Path.{◌≡◌, refl, sym, ap, ◌∙◌}
use mathlib.Core.List.{List, [], ◌++◌}
use native.Mathlib.Omega.{arith}
use lib.ListN.{length, get_or, take, set, length-append}
use lib.Seq.{slice, length-slice, take_all}
use Rattle.laws.specs.Joined.{joined}
use Rattle.laws.specs.Tables.{entry}
use Rattle.laws.proofs.Search.{none_any}
use Rattle.laws.proofs.Lists.{same_later}
use Rattle.laws.proofs.Joined.{joined_next, joined_longer}
use Rattle.plant.specs.Plant.{plant}
use Rattle.index.specs.Index.{Index, count, list}
use Rattle.index.proofs.Laying.{Laying, lay_start, lay_bounds, lay_list, lay_turn}
use Rattle.repair.specs.Kept.{dropped}
use Rattle.repair.specs.Repair.{kept_in, dropped_in, reported, report_in}
use Rattle.repair.specs.inner.Lists.{astray_in, Fit, Repairable}
use Rattle.repair.specs.inner.Compaction.{dropped_of, reports_of, Compacting, Compacted}
use Rattle.repair.specs.declared.compact.Filled.{Filled}
use Rattle.repair.proofs.Passing.{fit}
use Rattle.repair.proofs.Counting.{kept_shorter}
use Rattle.repair.proofs.Compacting.{length_reported}

-- the report has three entries for each posting that is dropped
length_reports : (last : List ℕ) (I : Index) (k : ℕ) → length (reports_of last I k) ≡ 3 * length (dropped_of last I k)
unfolding joined
length_reports last I zero = refl
length_reports last I (suc k) =
    let h = length_reports last I k in
    let g = length_reported (entry I.terms (suc k)) (dropped last (list I (suc k))) in
    simp length-append (omega arith)

pub list_fit : {last : List ℕ} {I : Index} → Repairable last I → (k : ℕ) → 1 ≤ k → k ≤ count I → Fit (length last) (list I k)
list_fit {last} {I} R k a b = fit (length last) (list I k) (none_any _ (none_any (astray_in last I) R.ordered k a b))

-- the first k lists are compacted, and the next begins at `start`
pub record Round (last : List ℕ) (I : Index) (r₀ : List ℕ) (starts p r : List ℕ) (f : Filled) (start k : ℕ) : Type 0 where
  pub lists : Laying I (kept_in (plant last [] []) I) starts p f.postings start k
  pub done : Compacted last I r₀ k starts p r f

pub round_start : {last : List ℕ} {I : Index} {r : List ℕ} → Repairable last I → Round last I r I.starts I.postings r (record { postings = 0; report = 0 }) 0 0
unfolding joined
round_start {last} {I} R = let h = lay_start I (kept_in (plant last [] []) I) R.outline in record {
  lists = h;
  done = record { lists = h.done; line_is = refl; report_size = refl; report_front = refl; report_rest = refl };
}

module _ {last : List ℕ} {I : Index} {r₀ starts p r : List ℕ} {f : Filled} {start k : ℕ} (R : Repairable last I)
    (room : 3 * length (dropped_of last I (count I)) ≤ length r₀) (t : Round last I r₀ starts p r f start k) where
  module _ {end : ℕ} (u : k < count I) (e : end ≡ get_or starts (k + 1) (length p)) where
    pub round_bounds : (f.postings ≤ start) × (start ≤ end) × (end ≤ length p)
    round_bounds = lay_bounds R.outline (kept_shorter last I) t.lists u e

    next_list : slice start end p ≡ list I (k + 1)
    next_list = lay_list R.outline (kept_shorter last I) t.lists u e

    pub round_fit : Fit (length last) (slice start end p)
    round_fit = rw next_list (list_fit R (k + 1) (omega arith) (omega arith))

    dropped_next : length (dropped_of last I (k + 1)) ≡ length (dropped_of last I k) + length (dropped last (list I (k + 1)))
    dropped_next = ap length (joined_next (dropped_in (plant last [] []) I) k) ∙ length-append (dropped_of last I k) (dropped last (list I (k + 1)))

    pub round_room : f.report + 3 * length (dropped last (slice start end p)) ≤ length r
    round_room =
        let c = joined_longer (dropped_in (plant last [] []) I) (k + 1) (count I) (omega arith) in
        rw next_list (omega (arith, length_reports last I k, dropped_next, t.done.line_is, t.done.report_size))

    -- the whole list is passed
    whole : take (end - start) (slice start end p) ≡ list I (k + 1)
    whole =
        let b = round_bounds in
        let n = length-slice start end p b.2 in
        take_all (end - start) (slice start end p) (omega arith) ∙ next_list

    module _ {v term : ℕ} {starts' p' r' : List ℕ} {f' : Filled} (v-is : v ≡ f.postings) (starts-are : starts' ≡ set starts k v) (term_is : term ≡ get_or I.terms k 0)
        (c : Compacting last p r start end term f.postings f.report end p' r' f') where
      next : Laying I (kept_in (plant last [] []) I) starts' p' f'.postings end (k + 1)
      next = lay_turn R.outline (kept_shorter last I) t.lists u e v-is starts-are
          (record { size = c.size; place_is = rw whole at c.place_is; front = rw whole at c.front; rest = c.rest })

      report_next : reports_of last I (k + 1) ≡ reports_of last I k ++ reported term (dropped last (list I (k + 1)))
      report_next =
          let z : k + 1 - 1 ≡ k = omega arith in
          joined_next (report_in (plant last [] []) I) k ∙ rw (z, term_is)

      line_next : f'.report ≡ length (reports_of last I (k + 1))
      line_next =
          let a = rw whole at c.line_is in
          let g = length_reported term (dropped last (list I (k + 1))) in
          let n = ap length report_next ∙ length-append (reports_of last I k) (reported term (dropped last (list I (k + 1)))) in
          omega (arith, t.done.line_is)

      pub round_turn : Round last I r₀ starts' p' r' f' end (k + 1)
      round_turn = let h = t.done in record {
        lists = next;
        done = record {
          lists = next.done;
          line_is = line_next;
          report_size = c.report_size ∙ h.report_size;
          report_front = rw whole at c.report_front
              ∙ ap (λ (x : List ℕ). x ++ reported term (dropped last (list I (k + 1)))) h.report_front ∙ sym report_next;
          report_rest = c.report_rest ∙ same_later r r₀ f.report h.report_rest f'.report (omega (arith, c.line_is));
        };
      }
