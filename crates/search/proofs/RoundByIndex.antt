-- Laws of a round of all cursors by index, on plain values.
use Prim.Native.Nat.{ℕ, suc, ◌+◌, ◌-◌, ◌*◌, ◌≤◌, ◌<◌, min}
use native.Mathlib.Omega.{arith}
use native.Mathlib.Numerals.{add-one}
use native.Mathlib.Nat.{zero-add, add-zero}
use mathlib.Core.Bool.{Bool, true, false, cond, not, beq, true≢false, false≢true}
use mathlib.Core.List.{List, [], ◌∷◌, ◌++◌, map, append_assoc, append-nil}
use mathlib.Core.Path.{◌≡◌, refl, sym, ap, ap₂, ◌∙◌}
use denote.Ref.{Bor}
use Rattle.std.proofs.Common.{Option, Some, None}
use lib.Dec.{ltb}
use lib.ListN.{length, get_or, take, drop, set, length-set, length-map, get_or-map}
use lib.Seq.{drop-cons, take-suc, split_at, drop-length, take-length, length-take-le, get_or-set_same, get_or-set_other}
use Rattle.laws.specs.Limits.{most_devices, largest_number}
use Rattle.laws.proofs.Cases.{by_order}
use Rattle.index.proofs.Accepted.{sound_few}
use Rattle.steps.specs.Moves.{Counts, plus}
use Rattle.steps.specs.Steps as runs
use Rattle.steps.specs.Steps.{required, forbidden, Outcome, accepts, again, stops, outcome, unmoved_all, onto, round}
use Rattle.steps.proofs.Counts.{round_by}
use Rattle.steps.proofs.Rounds.{asks}
use Rattle.steps.proofs.Stretch.{Rests, rests_on, rests_outcome, Accept}
use Rattle.search.specs.inner.Cursors.{most_cursors, most_passed, Cursor, Tables, Brings, side_of, cursors, Valid, Turns}
use Rattle.search.specs.declared.cursor.Counts as code
use Rattle.search.specs.declared.cursor.Rest.{Rest}
use Rattle.search.specs.declared.run.Round.TheVariants.{Accepts, Again}

-- ---- the cursors, by index

-- cursor i, of a list, at index j
abbrev placed : ℕ → ℕ → List ℕ → ℕ → runs.Cursor
placed k i l j = record { side = side_of k i; left = drop j l }

module _ (k : ℕ) where
  cursors_agree : (x y : List ℕ) (i : ℕ) (ls : List (List ℕ)) → ((n : ℕ) → i ≤ n → n < i + length ls → get_or x n 0 ≡ get_or y n 0)
      → cursors k x i ls ≡ cursors k y i ls
  unfolding cursors
  cursors_agree x y i [] h = refl
  cursors_agree x y i (l ∷ ls) h =
      rw (h i (omega arith) (omega arith), cursors_agree x y (suc i) ls (λ k a b. h k (omega arith) (omega arith)))

  cursors_append : (x : List ℕ) (i : ℕ) (ls ks : List (List ℕ)) → cursors k x i (ls ++ ks) ≡ cursors k x i ls ++ cursors k x (i + length ls) ks
  unfolding cursors
  cursors_append x i [] ks = rw (add-zero i)
  cursors_append x i (l ∷ ls) ks =
      let e : i + length (l ∷ ls) ≡ suc i + length ls = omega arith in
      rw (cursors_append x (suc i) ls ks, e)

  module _ (x : List ℕ) (ls : List (List ℕ)) (i : ℕ) (h : i < length ls) where
    -- cursor i and those after it
    cursors_from : cursors k x i (drop i ls) ≡ placed k i (get_or ls i []) (get_or x i 0) ∷ cursors k x (i + 1) (drop (i + 1) ls)
    unfolding cursors
    cursors_from = rw (drop-cons ls i [] h, add-one)

    -- all, and those up to cursor i
    cursors_all : cursors k x 0 ls ≡ cursors k x 0 (take i ls) ++ (placed k i (get_or ls i []) (get_or x i 0) ∷ cursors k x (i + 1) (drop (i + 1) ls))
    unfolding cursors
    cursors_all =
        ap (cursors k x 0) (split_at ls i [] h)
        ∙ rw (cursors_append x 0 (take i ls), length-take-le i ls (omega arith), zero-add, add-one)

    cursors_upto : cursors k x 0 (take (i + 1) ls) ≡ cursors k x 0 (take i ls) ++ (placed k i (get_or ls i []) (get_or x i 0) ∷ [])
    unfolding cursors
    cursors_upto = rw (add-one, take-suc ls i [] h, cursors_append x 0 (take i ls), length-take-le i ls (omega arith), zero-add)

  -- cursor i is put to index j
  module _ (x : List ℕ) (ls : List (List ℕ)) (i j : ℕ) (h : i < length ls) (w : i < length x) where
    kept : (n : ℕ) → (n ≡ i → ⊥) → get_or x n 0 ≡ get_or (set x i j) n 0
    kept n d = sym (get_or-set_other x i n j 0 d)

    kept_after : cursors k x (i + 1) (drop (i + 1) ls) ≡ cursors k (set x i j) (i + 1) (drop (i + 1) ls)
    kept_after = cursors_agree x (set x i j) (i + 1) _ (λ n a b. kept n (omega arith))

    kept_before : cursors k x 0 (take i ls) ≡ cursors k (set x i j) 0 (take i ls)
    kept_before = cursors_agree x (set x i j) 0 _ (λ n a b. let e = length-take-le i ls (omega arith) in kept n (omega arith))

    put_all : cursors k (set x i j) 0 ls ≡ cursors k x 0 (take i ls) ++ (placed k i (get_or ls i []) j ∷ cursors k x (i + 1) (drop (i + 1) ls))
    put_all = cursors_all (set x i j) ls i h ∙ rw (← kept_before, ← kept_after, get_or-set_same x i j 0 w)

    put_upto : cursors k (set x i j) 0 (take (i + 1) ls) ≡ cursors k x 0 (take i ls) ++ (placed k i (get_or ls i []) j ∷ [])
    put_upto = cursors_upto (set x i j) ls i h ∙ rw (← kept_before, get_or-set_same x i j 0 w)

    put_valid : {last : List ℕ} → Valid last ls x → j ≤ length (get_or ls i []) → Valid last ls (set x i j)
    put_valid {last} v u = record {
      long = rw length-set v.long;
      few = v.few;
      each = λ n b.
          let here : Cursor last (get_or ls i []) (get_or (set x i j) i 0) = rw (get_or-set_same x i j 0 w) (record { sound = (v.each i h).sound; within = u }) in
          let other : (n ≡ i → ⊥) → Cursor last (get_or ls n []) (get_or (set x i j) n 0) = λ d. rw (← kept n d) (v.each n b) in
          by_order n i (λ l. other (omega arith)) (λ l. by_order i n (λ g. other (omega arith)) (λ g. let e : n ≡ i = omega arith in rw e here));
    }

-- ---- a round

-- what a test `a != b` of two flags shows, of a cursor that carries or not and is asked to
asked_not : (a b : Bool) → not (beq a b) ≡ true → asks (cond b required forbidden) a ≡ false
asked_not true true h = absurd (false≢true h)
asked_not true false h = refl
asked_not false true h = refl
asked_not false false h = absurd (false≢true h)

asked_so : (a b : Bool) → not (beq a b) ≡ false → asks (cond b required forbidden) a ≡ true
asked_so true true h = refl
asked_so true false h = absurd (true≢false h)
asked_so false true h = absurd (true≢false h)
asked_so false false h = refl

-- the k-th of some slices, and how many they are
pub element : (l : List (Bor (List ℕ))) (i : ℕ) → (get_or l i (record { ref_ptr = (0, 0); now = [] })).now ≡ get_or (map (λ x. x.now) l) i []
element l i = sym (get_or-map (λ x. x.now) l i _)

pub inside : (l : List (Bor (List ℕ))) {i : ℕ} → i < length l → i < length (map (λ x. x.now) l)
inside l h = rw length-map h

-- more cursors and counts in front of a round's
abbrev pub leads : List runs.Cursor → Counts → runs.Round → runs.Round
leads cs n r = record { cursors = cs ++ r.cursors; counts = plus n r.counts; outcome = r.outcome }

abbrev pub counts : ℕ → ℕ → Counts
counts m p = record { moves = m; passed = p }

-- the cursors before i are done, and accept each position from p to `to`: those from i on, with the moves left, give what the whole gives
pub record Doing (last root : List ℕ) (ls : List (List ℕ)) (k p budget : ℕ) (x₀ x : List ℕ) (c₀ c : code.Counts) (to i : ℕ) : Type 0 where
  pub valid : Valid last ls x
  pub within : i ≤ length ls
  pub devices : length last ≤ most_devices
  pub further : c₀.passed ≤ c.passed
  pub small : c.passed ≤ c₀.passed + i * most_devices
  pub more : c₀.moves ≤ c.moves
  pub few : c.moves ≤ budget
  pub from : p ≤ to
  pub bound : to ≤ length last
  pub same : round last root (length last + 1) p (budget - c₀.moves) (cursors k x₀ 0 ls)
      ≡ leads (cursors k x 0 (take i ls)) (counts (c.moves - c₀.moves) (c.passed - c₀.passed)) (round last root (length last + 1) p (budget - c.moves) (cursors k x i (drop i ls)))
  pub steady : (q : ℕ) → p ≤ q → q ≤ to → Accept last (length last + 1) q (cursors k x 0 (take i ls))

round_same : {cs ds : List runs.Cursor} {m n p q : ℕ} {o : Outcome} → cs ≡ ds → m ≡ n → p ≡ q
    → ◌≡◌ {A = runs.Round} (record { cursors = cs; counts = counts m p; outcome = o }) (record { cursors = ds; counts = counts n q; outcome = o })
round_same {o} c m p = ap₂ (λ x y. record { cursors = x; counts = y; outcome = o }) c (ap₂ counts m p)

accept_more : (last : List ℕ) (end q : ℕ) (cs : List runs.Cursor) (c : runs.Cursor) → Accept last end q cs → outcome last end q c.side c.left ≡ accepts
    → Accept last end q (cs ++ (c ∷ []))
accept_more last end q [] c a e = (e, tt)
accept_more last end q (d ∷ ds) c a e = (a.0, accept_more last end q ds c a.1 e)

leads_none : (r : runs.Round) → r ≡ leads [] (counts 0 0) r
leads_none r = ap (λ n. record { cursors = r.cursors; counts = n; outcome = r.outcome }) (ap₂ counts (omega arith) (omega arith))

pub doing_start : {last root : List ℕ} {ls : List (List ℕ)} {k p budget : ℕ} {x : List ℕ} {c : code.Counts} → Tables last root → Valid last ls x → p ≤ length last → c.moves ≤ budget
    → Doing last root ls k p budget x x c c (length last) 0
unfolding cursors
doing_start {c} t v h b = let u : c.moves - c.moves ≡ 0 = omega arith in let z : c.passed - c.passed ≡ 0 = omega arith in record {
  valid = v;
  devices = t.few;
  further = omega arith;
  small = omega arith;
  within = omega arith;
  more = omega arith;
  few = b;
  from = h;
  bound = omega arith;
  same = rw (u, z) (leads_none _);
  steady = λ q a b. tt;
}

module _ {last root : List ℕ} {ls : List (List ℕ)} {k p budget : ℕ} {x₀ x : List ℕ} {c₀ c : code.Counts} {to i : ℕ}
    (a : Doing last root ls k p budget x₀ x c₀ c to i) where
  pub doing_ends : length ls ≤ i → Turns last root ls k p budget x₀ x c₀ c (Some (Accepts to))
  unfolding cursors round
  doing_ends h = let e : i ≡ length ls = omega (arith, a.within) in record {
    valid = a.valid;
    more = a.more;
    few = a.few;
    further = a.further;
    same = a.same ∙ rw (e, drop-length, take-length, append-nil) (round_same refl (omega arith) (omega arith));
    goes = (a.from, a.bound, λ q u v. rw (e, take-length) at (a.steady q u v));
  }

  module _ (h : i < length ls) where
    pub in_array : i < most_cursors
    in_array = omega (arith, a.valid.few)

    indexed : i < length x
    indexed = omega (arith, in_array, a.valid.long)

    pub here : {l : List ℕ} → l ≡ get_or ls i [] → Cursor last l (get_or x i 0)
    here e = rw e (a.valid.each i h)

    -- what the cursors up to it pass over fits
    pub fits : {l : List ℕ} → l ≡ get_or ls i [] → c₀.passed ≤ most_passed → c.passed + length l ≤ largest_number
    fits e h = omega (arith, in_array, a.small, a.devices, sound_few (here e).sound)

    module _ {l : List ℕ} {j : ℕ} {c' : code.Counts} {r : Option Rest} (g : Brings last root l p budget (get_or x i 0) j c c' r) (o : l ≡ get_or ls i []) where
      abbrev x' : List ℕ
      x' = set x i j

      moved : Valid last ls x'
      moved = put_valid k x ls i j h indexed a.valid (rw (← o) g.within)

      abbrev rest : List runs.Cursor
      rest = cursors k x (i + 1) (drop (i + 1) ls)

      -- no more has been passed over than there are devices, by each cursor
      few_passed : c'.passed ≤ c₀.passed + (i + 1) * most_devices
      few_passed = omega (arith, a.small, a.devices, g.bounded, sound_few (here o).sound)

      -- the round from cursor i on, by what comes of that cursor
      first : (y : Outcome) → outcome last (length last + 1) p (side_of k i) (drop j l) ≡ y →
          round last root (length last + 1) p (budget - c.moves) (cursors k x i (drop i ls))
          ≡ onto (placed k i l j) (counts (c'.moves - c.moves) (c'.passed - c.passed)) (elim y [
            | accepts ↦ round last root (length last + 1) p (budget - c.moves - (c'.moves - c.moves)) rest
            | again q ↦ unmoved_all rest (again q)
            | stops ↦ unmoved_all rest stops
          ])
      first y e = rw (cursors_from k x ls i h, ← o) (round_by last root (length last + 1) p (budget - c.moves) (placed k i l (get_or x i 0)) rest _ y g.same e)

      -- the round ends at cursor i
      ends : (y : Outcome) → outcome last (length last + 1) p (side_of k i) (drop j l) ≡ y → unmoved_all rest y ≡ (elim y [
        | accepts ↦ round last root (length last + 1) p (budget - c.moves - (c'.moves - c.moves)) rest
        | again q ↦ unmoved_all rest (again q)
        | stops ↦ unmoved_all rest stops
      ]) → round last root (length last + 1) p (budget - c₀.moves) (cursors k x₀ 0 ls)
          ≡ record { cursors = cursors k x' 0 ls; counts = counts (c'.moves - c₀.moves) (c'.passed - c₀.passed); outcome = y }
      ends y e u =
          a.same
          ∙ ap (leads (cursors k x 0 (take i ls)) (counts (c.moves - c₀.moves) (c.passed - c₀.passed)))
          (first y e ∙ ap (onto (placed k i l j) (counts (c'.moves - c.moves) (c'.passed - c.passed))) (sym u))
          ∙ round_same (sym (put_all k x ls i j h indexed ∙ rw (← o))) (omega (arith, g.more, a.more)) (omega (arith, g.further, a.further))

    module _ {l : List ℕ} {j : ℕ} {c' : code.Counts} (o : l ≡ get_or ls i []) where
      pub doing_stops : Brings last root l p budget (get_or x i 0) j c c' None → Turns last root ls k p budget x₀ (set x i j) c₀ c' None
      doing_stops g = record {
        valid = moved g o;
        more = omega (arith, g.more, a.more);
        few = g.few;
        further = omega (arith, g.further, a.further);
        same = ends g o stops (rw (g.rests, outcome)) refl;
        goes = tt;
      }

      module _ {r : Rest} (g : Brings last root l p budget (get_or x i 0) j c c' (Some r)) {asked : Bool} (q : asked ≡ ltb i k) where
        resting : Rests last (length last + 1) (drop j l) p r.carries r.to
        resting = g.rests.1

        pub doing_again : not (beq r.carries asked) ≡ true → Turns last root ls k p budget x₀ (set x i j) c₀ c' (Some (Again (r.to + 1)))
        doing_again z = record {
          valid = moved g o;
          more = omega (arith, g.more, a.more);
          few = g.few;
          further = omega (arith, g.further, a.further);
          same = ends g o (again (r.to + 1)) (rests_outcome (side_of k i) (drop j l) p r.carries resting ∙ rw (asked_not r.carries (ltb i k) (rw q at z))) refl;
          goes = (omega (arith, resting.from), omega (arith, g.rests.0));
        }

        pub doing_more : not (beq r.carries asked) ≡ false → Doing last root ls k p budget x₀ (set x i j) c₀ c' (min to r.to) (i + 1)
        doing_more z =
            let so = asked_so r.carries (ltb i k) (rw q at z) in
            let u : budget - c.moves - (c'.moves - c.moves) ≡ budget - c'.moves = omega (arith, g.more) in
            record {
              devices = a.devices;
              further = omega (arith, g.further, a.further);
              small = few_passed g o;
              valid = moved g o;
              within = omega arith;
              more = omega (arith, g.more, a.more);
              few = g.few;
              from = omega (arith, resting.from, a.from);
              bound = omega (arith, a.bound);
              same =
                  a.same
                  ∙ ap (leads (cursors k x 0 (take i ls)) (counts (c.moves - c₀.moves) (c.passed - c₀.passed)))
                  (first g o accepts (rests_outcome (side_of k i) (drop j l) p r.carries resting ∙ rw so))
                  ∙ rw (u, put_upto k x ls i j h indexed, ← o, ← kept_after k x ls i j h indexed, append_assoc)
                  (round_same refl (omega (arith, g.more, a.more)) (omega (arith, g.further, a.further)));
              steady = λ y v w. rw (put_upto k x ls i j h indexed, ← o)
                  (accept_more last (length last + 1) y (cursors k x 0 (take i ls)) (placed k i l j) (a.steady y v (omega arith))
                  (rests_outcome (side_of k i) (drop j l) y r.carries (rests_on r.carries resting y v (omega arith)) ∙ rw so));
            }
