-- What a round in code does to a run: the definition's run goes on from where the code's round leaves off.
use Prim.Native.Nat.{ℕ, zero, suc, ◌+◌, ◌-◌, ◌*◌, ◌≤◌, ◌<◌}
use native.Mathlib.Omega.{arith}
use mathlib.Core.Bool.{Bool, true, false}
use mathlib.Core.List.{List, [], ◌∷◌, ◌++◌, map, append_assoc, append-nil}
use lib.ListN.{length, get_or, drop, replicate, length-append, length-drop}
use lib.Seq.{length-sets}
use Rattle.std.proofs.Common.{Option, Some, None}
use mathlib.Core.Path.{◌≡◌, refl, sym, ap, ap₂, ◌∙◌}
use borrow.Author.Tests.{lt-ltb, le-ltb}
use Rattle.laws.specs.Limits.{most_devices}
use Rattle.index.specs.inner.Lists.{SoundList}
use Rattle.index.proofs.Accepted.{sound_few}
use Rattle.steps.specs.Matching.{matching}
use Rattle.steps.specs.Steps.{required, forbidden, Cursor, placed, End, ends, counted, listing, round, run, total}
use Rattle.steps.proofs.Counts.{round_tallies, run_by, run_over}
use Rattle.steps.proofs.Stretch.{Accept, led, listing_led, counted_none, run_still}
use Rattle.search.specs.inner.Cursors.{most_cursors, most_passed, Tables, Valid, Lists, cursors, begin, said, Turns, Writes, RunGives}
use Rattle.search.specs.declared.cursor.Counts.{Counts}
use Rattle.search.specs.declared.run.Round.{Round}
use Rattle.search.specs.declared.run.Round.TheVariants.{Accepts, Again}
use Rattle.search.proofs.RoundByIndex.{counts}
use Rattle.search.proofs.Written.{matching_few, sets_after}

-- what comes of j rounds from position p, where the cursors and the counts stand so
abbrev goes : (last root : List ℕ) → (ℕ → Bool) → List (List ℕ) → (k budget : ℕ) → List ℕ → Counts → (j p : ℕ) → End
goes last root ok ls k budget at c j p = run last root (length last + 1) ok j (budget - c.moves) p (cursors k at 0 ls)

-- more counts in front of a run
abbrev made : Counts → Counts → End → End
made c c' = counted (counts (c'.moves - c.moves) (c'.passed - c.passed))

-- how many rounds of the definition a round of the code at position p is, what it lists, and where it leaves off
abbrev pub rounds : Round → ℕ → ℕ
rounds (Accepts to) p = to + 1 - p
rounds (Again next) p = 1

abbrev pub stretch : Round → (ℕ → Bool) → ℕ → List ℕ
stretch (Accepts to) ok p = matching ok (to + 1 - p) p
stretch (Again next) ok p = []

abbrev pub onward : Round → ℕ
onward (Accepts to) = to + 1
onward (Again next) = next

-- where a round accepts p, all cursors accept each position up to its last, which is below the end; of another nothing is asked
abbrev pub Stays : List ℕ → ℕ → List Cursor → ℕ → Round → Type 0
Stays last end cs p (Accepts to) = (p ≤ to) × (to < end) × ((q : ℕ) → p ≤ q → q ≤ to → Accept last end q cs)
Stays last end cs p (Again next) = Unit {0}

-- a round of the code at position p, in a run up to any end, is the definition's
pub record Turned (last root : List ℕ) (ls : List (List ℕ)) (k end p budget : ℕ) (at at' : List ℕ) (c c' : Counts) (r : Round) : Type 0 where
  pub more : c.moves ≤ c'.moves
  pub same : round last root end p (budget - c.moves) (cursors k at 0 ls)
      ≡ record { cursors = cursors k at' 0 ls; counts = record { moves = c'.moves - c.moves; passed = c'.passed - c.passed }; outcome = said (Some r) }
  pub stays : Stays last end (cursors k at' 0 ls) p r

module _ {last root : List ℕ} {ls : List (List ℕ)} {k end p budget : ℕ} {at at' : List ℕ} {c c' : Counts} (ok : ℕ → Bool) (h : p < end) where
  left : {r : Round} → Turned last root ls k end p budget at at' c c' r → budget - c.moves - (c'.moves - c.moves) ≡ budget - c'.moves
  left t = omega (arith, t.more)

  again_goes : {next : ℕ} → Turned last root ls k end p budget at at' c c' (Again next) → (j : ℕ)
      → run last root end ok (suc j) (budget - c.moves) p (cursors k at 0 ls) ≡ made c c' (run last root end ok j (budget - c'.moves) next (cursors k at' 0 ls))
  again_goes t j = run_by last root end ok j (budget - c.moves) p (cursors k at 0 ls) _ h t.same ∙ rw (left t)

  accepted_goes : {to : ℕ} → Turned last root ls k end p budget at at' c c' (Accepts to) → (j : ℕ)
      → run last root end ok (suc j) (budget - c.moves) p (cursors k at 0 ls) ≡ made c c' (listing (ok p) p (run last root end ok j (budget - c'.moves) (p + 1) (cursors k at' 0 ls)))
  accepted_goes t j = run_by last root end ok j (budget - c.moves) p (cursors k at 0 ls) _ h t.same ∙ rw (left t)

  stretch_goes : {to : ℕ} → Turned last root ls k end p budget at at' c c' (Accepts to) → (j : ℕ)
      → run last root end ok (to + 1 - p + j) (budget - c.moves) p (cursors k at 0 ls)
      ≡ made c c' (led (matching ok (to + 1 - p) p) (run last root end ok j (budget - c'.moves) (to + 1) (cursors k at' 0 ls)))
  unfolding matching
  stretch_goes {to} t j =
      let f = t.stays.0 in
      let i = t.stays.1 in
      let u : to + 1 - p + j ≡ suc (to - p + j) = omega arith in
      let v : to + 1 - p ≡ suc (to - p) = omega arith in
      let w : p + 1 + (to - p) ≡ to + 1 = omega arith in
      let S = run_still last root end ok (cursors k at' 0 ls) (budget - c'.moves) (to - p) j (p + 1) (omega arith) (λ q x y. t.stays.2 q (omega arith) (omega arith)) in
      rw (u, v) (accepted_goes t (to - p + j) ∙ ap (λ x. made c c' (listing (ok p) p x)) (rw w at S) ∙ ap (made c c') (listing_led (ok p) p _ _))

  -- all positions of a round at once
  pub turn_goes : (r : Round) → Turned last root ls k end p budget at at' c c' r → (j : ℕ)
      → run last root end ok (rounds r p + j) (budget - c.moves) p (cursors k at 0 ls)
      ≡ made c c' (led (stretch r ok p) (run last root end ok j (budget - c'.moves) (onward r) (cursors k at' 0 ls)))
  turn_goes (Accepts to) t j = stretch_goes t j
  turn_goes (Again next) t j = let u : 1 + j ≡ suc j = omega arith in rw u (again_goes t j)

module _ {last root : List ℕ} {ls : List (List ℕ)} {k p budget : ℕ} {at at' : List ℕ} {c c' : Counts} (ok : ℕ → Bool) (h : p ≤ length last) where
  -- each posting that the cursors lose is a move or is passed over
  turn_sum : {r : Option Round} → Turns last root ls k p budget at at' c c' r
      → c'.moves - c.moves + (c'.passed - c.passed) + total (cursors k at' 0 ls) ≡ total (cursors k at 0 ls)
  turn_sum t = rw t.same at (round_tallies last root (length last + 1) p (budget - c.moves) (cursors k at 0 ls)).count

  turn_stops : Turns last root ls k p budget at at' c c' None → (j : ℕ) → goes last root ok ls k budget at c (suc j) p ≡ made c c' (ends p true (cursors k at' 0 ls))
  turn_stops t j = run_by last root (length last + 1) ok j (budget - c.moves) p (cursors k at 0 ls) _ (omega arith) t.same

  turn_again : {next : ℕ} → Turns last root ls k p budget at at' c c' (Some (Again next)) → (j : ℕ)
      → goes last root ok ls k budget at c (suc j) p ≡ made c c' (goes last root ok ls k budget at' c' j next)
  turn_again t j = again_goes ok (omega arith) (record { more = t.more; same = t.same; stays = tt }) j

  turn_lists : {to : ℕ} → Turns last root ls k p budget at at' c c' (Some (Accepts to)) → (j : ℕ)
      → goes last root ok ls k budget at c (to + 1 - p + j) p ≡ made c c' (led (matching ok (to + 1 - p) p) (goes last root ok ls k budget at' c' j (to + 1)))
  turn_lists {to} t j =
      turn_goes ok (omega arith) (Accepts to) (record { more = t.more; same = t.same; stays = (t.goes.0, (let i = t.goes.1 in omega arith), t.goes.2) }) j

-- ---- all positions

end_same : {xs ys : List ℕ} {p m n s t : ℕ} {b : Bool} {cs : List Cursor} → xs ≡ ys → m ≡ n → s ≡ t
    → ◌≡◌ {A = End} (record { listed = xs; position = p; counts = counts m s; short = b; cursors = cs })
    (record { listed = ys; position = p; counts = counts n t; short = b; cursors = cs })
end_same {p} {b} {cs} x m s = ap₂ (λ l c. record { listed = l; position = p; counts = c; short = b; cursors = cs }) x (ap₂ counts m s)

first_zero : (n k : ℕ) → ◌≡◌ {A = ℕ} (get_or (replicate n 0) k 0) 0
first_zero zero k = refl
first_zero (suc n) zero = refl
first_zero (suc n) (suc k) = first_zero n k

-- the lists of required terms and then those of forbidden ones: the cursors that a run begins with
module _ (list : ℕ → List ℕ) (n k : ℕ) where
  begin_forbidden : (i : ℕ) (ts : List ℕ) → k ≤ i → cursors k (replicate n 0) i (map list ts) ≡ placed list forbidden ts
  unfolding cursors
  begin_forbidden i [] h = refl
  begin_forbidden i (t ∷ ts) h = rw (le-ltb i k h, first_zero n i, begin_forbidden (suc i) ts (omega arith))

  begin_from : (i : ℕ) (rs fs : List ℕ) → k ≡ i + length rs → cursors k (replicate n 0) i (map list (rs ++ fs)) ≡ placed list required rs ++ placed list forbidden fs
  unfolding cursors
  begin_from i [] fs h = begin_forbidden i fs (omega arith)
  begin_from i (t ∷ ts) fs h = rw (lt-ltb i k (omega arith), first_zero n i, begin_from (suc i) ts fs (omega arith))

pub begin_is : (list : ℕ → List ℕ) (rs fs : List ℕ) {k : ℕ} → k ≡ length rs → begin k (map list (rs ++ fs)) ≡ placed list required rs ++ placed list forbidden fs
begin_is list rs fs {k} e = begin_from list most_cursors k 0 rs fs (omega arith)

valid_first : {last : List ℕ} {ls : List (List ℕ)} → Lists last ls → Valid last ls (replicate most_cursors 0)
valid_first v = record {
  long = refl;
  few = v.few;
  each = λ k h. rw (first_zero most_cursors k) (record { sound = v.each k h; within = omega arith });
}

-- no cursor has more postings than there are devices
total_few : (last at : List ℕ) (k i : ℕ) (ls : List (List ℕ)) → length last ≤ most_devices → ((n : ℕ) → n < length ls → SoundList last (get_or ls n []))
    → total (cursors k at i ls) ≤ length ls * most_devices
unfolding cursors
total_few last at k i [] d e = omega arith
total_few last at k i (l ∷ ls) d e =
    let first = sound_few (e 0 (omega arith)) in
    let others = total_few last at k (suc i) ls d (λ n h. e (suc n) (omega arith)) in
    omega (arith, first, others, length-drop (get_or at i 0) l)

-- what is listed and counted so far; the rounds left are enough, and give what is left of the whole run
pub record Listed (last root : List ℕ) (ok : ℕ → Bool) (ls : List (List ℕ)) (k budget start : ℕ) (out₀ at out : List ℕ) (position count : ℕ) (c : Counts) : Type 0 where
  pub tables : Tables last root
  pub roomy : length last ≤ length out₀
  pub valid : Valid last ls at
  pub within : position ≤ length last + 1
  pub listed : List ℕ
  pub more : ℕ
  pub some : 1 ≤ more
  pub enough : length last + 1 < position + more
  pub long : length listed ≡ count
  pub written : out ≡ listed ++ drop count out₀
  pub kept : length out ≡ length out₀
  pub room : count < position
  pub few : c.moves ≤ budget
  pub sum : c.moves + c.passed + total (cursors k at 0 ls) ≡ total (begin k ls)
  pub small : total (begin k ls) ≤ most_passed
  pub same : run last root (length last + 1) ok (length last + 1) budget start (begin k ls)
      ≡ counted (counts c.moves c.passed) (led listed (goes last root ok ls k budget at c more position))

pub listed_start : {last root : List ℕ} {ok : ℕ → Bool} {ls : List (List ℕ)} {k budget start : ℕ} {out : List ℕ} → Tables last root → length last ≤ length out
    → Lists last ls → 1 ≤ start → start ≤ length last + 1
    → Listed last root ok ls k budget start out (replicate most_cursors 0) out start 0 (record { moves = 0; passed = 0 })
listed_start {last} {ls} {k} {budget} t o v h w =
    let u : budget - 0 ≡ budget = omega arith in
    record {
      tables = t;
      roomy = o;
      valid = valid_first v;
      within = w;
      listed = [];
      more = length last + 1;
      some = omega arith;
      enough = omega arith;
      long = refl;
      written = refl;
      kept = refl;
      room = omega arith;
      few = omega arith;
      sum = omega arith;
      small = omega (arith, v.few, total_few last (replicate most_cursors 0) k 0 ls t.few v.each);
      same = rw u (sym (counted_none _));
    }

module _ {last root : List ℕ} {ok : ℕ → Bool} {ls : List (List ℕ)} {k budget start : ℕ} {out₀ at out : List ℕ} {position count : ℕ} {c : Counts}
    (a : Listed last root ok ls k budget start out₀ at out position count c) where
  abbrev whole : End
  whole = run last root (length last + 1) ok (length last + 1) budget start (begin k ls)

  abbrev after : End → End
  after e = counted (counts c.moves c.passed) (led a.listed e)

  listed_ends : (p m s : ℕ) (short : Bool) (cs : List Cursor) → after (goes last root ok ls k budget at c a.more position)
      ≡ record { listed = a.listed; position = p; counts = counts m s; short = short; cursors = cs }
      → RunGives whole out₀ out (record { count = count; position = p; passed = s; moves = m })
  listed_ends p m s short cs e =
      rw (a.same ∙ e) (record { written = rw a.long a.written; count = sym a.long; position = refl; passed = refl; moves = refl })

  pub listed_over : length last + 1 ≤ position → RunGives whole out₀ out (record { count = count; position = position; passed = c.passed; moves = c.moves })
  listed_over h =
      let e : position ≡ length last + 1 = omega (arith, a.within) in
      rw e (listed_ends (length last + 1) c.moves c.passed false _
      (ap after (run_over last root (length last + 1) ok a.more (budget - c.moves) position (cursors k at 0 ls) a.some h)
      ∙ end_same (append-nil a.listed) (omega arith) (omega arith)))

  module _ (h : position ≤ length last) {at' : List ℕ} {c' : Counts} where
    pub listed_stops : Turns last root ls k position budget at at' c c' None
        → RunGives whole out₀ out (record { count = count; position = position; passed = c'.passed; moves = c'.moves })
    listed_stops t =
        let q : a.more ≡ suc (a.more - 1) = omega (arith, a.some) in
        listed_ends position c'.moves c'.passed true _
        (ap after (ap (λ (j : ℕ). goes last root ok ls k budget at c j position) q ∙ turn_stops ok h t (a.more - 1))
        ∙ end_same (append-nil a.listed) (omega (arith, t.more)) (omega (arith, t.further)))

    pub listed_again : {next : ℕ} → Turns last root ls k position budget at at' c c' (Some (Again next))
        → Listed last root ok ls k budget start out₀ at' out next count c'
    listed_again t =
        let q : a.more ≡ suc (a.more - 1) = omega (arith, a.some) in
        let r = t.goes.0 in
        let i = t.goes.1 in
        record {
          tables = a.tables;
          roomy = a.roomy;
          valid = t.valid;
          within = i;
          listed = a.listed;
          more = a.more - 1;
          some = omega (arith, a.enough);
          enough = omega (arith, a.enough, a.some);
          long = a.long;
          written = a.written;
          kept = a.kept;
          room = omega (arith, a.room);
          few = t.few;
          sum = omega (arith, a.sum, turn_sum ok h t, t.more, t.further);
          small = a.small;
          same = a.same
              ∙ ap after (ap (λ (j : ℕ). goes last root ok ls k budget at c j position) q ∙ turn_again ok h t (a.more - 1))
              ∙ end_same refl (omega (arith, t.more)) (omega (arith, t.further));
        }

    pub listed_accepted : {to count' : ℕ} {out' : List ℕ} → Turns last root ls k position budget at at' c c' (Some (Accepts to)) → Writes ok position to out out' count count'
        → Listed last root ok ls k budget start out₀ at' out' (to + 1) count' c'
    listed_accepted {to} t w =
        let ds = matching ok (to + 1 - position) position in
        let f = matching_few ok (to + 1 - position) position in
        let r = t.goes.0 in
        let i = t.goes.1 in
        let q : a.more ≡ to + 1 - position + (a.more - (to + 1 - position)) = omega (arith, a.enough) in
        let fits : count + length ds ≤ length out₀ = omega (arith, a.room, a.roomy) in
        rw (w.long, w.written) (record {
          tables = a.tables;
          roomy = a.roomy;
          valid = t.valid;
          within = omega arith;
          listed = a.listed ++ ds;
          more = a.more - (to + 1 - position);
          some = omega (arith, a.enough);
          enough = omega (arith, a.enough);
          long = rw length-append (rw a.long);
          written = rw a.written (sets_after ds a.listed out₀ count a.long fits);
          kept = length-sets out count ds ∙ a.kept;
          room = omega (arith, a.room);
          few = t.few;
          sum = omega (arith, a.sum, turn_sum ok h t, t.more, t.further);
          small = a.small;
          same = a.same
              ∙ ap after (ap (λ (j : ℕ). goes last root ok ls k budget at c j position) q ∙ turn_lists ok h t (a.more - (to + 1 - position)))
              ∙ end_same (sym (append_assoc a.listed ds _)) (omega (arith, t.more)) (omega (arith, t.further));
        })
