-- Laws of the reader of a whole text.
use Prim.Native.Nat.{ℕ, ◌-◌, ◌<◌, ◌≤◌}
use mathlib.Core.Path.{◌≡◌, refl, sym, ap, ◌∙◌}
use mathlib.Core.Bool.{Bool, true, false}
use mathlib.Core.List.{List, [], ◌++◌}
use native.Mathlib.Omega.{arith}
use borrow.Author.Tests.{lt-ltb, le-ltb, ne_eqb, eq-eqb, eqb-true}
use lib.Dec.{eqb}
use lib.ListN.{length, take, drop, replicate}
use lib.Seq.{length-take-le}
use Rattle.std.proofs.Common.{None, Result, Ok, Err, min}
use Rattle.std.specs.Result.{result_unwrap_or}
use Rattle.laws.specs.Lent.{filled}
use Rattle.refusal.proofs.Numbers.{numbered_number}
use Rattle.laws.specs.Rows.{pick}
use Rattle.laws.proofs.Cases.{either}
use Rattle.plant.specs.Plant as plants
use Rattle.plant.specs.Plant.{plant}
use Rattle.index.specs.Index as indexes
use Rattle.index.specs.Index.{index}
use Rattle.text.specs.Forms.{unfinished}
use Rattle.text.specs.inner.Finding.{form_at, found_at}
use Rattle.text.specs.Reading.{Read, made, no}
use Rattle.text.specs.declared.Form.{Form}
use Rattle.text.specs.declared.Found.{Found}
use Rattle.text.proofs.Reading as texts
use Rattle.plant_text.specs.Form.{plant_line, device_line, term_line, close_line, rows}
use Rattle.plant_text.specs.PlantText.{State, nothing, is, terms, closed, line_refusal, next, step, read_plant, room, places, counts, outcome_of, outcome_values, read_values, outcome_after, plant_after, index_after}
use Rattle.plant_text.specs.inner.Rest.{from, from_form, with_number, highest_known, kind_refusal, Tells, refused_by}
use Rattle.plant_text.specs.inner.Devices.{front, Same, Stops, devices_made, from_device}
use Rattle.plant_text.specs.inner.Terms.{terms_made, SameTerms, ClosedAt, at_term, none_at}
use Rattle.plant_text.specs.inner.Whole.{Made, ReadAll}
use Rattle.plant_text.specs.declared.Room.{Room}
use Rattle.plant_text.specs.declared.Counts.{Counts}
use Rattle.plant_text.specs.declared.lines.Place.{Place}
use Rattle.text.specs.declared.Refused.{Refused}
use Rattle.plant_text.proofs.Reading.{form_refused, line_refused, form_taken, unfinished_refused, reading_form, at_kind, not_standing, is_due, kind_refused}

-- with no device open, a line among the devices that is no device's does what it does between terms
module _ (r : Room) (T : plants.Plant) (X : indexes.Index) (d k : ℕ) (s : List ℕ) (f : Form) where
  alike : {j : ℕ} → f.kind ≡ j →
      from_form r (devices_made T d []) (with_number j f.number) k s ≡ from_form r (terms_made (front d T) X 0 0 terms) (with_number j f.number) k s →
      from_form r (devices_made T d []) f k s ≡ from_form r (terms_made (front d T) X 0 0 terms) f k s
  alike e h = at_kind r (devices_made T d []) k s f e ∙ h ∙ sym (at_kind r (terms_made (front d T) X 0 0 terms) k s f e)

  refuses : (a : Bool) → pick a 24 21 ≡ 0 → ⊥
  refuses true e = omega arith
  refuses false e = omega arith

  between : (f.kind ≡ device_line → ⊥) → from_form r (devices_made T d []) f k s ≡ from_form r (terms_made (front d T) X 0 0 terms) f k s
  unfolding line_refusal next
  between n =
      either (eqb f.kind close_line) (λ c. alike (eqb-true f.kind close_line c) refl)
      (λ c. either (eqb f.kind term_line) (λ t. alike (eqb-true f.kind term_line t) refl)
      (λ t. let x = pick (eqb f.kind unfinished) 24 21 in
      form_refused r (devices_made T d []) k s f x (not_standing r (devices_made T d []) f refl (rw (ne_eqb f.kind device_line n, t, c))) (refuses (eqb f.kind unfinished))
      ∙ sym (form_refused r (terms_made (front d T) X 0 0 terms) k s f x (not_standing r (terms_made (front d T) X 0 0 terms) f refl (rw (t, c))) (refuses (eqb f.kind unfinished)))))

-- after the plant is closed the text ends, or its next line is refused
module _ (r : Room) (m : State) (c : is closed m ≡ true) (k : ℕ) (t : List ℕ) (b : ℕ) where
  closed_refusal : (f : Form) → line_refusal r m f ≡ 25
  unfolding line_refusal
  closed_refusal f = rw c

  bytes_after : b < length t → from r m k (drop b t) ≡ no 25 k
  bytes_after h =
      texts.reading_at rows (is closed) (step r) m k t b (unfinished_refused r) (rw (c, ne_eqb (length t - b) 0 (omega arith)))
      ∙ rw (closed_refusal (form_at rows t b))

  nothing_after : length t ≤ b → from r m k (drop b t) ≡ made m
  nothing_after h = texts.reading_end rows (is closed) (step r) m k t b (rw (c, eq-eqb (length t - b) 0 (omega arith)))

pub all_20 : (r : Room) (t : List ℕ) → 65536 < length t → read_plant r t ≡ no 20 0
unfolding read_plant
all_20 r t h = rw (lt-ltb 65536 (length t) h)

-- the place after the plant line
abbrev begun : ℕ → Place
begun at = record { at = at; line = 2; count = 0 }

module _ (t : List ℕ) {g : Found} (r : Room) (h : length t ≤ 65536) (e : g ≡ found_at highest_known rows t 0) where
  first : read_plant r t ≡ from_form r nothing g.form 1 (drop g.next t)
  unfolding read_plant
  first = rw (le-ltb 65536 (length t) h) (reading_form t 0 e r nothing 1 (omega arith) refl)

  pub all_start : {x : Refused} → Tells (kind_refusal plant_line g.form.kind) 1 x → read_plant r t ≡ refused_by x
  all_start b =
      first ∙ line_refused r nothing 1 (drop g.next t) g.form (kind_refused r nothing g.form plant_line refl (λ i. omega arith) b (λ c. c))

  module _ (u : kind_refusal plant_line g.form.kind ≡ 0) where
    opens : g.form.kind ≡ plant_line
    opens = is_due plant_line g.form.kind u

    opened : (T : plants.Plant) → read_plant r t ≡ from_device r t T (begun g.next) []
    unfolding line_refusal next
    opened T =
        first ∙ at_kind r nothing 1 (drop g.next t) g.form opens
        ∙ form_taken r nothing 1 (drop g.next t) (with_number plant_line g.form.number) refl refl

    module _ (T : plants.Plant) where
      -- no device is open before the first
      pub listed_reads : {b : List ℕ → Read State} → Same 0 None (from_device r t T (begun g.next)) b → read_plant r t ≡ b []
      listed_reads p = opened T ∙ p.same [] (record { size = refl; outer = λ d. refl })

      module _ {T₁ : plants.Plant} {f : Form} {p : Place} (s : Stops r t 0 None (from_device r t T (begun g.next)) (begun g.next) T₁ f p) where
        pub terms_reads : (X : indexes.Index) {b : plants.Plant → Read State} → SameTerms T₁.last p.count (at_term r t X f 0 (none_at p)) b → read_plant r t ≡ b (front p.count T₁)
        terms_reads X c =
            listed_reads s.reads ∙ between r T₁ X p.count p.line (drop p.at t) f s.no_device ∙ c.same (front p.count T₁) refl

        module _ (X : indexes.Index) {X₁ : indexes.Index} {n : ℕ} {b : Place} (m : ClosedAt r t T₁.last p.count (at_term r t X f 0 (none_at p)) X₁ n b) where
          pub all_after : b.at < length t → read_plant r t ≡ no 25 b.line
          all_after v = terms_reads X m.reads ∙ bytes_after r (terms_made (front p.count T₁) X₁ n b.count closed) refl b.line t b.at v

          pub all_made : length t ≤ b.at → Made r t T₁ X₁ (counts p.count n b.count)
          all_made v = record {
            reads = terms_reads X m.reads ∙ nothing_after r (terms_made (front p.count T₁) X₁ n b.count closed) refl b.line t b.at v;
            devices = s.start.holds;
            terms = m.terms;
            postings = m.postings;
          }

-- the room of tables, as the code finds it
pub room_is : (l r v t s p : ℕ) {a b c d e f : ℕ} → a ≡ min l r → b ≡ min a v → c ≡ min b 65535 → d ≡ min t s → e ≡ min d 8192 → f ≡ min p 1048576 →
    ◌≡◌ {A = Room} (record { devices = c; terms = e; postings = f }) (places l r v t s p)
room_is l r v t s p {a} {b} {c} {d} {e} {f} h₁ h₂ h₃ h₄ h₅ h₆ =
    let x : c ≡ min 65535 (min l (min r v)) = omega arith in
    let y : e ≡ min 8192 (min t s) = omega arith in
    let z : f ≡ min 1048576 p = omega arith in
    rw (x, y, z)

-- a table that is filled with 0 after its front entries
filled_is : (l l₀ l' : List ℕ) (n : ℕ) → n ≤ length l → length l ≡ length l₀ → l' ≡ take n l ++ replicate (length l - n) 0 → l' ≡ filled (length l₀) (take n l)
filled_is l l₀ l' n h e c = rw (c, length-take-le n l h, e)

-- the values of what is told
pub values_are : (s : Read State) {o : Result Counts Refused} → o ≡ outcome_of s → outcome_values o ≡ read_values s
values_are (made m) e = ap outcome_values e
values_are (no n k) e = ap outcome_values e

-- the counts of what was made, or none
abbrev counts_of : Result Counts Refused → Counts
counts_of o = result_unwrap_or o (counts 0 0 0)

-- the tables T₀ and X₀ when a text has been read into them, and when they have been filled
module _ (T₀ : plants.Plant) (X₀ : indexes.Index) (t : List ℕ) (T : plants.Plant) (X : indexes.Index) {r : Room} (e : r ≡ room T₀ X₀)
    (l : length T.last ≡ length T₀.last) (v : length T.root ≡ length T₀.root) (w : length T.level ≡ length T₀.level)
    (a : length X.terms ≡ length X₀.terms) (s : length X.starts ≡ length X₀.starts) (q : length X.postings ≡ length X₀.postings) where
  -- what was made has room
  held : {c : Counts} → Made r t T X c →
      (c.devices ≤ length T.last) × (c.devices ≤ length T.root) × (c.devices ≤ length T.level) × (c.terms ≤ length X.terms) × (c.terms ≤ length X.starts) × (c.postings ≤ length X.postings)
  held m =
      let d = rw e at m.devices in
      let n = rw e at m.terms in
      let p = rw e at m.postings in
      (omega arith, omega arith, omega arith, omega arith, omega arith, omega arith)

  pub outcome_is : (o : Result Counts Refused) → ReadAll r t T X o → o ≡ outcome_after t T₀ X₀
  outcome_is (Ok c) m =
      let h = held m in
      rw (← e, m.reads, length-take-le c.devices T.last h.0, length-take-le c.terms X.terms h.3, length-take-le c.postings X.postings h.5)
  outcome_is (Err x) z = rw (← e, z, numbered_number x.refusal)

  pub plant_is : (o : Result Counts Refused) → ReadAll r t T X o → {L R W : List ℕ} → L ≡ take (counts_of o).devices T.last ++ replicate (length T.last - (counts_of o).devices) 0 →
      R ≡ take (counts_of o).devices T.root ++ replicate (length T.root - (counts_of o).devices) 0 →
      W ≡ take (counts_of o).devices T.level ++ replicate (length T.level - (counts_of o).devices) 0 → plant L R W ≡ plant_after t T₀ X₀
  plant_is (Ok c) m {L} {R} {W} x y z =
      let h = held m in
      rw (← e, m.reads, filled_is T.last T₀.last L c.devices h.0 l x, filled_is T.root T₀.root R c.devices h.1 v y, filled_is T.level T₀.level W c.devices h.2 w z)
  plant_is (Err _) u {L} {R} {W} x y z =
      rw (← e, u, filled_is T.last T₀.last L 0 (omega arith) l x, filled_is T.root T₀.root R 0 (omega arith) v y, filled_is T.level T₀.level W 0 (omega arith) w z)

  pub index_is : (o : Result Counts Refused) → ReadAll r t T X o → {A S Q : List ℕ} → A ≡ take (counts_of o).terms X.terms ++ replicate (length X.terms - (counts_of o).terms) 0 →
      S ≡ take (counts_of o).terms X.starts ++ replicate (length X.starts - (counts_of o).terms) 0 →
      Q ≡ take (counts_of o).postings X.postings ++ replicate (length X.postings - (counts_of o).postings) 0 → index A S Q ≡ index_after t T₀ X₀
  index_is (Ok c) m {A} {S} {Q} x y z =
      let h = held m in
      rw (← e, m.reads, filled_is X.terms X₀.terms A c.terms h.3 a x, filled_is X.starts X₀.starts S c.terms h.4 s y, filled_is X.postings X₀.postings Q c.postings h.5 q z)
  index_is (Err _) u {A} {S} {Q} x y z =
      rw (← e, u, filled_is X.terms X₀.terms A 0 (omega arith) a x, filled_is X.starts X₀.starts S 0 (omega arith) s y, filled_is X.postings X₀.postings Q 0 (omega arith) q z)
