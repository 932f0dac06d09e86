-- Laws of reading: what a line that is refused or taken leaves, and what the line that the code finds says of the reading.
use Prim.Native.Nat.{ℕ, ◌+◌, ◌<◌, ◌≤◌}
use mathlib.Core.Path.{◌≡◌, refl, sym, ap, ◌∙◌, subst}
use mathlib.Core.Bool.{Bool, true, false, cond, not, true≢false}
use mathlib.Core.List.{List}
use native.Mathlib.Omega.{arith}
use borrow.Author.Tests.{lt-ltb, ne_eqb, eq-eqb, eqb-true}
use lib.Dec.{eqb}
use lib.ListN.{length, drop}
use Rattle.laws.specs.Rows.{pick}
use Rattle.laws.proofs.Cases.{either}
use Rattle.laws.proofs.Rows.{pick_none}
use Rattle.laws.proofs.Tests.{refuted, not_no}
use Rattle.plant.specs.Plant.{size}
use Rattle.text.specs.Lines.{next_at}
use Rattle.text.specs.Decimal.{up_to}
use Rattle.text.specs.Forms.{unfinished, plain}
use Rattle.text.specs.inner.Finding.{capped_form, form_at, found_at}
use Rattle.text.specs.Reading.{Step, refused, no, unless, and_then}
use Rattle.text.specs.declared.Form.{Form}
use Rattle.text.specs.declared.Found.{Found}
use Rattle.text.specs.declared.Refused.{Refused}
use Rattle.refusal.specs.Numbers.{number}
use Rattle.refusal.proofs.Numbers.{number_not_zero}
use Rattle.text.proofs.Decimal.{capped_step}
use Rattle.text.proofs.Lines.{next_within, next_onward, next_from}
use Rattle.text.proofs.Forms.{whole_kind}
use Rattle.text.proofs.Reading as texts
use Rattle.text.proofs.Reading.{Refuses}
use Rattle.plant_text.specs.Form.{plant_line, device_line, term_line, own_line, all_line, rows, is_posting, numbered}
use Rattle.plant_text.specs.PlantText.{State, is, closed, stands, misplaced, out_of_range, line_refusal, next, step}
use Rattle.plant_text.specs.inner.Rest.{from, from_form, with_number, highest_known, ReadingAt, kind_refusal, Tells, refused_by}
use Rattle.plant_text.specs.declared.Room.{Room}
use Rattle.plant_text.specs.declared.lines.Place.{Place}

-- the place once its line is found, where the next begins at an index; and once the line is read and has made one more
abbrev pub past_at : Place → ℕ → Place
past_at p at = record { at = at; line = p.line; count = p.count }

abbrev pub more_at : Place → ℕ → Place
more_at p at = record { at = at; line = p.line + 1; count = p.count + 1 }

module _ (r : Room) (m : State) (k : ℕ) (s : List ℕ) where
  -- line k is refused, or taken
  pub form_refused : (f : Form) (x : ℕ) → line_refusal r m f ≡ x → (x ≡ 0 → ⊥) → from_form r m f k s ≡ no x k
  form_refused f x e h = rw e (texts.stops (λ m'. from r m' (k + 1) s) x k (next m f) h)

  pub line_refused : (f : Form) {e : Refused} → Tells (line_refusal r m f) k e → from_form r m f k s ≡ refused_by e
  line_refused f {e} t = rw t.line_is (form_refused f (number e.refusal) (sym t.number_is) (number_not_zero e.refusal))

  pub form_taken : (f : Form) {m' : State} → line_refusal r m f ≡ 0 → next m f ≡ m' → from_form r m f k s ≡ from r m' (k + 1) s
  form_taken f e q = rw (e, q)

-- a line's kind, where it is known, and its number are all that reading asks
of_kind : (r : Room) (m : State) (f : Form) {k : ℕ} → f.kind ≡ k → step r m f ≡ step r m (with_number k f.number)
unfolding line_refusal next
of_kind r m f {k} e = subst (λ (j : ℕ). step r m f ≡ step r m (with_number j f.number)) e refl

-- an unfinished line is refused
pub unfinished_refused : (r : Room) → Refuses (step r)
unfolding line_refusal
unfinished_refused r = record { by = λ m. pick (is closed m) 25 24; refuses = λ m. go (is closed m) (next m (plain unfinished)) }
  where
    go : (b : Bool) (m' : State) → unless (pick b 25 24) m' ≡ refused (pick b 25 24)
    go true m' = refl
    go false m' = refl

-- kinds without a number, and with one
module _ (kind : ℕ) where
  without : numbered true true true kind ≡ false → (eqb kind device_line ≡ false) × (eqb kind term_line ≡ false) × (is_posting kind ≡ false)
  without e = go (eqb kind device_line) (eqb kind term_line) (is_posting kind) e
    where
      go : (d t p : Bool) → cond d true (cond t true (cond p true false)) ≡ false → (d ≡ false) × (t ≡ false) × (p ≡ false)
      go true t p e = absurd (true≢false e)
      go false true p e = absurd (true≢false e)
      go false false true e = absurd (true≢false e)
      go false false false e = (refl, refl, refl)

  same_tests : {a b c a' b' c' : Bool} → a ≡ a' → b ≡ b' → c ≡ c' → numbered a b c kind ≡ numbered a' b' c' kind
  same_tests {a} {b} {c} {a'} {b'} {c'} p q s =
      ap (λ (x : Bool). numbered x b c kind) p ∙ ap (λ (x : Bool). numbered a' x c kind) q ∙ ap (λ (x : Bool). numbered a' b' x kind) s

-- a number above 65,535 is refused as 65,536 is
module _ (r : Room) (m : State) (z : size m.plant ≤ highest_known) (kind : ℕ) where
  -- whatever rows come after 22
  by_22 : (a b c d : Bool) (x : ℕ) (m' : State) → d ≡ true → unless (pick a 25 (pick b 24 (pick c 21 (pick d 22 x)))) m' ≡ refused (pick a 25 (pick b 24 (pick c 21 22)))
  by_22 true b c d x m' q = refl
  by_22 false true c d x m' q = refl
  by_22 false false true d x m' q = refl
  by_22 false false false d x m' q = rw q

  high : numbered true true true kind ≡ true → (n : ℕ) → highest_known < n → step r m (with_number kind n)
      ≡ refused (pick (is closed m) 25 (pick (eqb kind unfinished) 24 (pick (misplaced m (with_number kind 0)) 21 22)))
  unfolding line_refusal
  high e n h =
      by_22 (is closed m) (eqb kind unfinished) (misplaced m (with_number kind n)) (out_of_range m (with_number kind n)) _ _
      (same_tests kind (lt-ltb 255 n (omega arith)) (rw (ne_eqb n 0 (omega arith), lt-ltb 65535 n h)) (rw (ne_eqb n 0 (omega arith), lt-ltb (size m.plant) n (omega arith))) ∙ e)

  -- a line of another kind has no number
  no_number : numbered true true true kind ≡ false → (n n' : ℕ) → step r m (with_number kind n) ≡ step r m (with_number kind n')
  unfolding line_refusal next
  no_number e n n' = let w = without kind e in either (eqb kind plant_line) (λ p. rw (p, w.0, w.1, w.2)) (λ p. rw (p, w.0, w.1, w.2))

  capped_kind : (n : ℕ) → step r m (with_number kind (up_to highest_known n)) ≡ step r m (with_number kind n)
  capped_kind n =
      either (numbered true true true kind)
      (λ e. capped_step (λ i. step r m (with_number kind i)) highest_known n _ (high e))
      (λ e. no_number e _ n)

module _ (r : Room) (m : State) (z : size m.plant ≤ highest_known) where
  capped_same : (f : Form) → step r m (capped_form highest_known f) ≡ step r m f
  capped_same f = of_kind r m (capped_form highest_known f) refl ∙ capped_kind r m z f.kind f.number ∙ sym (of_kind r m f refl)

-- the line that the code finds at an index
module _ (t : List ℕ) (at : ℕ) {g : Found} (x : g ≡ found_at highest_known rows t at) where
  -- before the plant is closed, what is read from there on is what the line does, and what is read from the next on
  pub reading_form : (r : Room) (m : State) (k : ℕ) → size m.plant ≤ highest_known → is closed m ≡ false →
      from r m k (drop at t) ≡ from_form r m g.form k (drop g.next t)
  reading_form r m k z o =
      texts.reading_at rows (is closed) (step r) m k t at (unfinished_refused r) (rw o)
      ∙ ap (λ (y : Step State). and_then y k (λ m'. from r m' (k + 1) (drop (next_at t at) t))) (sym (capped_same r m z (form_at rows t at)))
      ∙ ap (λ (h : Found). from_form r m h.form k (drop h.next t)) (sym x)

  found_within : g.next ≤ length t
  found_within = rw x (next_within t at)

  pub found_from : at ≤ length t → at ≤ g.next
  found_from h = rw x (next_from t at h)

  -- a line that is not unfinished ends before the next begins
  pub found_moves : (g.form.kind ≡ unfinished → ⊥) → at < g.next
  found_moves h = let e : g.form.kind ≡ (form_at rows t at).kind = rw x in rw x (next_onward t at (whole_kind rows t at (λ w. h (e ∙ w))))

  module _ {k : ℕ} (s : ReadingAt t at k) where
    pub next_line : ReadingAt t g.next k
    next_line = record { fits = s.fits; within = found_within; lined = omega (arith, s.lined, found_from s.within) }

    pub past_line : (g.form.kind ≡ unfinished → ⊥) → k ≤ g.next
    past_line h = omega (arith, s.lined, found_moves h)

-- what reading comes to at a line of a known kind
pub at_kind : (r : Room) (m : State) (k : ℕ) (s : List ℕ) (f : Form) {j : ℕ} → f.kind ≡ j → from_form r m f k s ≡ from_form r m (with_number j f.number) k s
at_kind r m k s f e = ap (λ (y : Step State). and_then y k (λ m'. from r m' (k + 1) s)) (of_kind r m f e)

-- what holds of both kinds of posting
pub posting_kinds : (F : ℕ → Type 0) (k : ℕ) → is_posting k ≡ true → F own_line → F all_line → F k
posting_kinds F k e a b =
    either (eqb k own_line) (λ p. subst F (sym (eqb-true k own_line p)) a)
    (λ p. let q : eqb k all_line ≡ true = rw p at e in subst F (sym (eqb-true k all_line q)) b)

-- where only one kind of line may stand
other_kind : (a b : Bool) (x : ℕ) → b ≡ true → pick a 24 (pick b 21 x) ≡ pick a 24 21
other_kind true b x e = refl
other_kind false b x e = rw e

pub not_standing : (r : Room) (m : State) (f : Form) → is closed m ≡ false → stands m.stage m.opened f.kind ≡ false →
    line_refusal r m f ≡ pick (eqb f.kind unfinished) 24 21
unfolding line_refusal
not_standing r m f o e = rw o (other_kind (eqb f.kind unfinished) (misplaced m f) _ (rw e))

module _ (due kind : ℕ) where
  pub is_due : kind_refusal due kind ≡ 0 → kind ≡ due
  is_due e =
      let a = pick_none (eqb kind unfinished) 23 _ e in
      let b = pick_none (not (eqb kind due)) 20 _ a.1 in
      eqb-true kind due ((not_no (eqb kind due)).0 b.0)

  another : (due ≡ unfinished → ⊥) → (kind_refusal due kind ≡ 0 → ⊥) → eqb kind due ≡ false
  another n h = refuted (eqb kind due) (λ t. let z : kind ≡ due = eqb-true kind due t in h (rw (z, ne_eqb due unfinished n, eq-eqb due due refl)))

-- a line that is not of the kind that is due, where no other may stand
pub not_due : (r : Room) (m : State) (f : Form) (due : ℕ) → is closed m ≡ false → (due ≡ unfinished → ⊥) → (kind_refusal due f.kind ≡ 0 → ⊥) →
    (eqb f.kind due ≡ false → stands m.stage m.opened f.kind ≡ false) → line_refusal r m f ≡ kind_refusal due f.kind
not_due r m f due o n h e =
    let c = another due f.kind n h in
    not_standing r m f o (e c) ∙ sym (other_kind (eqb f.kind unfinished) (not (eqb f.kind due)) _ (rw c))

-- and what refuses it says so
pub kind_refused : (r : Room) (m : State) (f : Form) (due : ℕ) → is closed m ≡ false → (due ≡ unfinished → ⊥) → {e : Refused} {k : ℕ} → Tells (kind_refusal due f.kind) k e →
    (eqb f.kind due ≡ false → stands m.stage m.opened f.kind ≡ false) → Tells (line_refusal r m f) k e
kind_refused r m f due o n {e} t h =
    let q = t.number_is in
    record { number_is = q ∙ sym (not_due r m f due o n (λ z. number_not_zero e.refusal (q ∙ z)) h); line_is = t.line_is }
