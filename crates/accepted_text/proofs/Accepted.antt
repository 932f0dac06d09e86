-- What is read passes the check of tables: a text that is accepted makes tables that are refused by none of 1 to 9.
use Prim.Native.Nat.{ℕ, ◌+◌, ◌≤◌}
use mathlib.Core.Path.{◌≡◌, refl, sym, ◌∙◌, ap, subst}
use mathlib.Core.Bool.{Bool, true, false, ◌&&◌, ◌||◌, and-false, true≢false}
use mathlib.Core.List.{List, [], ◌∷◌}
use native.Mathlib.Omega.{arith}
use lib.Dec.{eqb, leb, ltb}
use lib.ListN.{length, length-append}
use Rattle.laws.specs.Limits.{most_devices}
use Rattle.laws.specs.Tables.{entry}
use Rattle.laws.proofs.Tests.{tests, and_yes, not_no, eqb_yes}
use Rattle.laws.proofs.Cases.{either, split_cond}
use Rattle.laws.proofs.Rows.{pick_none}
use Rattle.plant.specs.Plant.{Plant, size}
use Rattle.index.specs.Postings.{posting, device, shadowed}
use Rattle.index.specs.Index.{Index, index, count, list, most_terms, most_postings, tables_refusal}
use Rattle.index.proofs.Accepted.{Accepted, accepts}
use Rattle.index.proofs.Lists.{device_of}
use Rattle.index.proofs.Growing.{accepted_none, accepted_open, accepted_add}
use Rattle.text.specs.Lines.{lines}
use Rattle.text.specs.Forms.{form, plain, unfinished}
use Rattle.text.specs.Reading.{made, and_then, read_lines, line_of, end_of}
use Rattle.text.specs.declared.Form.{Form}
use Rattle.text.proofs.Reading.{not_made, unless_made}
use Rattle.plant_text.specs.Form.{plant_line, device_line, term_line, own_line, all_line, close_line, rows}
use Rattle.plant_text.specs.PlantText.{Stage, start, devices, terms, postings, closed, State, nothing, rank, is, stands, misplaced, out_of_range, too_deep, no_place, not_rising, is_redundant, line_refusal, add_posting, next, step, longest_text, read_plant, room, kept}
use Rattle.plant_text.specs.declared.Room.{Room}
use Rattle.accepted_text.proofs.Devices.{Growing, growing_none, growing_open, growing_close, growing_end}

-- no more room than a plant and an index may have
pub record Within (r : Room) : Type 0 where
  pub devices : r.devices ≤ most_devices
  pub terms : r.terms ≤ most_terms
  pub postings : r.postings ≤ most_postings

-- as the room of lent tables is
pub room_within : (P : Plant) (I : Index) → Within (room P I)
room_within P I = record { devices = omega arith; terms = omega arith; postings = omega arith }

-- ---- what a line that is not refused has passed

pub record Passed (r : Room) (m : State) (f : Form) : Type 0 where
  pub unclosed : is closed m ≡ false
  pub finished : eqb f.kind unfinished ≡ false
  pub here : stands m.stage m.opened f.kind ≡ true
  pub in_range : out_of_range m f ≡ false
  pub shallow : too_deep m f ≡ false
  pub place : no_place r m f ≡ false
  pub rising : not_rising m f ≡ false
  pub single : is_redundant m f ≡ false

pub passed : (r : Room) (m : State) (f : Form) → line_refusal r m f ≡ 0 → Passed r m f
unfolding line_refusal
passed r m f h =
    let r25 = pick_none (is closed m) 24 _ h in
    let r24 = pick_none (eqb f.kind unfinished) 23 _ r25.1 in
    let r21 = pick_none (misplaced m f) 20 _ r24.1 in
    let r22 = pick_none (out_of_range m f) 21 _ r21.1 in
    let r23 = pick_none (too_deep m f) 22 _ r22.1 in
    let r27 = pick_none (no_place r m f) 26 _ r23.1 in
    let r28 = pick_none (not_rising m f) 27 _ r27.1 in
    let r29 = pick_none (is_redundant m f) 28 _ r28.1 in
    record {
      unclosed = r25.0;
      finished = r24.0;
      here = (not_no (stands m.stage m.opened f.kind)).0 r21.0;
      in_range = r22.0;
      shallow = r23.0;
      place = r27.0;
      rising = r28.0;
      single = r29.0;
    }

abbrev of : ℕ → ℕ → ℕ → Form
of kind before number = record { kind = kind; before = before; number = number }

-- ---- what holds of what lines have made

-- among the devices they grow, and no term is there; from the first term on all is accepted
abbrev Holds : Stage → List ℕ → Plant → Index → Type 0
Holds start ds P I = Growing ds P × (I ≡ index [] [] [])
Holds devices ds P I = Growing ds P × (I ≡ index [] [] [])
Holds terms ds P I = Accepted P I
Holds postings ds P I = Accepted P I × (1 ≤ count I)
Holds closed ds P I = Accepted P I

record Invariant (m : State) : Type 0 where
  holds : Holds m.stage m.opened m.plant m.index

-- with no device open and no term
first_term : (P : Plant) (I : Index) → Growing [] P × (I ≡ index [] [] []) → Accepted P I
first_term P I h = rw h.1 (accepted_none P (growing_end P h.0))

-- what is closed
at_end : (s : Stage) (ds : List ℕ) (P : Plant) (I : Index) → eqb (rank s) (rank closed) ≡ true → Holds s ds P I → Accepted P I
at_end start ds P I e h = absurd (true≢false (sym e))
at_end devices ds P I e h = absurd (true≢false (sym e))
at_end terms ds P I e h = absurd (true≢false (sym e))
at_end postings ds P I e h = absurd (true≢false (sym e))
at_end closed ds P I e h = h

abbrev state : Stage → List ℕ → Plant → Index → State
state s ds P I = record { stage = s; opened = ds; plant = P; index = I }

-- ---- what each kind of line makes

module _ (r : Room) (w : Within r) where
  abbrev Taken : State → Form → Type 0
  Taken m f = Passed r m f → Invariant (next m f)

  -- a line is of a kind, or of another
  of_kind : {m : State} {f : Form} (k : ℕ) → ((b n : ℕ) → Taken m (of k b n)) → (eqb f.kind k ≡ false → Taken m f) → Taken m f
  of_kind {m} {f} k h rest =
      either (eqb f.kind k)
      (λ e. subst (Taken m) (ap (λ x. of x f.before f.number) (sym ((eqb_yes f.kind k).0 e))) (h f.before f.number))
      rest

  module _ {ds : List ℕ} {P : Plant} {I : Index} where
    opens_device : Holds devices ds P I → (b n : ℕ) → Taken (state devices ds P I) (of device_line b n)
    unfolding next
    opens_device h b n p = let e = simp tests at p.place in record { holds = (growing_open ds P n h.0 (omega (arith, w.devices)), h.1) }

    opens_term : {s : Stage} → Accepted P I → (b n : ℕ) → Taken (state s ds P I) (of term_line b n)
    unfolding next
    opens_term a b n p =
        let z = length-append I.terms (n ∷ []) in
        let e = simp tests at p.in_range in
        let u = simp tests at p.place in
        let v = simp tests at p.rising in
        record { holds = (accepted_open P I n a (omega arith) (omega arith) (omega arith) (omega (arith, w.terms)), omega arith) }

    -- a posting of either kind
    adds : Holds postings ds P I → (d : ℕ) (shared : Bool) → (eqb d 0 || ltb (size P) d) ≡ false → leb r.postings (length I.postings) ≡ false →
        leb d (device (entry (list I (count I)) (length (list I (count I))))) ≡ false → shadowed P.last (list I (count I)) d ≡ false →
        Invariant (add_posting (state postings ds P I) d shared)
    adds h d shared in_range place rising single =
        let z = device_of d shared in
        let e = simp tests at in_range in
        let u = simp tests at place in
        let v = simp tests at rising in
        record { holds = (accepted_add P I (posting d shared) h.0 h.1 (omega arith) (omega arith) (omega arith) (rw z single) (omega (arith, w.postings)), h.1) }

  taken : (s : Stage) (ds : List ℕ) (P : Plant) (I : Index) → Holds s ds P I → (f : Form) → Taken (state s ds P I) f
  unfolding next
  taken start ds P I h f =
      of_kind plant_line (λ b n p. record { holds = h })
      (λ x p. absurd (true≢false (sym p.here ∙ x)))
  taken devices [] P I h f =
      of_kind device_line (opens_device h)
      (λ x. of_kind term_line (opens_term (first_term P I h))
      (λ y. of_kind close_line (λ b n p. record { holds = first_term P I h })
      (λ z p. absurd (true≢false (sym p.here ∙ rw (x, y, z))))))
  taken devices (d ∷ ds) P I h f =
      of_kind device_line (opens_device h)
      (λ x. of_kind close_line (λ b n p. record { holds = (growing_close ds P d h.0, h.1) })
      (λ y p. absurd (true≢false (sym p.here ∙ rw (x, and-false (eqb f.kind term_line), y)))))
  taken terms ds P I h f =
      of_kind term_line (opens_term h)
      (λ x. of_kind close_line (λ b n p. record { holds = h })
      (λ y p. absurd (true≢false (sym p.here ∙ rw (x, y)))))
  taken postings ds P I h f =
      of_kind own_line (λ b n p. adds h n false p.in_range p.place p.rising p.single)
      (λ x. of_kind all_line (λ b n p. adds h n true p.in_range p.place p.rising p.single)
      (λ y. of_kind close_line (λ b n p. record { holds = h.0 })
      (λ z p. absurd (true≢false (sym p.here ∙ rw (x, y, z))))))
  taken closed ds P I h f = λ p. absurd (true≢false p.unclosed)

-- ---- line by line

module _ (r : Room) (w : Within r) where
  read_accepted : (ls : List (List ℕ)) (tail : List ℕ) (s : State) (k : ℕ) (m : State) → Invariant s →
      read_lines (line_of rows (step r)) (end_of (is closed) (step r)) s k ls tail ≡ made m → Accepted m.plant m.index
  unfolding read_lines
  read_accepted [] tail s k m i =
      split_cond (λ x. and_then x k made ≡ made m → Accepted m.plant m.index) (is closed s && eqb (length tail) 0)
      (λ e h.
      let z : s ≡ m = ap kept h in
      rw z at (at_end s.stage s.opened s.plant s.index ((and_yes (is closed s) (eqb (length tail) 0)).0 e).0 i.holds))
      (λ e h.
      let u = unless_made (line_refusal r s (plain unfinished)) (next s (plain unfinished)) k made m h in
      absurd (true≢false (passed r s (plain unfinished) u.0).finished))
  read_accepted (l ∷ ls) tail s k m i = λ h.
      let f = form rows l in
      let u = unless_made (line_refusal r s f) (next s f) k _ m h in
      read_accepted ls tail (next s f) (k + 1) m (taken r w s.stage s.opened s.plant s.index i.holds f (passed r s f u.0)) u.1

  -- the tables that an accepted text makes are refused by none of 1 to 9
  pub passes : (text : List ℕ) (m : State) → read_plant r text ≡ made m → tables_refusal m.plant m.index ≡ 0
  unfolding read_plant
  passes text m =
      split_cond (λ x. x ≡ made m → tables_refusal m.plant m.index ≡ 0) (ltb longest_text (length text)) (λ e h. not_made 20 0 m h)
      (λ e h. accepts m.plant m.index
      (read_accepted (lines text).whole (lines text).tail nothing 1 m (record { holds = (growing_none, refl) }) h))
