-- Laws of the readers of devices: what reading comes to before and after each step.
use Prim.Native.Nat.{ℕ, ◌+◌, ◌-◌, ◌<◌, ◌≤◌}
use mathlib.Core.Path.{◌≡◌, refl, sym, ◌∙◌}
use mathlib.Core.Bool.{false}
use mathlib.Core.List.{List, ◌∷◌}
use native.Mathlib.Numerals.{add-one}
use native.Mathlib.Omega.{arith}
use lib.Dec.{leb, ltb, eqb}
use lib.ListN.{length, drop, set, length-set}
use lib.Seq.{length-take-le, take-suc-set, take-set-lt}
use Rattle.std.proofs.Common.{Option, Some}
use Rattle.std.specs.Prelude.{unwrap_or}
use Rattle.laws.specs.Rows.{pick}
use Rattle.laws.proofs.Rows.{pick_none}
use Rattle.laws.proofs.Tests.{tests, flags}
use Rattle.plant.specs.Plant as plants
use Rattle.text.specs.Forms.{plain}
use Rattle.text.specs.inner.Finding.{found_at}
use Rattle.text.specs.Reading.{Read}
use Rattle.text.specs.declared.Form.{Form}
use Rattle.text.specs.declared.Found.{Found}
use Rattle.plant_text.specs.Form.{device_line, close_line, rows}
use Rattle.plant_text.specs.PlantText.{State, devices, stands, outermost, line_refusal, next}
use Rattle.plant_text.specs.inner.Rest.{with_number, highest_known, line_after, kind_refusal, Tells, refused_by}
use Rattle.plant_text.specs.inner.Devices.{devices_made, Stack, opened_at, closed_at, from_device, at_form, Same, ListStart, DeviceStart, DevicesAt, Stops}
use Rattle.plant_text.specs.declared.Room.{Room}
use Rattle.plant_text.specs.declared.lines.Place.{Place}
use Rattle.text.specs.declared.Refused.{Refused}
use Rattle.plant_text.proofs.Reading.{past_at, more_at, line_refused, form_taken, reading_form, found_from, found_moves, next_line, past_line, at_kind, is_due, kind_refused}

module _ {depth : ℕ} {top : Option ℕ} where
  same_trans : {a b c : List ℕ → Read State} → Same depth top a b → Same depth top b c → Same depth top a c
  same_trans p q = record { same = λ stack st. p.same stack st ∙ q.same stack st }

-- a list of devices, where it begins
list_start : {r : Room} {t : List ℕ} {T : plants.Plant} {depth : ℕ} {top : Option ℕ} {p : Place} → ListStart r t T p → DevicesAt r t depth top (from_device r t T p) p T p
list_start s = record { reads = record { same = λ stack st. refl }; start = s; onward = omega arith; more = omega arith }

-- a list of devices that has been read up to a place, and the line there
module _ {r : Room} {t : List ℕ} {T : plants.Plant} {depth : ℕ} {top : Option ℕ} {since p : Place} {A : List ℕ → Read State} {g : Found}
    (e : DevicesAt r t depth top A since T p) (x : g ≡ found_at highest_known rows t p.at) where
  up_to_line : Same depth top A (at_form r t T g.form (past_at p g.next))
  up_to_line = same_trans e.reads (record {
    same = λ stack st. reading_form t p.at x r (devices_made T p.count stack) p.line
        (omega (arith, length-take-le p.count T.last (omega (arith, e.start.holds, e.start.fits.last)), e.start.holds, e.start.bounded.devices)) refl;
  })

  past_start : ListStart r t T (past_at p g.next)
  past_start = let s = e.start in record { at_line = next_line t p.at x s.at_line; bounded = s.bounded; fits = s.fits; holds = s.holds }

  pub list_stop : (g.form.kind ≡ device_line → ⊥) → Stops r t depth top A since T g.form (past_at p g.next)
  list_stop w = record {
    reads = up_to_line;
    no_device = w;
    start = past_start;
    past = past_line t p.at x e.start.at_line;
    onward = omega (arith, e.onward, found_from t p.at x e.start.at_line.within);
    more = e.more;
  }

  module _ (w : g.form.kind ≡ device_line) where
    at_device : Same depth top A (at_form r t T (with_number device_line g.form.number) (past_at p g.next))
    at_device = same_trans up_to_line (record { same = λ stack st. at_kind r (devices_made T p.count stack) p.line (drop g.next t) g.form w })

    pub list_refused : {b : List ℕ → Read State} → Same depth top (at_form r t T (with_number device_line g.form.number) (past_at p g.next)) b → Same depth top A b
    list_refused d = same_trans at_device d

    pub list_more : {T' : plants.Plant} {q : Place} →
        DevicesAt r t depth top (at_form r t T (with_number device_line g.form.number) (past_at p g.next)) (past_at p g.next) T' q → DevicesAt r t depth top A since T' q
    list_more d =
        let m : p.at < g.next = found_moves t p.at x (λ z. omega arith) in
        record {
          reads = same_trans at_device d.reads;
          start = d.start;
          onward = omega (arith, e.onward, d.onward);
          more = omega (arith, e.more, d.more);
        }

-- the closing bracket of the innermost device
module _ (r : Room) (T : plants.Plant) (c d n : ℕ) (h : d < c) (l : c ≤ length T.last) (stack : List ℕ) where
  close_refusal : line_refusal r (devices_made T c ((d + 1) ∷ stack)) (with_number close_line n) ≡ 0
  unfolding line_refusal
  close_refusal = refl

  close_next : next (devices_made T c ((d + 1) ∷ stack)) (with_number close_line n) ≡ devices_made (closed_at T d c) c stack
  unfolding next
  close_next =
      let m : d + 1 - 1 ≡ d = omega arith in
      rw (length-take-le c T.last l, m, take-set-lt c T.last d c h)

-- with a device open, only a device's line and a closing bracket can stand
stands_open : (d : ℕ) (stack : List ℕ) (kind : ℕ) → (kind ≡ device_line → ⊥) → eqb kind close_line ≡ false → stands devices (d ∷ stack) kind ≡ false
stands_open d stack kind n c = simp tests ((n, λ z. refl), omega flags)

-- a device's line, by the rows with the code's counts in their places
module _ {r : Room} {T : plants.Plant} (t : List ℕ) (p : Place) (depth : ℕ) (top : Option ℕ) (n : ℕ) (s : DeviceStart r t T p) where
  abbrev row : ℕ
  row = pick (ltb 255 n) 22 (pick (leb 32 depth) 23 (pick (leb r.devices p.count) 27 0))

  open_fits : row ≡ 0 → (n ≤ 255) × (depth < 32) × (p.count < r.devices)
  open_fits z =
      let a = pick_none (ltb 255 n) 21 _ z in
      let b = pick_none (leb 32 depth) 22 _ a.1 in
      let c = pick_none (leb r.devices p.count) 26 _ b.1 in
      (omega (flags, a.0), omega (flags, b.0), omega (flags, c.0))

  refusal_is : (stack : List ℕ) → length stack ≡ depth → line_refusal r (devices_made T p.count stack) (with_number device_line n) ≡ row
  unfolding line_refusal
  refusal_is stack q = rw (length-take-le p.count T.last (omega (arith, s.start.holds, s.start.fits.last)), q)

  pub device_barred : {e : Refused} → Tells row p.line e → Same depth top (at_form r t T (with_number device_line n) p) (λ stack. refused_by e)
  device_barred b =
      record { same = λ stack st. line_refused r (devices_made T p.count stack) p.line (drop p.at t) (with_number device_line n) (rw (refusal_is stack st.size) b) }

  module _ (z : row ≡ 0) {out : ℕ} (o : out ≡ unwrap_or top (p.count + 1)) {T₁ : plants.Plant} (q : T₁ ≡ opened_at T p.count out n) where
    opens : (stack : List ℕ) → outermost stack (p.count + 1) ≡ out →
        next (devices_made T p.count stack) (with_number device_line n) ≡ devices_made T₁ (p.count + 1) ((p.count + 1) ∷ stack)
    unfolding next
    opens stack u =
        let g = open_fits z in
        let c = p.count in
        let a : c < length T.last = omega (arith, s.start.fits.last) in
        let b : c < length T.root = omega (arith, s.start.fits.root) in
        let d : c < length T.level = omega (arith, s.start.fits.level) in
        rw (q, length-take-le c T.last (omega arith), u, add-one c, take-suc-set T.last c 0 a, take-suc-set T.root c out b, take-suc-set T.level c n d)

    inside_start : ListStart r t T₁ (more_at p p.at)
    inside_start =
        let g = open_fits z in
        let a = s.start in
        record {
          at_line = record { fits = a.at_line.fits; within = a.at_line.within; lined = omega (arith, s.past) };
          bounded = a.bounded;
          fits = rw q (record { last = simp length-set a.fits.last; root = simp length-set a.fits.root; level = simp length-set a.fits.level });
          holds = omega arith;
        }

    deeper : {stack : List ℕ} → Stack stack depth top → Stack ((p.count + 1) ∷ stack) (depth + 1) (Some out)
    deeper st = record { size = omega (arith, st.size); outer = λ d. st.outer (p.count + 1) ∙ sym o }

    pub enter : {b : List ℕ → Read State} → Same (depth + 1) (Some out) (from_device r t T₁ (more_at p p.at)) b →
        Same depth top (at_form r t T (with_number device_line n) p) (λ stack. b ((p.count + 1) ∷ stack))
    enter h = record {
      same = λ stack st.
          form_taken r (devices_made T p.count stack) p.line (drop p.at t) (with_number device_line n) (refusal_is stack st.size ∙ z) (opens stack (st.outer (p.count + 1) ∙ sym o))
          ∙ h.same ((p.count + 1) ∷ stack) (deeper st);
    }

    module _ {T₂ : plants.Plant} {f : Form} {stop : Place} (d : Stops r t (depth + 1) (Some out) (from_device r t T₁ (more_at p p.at)) (more_at p p.at) T₂ f stop) where
      pub device_open : {e : Refused} → Tells (kind_refusal close_line f.kind) stop.line e →
          Same depth top (at_form r t T (with_number device_line n) p) (λ stack. refused_by e)
      device_open b =
          same_trans (enter d.reads) (record {
            same = λ stack st.
                line_refused r (devices_made T₂ stop.count ((p.count + 1) ∷ stack)) stop.line (drop stop.at t) f
                (kind_refused r (devices_made T₂ stop.count ((p.count + 1) ∷ stack)) f close_line refl (λ i. omega arith) b (stands_open (p.count + 1) stack f.kind d.no_device));
          })

      module _ (u : kind_refusal close_line f.kind ≡ 0) {L : List ℕ} (k : L ≡ set T₂.last p.count stop.count) {after : Place} (j : after ≡ line_after stop stop.at) where
        pub device_ended : DevicesAt r t depth top (at_form r t T (with_number device_line n) p) p (plants.plant L T₂.root T₂.level) after
        device_ended =
            let c = is_due close_line f.kind u in
            let a = d.start in
            let i : p.count < stop.count = omega (arith, d.more) in
            let m : stop.count ≤ length T₂.last = omega (arith, a.holds, a.fits.last) in
            rw (k, j) (record {
              reads = same_trans (enter d.reads) (record {
                same = λ stack st.
                    at_kind r (devices_made T₂ stop.count ((p.count + 1) ∷ stack)) stop.line (drop stop.at t) f c
                    ∙ form_taken r (devices_made T₂ stop.count ((p.count + 1) ∷ stack)) stop.line (drop stop.at t) (with_number close_line f.number)
                    (close_refusal r T₂ stop.count p.count f.number i m stack) (close_next r T₂ stop.count p.count f.number i m stack);
              });
              start = record {
                at_line = record { fits = a.at_line.fits; within = a.at_line.within; lined = omega (arith, d.past (λ z. omega arith)) };
                bounded = a.bounded;
                fits = record { last = simp length-set a.fits.last; root = a.fits.root; level = a.fits.level };
                holds = a.holds;
              };
              onward = d.onward;
              more = omega (arith, d.more);
            })

    -- a device that feeds none: the closing bracket comes next
    module _ {next : ℕ} (c : record { form = plain close_line; next = next } ≡ found_at highest_known rows t p.at) where
      abbrev leaf_stop : Place
      leaf_stop = record { at = next; line = p.line + 1; count = p.count + 1 }

      leaf_list : Stops r t (depth + 1) (Some out) (from_device r t T₁ (more_at p p.at)) (more_at p p.at) T₁ (plain close_line) leaf_stop
      leaf_list = list_stop (list_start inside_start) c (λ e. omega arith)

      pub leaf_ended : DevicesAt r t depth top (at_form r t T (with_number device_line n) p) p (closed_at T₁ p.count (p.count + 1)) (record { at = next; line = p.line + 2; count = p.count + 1 })
      leaf_ended =
          let l : p.line + 1 + 1 ≡ p.line + 2 = omega arith in
          rw (← l) (device_ended leaf_list refl refl refl)

-- each table is as long as it was
pub record PlantSizes (T₀ T : plants.Plant) : Type 0 where
  pub last : length T.last ≡ length T₀.last
  pub root : length T.root ≡ length T₀.root
  pub level : length T.level ≡ length T₀.level
