-- Round trip two: the text of what a text makes is that text. Both together.
use Prim.Native.Nat.{ℕ, ◌≤◌}
use mathlib.Core.Path.{◌≡◌, refl, sym, ap, ◌∙◌}
use mathlib.Core.Bool.{false}
use mathlib.Core.List.{List}
use native.Mathlib.Omega.{arith}
use lib.ListN.{length, get_or}
use Rattle.laws.proofs.Tests.{tests, flags}
use Rattle.laws.proofs.Search.{any_none}
use Rattle.plant.specs.Plant.{Plant, size}
use Rattle.plant.proofs.Forest as forests
use Rattle.index.proofs.Accepted.{accepted}
use Rattle.index.specs.Index.{Index, count}
use Rattle.text.specs.Reading.{made}
use Rattle.plant_text.specs.PlantText.{State, highest_code, read_plant, read_into, plant_after, index_after, room, places}
use Rattle.plant_text.specs.declared.Room.{Room}
use Rattle.plant_text.proofs.Example.{text_P, made_P, plant_P}
use Rattle.accepted_text.proofs.Accepted.{Within, passes, room_within}
use Rattle.accepted_text.proofs.Made.{is_made, cut}
use Rattle.written_text.specs.Text.{bytes_of, text_of}
use Rattle.written_text.specs.Refusals.{too_many_tiers, too_long, write_refusal}
use Rattle.written_text.specs.RoundTrip.{first_devices, first_lists, Rewritten, WritesBack, RoundTrips}
use Rattle.written_text.specs.inner.Nested.{deep}
use Rattle.written_text.proofs.Taking.{text_taken}
use Rattle.written_text.proofs.Due.{same_forms, made_coded, made_shallow}
use Rattle.written_text.proofs.WrittenReads.{Holds, forms_taken, reads_back}

module _ (r : Room) (w : Within r) (t : List ℕ) (m : State) (h : read_plant r t ≡ made m) where
  read_shallow : too_many_tiers m.plant.last ≡ false
  read_shallow =
      let T = text_taken r t m h in
      sym (any_none (deep m.plant.last) (λ d l u. let x = made_shallow T.takes T.closes d l u in omega flags))

  -- room for just what was read
  exactly : Room
  exactly = record { devices = size m.plant; terms = count m.index; postings = length m.index.postings }

  exact : Holds exactly m.plant m.index
  unfolding exactly
  exact = record { devices = omega arith; terms = omega arith; postings = omega arith }

  -- the text of what a text makes is that text
  pub text_is : text_of m.plant m.index ≡ t
  text_is =
      let T = text_taken r t m h in
      let u = forms_taken m.plant m.index (made_coded T.takes) exactly (passes r w t m h) read_shallow exact in
      ap bytes_of (same_forms u T.takes refl T.closes refl refl) ∙ sym T.is

  -- and it is not refused, for a buffer that the text fits
  pub rewritten : (n : ℕ) → Rewritten t m.plant m.index n
  unfolding write_refusal
  rewritten n = record {
    same = text_is;
    taken = λ u.
        let v = (text_taken r t m h).short in
        let l : too_long n (length (text_of m.plant m.index)) ≡ false = rw text_is (simp tests (omega arith)) in
        rw (passes r w t m h, read_shallow, l);
  }

-- what a text made, as the first entries of the tables that it was read into
module _ (t : List ℕ) (P' : Plant) (I' : Index) (m : State) (h : read_into t P' I' ≡ made m) where
  first_plant : (d : ℕ) → d ≡ size m.plant → first_devices d (plant_after t P' I') ≡ m.plant
  first_plant d e =
      let a = accepted m.plant m.index (passes (room P' I') (room_within P' I') t m h) in
      let s = forests.accepted m.plant a.tables in
      rw (
        h,
        cut m.plant.last _ (length P'.last) d refl e,
        cut m.plant.root _ (length P'.root) d refl (omega (arith, s.roots)),
        cut m.plant.level _ (length P'.level) d refl (omega (arith, s.levels)),
      )

  first_index : (n p : ℕ) → n ≡ count m.index → p ≡ length m.index.postings → first_lists n p (index_after t P' I') ≡ m.index
  first_index n p e q =
      let a = accepted m.plant m.index (passes (room P' I') (room_within P' I') t m h) in
      rw (
        h,
        cut m.index.terms _ (length I'.terms) n refl e,
        cut m.index.starts _ (length I'.starts) n refl (omega (arith, a.even)),
        cut m.index.postings _ (length I'.postings) p refl q,
      )

pub writes_back : (P : Plant) (I : Index) (room : ℕ) → WritesBack P I room
writes_back P I size t P' I' d n p o f g =
    let r = is_made (read_into t P' I') d n p (sym o) in
    let m = r.state in
    let a : m.plant ≡ P = sym (first_plant t P' I' m r.is d r.devices) ∙ f in
    let b : m.index ≡ I = sym (first_index t P' I' m r.is n p r.terms r.postings) ∙ g in
    rw (a, b) at (rewritten (room P' I') (room_within P' I') t m r.is size)

-- level codes are bytes, as in a lent table
pub round_trips : (P : Plant) (I : Index) (n : ℕ) → ((i : ℕ) → get_or P.level i 0 ≤ highest_code) → RoundTrips P I n
round_trips P I n coded = record { reads_back = reads_back P I coded n; writes_back = writes_back P I n }

-- document 01's plant P is written as it stands there
pub written_P : text_of made_P.plant made_P.index ≡ text_P
written_P = text_is (places 6 6 6 2 2 3) (record { devices = omega arith; terms = omega arith; postings = omega arith }) text_P made_P plant_P
