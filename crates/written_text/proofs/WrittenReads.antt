-- Round trip one: the text of an accepted plant and index reads as exactly these.
use Prim.Native.Nat.{ℕ, ◌≤◌}
use mathlib.Core.Path.{◌≡◌, refl}
use mathlib.Core.Bool.{false}
use mathlib.Core.List.{[]}
use native.Mathlib.Omega.{arith}
use lib.ListN.{length, get_or}
use Rattle.laws.proofs.Tests.{tests}
use Rattle.laws.proofs.Rows.{otherwise_none, pick_none}
use Rattle.plant.specs.Plant.{Plant, size}
use Rattle.plant.proofs.Forest as forests
use Rattle.index.specs.Index.{Index, count, tables_refusal}
use Rattle.index.proofs.Accepted.{accepted}
use Rattle.text.specs.Forms.{plain}
use Rattle.text.specs.Reading.{made}
use Rattle.plant_text.specs.Form.{plant_line}
use Rattle.plant_text.specs.PlantText.{State, closed, nothing, line_refusal, next, highest_code, read_plant, room}
use Rattle.plant_text.specs.declared.Room.{Room}
use Rattle.written_text.specs.Forms.{plant_forms}
use Rattle.written_text.specs.Text.{text_of}
use Rattle.written_text.specs.Refusals.{too_many_tiers, too_long, write_refusal}
use Rattle.written_text.specs.RoundTrip.{HasRoom, ReadsBack}
use Rattle.written_text.proofs.Written.{plant}
use Rattle.written_text.proofs.Taking.{Takes, takes_on, takes_append, taken_text}
use Rattle.written_text.proofs.Devices.{opened, devices_taken}
use Rattle.written_text.proofs.Terms.{closed_taken}

-- what is made of a whole text
abbrev pub whole : Plant → Index → State
whole P I = record { stage = closed; opened = []; plant = P; index = I }

-- room for a plant and an index
pub record Holds (r : Room) (P : Plant) (I : Index) : Type 0 where
  pub devices : size P ≤ r.devices
  pub terms : count I ≤ r.terms
  pub postings : length I.postings ≤ r.postings

plant_taken : (r : Room) → (line_refusal r nothing (plain plant_line) ≡ 0) × (next nothing (plain plant_line) ≡ opened [] [] [] [])
unfolding line_refusal next
plant_taken r = (refl, refl)

-- a level code is one byte
module _ (P : Plant) (I : Index) (coded : (i : ℕ) → get_or P.level i 0 ≤ highest_code) where
  pub forms_taken : (r : Room) → tables_refusal P I ≡ 0 → too_many_tiers P.last ≡ false → Holds r P I → Takes r nothing (plant_forms P I) (whole P I)
  forms_taken r h shallow room =
      let s = forests.accepted P (accepted P I h).tables in
      takes_on plant (plant_taken r).0 (plant_taken r).1
      (takes_append (devices_taken r P s shallow room.devices coded) (closed_taken r P I h room.terms room.postings))

  -- tables that are as long have the room
  holds : (P' : Plant) (I' : Index) → tables_refusal P I ≡ 0 → HasRoom P I P' I' → Holds (room P' I') P I
  holds P' I' h r =
      let a = accepted P I h in
      let s = forests.accepted P a.tables in
      record {
        devices = omega (arith, r.last, r.root, r.level, s.roots, s.levels, s.few);
        terms = omega (arith, r.terms, r.starts, a.even, a.few_terms);
        postings = omega (arith, r.postings, a.few_postings);
      }

  pub reads_back : (n : ℕ) → ReadsBack P I n
  unfolding write_refusal
  reads_back n h P' I' r =
      let a = otherwise_none (tables_refusal P I) _ h in
      let b = pick_none (too_many_tiers P.last) 35 _ a.1 in
      let c = simp tests at (pick_none (too_long n (length (text_of P I))) 39 0 b.1).0 in
      let e : read_plant (room P' I') (text_of P I) ≡ made (whole P I) = taken_text (forms_taken (room P' I') a.0 b.0 (holds P' I' a.0 r)) refl (omega arith) in
      record { counts = rw e; devices = rw e; lists = rw e }
