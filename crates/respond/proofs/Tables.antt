-- The tables that a plant text makes, cut to the numbers of devices, terms and postings that the reader answers.
use Prim.Native.Nat.{ℕ, ◌≤◌}
use mathlib.Core.Path.{◌≡◌, ap}
use mathlib.Core.List.{List}
use native.Mathlib.Omega.{arith}
use lib.ListN.{length, take}
use Rattle.laws.specs.Lent.{filled}
use Rattle.plant.specs.Plant.{plant}
use Rattle.plant.proofs.Forest as plants
use Rattle.index.specs.Index.{index}
use Rattle.index.proofs.Accepted as indexes
use Rattle.std.specs.Prelude.{Ok}
use Rattle.text.specs.Reading.{made}
use Rattle.plant_text.specs.declared.Room.{Room}
use Rattle.plant_text.specs.PlantText.{State, read_plant, counts, outcome_of, kept}
use Rattle.accepted_text.proofs.Accepted.{Within, passes}
use Rattle.accepted_text.proofs.Made.{is_made, cut, fits}
use Rattle.respond.specs.Respond.{program_room}

-- the program lends no more than a plant and an index may have
pub program_within : Within program_room
program_within = record { devices = omega arith; terms = omega arith; postings = omega arith }

-- what a read leaves in tables of zeros, and the cut tables
pub record Tables (r : Room) (text : List ℕ) (d t p : ℕ) (last root level terms starts postings : List ℕ) : Type 0 where
  pub state : State
  pub means : read_plant r text ≡ made state
  pub plant_is : plant (take d last) (take d root) (take d level) ≡ state.plant
  pub index_is : index (take t terms) (take t starts) (take p postings) ≡ state.index
  pub in_last : d ≤ length last
  pub in_root : d ≤ length root
  pub in_level : d ≤ length level
  pub in_terms : t ≤ length terms
  pub in_starts : t ≤ length starts
  pub in_postings : p ≤ length postings

pub tables : (r : Room) → Within r → (text : List ℕ) (d t p a b c e f g : ℕ) (last root level terms starts postings : List ℕ) →
    Ok (counts d t p) ≡ outcome_of (read_plant r text) →
    plant last root level ≡ (let m = kept (read_plant r text) in plant (filled a m.plant.last) (filled b m.plant.root) (filled c m.plant.level)) →
    index terms starts postings ≡ (let m = kept (read_plant r text) in index (filled e m.index.terms) (filled f m.index.starts) (filled g m.index.postings)) →
    Tables r text d t p last root level terms starts postings
tables r w text d t p a b c e f g last root level terms starts postings o devices lists =
    let m = is_made (read_plant r text) d t p o in
    let s = m.state in
    let P = s.plant in
    let I = s.index in
    let accepted = indexes.accepted P I (passes r w text s m.is) in
    let sound = plants.accepted P accepted.tables in
    let devices' = rw m.is at devices in
    let lists' = rw m.is at lists in
    let last-is : last ≡ filled a P.last = ap (λ x. x.last) devices' in
    let root_is : root ≡ filled b P.root = ap (λ x. x.root) devices' in
    let level-is : level ≡ filled c P.level = ap (λ x. x.level) devices' in
    let terms-is : terms ≡ filled e I.terms = ap (λ x. x.terms) lists' in
    let starts_is : starts ≡ filled f I.starts = ap (λ x. x.starts) lists' in
    let postings-is : postings ≡ filled g I.postings = ap (λ x. x.postings) lists' in
    let roots : d ≡ length P.root = omega (arith, m.devices, sound.roots) in
    let levels : d ≡ length P.level = omega (arith, m.devices, sound.levels) in
    let begun : t ≡ length I.starts = omega (arith, m.terms, accepted.even) in
    record {
      state = s;
      means = m.is;
      plant_is = rw (cut P.last last a d last-is m.devices, cut P.root root b d root_is roots, cut P.level level c d level-is levels);
      index_is = rw (cut I.terms terms e t terms-is m.terms, cut I.starts starts f t starts_is begun, cut I.postings postings g p postings-is m.postings);
      in_last = fits P.last last a d last-is m.devices;
      in_root = fits P.root root b d root_is roots;
      in_level = fits P.level level c d level-is levels;
      in_terms = fits I.terms terms e t terms-is m.terms;
      in_starts = fits I.starts starts f t starts_is begun;
      in_postings = fits I.postings postings g p postings-is m.postings;
    }
