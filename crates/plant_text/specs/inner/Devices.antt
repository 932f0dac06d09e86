-- What the readers of devices promise: what the rest of a text comes to, for every stack of open devices. The contracts of private functions
-- alone cite this.
use Rattle.std.specs.Prelude.{ℕ, ◌≤◌, ◌≡◌, List, [], length, take, drop, set, Option, unwrap_or, Result, MatchResult}
use Rattle.plant.specs.Plant as plants
use Rattle.index.specs.Index.{index}
use Rattle.text.specs.Forms.{unfinished}
use Rattle.text.specs.Reading.{Read}
use Rattle.text.specs.declared.Form.{Form}
use Rattle.plant_text.specs.Form.{device_line}
use Rattle.plant_text.specs.PlantText.{State, devices, outermost}
use Rattle.plant_text.specs.inner.Rest.{from, from_form, with_number, ReadingAt, Bounded, refused_by}
use Rattle.plant_text.specs.declared.Room.{Room}
use Rattle.plant_text.specs.declared.lines.Place.{Place}
use Rattle.text.specs.declared.Refused.{Refused}

-- the first entries of lent device tables
abbrev pub front : ℕ → plants.Plant → plants.Plant
front n T = plants.plant (take n T.last) (take n T.root) (take n T.level)

-- lent device tables have the room
pub record Fits (r : Room) (T : plants.Plant) : Type 0 where
  pub last : r.devices ≤ length T.last
  pub root : r.devices ≤ length T.root
  pub level : r.devices ≤ length T.level

-- what is made among the devices, with a stack of open ones
abbrev pub devices_made : plants.Plant → ℕ → List ℕ → State
devices_made T count stack = record { stage = devices; opened = stack; plant = front count T; index = index [] [] [] }

-- the number of open devices, and the outermost of them, if any is open
pub record Stack (stack : List ℕ) (depth : ℕ) (top : Option ℕ) : Type 0 where
  pub size : length stack ≡ depth
  pub outer : (d : ℕ) → outermost stack d ≡ unwrap_or top d

-- the tables where device count + 1 of level n opens below the outermost device out, and where it closes at device c
abbrev pub opened_at : plants.Plant → ℕ → ℕ → ℕ → plants.Plant
opened_at T count out n = plants.plant (set T.last count 0) (set T.root count out) (set T.level count n)

abbrev pub closed_at : plants.Plant → ℕ → ℕ → plants.Plant
closed_at T count c = plants.plant (set T.last count c) T.root T.level

-- what reading comes to from a place on, and where its line is of a form, after which the text goes on there
abbrev pub from_device : Room → List ℕ → plants.Plant → Place → List ℕ → Read State
from_device r t T p stack = from r (devices_made T p.count stack) p.line (drop p.at t)

abbrev pub at_form : Room → List ℕ → plants.Plant → Form → Place → List ℕ → Read State
at_form r t T f p stack = from_form r (devices_made T p.count stack) f p.line (drop p.at t)

-- two readings are the same with any stack of open devices that has this depth and this outermost device
pub record Same (depth : ℕ) (top : Option ℕ) (a b : List ℕ → Read State) : Type 0 where
  pub same : (stack : List ℕ) → Stack stack depth top → a stack ≡ b stack

-- where a list of devices may be read from
pub record ListStart (r : Room) (t : List ℕ) (T : plants.Plant) (p : Place) : Type 0 where
  pub at_line : ReadingAt t p.at p.line
  pub bounded : Bounded r
  pub fits : Fits r T
  pub holds : p.count ≤ r.devices

-- and a device, whose line ends before the place
pub record DeviceStart (r : Room) (t : List ℕ) (T : plants.Plant) (p : Place) : Type 0 where
  pub start : ListStart r t T p
  pub past : p.line ≤ p.at

-- the reading A of what begins at one place goes on at another
pub record DevicesAt (r : Room) (t : List ℕ) (depth : ℕ) (top : Option ℕ) (A : List ℕ → Read State) (since : Place) (T : plants.Plant) (p : Place) : Type 0 where
  pub reads : Same depth top A (from_device r t T p)
  pub start : ListStart r t T p
  pub onward : since.at ≤ p.at
  pub more : since.count ≤ p.count

-- it goes on up to a line that is not a device's
pub record Stops (r : Room) (t : List ℕ) (depth : ℕ) (top : Option ℕ) (A : List ℕ → Read State) (since : Place) (T : plants.Plant) (f : Form) (p : Place) : Type 0 where
  pub reads : Same depth top A (at_form r t T f p)
  pub no_device : f.kind ≡ device_line → ⊥
  pub start : ListStart r t T p
  pub past : (f.kind ≡ unfinished → ⊥) → p.line ≤ p.at
  pub onward : since.at ≤ p.at
  pub more : since.count ≤ p.count

-- the device of level n that opens at the line of a place is read
abbrev pub DeviceRead : Room → List ℕ → plants.Plant → ℕ → Place → ℕ → Option ℕ → plants.Plant → Result Place Refused → Type 0
DeviceRead r t T n p depth top T' e =
    let A = at_form r t T (with_number device_line n) p in
    MatchResult e (DevicesAt r t depth top A p T') (λ x. Same depth top A (λ stack. refused_by x))

-- a list of devices is read from a place on
abbrev pub ListRead : Room → List ℕ → plants.Plant → Place → ℕ → Option ℕ → plants.Plant → Result (Form × Place) Refused → Type 0
ListRead r t T p depth top T' e =
    let A = from_device r t T p in
    MatchResult e (λ q. Stops r t depth top A p T' q.0 q.1) (λ x. Same depth top A (λ stack. refused_by x))
