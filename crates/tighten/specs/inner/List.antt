-- The tightening of one list, in one pass. The contracts of private functions alone cite this.
use Rattle.std.specs.Prelude.{ℕ, ◌+◌, ◌-◌, ◌*◌, ◌≤◌, ◌<◌, ◌≡◌, true, false, List, ◌∷◌, length, get_or, drop}
use Rattle.laws.specs.Tables.{entry}
use Rattle.laws.specs.inner.Entries.{IsEntry}
use Rattle.index.specs.Postings.{device, reach}
use Rattle.tighten.specs.Tight.{tight}
use Rattle.tighten.specs.inner.Branches.{carried}
use Rattle.tighten.specs.declared.list.Lead.{Lead}
use Rattle.tighten.specs.declared.list.Run.{Run}

-- each posting is of a device of the plant, and lies beyond what those before it carry to
pub record Apart (last l : List ℕ) : Type 0 where
  pub of_plant : (k : ℕ) → k < length l → IsEntry last (device (get_or l k 0))
  pub beyond : (i k : ℕ) → i < k → k < length l → reach last (get_or l i 0) < device (get_or l k 0)

-- every device from that of the first posting up to `until` carries the term, and the next does not
pub record RunsTo (last l : List ℕ) (until : ℕ) : Type 0 where
  pub first : device (get_or l 0 0) ≤ until
  pub all : (d : ℕ) → device (get_or l 0 0) ≤ d → d ≤ until → carried last l d ≡ true
  pub stop : carried last l (until + 1) ≡ false

-- the same, unless `until` is below the device of the first posting
pub record Known (last l : List ℕ) (until : ℕ) : Type 0 where
  pub runs : 0 < length l → device (get_or l 0 0) ≤ until → RunsTo last l until

-- the first posting is for device d alone, which feeds others, up to `end`
pub record Opens (last l : List ℕ) (d end : ℕ) : Type 0 where
  pub some : 0 < length l
  pub own : get_or l 0 0 ≡ 2 * d
  pub branch : end ≡ entry last d
  pub feeds : d < end

-- the first `count` postings follow one another: every device up to `until`, which is no further than `end`, carries the term
pub record Running (last l : List ℕ) (end until count : ℕ) : Type 0 where
  pub some : 1 ≤ count
  pub within : count ≤ length l
  pub is : until ≡ reach last (get_or l (count - 1) 0)
  pub most : until ≤ end
  pub first : device (get_or l 0 0) ≤ until
  pub all : (d : ℕ) → device (get_or l 0 0) ≤ d → d ≤ until → carried last l d ≡ true

-- and there is no further one: it reaches the end, or the next device does not carry the term
pub record Runs (last l : List ℕ) (end : ℕ) (r : Run) : Type 0 where
  pub running : Running last l end r.until r.count
  pub stop : r.until < end → carried last l (r.until + 1) ≡ false

-- a posting takes the place of the first postings of a list: the tight list is that posting, and then the tight list of what is left
pub record Leads (last l : List ℕ) (r : Lead) : Type 0 where
  pub some : 1 ≤ r.taken
  pub within : r.taken ≤ length l
  pub is : tight last (carried last l) ≡ r.posting ∷ tight last (carried last (drop r.taken l))
  pub known : Known last (drop r.taken l) r.until

-- where a list stands, and where it goes
pub record Bounds (l : List ℕ) (start end to : ℕ) : Type 0 where
  pub lower : to ≤ start
  pub order : start ≤ end
  pub within : end ≤ length l
