-- What the readers of terms and postings promise. The contracts of private functions alone cite this.
use Rattle.std.specs.Prelude.{ℕ, ◌+◌, ◌≤◌, ◌≡◌, List, [], length, take, drop, Result, MatchResult}
use Rattle.std.proofs.Math.Seq.{slice}
use Rattle.laws.specs.Tables.{entry}
use Rattle.plant.specs.Plant as plants
use Rattle.index.specs.Index as indexes
use Rattle.index.specs.Index.{index}
use Rattle.index.specs.inner.Lists.{SoundList}
use Rattle.text.specs.Forms.{unfinished}
use Rattle.text.specs.Reading.{Read}
use Rattle.text.specs.declared.Form.{Form}
use Rattle.plant_text.specs.Form.{term_line}
use Rattle.plant_text.specs.PlantText.{Stage, State, terms, postings, closed, line_refusal, next}
use Rattle.plant_text.specs.inner.Rest.{from, from_form, with_number, ReadingAt, Bounded, Tells, refused_by}
use Rattle.plant_text.specs.declared.Room.{Room}
use Rattle.plant_text.specs.declared.lines.Place.{Place}
use Rattle.text.specs.declared.Refused.{Refused}

-- the newest entry of a list, or 0 where it is empty
abbrev pub newest : List ℕ → ℕ
newest l = entry l (length l)

-- what is made in a term, after what m has, with n postings in their table
abbrev pub posts_made : State → List ℕ → ℕ → Stage → State
posts_made m posts n s = record { stage = s; opened = []; plant = m.plant; index = index m.index.terms m.index.starts (take n posts) }

-- what m has before a term's postings: the devices' last numbers, and the start of the newest term
pub record Before (last : List ℕ) (count begin : ℕ) (m : State) : Type 0 where
  pub lasts : m.plant.last ≡ take count last
  pub even : length m.index.starts ≡ length m.index.terms
  pub begun : entry m.index.starts (length m.index.terms) ≡ begin

-- a posting of a kind for device d is added
pub record Adds (r : Room) (last posts : List ℕ) (count begin n kind d : ℕ) (posts' : List ℕ) : Type 0 where
  pub taken : (m : State) → Before last count begin m → line_refusal r (posts_made m posts n postings) (with_number kind d) ≡ 0
  pub adds : (m : State) → next (posts_made m posts n postings) (with_number kind d) ≡ posts_made m posts' (n + 1) postings
  pub fits : r.postings ≤ length posts'
  pub holds : n + 1 ≤ r.postings
  pub sound : SoundList (take count last) (slice begin (n + 1) posts')

-- or refused at its line
pub record Bars (r : Room) (last posts : List ℕ) (count begin n kind d line : ℕ) (e : Refused) : Type 0 where
  pub tells : (m : State) → Before last count begin m → Tells (line_refusal r (posts_made m posts n postings) (with_number kind d)) line e

-- what reading comes to from a place on
abbrev pub from_posting : Room → List ℕ → Stage → List ℕ → Place → State → Read State
from_posting r t s posts p m = from r (posts_made m posts p.count s) p.line (drop p.at t)

-- two readings are the same, whatever was made before the term's postings
pub record SamePosts (last : List ℕ) (count begin : ℕ) (a b : State → Read State) : Type 0 where
  pub same : (m : State) → Before last count begin m → a m ≡ b m

-- where a term's postings may be read from, in a plant of count devices
pub record PostsStart (r : Room) (t last posts : List ℕ) (count : ℕ) (p : Place) : Type 0 where
  pub at_line : ReadingAt t p.at p.line
  pub bounded : Bounded r
  pub devices : count ≤ r.devices
  pub lasts : count ≤ length last
  pub fits : r.postings ≤ length posts
  pub holds : p.count ≤ r.postings

-- the reading A of what begins at an index goes on at a place, at a stage
pub record PostsAt (r : Room) (t last : List ℕ) (count begin : ℕ) (A : State → Read State) (since : ℕ) (s : Stage) (posts : List ℕ) (p : Place) : Type 0 where
  pub reads : SamePosts last count begin A (from_posting r t s posts p)
  pub start : PostsStart r t last posts count p
  pub more : begin ≤ p.count
  pub onward : since ≤ p.at
  pub sound : SoundList (take count last) (slice begin p.count posts)

-- a term's postings are read from a place on
abbrev pub PostsRead : Room → List ℕ → List ℕ → List ℕ → Place → ℕ → List ℕ → Result Place Refused → Type 0
PostsRead r t last posts p count posts' e =
    let A = from_posting r t postings posts p in
    MatchResult e (PostsAt r t last count p.count A (p.at + 1) terms posts') (λ x. SamePosts last count p.count A (λ m. refused_by x))

-- the first entries of lent index tables: n terms, p postings
abbrev pub part : ℕ → ℕ → indexes.Index → indexes.Index
part n p X = index (take n X.terms) (take n X.starts) (take p X.postings)

-- lent index tables have the room
pub record FitsIndex (r : Room) (X : indexes.Index) : Type 0 where
  pub terms : r.terms ≤ length X.terms
  pub starts : r.terms ≤ length X.starts
  pub postings : r.postings ≤ length X.postings

-- what is made, of a plant, with n terms and p postings
abbrev pub terms_made : plants.Plant → indexes.Index → ℕ → ℕ → Stage → State
terms_made P X n p s = record { stage = s; opened = []; plant = P; index = part n p X }

-- term n + 1 of number v opens, with p postings before it
pub record OpensTerm (r : Room) (T S : List ℕ) (n p v : ℕ) (T' S' : List ℕ) : Type 0 where
  pub taken : (P : plants.Plant) (L : List ℕ) → line_refusal r (terms_made P (index T S L) n p terms) (with_number term_line v) ≡ 0
  pub opens : (P : plants.Plant) (L : List ℕ) → p ≤ length L →
      next (terms_made P (index T S L) n p terms) (with_number term_line v) ≡ terms_made P (index T' S' L) (n + 1) p postings
  pub terms : r.terms ≤ length T'
  pub starts : r.terms ≤ length S'
  pub holds : n + 1 ≤ r.terms
  pub begun : entry (take (n + 1) S') (n + 1) ≡ p

-- or is refused at its line
pub record BarsTerm (r : Room) (T S : List ℕ) (n p v line : ℕ) (e : Refused) : Type 0 where
  pub tells : (P : plants.Plant) (L : List ℕ) → Tells (line_refusal r (terms_made P (index T S L) n p terms) (with_number term_line v)) line e

-- two readings are the same for every plant with these last numbers
pub record SameTerms (last : List ℕ) (count : ℕ) (a b : plants.Plant → Read State) : Type 0 where
  pub same : (P : plants.Plant) → P.last ≡ take count last → a P ≡ b P

-- what reading comes to where a place's line is of a form, with n terms
abbrev pub at_term : Room → List ℕ → indexes.Index → Form → ℕ → Place → plants.Plant → Read State
at_term r t X f n p P = from_form r (terms_made P X n p.count terms) f p.line (drop p.at t)

-- the reading A goes on up to a line of a form, with n terms, after which it goes on at a place
pub record TermsAt (r : Room) (t last : List ℕ) (count : ℕ) (A : plants.Plant → Read State) (X : indexes.Index) (f : Form) (n : ℕ) (p : Place) : Type 0 where
  pub reads : SameTerms last count A (at_term r t X f n p)
  pub start : PostsStart r t last X.postings count p
  pub past : (f.kind ≡ unfinished → ⊥) → p.line ≤ p.at
  pub fits : FitsIndex r X
  pub terms : n ≤ r.terms

-- the plant is closed
pub record ClosedAt (r : Room) (t last : List ℕ) (count : ℕ) (A : plants.Plant → Read State) (X : indexes.Index) (n : ℕ) (p : Place) : Type 0 where
  pub reads : SameTerms last count A (λ P. from r (terms_made P X n p.count closed) p.line (drop p.at t))
  pub fits : FitsIndex r X
  pub terms : n ≤ r.terms
  pub postings : p.count ≤ r.postings

-- reading begins with no term and no posting at the index and the line of a place
abbrev pub none_at : Place → Place
none_at p = record { at = p.at; line = p.line; count = 0 }

-- terms are read from a line of a form on, in a plant of as many devices as a place counts
abbrev pub TermsRead : Room → List ℕ → List ℕ → indexes.Index → Form → Place → indexes.Index → Result (ℕ × Place) Refused → Type 0
TermsRead r t last X f p X' e =
    let A = at_term r t X f 0 (none_at p) in
    MatchResult e (λ q. ClosedAt r t last p.count A X' q.0 q.1) (λ x. SameTerms last p.count A (λ P. refused_by x))

-- where terms may be read from
pub record TermsStart (r : Room) (t last : List ℕ) (X : indexes.Index) (f : Form) (p : Place) : Type 0 where
  pub at_line : ReadingAt t p.at p.line
  pub bounded : Bounded r
  pub devices : p.count ≤ r.devices
  pub lasts : p.count ≤ length last
  pub past : (f.kind ≡ unfinished → ⊥) → p.line ≤ p.at
  pub fits : FitsIndex r X
