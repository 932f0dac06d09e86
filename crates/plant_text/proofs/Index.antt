-- Laws of the reader of terms.
use Prim.Native.Nat.{ℕ, ◌+◌, ◌-◌, ◌<◌, ◌≤◌}
use mathlib.Core.Path.{◌≡◌, refl, sym, ap, ◌∙◌}
use mathlib.Core.Bool.{false, ◌||◌}
use mathlib.Core.List.{List}
use native.Mathlib.Numerals.{add-one}
use native.Mathlib.Omega.{arith}
use borrow.Author.Tests.{ne_eqb}
use lib.Dec.{leb, ltb, eqb}
use lib.ListN.{length, take, drop, set, length-set}
use lib.Seq.{length-take-le, take-suc-set, get_or-take, get_or-set_same}
use Rattle.laws.specs.Rows.{pick}
use Rattle.laws.proofs.Rows.{pick_none}
use Rattle.laws.proofs.Tests.{flags}
use Rattle.laws.proofs.Cases.{either}
use Rattle.plant.specs.Plant as plants
use Rattle.index.specs.Index as indexes
use Rattle.index.specs.Index.{index}
use Rattle.text.specs.inner.Finding.{found_at}
use Rattle.text.specs.Reading.{Read}
use Rattle.text.specs.declared.Form.{Form}
use Rattle.text.specs.declared.Found.{Found}
use Rattle.plant_text.specs.Form.{term_line, close_line, rows}
use Rattle.plant_text.specs.PlantText.{State, terms, postings, line_refusal, next}
use Rattle.plant_text.specs.inner.Rest.{with_number, highest_known, line_after, kind_refusal, Tells, refused_by}
use Rattle.plant_text.specs.inner.Terms.{newest, Before, SamePosts, PostsAt, from_posting, terms_made, OpensTerm, BarsTerm, SameTerms, at_term, TermsAt, ClosedAt}
use Rattle.plant_text.specs.declared.Room.{Room}
use Rattle.plant_text.specs.declared.lines.Place.{Place}
use Rattle.text.specs.declared.Refused.{Refused}
use Rattle.plant_text.proofs.Reading.{past_at, line_refused, form_taken, reading_form, next_line, past_line, at_kind, is_due, kind_refused}

-- the rows of a term line, with the code's counts in their places
module _ (r : Room) (T S : List ℕ) (n p v : ℕ) (hn : n ≤ r.terms) (ht : r.terms ≤ length T) (hs : r.terms ≤ length S) where
  abbrev row : ℕ
  row = pick (eqb v 0 || ltb 65535 v) 22 (pick (leb r.terms (length (take n T))) 27 (pick (leb v (newest (take n T))) 28 0))

  refusal_is : (P : plants.Plant) (L : List ℕ) → line_refusal r (terms_made P (index T S L) n p terms) (with_number term_line v) ≡ row
  unfolding line_refusal
  refusal_is P L = refl

  pub term_barred : {line : ℕ} {e : Refused} → Tells row line e → BarsTerm r T S n p v line e
  term_barred b = record { tells = λ P L. rw (refusal_is P L) b }

  term_fits : row ≡ 0 → (v ≤ 65535) × (n < r.terms)
  term_fits z =
      let a = pick_none (eqb v 0 || ltb 65535 v) 21 _ z in
      let b = pick_none (leb r.terms (length (take n T))) 26 _ a.1 in
      (either (eqb v 0) (λ p. omega (flags, p)) (λ p. let c : ltb 65535 v ≡ false = rw p at a.0 in omega flags), omega (flags, b.0, length-take-le n T (omega arith)))

  pub term_opened : row ≡ 0 → OpensTerm r T S n p v (set T n v) (set S n p)
  unfolding next
  term_opened z =
      let g = term_fits z in
      let a : n < length T = omega arith in
      let b : n < length S = omega arith in
      let i : n < n + 1 = omega arith in
      let o : n + 1 - 1 ≡ n = omega arith in
      record {
        taken = λ P L. refusal_is P L ∙ z;
        opens = λ P L h. rw (length-take-le p L h, add-one n, take-suc-set T n v, take-suc-set S n p);
        terms = simp length-set ht;
        starts = simp length-set hs;
        holds = omega arith;
        begun = rw (o, get_or-take (n + 1) (set S n p) n 0 i, get_or-set_same S n p 0 b);
      }

module _ {r : Room} {t last T S L : List ℕ} {count n : ℕ} {p : Place} {A : plants.Plant → Read State} {f : Form}
    (e : TermsAt r t last count A (index T S L) f n p) where
  module _ (w : f.kind ≡ term_line → ⊥) where
    pub terms_refused : {x : Refused} → Tells (kind_refusal close_line f.kind) p.line x →
        SameTerms last count A (λ P. refused_by x)
    terms_refused b = record {
      same = λ P g.
          e.reads.same P g
          ∙ line_refused r (terms_made P (index T S L) n p.count terms) p.line (drop p.at t) f
          (kind_refused r (terms_made P (index T S L) n p.count terms) f close_line refl (λ i. omega arith) b (λ c. rw (ne_eqb f.kind term_line w, c)));
    }

    pub terms_closed : kind_refusal close_line f.kind ≡ 0 → ClosedAt r t last count A (index T S L) n (line_after p p.at)
    unfolding line_refusal next
    terms_closed z = record {
      reads = record {
        same = λ P g.
            e.reads.same P g
            ∙ at_kind r (terms_made P (index T S L) n p.count terms) p.line (drop p.at t) f (is_due close_line f.kind z)
            ∙ form_taken r (terms_made P (index T S L) n p.count terms) p.line (drop p.at t) (with_number close_line f.number) refl refl;
      };
      fits = e.fits;
      terms = e.terms;
      postings = e.start.holds;
    }

  module _ (w : f.kind ≡ term_line) where
    at_new : SameTerms last count A (at_term r t (index T S L) (with_number term_line f.number) n p)
    at_new = record { same = λ P g. e.reads.same P g ∙ at_kind r (terms_made P (index T S L) n p.count terms) p.line (drop p.at t) f w }

    pub term_refused : {x : Refused} → BarsTerm r T S n p.count f.number p.line x → SameTerms last count A (λ P. refused_by x)
    term_refused ba = record {
      same = λ P g.
          at_new.same P g ∙ line_refused r (terms_made P (index T S L) n p.count terms) p.line (drop p.at t) (with_number term_line f.number) (ba.tells P L);
    }

    module _ {T' S' : List ℕ} (op : OpensTerm r T S n p.count f.number T' S') where
      newest_term : (P : plants.Plant) → P.last ≡ take count last → Before last count p.count (terms_made P (index T' S' L) (n + 1) p.count terms)
      newest_term P o =
          let a = length-take-le (n + 1) T' (omega (arith, op.holds, op.terms)) in
          let b = length-take-le (n + 1) S' (omega (arith, op.holds, op.starts)) in
          record { lasts = o; even = b ∙ sym a; begun = rw a op.begun }

      -- what the term's postings come to, between the terms
      pub entered : {b : State → Read State} → SamePosts last count p.count (from_posting r t postings L (line_after p p.at)) b →
          SameTerms last count A (λ P. b (terms_made P (index T' S' L) (n + 1) p.count terms))
      entered c = record {
        same = λ P o.
            at_new.same P o
            ∙ form_taken r (terms_made P (index T S L) n p.count terms) p.line (drop p.at t) (with_number term_line f.number) (op.taken P L)
            (op.opens P L (omega (arith, e.start.holds, e.start.fits)))
            ∙ c.same (terms_made P (index T' S' L) (n + 1) p.count terms) (newest_term P o);
      }

      module _ {L' : List ℕ} {q : Place} (d : PostsAt r t last count p.count (from_posting r t postings L (line_after p p.at)) (p.at + 1) terms L' q)
          {h : Found} (x : h ≡ found_at highest_known rows t q.at) where
        pub terms_more : TermsAt r t last count A (index T' S' L') h.form (n + 1) (past_at q h.next)
        terms_more = record {
          reads = record {
            same = λ P o.
                (entered d.reads).same P o
                ∙ reading_form t q.at x r (terms_made P (index T' S' L') (n + 1) q.count terms) q.line
                (omega (arith, ap length o, length-take-le count last e.start.lasts, e.start.devices, e.start.bounded.devices)) refl;
          };
          start = let s = d.start in record {
            at_line = next_line t q.at x s.at_line;
            bounded = s.bounded;
            devices = s.devices;
            lasts = s.lasts;
            fits = s.fits;
            holds = s.holds;
          };
          past = past_line t q.at x d.start.at_line;
          fits = record { terms = op.terms; starts = op.starts; postings = d.start.fits };
          terms = op.holds;
        }

-- each table is as long as it was
pub record IndexSizes (X₀ X : indexes.Index) : Type 0 where
  pub terms : length X.terms ≡ length X₀.terms
  pub starts : length X.starts ≡ length X₀.starts
  pub postings : length X.postings ≡ length X₀.postings
