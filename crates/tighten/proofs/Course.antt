-- Going through a list, to put its tight list where it goes.
use Prim.Native.Nat.{ℕ, ◌+◌, ◌-◌, ◌≤◌, ◌<◌}
use mathlib.Core.Path.{◌≡◌, refl, sym, ap, ◌∙◌}
use mathlib.Core.List.{List, [], ◌∷◌, ◌++◌, append_assoc, append-nil}
use native.Mathlib.Omega.{arith}
use lib.ListN.{length, take, drop, set, length-append, length-set}
use lib.Seq.{slice, slice_empty, length-slice, drop-drop, drop-set-lt}
use Rattle.laws.proofs.Lists.{slice_part, take_written, same_later, same_part}
use Rattle.laws.proofs.Joined.{joined_empty}
use Rattle.laws.proofs.Search.{any_none}
use Rattle.index.specs.inner.Laying.{ListPut}
use Rattle.tighten.specs.Tight.{postings_at, tight}
use Rattle.tighten.specs.inner.Branches.{carried}
use Rattle.plant.specs.inner.Forest.{Forest}
use Rattle.tighten.specs.inner.List.{Apart, Known, Leads, Bounds}
use Rattle.tighten.specs.declared.list.Lead.{Lead}
use Rattle.tighten.proofs.Branches.{at_none, lacks_none}
use Rattle.tighten.proofs.Apart.{apart_drop}

-- a list without postings
tight_nil : {last : List ℕ} → Forest last → tight last (carried last []) ≡ []
tight_nil {last} F = joined_empty (postings_at last (carried last [])) (length last) (λ d a b.
    at_none last (carried last []) d (lacks_none F (carried last []) d (a, b) (sym (any_none _ (λ k x y. absurd (omega arith))))))

-- from index `at` on the list from `start` to `end` is unread; `done` stands at `to`, and the tight list of what is unread is left to come
pub record Course (last p₀ : List ℕ) (start end to : ℕ) (p : List ℕ) (until place at : ℕ) : Type 0 where
  pub done : List ℕ
  pub bounds : Bounds p₀ start end to
  pub low : start ≤ at
  pub high : at ≤ end
  pub behind : place ≤ at
  pub size : length p ≡ length p₀
  pub place_is : place ≡ to + length done
  pub front : take place p ≡ take to p₀ ++ done
  pub rest : drop at p ≡ drop at p₀
  pub left : done ++ tight last (carried last (slice at end p₀)) ≡ tight last (carried last (slice start end p₀))
  pub apart : Apart last (slice at end p₀)
  pub known : Known last (slice at end p₀) until

module _ {last p₀ : List ℕ} {start end to : ℕ} {p : List ℕ} {until place at : ℕ} (F : Forest last) (c : Course last p₀ start end to p until place at) where
  pub course_end : end ≤ at → ListPut p₀ end to (tight last (carried last (slice start end p₀))) p place
  course_end u =
      let e : at ≡ end = omega (arith, c.high) in
      let l = rw (e, slice_empty end p₀, tight_nil F, append-nil c.done) at c.left in
      record {
        size = c.size;
        place_is = c.place_is ∙ rw (← l);
        front = c.front ∙ rw (← l);
        rest = rw (← e) c.rest;
      }

  pub course_within : end ≤ length p
  course_within = omega (arith, c.bounds.within, c.size)

  module _ (more : at < end) where
    pub course_place : place < length p
    course_place = omega (arith, c.behind, course_within)

    part_is : take (end - at) (drop at p) ≡ slice at end p₀
    part_is =
        let w = course_within in
        let v = c.bounds.within in
        slice_part at end p {from = at} {to = end} (omega arith) (omega arith) ∙ same_part p p₀ at c.rest end (omega arith) w v

    long : length (slice at end p₀) ≡ end - at
    long = length-slice at end p₀ c.bounds.within

    pub course_apart : Apart last (take (end - at) (drop at p))
    course_apart = rw part_is c.apart

    pub course_known : Known last (take (end - at) (drop at p)) until
    course_known = rw part_is c.known

    module _ {r : Lead} (h : Leads last (take (end - at) (drop at p)) r) where
      lead : Leads last (slice at end p₀) r
      lead = rw part_is at h

      unread : drop r.taken (slice at end p₀) ≡ slice (at + r.taken) end p₀
      unread = drop-drop r.taken at (take end p₀)

      pub course_high : at + r.taken ≤ end
      course_high = omega (arith, lead.within, long)

      pub course_turn : Course last p₀ start end to (set p place r.posting) r.until (place + 1) (at + r.taken)
      course_turn =
          let w = course_place in
          let s = lead.some in
          let b = c.behind in
          let l = c.low in
          record {
            done = c.done ++ (r.posting ∷ []);
            bounds = c.bounds;
            low = omega arith;
            high = course_high;
            behind = omega arith;
            size = length-set p place r.posting ∙ c.size;
            place_is = let a = length-append c.done (r.posting ∷ []) in let h = c.place_is in omega arith;
            front = take_written p place (place + 1) r.posting refl w ∙ rw c.front (append_assoc (take to p₀) c.done (r.posting ∷ []));
            rest = drop-set-lt (at + r.taken) p place r.posting (omega arith) ∙ same_later p p₀ at c.rest (at + r.taken) (omega arith);
            left = append_assoc c.done (r.posting ∷ []) (tight last (carried last (slice (at + r.taken) end p₀)))
                ∙ ap (λ (x : List ℕ). c.done ++ x) (sym (rw unread at lead.is)) ∙ c.left;
            apart = rw unread at (apart_drop c.apart r.taken);
            known = rw unread at lead.known;
          }
