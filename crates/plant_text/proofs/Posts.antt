-- Laws of the reader of postings.
use Prim.Native.Nat.{ℕ, ◌+◌, ◌-◌, ◌*◌, ◌%◌, ◌<◌, ◌≤◌}
use mathlib.Core.Path.{◌≡◌, refl, sym, ap, ◌∙◌}
use mathlib.Core.Bool.{Bool, true, false, ◌||◌}
use mathlib.Core.List.{List, [], ◌∷◌, ◌++◌}
use native.Mathlib.Numerals.{add-one}
use native.Mathlib.Omega.{arith}
use borrow.Author.Tests.{lt-leb, eqb-true, eqb-false}
use lib.Dec.{leb, ltb, eqb}
use lib.ListN.{length, take, drop, set, length-set, get_or-eq_default}
use lib.Seq.{slice, length-slice, length-take-le, take-length, take-suc-set, drop-append-le, get_or-take}
use Rattle.laws.specs.Rows.{pick}
use Rattle.laws.specs.Tables.{entry}
use Rattle.laws.specs.inner.Entries.{IsEntry}
use Rattle.laws.proofs.Rows.{pick_none}
use Rattle.laws.proofs.Tests.{flags}
use Rattle.laws.proofs.Cases.{either}
use Rattle.laws.proofs.Lists.{slice_part}
use Rattle.plant.specs.Plant.{size}
use Rattle.index.specs.Postings.{posting, device, shared, reach, shadowed}
use Rattle.index.specs.inner.Lists.{SoundList}
use Rattle.text.specs.Forms.{unfinished}
use Rattle.text.specs.inner.Finding.{found_at}
use Rattle.text.specs.Reading.{Read}
use Rattle.text.specs.declared.Found.{Found}
use Rattle.plant_text.specs.Form.{all_line, close_line, rows, is_posting}
use Rattle.plant_text.specs.PlantText.{State, postings, terms, current, add_posting, line_refusal, next}
use Rattle.plant_text.specs.inner.Rest.{from_form, with_number, highest_known, line_after, ReadingAt, kind_refusal, Tells, refused_by}
use Rattle.plant_text.specs.inner.Terms.{newest, Before, posts_made, Adds, Bars, from_posting, SamePosts, PostsStart, PostsAt}
use Rattle.plant_text.specs.declared.Room.{Room}
use Rattle.plant_text.specs.declared.lines.Place.{Place}
use Rattle.text.specs.declared.Refused.{Refused}
use Rattle.plant_text.proofs.Reading.{more_at, line_refused, form_taken, reading_form, found_moves, next_line, past_line, at_kind, posting_kinds, is_due, kind_refused}
use Rattle.index.proofs.Lists.{device_of, ranged}
use Rattle.index.proofs.Growing.{sound_none, newest_entry, shadowed_newest, sound_more}

-- the rows of a posting agree where their last tests do
same_rows : (a b c u v : Bool) → (a ≡ false → c ≡ false → u ≡ v) → pick a 22 (pick b 27 (pick c 28 (pick u 29 0))) ≡ pick a 22 (pick b 27 (pick c 28 (pick v 29 0)))
same_rows true b c u v h = refl
same_rows false true c u v h = refl
same_rows false false true u v h = refl
same_rows false false false u v h = rw (h refl refl)

in_range : (d count : ℕ) → (eqb d 0 || ltb count d) ≡ false → (1 ≤ d) × (d ≤ count)
in_range d count h =
    either (eqb d 0) (λ p. let z : true ≡ false = rw p at h in let o : ◌≡◌ {A = ℕ} 0 1 = cc in absurd (omega arith))
    (λ p. let z : ltb count d ≡ false = rw p at h in (omega flags, omega flags))

-- a posting's line, of either kind
abbrev posting_refusal : Room → State → ℕ → ℕ
posting_refusal r m d =
    pick (eqb d 0 || ltb (size m.plant) d) 22
    (pick (leb r.postings (length m.index.postings)) 27
    (pick (leb d (device (entry (current m) (length (current m))))) 28
    (pick (shadowed m.plant.last (current m) d) 29
    0)))

module _ (r : Room) (m : State) (posts : List ℕ) (n d kind : ℕ) (e : is_posting kind ≡ true) where
  posting_rows : line_refusal r (posts_made m posts n postings) (with_number kind d) ≡ posting_refusal r (posts_made m posts n postings) d
  unfolding line_refusal
  posting_rows =
      posting_kinds (λ k. line_refusal r (posts_made m posts n postings) (with_number k d) ≡ posting_refusal r (posts_made m posts n postings) d) kind e refl refl

  posting_next : next (posts_made m posts n postings) (with_number kind d) ≡ add_posting (posts_made m posts n postings) d (eqb kind all_line)
  unfolding next
  posting_next =
      posting_kinds (λ k. next (posts_made m posts n postings) (with_number k d) ≡ add_posting (posts_made m posts n postings) d (eqb k all_line)) kind e refl refl

module _ (r : Room) (last posts : List ℕ) (count begin n : ℕ) (hc : count ≤ length last) (hb : begin ≤ n) (hn : n ≤ r.postings) (hp : r.postings ≤ length posts)
    (sound : SoundList (take count last) (slice begin n posts)) where
  -- the newest posting, as the code finds it
  abbrev q : ℕ
  q = newest (take (n - begin) (drop begin posts))

  part_is : take (n - begin) (drop begin posts) ≡ slice begin n posts
  part_is = slice_part begin n posts (omega arith) (omega arith)

  newest_is : q ≡ newest (slice begin n posts)
  newest_is = ap newest part_is

  pub in_plant : 0 < length (take (n - begin) (drop begin posts)) → IsEntry last (device q)
  in_plant h =
      let e = ranged (length (take count last)) device (slice begin n posts) sound.placed (length (slice begin n posts)) (omega (arith, ap length part_is)) (omega arith) in
      rw newest_is (record { first = e.0; last = omega (arith, e.1, length-take-le count last hc) })

  current_is : (m : State) → Before last count begin m → current (posts_made m posts n postings) ≡ slice begin n posts
  current_is m b =
      let z : length m.index.starts ≤ length m.index.terms = omega (arith, b.even) in
      rw (b.begun, get_or-eq_default m.index.starts (length (take n posts)) {n = length m.index.terms} z, take-length (take n posts))

  module _ (d : ℕ) where
    abbrev far : ℕ
    far = (q % 2) * entry last (device q)

    abbrev row : ℕ
    row = pick (eqb d 0 || ltb count d) 22 (pick (leb r.postings n) 27 (pick (leb d (device q)) 28 (pick (leb d far) 29 0)))

    -- past its own device a posting reaches as far as its branch, if it is shared
    far_is : 1 ≤ d → device q < d → leb d (reach (take count last) q) ≡ leb d far
    far_is a u =
        either (shared q)
        (λ t. let k : q % 2 ≡ 1 = eqb-true (q % 2) 1 t in
        let e = newest_entry (take count last) (slice begin n posts) sound q newest_is (λ z. omega arith) in
        let i : device q - 1 < count = omega (arith, e.first, e.last, length-take-le count last hc) in
        let f : far ≡ entry last (device q) = rw k (omega arith) in
        rw (t, get_or-take count last (device q - 1) 0 i, f))
        (λ t. let k : q % 2 ≡ 0 = omega (arith, eqb-false (q % 2) 1 t) in
        let f : far ≡ 0 = rw k (omega arith) in
        rw (t, lt-leb d (device q) u, f, lt-leb d 0 a))

    shadow_is : 1 ≤ d → device q < d → shadowed (take count last) (slice begin n posts) d ≡ leb d far
    shadow_is a u = shadowed_newest (take count last) (slice begin n posts) sound d a (rw (← newest_is) u) ∙ rw (← newest_is) (far_is a u)

    post_fits : row ≡ 0 → (1 ≤ d) × (d ≤ count) × (n < r.postings) × (device q < d) × (far < d)
    post_fits z =
        let a = pick_none (eqb d 0 || ltb count d) 21 _ z in
        let b = pick_none (leb r.postings n) 26 _ a.1 in
        let c = pick_none (leb d (device q)) 27 _ b.1 in
        let e = pick_none (leb d far) 28 _ c.1 in
        let i = in_range d count a.0 in
        (i.0, i.1, omega (flags, b.0), omega (flags, c.0), omega (flags, e.0))

    longer : (v : ℕ) → n < length posts → slice begin (n + 1) (set posts n v) ≡ slice begin n posts ++ (v ∷ [])
    longer v h = rw (add-one n, take-suc-set posts n v, drop-append-le begin (take n posts) (v ∷ []) (omega (arith, length-take-le n posts (omega arith))))

    module _ (kind : ℕ) (p : is_posting kind ≡ true) where
      refusal_is : (m : State) → Before last count begin m → line_refusal r (posts_made m posts n postings) (with_number kind d) ≡ row
      refusal_is m b =
          posting_rows r m posts n d kind p
          ∙ rw (current_is m b, b.lasts, length-take-le count last hc, length-take-le n posts (omega arith), ← newest_is)
          (same_rows (eqb d 0 || ltb count d) (leb r.postings n) (leb d (device q)) (shadowed (take count last) (slice begin n posts) d) (leb d far)
          (λ i t. shadow_is (in_range d count i).0 (omega (flags, t))))

      pub post_barred : {line : ℕ} {e : Refused} → Tells row line e → Bars r last posts count begin n kind d line e
      post_barred t = record { tells = λ m b. rw (refusal_is m b) t }

      pub post_added : {v : ℕ} → row ≡ 0 → v ≡ posting d (eqb kind all_line) → Adds r last posts count begin n kind d (set posts n v)
      post_added {v} z ev =
          let g = post_fits z in
          let i : n < length posts = omega arith in
          let dv : device v ≡ d = rw ev (device_of d (eqb kind all_line)) in
          record {
            taken = λ m b. refusal_is m b ∙ z;
            adds = λ m. posting_next r m posts n d kind p ∙ rw (add-one n, take-suc-set posts n v, ev);
            fits = simp length-set hp;
            holds = omega arith;
            sound = rw (longer v i)
                (sound_more (take count last) (slice begin n posts) sound v (omega arith) (omega (arith, length-take-le count last hc)) (rw (← newest_is) (omega arith))
                (rw dv (shadow_is g.0 g.3 ∙ omega (flags, g.4))));
          }

-- a list of postings, where it begins
pub posts_start : {r : Room} {t last posts : List ℕ} {count : ℕ} {p : Place} → PostsStart r t last posts count p →
    PostsAt r t last count p.count (from_posting r t postings posts p) p.at postings posts p
posts_start {r} {t} {last} {posts} {count} {p} s = record {
  reads = record { same = λ m b. refl };
  start = s;
  more = omega arith;
  onward = omega arith;
  sound = sound_none (take count last) (slice p.count p.count posts) (omega (arith, length-slice p.count p.count posts (omega (arith, s.holds, s.fits))));
}

-- a list of postings that has been read up to a place, and the line there
module _ {r : Room} {t last posts : List ℕ} {count begin since : ℕ} {p : Place} {A : State → Read State} {g : Found} {v : Bool}
    (e : PostsAt r t last count begin A since postings posts p) (x : g ≡ found_at highest_known rows t p.at) (q : v ≡ is_posting g.form.kind) where
  up_to_line : SamePosts last count begin A (λ m. from_form r (posts_made m posts p.count postings) g.form p.line (drop g.next t))
  up_to_line = record {
    same = λ m b.
        e.reads.same m b
        ∙ reading_form t p.at x r (posts_made m posts p.count postings) p.line
        (omega (arith, ap length b.lasts, length-take-le count last e.start.lasts, e.start.devices, e.start.bounded.devices)) refl;
  }

  -- the line is whole
  past : (g.form.kind ≡ unfinished → ⊥) → ReadingAt t g.next (p.line + 1)
  past h =
      let s = next_line t p.at x e.start.at_line in
      record { fits = s.fits; within = s.within; lined = omega (arith, past_line t p.at x e.start.at_line h) }

  module _ (w : v ≡ false) where
    pub posts_refused : {x : Refused} → Tells (kind_refusal close_line g.form.kind) p.line x →
        SamePosts last count begin A (λ m. refused_by x)
    posts_refused u = record {
      same = λ m b.
          up_to_line.same m b
          ∙ line_refused r (posts_made m posts p.count postings) p.line (drop g.next t) g.form
          (kind_refused r (posts_made m posts p.count postings) g.form close_line refl (λ i. omega arith) u (λ c. rw (← q, w, c)));
    }

    module _ (z : kind_refusal close_line g.form.kind ≡ 0) where
      closes : g.form.kind ≡ close_line
      closes = is_due close_line g.form.kind z

      pub posts_ended : PostsAt r t last count begin A (since + 1) terms posts (line_after p g.next)
      unfolding line_refusal next
      posts_ended = record {
        reads = record {
          same = λ m b.
              up_to_line.same m b
              ∙ at_kind r (posts_made m posts p.count postings) p.line (drop g.next t) g.form closes
              ∙ form_taken r (posts_made m posts p.count postings) p.line (drop g.next t) (with_number close_line g.form.number) refl refl;
        };
        start = let s = e.start in record {
          at_line = past (λ i. omega (arith, closes));
          bounded = s.bounded;
          devices = s.devices;
          lasts = s.lasts;
          fits = s.fits;
          holds = s.holds;
        };
        more = e.more;
        onward = omega (arith, e.onward, found_moves t p.at x (λ i. omega (arith, closes)));
        sound = e.sound;
      }

  module _ (w : v ≡ true) where
    posting_here : is_posting g.form.kind ≡ true
    posting_here = sym q ∙ w

    whole : g.form.kind ≡ unfinished → ⊥
    whole = posting_kinds (λ k. k ≡ unfinished → ⊥) g.form.kind posting_here (λ i. omega arith) (λ i. omega arith)

    at_posting : SamePosts last count begin A
        (λ m. from_form r (posts_made m posts p.count postings) (with_number g.form.kind g.form.number) p.line (drop g.next t))
    at_posting = record {
      same = λ m b. up_to_line.same m b ∙ at_kind r (posts_made m posts p.count postings) p.line (drop g.next t) g.form refl;
    }

    pub posting_refused : {y : Refused} → Bars r last posts count begin p.count g.form.kind g.form.number p.line y → SamePosts last count begin A (λ m. refused_by y)
    posting_refused ba = record {
      same = λ m b.
          at_posting.same m b
          ∙ line_refused r (posts_made m posts p.count postings) p.line (drop g.next t) (with_number g.form.kind g.form.number) (ba.tells m b);
    }

    pub posting_added : {posts' : List ℕ} → Adds r last posts count begin p.count g.form.kind g.form.number posts' →
        PostsAt r t last count begin A since postings posts' (more_at p g.next)
    posting_added ad = record {
      reads = record {
        same = λ m b.
            at_posting.same m b
            ∙ form_taken r (posts_made m posts p.count postings) p.line (drop g.next t) (with_number g.form.kind g.form.number) (ad.taken m b) (ad.adds m);
      };
      start = let s = e.start in record {
        at_line = past whole;
        bounded = s.bounded;
        devices = s.devices;
        lasts = s.lasts;
        fits = ad.fits;
        holds = ad.holds;
      };
      more = omega (arith, e.more);
      onward = omega (arith, e.onward, found_moves t p.at x whole);
      sound = ad.sound;
    }
