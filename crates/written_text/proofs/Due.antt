-- At each line of a text the tables that the whole text makes tell the form that is due: so no other text makes them.
use Prim.Native.Nat.{ℕ, ◌+◌, ◌-◌, ◌≤◌, ◌<◌}
use mathlib.Core.Path.{◌≡◌, refl, sym, ◌∙◌, subst}
use mathlib.Core.Bool.{Bool, true, false, cond, true≢false}
use mathlib.Core.List.{List, [], ◌∷◌, ◌++◌}
use native.Mathlib.Omega.{arith}
use lib.Dec.{ltb}
use lib.ListN.{length, get_or, set, length-append, length-set, get_or-append, get_or-eq_default}
use lib.Seq.{get_or_at}
use Rattle.laws.specs.Tables.{entry}
use Rattle.laws.proofs.Tests.{flags}
use Rattle.laws.proofs.Cases.{by_order}
use Rattle.plant.specs.Plant.{Plant, size}
use Rattle.index.specs.Postings.{posting}
use Rattle.index.specs.Index.{Index, count}
use Rattle.index.proofs.Lists.{device_of, shared_of}
use Rattle.plant_text.specs.PlantText.{Stage, start, devices, terms, postings, closed, State, nothing, line_refusal, next}
use Rattle.plant_text.specs.declared.Room.{Room}
use Rattle.accepted_text.proofs.Accepted.{Passed, passed}
use Rattle.text.specs.declared.Form.{Form}
use Rattle.text.specs.Forms.{plain, with_number}
use Rattle.plant_text.specs.Form.{plant_line, device_line, term_line, own_line, all_line, close_line}
use Rattle.written_text.specs.Forms.{posting_form}
use Rattle.written_text.specs.Refusals.{tiers}
use Rattle.written_text.proofs.Written.{Written, plant, device as device_of_level, term, own, all, close}
use Rattle.written_text.proofs.Taking.{Takes, none, more, posting_next}
use Rattle.written_text.proofs.Ahead.{Ext, ext_same, ext_back, ext_at, Gaps, Kept, kept_all, gaps_open, kept_open, kept_before, gaps_close, kept_close, tiers_open}

-- ---- the form that is due, by the tables in the end

abbrev due_device : Plant → Index → ℕ → List ℕ → Form
due_device P I n [] = cond (ltb n (size P)) (with_number device_line (get_or P.level n 0)) (cond (ltb 0 (count I)) (with_number term_line (get_or I.terms 0 0)) (plain close_line))
due_device P I n (d ∷ ds) = cond (ltb n (entry P.last d)) (with_number device_line (get_or P.level n 0)) (plain close_line)

-- in a stage, with stack ds, n devices, k terms and p postings so far
abbrev due : Plant → Index → Stage → List ℕ → ℕ → ℕ → ℕ → Form
due P I start ds n k p = (plain plant_line)
due P I devices ds n k p = due_device P I n ds
due P I terms ds n k p = cond (ltb k (count I)) (with_number term_line (get_or I.terms k 0)) (plain close_line)
due P I postings ds n k p = cond (ltb p (get_or I.starts k (length I.postings))) (posting_form (get_or I.postings p 0)) (plain close_line)
due P I closed ds n k p = (plain close_line)

-- ---- what holds at each line

abbrev mk : Stage → List ℕ → Plant → Index → State
mk s ds P I = record { stage = s; opened = ds; plant = P; index = I }

-- of what has been made
abbrev Forest : Stage → List ℕ → Plant → Index → Type 0
Forest start ds P I = (ds ≡ []) × (size P ≡ 0) × (count I ≡ 0)
Forest devices ds P I = Gaps P.last ds (size P) × (count I ≡ 0)
Forest terms ds P I = Unit {0}
Forest postings ds P I = Unit {0}
Forest closed ds P I = Unit {0}

record Inv (s : Stage) (ds : List ℕ) (P : Plant) (I : Index) : Type 0 where
  levels : length P.level ≡ size P
  starts : length I.starts ≡ count I
  coded : (i : ℕ) → get_or P.level i 0 ≤ 255
  forest : Forest s ds P I

-- of what is made in the end
abbrev Rest : Stage → List ℕ → Plant → Index → State → Type 0
Rest start ds P I m = (d : ℕ) → 0 < d → d ≤ size m.plant → tiers m.plant.last d ≤ 32
Rest devices ds P I m = Kept P.last m.plant.last (size P) ds (size P) × (size P ≤ size m.plant)
    × ((d : ℕ) → size P < d → d ≤ size m.plant → tiers m.plant.last d ≤ 32)
Rest terms ds P I m = (m.plant ≡ P) × (get_or m.index.starts (count I) (length m.index.postings) ≡ length I.postings)
Rest postings ds P I m = (m.plant ≡ P) × (length I.postings ≤ get_or m.index.starts (count I) (length m.index.postings))
Rest closed ds P I m = (m.plant ≡ P) × (m.index ≡ I)

record Ahead (s : Stage) (ds : List ℕ) (P : Plant) (I : Index) (m : State) : Type 0 where
  level : Ext P.level m.plant.level
  term : Ext I.terms m.index.terms
  start : Ext I.starts m.index.starts
  post : Ext I.postings m.index.postings
  rest : Rest s ds P I m

-- a line of form f, which makes m' of what has been made
record Back (s : Stage) (ds : List ℕ) (P : Plant) (I : Index) (f : Form) (m : State) : Type 0 where
  ahead : Ahead s ds P I m
  is_due : f ≡ due m.plant m.index s ds (size P) (count I) (length I.postings)

abbrev InvOf : State → Type 0
InvOf s = Inv s.stage s.opened s.plant s.index

abbrev AheadOf : State → State → Type 0
AheadOf s m = Ahead s.stage s.opened s.plant s.index m

-- what a line does: it keeps what holds, and what is ahead of it is ahead of what follows it
record Does (s : Stage) (ds : List ℕ) (P : Plant) (I : Index) (f : Form) : Type 0 where
  keeps : InvOf (next (mk s ds P I) f)
  back : (m : State) → AheadOf (next (mk s ds P I) f) m → Back s ds P I f m

-- ---- each form

coded_more : (l : List ℕ) (v : ℕ) → v ≤ 255 → ((i : ℕ) → get_or l i 0 ≤ 255) → (i : ℕ) → get_or (l ++ (v ∷ [])) i 0 ≤ 255
coded_more l v b h i =
    let z = length-append l (v ∷ []) in
    by_order i (length l) (λ u. rw (get_or-append l (v ∷ []) 0 i u) (h i))
    (λ u. by_order (length l) i (λ w. rw (get_or-eq_default (l ++ (v ∷ [])) 0 {n = i} (omega arith)) (omega arith)) (λ w. rw (get_or_at l v [] 0 i (omega arith)) b))

-- n devices are there, and the next is of level v
device_due : (P : Plant) (I : Index) (v n : ℕ) (A ds : List ℕ) → Kept A P.last (n + 1) ds n → n + 1 ≤ size P → get_or P.level n 0 ≡ v → with_number device_line v ≡ due_device P I n ds
device_due P I v n A [] k l e = let t : ltb n (size P) ≡ true = omega flags in rw (t, e)
device_due P I v n A (d ∷ ds) k l e = let t : ltb n (entry P.last d) ≡ true = let x = k.0 in omega flags in rw (t, e)

module _ (ds : List ℕ) (P : Plant) (I : Index) where
  at_plant : Inv start ds P I → Does start ds P I (plain plant_line)
  unfolding next
  at_plant i =
      let f = i.forest in
      record {
        keeps = record { levels = i.levels; starts = i.starts; coded = i.coded; forest = (rw (f.0, f.1) (λ c p q. absurd (omega arith)), f.2) };
        back = λ m a. record {
          ahead = record { level = a.level; term = a.term; start = a.start; post = a.post; rest = λ d p q. a.rest.2 d (omega (arith, f.1)) q };
          is_due = refl;
        };
      }

  at_device : (r : Room) (v : ℕ) → Passed r (mk devices ds P I) (with_number device_line v) → Inv devices ds P I → Does devices ds P I (with_number device_line v)
  unfolding next
  at_device r v p i =
      let f = i.forest in
      let n = size P in
      let b : v ≤ 255 = let e = p.in_range in omega flags in
      let s : length ds < 32 = let e = p.shallow in omega flags in
      let z : length (P.last ++ (0 ∷ [])) ≡ n + 1 = length-append P.last (0 ∷ []) in
      let y = length-append P.level (v ∷ []) in
      record {
        keeps = record {
          levels = omega (arith, i.levels);
          starts = i.starts;
          coded = coded_more P.level v b i.coded;
          forest = (rw z (gaps_open P.last ds n refl f.0), f.1);
        };
        back = λ m a.
            let e = rw z at a.rest in
            let o = subst (λ (x : ℕ). Kept (P.last ++ (0 ∷ [])) m.plant.last x ((n + 1) ∷ ds) x) z a.rest.0 in
            let k = kept_before P.last ds n refl f.0 m.plant.last o in
            let t = ext_at P.level v a.level n 0 i.levels in
            record {
              ahead = record {
                level = ext_back P.level v a.level;
                term = a.term;
                start = a.start;
                post = a.post;
                rest = (
                  k,
                  omega (arith, e.1),
                  λ d l u. by_order (n + 1) d (λ w. e.2 d w u)
                      (λ w. let x : d ≡ n + 1 = omega arith in rw x (tiers_open P.last m.plant.last ds n f.0 k s)),
                );
              };
              is_due = device_due m.plant m.index v n P.last ds (kept_open P.last ds n refl f.0 m.plant.last o) e.1 t.1;
            };
      }

  -- a term opens: after k terms, which are over
  module _ (t : ℕ) (i : length I.starts ≡ count I) (l : length P.level ≡ size P) (c : (i : ℕ) → get_or P.level i 0 ≤ 255) where
    term_keeps : InvOf (next (mk terms ds P I) (with_number term_line t))
    unfolding next
    term_keeps =
        let y = length-append I.terms (t ∷ []) in
        let z = length-append I.starts (length I.postings ∷ []) in
        record { levels = l; starts = omega arith; coded = c; forest = tt }

    -- what is ahead says of the term that it is the next, and where its list begins
    module _ (m : State) (a : AheadOf (next (mk terms ds P I) (with_number term_line t)) m) where
      term_next : (count I < count m.index) × (get_or m.index.terms (count I) 0 ≡ t)
      unfolding next
      term_next = ext_at I.terms t a.term (count I) 0 refl

      term_begins : get_or m.index.starts (count I) (length m.index.postings) ≡ length I.postings
      unfolding next
      term_begins = (ext_at I.starts (length I.postings) a.start (count I) (length m.index.postings) i).1

      term_plant : m.plant ≡ P
      unfolding next
      term_plant = a.rest.0

      term_ahead : (s : Stage) → Rest s ds P I m → Ahead s ds P I m
      unfolding next
      term_ahead s x = record {
        level = a.level;
        term = ext_back I.terms t a.term;
        start = ext_back I.starts (length I.postings) a.start;
        post = a.post;
        rest = x;
      }

  at_term : (t : ℕ) → Inv terms ds P I → Does terms ds P I (with_number term_line t)
  unfolding next
  at_term t i = record {
    keeps = term_keeps t i.starts i.levels i.coded;
    back = λ m a.
        let n = term_next t i.starts i.levels i.coded m a in
        let u : ltb (count I) (count m.index) ≡ true = let x = n.0 in omega flags in
        record {
          ahead = term_ahead t i.starts i.levels i.coded m a terms
              (term_plant t i.starts i.levels i.coded m a, term_begins t i.starts i.levels i.coded m a);
          is_due = rw (u, n.1);
        };
  }

  at_posting : (d : ℕ) (s : Bool) → Inv postings ds P I → Does postings ds P I (with_number (cond s all_line own_line) d)
  at_posting d s i =
      let y = posting_next (mk postings ds P I) d s in
      let z : length (I.postings ++ (posting d s ∷ [])) ≡ length I.postings + 1 = length-append I.postings (posting d s ∷ []) in
      record {
        keeps = rw y (record { levels = i.levels; starts = i.starts; coded = i.coded; forest = tt });
        back = λ m b.
            let a = rw y at b in
            let e = ext_at I.postings (posting d s) a.post (length I.postings) 0 refl in
            let x = a.rest.1 in
            let u : ltb (length I.postings) (get_or m.index.starts (count I) (length m.index.postings)) ≡ true = omega flags in
            record {
              ahead = record { level = a.level; term = a.term; start = a.start; post = ext_back I.postings (posting d s) a.post; rest = (a.rest.0, omega arith) };
              is_due = rw (u, e.1, device_of d s, shared_of d s);
            };
      }

  -- the closing lines of a term, and of the plant after the last
  close_postings : Inv postings ds P I → Does postings ds P I (plain close_line)
  unfolding next
  close_postings i = record {
    keeps = record { levels = i.levels; starts = i.starts; coded = i.coded; forest = tt };
    back = λ m a.
        let e = a.rest.1 in
        let u : ltb (length I.postings) (get_or m.index.starts (count I) (length m.index.postings)) ≡ false = omega flags in
        record {
          ahead = record { level = a.level; term = a.term; start = a.start; post = a.post; rest = (a.rest.0, omega arith) };
          is_due = rw u;
        };
  }

  close_terms : Inv terms ds P I → Does terms ds P I (plain close_line)
  unfolding next
  close_terms i = record {
    keeps = record { levels = i.levels; starts = i.starts; coded = i.coded; forest = tt };
    back = λ m a.
        let e : m.index ≡ I = a.rest.1 in
        let u : ltb (count I) (count m.index) ≡ false = rw e (omega flags) in
        record {
          ahead = record {
            level = a.level;
            term = a.term;
            start = a.start;
            post = a.post;
            rest = (a.rest.0, rw e (get_or-eq_default I.starts (length I.postings) (omega (arith, i.starts))));
          };
          is_due = rw u;
        };
  }

-- among the devices, with none open: a term opens, or the plant closes
module _ (P : Plant) (I : Index) where
  -- the plant's devices are all there
  devices_over : (m : State) → m.plant ≡ P → Rest devices [] P I m
  devices_over m e = (kept_all P.last m.plant.last (size P) (size P) (rw e), rw e (omega arith), λ d l u. absurd (let z : size m.plant ≡ size P = rw e in omega arith))

  first_term : (t : ℕ) → Inv devices [] P I → Does devices [] P I (with_number term_line t)
  unfolding next
  first_term t i = record {
    keeps = term_keeps [] P I t i.starts i.levels i.coded;
    back = λ m a.
        let n = term_next [] P I t i.starts i.levels i.coded m a in
        let e = term_plant [] P I t i.starts i.levels i.coded m a in
        let z : count I ≡ 0 = i.forest.1 in
        let u : ltb (size P) (size m.plant) ≡ false = rw e (omega flags) in
        let w : ltb 0 (count m.index) ≡ true = let x = n.0 in omega flags in
        let q : get_or m.index.terms 0 0 ≡ t = rw z at n.1 in
        record { ahead = term_ahead [] P I t i.starts i.levels i.coded m a devices (devices_over m e); is_due = rw (u, w, q) };
  }

  close_plant : Inv devices [] P I → Does devices [] P I (plain close_line)
  unfolding next
  close_plant i = record {
    keeps = record { levels = i.levels; starts = i.starts; coded = i.coded; forest = tt };
    back = λ m a.
        let e : m.plant ≡ P = a.rest.0 in
        let f : m.index ≡ I = a.rest.1 in
        let z : count I ≡ 0 = i.forest.1 in
        let u : ltb (size P) (size m.plant) ≡ false = rw e (omega flags) in
        let w : ltb 0 (count m.index) ≡ false = rw f (omega flags) in
        record { ahead = record { level = a.level; term = a.term; start = a.start; post = a.post; rest = devices_over m e }; is_due = rw (u, w) };
  }

  -- the innermost device closes
  close_device : (d : ℕ) (ds : List ℕ) → Inv devices (d ∷ ds) P I → Does devices (d ∷ ds) P I (plain close_line)
  unfolding next
  close_device d ds i =
      let n = size P in
      let f = i.forest in
      let z : length (set P.last (d - 1) n) ≡ n = length-set P.last (d - 1) n in
      record {
        keeps = record { levels = i.levels ∙ sym z; starts = i.starts; coded = i.coded; forest = (rw z (gaps_close P.last ds d n refl f.0), f.1) };
        back = λ m a.
            let e = rw z at a.rest in
            let k = kept_close P.last ds d n refl f.0 m.plant.last e.0 in
            let u : ltb n (entry m.plant.last d) ≡ false = let x = k.0 in omega flags in
            record { ahead = record { level = a.level; term = a.term; start = a.start; post = a.post; rest = (k.1, e.1, e.2) }; is_due = rw u };
      }

-- ---- any form that is not refused

not_here : {X : Type 0} → false ≡ true → X
not_here e = absurd (true≢false (sym e))

module _ (r : Room) (P : Plant) (I : Index) where
  does : (s : Stage) (ds : List ℕ) {f : Form} → Written f → Passed r (mk s ds P I) f → Inv s ds P I → Does s ds P I f
  does start ds plant p i = at_plant ds P I i
  does start ds (device_of_level v) p i = not_here p.here
  does start ds (term t) p i = not_here p.here
  does start ds (own d) p i = not_here p.here
  does start ds (all d) p i = not_here p.here
  does start ds close p i = not_here p.here
  does devices ds plant p i = not_here p.here
  does devices ds (device_of_level v) p i = at_device ds P I r v p i
  does devices [] (term t) p i = first_term P I t i
  does devices (d ∷ ds) (term t) p i = not_here p.here
  does devices ds (own d) p i = not_here p.here
  does devices ds (all d) p i = not_here p.here
  does devices [] close p i = close_plant P I i
  does devices (d ∷ ds) close p i = close_device P I d ds i
  does terms ds plant p i = not_here p.here
  does terms ds (device_of_level v) p i = not_here p.here
  does terms ds (term t) p i = at_term ds P I t i
  does terms ds (own d) p i = not_here p.here
  does terms ds (all d) p i = not_here p.here
  does terms ds close p i = close_terms ds P I i
  does postings ds plant p i = not_here p.here
  does postings ds (device_of_level v) p i = not_here p.here
  does postings ds (term t) p i = not_here p.here
  does postings ds (own d) p i = at_posting ds P I d false i
  does postings ds (all d) p i = at_posting ds P I d true i
  does postings ds close p i = close_postings ds P I i
  does closed ds w p i = absurd (true≢false p.unclosed)

-- ---- line by line

line_does : (r : Room) (s : State) {f : Form} → Written f → line_refusal r s f ≡ 0 → InvOf s → Does s.stage s.opened s.plant s.index f
line_does r s {f} w p i = does r s.plant s.index s.stage s.opened w (passed r s f p) i

ahead : {r : Room} {s m : State} {fs : List Form} → Takes r s fs m → m.stage ≡ closed → InvOf s → AheadOf s m
ahead {m} none c i = record {
  level = ext_same m.plant.level;
  term = ext_same m.index.terms;
  start = ext_same m.index.starts;
  post = ext_same m.index.postings;
  rest = rw c (refl, refl);
}
ahead {r} {s} {m} {fs = f ∷ fs} (more w p t) c i = let d = line_does r s w p i in (d.back m (ahead t c d.keeps)).ahead

at_last : {r : Room} {s m : State} {fs : List Form} → Takes r s fs m → InvOf s → InvOf m
at_last none i = i
at_last {r} {s} {m} {fs = f ∷ fs} (more w p t) i = at_last t (line_does r s w p i).keeps

-- nothing is taken after the closing line
over : {X : Type 0} (r : Room) (s : State) (f : Form) → s.stage ≡ closed → line_refusal r s f ≡ 0 → X
unfolding line_refusal
over r s f c h = let z : ◌≡◌ {A = ℕ} 25 0 = rw c at h in absurd (omega arith)

-- two texts that make the same are the same
unique : {r q : Room} {s m n : State} {fs gs : List Form} → Takes r s fs m → Takes q s gs n → m.stage ≡ closed → n.stage ≡ closed →
    m.plant ≡ n.plant → m.index ≡ n.index → InvOf s → fs ≡ gs
unique none none c d e f i = refl
unique {q} {s} {gs = g ∷ gs} none (more w p t) c d e f i = over q s g c p
unique {r} {s} {fs = h ∷ fs} (more w p t) none c d e f i = over r s h d p
unique {r} {q} {s} {m} {n} {fs = h ∷ fs} {gs = g ∷ gs} (more w p t) (more v x u) c d e f i =
    let A = line_does r s w p i in
    let B = line_does q s v x i in
    let y : h ≡ g = (A.back m (ahead t c A.keeps)).is_due ∙ rw (e, f) (sym (B.back n (ahead u d B.keeps)).is_due) in
    both y (unique t (subst (λ (z : Form). Takes q (next s z) gs n) (sym y) u) c d e f A.keeps)
  where
    both : {a b : Form} {xs ys : List Form} → a ≡ b → xs ≡ ys → a ∷ xs ≡ b ∷ ys
    both p q = cc

begun : InvOf nothing
begun = record { levels = refl; starts = refl; coded = λ i. omega arith; forest = (refl, refl, refl) }

-- ---- of whole texts

pub same_forms : {r q : Room} {m n : State} {fs gs : List Form} → Takes r nothing fs m → Takes q nothing gs n → m.stage ≡ closed → n.stage ≡ closed →
    m.plant ≡ n.plant → m.index ≡ n.index → fs ≡ gs
same_forms t u c d e f = unique t u c d e f begun

module _ {r : Room} {m : State} {fs : List Form} (t : Takes r nothing fs m) where
  -- level codes are bytes
  pub made_coded : (i : ℕ) → get_or m.plant.level i 0 ≤ 255
  made_coded = (at_last t begun).coded

  -- no device has more than 32 tiers
  pub made_shallow : m.stage ≡ closed → (d : ℕ) → 0 < d → d ≤ size m.plant → tiers m.plant.last d ≤ 32
  made_shallow c = (ahead t c begun).rest
