-- Reading a text is taking the forms of its lines one by one.
use Prim.Native.Nat.{ℕ, suc, ◌+◌, ◌≤◌}
use mathlib.Core.Path.{◌≡◌, refl, sym, ap, ◌∙◌, subst}
use mathlib.Core.Bool.{Bool, true, false, cond, ◌&&◌, true≢false}
use mathlib.Core.List.{List, [], ◌∷◌, ◌++◌, map, append-nil}
use lib.Dec.{eqb, ltb}
use lib.ListN.{length}
use Rattle.laws.proofs.Tests.{flags, and_yes, eqb_yes}
use Rattle.laws.proofs.Cases.{split_cond}
use Rattle.text.specs.Lines.{lines, ended}
use Rattle.text.specs.Forms.{other, unfinished, plain, with_number, form, spelled}
use Rattle.text.specs.Reading.{made, and_then, read_lines, line_of, end_of}
use Rattle.text.specs.declared.Form.{Form}
use Rattle.text.proofs.Reading.{not_made, unless_made}
use Rattle.text.proofs.Spelling.{AllPlain, lines_ended, ended_lines}
use Rattle.plant_text.specs.Form.{own_line, all_line, rows}
use Rattle.plant_text.specs.PlantText.{Stage, start, devices, terms, postings, closed, State, nothing, rank, is, stands, line_refusal, add_posting, next, step, longest_text, read_plant, kept}
use Rattle.plant_text.specs.declared.Room.{Room}
use Rattle.accepted_text.proofs.Accepted.{passed}
use Rattle.written_text.specs.Text.{bytes_of}
use Rattle.written_text.proofs.Written.{Written, spelled_reads, spelled_plain, reads_spelled}

-- forms that are taken one after another, none refused, make m of s
pub data Takes (r : Room) : State → List Form → State → Type 0 where
  none : {s : State} → Takes r s [] s
  more : {s m : State} {f : Form} {fs : List Form} → Written f → line_refusal r s f ≡ 0 → Takes r (next s f) fs m → Takes r s (f ∷ fs) m

pub takes_append : {r : Room} {s m n : State} {fs gs : List Form} → Takes r s fs m → Takes r m gs n → Takes r s (fs ++ gs) n
takes_append none u = u
takes_append (more w p t) u = more w p (takes_append t u)

-- a form that leads to a state which is known by an equation
pub takes_on : {r : Room} {s s' m : State} {f : Form} {fs : List Form} → Written f → line_refusal r s f ≡ 0 → next s f ≡ s' → Takes r s' fs m → Takes r s (f ∷ fs) m
takes_on {r} {s} {s'} {m} {f} {fs} w p e t = more w p (subst (λ (x : State). Takes r x fs m) (sym e) t)

-- a posting of either kind
pub posting_next : (m : State) (d : ℕ) (shared : Bool) → next m (with_number (cond shared all_line own_line) d) ≡ add_posting m d shared
unfolding next
posting_next m d true = refl
posting_next m d false = refl

-- ---- taking is reading

taken_read : {r : Room} {s m : State} {fs : List Form} (k : ℕ) → Takes r s fs m → m.stage ≡ closed →
    read_lines (line_of rows (step r)) (end_of (is closed) (step r)) s k (map (spelled rows) fs) [] ≡ made m
unfolding read_lines
taken_read {m} k none c = rw c
taken_read {r} {s} {m} {fs = f ∷ fs} k (more w p t) c = rw (spelled_reads w, p) (taken_read (k + 1) t c)

all_plain : {r : Room} {s m : State} {fs : List Form} → Takes r s fs m → AllPlain (map (spelled rows) fs)
all_plain none = tt
all_plain (more w p t) = (spelled_plain w, all_plain t)

pub taken_text : {r : Room} {m : State} {fs : List Form} → Takes r nothing fs m → m.stage ≡ closed → length (bytes_of fs) ≤ longest_text → read_plant r (bytes_of fs) ≡ made m
unfolding read_plant
taken_text {fs} t c h =
    rw (lines_ended (map (spelled rows) fs) (all_plain t)) (let e : ltb longest_text (length (bytes_of fs)) ≡ false = omega flags in rw e (taken_read 1 t c))

-- ---- reading is taking

-- lines that are read make m of s, and no bytes are left after them
record Taken (r : Room) (s : State) (ls : List (List ℕ)) (tail : List ℕ) (m : State) : Type 0 where
  forms : List Form
  takes : Takes r s forms m
  spelt : ls ≡ map (spelled rows) forms
  whole : tail ≡ []
  closes : m.stage ≡ closed

closed_is : (s : Stage) → eqb (rank s) (rank closed) ≡ true → s ≡ closed
closed_is start e = absurd (true≢false (sym e))
closed_is devices e = absurd (true≢false (sym e))
closed_is terms e = absurd (true≢false (sym e))
closed_is postings e = absurd (true≢false (sym e))
closed_is closed e = refl

nothing_left : (l : List ℕ) → eqb (length l) 0 ≡ true → l ≡ []
nothing_left [] e = refl
nothing_left (x ∷ xs) e = let z = (eqb_yes (suc (length xs)) 0).0 e in absurd (omega flags)

-- a line of no kind of its own stands nowhere
stands_other : (s : Stage) (ds : List ℕ) → stands s ds other ≡ false
stands_other start ds = refl
stands_other devices ds = refl
stands_other terms ds = refl
stands_other postings ds = refl
stands_other closed ds = refl

read_taken : (r : Room) (s : State) (k : ℕ) (ls : List (List ℕ)) (tail : List ℕ) (m : State) →
    read_lines (line_of rows (step r)) (end_of (is closed) (step r)) s k ls tail ≡ made m → Taken r s ls tail m
unfolding read_lines
read_taken r s k [] tail m =
    split_cond (λ x. and_then x k made ≡ made m → Taken r s [] tail m) (is closed s && eqb (length tail) 0)
    (λ e h.
    let b = (and_yes (is closed s) (eqb (length tail) 0)).0 e in
    let z : s ≡ m = ap kept h in
    record { forms = []; takes = subst (Takes r s []) z none; spelt = refl; whole = nothing_left tail b.1; closes = rw (← z) (closed_is s.stage b.0) })
    (λ e h.
    let u = unless_made (line_refusal r s (plain unfinished)) (next s (plain unfinished)) k made m h in
    absurd (true≢false (passed r s (plain unfinished) u.0).finished))
read_taken r s k (l ∷ ls) tail m = λ h.
    let f = form rows l in
    let u = unless_made (line_refusal r s f) (next s f) k _ m h in
    let p = passed r s f u.0 in
    let w = reads_spelled l (λ o. true≢false (sym p.here ∙ rw o (stands_other s.stage s.opened))) in
    let t = read_taken r (next s f) (k + 1) ls tail m u.1 in
    record { forms = f ∷ t.forms; takes = more w.written u.0 t.takes; spelt = both w.is t.spelt; whole = t.whole; closes = t.closes }
  where
    both : {a b : List ℕ} {xs ys : List (List ℕ)} → a ≡ b → xs ≡ ys → a ∷ xs ≡ b ∷ ys
    both p q = cc

-- a text that is taken is the bytes of its forms
pub record TakenText (r : Room) (t : List ℕ) (m : State) : Type 0 where
  pub forms : List Form
  pub takes : Takes r nothing forms m
  pub is : t ≡ bytes_of forms
  pub short : length t ≤ longest_text
  pub closes : m.stage ≡ closed

pub text_taken : (r : Room) (t : List ℕ) (m : State) → read_plant r t ≡ made m → TakenText r t m
unfolding read_plant
text_taken r t m =
    split_cond (λ x. x ≡ made m → TakenText r t m) (ltb longest_text (length t)) (λ e h. not_made 20 0 m h)
    (λ e h.
    let u = read_taken r nothing 1 (lines t).whole (lines t).tail m h in
    record { forms = u.forms; takes = u.takes; is = sym (ended_lines t) ∙ joined u.spelt u.whole; short = omega (flags, e); closes = u.closes })
  where
    joined : {xs ys : List (List ℕ)} {l : List ℕ} → xs ≡ ys → l ≡ [] → ended xs ++ l ≡ ended ys
    joined {xs} {ys} {l} p q = rw (p, q) (append-nil (ended ys))
