-- The bytes before a byte, and the line at an index of a text.
use Prim.Native.Nat.{ℕ, suc, ◌+◌, ◌-◌, ◌<◌, ◌≤◌, min}
use mathlib.Core.Path.{◌≡◌, refl, sym, ap, ◌∙◌}
use mathlib.Core.Bool.{Bool, true, false, not, ◌&&◌, true≢false}
use mathlib.Core.List.{List, [], ◌∷◌}
use lib.Dec.{eqb}
use lib.ListN.{length, get_or, take, drop, length-take, length-drop, drop_of_length-le}
use lib.Seq.{take_all, drop-drop, drop-cons}
use native.Mathlib.Numerals.{add-one}
use native.Mathlib.Omega.{arith}
use borrow.Author.Tests.{lt-ltb, le-ltb, eq-eqb, ne_eqb, eqb-true, eqb-false}
use Rattle.std.specs.Prelude.{Some, None, nat_lt, position}
use Rattle.std.specs.List.{starts_with, position_or_len}
use Rattle.std.proofs.lemmas.List.Recursion.{is_position_or_len}
use Rattle.std.proofs.lemmas.Option.{cond_some, none-some}
use Rattle.laws.specs.Front.{until}
use Rattle.laws.proofs.Tests.{flags}
use Rattle.laws.proofs.Cases.{either, by_order, split_cond}
use Rattle.laws.proofs.Front.{until_within, until_here, until_next}
use Rattle.laws.proofs.Lists.{drop_clamped}
use Rattle.text.specs.Lines.{lines, begins, bytes_before, line_at, whole_at, next_at}

-- the first byte is b, or it is not
module _ (b x : ℕ) (xs : List ℕ) where
  pub before_found : eqb x b ≡ true → bytes_before b (x ∷ xs) ≡ 0
  unfolding until
  before_found e = rw (e, until)

  pub before_more : eqb x b ≡ false → bytes_before b (x ∷ xs) ≡ suc (bytes_before b xs)
  unfolding until
  before_more e = rw (e, until)

-- the index of the first byte b is how many stand before it
before_position : (b : ℕ) (s : List ℕ) → bytes_before b s ≡ position_or_len (λ x. eqb x b) s
unfolding until
before_position b =
    is_position_or_len (bytes_before b) (λ x. eqb x b) refl
    (λ x xs. either (eqb x b) (λ e. rw (e, before_found b x xs e)) (λ e. rw (e, before_more b x xs e) (omega arith)))

module _ (b : ℕ) (s : List ℕ) where
  position_found : {n : ℕ} → position (λ x. eqb x b) s ≡ Some n → (n ≡ bytes_before b s) × (n < length s)
  position_found e = let q = before_position b s in let c = cond_some _ _ _ e in (sym (q ∙ c.1), omega (flags, c.0, c.1))

  position_none : position (λ x. eqb x b) s ≡ None → length s ≤ bytes_before b s
  position_none e =
      let q = before_position b s in
      either (nat_lt (position_or_len (λ x. eqb x b) s) (length s)) (λ y. absurd (none-some _ (sym (rw y at e)))) (λ y. omega (flags, y))

pub before_within : (b : ℕ) (s : List ℕ) → bytes_before b s ≤ length s
before_within b = until_within (λ x. eqb x b)

pub drop_take : (n : ℕ) (s : List ℕ) → take (length s - n) (drop n s) ≡ drop n s
drop_take n s = take_all (length s - n) (drop n s) (omega (arith, length-drop n s))

pub length_line : (t : List ℕ) (at : ℕ) → length (line_at t at) ≡ bytes_before 10 (drop at t)
length_line t at = simp length-take (omega (arith, before_within 10 (drop at t)))

-- the first line of a text that goes on as s
first_line : (s : List ℕ) → bytes_before 10 s < length s
    → lines s ≡ record { whole = take (bytes_before 10 s) s ∷ (lines (drop (suc (bytes_before 10 s)) s)).whole; tail = (lines (drop (suc (bytes_before 10 s)) s)).tail }
unfolding lines
first_line [] h = absurd (omega arith)
first_line (b ∷ bs) h =
    either (eqb b 10) (λ e. rw (e, before_found 10 b bs e))
    (λ e. let n = before_more 10 b bs e in rw (e, n, first_line bs (omega arith)))

no_line : (s : List ℕ) → bytes_before 10 s ≡ length s → lines s ≡ record { whole = []; tail = s }
unfolding lines
no_line [] h = refl
no_line (b ∷ bs) h =
    either (eqb b 10) (λ e. absurd (omega (arith, before_found 10 b bs e)))
    (λ e. rw (e, no_line bs (omega (arith, before_more 10 b bs e))))

-- the line at an index, byte by byte
module _ (t : List ℕ) (at : ℕ) where
  pub line_none : length t ≤ at → line_at t at ≡ []
  unfolding until
  line_none h = rw (drop_of_length-le t {i = at} h)

  pub line_cons : at < length t → (get_or t at 0 ≡ 10 → ⊥) → line_at t at ≡ get_or t at 0 ∷ line_at t (at + 1)
  line_cons h e = rw (until_next (λ x. eqb x 10) t at h (ne_eqb (get_or t at 0) 10 e), drop-cons t at 0 h, add-one)

  pub line_nil : at < length t → get_or t at 0 ≡ 10 → line_at t at ≡ []
  line_nil h e = rw (until_here (λ x. eqb x 10) t at h (eq-eqb (get_or t at 0) 10 e))

eqb_sym : (a b : ℕ) → eqb a b ≡ eqb b a
eqb_sym a b = either (eqb b a) (λ e. rw e (eq-eqb a b (sym (eqb-true b a e)))) (λ e. rw e (ne_eqb a b (λ q. eqb-false b a e (sym q))))

-- whether it goes on with a byte, and whether it ends, as the code finds it
module _ (t : List ℕ) (at : ℕ) where
  pub byte_none : (b : ℕ) → length t ≤ at → false ≡ begins (b ∷ []) (line_at t at)
  unfolding begins
  byte_none b h = rw (line_none t at h)

  pub byte_feed : (b : ℕ) → at < length t → get_or t at 0 ≡ 10 → false ≡ begins (b ∷ []) (line_at t at)
  unfolding begins
  byte_feed b h e = rw (line_nil t at h e)

  pub byte_is : (b : ℕ) → at < length t → (get_or t at 0 ≡ 10 → ⊥) → eqb b (get_or t at 0) ≡ begins (b ∷ []) (line_at t at)
  unfolding begins
  byte_is b h e = rw (line_cons t at h e) (either (eqb b (get_or t at 0)) (λ q. rw q) (λ q. rw q))

  -- by the byte c that the code reads there
  module _ (b : ℕ) {c : ℕ} (h : at < length t) (k : c ≡ get_or t at 0) where
    pub byte_same : (c ≡ 10 → ⊥) → eqb c b ≡ begins (b ∷ []) (line_at t at)
    byte_same e = eqb_sym c b ∙ ap (eqb b) k ∙ byte_is b h (λ q. e (k ∙ q))

    pub byte_ends : c ≡ 10 → not (eqb c 10) ≡ begins (b ∷ []) (line_at t at)
    byte_ends e = rw e (byte_feed b h (sym k ∙ e))

  pub byte_there : (b : ℕ) → begins (b ∷ []) (line_at t at) ≡ true → (at < length t) × (line_at t at ≡ b ∷ line_at t (at + 1))
  unfolding begins
  byte_there b e =
      by_order at (length t)
      (λ h. either (eqb (get_or t at 0) 10)
      (λ q. absurd (true≢false (sym e ∙ sym (byte_feed b h (eqb-true (get_or t at 0) 10 q)))))
      (λ q. let l = line_cons t at h (eqb-false (get_or t at 0) 10 q) in
      let z : b ≡ get_or t at 0 = eqb-true b (get_or t at 0) (byte_is b h (eqb-false (get_or t at 0) 10 q) ∙ e) in
      (h, l ∙ rw (← z))))
      (λ h. absurd (true≢false (sym e ∙ sym (byte_none b h))))

  pub end_is : at < length t → eqb (get_or t at 0) 10 ≡ eqb (length (line_at t at)) 0
  end_is h =
      either (eqb (get_or t at 0) 10) (λ q. rw (q, line_nil t at h (eqb-true (get_or t at 0) 10 q)))
      (λ q. rw (q, line_cons t at h (eqb-false (get_or t at 0) 10 q), ne_eqb (suc (length (line_at t (at + 1)))) 0 (omega arith)))

-- a word at the front of a list, and from an index on, as the code finds it
begins_is : (w s : List ℕ) → starts_with eqb s w ≡ begins w s
unfolding begins
begins_is [] s = refl
begins_is (w ∷ ws) [] = refl
begins_is (w ∷ ws) (b ∷ bs) = ap (λ x. eqb w b && x) (begins_is ws bs)

pub begins_from : (w t : List ℕ) (at : ℕ) {from : ℕ} {b : Bool} → from ≡ min at (length t) → b ≡ starts_with eqb (take (length t - from) (drop from t)) w → b ≡ begins w (drop at t)
begins_from w t at {from} e q = let d : drop from t ≡ drop at t = rw (e, drop_clamped at t) in q ∙ begins_is w _ ∙ rw (drop_take from t, d)

-- where the next line begins
module _ (t : List ℕ) (at : ℕ) where
  pub next_within : next_at t at ≤ length t
  next_within = split_cond (λ n. n ≤ length t) (whole_at t at) (λ e. omega flags) (λ e. omega arith)

  pub next_onward : whole_at t at ≡ true → at < next_at t at
  next_onward e = rw e (omega arith)

  pub next_from : at ≤ length t → at ≤ next_at t at
  next_from h = split_cond (λ n. at ≤ n) (whole_at t at) (λ e. omega arith) (λ e. h)

  -- the first line feed from `from` on, as the code finds it
  module _ {from : ℕ} (e : from ≡ min at (length t)) where
    here : take (length t - from) (drop from t) ≡ drop at t
    here = drop_take from t ∙ rw (e, drop_clamped at t)

    pub whole_there : {n : ℕ} → position (λ x. eqb x 10) (take (length t - from) (drop from t)) ≡ Some n → (whole_at t at ≡ true) × (from + n + 1 ≡ next_at t at)
    whole_there {n} q =
        let p = position_found 10 (drop at t) (rw here at q) in
        let l = length_line t at in
        let w : whole_at t at ≡ true = lt-ltb (at + length (line_at t at)) (length t) (omega (arith, p, length-drop at t)) in
        (w, rw w (omega (arith, p, length-drop at t)))

    pub tail_there : position (λ x. eqb x 10) (take (length t - from) (drop from t)) ≡ None → (whole_at t at ≡ false) × (length t ≡ next_at t at)
    tail_there q =
        let p = position_none 10 (drop at t) (rw here at q) in
        let l = length_line t at in
        let w : whole_at t at ≡ false = le-ltb (at + length (line_at t at)) (length t) (omega (arith, p, length-drop at t)) in
        (w, rw w)

-- the lines from an index on: the line there ends in a line feed, or the text does
module _ (t : List ℕ) (at : ℕ) where
  pub lines_whole : at + length (line_at t at) < length t
      → lines (drop at t) ≡ record {
        whole = line_at t at ∷ (lines (drop (at + length (line_at t at) + 1) t)).whole;
        tail = (lines (drop (at + length (line_at t at) + 1) t)).tail;
      }
  lines_whole h =
      let n = length_line t at in
      let d : drop (suc (bytes_before 10 (drop at t))) (drop at t) ≡ drop (at + length (line_at t at) + 1) t =
      let m : at + suc (bytes_before 10 (drop at t)) ≡ at + length (line_at t at) + 1 = omega arith in
      drop-drop (suc (bytes_before 10 (drop at t))) at t ∙ ap (λ (k : ℕ). drop k t) m in
      first_line (drop at t) (omega (arith, length-drop at t)) ∙ rw d

  pub lines_tail : length t ≤ at + length (line_at t at) → lines (drop at t) ≡ record { whole = []; tail = drop at t }
  lines_tail h = no_line (drop at t) (omega (arith, length-drop at t, length_line t at, before_within 10 (drop at t)))
