-- The turns of the reader: at each, what the whole text comes to is what the rest of it comes to.
use Prim.Native.Nat.{ℕ, ◌+◌, ◌-◌, ◌<◌, ◌≤◌}
use mathlib.Core.Path.{◌≡◌, refl, sym, ap, ◌∙◌}
use mathlib.Core.Bool.{Bool, true, false, ◌&&◌}
use mathlib.Core.List.{List}
use lib.Dec.{eqb}
use lib.ListN.{length, drop}
use native.Mathlib.Omega.{arith}
use borrow.Author.Tests.{lt-ltb, le-ltb}
use Rattle.laws.specs.Limits.{largest_number}
use Rattle.laws.specs.Rows.{pick}
use Rattle.text.specs.Forms.{unfinished, plain}
use Rattle.text.specs.inner.Finding.{form_at, found_at}
use Rattle.text.specs.Reading.{refused, made, no, unless, and_then, reading_forms}
use Rattle.text.specs.declared.Found.{Found}
use Rattle.text.proofs.Lines.{next_within, next_onward}
use Rattle.text.proofs.Forms.{whole_kind}
use Rattle.text.proofs.Reading.{stops, Refuses, reading_end, reading_at}
use Rattle.query.specs.Query.{empty}
use Rattle.query.specs.declared.Query.{Query}
use Rattle.std.specs.Prelude.{Result, Ok, Err}
use Rattle.std.specs.Result.{MatchResult, IsErrAnd}
use Rattle.std.proofs.lemmas.Result.{err_from_is_err_and}
use Rattle.refusal.specs.declared.Refusal.{Refusal}
use Rattle.refusal.specs.Numbers.{number, refused as refusal_of}
use Rattle.refusal.proofs.Numbers.{number_not_zero}
use Rattle.text.specs.declared.Refused.{Refused}
use Rattle.query_text.specs.Form.{rows}
use Rattle.query_text.specs.QueryText.{first_stage, closed, line_refusal, with_line, step, longest_text, QueryRead, told, told_of, read_query}
use Rattle.query_text.specs.declared.Draft.{Draft}
use Rattle.query_text.proofs.LineRows.{finished_line, step_capped}

-- what the text comes to from line k on, which begins at an index
abbrev rest : List ℕ → Draft → ℕ → ℕ → QueryRead
rest t d at k = told (reading_forms rows closed step d k (drop at t))

-- a draft d is made of the lines before line k, which begins at an index
pub record Reads (t : List ℕ) (d : Draft) (at k : ℕ) : Type 0 where
  pub short : length t ≤ longest_text
  pub within : at ≤ length t
  pub counted : k ≤ at + 1
  pub known : read_query t ≡ rest t d at k

pub too_long : (t : List ℕ) → longest_text < length t → told (no 30 0) ≡ read_query t
unfolding read_query
too_long t h = rw (lt-ltb longest_text (length t) h)

pub reads_begun : (t : List ℕ) {q : Query} → length t ≤ longest_text → q ≡ empty → Reads t (record { stage = first_stage; query = q }) 0 1
unfolding read_query
reads_begun t h e =
    record { short = h; within = omega arith; counted = omega arith; known = rw (le-ltb longest_text (length t) h, e) }

-- what a line's check gives, with the line's number put to its refusal
module _ {T : Type 0} (C : Refusal → Refused → Type 0) (k : ℕ) (s : Result T Refusal) (m : Result T Refused)
    (is : MatchResult s (λ x. m ≡ Ok x) (λ e. IsErrAnd m (C e))) where
  pub mapped_ok : {x : T} → m ≡ Ok x → refusal_of s ≡ 0
  mapped_ok {x} q = go s is
    where
      go : (s : Result T Refusal) → MatchResult s (λ x. m ≡ Ok x) (λ e. IsErrAnd m (C e)) → refusal_of s ≡ 0
      go (Ok y) i = refl
      go (Err e) i = let p = err_from_is_err_and m i in let z : Ok x ≡ Err p.0 = sym q ∙ p.1 in cc

  pub mapped_err : {w : Refused} → m ≡ Err w → ((e : Refusal) (w : Refused) → C e w → w ≡ record { line = k; refusal = e }) → (w.line ≡ k) × (number w.refusal ≡ refusal_of s)
  mapped_err {w} q f = go s is
    where
      go : (s : Result T Refusal) → MatchResult s (λ x. m ≡ Ok x) (λ e. IsErrAnd m (C e)) → (w.line ≡ k) × (number w.refusal ≡ refusal_of s)
      go (Ok y) i = let z : Ok y ≡ Err w = sym i ∙ q in absurd cc
      go (Err e) i =
          let p = err_from_is_err_and m i in
          let y : w ≡ p.0 = cc (sym q ∙ p.1) in
          let z : w ≡ record { line = k; refusal = e } = y ∙ f e p.0 p.2 in
          (ap (λ (w : Refused). w.line) z, ap (λ (w : Refused). number w.refusal) z)

-- an unfinished line is refused
unfinished_refused : (d : Draft) → step d (plain unfinished) ≡ refused (pick (closed d) 34 33)
unfolding line_refusal
unfinished_refused d = go (closed d)
  where
    go : (c : Bool) → unless (pick c 34 33) (with_line d (plain unfinished)) ≡ refused (pick c 34 33)
    go true = refl
    go false = refl

no_end : Refuses step
no_end = record { by = λ d. pick (closed d) 34 33; refuses = unfinished_refused }

module _ {t : List ℕ} {d : Draft} {at k : ℕ} (a : Reads t d at k) where
  module _ {b : Bool} (e : b ≡ (closed d && eqb (length t - at) 0)) where
    pub reads_finished : b ≡ true → told (made d) ≡ read_query t
    reads_finished p = sym (a.known ∙ ap told (reading_end rows closed step d k t at (sym e ∙ p)))

    module _ {r : Found} (p : b ≡ false) (q : r ≡ found_at largest_number rows t at) where
      reading_step : reading_forms rows closed step d k (drop at t) ≡ and_then (step d r.form) k (λ d'. reading_forms rows closed step d' (k + 1) (drop r.next t))
      reading_step = reading_at rows closed step d k t at no_end (sym e ∙ p) ∙ rw (q, step_capped d (form_at rows t at))

      pub reads_refused : (w : Refused) → number w.refusal ≡ line_refusal d r.form → w.line ≡ k → told_of (Err w) ≡ read_query t
      reads_refused w g l =
          rw l (sym (a.known ∙ rw (reading_step, ← g, stops (λ d'. reading_forms rows closed step d' (k + 1) (drop r.next t)) (number w.refusal) k (with_line d r.form) (number_not_zero w.refusal))))

      module _ {x : ℕ} (g : x ≡ line_refusal d r.form) (n : x ≡ 0) where
        onward : (at < r.next) × (r.next ≤ length t)
        onward =
            let w = whole_kind rows t at (λ z. finished_line d r.form (sym g ∙ n) (rw q z)) in
            (rw q (next_onward t at w), rw q (next_within t at))

        pub reads_less : length t - r.next < length t - at
        reads_less = let o = onward in omega arith

        pub reads_more : {d' : Draft} → d' ≡ with_line d r.form → Reads t d' r.next (k + 1)
        reads_more s =
            let o = onward in
            record {
              short = a.short;
              within = o.1;
              counted = omega (arith, a.counted, o.0);
              known = a.known ∙ rw (reading_step, ← g, n, s);
            }
