-- The common lines: what the code has found of their bytes decides their form.
use Prim.Native.Nat.{ℕ, ◌+◌, ◌*◌, ◌≤◌}
use mathlib.Core.Path.{◌≡◌, refl, sym, ap, ◌∙◌}
use mathlib.Core.Bool.{Bool, true, cond}
use mathlib.Core.List.{List, [], ◌∷◌, ◌++◌}
use native.Mathlib.Omega.{arith}
use lib.Dec.{eqb}
use lib.ListN.{length, get_or, drop}
use borrow.Author.Tests.{eqb-true}
use Rattle.laws.specs.Limits.{highest_term}
use Rattle.laws.proofs.Cases.{either}
use Rattle.text.specs.Lines.{begins, line_at}
use Rattle.text.specs.Decimal.{number_at}
use Rattle.text.specs.Patterns.{bytes, fit, fit_after}
use Rattle.text.specs.Forms.{plain, other, fitted, form}
use Rattle.text.specs.inner.Finding.{found_at}
use Rattle.text.specs.declared.Found.{Found}
use Rattle.text.specs.declared.NumberAt.{NumberAt}
use Rattle.text.proofs.Known.{literal, there_begins, line_word, known_fit, known_next, known_found, known_alone}
use Rattle.plant_text.specs.Form.{device_line, term_line, own_line, all_line, close_line, rows}
use Rattle.plant_text.specs.inner.Common.{Four, Bracketed}
use Rattle.plant_text.specs.declared.common.Start.{Start}

-- the form of a line, by the word that begins it: no other row fits
module _ (l : List ℕ) where
  pub form_dev : form rows (bytes "(dev " ++ l) ≡ fitted device_line (fit (bytes "(dev #") (bytes "(dev " ++ l)) (plain other)
  unfolding form bytes fit_after
  form_dev = refl

  pub form_mark : form rows (bytes "(mark " ++ l) ≡ fitted term_line (fit (bytes "(mark #") (bytes "(mark " ++ l)) (plain other)
  unfolding form bytes fit_after
  form_mark = refl

  pub form_own : form rows (bytes "(own " ++ l) ≡ fitted own_line (fit (bytes "(own #)") (bytes "(own " ++ l)) (plain other)
  unfolding form bytes fit_after
  form_own = refl

  pub form_all : form rows (bytes "(all " ++ l) ≡ fitted all_line (fit (bytes "(all #)") (bytes "(all " ++ l)) (plain other)
  unfolding form bytes fit_after
  form_all = refl

-- four bytes are known from their number
four_bytes : (x y z u a b c d : ℕ) → x ≤ 255 → y ≤ 255 → z ≤ 255 → u ≤ 255 → a ≤ 255 → b ≤ 255 → c ≤ 255 → d ≤ 255
    → x + 256 * y + 65536 * z + 16777216 * u ≡ a + 256 * b + 65536 * c + 16777216 * d → ((x ≡ a) × (y ≡ b)) × ((z ≡ c) × (u ≡ d))
four_bytes x y z u a b c d p q r s e f g h k =
    let u' : u ≡ d = omega arith in
    let z' : z ≡ c = omega arith in
    let y' : y ≡ b = omega arith in
    let x' : x ≡ a = omega arith in
    ((x', y'), (z', u'))

-- a word of a bracket and four bytes, and perhaps more
module _ (t : List ℕ) (at : ℕ) {w : ℕ} (p : get_or t at 0 ≡ 40) (l : at + 6 ≤ length t) (f : Four t (at + 1) w) where
  spelling : (a b c d : ℕ) (ws : List ℕ) → a ≤ 255 → b ≤ 255 → c ≤ 255 → d ≤ 255 → w ≡ a + 256 * b + 65536 * c + 16777216 * d
      → begins ws (drop (at + 5) t) ≡ true → begins (40 ∷ a ∷ b ∷ c ∷ d ∷ ws) (drop at t) ≡ true
  spelling a b c d ws la lb lc ld e h =
      let i : at + 1 + 2 ≡ at + 1 + 1 + 1 = omega arith in
      let j : at + 1 + 3 ≡ at + 1 + 2 + 1 = omega arith in
      let k : at + 5 ≡ at + 1 + 3 + 1 = omega arith in
      let z = four_bytes (get_or t (at + 1) 0) (get_or t (at + 1 + 1) 0) (get_or t (at + 1 + 2) 0) (get_or t (at + 1 + 3) 0) a b c d f.first f.second f.third f.fourth la lb lc ld (sym f.sum ∙ e) in
      let q₅ = there_begins t (at + 1 + 3) d ws (omega arith) z.1.1 (rw k at h) in
      let q₄ = there_begins t (at + 1 + 2) c (d ∷ ws) (omega arith) z.1.0 (rw j at q₅) in
      let q₃ = there_begins t (at + 1 + 1) b (c ∷ d ∷ ws) (omega arith) z.0.1 (rw i at q₄) in
      let q₂ = there_begins t (at + 1) a (b ∷ c ∷ d ∷ ws) (omega arith) z.0.0 q₃ in
      there_begins t at 40 (a ∷ b ∷ c ∷ d ∷ ws) (omega arith) p q₂

module _ (t : List ℕ) (at : ℕ) where
  -- a word, a number and an ending
  common_is : (kind : ℕ) (word ending : List ℕ) → literal word ≡ true → literal ending ≡ true
      → ((l : List ℕ) → form rows (word ++ l) ≡ fitted kind (fit (word ++ (35 ∷ ending)) (word ++ l)) (plain other))
      → at + length word ≤ length t → begins word (drop at t) ≡ true → {r : NumberAt} → r ≡ number_at highest_term t (at + length word) → (r.end ≡ at + length word → ⊥)
      → begins (ending ++ (10 ∷ [])) (drop r.end t) ≡ true
      → {x : Found} → x ≡ record { form = record { kind = kind; before = 0; number = r.value }; next = r.end + length ending + 1 } → x ≡ found_at highest_term rows t at
  common_is kind word ending lw le row room bw {r} e there be {x} q =
      let line = line_word word t at lw bw in
      let is : form rows (line_at t at) ≡ fitted kind (fit (word ++ (35 ∷ ending)) (line_at t at)) (plain other) =
      ap (form rows) line ∙ row (line_at t (at + length word)) ∙ ap (λ (l : List ℕ). fitted kind (fit (word ++ (35 ∷ ending)) l) (plain other)) (sym line) in
      let n = known_next highest_term t at word ending lw le room bw e there be in
      q
      ∙ known_found highest_term rows t at kind r.value (r.end + length ending + 1) (fit (word ++ (35 ∷ ending)) (line_at t at)) (plain other) is
      (known_fit highest_term t at word ending lw le room bw e there be) n.0 n.1

-- a line that is found, by its start and its ending
module _ {t : List ℕ} {at skip : ℕ} {r : Start} (s : Bracketed t at skip r) where
  module _ (kind : ℕ) (a b c d : ℕ) (more ending : List ℕ) (literals : (literal (40 ∷ a ∷ b ∷ c ∷ d ∷ more) ≡ true) × (literal ending ≡ true))
      (low : (a ≤ 255) × (b ≤ 255) × (c ≤ 255) × (d ≤ 255))
      (row : (l : List ℕ) → form rows ((40 ∷ a ∷ b ∷ c ∷ d ∷ more) ++ l) ≡ fitted kind (fit ((40 ∷ a ∷ b ∷ c ∷ d ∷ more) ++ (35 ∷ ending)) ((40 ∷ a ∷ b ∷ c ∷ d ∷ more) ++ l)) (plain other)) where
    found_line : skip ≡ 5 + length more → skip ≤ 6 → r.word ≡ a + 256 * b + 65536 * c + 16777216 * d → begins more (drop (at + 5) t) ≡ true
        → begins (ending ++ (10 ∷ [])) (drop r.end t) ≡ true
        → {x : Found} → x ≡ record { form = record { kind = kind; before = 0; number = r.value }; next = r.end + length ending + 1 } → x ≡ found_at highest_term rows t at
    found_line z few w m be q =
        let word : List ℕ = 40 ∷ a ∷ b ∷ c ∷ d ∷ more in
        let y : at + skip ≡ at + length word = omega arith in
        common_is t at kind word ending literals.0 literals.1 row (omega (arith, s.room))
        (spelling t at s.bracket s.room s.word a b c d more low.0 low.1 low.2 low.3 w m)
        (rw y at s.number) (rw y at s.there) be q

-- each word, with its number
module _ {t : List ℕ} {at : ℕ} {r : Start} {b : Bool} where
  pub common_dev : {x : Found} → Bracketed t at 5 r → b ≡ begins (10 ∷ []) (drop r.end t) → b ≡ true → r.word ≡ 544630116
      → x ≡ record { form = record { kind = device_line; before = 0; number = r.value }; next = r.end + 1 } → x ≡ found_at highest_term rows t at
  unfolding literal begins bytes
  common_dev s g y w q =
      let z : r.end + 0 + 1 ≡ r.end + 1 = omega arith in
      found_line s device_line 100 101 118 32 [] [] (refl, refl) (omega arith, omega arith, omega arith, omega arith) form_dev (omega arith) (omega arith) w refl
      (sym g ∙ y) (q ∙ rw z)

  pub common_term : {x : Found} → Bracketed t at 6 r → b ≡ begins (10 ∷ []) (drop r.end t) → b ≡ true → r.word ≡ 1802658157 → get_or t (at + 5) 0 ≡ 32
      → x ≡ record { form = record { kind = term_line; before = 0; number = r.value }; next = r.end + 1 } → x ≡ found_at highest_term rows t at
  unfolding literal begins bytes
  common_term s g y w k q =
      let z : r.end + 0 + 1 ≡ r.end + 1 = omega arith in
      found_line s term_line 109 97 114 107 (32 ∷ []) [] (refl, refl) (omega arith, omega arith, omega arith, omega arith) form_mark (omega arith) (omega arith) w
      (there_begins t (at + 5) 32 [] (omega (arith, s.room)) k refl) (sym g ∙ y) (q ∙ rw z)

  module _ (s : Bracketed t at 5 r) (g : b ≡ begins (41 ∷ 10 ∷ []) (drop r.end t)) (y : b ≡ true) where
    common_own : {x : Found} → r.word ≡ 544110447 → x ≡ record { form = record { kind = own_line; before = 0; number = r.value }; next = r.end + 2 }
        → x ≡ found_at highest_term rows t at
    unfolding literal begins bytes
    common_own w q =
        let z : r.end + 1 + 1 ≡ r.end + 2 = omega arith in
        found_line s own_line 111 119 110 32 [] (41 ∷ []) (refl, refl) (omega arith, omega arith, omega arith, omega arith) form_own (omega arith) (omega arith) w refl
        (sym g ∙ y) (q ∙ rw z)

    common_all : {x : Found} → r.word ≡ 543976545 → x ≡ record { form = record { kind = all_line; before = 0; number = r.value }; next = r.end + 2 }
        → x ≡ found_at highest_term rows t at
    unfolding literal begins bytes
    common_all w q =
        let z : r.end + 1 + 1 ≡ r.end + 2 = omega arith in
        found_line s all_line 97 108 108 32 [] (41 ∷ []) (refl, refl) (omega arith, omega arith, omega arith, omega arith) form_all (omega arith) (omega arith) w refl
        (sym g ∙ y) (q ∙ rw z)

  -- of either kind
  pub common_posting : {k : ℕ} {x : Found} → Bracketed t at 5 r → b ≡ begins (41 ∷ 10 ∷ []) (drop r.end t) → b ≡ true
      → k ≡ cond (eqb r.word 543976545) all_line (cond (eqb r.word 544110447) own_line 0) → (k ≡ 0 → ⊥)
      → x ≡ record { form = record { kind = k; before = 0; number = r.value }; next = r.end + 2 } → x ≡ found_at highest_term rows t at
  common_posting {k} s g y e h q =
      either (eqb r.word 543976545)
      (λ p. let z : k ≡ all_line = e ∙ rw p in common_all s g y (eqb-true r.word 543976545 p) (q ∙ rw z))
      (λ p. either (eqb r.word 544110447)
      (λ o. let z : k ≡ own_line = e ∙ rw (p, o) in common_own s g y (eqb-true r.word 544110447 o) (q ∙ rw z))
      (λ o. absurd (h (e ∙ rw (p, o)))))

-- a closing bracket
pub closes : (t : List ℕ) (at : ℕ) {b : Bool} → b ≡ begins (41 ∷ 10 ∷ []) (drop at t) → b ≡ true → record { form = plain close_line; next = at + 2 } ≡ found_at highest_term rows t at
unfolding literal begins bytes form fit_after
closes t at g y =
    let z : at + 1 + 1 ≡ at + 2 = omega arith in
    rw (← z) (known_alone highest_term rows t at close_line (41 ∷ []) refl (sym g ∙ y) refl)
