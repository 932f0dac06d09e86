-- The lines of a listing, and how long lines and answers are.
use Prim.Native.Nat.{ℕ, suc, ◌+◌, ◌*◌, ◌^◌, ◌≤◌, ◌<◌}
use mathlib.Core.Path.{◌≡◌, refl, sym}
use mathlib.Core.List.{List, [], ◌∷◌, ◌++◌, append_assoc, append-nil}
use native.Mathlib.Omega.{arith}
use native.Mathlib.Numerals.{add-one}
use lib.ListN.{length, take, get_or, length-append}
use lib.Seq.{take-suc}
use Rattle.writing.specs.Writing.{Writes}
use Rattle.writing.specs.inner.Puts.{Puts}
use Rattle.writing.proofs.Digits.{numeral_short}
use Rattle.writing.proofs.Writing.{puts, puts_none, ◌then◌}
use Rattle.respond.specs.inner.Prints.{answer_bytes}
use Rattle.respond.specs.Lines.{word_answer, word_device, word_place, word_passed, word_moves, ending, numbered, numbered₂, device_lines, answer_text}

-- the bytes of a line whose number is below a power of ten, and of one with two numbers
pub numbered_short : (w : List ℕ) (k n : ℕ) → n < 10 ^ suc k → length (numbered w n) ≤ length w + suc k + 2
numbered_short w k n h = simp length-append (omega (arith, numeral_short k n h))

pub numbered₂_short : (w : List ℕ) (k n m : ℕ) → n < 10 ^ suc k → m < 10 ^ suc k → length (numbered₂ w n m) ≤ length w + 2 * suc k + 3
numbered₂_short w k n m h g = simp length-append (omega (arith, numeral_short k n h, numeral_short k m g))

device_lines_append : (a b : List ℕ) → device_lines (a ++ b) ≡ device_lines a ++ device_lines b
unfolding device_lines
device_lines_append [] b = refl
device_lines_append (d ∷ a) b = rw (device_lines_append a b) (sym (append_assoc (numbered word_device d) _ _))

device_line : (d : ℕ) → device_lines (d ∷ []) ≡ numbered word_device d
unfolding device_lines
device_line d = append-nil (numbered word_device d)

-- the lines of devices of five digits at most
devices_short : (listing : List ℕ) → ((i : ℕ) → get_or listing i 0 < 65536) → length (device_lines listing) ≤ 15 * length listing
unfolding device_lines
devices_short [] h = omega arith
devices_short (d ∷ ds) h =
    let f = numbered_short word_device 4 d (omega (arith, h 0)) in
    let g = devices_short ds (λ i. h (suc i)) in
    rw (length-append (numbered word_device d)) (omega arith)

-- a loop that writes a listing has written its first i devices
pub record DevicesPut (l : List ℕ) (at : ℕ) (listing l' : List ℕ) (next i : ℕ) : Type 0 where
  pub within : i ≤ length listing
  pub put : Puts l at (device_lines (take i listing)) l' next

module _ {l : List ℕ} {at : ℕ} {listing : List ℕ} where
  pub devices_none : DevicesPut l at listing l at 0
  unfolding device_lines
  devices_none = record { within = omega arith; put = puts_none }

  module _ {l' : List ℕ} {next i : ℕ} (p : DevicesPut l at listing l' next i) where
    pub devices_more : {l'' : List ℕ} {after : ℕ} → i < length listing → Puts l' next (numbered word_device (get_or listing i 0)) l'' after →
        DevicesPut l at listing l'' after (i + 1)
    devices_more h q = record {
      within = omega arith;
      put = rw (add-one, take-suc listing i 0, device_lines_append, device_line) (p.put then q);
    }

-- the parts of an answer, one after another, and how long it is with numbers of ten digits
module _ (listing : List ℕ) (position passed moves : ℕ) where
  pub answer_put : {l l₁ l₂ l₃ l₄ l₅ l₆ : List ℕ} {i₁ i₂ i₃ i₄ i₅ count : ℕ} → Writes l 0 word_answer l₁ i₁ → Puts l₁ i₁ (device_lines listing) l₂ i₂ →
      Puts l₂ i₂ (numbered word_place position) l₃ i₃ → Puts l₃ i₃ (numbered word_passed passed) l₄ i₄ → Puts l₄ i₄ (numbered word_moves moves) l₅ i₅ →
      Writes l₅ i₅ ending l₆ count → Puts l 0 (answer_text listing position passed moves) l₆ (i₅ + count)
  unfolding answer_text
  answer_put {i₁} a b c d e f = let z : 0 + i₁ ≡ i₁ = omega arith in (rw z at (puts a)) then b then c then d then e then puts f

  pub answer_short : ((i : ℕ) → get_or listing i 0 < 65536) → position < 10 ^ 10 → passed < 10 ^ 10 → moves < 10 ^ 10 →
      length (answer_text listing position passed moves) ≤ answer_bytes (length listing)
  unfolding answer_text
  answer_short h p j m =
      simp length-append (omega (arith, devices_short listing h, numeral_short 9 position p, numeral_short 9 passed j, numeral_short 9 moves m))
