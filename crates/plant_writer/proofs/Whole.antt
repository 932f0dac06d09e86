-- The whole text: what the check of tables gives the writer, and its answers.
use Prim.Native.Nat.{ℕ, zero, suc, ◌+◌, ◌≤◌}
use mathlib.Core.Path.{◌≡◌, refl, sym, ◌∙◌}
use mathlib.Core.Bool.{Bool, true, false}
use mathlib.Core.List.{List}
use native.Mathlib.Omega.{arith}
use lib.ListN.{length, get_or}
use Rattle.laws.specs.Limits.{most_devices}
use Rattle.laws.specs.Rows.{pick}
use Rattle.laws.proofs.Tests.{tests}
use Rattle.std.specs.Prelude.{Result, Ok, Err}
use Rattle.refusal.specs.declared.Refusal.{Refusal}
use Rattle.refusal.specs.Numbers.{number, numbered, given}
use Rattle.refusal.proofs.Numbers.{number_not_zero, gives, first_refuses}
use Rattle.laws.proofs.Rows.{otherwise_next}
use Rattle.laws.proofs.Search.{any_found, any_none}
use Rattle.plant.specs.Plant.{Plant, size}
use Rattle.plant.proofs.Forest as forests
use Rattle.index.specs.Index.{Index, count, tables_refusal, most_terms, most_postings}
use Rattle.index.proofs.Accepted.{accepted}
use Rattle.writing.specs.inner.Puts.{Puts}
use Rattle.written_text.specs.Text.{text_of}
use Rattle.written_text.specs.Refusals.{too_many_tiers, too_long, write_refusal}
use Rattle.written_text.specs.inner.Nested.{Nested, deep as deep-at, Tiered}
use Rattle.written_text.specs.RoundTrip.{RoundTrips}
use Rattle.written_text.proofs.RoundTrip.{writes_back, round_trips}
use Rattle.written_text.proofs.Stretches.{nested_all, depth_none}
use Rattle.plant_writer.specs.inner.Deep.{Deep}
use Rattle.plant_writer.specs.inner.Lengths.{whole_length}
use Rattle.plant_writer.specs.Write.{outcome_of, text_after, written_number, written_length, length_of}
use Rattle.plant_writer.proofs.TextLength.{text_length}

-- ---- what the check of tables gives

pub record Checked (P : Plant) (I : Index) : Type 0 where
  pub nested : Nested P.last 0 (size P)
  pub levels : length P.level ≡ size P
  pub few_devices : length P.level ≤ most_devices
  pub few_terms : count I ≤ most_terms
  pub few_postings : length I.postings ≤ most_postings
  pub long : length (text_of P I) ≡ whole_length P.level I.terms I.postings

pub checked : (P : Plant) (I : Index) → tables_refusal P I ≡ 0 → Checked P I
checked P I h =
    let a = accepted P I h in
    let s = forests.accepted P a.tables in
    let n = nested_all P s in
    record {
      nested = n;
      levels = s.levels;
      few_devices = omega (arith, s.levels, s.few);
      few_terms = a.few_terms;
      few_postings = a.few_postings;
      long = text_length P I h;
    }

-- ---- the answers

pub told_refused : (refused count : ℕ) → (refused ≡ 0 → ⊥) → Err (numbered refused) ≡ given refused count
told_refused zero count h = absurd (h refl)
told_refused (suc x) count h = refl

pub told_made : (refused count : ℕ) → refused ≡ 0 → Ok count ≡ given refused count
told_made refused count e = rw e

-- what the contract says of an outcome r and the buffer out' that is left
pub record Leaves (P : Plant) (I : Index) (out : List ℕ) (r : Result ℕ Refusal) (out' : List ℕ) : Type 0 where
  pub outcome : r ≡ outcome_of P I (length out)
  pub text : out' ≡ text_after P I out
  pub number : written_number r ≡ write_refusal P I (length out)
  pub long : written_length r ≡ length_of P I (length out)
  pub trips : RoundTrips P I (length out)

module _ (P : Plant) (I : Index) (out : List ℕ) where
  refuses : (e : Refusal) (x : ℕ) → write_refusal P I (length out) ≡ x → number e ≡ x → Leaves P I out (Err e) out
  refuses e zero w h = absurd (number_not_zero e h)
  refuses e (suc x) w h = record {
    outcome = gives (write_refusal P I (length out)) (Err e) (h ∙ sym w) (λ z. absurd (number_not_zero e (h ∙ sym w ∙ z)));
    text = rw w;
    number = h ∙ sym w;
    long = rw w;
    trips = record { reads_back = λ z. absurd (number_not_zero e (h ∙ sym w ∙ z)); writes_back = writes_back P I (length out) };
  }

  -- rows 1 to 9
  pub refused_first : (e : Refusal) → number e ≡ tables_refusal P I → Leaves P I out (Err e) out
  unfolding write_refusal
  refused_first e h = refuses e (number e) (sym (first_refuses e _ h)) refl

  -- past them: whether a device has too many tiers is known
  module _ (h : tables_refusal P I ≡ 0) {deep : Bool} (D : Deep P.last 0 (size P) deep) where
    tiers_known : deep ≡ too_many_tiers P.last
    tiers_known = known deep D
      where
        known : (b : Bool) → Deep P.last 0 (size P) b → b ≡ too_many_tiers P.last
        known true D = let x = D.found refl in any_found (deep-at P.last) x.0 (x.1, x.2) x.3
        known false D = any_none (deep-at P.last) (D.none refl)

    late_is : write_refusal P I (length out) ≡ pick deep 36 (pick (too_long (length out) (length (text_of P I))) 40 0)
    unfolding write_refusal
    late_is = otherwise_next (tables_refusal P I) _ h ∙ rw (← tiers_known)

    pub refused_deep : deep ≡ true → Leaves P I out (Err Refusal.TooManyTiers) out
    refused_deep e = refuses Refusal.TooManyTiers 36 (late_is ∙ rw e) refl

    module _ (e : deep ≡ false) where
      -- no device has more than 32 tiers
      pub tiered : Tiered P.last 0 (size P) 0
      tiered = record { known = depth_none P.last (size P); few = omega arith; none = D.none e }

      -- and whether the text, of n bytes, is too long
      module _ {long : Bool} {n : ℕ} (l : n ≡ length (text_of P I)) (f : long ≡ too_long (length out) n) where
        pub refused_long : long ≡ true → Leaves P I out (Err Refusal.TextTooLong) out
        refused_long t = refuses Refusal.TextTooLong 40 (late_is ∙ rw (e, ← l, ← f, t)) refl

        pub made : {out' : List ℕ} {count : ℕ} → long ≡ false → ((i : ℕ) → get_or P.level i 0 ≤ 255) → Puts out 0 (text_of P I) out' count → Leaves P I out (Ok count) out'
        made {count = count} t coded p =
            let w : write_refusal P I (length out) ≡ 0 = late_is ∙ rw (e, ← l, ← f, t) in
            let b = simp tests at (sym f ∙ t) in
            let room : 0 + length (text_of P I) ≤ length out = omega arith in
            let y : 0 + length (text_of P I) ≡ length (text_of P I) = omega arith in
            let m : count ≡ length (text_of P I) = p.moved room ∙ y in
            record { outcome = rw (w, m); text = rw w (p.stored room ∙ rw y); number = sym w; long = rw (w, m); trips = round_trips P I (length out) coded }

-- the clauses of the contract, one by one
pub promised : {P : Plant} {I : Index} {out out' : List ℕ} {r : Result ℕ Refusal} {T : Type 0} → Leaves P I out r out' → T →
    (r ≡ outcome_of P I (length out)) × ((out' ≡ text_after P I out) × ((written_number r ≡ write_refusal P I (length out)) × ((written_length r ≡ length_of P I (length out)) × T)))
promised l t = (l.outcome, (l.text, (l.number, (l.long, t))))
