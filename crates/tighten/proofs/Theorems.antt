-- The theorems of tightening.
use Prim.Native.Nat.{ℕ, ◌≤◌}
use mathlib.Core.Path.{◌≡◌, refl, sym, ◌∙◌, ap, fun_ext}
use mathlib.Core.Bool.{Bool, ◌&&◌, not}
use mathlib.Core.List.{List}
use native.Mathlib.Omega.{arith}
use lib.ListN.{length}
use Rattle.laws.proofs.Search.{any_none}
use Rattle.plant.specs.Plant.{Plant, size}
use Rattle.plant.proofs.Forest as forests
use Rattle.plant.proofs.Forest.{forest}
use Rattle.index.specs.Index.{Index, count, list, list_of, misplaced_in, redundant_in, tables_refusal}
use Rattle.index.proofs.Unshared.{unshared_some}
use Rattle.index.proofs.Accepted.{Accepted, accepted, accepts, accepted_outline, accepted_list, accepted_list_of, sound_rising}
use Rattle.index.proofs.Begins.{last_begin}
use Rattle.index.proofs.Laid.{laid_list, laid_outline, laid_same, laid_list_of}
use Rattle.index.proofs.Laying.{NoLonger, first_shorter}
use Rattle.steps.specs.Matching.{Criteria, every, matches}
use Rattle.steps.specs.Promises.{ListsExactly}
use Rattle.steps.proofs.Matching.{matching_same}
use Rattle.steps.proofs.Promises.{lists_exactly}
use Rattle.tighten.specs.Tight.{tight}
use Rattle.tighten.specs.Tightened.{carriers, tight_in, tightened}
use Rattle.tighten.specs.Promises.{OnPlant, ended, Tightens}
use Rattle.tighten.specs.inner.Branches.{carried, tight_of, SoundLists}
use Rattle.plant.specs.inner.Forest.{Forest}
use Rattle.tighten.proofs.Carriers.{in_plant, same_carriers, tight_redundant, tight_placed}
use Rattle.tighten.proofs.Smallest.{smallest}

-- a device stands in an unshared list where a posting carries to it
pub carriers_are : (last l : List ℕ) → carriers last l ≡ carried last l
carriers_are last l = fun_ext (unshared_some last l)

pub tight_lists : (P : Plant) (I : Index) → tight_in P I ≡ tight_of P.last I
tight_lists P I = fun_ext (λ k. ap (tight P.last) (carriers_are P.last (list I k)))

-- no list has more postings than it had
pub no_longer : {last : List ℕ} → Forest last → (I : Index) → NoLonger I (tight_of last I)
no_longer {last} F I k a b = smallest F (carried last (list I k)) (list I k) (λ d u v. refl)

module _ (P : Plant) (I : Index) (free : tables_refusal P I ≡ 0) where
  F : Forest P.last
  F = forest P (accepted P I free).tables

  pub sound_lists : SoundLists P.last I
  sound_lists = record { outline = accepted_outline P I free; each = accepted_list P I free }

  room : length (tightened P I).postings ≤ length I.postings
  room =
      let o = accepted_outline P I free in
      let h = first_shorter I (tight_of P.last I) o (no_longer F I) (count I) (omega arith) in
      rw (tight_lists P I) (omega (arith, last_begin I o))

  -- ---- the k-th list
  module _ (k : ℕ) (a : 1 ≤ k) (b : k ≤ count I) where
    same : (d : ℕ) → carriers P.last (tight_in P I k) d ≡ carriers P.last (list I k) d
    same d =
        unshared_some P.last (tight_in P I k) d
        ∙ same_carriers F (carriers P.last (list I k)) (λ e p. in_plant F (list I k) (accepted_list P I free k a b).placed e (sym (unshared_some P.last (list I k) e) ∙ p)) d

    least : (l : List ℕ) → ((d : ℕ) → 1 ≤ d → d ≤ size P → carriers P.last l d ≡ carriers P.last (list I k) d) → length (tight_in P I k) ≤ length l
    least l h = smallest F (carriers P.last (list I k)) l (λ d u v. sym (unshared_some P.last l d) ∙ h d u v)

  -- ---- the index

  tight_accepted : Accepted P (tightened P I)
  tight_accepted =
      let h = accepted P I free in
      let p = laid_outline I.terms (tight_in P I) h.few_terms h.terms_rise (omega (arith, room, h.few_postings)) in
      record {
        tables = h.tables;
        even = p.even;
        few_terms = p.few_terms;
        few_postings = p.few_postings;
        terms_rise = p.terms_rise;
        starts_rise = p.starts_rise;
        none_stray = p.none_stray;
        devices_rise = sym (any_none (misplaced_in (size P) (tightened P I)) (λ k a b.
            rw (laid_list I.terms (tight_in P I) k a b) (tight_placed P.last (carriers P.last (list I k)))));
        none_redundant = sym (any_none (redundant_in P.last (tightened P I)) (λ k a b.
            rw (laid_list I.terms (tight_in P I) k a b) (tight_redundant F (carriers P.last (list I k)))));
      }

  tight_free : tables_refusal P (tightened P I) ≡ 0
  tight_free = accepts P (tightened P I) tight_accepted

  same_terms : (t d : ℕ) → carriers P.last (list_of (tightened P I) t) d ≡ carriers P.last (list_of I t) d
  same_terms = laid_list_of I (tight_in P I) (λ j i. (d : ℕ) → carriers P.last j d ≡ carriers P.last i d) same (λ d. refl)

  same_matches : (a : Criteria) (d : ℕ) → matches P.last (list_of (tightened P I)) a d ≡ matches P.last (list_of I) a d
  same_matches a d =
      ap (λ (c : ℕ → Bool). every c a.required && every (λ t. not (c t)) a.forbidden && a.ok d) (fun_ext (λ t. same_terms t d))

  -- the listing of a run along the lists of an index that is not refused
  exactly : (J : Index) → tables_refusal P J ≡ 0 → (a : Criteria) → OnPlant P a → (budget : ℕ)
      → ListsExactly P.last (list_of J) a (ended P J a budget).listed (ended P J a budget).position
  exactly J z a o =
      lists_exactly P (forests.accepted P (accepted P I free).tables) (list_of J) (λ t. sound_rising (accepted_list_of P J z t)) a o.from_first o.ordered o.to_last

  same_listings : (a : Criteria) → OnPlant P a → (new old : ℕ) → (ended P (tightened P I) a new).position ≡ (ended P I a old).position
      → (ended P (tightened P I) a new).listed ≡ (ended P I a old).listed
  same_listings a o new old e =
      (exactly (tightened P I) tight_free a o new).exact
      ∙ rw e (matching_same _ _ _ _ (λ d k l. same_matches a d))
      ∙ sym (exactly I free a o old).exact

  pub tightens : Tightens P I
  tightens = record {
    carried = same_terms;
    matching = same_matches;
    listings = same_listings;
    fewest = laid_list_of I (tight_in P I)
        (λ j i. (l : List ℕ) → ((d : ℕ) → 1 ≤ d → d ≤ size P → carriers P.last l d ≡ carriers P.last i d) → length j ≤ length l)
        least (λ l h. omega arith);
    room = room;
    again = laid_same I.terms (tight_in P (tightened P I)) (tight_in P I) (λ k a b.
        rw (laid_list I.terms (tight_in P I) k a b) (ap (tight P.last) (fun_ext (same k a b))));
    accepted = tight_free;
  }
