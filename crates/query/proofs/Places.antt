-- The copy of terms into eight places.
use Prim.Native.Nat.{ℕ, ◌-◌, min}
use mathlib.Core.Path.{◌≡◌, ◌∙◌}
use mathlib.Core.List.{List, ◌++◌}
use native.Mathlib.Omega.{arith}
use lib.ListN.{length, take, drop, replicate}
use Rattle.std.proofs.lemmas.List.{drop-replicate}
use Rattle.laws.proofs.Lists.{take_clamped}
use Rattle.query.specs.Query.{most_named, terms_of}

-- all places, where more are said to be used
pub places_used : (l : List ℕ) (n : ℕ) {m : ℕ} → length l ≡ most_named → m ≡ min n most_named → take m l ≡ take n l
places_used l n e k = rw (k, ← e) (take_clamped n l)

-- the terms that are kept, and zeros in the places left
pub copied : (l out : List ℕ) {kept : ℕ} → kept ≡ min (length l) most_named → out ≡ take kept l
    → record { places = out ++ drop {A = ℕ} kept (replicate most_named 0); count = length l } ≡ terms_of l
unfolding terms_of
copied l out {kept} e f =
    let m : kept ≡ min most_named (length l) = omega arith in
    let n : most_named - kept ≡ most_named - length l = omega arith in
    let front : out ≡ take most_named l = f ∙ rw m (take_clamped most_named l) in
    let rest : drop {A = ℕ} kept (replicate most_named 0) ≡ replicate (most_named - length l) 0 = rw n at (drop-replicate {X = ℕ} kept most_named 0) in
    rw (front, rest)
