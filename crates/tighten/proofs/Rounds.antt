-- Going through the lists of an index, to tighten them.
use Prim.Native.Nat.{ℕ, ◌+◌, ◌<◌}
use mathlib.Core.Path.{◌≡◌}
use mathlib.Core.List.{List}
use native.Mathlib.Omega.{arith}
use lib.ListN.{length, get_or, set}
use lib.Seq.{slice}
use Rattle.index.specs.Index.{Index, count, list}
use Rattle.index.specs.inner.Laying.{ListPut}
use Rattle.index.proofs.Laying.{Laying, lay_bounds, lay_list, lay_turn}
use Rattle.tighten.specs.Tight.{tight}
use Rattle.tighten.specs.inner.Branches.{carried, tight_of, SoundLists}
use Rattle.plant.specs.inner.Forest.{Forest}
use Rattle.tighten.specs.inner.List.{Apart, Bounds}
use Rattle.tighten.proofs.Apart.{sound_apart}
use Rattle.tighten.proofs.Theorems.{no_longer}

module _ {last : List ℕ} {I : Index} {starts p : List ℕ} {place start k : ℕ} (F : Forest last) (S : SoundLists last I)
    (t : Laying I (tight_of last I) starts p place start k) where
  -- the next list
  module _ {end : ℕ} (u : k < count I) (e : end ≡ get_or starts (k + 1) (length p)) where
    next_list : slice start end p ≡ list I (k + 1)
    next_list = lay_list S.outline (no_longer F I) t u e

    pub round_bounds : Bounds p start end place
    round_bounds = let b = lay_bounds S.outline (no_longer F I) t u e in record { lower = b.0; order = b.1; within = b.2 }

    pub round_apart : Apart last (slice start end p)
    round_apart = rw next_list (sound_apart (S.each (k + 1) (omega arith) (omega arith)))

    pub round_turn : {v place' : ℕ} {starts' p' : List ℕ} → v ≡ place → starts' ≡ set starts k v
        → ListPut p end place (tight last (carried last (slice start end p))) p' place' → Laying I (tight_of last I) starts' p' place' end (k + 1)
    round_turn a b c = lay_turn S.outline (no_longer F I) t u e a b (rw next_list at c)
