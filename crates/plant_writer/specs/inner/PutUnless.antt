-- Bytes that are written from the start of a buffer unless a row refuses them. Lemmas alone cite this (`put_refused`, `put_taken`).
use Rattle.std.specs.Prelude.{ℕ, ◌≡◌, List}
use Rattle.writing.specs.inner.Puts.{Puts}

-- where `refused` is 0 they are put there, and counted; where it is not, the buffer is as it was
pub record PutUnless (refused : ℕ) (out bytes out' : List ℕ) (count : ℕ) : Type 0 where
  pub put : refused ≡ 0 → Puts out 0 bytes out' count
  pub kept : (refused ≡ 0 → ⊥) → out' ≡ out
