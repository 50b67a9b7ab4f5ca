-- A room that holds one number so many times. Assumes nothing.
use mathlib.Core.Path.{◌≡◌, sym}
use Prim.Native.Nat.{ℕ}
use lib.ListN.{length, replicate, length-replicate}

-- It is as long as that. To count half a million of them takes more than the checker's stack.
pub room-length : (n a : ℕ) → n ≡ length (replicate n a)
room-length n a = sym (length-replicate n a)
