-- Writing into a buffer: bytes from a place on, if all of them have room there.
use Rattle.std.specs.Prelude.{◌≡◌, ℕ, ◌+◌, Bool, cond, List, ◌++◌, length, take, drop, Some, None, Option, nat_le}
use Rattle.script.specs.declared.buffer.Writer.{Writer}

-- whether bytes have room from the place `at` on
abbrev pub has_room : (at : ℕ) (bytes out : List ℕ) → Bool
has_room at bytes out = nat_le (at + length bytes) (length out)

-- the place behind bytes that were written
abbrev pub end_of : (at : ℕ) (bytes out : List ℕ) → Option ℕ
end_of at bytes out = cond (has_room at bytes out) (Some (at + length bytes)) None

-- the buffer with the bytes in it: what stands before and behind them stays
abbrev pub laid : (at : ℕ) (bytes out : List ℕ) → List ℕ
laid at bytes out = take at out ++ (bytes ++ drop (at + length bytes) out)

-- the buffer after bytes were written: without room for all of them it stays as it was
abbrev pub written : (at : ℕ) (bytes out : List ℕ) → List ℕ
written at bytes out = cond (has_room at bytes out) (laid at bytes out) out

-- bytes that had room were written from `at` up to `end`: `out` is the buffer before, `out'` after
pub record Written (at : ℕ) (bytes out out' : List ℕ) (end : ℕ) : Type 0 where
  pub ends : end ≡ at + length bytes
  pub front : take end out' ≡ take at out ++ bytes
  pub behind : drop end out' ≡ drop end out

-- a writer wrote bytes from the place that it had reached, and has reached the place behind them in the same buffer
pub record Wrote (bytes : List ℕ) (before after : Writer) : Type 0 where
  pub wrote : Written before.at bytes before.out.now after.out.now after.at
  pub long : length after.out.now ≡ length before.out.now
  pub same : after.out.ghost_name ≡ before.out.ghost_name
