-- What filling a buffer from a reader gives, by the bytes that the reader has left before and after, where those are known.
-- Assumes nothing.
use Rattle.std.specs.Prelude.{ℕ, ◌<◌, ◌≤◌, List, length, take, Option}
use Rattle.std.specs.Io.KnownBytes.{Consumes, IsAtEnd}

-- so many bytes at the front of the buffer are those that the reader lost, and it has none left where they are fewer than fit
pub record Filled (before after : Option (List ℕ)) (buffer : List ℕ) (size : ℕ) : Type 0 where
  pub within : size ≤ length buffer
  pub bytes : Consumes before after (take size buffer)
  pub ended : size < length buffer → IsAtEnd after
