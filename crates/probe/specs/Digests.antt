-- The digest of a room: two sums over its bytes.
-- Assumes nothing.
use Rattle.std.specs.Prelude.{List, [], ◌∷◌, ◌++◌, ℕ, ◌+◌, ◌*◌, ◌/◌, ◌%◌}
use Rattle.std.specs.List.{fold, flat_map}
use Rattle.probe.specs.declared.digest.Digest.{Digest}

-- one byte more
unfoldable pub stirred : Digest → ℕ → Digest
stirred d byte = record { x = (257 * d.x + byte + 1) % 4294967291; y = (65599 * d.y + byte + 1) % 4294967279 }

-- all bytes of a list, in order
abbrev pub digest_of : List ℕ → Digest
digest_of bytes = fold stirred (record { x = 0; y = 0 }) bytes

-- the bytes of a two-byte element, low byte first
abbrev pub half_bytes : ℕ → List ℕ
half_bytes half = half % 256 ∷ half / 256 ∷ []

-- the bytes of a four-byte element, low half first
abbrev pub word_bytes : ℕ → List ℕ
word_bytes word = half_bytes (word % 65536) ++ half_bytes (word / 65536)

-- the bytes of two-byte elements
abbrev pub bytes_of_halves : List ℕ → List ℕ
bytes_of_halves halves = flat_map half_bytes halves

-- and of four-byte elements
abbrev pub bytes_of_words : List ℕ → List ℕ
bytes_of_words words = flat_map word_bytes words
