-- Big-endian numbers in bytes. A byte past the end counts 0.
use Rattle.std.specs.Prelude.{ℕ, ◌+◌, ◌*◌, List, slice_index}

-- the number of 16 bits that begins at a byte
unfoldable pub number_16 : List ℕ → ℕ → ℕ
number_16 bytes at = 256 * slice_index bytes at + slice_index bytes (at + 1)

-- the number of 32 bits that begins at a byte
unfoldable pub number_32 : List ℕ → ℕ → ℕ
number_32 bytes at = 65536 * number_16 bytes at + number_16 bytes (at + 2)
