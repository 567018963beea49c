-- Reads of a list of bytes, each total: past the end a byte is 0 and a part is empty. And a number as its bytes.
use Rattle.std.specs.Prelude.{ℕ, ◌+◌, ◌*◌, ◌/◌, ◌%◌, ◌<◌, ◌≡◌, List, [], ◌∷◌, ◌++◌, length, get_or, take, drop, leb}
use Rattle.planning.specs.Connectives.{pick}

-- what a read says of its result: the value, and a bound
pub record Reads (r value limit : ℕ) : Type 0 where
  pub is : r ≡ value
  pub small : r < limit

unfoldable pub byte : List ℕ → ℕ → ℕ
byte f at = get_or f at 0

-- a number of two bytes, and of four, low byte first
unfoldable pub le16 : List ℕ → ℕ → ℕ
le16 f at = byte f at + 256 * byte f (at + 1)

unfoldable pub le32 : List ℕ → ℕ → ℕ
le32 f at = le16 f at + 65536 * le16 f (at + 2)

-- the n bytes from at, or nothing where they run past the end
unfoldable pub part : List ℕ → ℕ → ℕ → List ℕ
part f at n = pick (leb (at + n) (length f)) (take n (drop at f)) []

-- a number in two bytes, and in four, low byte first
abbrev pub bytes16 : ℕ → List ℕ
bytes16 n = n % 256 ∷ n / 256 ∷ []

abbrev pub bytes32 : ℕ → List ℕ
bytes32 n = bytes16 (n % 65536) ++ bytes16 (n / 65536)
