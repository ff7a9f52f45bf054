-- Names of nodes: 1 to 32 bytes, each a letter, a digit, `_` or `-`.
use Rattle.std.specs.Prelude.{◌≡◌, ◌==◌, nat_le, ℕ, ◌≤◌, List, length, Bool, ◌&&◌, ◌||◌, IsTrue, Option, None, Some, All}
use Rattle.bp_base.specs.Limits.{most_name}

abbrev pub is_name_byte : ℕ → Bool
is_name_byte b =
    (nat_le 97 b && nat_le b 122) || (nat_le 65 b && nat_le b 90) || (nat_le 48 b && nat_le b 57) || (b == 95) || (b == 45)

pub record IsName (bytes : List ℕ) : Type 0 where
  pub some : 1 ≤ length bytes
  pub short : length bytes ≤ most_name
  pub spelled : All (λ b. IsTrue (is_name_byte b)) bytes

-- A name is answered exactly where the bytes are one, and it is these bytes.
abbrev pub NamesExactly : List ℕ → Option (List ℕ) → Type 0
NamesExactly bytes None = IsName bytes → ⊥
NamesExactly bytes (Some name) = IsName bytes × (name ≡ bytes)
