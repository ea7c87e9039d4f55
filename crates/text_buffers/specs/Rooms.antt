-- Room in a text for the bytes that are added to it.
use Rattle.std.specs.Prelude.{ℕ, ◌+◌, ◌≤◌, Vec, vec_len, vec_capacity}

-- there is room for so many bytes more
abbrev pub HasRoom : {A : Type 0} → ℕ → Vec ℕ A → Type 0
HasRoom bytes text = vec_len text + bytes ≤ vec_capacity text

-- with this much room a number of 64 bits can be added
abbrev pub number_room : ℕ
number_room = 20
