-- Worked histories, the newest item first, and reducers.
use Rattle.std.specs.Prelude.{ℕ, ◌+◌, ◌*◌, ◌%◌, ◌^◌, [], ◌∷◌, true, false, Option, Some, None}
use Rattle.model_strands.specs.History.{split, joined, waits, ended, ended_joined}
use Rattle.model_reducers.specs.Items.{control, update, put, Items}
use Rattle.model_reducers.specs.Views.{Reducer}

-- the right one where there is one
abbrev pub later_one : Option ℕ → Option ℕ → Option ℕ
later_one left None = left
later_one left (Some value) = Some value

abbrev pub last : Reducer (Option ℕ)
last = record { combine = later_one; identity = None; of_update = λ value. Some value; of_put = λ value. Some value }

-- the digits of a number to the base 31, with the power of the base that they shift earlier digits by, both modulo 2^64
abbrev pub appended : ℕ × ℕ → ℕ × ℕ → ℕ × ℕ
appended (left_power, left) (power, right) = ((left_power * power) % 2 ^ 64, (left * power + right) % 2 ^ 64)

abbrev pub digits : Reducer (ℕ × ℕ)
digits = record { combine = appended; identity = (1, 0); of_update = λ value. (31, value); of_put = λ value. (1, value) }

-- two children of one block update, and the second of them returns first
abbrev pub two_children : Items
two_children =
    control (joined 5 3) ∷ control (ended 1) ∷ control (ended 4) ∷ update 4 7 ∷ update 1 5 ∷ control (split 2 4 5 3 false) ∷
    control (split 0 1 2 3 true) ∷ put 0 1 ∷ []

-- the continuation updates before the child does
abbrev pub early_continuation : Items
early_continuation = control (joined 2 3) ∷ control (ended 1) ∷ update 1 1 ∷ update 2 2 ∷ control (split 0 1 2 3 true) ∷ put 0 0 ∷ []

-- and the sync waits for the child
abbrev pub waiting_sync : Items
waiting_sync = control (ended_joined 1 3) ∷ update 1 1 ∷ control (waits 2) ∷ update 2 2 ∷ control (split 0 1 2 3 true) ∷ put 0 0 ∷ []

-- an update before the last put
abbrev pub early_update : Items
early_update = put 0 4 ∷ update 0 9 ∷ put 0 1 ∷ []
