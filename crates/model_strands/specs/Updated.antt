-- A function changed at one number.
use Rattle.std.specs.Prelude.{ℕ, cond, eqb}

-- the value at the key, and elsewhere what the function was
unfoldable pub updated : {A : Type 0} → (ℕ → A) → ℕ → A → ℕ → A
updated function key value number = cond (eqb number key) value (function number)
