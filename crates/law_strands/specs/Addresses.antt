-- The two orders of strands that their addresses give.
use Rattle.std.specs.Prelude.{ℕ, IsTrue}
use Rattle.model_strands.specs.Addresses.{address}
use Rattle.law_addresses.specs.Address.{english_before, hebrew_before}
use Rattle.model_strands.specs.History.{History}

-- the strand's address is before the other's in the English order
abbrev pub IsEnglishBefore : History → ℕ → ℕ → Type 0
IsEnglishBefore history strand other = IsTrue (english_before (address history strand) (address history other))

-- and in the Hebrew order
abbrev pub IsHebrewBefore : History → ℕ → ℕ → Type 0
IsHebrewBefore history strand other = IsTrue (hebrew_before (address history strand) (address history other))
