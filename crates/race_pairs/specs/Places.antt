-- The cells or reducers on which a pair raced.
use Rattle.std.specs.Prelude.{◌≡◌, ◌≤◌, ℕ, true, false, List, length, eqb, Some}
use Rattle.std.specs.List.{AllZip, list_any}
use Rattle.model_histories.specs.declared.answer.Entry.{Entry}
use Rattle.race_pairs.specs.declared.race.PairKey.{PairKey}
use Rattle.race_pairs.specs.declared.refusal.Refusal.{Refusal}
use Rattle.race_pairs.specs.Refusals.{refusal_at}
use Rattle.race_pairs.specs.PairKeys.{HasKey}
use Rattle.race_pairs.specs.Firsts.{AreFirsts}

-- the entry with this number is a refusal of the pair with this key, on this cell or reducer
abbrev pub HasPlace : List Entry → PairKey → ℕ → ℕ → Type 0
HasPlace told key number place =
    (refusal : Refusal) × (refusal_at told number ≡ Some refusal) × HasKey told number key × (refusal.place ≡ place)

-- The cells or reducers of the refusals of the pair with this key among the entries up to a last number, each once, in the order of their first
-- refusals.
pub record ArePlacesUpTo (told : List Entry) (key : PairKey) (last : ℕ) (places : List ℕ) : Type 0 where
  pub numbers : List ℕ
  pub firsts : AreFirsts (HasPlace told key) last numbers
  pub each : AllZip (HasPlace told key) numbers places

-- those of all refusals of the pair
abbrev pub ArePlaces : List Entry → PairKey → List ℕ → Type 0
ArePlaces told key places = ArePlacesUpTo told key (length told) places

-- the places so far, and a set of them
pub record IsPlaced (told : List Entry) (key : PairKey) (last : ℕ) (places seen : List ℕ) : Type 0 where
  pub placed : ArePlacesUpTo told key last places
  pub has : (place : ℕ) → list_any (eqb place) seen ≡ true → (number : ℕ) × (number ≤ last) × HasPlace told key number place
  pub misses : (place : ℕ) → list_any (eqb place) seen ≡ false → (number : ℕ) → number ≤ last → HasPlace told key number place → ⊥
