-- Updates and puts with their numbers.
use Rattle.std.specs.Prelude.{◌≡◌, ◌⊎◌, ◌<◌, ℕ, suc, [], ◌∷◌, length}
use Rattle.model_strands.specs.History.{History}
use Rattle.model_strands.specs.SerialOrder.{IsSeriallyBefore}
use Rattle.model_reducers.specs.Items.{update, put, Items}

-- an update or a put of a value by a strand, with its number among the items
pub data Entry : Type 0 where
  update_entry : (number strand value : ℕ) → Entry
  put_entry : (number strand value : ℕ) → Entry

abbrev pub entry_number : Entry → ℕ
entry_number (update_entry number strand value) = number
entry_number (put_entry number strand value) = number

abbrev pub strand_of : Entry → ℕ
strand_of (update_entry number strand value) = strand
strand_of (put_entry number strand value) = strand

abbrev pub entry_value : Entry → ℕ
entry_value (update_entry number strand value) = value
entry_value (put_entry number strand value) = value

-- the entry is one of the updates
abbrev pub HasUpdate : Items → Entry → Type 0
HasUpdate [] entry = ⊥
HasUpdate (update strand value ∷ items) entry = (entry ≡ update_entry (suc (length items)) strand value) ⊎ HasUpdate items entry
HasUpdate (_ ∷ items) entry = HasUpdate items entry

-- the entry is one of the puts
abbrev pub HasPut : Items → Entry → Type 0
HasPut [] entry = ⊥
HasPut (put strand value ∷ items) entry = (entry ≡ put_entry (suc (length items)) strand value) ⊎ HasPut items entry
HasPut (_ ∷ items) entry = HasPut items entry

-- the serial order of entries: that of their strands, and within one strand that of their numbers
abbrev pub AreInSerialOrder : History → Entry → Entry → Type 0
AreInSerialOrder history entry later =
    IsSeriallyBefore history (strand_of entry) (strand_of later)
    ⊎ ((strand_of entry ≡ strand_of later) × (entry_number entry < entry_number later))
