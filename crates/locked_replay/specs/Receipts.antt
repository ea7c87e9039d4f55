-- The receipts of entries.
use Rattle.std.specs.Prelude.{◌≡◌, ◌+◌, ◌-◌, ◌<◌, ℕ, Bool, true, false, List, [], ◌∷◌, ◌++◌, get_or, length}
use Rattle.std.specs.List.{AllAdjacentBelow}
use Rattle.std.specs.List.Sorted.{IsPermutation}
use Rattle.model_histories.specs.declared.answer.Entry.{Entry}
use Rattle.model_histories.specs.declared.reply.Receipt.{Receipt}

-- the receipt of the entry with this number
abbrev pub receipt_of : ℕ → Entry → Receipt
receipt_of number entry = record { number = number; request = entry.request; answer = entry.answer }

-- the receipts of the entries, of which the first has this number
abbrev pub numbered : ℕ → List Entry → List Receipt
numbered number [] = []
numbered number (entry ∷ entries) = receipt_of number entry ∷ numbered (number + 1) entries

-- each receipt has a lower number than the next
abbrev pub Rises : List Receipt → Type 0
Rises receipts = AllAdjacentBelow (λ one next. one.number < next.number) receipts (length receipts)

-- the receipt at this place has a greater number than the one before, if there is one
abbrev pub RisesAt : List Receipt → ℕ → Type 0
RisesAt receipts at = 0 < at → (d : Receipt) → (get_or receipts (at - 1) d).number < (get_or receipts at d).number

-- the items whose mark is set
abbrev pub marked : {X : Type 0} → List Bool → List X → List X
marked [] items = []
marked (mark ∷ marks) [] = []
marked (true ∷ marks) (item ∷ items) = item ∷ marked marks items
marked (false ∷ marks) (item ∷ items) = marked marks items

-- there is a mark for each entry, and the receipts are those of the marked entries, each once
abbrev pub AreMarked : List Bool → List Entry → List Receipt → Type 0
AreMarked marks entries receipts = (length marks ≡ length entries) × IsPermutation receipts (marked marks (numbered 1 entries))

-- whatever follows them, the receipts are not those of the entries, each once
abbrev pub AreAstray : List Entry → List Receipt → Type 0
AreAstray entries receipts = (more : List Receipt) → IsPermutation (receipts ++ more) (numbered 1 entries) → ⊥
