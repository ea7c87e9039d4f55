-- Longer histories, those that are finished, and those in which nothing was refused.
use Rattle.std.specs.Prelude.{◌≡◌, ◌++◌, [], ◌∷◌}
use Rattle.std.specs.List.{All}
use Rattle.model_histories.specs.declared.answer.Answer.{Answer}
use Rattle.model_histories.specs.declared.answer.Answer.TheVariants.{Finished, Refused, Unset}
use Rattle.model_histories.specs.Entries.{Entries}

-- the longer history begins with the other, and may be the same
abbrev pub ExtendsEntries : Entries → Entries → Type 0
ExtendsEntries longer entries = (later : Entries) × (later ++ entries ≡ longer)

-- the answer is that the root function returned
abbrev pub IsEnd : Answer → Type 0
IsEnd Finished = Unit {0}
IsEnd answer = ⊥

-- the last answer is that
abbrev pub IsFinished : Entries → Type 0
IsFinished [] = ⊥
IsFinished (entry ∷ entries) = IsEnd entry.answer

-- the answer is no refusal
abbrev pub IsCleanAnswer : Answer → Type 0
IsCleanAnswer (Refused rule witness) = ⊥
IsCleanAnswer Unset = ⊥
IsCleanAnswer answer = Unit {0}

-- no answer is a refusal
abbrev pub IsClean : Entries → Type 0
IsClean entries = All (λ entry. IsCleanAnswer entry.answer) entries
