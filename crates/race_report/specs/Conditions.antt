-- What must hold of a run for its report to be told. A judged history meets it.
use Rattle.std.specs.Prelude.{◌<◌, ◌≤◌, ℕ, List, length, map}
use Rattle.std.specs.List.{All}
use Rattle.model_accesses.specs.declared.request.Act.{Act}
use Rattle.model_accesses.specs.declared.request.Act.TheVariants.{Get}
use Rattle.text_words.specs.Declarations.{cells_of}
use Rattle.text_words.specs.Values.{Known}
use Rattle.model_histories.specs.declared.answer.Answer.{Answer}
use Rattle.model_histories.specs.declared.answer.Answer.TheVariants.{Refused, Unset}
use Rattle.model_histories.specs.declared.answer.Entry.{Entry}
use Rattle.model_histories.specs.Shapes.{Shape, IsInRange}
use Rattle.verdict_lines.specs.VerdictText.{HasWord}

-- what is declared, as the shape of a gate
abbrev pub shape_known : Known → Shape
shape_known known = record { cells = cells_of known.mems; monoids = map (λ reducer. reducer.monoid) known.reducers }

abbrev pub IsGet : Act → Type 0
IsGet (Get reducer) = Unit {0}
IsGet act = ⊥

-- only a get is unset
abbrev pub IsGetWhereUnset : Act → Answer → Type 0
IsGetWhereUnset act Unset = IsGet act
IsGetWhereUnset act answer = Unit {0}

-- the witness of a refusal is one of so many entries
abbrev pub HasWitness : ℕ → Answer → Type 0
HasWitness count (Refused rule witness) = (0 < witness.entry) × (witness.entry ≤ count)
HasWitness count answer = Unit {0}

-- the entry, one of so many, can be told
pub record IsTellable (shape : Shape) (count : ℕ) (entry : Entry) : Type 0 where
  -- its cell or reducer is there, since the history is legal
  pub in_range : IsInRange shape entry.request.act
  -- a refused access conflicts with its witness: the witness is true, and its rule is that of the two kinds
  pub word : HasWord entry.request.act entry.answer
  -- only a get is unset, since each answer belongs to its act
  pub unset : IsGetWhereUnset entry.request.act entry.answer
  -- the witness is an entry, since it is a granted access before this one
  pub witness : HasWitness count entry.answer

-- all of these entries can be told
abbrev pub AreTellable : Shape → List Entry → Type 0
AreTellable shape entries = All (IsTellable shape (length entries)) entries
