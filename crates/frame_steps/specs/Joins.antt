-- The open blocks of functions that have called one another.
use Rattle.std.specs.Prelude.{ℕ, List, [], ◌∷◌, Option, Some, None}
use Rattle.model_accesses.specs.declared.request.Act.{Act}
use Rattle.model_histories.specs.declared.answer.Answer.{Answer}
use Rattle.model_histories.specs.declared.answer.Answer.TheVariants.{Split, Same, Joined, Waits}
use Rattle.model_programs.specs.Exchanges.{Exchange}

-- The join of a function's open block after an answer to an act other than a call or a return.
abbrev pub join_after : Answer → Option ℕ → Option ℕ
join_after (Split strands) join = Some strands.join
join_after Same join = None
join_after (Joined other) join = None
join_after Waits join = None
join_after _ join = join

-- The joins of the open blocks, the topmost function's first: a call adds a function, and a return takes one away.
abbrev pub joins_step : Act → Answer → List (Option ℕ) → List (Option ℕ)
joins_step Act.Call answer joins = None ∷ joins
joins_step Act.Return answer [] = []
joins_step Act.Return answer (join ∷ joins) = joins
joins_step _ answer [] = []
joins_step _ answer (join ∷ joins) = join_after answer join ∷ joins

abbrev pub joins_after : List (Option ℕ) → List Exchange → List (Option ℕ)
joins_after joins [] = joins
joins_after joins (x ∷ said) = joins_after (joins_step x.act x.answer joins) said

abbrev pub topmost : List (Option ℕ) → Option ℕ
topmost [] = None
topmost (join ∷ joins) = join

-- The join of the last split since the last answered sync, in the topmost function.
abbrev pub open_join : List Exchange → Option ℕ
open_join history = topmost (joins_after (None ∷ []) history)
