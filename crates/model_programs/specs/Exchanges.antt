-- A request of a function, and its answer.
use Rattle.std.specs.Prelude.{ℕ, Option, Some, None}
use Rattle.model_accesses.specs.declared.request.Act.{Act}
use Rattle.model_histories.specs.declared.answer.Answer.{Answer}
use Rattle.model_programs.specs.declared.target.Target.{Target}

-- An act with its line, the function that it spawns, and the answer.
pub record Exchange : Type 0 where
  pub act : Act
  pub line : ℕ
  pub target : Option Target
  pub answer : Answer

-- An exchange that spawns no function.
abbrev pub exchange : Act → ℕ → Answer → Exchange
exchange act line answer = record { act = act; line = line; target = None; answer = answer }

-- An exchange that spawns a function with an argument.
abbrev pub spawning : (line function argument : ℕ) → Answer → Exchange
spawning line function argument answer = record {
  act = Act.Spawn;
  line = line;
  target = Some (record { function = function; argument = argument });
  answer = answer;
}
