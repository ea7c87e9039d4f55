-- The runs of a program.
use Rattle.std.specs.Prelude.{◌≡◌, ℕ, List}
use Rattle.model_histories.specs.Entries.{Entries}
use Rattle.model_histories.specs.Shapes.{Shape}
use Rattle.model_races.specs.Judged.{IsJudged}
use Rattle.model_histories.specs.Extensions.{IsFinished}
use Rattle.model_bodies.specs.Codes.{Code}
use Rattle.model_bodies.specs.Sound.{IsMain}
use Rattle.model_programs.specs.Dialogue.{Part, DialogueOf}
use Rattle.model_runs.specs.Frames.{Targets, HasFrame, said_by}

-- The history is judged, and what each frame asked and was answered is a dialogue of its function, ended or not: the root frame is of
-- `main` with argument 0, and the others are of the functions that their spawns name.
pub record IsRunWith (functions : List Code) (shape : Shape) (main : ℕ) (targets : Targets) (entries : Entries) : Type 0 where
  pub judged : IsJudged shape entries
  pub root : targets 0 ≡ record { function = main; argument = 0 }
  pub says : (frame : ℕ) → HasFrame entries frame →
      DialogueOf functions (targets frame).function (targets frame).argument Part (said_by targets entries frame)

-- the history is a run of the program with these functions, one of which is `main`
pub record IsRun (functions : List Code) (shape : Shape) (entries : Entries) : Type 0 where
  pub main : ℕ
  pub is_main : IsMain functions main
  pub targets : Targets
  pub run : IsRunWith functions shape main targets entries

-- a run at whose end the root function returned
abbrev pub IsFinishedRun : List Code → Shape → Entries → Type 0
IsFinishedRun functions shape entries = IsRun functions shape entries × IsFinished entries
