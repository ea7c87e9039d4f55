-- What a replay tells, and when it is so.
use Rattle.std.specs.Prelude.{ℕ, ◌≡◌, List, ◌++◌, length, reverse, codes, decimal, if◌then◌else◌}
use Rattle.std.specs.List.{list_any}
use Rattle.model_histories.specs.declared.answer.Entry.{Entry}
use Rattle.model_histories.specs.Shapes.{Shape}
use Rattle.model_bodies.specs.Codes.{Code}
use Rattle.model_runs.specs.Runs.{IsFinishedRun}
use Rattle.run_replay.specs.Replays.{IsUnfinishedRun, IsStrange}
use Rattle.verdict_lines.specs.VerdictText.{is_refused}
use Rattle.tool_commands.specs.declared.outcome.Outcome.{Outcome}
use Rattle.tool_commands.specs.declared.outcome.Outcome.TheVariants.{Replayed, Strange, Unfinished}

-- of the entries, the oldest first, as a run of these functions
abbrev pub IsSo : List Code → Shape → List Entry → Outcome → Type 0
IsSo functions shape entries (Replayed number) = IsFinishedRun functions shape (reverse entries) × (number ≡ length entries)
IsSo functions shape entries (Strange number) = IsStrange functions shape entries number
IsSo functions shape entries Unfinished = IsUnfinishedRun functions shape (reverse entries)

abbrev pub line_of_outcome : Outcome → List ℕ
line_of_outcome (Replayed number) = codes "replayed " ++ decimal number ++ codes "\n"
line_of_outcome (Strange number) = codes "strange " ++ decimal number ++ codes "\n"
line_of_outcome Unfinished = codes "unfinished\n"

-- 1 where an entry is refused or unset, else 0
abbrev pub refusal_status : List Entry → ℕ
refusal_status entries = if list_any (λ entry. is_refused entry.answer) entries then 1 else 0

-- 4 where the entries are no finished run, else as their refusals say
abbrev pub status_of : List Entry → Outcome → ℕ
status_of entries (Replayed number) = refusal_status entries
status_of entries outcome = 4
