-- What a report says of all runs of a program.
use Rattle.std.specs.Prelude.{◌≡◌, ℕ, Some, List, length, reverse, codes}
use Rattle.serde_json.specs.Data.{string}
use Rattle.serde_json.specs.Find.{get}
use Rattle.text_words.specs.Declarations.{cells_of}
use Rattle.text_words.specs.Values.{Known}
use Rattle.model_histories.specs.declared.answer.Entry.{Entry}
use Rattle.model_histories.specs.Entries.{Entries}
use Rattle.model_bodies.specs.Codes.{Code}
use Rattle.model_bodies.specs.Sound.{IsSound}
use Rattle.model_runs.specs.Runs.{IsRun, IsFinishedRun}
use Rattle.model_runs.specs.Laws.{Agrees}
use Rattle.race_report.specs.ReportText.{report_told}
use Rattle.race_report.specs.Conditions.{shape_known}

-- the report tells that the program is clean for every schedule
abbrev pub TellsSchedules : Known → List Entry → List ℕ → Type 0
TellsSchedules known entries memory =
    get (codes "schedules") (report_told known entries memory) ≡ Some (string (codes "clean for every schedule"))

-- Where the report of a finished run of a program tells that, every run of the program agrees with it: nothing is refused, and where it is
-- finished it leaves the same memory.
abbrev pub SchedulesLaw : Type 0
SchedulesLaw =
    (functions : List Code) (known : Known) →
    IsSound (cells_of known.mems) (length known.reducers) functions → (told : List Entry) (memory : List ℕ) →
    IsFinishedRun functions (shape_known known) (reverse told) → TellsSchedules known told memory →
    (entries : Entries) → IsRun functions (shape_known known) entries → Agrees (shape_known known) (reverse told) entries
