-- What the line of a run tells, and what it means where nothing was refused.
use Rattle.std.proofs.Common.{◌≡◌, ◌≤◌, ℕ, Bool, true, false, Some, List, length, reverse, codes, refl, sym, subst, ◌∙◌}
use Rattle.std.specs.Prelude.{◌↔◌}
use Rattle.std.proofs.lemmas.List.{length-map, length-reverse}
use Rattle.serde_json.specs.Data.{Data, string}
use Rattle.serde_json.specs.Find.{get}
use Rattle.text_words.specs.Declarations.{cells_of}
use Rattle.text_words.specs.Values.{Known}
use Rattle.model_histories.specs.declared.answer.Entry.{Entry}
use Rattle.model_races.specs.Memory.{IsMemory}
use Rattle.model_histories.specs.Extensions.{IsClean}
use Rattle.program_text.specs.declared.program.Program.{Program}
use Rattle.program_text.specs.Drafts.{Contents}
use Rattle.program_text.specs.Programs.{contents}
use Rattle.model_programs.specs.Elisions.{EvaluatesProgram}
use Rattle.model_runs.specs.Serial.{Numbered, effect_of, effects_of}
use Rattle.program_text.specs.Shapes.{shape_in}
use Rattle.model_runs.specs.Runs.{IsFinishedRun}
use Rattle.law_elision.proofs.Meeting.{one_memory}
use Rattle.locked_replay.specs.Laws.{SpeaksForAll}
use Rattle.locked_replay.proofs.Wholes.{program_law}
use Rattle.race_report.specs.Refusals.{refusals_told}
use Rattle.race_report.specs.ReportText.{is_clean, memory_told, report_with}
use Rattle.race_report.specs.Laws.{TellsSchedules}
use Rattle.race_report.proofs.CleanRuns.{clean_told}
use Rattle.tool_commands.specs.Outcomes.{refusal_status}
use Rattle.tool_commands.specs.Programs.{monoids_of}
use Rattle.tool_commands.specs.Programs.{shape_of_program}
use Rattle.tool_commands.specs.Runs.{run_line, TellsRun}
use Rattle.tool_commands.specs.Laws.{TellsEverySchedule, CleanReportLaw}
use Rattle.tool_commands.proofs.RunStatuses.{clean_status}

-- ---- the key `schedules`

tells_clean : (clean : Bool) (entries : ℕ) (memory : Data) (refusals : List Data) →
    get (codes "schedules") (report_with clean entries memory refusals) ≡ Some (string (codes "clean for every schedule")) → clean ≡ true
tells_clean true entries memory refusals tells = refl
tells_clean false entries memory refusals tells = absurd cc

clean_tells : (clean : Bool) (entries : ℕ) (memory : Data) (refusals : List Data) → clean ≡ true →
    get (codes "schedules") (report_with clean entries memory refusals) ≡ Some (string (codes "clean for every schedule"))
clean_tells true entries memory refusals is = refl
clean_tells false entries memory refusals is = absurd cc

-- the report has it exactly where nothing was refused
pub schedules_told : (known : Known) (entries : List Entry) (memory : List ℕ) → TellsSchedules known entries memory ↔ IsClean (reverse entries)
schedules_told known entries memory =
    let refusals = refusals_told known entries in (
      (λ tells. (clean_told known entries).0 (tells_clean (is_clean refusals) (length entries) (memory_told known.mems memory) refusals tells)),
      (λ clean. clean_tells (is_clean refusals) (length entries) (memory_told known.mems memory) refusals ((clean_told known entries).1 clean)),
    )

-- a finished run of a program is told by its line
unfoldable pub tells_run : {A : Type 0} (program : Program A) (limit : ℕ) (entries : List Entry) (memory line : List ℕ) (status : ℕ) →
    IsFinishedRun program.functions (shape_in program) (reverse entries) → length entries ≤ limit →
    IsMemory (shape_in program).cells (reverse entries) memory → line ≡ run_line (contents program) entries memory → status ≡ refusal_status entries →
    TellsRun (contents program) limit line status
tells_run program limit entries memory line status run within left line_is status_is = record {
  entries = entries;
  memory = memory;
  run = run;
  within = within;
  left = left;
  line_is = line_is;
  status_is = status_is;
  speaks = λ clean. program_law program (reverse entries) run clean;
  schedules = schedules_told (contents program).known entries memory;
}

-- ---- status 0

module _ (program : Contents) (limit : ℕ) (line : List ℕ) (status : ℕ) (t : TellsRun program limit line status) (clean : IsClean (reverse t.entries)) where
  speaks : SpeaksForAll program.functions (shape_of_program program) (reverse t.entries)
  speaks = t.speaks clean

  elision_memory : speaks.elided.memory ≡ t.memory
  elision_memory = one_memory (cells_of program.known.mems) (reverse t.entries) speaks.elided.memory t.memory speaks.elided.holds t.left

  every_schedule : TellsEverySchedule program line
  every_schedule = record {
    entries = t.entries;
    memory = t.memory;
    line_is = t.line_is;
    told = t.schedules.1 clean;
    main = speaks.elided.main;
    is_main = speaks.elided.is_main;
    effects = effects_of speaks.elided.listed;
    views = speaks.elided.views;
    evaluates = subst
        (λ memory. EvaluatesProgram program.functions (monoids_of program) (cells_of program.known.mems) speaks.elided.main (effects_of speaks.elided.listed)
        (record { memory = memory; views = speaks.elided.views }))
        elision_memory speaks.elided.evaluates;
    count = length-map speaks.elided.listed (λ (one : Numbered). effect_of one.entry) ∙ speaks.elided.count ∙ length-reverse t.entries;
    elides = λ held requests elides.
        (speaks.told.same held requests elides t.memory t.left, speaks.told.makes held requests elides ∙ length-reverse t.entries);
    clean = λ other run. (speaks.agree other run).is_clean;
    leaves = λ other run. record {
      len = t.left.len;
      each = λ cell below. t.left.each cell below ∙ sym ((speaks.agree other run.0).memory run.1 cell below);
    };
  }

pub clean_report_law : CleanReportLaw
clean_report_law program limit line status t is = every_schedule program limit line status t (clean_status t.entries (sym t.status_is ∙ is))
