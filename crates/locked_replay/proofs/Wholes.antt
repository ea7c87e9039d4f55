-- A clean finished run of a program is its serial elision, and speaks for every schedule.
use Rattle.std.proofs.Common.{ℕ, length, sym, subst}
use Rattle.std.proofs.lemmas.List.{length-map}
use Rattle.text_words.specs.Declarations.{cells_of}
use Rattle.text_words.specs.declared.value.Reducer.{Reducer}
use Rattle.model_histories.specs.Entries.{Entries}
use Rattle.model_histories.specs.Extensions.{IsClean}
use Rattle.program_text.specs.declared.program.Program.{Program}
use Rattle.model_bodies.specs.Sound.{IsSound}
use Rattle.program_text.specs.Shapes.{shape_in}
use Rattle.model_runs.specs.Runs.{IsFinishedRun}
use Rattle.law_elision.proofs.Elided.{elision_law}
use Rattle.law_elision.proofs.Meeting.{told_by_elision}
use Rattle.law_schedules.proofs.Schedules.{clean_law}
use Rattle.locked_replay.specs.Laws.{SpeaksForAll, WholeLaw}

pub whole_law : WholeLaw
whole_law functions shape sound clean run is_clean =
    let elided = elision_law functions shape sound clean run is_clean in
    record { elided = elided; told = told_by_elision functions shape clean elided; agree = clean_law functions shape sound clean run is_clean }

-- each program is sound
pub sound_in : {A : Type 0} (program : Program A) → IsSound (shape_in program).cells (length (shape_in program).monoids) program.functions
sound_in program =
    subst (λ (n : ℕ). IsSound (cells_of program.mems) n program.functions) (sym (length-map program.reducers (λ (reducer : Reducer). reducer.monoid))) program.sound

-- so it is with each finished run of a program in which nothing was refused
pub program_law : {A : Type 0} (program : Program A) (clean : Entries) → IsFinishedRun program.functions (shape_in program) clean → IsClean clean →
    SpeaksForAll program.functions (shape_in program) clean
program_law program clean run is_clean = whole_law program.functions (shape_in program) (sound_in program) clean run is_clean
