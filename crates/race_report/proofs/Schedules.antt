-- What a report that tells of all schedules says of the program.
use Rattle.std.proofs.Common.{◌≡◌, ℕ, Bool, true, false, Some, List, length, reverse, map, codes, refl, sym, subst}
use Rattle.std.proofs.lemmas.List.{length-map}
use Rattle.serde_json.specs.Data.{Data, string}
use Rattle.serde_json.specs.Find.{get}
use Rattle.text_words.specs.Declarations.{cells_of}
use Rattle.text_words.specs.declared.value.Reducer.{Reducer}
use Rattle.model_bodies.specs.Sound.{IsSound}
use Rattle.model_runs.specs.Laws.{CleanLaw}
use Rattle.race_report.specs.Refusals.{refusals_told}
use Rattle.race_report.specs.ReportText.{is_clean, memory_told, report_with}
use Rattle.race_report.specs.Conditions.{shape_known}
use Rattle.race_report.specs.Laws.{SchedulesLaw}
use Rattle.race_report.proofs.CleanRuns.{clean_told}

-- only the report of a clean run tells of schedules
tells_clean : (clean : Bool) (entries : ℕ) (memory : Data) (refusals : List Data) →
    get (codes "schedules") (report_with clean entries memory refusals) ≡ Some (string (codes "clean for every schedule")) → clean ≡ true
tells_clean true entries memory refusals tells = refl
tells_clean false entries memory refusals tells = absurd cc

pub schedules_law : CleanLaw → SchedulesLaw
schedules_law clean_law functions known sound told memory run tells entries other =
    let refusals = refusals_told known told in
    let clean = tells_clean (is_clean refusals) (length told) (memory_told known.mems memory) refusals tells in
    let many : length known.reducers ≡ length (map (λ (reducer : Reducer). reducer.monoid) known.reducers) = sym (length-map known.reducers (λ (reducer : Reducer). reducer.monoid)) in
    clean_law functions (shape_known known) (subst (λ (n : ℕ). IsSound (cells_of known.mems) n functions) many sound) (reverse told) run ((clean_told known told).0 clean) entries other
