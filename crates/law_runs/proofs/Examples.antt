-- The worked programs, runs and histories show what they are to show.
use Rattle.std.proofs.Common.{refl}
use Rattle.law_runs.specs.Examples.{ExamplesLaw}
use Rattle.law_runs.proofs.ExampleHistories.{wrote_judged, pair_not_clean, other_cell_judged, series_clean, never_synced_judged, chosen_judged}
use Rattle.law_runs.proofs.ExamplePrograms.{pair_means, series_means, choosing_means}
use Rattle.law_runs.proofs.ExampleRuns.{pair_run, series_run, series_elided, second_part_run}
use Rattle.law_runs.proofs.ExampleNoRuns.{other_cell_no_run, other_value_no_run, never_synced_no_run, first_part_no_run}

pub examples_law : ExamplesLaw
examples_law ok_there parameter_there named_there = record {
  declared = refl;
  pair_means = pair_means ok_there parameter_there named_there;
  pair_run = pair_run ok_there parameter_there named_there;
  pair_not_clean = pair_not_clean;
  series_means = series_means ok_there parameter_there named_there;
  series_run = series_run ok_there parameter_there named_there;
  series_clean = series_clean;
  series_elided = series_elided ok_there parameter_there named_there;
  series_done = refl;
  other_cell_judged = other_cell_judged;
  other_cell_no_run = other_cell_no_run ok_there parameter_there named_there;
  other_value_judged = wrote_judged 8 9;
  other_value_no_run = other_value_no_run ok_there parameter_there named_there;
  never_synced_judged = never_synced_judged;
  never_synced_no_run = never_synced_no_run ok_there parameter_there named_there;
  choosing_means = choosing_means ok_there parameter_there named_there;
  second_part_run = second_part_run ok_there parameter_there named_there;
  first_part_judged = chosen_judged 1 8;
  first_part_no_run = first_part_no_run ok_there parameter_there named_there;
}
