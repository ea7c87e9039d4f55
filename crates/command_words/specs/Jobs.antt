-- What the words of a command line may ask for.
use Rattle.std.specs.Prelude.{◌<◌, ◌≤◌}
use Rattle.model_histories.specs.Shapes.{most_entries}
use Rattle.command_words.specs.declared.words.Job.{Job}
use Rattle.command_words.specs.declared.words.Job.TheVariants.{Judge, Elide, Run, Trace, Record, Explain, ExplainInput, ExplainTraces, Replay, Draw, Show}

-- the numbers of the job are in their ranges
abbrev pub IsInRange : Job → Type 0
IsInRange (Judge file limit) = limit ≤ most_entries
IsInRange (Elide file limit) = limit ≤ most_entries
IsInRange (Run file workers limit) = (0 < workers) × (workers ≤ 64) × (limit ≤ most_entries)
IsInRange (Trace file workers limit) = (0 < workers) × (workers ≤ 64) × (limit ≤ most_entries)
IsInRange (Record file workers limit trace) = (0 < workers) × (workers ≤ 64) × (limit ≤ most_entries)
IsInRange (Explain file workers is_serial limit color format is_all) = (0 < workers) × (workers ≤ 64) × (limit ≤ most_entries)
IsInRange (ExplainInput workers is_serial limit color format is_all) = (0 < workers) × (workers ≤ 64) × (limit ≤ most_entries)
IsInRange (ExplainTraces files color format is_all) = Unit {0}
IsInRange (Replay file trace) = Unit {0}
IsInRange (Draw file language) = Unit {0}
IsInRange (Show text) = Unit {0}
