-- The numbers that words ask for are in their ranges.
use Rattle.std.proofs.Common.{◌<◌, ◌≤◌, ℕ, List, Option, Some, None, arith, inl, inr, codes}
use Rattle.clap.specs.Words.{Row, Text, first_of, subcommand_of}
use Rattle.clap.specs.declared.error.kind.ErrorKind.{ErrorKind}
use Rattle.clap.specs.declared.error.kind.ErrorKind.TheVariants.{DisplayHelp, DisplayVersion}
use Rattle.command_words.specs.declared.words.Job.{Job}
use Rattle.command_words.specs.declared.words.Job.TheVariants.{Judge, Elide, Run, Trace, Record, Explain, ExplainInput, ExplainTraces, Replay, Draw, Show}
use Rattle.command_words.specs.Asked.{IsAsked, IsAskedBy, IsJobOf, IsNumber, IsShown, IsWorkers, IsLimit}
use Rattle.command_words.specs.Commands.{cilkcheck}
use Rattle.command_words.specs.Jobs.{IsInRange}
use Rattle.model_histories.specs.Shapes.{most_entries}

number_in : (least most default number : ℕ) (given : Option Text) → least ≤ default → default ≤ most → IsNumber least most default given number →
    (least ≤ number) × (number ≤ most)
number_in least most default number None low high is = (omega (arith, is, low), omega (arith, is, high))
number_in least most default number (Some text) low high is = (is.1, is.2)

workers_in : (rows : List Row) (workers : ℕ) → IsWorkers rows workers → (0 < workers) × (workers ≤ 64)
workers_in rows workers is =
    let both = number_in 1 64 2 workers (first_of (codes "workers") rows) (omega arith) (omega arith) is in
    (omega (arith, both.0), both.1)

limit_in : (rows : List Row) (limit : ℕ) → IsLimit rows limit → limit ≤ most_entries
limit_in rows limit is = (number_in 0 most_entries most_entries limit (first_of (codes "limit") rows) (omega arith) (omega arith) is).1

asked_in : (command : Text) (rows : List Row) (job : Job) → IsAsked command rows job → IsInRange job
asked_in command rows (Judge file limit) is = limit_in rows limit is.2
asked_in command rows (Elide file limit) is = limit_in rows limit is.2
asked_in command rows (Run file workers limit) is =
    let some = workers_in rows workers is.2 in (some.0, some.1, limit_in rows limit is.3)
asked_in command rows (Trace file workers limit) is =
    let some = workers_in rows workers is.2 in (some.0, some.1, limit_in rows limit is.3)
asked_in command rows (Record file workers limit trace) is =
    let some = workers_in rows workers is.2 in (some.0, some.1, limit_in rows limit is.3)
asked_in command rows (Explain file workers is_serial limit color format is_all) is =
    let some = workers_in rows workers is.3 in (some.0, some.1, limit_in rows limit is.5)
asked_in command rows (ExplainInput workers is_serial limit color format is_all) is =
    let some = workers_in rows workers is.2 in (some.0, some.1, limit_in rows limit is.4)
asked_in command rows (ExplainTraces files color format is_all) is = tt
asked_in command rows (Replay file trace) is = tt
asked_in command rows (Draw file language) is = tt
asked_in command rows (Show text) is = absurd is

asked_by_in : (found : Option (Text × List Row)) (job : Job) → IsAskedBy found job → IsInRange job
asked_by_in None job is = absurd is
asked_by_in (Some found) job is = asked_in found.0 found.1 job is

shown_in : (kind : ErrorKind) (job : Job) → IsShown kind job → IsInRange job
shown_in DisplayHelp (Show text) is = tt
shown_in DisplayVersion (Show text) is = tt
shown_in kind job is = absurd is

pub job_in : (words : List Text) (job : Job) → IsJobOf words job → IsInRange job
job_in words job (inl shown) = shown_in shown.0 job shown.2
job_in words job (inr asked) = asked_by_in (subcommand_of cilkcheck words) job asked
