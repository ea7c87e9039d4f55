-- Jobs that read one source, by what its reader gives.
use Rattle.std.proofs.Common.{◌≡◌, ℕ, Bool, true, false, List, Option, Some, None, Result, IfOk, IfErr, refl, sym, subst}
use Rattle.std.specs.Prelude.{if◌then◌else◌, String}
use Rattle.std.proofs.lemmas.Result.{IfOk-weaker, IfErr-weaker}
use Rattle.std.specs.Global.{Global}
use Rattle.std.specs.Str.{bytes_eq}
use Rattle.std.specs.String.{string_bytes}
use Rattle.command_streams.specs.Sources.{Sources}
use Rattle.command_streams.specs.declared.fault.CliFault.{CliFault}
use Rattle.command_streams.specs.declared.fault.CliFault.TheVariants.{Read}
use Rattle.command_words.specs.Asked.{input_word}
use Rattle.command_words.specs.declared.words.Color.{Color}
use Rattle.command_words.specs.declared.words.Format.{Format}
use Rattle.command_words.specs.declared.words.Job.{Job}
use Rattle.tool_commands.specs.Explanations.{Manner}
use Rattle.command_words.specs.declared.words.Job.TheVariants.{Judge, Elide, Run, Trace, Record, Explain, ExplainInput, ExplainTraces, Replay, Draw, Show}
use Rattle.command_jobs.specs.Performed.{input_name, IsMannerOf, named, judged, lacks_named, LacksFile, HasJobCause}
use Rattle.command_jobs.specs.OneSource.{source, lacks_source, named_file, file_of, IsOfOne}
use Rattle.command_jobs.proofs.Explaining.{manner_of}

pub named_source : (sources : Sources) (name : List ℕ) → source sources (named_file name) ≡ named sources name
named_source sources name = chosen (bytes_eq name input_word)
  where
    chosen : (is_input : Bool) → source sources (if is_input then None else Some name) ≡ (if is_input then sources.input else sources.file name)
    chosen true = refl
    chosen false = refl

lacks_file : (lacks : List ℕ → Type 0) (name : List ℕ) → lacks_named lacks name → lacks_source lacks (named_file name)
lacks_file lacks name (is_file, gone) =
    subst (λ (b : Bool). lacks_source lacks (if b then None else Some name)) (sym is_file) gone

-- such a job lacks a file only where its source can't be opened
pub lacks_one : (lacks : List ℕ → Type 0) (job : Job) → IsOfOne job → LacksFile lacks job → lacks_source lacks (file_of job)
lacks_one lacks (Judge (Some file) limit) one gone = lacks_file lacks (string_bytes file) gone
lacks_one lacks (Judge None limit) one gone = gone
lacks_one lacks (Elide file limit) one gone = lacks_file lacks (string_bytes file) gone
lacks_one lacks (Run file workers limit) one gone = lacks_file lacks (string_bytes file) gone
lacks_one lacks (Trace file workers limit) one gone = lacks_file lacks (string_bytes file) gone
lacks_one lacks (Explain file workers is_serial limit color format is_all) one gone = gone
lacks_one lacks (ExplainInput workers is_serial limit color format is_all) one gone = gone
lacks_one lacks (Draw file language) one gone = lacks_file lacks (string_bytes file) gone
lacks_one lacks (Record file workers limit trace) one gone = absurd one
lacks_one lacks (ExplainTraces files color format is_all) one gone = absurd one
lacks_one lacks (Replay file trace) one gone = absurd one
lacks_one lacks (Show text) one gone = absurd one

-- what could not be opened is not read
pub unread : (sources : Sources) (job : Job) (wrote writes : Option (List ℕ)) → IsOfOne job → HasJobCause sources job wrote writes Read
unread sources (Judge file limit) wrote writes one = (None, tt)
unread sources (Elide file limit) wrote writes one = (None, tt)
unread sources (Run file workers limit) wrote writes one = (None, tt)
unread sources (Trace file workers limit) wrote writes one = (None, tt)
unread sources (Explain file workers is_serial limit color format is_all) wrote writes one =
    let some = manner_of (string_bytes file) format is_all color in (None, some.0, some.1, tt)
unread sources (ExplainInput workers is_serial limit color format is_all) wrote writes one =
    let some = manner_of input_name format is_all color in (None, some.0, some.1, tt)
unread sources (Draw file language) wrote writes one = (None, tt)
unread sources (Record file workers limit trace) wrote writes one = absurd one
unread sources (ExplainTraces files color format is_all) wrote writes one = absurd one
unread sources (Replay file trace) wrote writes one = absurd one
unread sources (Show text) wrote writes one = absurd one

-- what the reader gives is what the job reads
pub judged_source : (sources : Sources) (file : Option (String Global)) (limit : ℕ) → source sources (file_of (Judge file limit)) ≡ judged sources file
judged_source sources None limit = refl
judged_source sources (Some file) limit = named_source sources (string_bytes file)

-- what holds of what the reader gave holds of what was to be read
pub done_of : (Done : (before behind : Option (List ℕ)) → ℕ → Type 0) (gave reads behind : Option (List ℕ)) (answer : Result ℕ CliFault) → gave ≡ reads →
    IfOk answer (Done gave behind) → IfOk answer (λ status. (left : Option (List ℕ)) × Done reads left status)
done_of Done gave reads behind answer is =
    IfOk-weaker answer (Done gave behind) (λ status. (left : Option (List ℕ)) × Done reads left status)
    (λ status done. (behind, subst (λ (before : Option (List ℕ)). Done before behind status) is done))

pub stopped_of : (Stops : (before behind : Option (List ℕ)) → CliFault → Type 0) (gave reads behind : Option (List ℕ)) (answer : Result ℕ CliFault) → gave ≡ reads →
    IfErr answer (Stops gave behind) → IfErr answer (λ fault. (left : Option (List ℕ)) × Stops reads left fault)
stopped_of Stops gave reads behind answer is =
    IfErr-weaker answer (Stops gave behind) (λ fault. (left : Option (List ℕ)) × Stops reads left fault)
    (λ fault stops. (behind, subst (λ (before : Option (List ℕ)). Stops before behind fault) is stops))

-- and so of an explanation in some manner
pub told_of : (file : List ℕ) (color : Color) (format : Format) (is_all : Bool) (manner : Manner) → IsMannerOf file color format is_all manner →
    (Told : (before behind : Option (List ℕ)) → Manner → ℕ → Type 0) (gave reads behind : Option (List ℕ)) (answer : Result ℕ CliFault) → gave ≡ reads →
    IfOk answer (Told gave behind manner) →
    IfOk answer (λ status. (left : Option (List ℕ)) × (manner : Manner) × IsMannerOf file color format is_all manner × Told reads left manner status)
told_of file color format is_all manner so Told gave reads behind answer is =
    IfOk-weaker answer (Told gave behind manner) (λ status. (left : Option (List ℕ)) × (manner : Manner) × IsMannerOf file color format is_all manner × Told reads left manner status)
    (λ status told. (behind, manner, so, subst (λ (before : Option (List ℕ)). Told before behind manner status) is told))

pub untold_of : (file : List ℕ) (color : Color) (format : Format) (is_all : Bool) (manner : Manner) → IsMannerOf file color format is_all manner →
    (Stops : (before behind : Option (List ℕ)) → Manner → CliFault → Type 0) (gave reads behind : Option (List ℕ)) (answer : Result ℕ CliFault) → gave ≡ reads →
    IfErr answer (Stops gave behind manner) →
    IfErr answer (λ fault. (left : Option (List ℕ)) × (manner : Manner) × IsMannerOf file color format is_all manner × Stops reads left manner fault)
untold_of file color format is_all manner so Stops gave reads behind answer is =
    IfErr-weaker answer (Stops gave behind manner) (λ fault. (left : Option (List ℕ)) × (manner : Manner) × IsMannerOf file color format is_all manner × Stops reads left manner fault)
    (λ fault stops. (behind, manner, so, subst (λ (before : Option (List ℕ)). Stops before behind manner fault) is stops))
