-- What is told of the entries of a run.
use Rattle.std.specs.Prelude.{ℕ, ◌≡◌, Bool, List, ◌++◌, codes, map}
use Rattle.std.specs.Prelude.{length, take}
use Rattle.text_words.specs.Values.{Known}
use Rattle.program_text.specs.Drafts.{Contents}
use Rattle.model_histories.specs.declared.answer.Entry.{Entry}
use Rattle.source_quotes.specs.Quotes.{look_of, counted}
use Rattle.trace_notes.specs.declared.notes.Notes.{Notes}
use Rattle.race_pairs.specs.Refusals.{refusals_among}
use Rattle.race_pairs.specs.Pairs.{ArePairs}
use Rattle.race_pairs.specs.Groups.{AreGroups}
use Rattle.race_pairs.specs.declared.race.Pair.{Pair}
use Rattle.race_pairs.specs.declared.race.Race.{Race}
use Rattle.race_pairs.specs.declared.groups.Group.{Group}
use Rattle.race_explanations.specs.declared.case.Case.{Case}
use Rattle.race_explanations.specs.declared.extent.Extent.{Extent}
use Rattle.race_explanations.specs.Settings.{Origin, in_program, in_trace, Setting}
use Rattle.race_explanations.specs.Cases.{AreCases}
use Rattle.race_explanations.specs.Extents.{most_pairs, most_shown, more_pairs}
use Rattle.race_explanations.specs.Groups.{pairs_words, groups_text}

-- how many pairs are left out, behind the first
abbrev pub pairs_left_out : Origin → (most count : ℕ) → List ℕ
pairs_left_out origin most count =
    more_pairs most count (pairs_words origin) (codes "\n")

-- at how many pairs, and among how many requests
abbrev pub among : Origin → ℕ → ℕ → List ℕ
among origin count requests =
    codes " at " ++ counted count (codes "pair") ++ (pairs_words origin ++ codes ", among ") ++ counted requests (codes "request") ++ codes "\n"

-- what is told at the end: how many refusals there were
abbrev pub summary : Origin → List Entry → ℕ → List ℕ
summary origin entries count = counted (refusals_among entries) (codes "refusal") ++ among origin count (length entries)

-- The text tells of the entries, the oldest first: of each of the first pairs of lines that raced, in groups of those that part at spawns on
-- one line, how many more there are, and how many refusals there were.
pub record TellsEntries (setting : Setting) (extent : Extent) (entries : List Entry) (text : List ℕ) : Type 0 where
  pub pairs : List Pair
  pub are_pairs : ArePairs entries pairs
  pub races : List Race
  pub are_kept : map (λ race. race.pair) races ≡ take (most_pairs extent) pairs
  pub cases : List Case
  pub are_cases : AreCases entries (take (most_pairs extent) pairs) cases
  pub groups : List Group
  pub are_groups : AreGroups races groups
  pub text_is : text ≡ groups_text setting (most_shown extent) cases groups ++ pairs_left_out setting.origin (most_pairs extent) (length pairs) ++
      summary setting.origin entries (length pairs)

-- a file with a program: its name, its lines, and the program that they mean
pub record ProgramFile : Type 0 where
  pub name : List ℕ
  pub lines : List (List ℕ)
  pub program : Contents

abbrev pub program_file : (name : List ℕ) → (lines : List (List ℕ)) → Contents → ProgramFile
program_file name lines program = record { name = name; lines = lines; program = program }

-- the entries are those of a run of the program in a file
abbrev pub program_setting : (is_painted : Bool) → ProgramFile → List Entry → Setting
program_setting is_painted file entries = record {
  look = look_of is_painted file.lines;
  origin = in_program file.name file.lines file.program.functions;
  mems = file.program.known.mems;
  reducers = file.program.known.reducers;
  lines = map (λ entry. entry.request.line) entries;
}

abbrev pub IsExplanation : (is_painted : Bool) → Extent → ProgramFile → List Entry → (text : List ℕ) → Type 0
IsExplanation is_painted extent file entries text = TellsEntries (program_setting is_painted file entries) extent entries text

-- the entries are those of a trace with these declarations and notes
abbrev pub trace_setting : (is_painted : Bool) → Notes → Known → List Entry → Setting
trace_setting is_painted notes known entries = record {
  look = record { is_painted = is_painted; width = 2 };
  origin = in_trace notes;
  mems = known.mems;
  reducers = known.reducers;
  lines = map (λ entry. entry.request.line) entries;
}

abbrev pub IsTraceExplanation : (is_painted : Bool) → Extent → Notes → Known → List Entry → (text : List ℕ) → Type 0
IsTraceExplanation is_painted extent notes known entries text = TellsEntries (trace_setting is_painted notes known entries) extent entries text
