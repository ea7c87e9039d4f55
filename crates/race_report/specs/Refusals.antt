-- What the report tells of refusals.
use Rattle.std.specs.Prelude.{ℕ, ◌+◌, ◌-◌, Option, Some, None, List, [], ◌∷◌, ◌++◌, codes, unwrap_or, slice_get}
use Rattle.std.specs.Option.{option_map, option_to_list}
use Rattle.serde_json.specs.Data.{Data, null, number, unsigned, string, object, member, no_members}
use Rattle.model_accesses.specs.declared.request.Act.{Act}
use Rattle.model_accesses.specs.declared.request.Act.TheVariants.{Read, Write, Bump, Update, Put, Get}
use Rattle.model_accesses.specs.declared.request.Request.{Request}
use Rattle.trace_text.specs.Shapes.{name_of_cell}
use Rattle.trace_text.specs.Printing.{name_of_reducer}
use Rattle.text_words.specs.Values.{Known}
use Rattle.model_accesses.specs.declared.witness.Witness.{Witness}
use Rattle.model_histories.specs.declared.answer.Answer.{Answer}
use Rattle.model_histories.specs.declared.answer.Answer.TheVariants.{Refused, Unset}
use Rattle.model_histories.specs.declared.answer.Entry.{Entry}
use Rattle.verdict_lines.specs.VerdictText.{refusal_word}

-- the name of the cell or the reducer that an act asks for
abbrev pub name_asked : Known → Act → List ℕ
name_asked known (Read location) = name_of_cell known.mems location
name_asked known (Write location value) = name_of_cell known.mems location
name_asked known (Bump location value) = name_of_cell known.mems location
name_asked known (Update reducer value) = name_of_reducer known.reducers reducer
name_asked known (Put reducer value) = name_of_reducer known.reducers reducer
name_asked known (Get reducer) = name_of_reducer known.reducers reducer
name_asked known act = []

-- the line of the entry with this number, which counts from 1; the entries stand oldest first
abbrev pub line_of_entry : List Entry → ℕ → ℕ
line_of_entry entries entry_number = unwrap_or (option_map (λ entry. entry.request.line) (slice_get entries (entry_number - 1))) 0

-- the witness of a refusal, with the line of its entry: the entry, that line, and the strand
abbrev pub witness_told : (line : ℕ) → Witness → Data
witness_told line witness =
    object (member (codes "entry") (number (unsigned witness.entry))
    (member (codes "line") (number (unsigned line))
    (member (codes "strand") (number (unsigned witness.strand)) no_members)))

-- a refusal: the number of its entry, the request that was refused, the name that it asks for, the word of the rule, and the witness
abbrev pub refusal_told : ℕ → Request → (name rule : List ℕ) → Data → Data
refusal_told entry_number request name rule witness =
    object (member (codes "entry") (number (unsigned entry_number))
    (member (codes "line") (number (unsigned request.line))
    (member (codes "name") (string name)
    (member (codes "rule") (string rule)
    (member (codes "strand") (number (unsigned request.strand))
    (member (codes "witness") witness no_members))))))

-- What is told of the entry with this number: a refused access by the word of its rule and with its witness, an unset one by `unset` and
-- with none, and nothing of other entries.
abbrev pub answer_told : Known → List Entry → ℕ → Request → Answer → Option Data
answer_told known entries entry_number request (Refused rule witness) =
    Some (refusal_told entry_number request (name_asked known request.act) (unwrap_or (refusal_word request.act witness.kind) [])
    (witness_told (line_of_entry entries witness.entry) witness))
answer_told known entries entry_number request Unset =
    Some (refusal_told entry_number request (name_asked known request.act) (codes "unset") null)
answer_told known entries entry_number request answer = None

-- the refusals among the entries that stand behind so many others, in their order
abbrev pub refusals_behind : Known → List Entry → ℕ → List Entry → List Data
refusals_behind known entries before [] = []
refusals_behind known entries before (entry ∷ rest) =
    option_to_list (answer_told known entries (before + 1) entry.request entry.answer) ++ refusals_behind known entries (before + 1) rest

-- the refusals of a history, oldest first
abbrev pub refusals_told : Known → List Entry → List Data
refusals_told known entries = refusals_behind known entries 0 entries
