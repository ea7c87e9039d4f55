-- What is told of a pair of lines that raced.
use Rattle.std.specs.Prelude.{ℕ, Bool, false, List, [], ◌++◌, codes, Option, Some, None, unwrap_or}
use Rattle.race_pairs.specs.Refusals.{line_in}
use Rattle.race_pairs.specs.declared.refusal.Reason.{Reason}
use Rattle.race_pairs.specs.declared.refusal.Reason.TheVariants.{Race, ViewRead, Unset}
use Rattle.race_pairs.specs.declared.race.Pair.{Pair}
use Rattle.race_pairs.specs.declared.encounter.Encounter.{Encounter}
use Rattle.race_explanations.specs.Settings.{Setting}
use Rattle.race_explanations.specs.Titles.{title_text}
use Rattle.race_explanations.specs.Paths.{access_text, chain_text}
use Rattle.race_explanations.specs.declared.case.Case.{Case}
use Rattle.race_explanations.specs.Advice.{between, parted_text, opened_text, help_note, sync_help_of, move_help_of, put_help}

-- ---- words

abbrev pub unordered_words : List ℕ
unordered_words = codes ", may run before it or after it\n"

-- ---- texts

-- The earlier access, and what led there.
abbrev pub witness_text : Setting → Pair → Encounter → List ℕ
witness_text setting pair encounter =
    access_text setting pair.witness encounter.witness 45 ++ codes "\n" ++ chain_text setting encounter.witness_chain.items ++ between setting

-- what is told of the earlier access, where there is one
abbrev pub earlier_text : Reason → Setting → Pair → Encounter → List ℕ
earlier_text (Race earlier refused) setting pair encounter = witness_text setting pair encounter
earlier_text ViewRead setting pair encounter = witness_text setting pair encounter
earlier_text Unset setting pair encounter = []

-- what is told of the refused access on its own line
abbrev pub verdict_words : Reason → List ℕ
verdict_words (Race earlier refused) = unordered_words
verdict_words ViewRead = codes ", has other peers\n"
verdict_words Unset = codes ", finds nothing\n"

-- The refused access, and what led there.
abbrev pub refused_text : Setting → Pair → Encounter → List ℕ
refused_text setting pair encounter =
    access_text setting pair.first (Some encounter.refused) 94 ++ verdict_words pair.lines.reason ++ chain_text setting encounter.chain.items

-- Where the two strands of a race part, and of a view-read race which spawn is outstanding at one of them alone.
abbrev pub where_text : Reason → Setting → Pair → Encounter → List ℕ
where_text (Race earlier refused) setting pair encounter =
    parted_text setting pair encounter.refused.strand encounter.parting (line_in setting.lines (unwrap_or encounter.onward 0))
where_text ViewRead setting pair encounter = opened_text setting pair encounter.refused.strand encounter.outstanding
where_text Unset setting pair encounter = []

-- What orders the two, where it is known, and whether a sync that is named is sure to.
abbrev pub help_of : Reason → Setting → Pair → Encounter → (is_sure : Bool) → Option (List ℕ)
help_of (Race earlier refused) setting pair encounter is_sure =
    sync_help_of setting (line_in setting.lines (unwrap_or encounter.onward 0)) is_sure encounter.parting
help_of ViewRead setting pair encounter is_sure = move_help_of setting pair encounter.refused.strand encounter.outstanding
help_of Unset setting pair encounter is_sure = Some put_help

-- The same of one of several races that part at one spawn: what would order all of them is told once.
abbrev pub own_help_of : Reason → Setting → Pair → Encounter → Option (List ℕ)
own_help_of (Race earlier refused) setting pair encounter = None
own_help_of reason setting pair encounter = help_of reason setting pair encounter false

-- Where they part, and what orders them.
abbrev pub advice_text : Reason → Setting → Pair → Encounter → (is_sure : Bool) → List ℕ
advice_text reason setting pair encounter is_sure =
    where_text reason setting pair encounter ++ help_note setting (help_of reason setting pair encounter is_sure)

-- All that is told of a pair of lines: the kind of the race and where it is, the two accesses with what led there, and what orders them.
abbrev pub message : Setting → Pair → List ℕ → Encounter → (is_sure : Bool) → List ℕ
message setting pair places encounter is_sure =
    title_text setting pair places ++ earlier_text pair.lines.reason setting pair encounter ++ refused_text setting pair encounter ++
    advice_text pair.lines.reason setting pair encounter is_sure ++ codes "\n"

-- The same of a case.
abbrev pub case_text : Setting → Case → (is_sure : Bool) → List ℕ
case_text setting case is_sure = message setting case.race.now.pair case.race.now.places.items case.encounter is_sure

-- The same of one of several races that part at one spawn.
abbrev pub member_message : Setting → Pair → List ℕ → Encounter → List ℕ
member_message setting pair places encounter =
    title_text setting pair places ++ earlier_text pair.lines.reason setting pair encounter ++ refused_text setting pair encounter ++
    (where_text pair.lines.reason setting pair encounter ++ help_note setting (own_help_of pair.lines.reason setting pair encounter)) ++ codes "\n"

abbrev pub member_text : Setting → Case → List ℕ
member_text setting case = member_message setting case.race.now.pair case.race.now.places.items case.encounter
