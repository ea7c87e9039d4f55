-- What is told of a pair of places that raced in a trace, in pieces, so that pairs of several traces that are told alike are told once.
use Rattle.std.specs.Prelude.{ℕ, ◌≡◌, true, false, ◌+◌, ◌-◌, ◌^◌, ◌==◌, ◌&&◌, min, nat_lt, Bool, List, [], ◌∷◌, ◌++◌, codes, map, length, take, cond, if◌then◌else◌}
use Rattle.std.specs.Str.{bytes_eq}
use Rattle.std.specs.Global.{Vec}
use Rattle.std.specs.BTreeSet.{insert_key}
use Rattle.std.specs.Ordering.{nat_cmp}
use Rattle.std.specs.Cmp.Lexicographic.{slice_cmp}
use Rattle.source_quotes.specs.declared.look.Paint.TheVariants.{Red}
use Rattle.source_quotes.specs.Quotes.{painted, counted}
use Rattle.race_pairs.specs.declared.refusal.Reason.{Reason}
use Rattle.race_pairs.specs.declared.race.Pair.{Pair}
use Rattle.race_pairs.specs.declared.encounter.Encounter.{Encounter}
use Rattle.race_pairs.specs.Pairs.{ArePairs}
use Rattle.race_pairs.specs.Places.{ArePlaces}
use Rattle.race_pairs.specs.PairKeys.{key_of}
use Rattle.race_explanations.specs.declared.finding.Finding.{Finding}
use Rattle.race_explanations.specs.declared.findings.Findings.{Findings}
use Rattle.race_explanations.specs.declared.extent.Extent.{Extent}
use Rattle.race_explanations.specs.Extents.{most_pairs, most_shown, more_pairs}
use Rattle.race_explanations.specs.Settings.{Origin, in_program, in_trace, Setting}
use Rattle.race_explanations.specs.Titles.{sort_word, reason_words, listed_names, told_names}
use Rattle.race_explanations.specs.Messages.{earlier_text, refused_text, where_text, help_of, own_help_of, message, member_message}
use Rattle.race_explanations.specs.Advice.{help_note}
use Rattle.race_explanations.specs.Cases.{course_of}
use Rattle.race_explanations.specs.Leads.{IsLeadOf}
use Rattle.race_explanations.specs.FindingTexts.{finding_text, member_finding}
use Rattle.race_explanations.specs.FoundGroups.{found_groups_text}
use Rattle.model_histories.specs.declared.answer.Entry.{Entry}
use Rattle.race_pairs.specs.Refusals.{refusals_among}
use Rattle.race_pairs.specs.Encounters.{IsEncounter}

-- ---- one pair

-- the kind of the race, and what was wrong
abbrev pub kind_text : Setting → Reason → List ℕ
kind_text setting reason = painted setting.look Red (sort_word reason) ++ codes ": " ++ reason_words reason

-- what the first of the cells or reducers on which it was is told as
abbrev pub name_text : Setting → Reason → List ℕ → List ℕ
name_text setting reason places = listed_names setting reason (take 1 places)

-- the two accesses with what led there, and where they part
abbrev pub body_text : Setting → Pair → Encounter → List ℕ
body_text setting pair encounter =
    earlier_text pair.lines.reason setting pair encounter ++ refused_text setting pair encounter ++
    where_text pair.lines.reason setting pair encounter

-- what orders the two, by whether a sync is sure to
abbrev pub help_text : Setting → Pair → Encounter → (is_sure : Bool) → List ℕ
help_text setting pair encounter is_sure = help_note setting (help_of pair.lines.reason setting pair encounter is_sure)

-- the same where what orders all of a group is told once
abbrev pub own_text : Setting → Pair → Encounter → List ℕ
own_text setting pair encounter = help_note setting (own_help_of pair.lines.reason setting pair encounter)

abbrev pub IsOfTrace : Origin → Type 0
IsOfTrace (in_program file source functions) = ⊥
IsOfTrace (in_trace notes) = Unit {0}

-- The finding is that of a pair of the trace with this number, and its text is what is told of the pair where its trace is told alone.
pub record IsFinding (setting : Setting) (trace : ℕ) (entries : List Entry) (pair : Pair) (finding : Finding) : Type 0 where
  pub places : List ℕ
  pub encounter : Encounter
  pub are_places : ArePlaces entries (key_of pair) places
  pub is_encounter : IsEncounter entries pair encounter
  pub kind_is : finding.kind.items ≡ kind_text setting pair.lines.reason
  pub name_is : finding.name.items ≡ name_text setting pair.lines.reason places
  pub body_is : finding.body.items ≡ body_text setting pair encounter
  pub sure_is : finding.sure_help.items ≡ help_text setting pair encounter true
  pub open_is : finding.open_help.items ≡ help_text setting pair encounter false
  pub own_is : finding.own_help.items ≡ own_text setting pair encounter
  pub lead_is : IsLeadOf setting trace pair.spawn (course_of setting encounter) finding.lead
  pub names_are : map (λ (name : Vec ℕ). name.items) finding.names.keys ≡ told_names setting pair.lines.reason places
  pub times_is : finding.times ≡ pair.times
  pub text_is : (is_sure : Bool) → finding_text finding is_sure ≡ message setting pair places encounter is_sure
  pub member_is : member_finding finding ≡ member_message setting pair places encounter

-- The findings are those of the pairs, in their order.
pub data AllFound (setting : Setting) (trace : ℕ) (entries : List Entry) : List Pair → List Finding → Type 0 where
  none : AllFound setting trace entries [] []
  more : {pairs : List Pair} {findings : List Finding} (pair : Pair) (finding : Finding) → AllFound setting trace entries pairs findings →
      IsFinding setting trace entries pair finding → AllFound setting trace entries (pairs ++ pair ∷ []) (findings ++ finding ∷ [])

-- ---- findings that are told alike

-- both are told alike but for the names of what they were on and the counts
abbrev pub is_alike : Finding → Finding → Bool
is_alike one other =
    (bytes_eq one.kind.items other.kind.items && bytes_eq one.body.items other.body.items) && bytes_eq one.sure_help.items other.sure_help.items

-- the sum, or the largest number that is kept
abbrev pub added_up : ℕ → ℕ → ℕ
added_up a b = min (a + b) (2 ^ 64 - 1)

-- names among others in the order of their bytes, each once
abbrev pub with_names : List (Vec ℕ) → List (Vec ℕ) → List (Vec ℕ)
with_names names [] = names
with_names names (name ∷ others) =
    with_names (insert_key (λ (one : Vec ℕ) (other : Vec ℕ). slice_cmp nat_cmp one.items other.items) names name) others

-- the first of two that are told alike, with the names and the counts of both
abbrev pub joined : Finding → Finding → Finding
joined one other = record one {
  names = record { keys = with_names one.names.keys other.names.keys };
  times = added_up one.times other.times;
}

-- one finding more: joined to the first that is told alike, or behind all
abbrev pub with_finding : List Finding → Finding → List Finding
with_finding [] other = other ∷ []
with_finding (one ∷ findings) other = cond (is_alike one other) (joined one other ∷ findings) (one ∷ with_finding findings other)

-- more findings, one after another
abbrev pub with_findings : List Finding → List Finding → List Finding
with_findings findings [] = findings
with_findings findings (one ∷ others) = with_findings (with_finding findings one) others

-- ---- several traces

-- What is found in several traces: the findings, which traces had more than are kept, and how many refusals, requests and traces there were.
pub record Found : Type 0 where
  pub findings : List Finding
  pub untold : List ℕ
  pub refusals : ℕ
  pub requests : ℕ
  pub traces : ℕ

abbrev pub found_of : Findings → Found
found_of findings = record {
  findings = findings.list;
  untold = findings.untold.items;
  refusals = findings.refusals;
  requests = findings.requests;
  traces = findings.traces;
}

abbrev pub nothing_found : Found
nothing_found = record { findings = []; untold = []; refusals = 0; requests = 0; traces = 0 }

-- how many pairs of a trace are not kept, behind the first
abbrev pub untold_in : (file : List ℕ) → (most count : ℕ) → List ℕ
untold_in file most count =
    if nat_lt most count then codes "and " ++ counted (count - most) (codes "more pair") ++ codes " of places in " ++ file ++ codes "\n" else []

-- with one trace more: the findings of its first pairs, and how many pairs there are
abbrev pub with_trace : Extent → (file : List ℕ) → List Entry → List Finding → (count : ℕ) → Found → Found
with_trace extent file entries findings count found = record {
  findings = with_findings found.findings findings;
  untold = found.untold ++ untold_in file (most_pairs extent) count;
  refusals = added_up found.refusals (refusals_among entries);
  requests = added_up found.requests (length entries);
  traces = added_up found.traces 1;
}

-- A trace among several: how its pairs are told, its number, and its entries.
pub record NumberedTrace : Type 0 where
  pub setting : Setting
  pub number : ℕ
  pub entries : List Entry

abbrev pub numbered_trace : Setting → (number : ℕ) → List Entry → NumberedTrace
numbered_trace setting number entries = record { setting = setting; number = number; entries = entries }

-- Findings of the first of so many pairs were added.
pub record AddsPairs (trace : NumberedTrace) (most : ℕ) (old new : List Finding) (count : ℕ) : Type 0 where
  pub pairs : List Pair
  pub are_pairs : ArePairs trace.entries pairs
  pub count_is : count ≡ length pairs
  pub findings : List Finding
  pub all_found : AllFound trace.setting trace.number trace.entries (take most pairs) findings
  pub new_is : new ≡ with_findings old findings

-- Findings of all these pairs were added.
pub record AddsAll (trace : NumberedTrace) (pairs : List Pair) (old new : List Finding) : Type 0 where
  pub findings : List Finding
  pub all_found : AllFound trace.setting trace.number trace.entries pairs findings
  pub new_is : new ≡ with_findings old findings

-- A trace was added.
pub record AddsTrace (extent : Extent) (file : List ℕ) (setting : Setting) (entries : List Entry) (old new : Found) : Type 0 where
  pub count : ℕ
  pub pairs : List Pair
  pub are_pairs : ArePairs entries pairs
  pub count_is : count ≡ length pairs
  pub findings : List Finding
  pub all_found : AllFound setting old.traces entries (take (most_pairs extent) pairs) findings
  pub new_is : new ≡ with_trace extent file entries findings count old

-- ---- what is told of them

abbrev pub traces_text : ℕ → List ℕ
traces_text count = counted count (codes "trace")

-- how many requests there were, in how many traces
abbrev pub requests_text : Found → List ℕ
requests_text found = counted found.requests (codes "request") ++ codes " in " ++ traces_text found.traces ++ codes "\n"

-- what is told where nothing was refused
abbrev pub clean_found_text : Found → List ℕ
clean_found_text found =
    codes "clean: in none of these " ++ traces_text found.traces ++
    codes " do two of the accesses race, in whatever order its strands run\njudged: " ++ requests_text found

-- how many findings are not told, behind the first
abbrev pub findings_left_out : (most count : ℕ) → List ℕ
findings_left_out most count =
    more_pairs most count (codes " of places") (codes "\n")

-- at how many pairs of places, where all are kept
abbrev pub at_pairs : (untold : List ℕ) → ℕ → List ℕ
at_pairs [] count = codes " at " ++ counted count (codes "pair") ++ codes " of places"
at_pairs (byte ∷ untold) count = []

-- how many refusals there were
abbrev pub found_summary : Found → List ℕ
found_summary found =
    counted found.refusals (codes "refusal") ++ at_pairs found.untold (length found.findings) ++ codes ", among " ++ requests_text found

-- the first findings in groups, how many there are more, and how many refusals there were
abbrev pub races_found_text : Extent → Found → List ℕ
races_found_text extent found =
    found_groups_text (most_shown extent) (take (most_pairs extent) found.findings) ++ findings_left_out (most_pairs extent) (length found.findings) ++
    found.untold ++ found_summary found

-- what is told of what is found in several traces
abbrev pub found_text : Extent → Found → List ℕ
found_text extent found = if found.refusals == 0 then clean_found_text found else races_found_text extent found
