-- One place, before which a sync orders each finding of a group, each in its own trace.
use Rattle.std.specs.Prelude.{ℕ, ◌≡◌, List, map, reverse, Some, None, IfSome, option_and_then}
use Rattle.std.specs.List.{All}
use Rattle.model_histories.specs.declared.answer.Entry.{Entry}
use Rattle.model_histories.specs.Shapes.{Shape}
use Rattle.model_histories.specs.Legal.{IsLegal}
use Rattle.race_pairs.specs.declared.lineage.Parting.{Parting}
use Rattle.race_pairs.specs.declared.race.Pair.{Pair}
use Rattle.race_pairs.specs.declared.encounter.Encounter.{Encounter}
use Rattle.race_pairs.specs.Encounters.{IsEncounter}
use Rattle.race_pairs.specs.Syncs.{IsPlaceToSync}
use Rattle.race_explanations.specs.declared.finding.Finding.{Finding}
use Rattle.race_explanations.specs.declared.lead.Lead.{Lead}
use Rattle.race_explanations.specs.Settings.{Setting}
use Rattle.race_explanations.specs.Paths.{line_words}
use Rattle.race_explanations.specs.Cases.{course_of}
use Rattle.race_explanations.specs.Leads.{IsLead}
use Rattle.race_explanations.specs.FoundGroups.{lead_at, first_place}
use Rattle.race_explanations.specs.Findings.{AllFound, with_findings}

-- the entries are a legal history, whose lines the setting has
pub record IsTraceOf (setting : Setting) (entries : List Entry) : Type 0 where
  pub legal : (shape : Shape) × IsLegal shape (reverse entries)
  pub lines_are : setting.lines ≡ map (λ entry. entry.request.line) entries

-- Of traces by their numbers: the lead is that of a pair of its trace.
pub record IsLeadIn (settings : ℕ → Setting) (traces : ℕ → List Entry) (lead : Lead) : Type 0 where
  pub pair : Pair
  pub encounter : Encounter
  pub line : ℕ
  pub is_trace : IsTraceOf (settings lead.trace) (traces lead.trace)
  pub is_encounter : IsEncounter (traces lead.trace) pair encounter
  pub is_lead : IsLead (settings lead.trace) lead.trace line (course_of (settings lead.trace) encounter) lead

-- the same of a finding
abbrev pub IsFoundIn : (settings : ℕ → Setting) → (traces : ℕ → List Entry) → Finding → Type 0
IsFoundIn settings traces finding = IfSome finding.lead (IsLeadIn settings traces)

abbrev pub AreFoundIn : (settings : ℕ → Setting) → (traces : ℕ → List Entry) → List Finding → Type 0
AreFoundIn settings traces findings = All (IsFoundIn settings traces) findings

-- On a line that is told so stands an entry in place of which a sync orders two strands that part there.
abbrev pub HasPlaceToldAs : Setting → List Entry → (place : List ℕ) → Parting → Type 0
HasPlaceToldAs setting entries told parting =
    (number : ℕ) × (place : IsPlaceToSync (reverse entries) parting number) × (line_words setting.origin place.entry.request.line ≡ told)

-- the same of each pair that has the lead, where its two strands part
abbrev pub IsOrderedAs : (settings : ℕ → Setting) → (traces : ℕ → List Entry) → (place : List ℕ) → Lead → Type 0
IsOrderedAs settings traces told lead =
    (is : IsLeadIn settings traces lead) → IfSome is.encounter.parting (HasPlaceToldAs (settings lead.trace) (traces lead.trace) told)

abbrev pub IsOrderedPlace : (settings : ℕ → Setting) → (traces : ℕ → List Entry) → (place : List ℕ) → List Finding → ℕ → Type 0
IsOrderedPlace settings traces told findings place = IfSome (lead_at findings place) (IsOrderedAs settings traces told)

-- Each of them has an entry where a sync orders it, at the place before which a sync is told, that of the first one.
abbrev pub OneSyncOrdersFound : (settings : ℕ → Setting) → (traces : ℕ → List Entry) → List Finding → (places : List ℕ) → Type 0
OneSyncOrdersFound settings traces findings places =
    (first : Lead) × (option_and_then (lead_at findings) (first_place findings None places) ≡ Some first) ×
    All (IsOrderedPlace settings traces first.onward.items findings) places

-- What is found in a trace joins what was found in others: the leads are those of their traces.
abbrev pub FoundLaw : Type 0
FoundLaw =
    (settings : ℕ → Setting) (traces : ℕ → List Entry) (trace : ℕ) → IsTraceOf (settings trace) (traces trace) →
    (pairs : List Pair) (found : List Finding) → AllFound (settings trace) trace (traces trace) pairs found →
    (findings : List Finding) → AreFoundIn settings traces findings → AreFoundIn settings traces (with_findings findings found)
