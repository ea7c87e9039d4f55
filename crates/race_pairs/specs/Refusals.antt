-- What one entry tells of a refusal.
use Rattle.std.specs.Prelude.{◌≡◌, ℕ, zero, suc, Bool, List, length, filter, Option, Some, None, is_some, slice_get, unwrap_or, option_and_then}
use Rattle.std.specs.Option.{option_map}
use Rattle.model_accesses.specs.declared.kind.Kind.{Kind}
use Rattle.model_accesses.specs.declared.kind.Rule.{Rule}
use Rattle.model_accesses.specs.declared.kind.Rule.TheVariants.{View}
use Rattle.model_accesses.specs.declared.asked.Asked.{Asked}
use Rattle.model_accesses.specs.Asking.{access_asked}
use Rattle.model_histories.specs.declared.answer.Answer.{Answer}
use Rattle.model_histories.specs.declared.answer.Answer.TheVariants.{Refused, Unset as IsUnset}
use Rattle.model_histories.specs.declared.answer.Entry.{Entry}
use Rattle.race_pairs.specs.declared.refusal.Reason.{Reason}
use Rattle.race_pairs.specs.declared.refusal.Reason.TheVariants.{Race, ViewRead, Unset}
use Rattle.race_pairs.specs.declared.refusal.Refusal.{Refusal}
use Rattle.race_pairs.specs.declared.refusal.Lines.{Lines}
use Rattle.race_pairs.specs.declared.refusal.Side.{Side}

-- why an access of the one kind was refused for an earlier one of the other, by the rule that was answered
abbrev pub reason_by : Rule → Kind → Kind → Reason
reason_by View earlier refused = ViewRead
reason_by rule earlier refused = Race earlier refused

-- what is told of an access on this line with this answer, where it was refused: no witness has the number 0
abbrev pub refusal_asked : ℕ → Answer → Asked → Option Refusal
refusal_asked line (Refused rule witness) asked = Some (record {
  reason = reason_by rule witness.kind asked.kind;
  line = line;
  place = asked.place;
  witness = witness.entry;
})
refusal_asked line IsUnset asked = Some (record { reason = Unset; line = line; place = asked.place; witness = 0 })
refusal_asked line answer asked = None

-- the refusal that an entry tells, where it is one
abbrev pub refusal_told : Entry → Option Refusal
refusal_told entry = option_and_then (refusal_asked entry.request.line entry.answer) (access_asked entry.request.act)

-- the entry with this number, from 1 on, of entries that stand oldest first
abbrev pub entry_at : List Entry → ℕ → Option Entry
entry_at told zero = None
entry_at told (suc before) = slice_get told before

-- the line of the entry with this number, and 0 where there is none
abbrev pub line_at : List Entry → ℕ → ℕ
line_at told number = unwrap_or (option_map (λ entry. entry.request.line) (entry_at told number)) 0

-- the same by the lines of the entries
abbrev pub line_in : List ℕ → ℕ → ℕ
line_in lines zero = 0
line_in lines (suc before) = unwrap_or (slice_get lines before) 0

-- why a refusal came, its line, and that of its witness
abbrev pub lines_of : List Entry → Refusal → Lines
lines_of told refusal = record { reason = refusal.reason; line = refusal.line; witness_line = line_at told refusal.witness }

-- the strand of the entry with this number
abbrev pub strand_at : List Entry → ℕ → Option ℕ
strand_at told number = option_map (λ entry. entry.request.strand) (entry_at told number)

-- the refusal that the entry with this number tells, where it is one
abbrev pub refusal_at : List Entry → ℕ → Option Refusal
refusal_at told number = option_and_then refusal_told (entry_at told number)

-- and its lines
abbrev pub lines_at : List Entry → ℕ → Option Lines
lines_at told number = option_map (lines_of told) (refusal_at told number)

-- the entry with this number is a refusal with these lines
abbrev pub HasLines : List Entry → ℕ → Lines → Type 0
HasLines told number lines = lines_at told number ≡ Some lines

-- by which strand an entry's access is, and of which kind, where it is one
abbrev pub side_of : Entry → Option Side
side_of entry = option_map (λ asked. record { strand = entry.request.strand; kind = asked.kind }) (access_asked entry.request.act)

-- the access that the entry with this number is
abbrev pub access_at : List Entry → ℕ → Option Side
access_at told number = option_and_then side_of (entry_at told number)

-- this is the access that the entry with this number is, or there is none, and no number
abbrev pub IsSideAt : List Entry → ℕ → Option Side → Type 0
IsSideAt told number None = number ≡ 0
IsSideAt told number (Some side) = access_at told number ≡ Some side

-- the witness that an answer names
abbrev pub named_by : Answer → Option Side
named_by (Refused rule witness) = Some (record { strand = witness.strand; kind = witness.kind })
named_by answer = None

abbrev pub is_refusal : Entry → Bool
is_refusal entry = is_some (refusal_told entry)

-- how many entries are refusals
abbrev pub refusals_among : List Entry → ℕ
refusals_among told = length (filter is_refusal told)
