-- The spawn at which the two strands of a finding part.
use Rattle.std.specs.Prelude.{ℕ, ◌≡◌, ◌++◌, Option, Some, None}
use Rattle.race_explanations.specs.declared.case.Course.{Course}
use Rattle.race_explanations.specs.declared.lead.Lead.{Lead}
use Rattle.race_explanations.specs.Settings.{Setting}
use Rattle.race_explanations.specs.Paths.{line_words}
use Rattle.race_explanations.specs.Names.{are_in_one_call}
use Rattle.race_explanations.specs.Advice.{help_begun, sync_place, rounds_note}
use Rattle.race_explanations.specs.Groups.{beside_text}

-- It is the spawn on a line, at which two strands of the trace with this number part, whose spawner goes on so.
pub record IsLead (setting : Setting) (trace line : ℕ) (course : Course) (lead : Lead) : Type 0 where
  pub spawn_is : lead.spawn.items ≡ line_words setting.origin line
  pub onward_is : lead.onward.items ≡ line_words setting.origin course.line
  pub beside_is : lead.beside.items ≡ beside_text setting line (Some course)
  pub sync_is : lead.sync.items ≡ help_begun setting ++ sync_place setting line course.line
  pub rounds_is : lead.rounds.items ≡ rounds_note setting
  pub within_is : lead.is_within ≡ are_in_one_call setting.origin line course.line
  pub trace_is : lead.trace ≡ trace
  pub course_is : lead.course ≡ course

-- where two strands part at a spawn
abbrev pub IsLeadOf : Setting → (trace : ℕ) → (spawn : Option ℕ) → Course → Option Lead → Type 0
IsLeadOf setting trace (Some line) course (Some lead) = IsLead setting trace line course lead
IsLeadOf setting trace (Some line) course None = ⊥
IsLeadOf setting trace None course lead = lead ≡ None
