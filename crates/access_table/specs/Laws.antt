-- What holds of the table as a whole.
use Rattle.std.specs.Prelude.{◌≡◌, ◌↔◌, IsTrue}
use Rattle.model_accesses.specs.declared.kind.Kind.{Kind}
use Rattle.model_accesses.specs.declared.kind.Rule.{Rule}
use Rattle.model_accesses.specs.declared.kind.Rule.TheVariants.{Race, View}
use Rattle.model_accesses.specs.Table.{HasRule, rule_between, is_memory_kind, is_reducer_read}

-- The list has no more than one rule for a pair, and the cases are those of the list.
abbrev pub EachPairHasOneRule : Type 0
EachPairHasOneRule = (old new : Kind) (rule : Rule) → HasRule old new rule ↔ (rule_between old new ≡ rule)

-- It does not matter which of two accesses was earlier.
abbrev pub RuleIsSymmetric : Type 0
RuleIsSymmetric = (old new : Kind) → rule_between old new ≡ rule_between new old

-- Accesses that race are of memory cells.
abbrev pub RacesAreOfMemory : Type 0
RacesAreOfMemory = (old new : Kind) → rule_between old new ≡ Race → IsTrue (is_memory_kind old) × IsTrue (is_memory_kind new)

-- The view rule stands between two reducer reads, and between no others.
abbrev pub ViewsAreOfReducerReads : Type 0
ViewsAreOfReducerReads = (old new : Kind) → (rule_between old new ≡ View) ↔ (IsTrue (is_reducer_read old) × IsTrue (is_reducer_read new))
