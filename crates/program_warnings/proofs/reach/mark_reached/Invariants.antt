use Rattle.std.proofs.Common.{◌≡◌, ℕ, Some, true, length}
use Rattle.std.specs.Prelude.{slice_get}
use Rattle.program_warnings.specs.Reach.{IsReached, unmarked_count}
use Rattle.program_warnings.proofs.reach.mark_reached.Given as goal

-- what has a mark is reached
abbrev pub invariant-loop-next : goal.invariant-loop-next
invariant-loop-next l =
    (length l.marks.items ≡ length l.functions)
    × (slice_get l.marks.items l.main ≡ Some true)
    × ((number : ℕ) → slice_get l.marks.items number ≡ Some true → IsReached l.functions l.main number)

abbrev pub decreases-loop-next : goal.decreases-loop-next
decreases-loop-next l = unmarked_count l.marks.items
