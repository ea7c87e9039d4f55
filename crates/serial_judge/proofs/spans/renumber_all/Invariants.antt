-- So far the spans have their new numbers.
use Rattle.std.proofs.Common.{◌≡◌, ◌+◌, ◌++◌, List, Bool, length, map, take, drop}
use Rattle.serial_judge.specs.Moves.{moved_span, AreMoves}
use Rattle.serial_judge.specs.Spans.{IsAscending}
use Rattle.serial_judge.proofs.spans.renumber_all.Given as goal

abbrev pub invariant-loop-span : goal.invariant-loop-span
invariant-loop-span g l =
    (marks : List Bool) → AreMoves marks l.moves → IsAscending 1 l.fn.spans (length marks + 1) →
    l.spans ≡ map (moved_span marks) (take l.span-index l.fn.spans) ++ drop l.span-index l.fn.spans
