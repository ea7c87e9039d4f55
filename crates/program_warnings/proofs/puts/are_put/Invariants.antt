use Rattle.std.proofs.Common.{◌≡◌, drop}
use Rattle.program_warnings.specs.Reach.{is_marked, puts_from}
use Rattle.program_warnings.proofs.puts.are_put.Given as goal

-- no function so far puts it
abbrev pub invariant-loop-number : goal.invariant-loop-number
invariant-loop-number l =
    puts_from (is_marked l.marks) l.reducer l.number (drop l.number l.functions) ≡ puts_from (is_marked l.marks) l.reducer 0 l.functions
