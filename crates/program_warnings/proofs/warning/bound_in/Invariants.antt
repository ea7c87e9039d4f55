use Rattle.std.proofs.Common.{◌≡◌, drop}
use Rattle.std.specs.Prelude.{option_map}
use Rattle.std.specs.List.{find}
use Rattle.model_bodies.specs.Lines.{line_of}
use Rattle.program_warnings.specs.Warnings.{binds}
use Rattle.program_warnings.proofs.warning.bound_in.Given as goal

-- the first among the statements that are left is the first of all
abbrev pub invariant-loop-statement : goal.invariant-loop-statement
invariant-loop-statement l =
    option_map line_of (find (binds l.register) (drop l.statement-index l.body)) ≡ option_map line_of (find (binds l.register) l.body)
