use Rattle.std.proofs.Common.{◌≡◌, ◌≤◌, ◌-◌, ◌+◌, ◌*◌, List, length}
use Rattle.text_words.specs.Declarations.{cells_of}
use Rattle.model_bodies.specs.Codes.{Code}
use Rattle.model_programs.specs.Evaluation.{Effect}
use Rattle.serial_elision.specs.Evaluation.{configuration, Leads}
use Rattle.model_programs.specs.Elisions.{first_store, HasMain}
use Rattle.serial_elision.specs.States.{Stands, monoids_in, state_of, configuration_of, top_of}
use Rattle.serial_elision.proofs.Elisions.{main_stack}
use Rattle.serial_elision.proofs.elision.elide.Given as goal

-- what was done so far leads from the program's begin to where the evaluator stands
abbrev pub invariant-loop-elision : goal.invariant-loop-elision
invariant-loop-elision g l = record {
  within : l.requests ≤ l.limit;
  stands : Stands l.program.functions (monoids_in l.program) (cells_of l.program.mems) (state_of l.elision);
  main : Code;
  is_main : HasMain l.program.functions main;
  done : List Effect;
  count : length done ≡ l.requests;
  leads : Leads l.program.functions (monoids_in l.program) done
      (configuration (main_stack main) (first_store (monoids_in l.program) (cells_of l.program.mems)))
      (configuration_of l.program.functions (state_of l.elision));
}

-- a request uses up one of those that are left, and between requests the topmost function comes further
abbrev pub decreases-loop-elision : goal.decreases-loop-elision
decreases-loop-elision g l = (l.limit - l.requests) * 100001 + (100000 - (top_of l.elision).place)
