use Rattle.std.proofs.Common.{◌≡◌, ◌++◌}
use Rattle.race_explanations.specs.Findings.{with_names}
use Rattle.race_explanations.proofs.merge.add_names.Given as goal

-- those so far are added
abbrev pub invariant-loop-name : goal.invariant-loop-name
invariant-loop-name l = record {
  added : l.names.keys ≡ with_names l.initial.names.keys l.yielded;
  whole : l.fn.others.keys ≡ l.yielded ++ l.name-iterator;
}
