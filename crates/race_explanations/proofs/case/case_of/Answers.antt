use Rattle.std.proofs.Common.{rules}
use Rattle.race_explanations.proofs.case.case_of.Goals as goal

pub returns : goal.returns
returns c = λ entries race. record {
  pair_is = search rules;
  are_places = race.1.placed.placed;
  is_encounter = c.in_ok-encounter.ensures entries race;
}
