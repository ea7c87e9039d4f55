use Rattle.std.proofs.Common.{rules, arith, map}
use Rattle.std.proofs.lemmas.Grind.{common_steps}
use Rattle.std.proofs.lemmas.Result.{on_ok_weaker}
use Rattle.serde_json.specs.View.{view}
use Rattle.race_records.proofs.Faulty.{one_more}
use Rattle.race_records.proofs.unjudged.+push_faults.Goals as goal

pub returns : goal.returns
returns t c =
    on_ok_weaker c.push_faults.result
    (λ more. one_more c.args.file.now c.args.source.now c.args.faults.now _ _ _ (map view c.args.values.now.items) _ _ more.0
    c.in_ok-fault_value.ensures (first_of (search rules, grind (arith, common_steps))) more.1 more.2 (first_of (search rules, grind (arith, common_steps))))
    c.push_faults.ensures
