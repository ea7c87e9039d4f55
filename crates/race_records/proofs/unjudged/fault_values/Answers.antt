use Rattle.std.proofs.Common.{rules}
use Rattle.race_records.proofs.Faulty.{faults_listed}
use Rattle.race_records.proofs.unjudged.fault_values.Goals as goal

pub returns : goal.returns
returns c =
    faults_listed c.args.file.now c.args.source.now c.args.first c.args.others.now _ _ _ c.in_ok-push_faults.ensures.0 c.in_ok-fault_value.ensures
    (search rules) c.in_ok-push_faults.ensures.1 c.in_ok-push_faults.ensures.2
