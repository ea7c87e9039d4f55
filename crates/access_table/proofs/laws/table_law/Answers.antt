use Rattle.access_table.proofs.Conflicts.{one_rule, rule_symmetric, races_of_memory, views_of_reducer_reads}
use Rattle.access_table.proofs.laws.table_law.Goals as goal

pub returns : goal.returns
returns c = record { one_rule = one_rule; symmetric = rule_symmetric; races = races_of_memory; views = views_of_reducer_reads }
