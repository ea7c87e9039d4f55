use Rattle.law_addresses.proofs.Branches.{branches-peers, names-tell}
use Rattle.law_addresses.proofs.laws.address_branch_law.Goals as goal

pub returns : goal.returns
returns c = record { peers = branches-peers; names = names-tell }
