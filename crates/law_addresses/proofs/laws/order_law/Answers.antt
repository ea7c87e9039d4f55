use Rattle.law_addresses.proofs.Orders.{english-total, hebrew-total}
use Rattle.law_addresses.proofs.Relations.{serial-decides}
use Rattle.law_addresses.proofs.Extensions.{split-parts}
use Rattle.law_addresses.proofs.laws.order_law.Goals as goal

pub returns : goal.returns
returns c = record { english = english-total; hebrew = hebrew-total; serial = serial-decides; sides = split-parts }
