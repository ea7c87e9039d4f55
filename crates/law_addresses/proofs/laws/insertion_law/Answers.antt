use Rattle.law_addresses.proofs.Sorted.{spawn-orders, opening-orders, english-places, hebrew-places}
use Rattle.law_addresses.proofs.laws.insertion_law.Goals as goal

pub returns : goal.returns
returns c = record { spawn = spawn-orders; opening = opening-orders; english = english-places; hebrew = hebrew-places }
