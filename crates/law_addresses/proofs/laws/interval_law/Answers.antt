use Rattle.law_addresses.proofs.Intervals.{views-intervals, branches-intervals}
use Rattle.law_addresses.proofs.Segments.{joins-combine}
use Rattle.law_addresses.proofs.laws.interval_law.Goals as goal

pub returns : goal.returns
returns c = record { views = views-intervals; branches = branches-intervals; joins = joins-combine }
