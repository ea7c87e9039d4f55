use Rattle.std.proofs.Common.{[]}
use Rattle.race_gate.proofs.tracks.Tracks.new.Goals as goal

pub returns : goal.returns
returns g c = record {
  follows = c.in_ok-new.ensures.opening;
  remembers = c.in_ok-new-2.ensures.empty [];
  locations = c.in_ok-new-2.ensures.locations;
  opens = c.in_ok-opening_reducers.ensures;
}
