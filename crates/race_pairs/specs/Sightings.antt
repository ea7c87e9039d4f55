-- A refusal with all that is kept of it.
use Rattle.std.specs.Prelude.{◌≡◌, ℕ, List, length, Option, Some, option_and_then}
use Rattle.std.specs.Option.{option_map}
use Rattle.model_histories.specs.declared.answer.Entry.{Entry}
use Rattle.race_pairs.specs.declared.refusal.Refusal.{Refusal}
use Rattle.race_pairs.specs.declared.refusal.Lines.{Lines}
use Rattle.race_pairs.specs.declared.refusal.Side.{Side}
use Rattle.race_pairs.specs.declared.sighting.Sighting.{Sighting}
use Rattle.race_pairs.specs.Refusals.{line_in, refusal_told, refusal_at, lines_of, side_of, access_at, IsSideAt, named_by}

-- the two lines of a refusal, by the lines of the entries
abbrev pub lines_in : List ℕ → Refusal → Lines
lines_in lines refusal = record { reason = refusal.reason; line = refusal.line; witness_line = line_in lines refusal.witness }

abbrev pub sighting_by : Entry → List ℕ → Refusal → Side → Sighting
sighting_by entry lines refusal refused = record {
  lines = lines_in lines refusal;
  number = length lines;
  refused = refused;
  witness_number = refusal.witness;
  witness = named_by entry.answer;
  place = refusal.place;
}

-- what is kept of the refusal that an entry tells, where it tells one, by the lines of the entries up to it
abbrev pub sighting_of : Entry → List ℕ → Option Sighting
sighting_of entry lines =
    option_and_then (λ refusal. option_map (λ refused. sighting_by entry lines refusal refused) (side_of entry)) (refusal_told entry)

-- this is kept of the refusal that the entry with this number tells
pub record IsSighting (told : List Entry) (number : ℕ) (sighting : Sighting) : Type 0 where
  pub refusal : Refusal
  pub told_here : refusal_at told number ≡ Some refusal
  pub lines_are : sighting.lines ≡ lines_of told refusal
  pub number_is : sighting.number ≡ number
  pub refused_is : access_at told number ≡ Some sighting.refused
  pub witness_number_is : sighting.witness_number ≡ refusal.witness
  pub witness_is : IsSideAt told refusal.witness sighting.witness
  pub place_is : refusal.place ≡ sighting.place
