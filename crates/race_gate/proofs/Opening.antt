-- What a gate keeps at first.
use Rattle.std.proofs.Common.{◌≡◌, ℕ, ◌≤◌, List, [], length, replicate, false, Option, Some, None, refl, arith}
use Rattle.std.proofs.lemmas.List.{get_or-replicate}
use Rattle.std.proofs.Math.ListN.{length-replicate}
use Rattle.model_reducers.specs.declared.monoid.Monoid.{Monoid}
use Rattle.model_histories.specs.Shapes.{Shape, most_entries}
use Rattle.model_histories.specs.States.{opening}
use Rattle.branch_names.specs.Names.{Follows as FollowsNames}
use Rattle.view_read_rule.specs.Reads.{Remembers as RemembersReads}
use Rattle.reducer_views.specs.Held.{Holds}
use Rattle.race_gate.specs.Books.{Books, Keeps, OpensBooks}
use Rattle.race_gate.specs.Kept.{TracksState, AreBooksOf, IsKept, OpensTracks}
use Rattle.race_gate.specs.Cores.{IsCoreOf}
use Rattle.race_gate.proofs.Races.{none-listed}

books-at_first : (shape : Shape) (books : Option Books) → OpensBooks books shape.monoids → AreBooksOf shape [] books
books-at_first shape None opens = opens
books-at_first shape (Some books) opens = opens

-- reducers that no strand has touched
pub keeps-at_first : (books : Books) → FollowsNames books.branches [] → length books.reads ≡ length books.views.monoids → RemembersReads books.reads [] → Holds books.views [] →
    Keeps books [] []
keeps-at_first books follows counted remembers holds = record {
  legal = tt;
  branches = follows;
  counted = counted;
  remembers = remembers;
  one_branch = λ reducer. record { begun = λ read is. absurd (none-listed read is.0); one_branch = λ first second is also. absurd (none-listed first is.0) };
  kinds = λ reducer read is. absurd (none-listed read is.0);
  puts = λ reducer. record { read_of = λ put has. absurd has; put_of = λ read is. absurd (none-listed read is.0) };
  numbers = tt;
  views = holds;
}

kept-at_first : (shape : Shape) (limit : ℕ) (tracks : TracksState) → OpensTracks tracks shape.cells shape.monoids → limit ≤ most_entries → IsKept (opening shape limit) tracks
kept-at_first shape limit tracks opens small = record {
  right = record {
    judged = record { legal = tt; memory = tt; reducers = tt };
    memory = record { len = length-replicate shape.cells 0; each = λ cell below. get_or-replicate shape.cells cell 0 0 below };
  };
  follows = opens.follows;
  remembers = opens.remembers;
  locations = opens.locations;
  within = omega arith;
  limited = small;
  reducers = books-at_first shape tracks.reducers opens.opens;
}

-- the core that has copied the shape
pub core-opening : (shape made : Shape) (limit : ℕ) (memory : List ℕ) (tracks : TracksState) → made ≡ shape → memory ≡ replicate made.cells 0 →
    OpensTracks tracks made.cells made.monoids → limit ≤ most_entries → IsCoreOf
    (record { shape = made; limit = limit; stopped = false; entries = 0; finished = false; memory = memory; tracks = tracks }) (opening shape limit)
core-opening shape made limit memory tracks same zeros opens small =
    rw (zeros, ← same) record {
      shown = refl;
      counted = refl;
      finished = (λ is. absurd (cc), λ is. absurd is);
      kept = kept-at_first made limit tracks opens small;
    }

abbrev the_shape : ℕ → List Monoid → Shape
the_shape cells monoids = record { cells = cells; monoids = monoids }

-- what was taken from the shape stands apart from it, so that a wrong amount is refused by its own equation
pub is-copy : (cells taken : ℕ) (monoids declared : List Monoid) → taken ≡ cells → monoids ≡ declared →
    the_shape taken monoids ≡ the_shape cells declared
is-copy cells taken monoids declared as_many same = rw (as_many, same) refl
