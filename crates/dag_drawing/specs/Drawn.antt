-- What a drawing has.
use Rattle.std.specs.Prelude.{◌≡◌, ◌≢◌, ◌↔◌, ◌<◌, ◌≤◌, ℕ, ◌+◌, List, [], ◌∷◌, length, reverse, filter, Bool, true, false, AllPairs, Contains, slice_index_or}
use Rattle.std.specs.Ordering.{nat_cmp}
use Rattle.std.specs.List.Sorted.{IsStrictlyIncreasing, IsNonDecreasingBy, IsPermutation, IsStableByKey}
use Rattle.model_strands.specs.History.{History}
use Rattle.model_strands.specs.Strands.{Begun, status}
use Rattle.model_histories.specs.declared.answer.Entry.{Entry}
use Rattle.model_histories.specs.Entries.{control_part}
use Rattle.dag_drawing.specs.declared.drawing.Edge.{Edge}
use Rattle.dag_drawing.specs.declared.drawing.Drawing.{Drawing}
use Rattle.dag_drawing.specs.declared.drawing.Access.{Access}
use Rattle.dag_drawing.specs.Arrows.{EdgeOf, arrows, has_begun}
use Rattle.dag_drawing.specs.Told.{accesses_told, races_told}

-- the numbers from this one on that are marked
abbrev pub marked_from : ℕ → List Bool → List ℕ
marked_from number [] = []
marked_from number (true ∷ marks) = number ∷ marked_from (number + 1) marks
marked_from number (false ∷ marks) = marked_from (number + 1) marks

abbrev pub has_mark : List Bool → Edge → Bool
has_mark marks edge = slice_index_or marks edge.to false

-- just the strands of the history that have begun, each once
pub record AreStrands (history : History) (strands : List ℕ) : Type 0 where
  pub each_once : IsStrictlyIncreasing strands
  pub begun : (strand : ℕ) → Contains strands strand ↔ Begun history strand

-- the edges do not both lead from the one strand to the other
abbrev pub HaveOtherEnds : Edge → Edge → Type 0
HaveOtherEnds one other = one.from ≡ other.from → one.to ≢ other.to

abbrev pub leads_to_begun : History → Edge → Bool
leads_to_begun history edge = has_begun (status history edge.to)

-- just the edges of the dag, each once, by their kinds
pub record AreEdges (history : History) (edges : List Edge) : Type 0 where
  pub each_once : AllPairs HaveOtherEnds edges
  pub of_dag : (edge : Edge) → Contains edges edge ↔ EdgeOf edge.kind history edge.from edge.to
  -- in order of the events that made them
  pub in_order : edges ≡ filter (leads_to_begun history) (arrows history)

abbrev pub strand_of : Access → ℕ
strand_of access = access.request.strand

-- the accesses of these entries, by their strands
pub record AreAccesses (entries : List Entry) (accesses : List Access) : Type 0 where
  pub same : IsPermutation (accesses_told entries) accesses
  pub by_strand : IsNonDecreasingBy strand_of accesses
  -- those of one strand in order of entries
  pub in_order : IsStableByKey strand_of nat_cmp (accesses_told entries) accesses

-- the most strands of a drawing
abbrev pub most_strands : ℕ
most_strands = 10_000

-- the drawing of the entries, which are given from the oldest on
pub record IsDrawing (entries : List Entry) (drawing : Drawing) : Type 0 where
  pub strands : AreStrands (control_part (reverse entries)) drawing.strands.items
  pub few : length drawing.strands.items ≤ most_strands
  pub edges : AreEdges (control_part (reverse entries)) drawing.edges.items
  pub accesses : AreAccesses entries drawing.accesses.items
  pub races : drawing.races.items ≡ races_told entries

-- more strands have begun than a drawing may have
abbrev pub HasMoreStrands : History → Type 0
HasMoreStrands history = (strands : List ℕ) × AreStrands history strands × (most_strands < length strands)
