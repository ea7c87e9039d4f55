-- Pairs of accesses of one cell that conflict, and cells of another history to which a pair does what it does.
use Rattle.std.specs.Prelude.{◌≡◌, ◌⊎◌, ℕ, Some, ◌∷◌, ◌++◌, Contains}
use Rattle.model_accesses.specs.declared.kind.Kind.{Kind}
use Rattle.model_accesses.specs.declared.kind.Rule.TheVariants.{Race}
use Rattle.model_accesses.specs.Table.{rule_between}
use Rattle.model_strands.specs.Address.{Address}
use Rattle.model_strands.specs.Addresses.{address}
use Rattle.model_strands.specs.History.{History}
use Rattle.model_strands.specs.Dag.{IsParallel}
use Rattle.model_histories.specs.declared.answer.Entry.{Entry}
use Rattle.model_histories.specs.Entries.{Entries, control_part}
use Rattle.model_races.specs.Accesses.{cell_access}
use Rattle.law_traces.specs.Locations.{access_of, HasRefusal}
use Rattle.law_traces.specs.Sets.{AccessesAt}

-- Two accesses of the cell conflict, granted or not, and no access of it that came between them conflicts with both.
pub record IsNear (entries : Entries) (cell : ℕ) (first : Entry) (kind : Kind) (second : Entry) (other_kind : Kind) : Type 0 where
  -- the entries that came after the two, between them and before them
  pub later : Entries
  pub between : Entries
  pub earlier : Entries
  pub stand : entries ≡ later ++ (second ∷ (between ++ (first ∷ earlier)))
  pub first_is : cell_access first.request.act ≡ Some (access_of kind cell)
  pub second_is : cell_access second.request.act ≡ Some (access_of other_kind cell)
  pub conflict : rule_between kind other_kind ≡ Race
  pub none_between : (entry : Entry) (third : Kind) → Contains between entry → cell_access entry.request.act ≡ Some (access_of third cell) →
      rule_between kind third ≡ Race → rule_between third other_kind ≡ Race → ⊥

-- in this dag two accesses of a near pair are of parallel strands
abbrev pub HasNearRaceAt : History → Entries → ℕ → Type 0
HasNearRaceAt dag entries cell =
    (first second : Entry) × (kind other_kind : Kind) × IsNear entries cell first kind second other_kind ×
    IsParallel dag first.request.strand second.request.strand

-- what a strand does to a cell
pub record Deed : Type 0 where
  pub strand : ℕ
  pub kind : Kind

abbrev pub deed : ℕ → Kind → Deed
deed strand kind = record { strand = strand; kind = kind }

-- To the cell is done what two strands do, of these kinds and behind one address where theirs are behind another, and nothing else. The strands
-- are of the dag, and the cell may be of another history.
pub record StandsForPair (dag : History) (one other : Deed) (kept : Entries) (cell : ℕ) : Type 0 where
  pub front : Address
  pub kept_front : Address
  pub rest : Address
  pub other_rest : Address
  pub strand_at : address dag one.strand ≡ front ++ rest
  pub other_at : address dag other.strand ≡ front ++ other_rest
  pub done : AccessesAt kept (kept_front ++ rest) one.kind cell
  pub other_done : AccessesAt kept (kept_front ++ other_rest) other.kind cell
  pub only : (at : Address) (third : Kind) → AccessesAt kept at third cell →
      ((at ≡ kept_front ++ rest) × (third ≡ one.kind)) ⊎ ((at ≡ kept_front ++ other_rest) × (third ≡ other.kind))

-- what the strand of an entry does
abbrev pub deed_of : Entry → Kind → Deed
deed_of entry kind = deed entry.request.strand kind

-- For each near pair of the cell the other history has a cell that stands for it. Pairs of strands that are not parallel, as those of one
-- strand, need none.
abbrev pub HasItsPairs : Entries → ℕ → Entries → Type 0
HasItsPairs whole cell kept =
    (first second : Entry) (kind other_kind : Kind) → IsNear whole cell first kind second other_kind →
    IsParallel (control_part whole) first.request.strand second.request.strand →
    (pair_cell : ℕ) × StandsForPair (control_part whole) (deed_of first kind) (deed_of second other_kind) kept pair_cell

-- some access of a cell that stands for a near pair is refused
abbrev pub HasRefusedPair : Entries → ℕ → Entries → Type 0
HasRefusedPair whole cell kept =
    (first second : Entry) × (kind other_kind : Kind) × (pair_cell : ℕ) × IsNear whole cell first kind second other_kind ×
    StandsForPair (control_part whole) (deed_of first kind) (deed_of second other_kind) kept pair_cell × HasRefusal kept pair_cell
