-- The names of branches, and the control histories that they follow.
use Rattle.std.specs.Prelude.{◌≡◌, ◌↔◌, ◌<◌, ◌≤◌, ◌+◌, ◌∷◌, ℕ, Bool, true, List, length, slice_index_or}
use Rattle.model_strands.specs.History.{Event, split, joined, ended_joined, History}
use Rattle.model_strands.specs.Strands.{unused, Begun}
use Rattle.model_strands.specs.Legal.{Legal}
use Rattle.law_strands.specs.Branches.{branch}

-- The name of a strand's branch.
pub data BranchName : Type 0 where
  -- the strand has begun, and this number stands for its branch
  Given : (number : ℕ) → BranchName
  -- the join has not begun, and this number is kept for it
  Kept : (number : ℕ) → BranchName

-- The names of strands and of joins that have not begun, by their numbers, and whether the next event that begins strands
-- needs no memory.
pub record Names : Type 0 where
  pub names : List BranchName
  pub has_room : Bool

-- the number that stands for the branch
abbrev pub branch_number : BranchName → ℕ
branch_number (Given number) = number
branch_number (Kept number) = number

abbrev pub IsGiven : BranchName → Type 0
IsGiven (Given number) = Unit {0}
IsGiven (Kept number) = ⊥

abbrev pub name_at : List BranchName → ℕ → BranchName
name_at names strand = slice_index_or names strand (Kept 0)

-- The names are those of a legal history: they are given to just the strands that have begun, and two of them have one
-- number just where they stand for one branch.
pub record Follows (branches : Names) (history : History) : Type 0 where
  pub legal : Legal history
  pub count : length branches.names ≡ unused history
  pub given : (strand : ℕ) → strand < length branches.names → IsGiven (name_at branches.names strand) ↔ Begun history strand
  pub below : (strand : ℕ) → strand < length branches.names → branch_number (name_at branches.names strand) < length branches.names
  pub agree : (first second : ℕ) → first < length branches.names → second < length branches.names →
      (branch_number (name_at branches.names first) ≡ branch_number (name_at branches.names second))
      ↔ (branch history first ≡ branch history second)

-- some history is followed
abbrev pub FollowsSome : Names → Type 0
FollowsSome branches = (history : History) × Follows branches history

-- what followed a history before follows it with the event now, where the event may come next
abbrev pub FollowsOn : Names → Names → Event → Type 0
FollowsOn old new event = (history : History) → Follows old history → Legal (event ∷ history) → Follows new (event ∷ history)

-- the strand has begun in a history that is followed
abbrev pub IsNamed : Names → ℕ → Type 0
IsNamed branches strand = (history : History) × Follows branches history × Begun history strand

-- the event may come next in a history that is followed
abbrev pub Takes : Names → Event → Type 0
Takes branches event = (history : History) × Follows branches history × Legal (event ∷ history)

-- the event begins the join
abbrev pub Begins : Event → ℕ → Type 0
Begins (joined strand begun) join = begun ≡ join
Begins (ended_joined strand begun) join = begun ≡ join
Begins _ join = ⊥

-- an event that begins the join may come next
abbrev pub TakesJoin : Names → ℕ → Type 0
TakesJoin branches join = (event : Event) × Begins event join × Takes branches event

-- the event begins no strand
abbrev pub BeginsNone : Event → Type 0
BeginsNone (split strand child next join first) = ⊥
BeginsNone (joined strand join) = ⊥
BeginsNone (ended_joined strand join) = ⊥
BeginsNone _ = Unit {0}

-- Names that follow a history follow it after any event that begins no strand.
abbrev pub OtherEventsLaw : Type 0
OtherEventsLaw =
    (branches : Names) (history : History) (event : Event) →
    Follows branches history → BeginsNone event → Legal (event ∷ history) → Follows branches (event ∷ history)

-- the numbers below this one have place in a name
abbrev pub most_numbers : ℕ
most_numbers = 2147483648

-- with room, an event finds all that it needs: places, and numbers
abbrev pub IsReady : Bool → (names names_fit : ℕ) → Type 0
IsReady has_room names names_fit = has_room ≡ true → (names + 3 ≤ names_fit) × (names + 3 ≤ most_numbers)
