-- What holds of all legal control histories.
use Rattle.std.specs.Prelude.{◌≡◌, ◌≢◌, ◌⊎◌, ◌↔◌, ◌<◌, ◌≤◌, ℕ, Bool, ◌∷◌, IsTrue, false}
use Rattle.model_strands.specs.Address.{Address}
use Rattle.law_addresses.specs.Address.{reaches, parallel, Reaches as AddressReaches, branch as branch_of_address}
use Rattle.law_addresses.specs.Dags.{IsStrandDag}
use Rattle.model_strands.specs.History.{Event, History}
use Rattle.model_strands.specs.Strands.{absent, status, Running, Begun, unused}
use Rattle.model_strands.specs.Blocks.{Stack, spawned, block, stack, IsSynced, Outstanding}
use Rattle.model_strands.specs.Legal.{Legal}
use Rattle.model_strands.specs.Dag.{Edge, Reaches, IsParallel}
use Rattle.model_strands.specs.Peers.{HaveSamePeers}
use Rattle.model_strands.specs.Addresses.{address}
use Rattle.law_strands.specs.Addresses.{IsEnglishBefore, IsHebrewBefore}
use Rattle.model_strands.specs.SerialOrder.{IsSeriallyBefore}
use Rattle.law_strands.specs.Lists.{place_in, english_items, hebrew_items}
use Rattle.law_strands.specs.Branches.{branch}
use Rattle.law_strands.specs.Acts.{Act, returns, Answers}
use Rattle.model_strands.specs.Extensions.{Extends, IsFinished}
use Rattle.law_strands.specs.Counts.{children_left}
use Rattle.law_strands.specs.Views.{Covers, IsSink}
use Rattle.law_strands.specs.Gatherings.{Begins, Gathers}

-- different strands have different addresses, and one reaches another exactly where its address is a prefix of the other's, or at the first
-- difference has `child` or `next` where the other's has `join`
abbrev pub AddressLaw : Type 0
AddressLaw =
    (history : History) → Legal history → (strand other : ℕ) → Begun history strand → Begun history other → strand ≢ other →
    (address history strand ≢ address history other) ×
    (Reaches history strand other ↔ AddressReaches (address history strand) (address history other))

-- the tests of addresses decide reach and parallel
abbrev pub AddressTestsLaw : Type 0
AddressTestsLaw =
    (history : History) → Legal history → (strand other : ℕ) → Begun history strand → Begun history other →
    (Reaches history strand other ↔ IsTrue (reaches (address history strand) (address history other))) ×
    (IsParallel history strand other ↔ IsTrue (parallel (address history strand) (address history other)))

-- no strand and no reserved join has a number exactly where it is the least unused one or greater
abbrev pub NumbersLaw : Type 0
NumbersLaw = (history : History) → Legal history → (number : ℕ) → (status history number ≡ absent) ↔ (unused history ≤ number)

-- a begun strand has this address
abbrev pub BegunAt : History → Address → Type 0
BegunAt history a = (strand : ℕ) × Begun history strand × (address history strand ≡ a)

-- an edge leads from the strand at the one address to that at the other
abbrev pub EdgeAt : History → Address → Address → Type 0
EdgeAt history a b = (strand : ℕ) × (other : ℕ) × Edge history strand other × (address history strand ≡ a) × (address history other ≡ b)

-- by the addresses of its strands the dag is one of strands that begin by spawns and at the ends of blocks; so addresses::laws::dag_law
-- speaks of it, by the tests that decide which strands and which edges there are
abbrev pub DagLaw : Type 0
DagLaw =
    (history : History) → Legal history →
    (begun : Address → Bool) × (edge : Address → Address → Bool) × ((a : Address) → IsTrue (begun a) ↔ BegunAt history a) ×
    ((a b : Address) → IsTrue (edge a b) ↔ EdgeAt history a b) × IsStrandDag (λ a. IsTrue (begun a)) (λ a b. IsTrue (edge a b))

-- what later events leave of a begun strand
pub record StaysSame (longer history : History) (strand : ℕ) : Type 0 where
  pub begun : Begun longer strand
  pub same_address : address longer strand ≡ address history strand
  pub same_branch : branch longer strand ≡ branch history strand

-- and of two of them
pub record StayOrdered (longer history : History) (strand other : ℕ) : Type 0 where
  pub reach : Reaches longer strand other ↔ Reaches history strand other
  pub english : IsEnglishBefore longer strand other ↔ IsEnglishBefore history strand other
  pub hebrew : IsHebrewBefore longer strand other ↔ IsHebrewBefore history strand other

-- later events change neither the address nor the branch of a begun strand, and neither reach nor order of two
abbrev pub StabilityLaw : Type 0
StabilityLaw =
    (history longer : History) → Extends longer history → Legal longer → (strand : ℕ) → Begun history strand →
    StaysSame longer history strand × ((other : ℕ) → Begun history other → StayOrdered longer history strand other)

-- the English order of the addresses is the serial order
abbrev pub SerialLaw : Type 0
SerialLaw =
    (history : History) → Legal history → (strand other : ℕ) → Begun history strand → Begun history other →
    IsSeriallyBefore history strand other ↔ IsEnglishBefore history strand other

-- a strand reaches another exactly where it is before it in both orders, and is parallel to it exactly where the orders disagree
abbrev pub OrdersLaw : Type 0
OrdersLaw =
    (history : History) → Legal history → (strand other : ℕ) → Begun history strand → Begun history other → strand ≢ other →
    (Reaches history strand other ↔ (IsEnglishBefore history strand other × IsHebrewBefore history strand other)) ×
    (IsParallel history strand other ↔
    ((IsEnglishBefore history strand other × IsHebrewBefore history other strand) ⊎
    (IsEnglishBefore history other strand × IsHebrewBefore history strand other)))

-- the lists that grow directly behind the spawner stand in the two orders, reserved joins included
abbrev pub ListsLaw : Type 0
ListsLaw =
    (history : History) → Legal history → (strand other : ℕ) → strand < unused history → other < unused history →
    ((place_in strand (english_items history) < place_in other (english_items history)) ↔ IsEnglishBefore history strand other) ×
    ((place_in strand (hebrew_items history) < place_in other (hebrew_items history)) ↔ IsHebrewBefore history strand other)

-- each act of a running strand has one answer, but for a return in a function with an open block
abbrev pub AnswerLaw : Type 0
AnswerLaw =
    (history : History) → Legal history → (strand : ℕ) → Running history strand → (act : Act) →
    (act ≡ returns → IsSynced (stack history strand)) →
    (event : Event) × Answers history strand act event × ((other : Event) → Answers history strand act other → other ≡ event)

-- and that one has none
abbrev pub UnsyncedLaw : Type 0
UnsyncedLaw =
    (history : History) (strand join : ℕ) (below : Stack) → stack history strand ≡ block join below → (event : Event) →
    Answers history strand returns event → ⊥

-- branches are equal exactly where the peers are the same, now and in every legal extension
abbrev pub BranchLaw : Type 0
BranchLaw =
    (history : History) → Legal history → (strand other : ℕ) → Begun history strand → Begun history other →
    (longer : History) → Extends longer history → Legal longer →
    (branch history strand ≡ branch history other) ↔ HaveSamePeers longer strand other

-- so branches are equal where the peers are the same in every finished extension, and differ where they differ in every finished extension
abbrev pub FinishedBranchLaw : Type 0
FinishedBranchLaw =
    (history : History) → Legal history → (strand other : ℕ) → Begun history strand → Begun history other →
    ((branch history strand ≡ branch history other) ↔
    ((longer : History) → Extends longer history → Legal longer → IsFinished longer → HaveSamePeers longer strand other)) ×
    ((branch history strand ≢ branch history other) ↔
    ((longer : History) → Extends longer history → Legal longer → IsFinished longer → HaveSamePeers longer strand other → ⊥))

-- a branch stands for the address without the joins at its end
abbrev pub BranchAddressLaw : Type 0
BranchAddressLaw =
    (history : History) → Legal history → (strand other : ℕ) → Begun history strand → Begun history other →
    (branch history strand ≡ branch history other)
    ↔ (branch_of_address (address history strand) ≡ branch_of_address (address history other))

-- two histories agree on reach and on branches of strands at the same addresses
abbrev pub AcrossLaw : Type 0
AcrossLaw =
    (history second : History) → Legal history → Legal second → (strand other : ℕ) → Begun history strand → Begun history other →
    (strand' other' : ℕ) → Begun second strand' → Begun second other' →
    address history strand ≡ address second strand' → address history other ≡ address second other' →
    (Reaches history strand other ↔ Reaches second strand' other') ×
    ((branch history strand ≡ branch history other) ↔ (branch second strand' ≡ branch second other'))

-- the count of a block is 0 exactly where no child is outstanding, and 1 exactly where the function of a running strand is the last one
abbrev pub CountLaw : Type 0
CountLaw =
    (history : History) → Legal history →
    ((join : ℕ) → (children_left history join ≡ 0) ↔ ((number : ℕ) → Outstanding history number join → ⊥)) ×
    ((strand number join : ℕ) → Running history strand → stack history strand ≡ spawned number join →
    (children_left history join ≡ 1) ↔ ((other : ℕ) → Outstanding history other join → other ≡ number))

-- views, as those of the strands from which no edge leads on yet
pub record ViewsAreSerial (history : History) : Type 0 where
  -- each begun strand is in the view of such a strand
  pub seated : (strand : ℕ) → Begun history strand → (viewer : ℕ) × IsSink history viewer × Covers history viewer strand
  -- what a view holds is begun and reaches its strand
  pub within : (viewer strand : ℕ) → Begun history viewer → Covers history viewer strand →
      Begun history strand × Reaches history strand viewer
  -- the views of two such strands stand one behind the other in the serial order
  pub ordered : (viewer later strand other : ℕ) → IsSink history viewer → IsSink history later → IsEnglishBefore history viewer later →
      Covers history viewer strand → Covers history later other → IsEnglishBefore history strand other
  -- such a view holds all that lies between an earlier strand of its branch and its own strand
  pub whole : (first between viewer : ℕ) → Begun history first → IsSink history viewer → branch history first ≡ branch history viewer →
      Reaches history first between → Reaches history between viewer → Covers history viewer between

abbrev pub ViewLaw : Type 0
ViewLaw = (history : History) → Legal history → ViewsAreSerial history

-- a join gathers, when it begins, just the strands that arrive at it, in serial order
abbrev pub GatheringLaw : Type 0
GatheringLaw =
    (history : History) (event : Event) (join : ℕ) → Legal (event ∷ history) → Begins event join → Gathers (event ∷ history) join

-- a join stands where the strand stands, below the block, that ends the block by its sync
abbrev pub JoinLaw : Type 0
JoinLaw =
    (history : History) → Legal history → (strand join : ℕ) (below : Stack) → Running history strand →
    stack history strand ≡ block join below → stack history join ≡ below

-- a running strand reaches no other strand
abbrev pub RunningLaw : Type 0
RunningLaw =
    (history : History) → Legal history → (strand other : ℕ) → Running history strand → Reaches history strand other → strand ≡ other

-- so its address reaches that of no other begun strand
abbrev pub RunningAddressLaw : Type 0
RunningAddressLaw =
    (history : History) → Legal history → (strand other : ℕ) → Running history strand → Begun history other → strand ≢ other →
    reaches (address history strand) (address history other) ≡ false
