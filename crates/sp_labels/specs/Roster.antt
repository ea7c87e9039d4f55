-- What a value of strands shows, and the control histories that it follows.
use Rattle.std.specs.Prelude.{◌≡◌, ◌≢◌, ◌<◌, ◌≤◌, ◌+◌, ℕ, Bool, true, List, length, Option, Some, None, slice_index_or}
use Rattle.sp_labels.specs.declared.record.Standing.{Standing}
use Rattle.sp_labels.specs.declared.record.Standing.TheVariants.{Reserved, Awaited, Running, Over}
use Rattle.sp_labels.specs.declared.record.Scope.{Scope}
use Rattle.sp_labels.specs.declared.record.Scope.TheVariants.{Root, Child, Call, Block}
use Rattle.sp_labels.specs.declared.record.Record.{Record}
use Rattle.model_strands.specs.declared.spawned.Spawned.{Spawned}
use Rattle.sp_labels.specs.declared.answer.Synced.{Synced}
use Rattle.sp_labels.specs.declared.answer.Synced.TheVariants.{Same, Joined, Waits}
use Rattle.sp_labels.specs.declared.answer.Returned.{Returned}
use Rattle.sp_labels.specs.declared.answer.Returned.TheVariants.{Resumed, Ended, EndedJoined, Finished}
use Rattle.model_strands.specs.History.{Event, split, same, joined, waits, resumed, ended, ended_joined, finished, History}
use Rattle.model_strands.specs.Strands.{reserved, running, over, status, unused, Begun}
use Rattle.model_strands.specs.Blocks.{Stack, root, spawned, called, block, stack, IsWaitedFor}
use Rattle.model_strands.specs.Legal.{Legal}
use Rattle.law_strands.specs.Counts.{children_left}
use Rattle.law_strands.specs.Lists.{english_items, hebrew_items}
use Rattle.order_list.specs.Order.{most_items, IsNumbered, IsListing}

-- the strands by their numbers, the scopes of the callers by their keys, the strands in both orders, and whether an event
-- needs no memory
pub record Roster : Type 0 where
  pub records : List Record
  pub callers : List (Option Scope)
  pub english : List ℕ
  pub hebrew : List ℕ
  pub has_room : Bool

-- what the standing says of the number
abbrev pub IsStanding : History → ℕ → Standing → Type 0
IsStanding history strand Reserved = (status history strand ≡ reserved) × (IsWaitedFor history strand → ⊥)
IsStanding history strand Awaited = (status history strand ≡ reserved) × IsWaitedFor history strand
IsStanding history strand Running = status history strand ≡ running
IsStanding history strand Over = status history strand ≡ over

-- the scope is the top of the stack, and the scopes of the callers go on with what lies below, where `below_call` says which
-- stack the caller at each key stands in
abbrev pub StandsFor : List (Option Scope) → (ℕ → Stack) → Scope → Stack → Type 0
StandsFor callers below_call scope root = scope ≡ Root
StandsFor callers below_call scope (spawned number join) = scope ≡ Child join
StandsFor callers below_call scope (called number below) =
    (key : ℕ) × (caller : Scope) × (scope ≡ Call key) × (slice_index_or callers key None ≡ Some caller)
    × (below_call key ≡ below) × StandsFor callers below_call caller below
StandsFor callers below_call scope (block join below) = scope ≡ Block join

-- what is kept of the strand is what the history says of its number; where an ended strand stood is not kept
pub record IsRecord (callers : List (Option Scope)) (below_call : ℕ → Stack) (history : History) (strand : ℕ) (kept : Record) : Type 0 where
  pub standing : IsStanding history strand kept.standing
  pub scope : (status history strand ≡ over → ⊥) → StandsFor callers below_call kept.scope (stack history strand)
  pub children : kept.children_left ≡ children_left history strand

-- stands for no strand
abbrev pub no_record : Record
no_record = record { standing = Over; scope = Root; children_left = 0 }

abbrev pub record_at : List Record → ℕ → Record
record_at records strand = slice_index_or records strand no_record

-- the new records have this one of the strand, and the old ones of the others
pub record IsPut (old : List Record) (strand : ℕ) (kept : Record) (new : List Record) : Type 0 where
  pub len : length new ≡ length old
  pub here : record_at new strand ≡ kept
  pub others : (other : ℕ) → other ≢ strand → record_at new other ≡ record_at old other

-- the items are those wanted, each number below the count once
pub record IsOrder (items wanted : List ℕ) (count : ℕ) : Type 0 where
  pub same : items ≡ wanted
  pub len : length items ≡ count
  pub numbered : IsNumbered items
  pub listing : IsListing items

-- the roster is what this legal history has led to
pub record Follows (roster : Roster) (history : History) : Type 0 where
  pub legal : Legal history
  pub count : length roster.records ≡ unused history
  pub below_call : ℕ → Stack
  pub each : (strand : ℕ) → strand < length roster.records →
      IsRecord roster.callers below_call history strand (record_at roster.records strand)
  pub english : IsOrder roster.english (english_items history) (length roster.records)
  pub hebrew : IsOrder roster.hebrew (hebrew_items history) (length roster.records)

-- some history is followed
abbrev pub FollowsSome : Roster → Type 0
FollowsSome roster = (history : History) × Follows roster history

-- the strand has begun in a history that the roster follows
abbrev pub HasBegun : Roster → ℕ → Type 0
HasBegun roster strand = (history : History) × Follows roster history × Begun history strand

-- fewer than three numbers are left for strands
abbrev pub HasFewLeft : History → Type 0
HasFewLeft history = most_items < unused history + 3

abbrev pub event_of_spawn : ℕ → Spawned → Event
event_of_spawn strand answer = split strand answer.child answer.next answer.join answer.first

abbrev pub event_of_sync : ℕ → Synced → Event
event_of_sync strand Same = same strand
event_of_sync strand (Joined join) = joined strand join
event_of_sync strand Waits = waits strand

abbrev pub event_of_return : ℕ → Returned → Event
event_of_return strand Resumed = resumed strand
event_of_return strand Ended = ended strand
event_of_return strand (EndedJoined join) = ended_joined strand join
event_of_return strand Finished = finished strand

-- so many callers have keys of 32 bits
abbrev pub most_callers : ℕ
most_callers = 4294967296

-- how many records and callers there are and may be, and how many items more the two orders may have
pub record Fill : Type 0 where
  pub records : ℕ
  pub records_fit : ℕ
  pub callers : ℕ
  pub callers_fit : ℕ
  pub english : ℕ
  pub hebrew : ℕ

-- with room, an event finds all that it needs
abbrev pub IsReady : Bool → Fill → Type 0
IsReady has_room fill =
    has_room ≡ true →
    (fill.records + 3 ≤ fill.records_fit) × (fill.callers + 1 ≤ fill.callers_fit) × (fill.callers_fit ≤ most_callers) × (3 ≤ fill.english) × (3 ≤ fill.hebrew)
