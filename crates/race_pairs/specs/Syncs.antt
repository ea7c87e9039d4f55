-- What a sync orders where the spawner of a race goes on.
use Rattle.std.specs.Prelude.{◌≡◌, ◌<◌, ℕ, suc, List, ◌∷◌, ◌++◌, length, reverse, Option, IfSome}
use Rattle.model_strands.specs.History.{Event, History}
use Rattle.model_strands.specs.Strands.{Running, Begun}
use Rattle.model_strands.specs.Blocks.{Stack, block, stack}
use Rattle.model_strands.specs.Legal.{Legal}
use Rattle.model_strands.specs.Dag.{Reaches}
use Rattle.model_strands.specs.Extensions.{Extends}
use Rattle.law_strands.specs.Acts.{syncs, Answers}
use Rattle.model_histories.specs.declared.answer.Entry.{Entry}
use Rattle.model_histories.specs.Entries.{Entries, control_part}
use Rattle.race_pairs.specs.declared.lineage.Parting.{Parting}
use Rattle.race_pairs.specs.Frames.{frames}

-- the strand syncs next, and then the history goes on in any way
abbrev pub GoesOnWithSync : History → ℕ → History → Type 0
GoesOnWithSync history strand longer =
    (event : Event) × Answers history strand syncs event × Extends longer (event ∷ history) × Legal longer

-- The strand may sync next, and its sync ends the block of the join, which goes on for it. Once the join has begun, what the child leads to
-- precedes the join and all that the join leads to, except what itself comes behind the join.
pub record SyncOrders (history : History) (strand child join : ℕ) : Type 0 where
  pub runs : Running history strand
  pub below : Stack
  pub in_block : stack history strand ≡ block join below
  pub goes_on : stack history join ≡ below
  pub orders : (longer : History) → GoesOnWithSync history strand longer → Begun longer join → (first second : ℕ) → Begun longer first →
      Reaches longer child first → (Reaches longer join first → ⊥) → Reaches longer join second → Reaches longer first second

-- The entry with this number comes behind the spawn at which two strands part, on a way from its next to the strand on that side. The entry's
-- strand stands in the function of the spawner, and its sync in place of the entry orders what the child leads to.
pub record IsPlaceToSync (entries : Entries) (parting : Parting) (number : ℕ) : Type 0 where
  pub entry : Entry
  pub earlier : Entries
  pub later : Entries
  pub whole : later ++ entry ∷ earlier ≡ entries
  pub number_is : number ≡ suc (length earlier)
  pub is_behind : parting.entry < number
  pub from_next : Reaches (control_part entries) parting.spawned.next entry.request.strand
  pub to_access : Reaches (control_part entries) entry.request.strand parting.by_next
  pub in_function : frames earlier entry.request.strand ≡ frames earlier parting.spawner
  pub orders : SyncOrders (control_part earlier) entry.request.strand parting.spawned.child parting.spawned.join

-- where two strands part and an entry comes next on the side of the spawner, it is such a place
abbrev pub OrdersOnward : List Entry → Option Parting → Option ℕ → Type 0
OrdersOnward told parting onward = IfSome parting (λ parting. IfSome onward (IsPlaceToSync (reverse told) parting))
