-- What has become of a strand.
use Rattle.std.specs.Prelude.{◌≡◌, ℕ, suc, true, ◌∷◌, ◌++◌, length}
use Rattle.model_strands.specs.declared.spawned.Spawned.{Spawned}
use Rattle.model_strands.specs.Strands.{Status, absent, reserved, running, over, status}
use Rattle.model_histories.specs.declared.answer.Entry.{Entry}
use Rattle.model_histories.specs.Entries.{Entries, control_part}
use Rattle.race_pairs.specs.declared.standing.Effect.{Effect}
use Rattle.race_pairs.specs.declared.standing.Effect.TheVariants.{Begins, Ends, Reserves, Stays}
use Rattle.race_pairs.specs.declared.standing.Standing.{Standing}
use Rattle.race_pairs.specs.declared.standing.Standing.TheVariants.{Running, Ended, Reserved, Absent}
use Rattle.race_pairs.specs.Makers.{IsSpawn}

-- a strand's status behind an entry with this effect on it
abbrev pub status_behind : Effect → Status → Status
status_behind Begins old = running
status_behind Ends old = over
status_behind Reserves old = reserved
status_behind Stays old = old

-- The strand ended at the entry with this number: it asked there, ran until then, and is over from then on.
pub record IsEnd (entries : Entries) (number strand : ℕ) : Type 0 where
  pub earlier : Entries
  pub entry : Entry
  pub later : Entries
  pub whole : entries ≡ later ++ entry ∷ earlier
  pub number_is : number ≡ suc (length earlier)
  pub asked : entry.request.strand ≡ strand
  pub ran : status (control_part earlier) strand ≡ running
  pub ended : status (control_part (entry ∷ earlier)) strand ≡ over
  pub is_over : status (control_part entries) strand ≡ over

-- The spawn with this number opened the block whose join the strand is, which has not begun.
pub record IsKeptBack (entries : Entries) (number strand : ℕ) : Type 0 where
  pub spawner : ℕ
  pub spawned : Spawned
  pub spawn : IsSpawn entries number spawner spawned
  pub opens : spawned.first ≡ true
  pub join : spawned.join ≡ strand
  pub is_reserved : status (control_part entries) strand ≡ reserved

abbrev pub IsStanding : Entries → ℕ → Standing → Type 0
IsStanding entries strand Running = status (control_part entries) strand ≡ running
IsStanding entries strand (Ended number) = IsEnd entries number strand
IsStanding entries strand (Reserved number) = IsKeptBack entries number strand
IsStanding entries strand Absent = status (control_part entries) strand ≡ absent
