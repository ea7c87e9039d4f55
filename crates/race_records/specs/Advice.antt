-- Where two strands part, and what would order them.
use Rattle.std.specs.Prelude.{ℕ, Bool, true, false, codes, Option, Some, None, unwrap_or}
use Rattle.serde_json.specs.Data.{Data, null, object, member, no_members}
use Rattle.race_pairs.specs.declared.lineage.Parting.{Parting}
use Rattle.race_pairs.specs.declared.lineage.OpenSpawn.{OpenSpawn}
use Rattle.race_pairs.specs.Refusals.{line_in}
use Rattle.race_pairs.specs.declared.refusal.Reason.{Reason}
use Rattle.race_pairs.specs.declared.refusal.Reason.TheVariants.{Race, ViewRead}
use Rattle.race_pairs.specs.declared.race.Pair.{Pair}
use Rattle.race_pairs.specs.declared.encounter.Encounter.{Encounter}
use Rattle.race_explanations.specs.Settings.{Setting}
use Rattle.race_explanations.specs.Advice.{line_on}
use Rattle.race_explanations.specs.Messages.{help_of}
use Rattle.race_records.specs.Values.{text_or_null}
use Rattle.race_records.specs.Sites.{site_told}
use Rattle.race_records.specs.Accesses.{place_told}

-- ---- places

-- the spawn where two strands part, and whither its child and its next strand come
abbrev pub parting_told : Setting → Pair → (refused : ℕ) → ℕ → Option Parting → Data
parting_told setting pair refused onward (Some parting) =
    object (member (codes "child") (site_told setting.origin (line_on pair refused parting.by_child))
    (member (codes "next") (site_told setting.origin onward)
    (member (codes "spawn") (place_told setting parting.entry) no_members)))
parting_told setting pair refused onward None = null

-- the spawn that is outstanding at one of two reads and not at the other
abbrev pub outstanding_told : Setting → Pair → (refused : ℕ) → Option OpenSpawn → Data
outstanding_told setting pair refused (Some spawn) =
    object (member (codes "at") (site_told setting.origin (line_on pair refused spawn.parallel))
    (member (codes "not_at") (site_told setting.origin (line_on pair refused spawn.ordered))
    (member (codes "spawn") (place_told setting spawn.entry) no_members)))
outstanding_told setting pair refused None = null

-- ---- of a pair

-- where the next strand of the spawn goes on
abbrev pub onward_line : Setting → Encounter → ℕ
onward_line setting encounter = line_in setting.lines (unwrap_or encounter.onward 0)

-- what orders the two, as it is told to a person
abbrev pub help_told : Reason → Setting → Pair → Encounter → (is_sure : Bool) → Data
help_told reason setting pair encounter is_sure = text_or_null (help_of reason setting pair encounter is_sure)

-- the two strands of a race part at a spawn
abbrev pub parting_of : Reason → Setting → Pair → Encounter → Data
parting_of (Race earlier refused) setting pair encounter =
    parting_told setting pair encounter.refused.strand (onward_line setting encounter) encounter.parting
parting_of reason setting pair encounter = null

-- a spawn is outstanding at one of the two reads of a view-read race
abbrev pub outstanding_of : Reason → Setting → Pair → Encounter → Data
outstanding_of ViewRead setting pair encounter = outstanding_told setting pair encounter.refused.strand encounter.outstanding
outstanding_of reason setting pair encounter = null

-- ---- all of it

-- how the two strands of a pair stand to each other; what orders them where a sync is sure to, and where it is not
pub record AdviceParts : Type 0 where
  pub sure_help : Data
  pub open_help : Data
  pub outstanding : Data
  pub parting : Data

abbrev pub advice_of : Reason → Setting → Pair → Encounter → AdviceParts
advice_of reason setting pair encounter = record {
  sure_help = help_told reason setting pair encounter true;
  open_help = help_told reason setting pair encounter false;
  outstanding = outstanding_of reason setting pair encounter;
  parting = parting_of reason setting pair encounter;
}
