-- What is kept of the races of a history in place of its entries.
use Rattle.std.specs.Prelude.{◌≡◌, ◌<◌, ℕ, Bool, true, List, ◌∷◌, ◌++◌, length, map, reverse}
use Rattle.std.specs.List.{All}
use Rattle.model_histories.specs.declared.answer.Entry.{Entry}
use Rattle.model_histories.specs.Shapes.{Shape, most_entries}
use Rattle.model_histories.specs.Legal.{IsLegal}
use Rattle.model_races.specs.Judged.{IsJudged}
use Rattle.race_pairs.specs.Lineages.{IsLineage}
use Rattle.race_pairs.specs.declared.digest.Digest.{Digest}
use Rattle.race_pairs.specs.Refusals.{refusals_among}
use Rattle.race_pairs.specs.Known.{has_own}
use Rattle.race_pairs.specs.Kept.{AreKept}

-- The digest is that of these entries, the oldest first. Its races are those of the entries, whatever comes behind them.
pub record IsDigest (told : List Entry) (digest : Digest) : Type 0 where
  pub legal : (shape : Shape) × IsLegal shape (reverse told)
  pub lines : digest.lines.items ≡ map (λ entry. entry.request.line) told
  pub lineage : IsLineage digest.lineage (reverse told)
  pub refusals : digest.refusals ≡ refusals_among told
  pub races : (behind : List Entry) → AreKept (told ++ behind) (length told) digest.races

-- the entry may come behind these: the history that it ends is judged, and not longer than a gate's
abbrev pub IsNext : List Entry → Entry → Type 0
IsNext told entry = (shape : Shape) × IsJudged shape (entry ∷ reverse told) × (length told < most_entries)

-- the digest is one of entries no two of which have one line
abbrev pub is_of_own_lines : Digest → Bool
is_of_own_lines digest = has_own digest.races.known

-- how many pairs it keeps whole
abbrev pub most_of : Digest → ℕ
most_of digest = digest.races.most

-- the line of the entry lies behind those of these
abbrev pub HasOwnLine : List Entry → Entry → Type 0
HasOwnLine told entry = All (λ earlier. earlier.request.line < entry.request.line) told

-- the entry may come behind these, and has a line of its own where the digest is one of such entries
abbrev pub IsNextOf : Digest → List Entry → Entry → Type 0
IsNextOf digest told entry = IsNext told entry × (is_of_own_lines digest ≡ true → HasOwnLine told entry)
