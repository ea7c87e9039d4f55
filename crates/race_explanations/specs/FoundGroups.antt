-- Findings of several traces, told together where they part at one spawn.
use Rattle.std.specs.Prelude.{ℕ, zero, suc, ◌==◌, ◌&&◌, ◌||◌, nat_lt, not, Bool, false, List, [], ◌∷◌, ◌++◌, codes, flat_map, length, take}
use Rattle.std.specs.Prelude.{Option, Some, None, option_and_then, slice_get, if◌then◌else◌}
use Rattle.std.specs.Option.{option_or}
use Rattle.std.specs.Str.{bytes_eq}
use Rattle.source_quotes.specs.Quotes.{counted}
use Rattle.race_explanations.specs.declared.lead.Lead.{Lead}
use Rattle.race_explanations.specs.declared.finding.Finding.{Finding}
use Rattle.race_explanations.specs.Advice.{order_words}
use Rattle.race_explanations.specs.Extents.{more_pairs}
use Rattle.race_explanations.specs.FindingTexts.{finding_text, member_finding}

-- ---- groups

-- the spawn at which the finding at a place parts
abbrev pub lead_at : List Finding → ℕ → Option Lead
lead_at findings place = option_and_then (λ finding. finding.lead) (slice_get findings place)

abbrev pub spawn_words : Option Lead → List ℕ
spawn_words (Some lead) = lead.spawn.items
spawn_words None = []

-- both part at spawns that are told alike
abbrev pub is_one_spawn : Option Lead → Option Lead → Bool
is_one_spawn (Some one) (Some other) = bytes_eq one.spawn.items other.spawn.items
is_one_spawn (Some one) None = false
is_one_spawn None other = false

abbrev pub are_of_one_spawn : List Finding → (one other : ℕ) → Bool
are_of_one_spawn findings one other = is_one_spawn (lead_at findings one) (lead_at findings other)

-- one of the first so many findings parts at the same spawn
abbrev pub is_joined : List Finding → (count place : ℕ) → Bool
is_joined findings zero place = false
is_joined findings (suc count) place = is_joined findings count place || are_of_one_spawn findings count place

-- one that is behind another and parts at the same spawn
abbrev pub joined_at : List Finding → (first place : ℕ) → List ℕ
joined_at findings first place = if nat_lt first place && are_of_one_spawn findings first place then place ∷ [] else []

-- those behind one among the first so many that part at the same spawn
abbrev pub joined_behind : List Finding → (count first : ℕ) → List ℕ
joined_behind findings zero first = []
joined_behind findings (suc count) first = joined_behind findings count first ++ joined_at findings first count

-- the group that a finding begins
abbrev pub group_from : List Finding → (first : ℕ) → List ℕ
group_from findings first = first ∷ joined_behind findings (length findings) first

-- A finding begins a group that parts at no spawn, or at another than all before it.
abbrev pub group_at : List Finding → (place : ℕ) → List (List ℕ)
group_at findings place = if is_joined findings place place then [] else group_from findings place ∷ []

-- the groups that the first so many findings begin
abbrev pub groups_among : List Finding → (count : ℕ) → List (List ℕ)
groups_among findings zero = []
groups_among findings (suc count) = groups_among findings count ++ group_at findings count

abbrev pub groups_of : List Finding → List (List ℕ)
groups_of findings = groups_among findings (length findings)

-- ---- what orders a group

abbrev pub line_of_lead : Option Lead → ℕ
line_of_lead (Some lead) = lead.course.line
line_of_lead None = 0

-- the one of the two whose spawner goes on to the lesser line, and the first where these are one
abbrev pub before_place : List Finding → (best : Option ℕ) → (place line : ℕ) → ℕ
before_place findings (Some best) place line = if nat_lt line (line_of_lead (lead_at findings best)) then place else best
before_place findings None place line = place

-- the same of such whose spawner goes on to another line than that of the spawn
abbrev pub nearer_lead : List Finding → (best : Option ℕ) → ℕ → Option Lead → Option ℕ
nearer_lead findings best place (Some lead) = if lead.course.is_round then best else Some (before_place findings best place lead.course.line)
nearer_lead findings best place None = best

abbrev pub nearer_place : List Finding → (best : Option ℕ) → ℕ → Option ℕ
nearer_place findings best place = nearer_lead findings best place (lead_at findings place)

-- the place of the first finding whose spawner goes on to the least line, which is another than that of the spawn
abbrev pub first_place : List Finding → (best : Option ℕ) → (places : List ℕ) → Option ℕ
first_place findings best [] = best
first_place findings best (place ∷ places) = first_place findings (nearer_place findings best place) places

-- the other goes on behind the first one in one call of one trace, since they part at one spawn of it
abbrev pub is_behind : (first other : Lead) → Bool
is_behind first other =
    (other.trace == first.trace && other.course.spawn == first.course.spawn) && not (nat_lt other.course.onward first.course.onward)

-- A sync before the place of the first one stands before where the spawner of the other goes on: at a place that is told alike, or behind it.
abbrev pub is_ordered_behind : Option Lead → Option Lead → Bool
is_ordered_behind (Some first) (Some other) = bytes_eq other.onward.items first.onward.items || is_behind first other
is_ordered_behind (Some first) None = false
is_ordered_behind None other = false

abbrev pub is_ordered_place : List Finding → (first other : ℕ) → Bool
is_ordered_place findings first other = is_ordered_behind (lead_at findings first) (lead_at findings other)

-- some are not, or were found before
abbrev pub leaves_open_place : List Finding → (first : ℕ) → (found : Bool) → (places : List ℕ) → Bool
leaves_open_place findings first found [] = found
leaves_open_place findings first found (place ∷ places) =
    leaves_open_place findings first (found || not (is_ordered_place findings first place)) places

abbrev pub is_round_lead : Option Lead → Bool
is_round_lead (Some lead) = lead.course.is_round
is_round_lead None = false

abbrev pub round_at : List Finding → ℕ → Option ℕ
round_at findings place = if is_round_lead (lead_at findings place) then Some place else None

-- the place of the first finding whose spawner goes on to the line of the spawn, or the one that was found before
abbrev pub round_place : List Finding → (found : Option ℕ) → (places : List ℕ) → Option ℕ
round_place findings found [] = found
round_place findings found (place ∷ places) = round_place findings (option_or found (round_at findings place)) places

abbrev pub is_within_lead : Option Lead → Bool
is_within_lead (Some lead) = lead.is_within
is_within_lead None = false

-- The sync that is told of the first one is known to stand in the call that spawns, and orders all at these places.
abbrev pub is_sure_first : List Finding → Option ℕ → (places : List ℕ) → Bool
is_sure_first findings (Some first) places = is_within_lead (lead_at findings first) && not (leaves_open_place findings first false places)
is_sure_first findings None places = false

abbrev pub are_sure : List Finding → (places : List ℕ) → Bool
are_sure findings places = is_sure_first findings (first_place findings None places) places

-- ---- what is told of a group

abbrev pub beside_words : Option Lead → List ℕ
beside_words (Some lead) = lead.beside.items
beside_words None = codes "what is spawned there again\n"

-- beside what runs what is spawned there
abbrev pub found_beside : List Finding → Option ℕ → List ℕ
found_beside findings (Some first) = beside_words (lead_at findings first)
found_beside findings None = beside_words None

-- how many they are, and what runs beside what
abbrev pub found_first : List Finding → (head count : ℕ) → Option ℕ → List ℕ
found_first findings head count first =
    counted count (codes "pair") ++ codes " of places part at one spawn: what is spawned at " ++ spawn_words (lead_at findings head) ++
    codes " runs beside " ++ found_beside findings first

abbrev pub rounds_words : Option Lead → List ℕ
rounds_words (Some lead) = lead.rounds.items
rounds_words None = []

-- what orders those whose spawner goes on to the line of the spawn
abbrev pub found_rounds : List Finding → Option ℕ → List ℕ
found_rounds findings (Some place) = rounds_words (lead_at findings place)
found_rounds findings None = []

abbrev pub sync_words : Option Lead → (is_sure : Bool) → List ℕ
sync_words (Some lead) is_sure = lead.sync.items ++ order_words is_sure ++ codes "\n"
sync_words None is_sure = []

-- the sync that orders the others
abbrev pub found_sync : List Finding → Option ℕ → (places : List ℕ) → List ℕ
found_sync findings (Some first) places = sync_words (lead_at findings first) (is_sure_first findings (Some first) places)
found_sync findings None places = []

-- how many they are, and what orders them
abbrev pub found_head : List Finding → (head : ℕ) → (places : List ℕ) → List ℕ
found_head findings head places =
    found_first findings head (length places) (first_place findings None places) ++ found_rounds findings (round_place findings None places) ++
    found_sync findings (first_place findings None places) places ++ codes "\n"

abbrev pub member_words : Option Finding → List ℕ
member_words (Some finding) = member_finding finding
member_words None = []

abbrev pub found_member : List Finding → ℕ → List ℕ
found_member findings place = member_words (slice_get findings place)

-- how many are not shown
abbrev pub found_behind : (most count : ℕ) → List ℕ
found_behind most count =
    more_pairs most count (codes " of places") (codes " that part there (--all shows them)\n\n")

abbrev pub found_many : (most : ℕ) → List Finding → (head : ℕ) → (places : List ℕ) → List ℕ
found_many most findings head places =
    found_head findings head places ++ flat_map (found_member findings) (take most places) ++ found_behind most (length places)

abbrev pub alone_words : Option Finding → (is_sure : Bool) → List ℕ
alone_words (Some finding) is_sure = finding_text finding is_sure
alone_words None is_sure = []

abbrev pub found_alone : List Finding → (head : ℕ) → (places : List ℕ) → List ℕ
found_alone findings head places = alone_words (slice_get findings head) (are_sure findings places)

-- a group, of which so many are shown at most
abbrev pub found_group : (most : ℕ) → List Finding → (places : List ℕ) → List ℕ
found_group most findings [] = []
found_group most findings (head ∷ places) =
    if nat_lt 0 (length places) then found_many most findings head (head ∷ places) else found_alone findings head (head ∷ places)

-- all groups, in the order of their first findings
abbrev pub found_groups_text : (most : ℕ) → List Finding → List ℕ
found_groups_text most findings = flat_map (found_group most findings) (groups_of findings)
