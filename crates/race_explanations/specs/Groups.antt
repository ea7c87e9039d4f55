-- What is told of races whose strands part at spawns on one line.
use Rattle.std.specs.Prelude.{ℕ, ◌==◌, ◌&&◌, ◌||◌, nat_lt, not, Bool, true, false, List, [], ◌∷◌, ◌++◌, codes, flat_map, length, take, Option, Some, None, slice_get, if◌then◌else◌}
use Rattle.source_quotes.specs.Quotes.{counted}
use Rattle.race_pairs.specs.declared.groups.Group.{Group}
use Rattle.race_explanations.specs.declared.case.Case.{Case}
use Rattle.race_explanations.specs.declared.case.Course.{Course}
use Rattle.race_explanations.specs.Settings.{Origin, in_program, in_trace, Setting}
use Rattle.race_explanations.specs.Cases.{course_of}
use Rattle.race_explanations.specs.Extents.{more_pairs}
use Rattle.race_explanations.specs.Paths.{line_words}
use Rattle.race_explanations.specs.Names.{are_in_one_call}
use Rattle.race_explanations.specs.Advice.{function_word, rounds_note, sync_note}
use Rattle.race_explanations.specs.Messages.{case_text, member_text}

-- what there are pairs of
abbrev pub pairs_words : Origin → List ℕ
pairs_words (in_program file source functions) = codes " of lines"
pairs_words (in_trace notes) = codes " of places"

-- ---- the races of a group

-- what is told of the case at a place, as of one that is alone
abbrev pub alone_of : Setting → (is_sure : Bool) → Option Case → List ℕ
alone_of setting is_sure (Some case) = case_text setting case is_sure
alone_of setting is_sure None = []

abbrev pub alone_at : Setting → List Case → (is_sure : Bool) → ℕ → List ℕ
alone_at setting cases is_sure place = alone_of setting is_sure (slice_get cases place)

abbrev pub alone_text : Setting → List Case → (is_sure : Bool) → (places : List ℕ) → List ℕ
alone_text setting cases is_sure places = flat_map (alone_at setting cases is_sure) places

-- as of one of several, of which is told once what would order them
abbrev pub member_of : Setting → Option Case → List ℕ
member_of setting (Some case) = member_text setting case
member_of setting None = []

abbrev pub member_at : Setting → List Case → ℕ → List ℕ
member_at setting cases place = member_of setting (slice_get cases place)

abbrev pub members_text : Setting → List Case → (places : List ℕ) → List ℕ
members_text setting cases places = flat_map (member_at setting cases) places

-- ---- where the spawner goes on

abbrev pub course_if : Setting → Option Case → List Course
course_if setting (Some case) = course_of setting case.encounter ∷ []
course_if setting None = []

abbrev pub course_at : Setting → List Case → ℕ → List Course
course_at setting cases place = course_if setting (slice_get cases place)

abbrev pub courses_of : Setting → List Case → (places : List ℕ) → List Course
courses_of setting cases places = flat_map (course_at setting cases) places

-- the one of the two whose spawner goes on to the lesser line, and the first where these are one
abbrev pub before : Option Course → Course → Course
before (Some best) course = if nat_lt course.line best.line then course else best
before None course = course

-- the same of such whose spawner goes on to another line than that of the spawn
abbrev pub nearer : Option Course → Course → Option Course
nearer best course = if course.is_round then best else Some (before best course)

-- the first of those whose spawner goes on to the least line, which is another than that of the spawn
abbrev pub first_among : Option Course → List Course → Option Course
first_among best [] = best
first_among best (course ∷ courses) = first_among (nearer best course) courses

-- A sync before the line of the first one stands before where the spawner of the other goes on: on that line; or the two part at one spawn
-- and so in one call, and the other goes on behind the first one.
abbrev pub is_ordered : Course → Course → Bool
is_ordered first course =
    if course.line == first.line then true else (if course.spawn == first.spawn then not (nat_lt course.onward first.onward) else false)

-- some are not, or were found before
abbrev pub leaves_open : Course → (found : Bool) → List Course → Bool
leaves_open first found [] = found
leaves_open first found (course ∷ courses) = leaves_open first (found || not (is_ordered first course)) courses

-- the spawner of some goes on to the line of the spawn, or that was found before
abbrev pub has_round : (found : Bool) → List Course → Bool
has_round found [] = found
has_round found (course ∷ courses) = has_round (found || course.is_round) courses

-- The sync is known to stand in the call that spawns, and orders them all.
abbrev pub is_sure : Setting → (line : ℕ) → Course → List Course → Bool
is_sure setting line first courses = are_in_one_call setting.origin line first.line && not (leaves_open first false courses)

abbrev pub is_sure_of : Setting → (line : ℕ) → Option Course → List Course → Bool
is_sure_of setting line (Some first) courses = is_sure setting line first courses
is_sure_of setting line None courses = false

-- The sync that is told of the races at these places, which part at spawns on a line, orders them all.
abbrev pub is_sure_at : Setting → List Case → (line : ℕ) → (places : List ℕ) → Bool
is_sure_at setting cases line places =
    is_sure_of setting line (first_among None (courses_of setting cases places)) (courses_of setting cases places)

abbrev pub is_sure_by : Setting → List Case → Option ℕ → (places : List ℕ) → Bool
is_sure_by setting cases (Some line) places = is_sure_at setting cases line places
is_sure_by setting cases None places = false

-- the same of a group
abbrev pub is_group_sure : Setting → List Case → Group → Bool
is_group_sure setting cases group = is_sure_by setting cases group.spawn group.places.items

-- ---- what is told before them and behind them

-- beside what runs what is spawned on a line
abbrev pub beside_text : Setting → (line : ℕ) → Option Course → List ℕ
beside_text setting line (Some first) =
    codes "what " ++ function_word setting line ++ codes " does from " ++ line_words setting.origin first.line ++ codes " on\n"
beside_text setting line None = codes "what is spawned there again\n"

-- how many they are, and what runs beside what
abbrev pub first_text : Setting → (line count : ℕ) → Option Course → List ℕ
first_text setting line count first =
    counted count (codes "pair") ++ pairs_words setting.origin ++ codes " part at one spawn: what is spawned at " ++
    line_words setting.origin line ++ codes " runs beside " ++ beside_text setting line first

-- what orders those whose spawner goes on to the line of the spawn
abbrev pub rounds_text : Setting → List Course → List ℕ
rounds_text setting courses = if has_round false courses then rounds_note setting else []

-- the sync that orders the others
abbrev pub sync_text : Setting → (line : ℕ) → Option Course → List Course → List ℕ
sync_text setting line (Some first) courses = sync_note setting line first.line (is_sure setting line first courses)
sync_text setting line None courses = []

-- how many they are, and what orders them
abbrev pub head_text : Setting → (line count : ℕ) → List Course → List ℕ
head_text setting line count courses =
    first_text setting line count (first_among None courses) ++ rounds_text setting courses ++
    sync_text setting line (first_among None courses) courses ++ codes "\n"

-- how many are not shown
abbrev pub behind_text : Origin → (most count : ℕ) → List ℕ
behind_text origin most count =
    more_pairs most count (pairs_words origin) (codes " that part there (--all shows them)\n\n")

-- several races that part at spawns on one line: so many are shown at most
abbrev pub many_text : Setting → (most : ℕ) → List Case → (line : ℕ) → (places : List ℕ) → List ℕ
many_text setting most cases line places =
    head_text setting line (length places) (courses_of setting cases places) ++ members_text setting cases (take most places) ++
    behind_text setting.origin most (length places)

-- one that is alone is told as if there were no groups
abbrev pub text_at_line : Setting → (most : ℕ) → List Case → (line : ℕ) → (places : List ℕ) → List ℕ
text_at_line setting most cases line places =
    if nat_lt 1 (length places)
    then many_text setting most cases line places
    else alone_text setting cases (is_sure_at setting cases line places) places

abbrev pub text_by : Setting → (most : ℕ) → List Case → Option ℕ → (places : List ℕ) → List ℕ
text_by setting most cases (Some line) places = text_at_line setting most cases line places
text_by setting most cases None places = alone_text setting cases false places

-- the races of a group
abbrev pub group_text : Setting → (most : ℕ) → List Case → Group → List ℕ
group_text setting most cases group = text_by setting most cases group.spawn group.places.items

-- all groups, in their order
abbrev pub groups_text : Setting → (most : ℕ) → List Case → List Group → List ℕ
groups_text setting most cases groups = flat_map (group_text setting most cases) groups
