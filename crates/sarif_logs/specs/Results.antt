-- The results of a log: what is told of warnings, races, faults of a text and an illegal request.
use Rattle.std.specs.Prelude.{ℕ, ◌==◌, List, [], ◌++◌, codes}
use Rattle.std.specs.List.{before_first, after_first}
use Rattle.serde_json.specs.Data.{Data, Members, string, array, object, item, no_items, member, no_members}
use Rattle.serde_json.specs.View.{items_of}
use Rattle.sarif_logs.specs.declared.rule.Rule.{Rule}
use Rattle.sarif_logs.specs.declared.rule.Rule.TheVariants.{TextFault, IllegalRequest}
use Rattle.sarif_logs.specs.Reading.{text_at, words_at, count_at, member_at}
use Rattle.sarif_logs.specs.Places.{PlaceParts, place_of, place_at, text_told, count_told, location_told}
use Rattle.sarif_logs.specs.Accesses.{access_at}
use Rattle.sarif_logs.specs.Messages.{race_words, help_words}
use Rattle.sarif_logs.specs.Related.{related_of}
use Rattle.sarif_logs.specs.Rules.{texts, level, number, rule_named}

-- which rule is broken, where, and how often
abbrev pub result_members : Rule → PlaceParts → (times : ℕ) → Members
result_members rule place times =
    member (codes "level") (string (level rule))
    (member (codes "locations") (array (item (location_told place) no_items))
    (member (codes "occurrenceCount") (count_told times)
    (member (codes "ruleId") (string (texts rule).id)
    (member (codes "ruleIndex") (count_told (number rule)) no_members))))

abbrev pub result_told : Rule → (message : Data) → PlaceParts → (related : List Data) → (properties : Data) → (times : ℕ) → Data
result_told rule message place related properties times =
    object (member (codes "level") (string (level rule))
    (member (codes "locations") (array (item (location_told place) no_items))
    (member (codes "message") message
    (member (codes "occurrenceCount") (count_told times)
    (member (codes "properties") properties
    (member (codes "relatedLocations") (array (items_of related))
    (member (codes "ruleId") (string (texts rule).id)
    (member (codes "ruleIndex") (count_told (number rule)) no_members))))))))

-- ---- races

-- what a race has that no other member of a result tells
abbrev pub race_properties : Data → Data
race_properties race =
    object (member (codes "group") (count_told (count_at (codes "group") race))
    (member (codes "kind") (string (words_at (codes "kind") race))
    (member (codes "locations") (member_at (codes "locations") race)
    (member (codes "refusedFurther") (count_told (access_at (codes "refused") race).further)
    (member (codes "spawnLine") (member_at (codes "spawn_line") race)
    (member (codes "witnessFurther") (count_told (access_at (codes "witness") race).further) no_members))))))

abbrev pub race_result : Data → Data
race_result race =
    result_told (rule_named (words_at (codes "rule") race)) (text_told (race_words race)) (access_at (codes "refused") race).place
    (related_of race) (race_properties race) (count_at (codes "times") race)

-- ---- warnings

abbrev pub warning_words : Data → List ℕ
warning_words warning = words_at (codes "message") warning ++ codes "."

abbrev pub warning_result : Data → Data
warning_result warning =
    result_told (rule_named (words_at (codes "rule") warning)) (text_told (warning_words warning)) (place_at (codes "place") warning) []
    (object no_members) 1

-- ---- faults

abbrev pub first_line : List ℕ → List ℕ
first_line text = before_first (λ byte. byte == 10) text

-- what stands in a line behind its first word
abbrev pub behind_word : List ℕ → List ℕ
behind_word line = after_first (λ byte. byte == 32) line

-- the title of what a person is told: what stands in its first line behind the first word
abbrev pub title_of : List ℕ → List ℕ
title_of rendered = behind_word (first_line rendered)

-- what a person is told, as a block of code of Markdown
abbrev pub quoted : List ℕ → List ℕ
quoted rendered = codes "```\n" ++ rendered ++ codes "```"

-- a message in words, and as a person is told it
abbrev pub told_twice : (words rendered : List ℕ) → Data
told_twice words rendered =
    object (member (codes "markdown") (string (quoted rendered)) (member (codes "text") (string words) no_members))

abbrev pub fault_words : (rendered : List ℕ) → List ℕ
fault_words rendered = title_of rendered ++ codes "."

-- what a fault has that no other member of a result tells
abbrev pub fault_properties : Data → Data
fault_properties fault = object (member (codes "cause") (string (words_at (codes "cause") fault)) no_members)

abbrev pub fault_result : Data → Data
fault_result fault =
    result_told TextFault (told_twice (fault_words (words_at (codes "rendered") fault)) (words_at (codes "rendered") fault)) (place_of fault) []
    (fault_properties fault) 1

-- ---- an illegal request

abbrev pub illegal_words : Data → List ℕ
illegal_words request = words_at (codes "message") request ++ codes "." ++ help_words (text_at (codes "help") request)

abbrev pub illegal_properties : Data → Data
illegal_properties request =
    object (member (codes "request") (count_told (count_at (codes "request") request))
    (member (codes "strand") (count_told (count_at (codes "strand") request)) no_members))

abbrev pub illegal_result : Data → Data
illegal_result request =
    result_told IllegalRequest (told_twice (illegal_words request) (words_at (codes "rendered") request)) (place_of request) []
    (illegal_properties request) 1
