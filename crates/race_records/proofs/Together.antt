-- What is told of several traces together.
use Rattle.std.proofs.Common.{◌≡◌, ℕ, Bool, suc, ◌+◌, ◌<◌, ◌≤◌, List, [], ◌∷◌, ◌++◌, Option, Some, None, length, min, take, drop, map, get_or, refl, sym, ap, ap₂, ◌∙◌, append_assoc, append-nil, arith}
use Rattle.std.specs.Prelude.{slice_get, option_map}
use Rattle.std.specs.List.{AllZip}
use Rattle.std.specs.Global.{Vec}
use Rattle.std.proofs.lemmas.List.{take-map, drop_more, map-append}
use Rattle.std.proofs.lemmas.Option.{slice_get_past, slice_get_read, slice_get-map}
use Rattle.serde_json.specs.Data.{Data, null}
use Rattle.serde_json.specs.View.{view}
use Rattle.serde_json.specs.declared.value.Value.{Value}
use Rattle.race_explanations.specs.declared.finding.Finding.{Finding}
use Rattle.race_explanations.specs.declared.extent.Extent.{Extent}
use Rattle.race_explanations.specs.Extents.{most_pairs}
use Rattle.race_explanations.proofs.Telling.{first_of_all}
use Rattle.race_records.specs.declared.race.Race.{Race}
use Rattle.race_records.specs.RaceViews.{race_parts}
use Rattle.race_records.specs.Warned.{Warned, none_warned}
use Rattle.race_records.specs.Documents.{SummaryParts, document_told}
use Rattle.race_records.specs.Races.{RaceParts, race_told}
use Rattle.race_records.specs.Several.{Recorded, names_of, found_told, found_at, found_group, found_groups, races_told, summary_recorded, recorded_told}

abbrev pub items_of : Vec ℕ → List ℕ
items_of group = group.items

-- the copy of values
pub copied : (values copy : List Value) → AllZip (λ v w. view w ≡ view v) values copy → map view copy ≡ map view values
copied [] [] alike = refl
copied [] (one ∷ copy) alike = absurd alike
copied (value ∷ values) [] alike = absurd alike
copied (value ∷ values) (one ∷ copy) alike = ap₂ (λ (x : Data) (rest : List Data). x ∷ rest) alike.0 (copied values copy alike.1)

-- the first races
first_races : (races front : List Race) (most : ℕ) → front ≡ take (min (length races) most) races →
    map race_parts front ≡ take most (map race_parts races)
first_races races front most is =
    ap (map race_parts) (is ∙ first_of_all races most) ∙ sym (take-map race_parts most races)

-- the races that are told
pub races_first : (most limit : ℕ) (findings some : List Finding) (races front : List Race) (told : List Data) →
    most ≡ limit → some ≡ take (min (length findings) most) findings → front ≡ take (min (length races) most) races →
    told ≡ races_told some (map race_parts front) → told ≡ races_told (take limit findings) (take limit (map race_parts races))
races_first most limit findings some races front told limit_is some_is front_is is =
    is ∙ ap₂ races_told (some_is ∙ first_of_all findings most) (first_races races front most front_is) ∙
    ap (λ (m : ℕ). races_told (take m findings) (take m (map race_parts races))) limit_is

-- the finding at a place is told behind others
pub found_here : (findings : List Finding) (races : List Race) (group : ℕ) (is_sure : Bool) (place : ℕ) (finding : Finding) (race : Race) (value : Value)
    (old new : List Value) → place < length findings → finding ≡ get_or findings place finding → place < length races → race ≡ get_or races place race →
    view value ≡ race_told (race_parts race) (names_of finding) finding.times group is_sure → new ≡ old ++ value ∷ [] →
    map view new ≡ map view old ++ found_at findings (map race_parts races) group is_sure place
found_here findings races group is_sure place finding race value old new below at there is told more =
    let kept : slice_get (map race_parts races) place ≡ Some (race_parts race) =
    slice_get-map race_parts races place ∙ ap (option_map race_parts) (slice_get_read races (length races) place race refl there is) in
    ap (map view) more ∙ map-append view old (value ∷ []) ∙ ap (λ (one : Data). map view old ++ one ∷ []) told ∙
    ap₂ (λ (found : Option Finding) (race : Option RaceParts). map view old ++ found_told group is_sure found race)
    (sym (slice_get_read findings (length findings) place finding refl below at)) (sym kept)

-- there is none
pub found_past : (findings : List Finding) (races : List Race) (group : ℕ) (is_sure : Bool) (place : ℕ) (old : List Value) → length findings ≤ place →
    map view old ≡ map view old ++ found_at findings (map race_parts races) group is_sure place
found_past findings races group is_sure place old beyond =
    sym (append-nil (map view old)) ∙
    ap (λ (found : Option Finding). map view old ++ found_told group is_sure found (slice_get (map race_parts races) place))
    (sym (slice_get_past findings place beyond))

untold : (group : ℕ) (is_sure : Bool) (found : Option Finding) → [] ≡ found_told group is_sure found None
untold group is_sure None = refl
untold group is_sure (Some finding) = refl

-- its race is not kept
pub race_past : (findings : List Finding) (races : List Race) (group : ℕ) (is_sure : Bool) (place : ℕ) (old : List Value) → length races ≤ place →
    map view old ≡ map view old ++ found_at findings (map race_parts races) group is_sure place
race_past findings races group is_sure place old beyond =
    let none : slice_get (map race_parts races) place ≡ None =
    slice_get-map race_parts races place ∙ ap (option_map race_parts) (slice_get_past races place beyond) in
    sym (append-nil (map view old)) ∙ ap (λ (more : List Data). map view old ++ more)
    (untold group is_sure (slice_get findings place) ∙ ap (found_told group is_sure (slice_get findings place)) (sym none))

-- Behind what is told of the groups before one, it and those behind it are told.
pub found_more : (findings : List Finding) (races : List RaceParts) (groups : List (Vec ℕ)) (index : ℕ) (d : Vec ℕ) (told new whole : List Data) →
    index < length groups → told ++ found_groups findings races (suc index) (map items_of (drop index groups)) ≡ whole →
    new ≡ told ++ found_group findings races (suc index) (get_or groups index d).items →
    new ++ found_groups findings races (suc (index + 1)) (map items_of (drop (index + 1) groups)) ≡ whole
found_more findings races groups index d told new whole below before is =
    let one = found_group findings races (suc index) (get_or groups index d).items in
    let behind = found_groups findings races (suc (suc index)) (map items_of (drop (index + 1) groups)) in
    let step : found_groups findings races (suc index) (map items_of (drop index groups)) ≡ one ++ behind =
    ap (λ (some : List (Vec ℕ)). found_groups findings races (suc index) (map items_of some)) (drop_more groups index d below) in
    ap (λ (n : ℕ). new ++ found_groups findings races (suc n) (map items_of (drop (index + 1) groups))) (omega arith) ∙ ap (λ (t : List Data). t ++ behind) is ∙
    append_assoc told one behind ∙ ap (λ (t : List Data). told ++ t) (sym step) ∙ before

-- all of it
pub told_together : (extent : Extent) (recorded : Recorded) (runs : List (List ℕ)) (summary : SummaryParts) (memory value : Data) (races untold : List Data) (warned : Warned) →
    summary ≡ summary_recorded recorded → memory ≡ null → races ≡ races_told (take (most_pairs extent) recorded.kept.findings) (take (most_pairs extent) recorded.kept.races) →
    untold ≡ recorded.untold → warned ≡ none_warned → value ≡ document_told summary memory races runs untold warned →
    value ≡ recorded_told extent recorded runs
told_together extent recorded runs summary memory value races untold warned summary_is memory_is races_are untold_is none told =
    let findings = races_told (take (most_pairs extent) recorded.kept.findings) (take (most_pairs extent) recorded.kept.races) in
    told ∙ ap (document_told summary memory races runs untold) none ∙ ap (λ (s : SummaryParts). document_told s memory races runs untold none_warned) summary_is ∙
    ap (λ (m : Data). document_told (summary_recorded recorded) m races runs untold none_warned) memory_is ∙
    ap (λ (r : List Data). document_told (summary_recorded recorded) null r runs untold none_warned) races_are ∙
    ap (λ (u : List Data). document_told (summary_recorded recorded) null findings runs u none_warned) untold_is
