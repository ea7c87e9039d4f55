-- The related locations of a race, one after another.
use Rattle.std.proofs.Common.{◌≡◌, ℕ, List, [], ◌∷◌, ◌++◌, Option, Some, None, sym, ap, ◌∙◌, codes}
use Rattle.std.specs.Prelude.{Result, Ok, Err, IfOk}
use Rattle.std.specs.Option.{option_map}
use Rattle.serde_json.specs.Data.{Data}
use Rattle.serde_json.specs.View.{view}
use Rattle.serde_json.specs.declared.value.Value.{Value}
use Rattle.text_buffers.specs.Builders.{Adds}
use Rattle.text_buffers.proofs.Builders.{these, two_adds, four_adds}
use Rattle.sarif_logs.specs.Objects.{told_view}
use Rattle.sarif_logs.specs.Lists.{IsNext, Gets, Turns}
use Rattle.sarif_logs.specs.Reading.{words_at}
use Rattle.sarif_logs.specs.Places.{PlaceParts, place_at, place_words, related_told}
use Rattle.sarif_logs.specs.Related.{with_related, Relates, with_spawn, with_links}
use Rattle.sarif_logs.proofs.Objects.{some_is, never}
use Rattle.sarif_logs.proofs.Telling.{two_turns, turns_so, stays}

-- a related location more
pub related_more : {E : Type 0} (old : Option (List Data)) (words : Option (List ℕ)) (place : PlaceParts) (number : ℕ) (value : Result Value E)
    (new : Option (List Data)) → IsNext old number →
    IfOk value (λ one. option_map (λ said. related_told number said place) words ≡ Some (view one)) → Gets old (told_view value) new →
    Relates old words place new
related_more old words place number value None next is gets = record { relates = tt }
related_more None words place number (Ok one) (Some items) next is gets = absurd (never gets.gets)
related_more None words place number (Err fault) (Some items) next is gets = absurd (never gets.gets)
related_more (Some before) words place number (Err fault) (Some items) next is gets = absurd (never gets.gets)
related_more (Some before) None place number (Ok one) (Some items) next is gets = absurd (never is)
related_more (Some before) (Some text) place number (Ok one) (Some items) next is gets =
    record {
      relates = ap (λ (count : ℕ). Some (before ++ related_told count text place ∷ [])) (sym next.is_next) ∙
          (ap (λ (told : Option Data). option_map (λ last. before ++ last ∷ []) told) is ∙ gets.gets);
    }

-- the same by what is said of it
relates_so : (old new : Option (List Data)) (begun words : Option (List ℕ)) (text : List ℕ) (place whole : PlaceParts) → begun ≡ Some [] →
    Adds begun text words → place ≡ whole → Relates old words place new → Turns old (with_related text whole) new
relates_so old None begun words text place whole new adds same step = record { turns = tt }
relates_so old (Some now) None words text place whole new adds same step = absurd (never new)
relates_so old (Some now) (Some front) None text place whole new adds same step = absurd (never step.relates)
relates_so None (Some now) (Some front) (Some words) text place whole new adds same step = absurd (never step.relates)
relates_so (Some before) (Some now) (Some front) (Some words) text place whole new adds same step =
    record {
      turns = ap (λ (there : PlaceParts). Some (with_related text there before)) (sym same) ∙
          (ap (λ (said : List ℕ). Some (with_related said place before))
          (ap (λ (begun : List ℕ). begun ++ text) (sym (some_is new)) ∙ some_is adds.adds) ∙ step.relates);
    }

-- a spawn
pub spawn_told : (before first between second : List ℕ) (old new : Option (List Data)) (begun one two three four : Option (List ℕ))
    (here there place : PlaceParts) (value : Data) (found : Option Data) → begun ≡ Some [] → Adds begun before one → here ≡ place_at first value →
    Adds one (place_words here) two → Adds two between three → there ≡ place_at second value → Adds three (place_words there) four →
    place ≡ place_at (codes "spawn") value → Relates old four place new → found ≡ Some value →
    Turns old (with_spawn before first between second found) new
spawn_told before first between second old new begun one two three four here there place value found new_is a here_is b c there_is d place_is step
    found_is =
    let begins : List ℕ = place_words (place_at first value) in
    let goes_on : List ℕ = place_words (place_at second value) in
    let text : List ℕ = before ++ begins ++ between ++ goes_on in
    turns_so old new (with_related text (place_at (codes "spawn") value)) (with_spawn before first between second found)
    (λ related. ap (λ (one : Option Data). with_spawn before first between second one related) (sym found_is))
    (relates_so old new begun four text place (place_at (codes "spawn") value) new_is
    (four_adds begun one two three four before begins between goes_on a (these one two (place_words here) begins b (ap place_words here_is)) c
    (these three four (place_words there) goes_on d (ap place_words there_is))) place_is step)

-- none
pub none_told : (f : Option Data → List Data → List Data) (old : Option (List Data)) (found : Option Data) → ((x : List Data) → f None x ≡ x) →
    found ≡ None → Turns old (f found) old
none_told f old found same none =
    stays old (f found) (λ related. ap (λ (one : Option Data). f one related) none ∙ same related)

-- a spawn or call that led to an access, and those behind it
pub links_told : (which word : List ℕ) (old half new : Option (List Data)) (begun one two : Option (List ℕ)) (way : List ℕ) (place : PlaceParts)
    (value : Data) (links rest : List Data) → begun ≡ Some [] → way ≡ words_at (codes "way") value →
    Adds begun (way ++ codes " here, on the way to " ++ which) one → Adds one word two → place ≡ place_at (codes "place") value →
    Relates old two place half → Turns half (with_links which word rest) new → links ≡ value ∷ rest → Turns old (with_links which word links) new
links_told which word old half new begun one two way place value links rest new_is way_is first second place_is step more are =
    let text : List ℕ = words_at (codes "way") value ++ codes " here, on the way to " ++ which in
    let step_to : List Data → List Data = with_related (text ++ word) (place_at (codes "place") value) in
    turns_so old new (λ related. with_links which word rest (step_to related)) (with_links which word links)
    (λ related. ap (λ (some : List Data). with_links which word some related) (sym are))
    (two_turns old half new step_to (with_links which word rest)
    (relates_so old half begun two (text ++ word) place (place_at (codes "place") value) new_is
    (two_adds begun one two text word
    (these begun one (way ++ codes " here, on the way to " ++ which) text first
    (ap (λ (way : List ℕ). way ++ codes " here, on the way to " ++ which) way_is)) second) place_is step) more)
