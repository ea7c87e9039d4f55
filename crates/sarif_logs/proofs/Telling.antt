-- Texts and lists that are made part by part, where there was memory for each part.
use Rattle.std.proofs.Common.{◌≡◌, ℕ, List, [], ◌∷◌, ◌++◌, Option, Some, None, sym, ap, subst, ◌∙◌}
use Rattle.std.specs.Prelude.{Result, Ok, Err, IfOk, IfSome}
use Rattle.std.specs.Option.{option_map}
use Rattle.serde_json.specs.Data.{Data, Members, put, array, item, no_items, object}
use Rattle.serde_json.specs.View.{view, items_of}
use Rattle.serde_json.specs.declared.value.Value.{Value}
use Rattle.text_buffers.specs.Builders.{Adds}
use Rattle.sarif_logs.specs.declared.object.Object.{Object}
use Rattle.sarif_logs.specs.Objects.{made, told_view, Puts, Ends}
use Rattle.sarif_logs.specs.Lists.{Gets, Turns}
use Rattle.sarif_logs.specs.declared.rule.Rule.{Rule}
use Rattle.sarif_logs.specs.Places.{PlaceParts}
use Rattle.sarif_logs.specs.Results.{result_members}
use Rattle.sarif_logs.proofs.Objects.{some_is, never}

-- ---- a change behind another

pub two_turns : {X : Type 0} (old one two : Option X) (f g : X → X) → Turns old f one → Turns one g two → Turns old (λ x. g (f x)) two
two_turns old one None f g first second = record { turns = tt }
two_turns old None (Some made) f g first second = absurd (never second.turns)
two_turns None (Some half) (Some made) f g first second = absurd (never first.turns)
two_turns (Some begun) (Some half) (Some made) f g first second = record { turns = ap (option_map g) first.turns ∙ second.turns }

-- the same change by another name
pub turns_so : {X : Type 0} (old new : Option X) (f g : X → X) → ((x : X) → f x ≡ g x) → Turns old f new → Turns old g new
turns_so old None f g same change = record { turns = tt }
turns_so None (Some made) f g same change = absurd (never change.turns)
turns_so (Some begun) (Some made) f g same change = record { turns = ap Some (sym (same begun)) ∙ change.turns }

-- the same change by another name of what it adds
pub turns_by : {X Y : Type 0} (f : Y → X → X) (here there : Y) (old new : Option X) → here ≡ there → Turns old (f here) new → Turns old (f there) new
turns_by f here there old new same turns = subst (λ one. Turns old (f one) new) same turns

-- no change
pub stays : {X : Type 0} (old : Option X) (f : X → X) → ((x : X) → f x ≡ x) → Turns old f old
stays None f same = record { turns = tt }
stays (Some made) f same = record { turns = ap Some (same made) }

-- what was made from its beginning on
made_of : {X : Type 0} (tell : X → Data) (start : X) (old one : Option X) (f : X → X) (value : Data) → old ≡ Some start → Turns old f one →
    option_map tell one ≡ Some value → value ≡ tell (f start)
made_of tell start None one f value new turns is = absurd (never new)
made_of tell start (Some begun) None f value new turns is = absurd (never is)
made_of tell start (Some begun) (Some made) f value new turns is =
    sym (some_is is) ∙ ap tell (sym (some_is turns.turns) ∙ ap f (some_is new))

-- ---- lists

-- an item more, that tells this
pub item_more : (old new : Option (List Data)) (value : Option Data) (told : Data) → IfSome value (λ one. one ≡ told) → Gets old value new →
    Turns old (λ items. items ++ told ∷ []) new
item_more old None value told is gets = record { turns = tt }
item_more None (Some items) None told is gets = absurd (never gets.gets)
item_more None (Some items) (Some one) told is gets = absurd (never gets.gets)
item_more (Some before) (Some items) None told is gets = absurd (never gets.gets)
item_more (Some before) (Some items) (Some one) told is gets =
    record { turns = ap (λ (last : Data). Some (before ++ last ∷ [])) (sym is) ∙ gets.gets }

-- a whole list
pub listed : {E : Type 0} (old one : Option (List Data)) (f : List Data → List Data) (result : Result Value E) → old ≡ Some [] → Turns old f one →
    IfOk result (λ value. option_map (λ items. array (items_of items)) one ≡ Some (view value)) →
    IfOk result (λ value. view value ≡ array (items_of (f [])))
listed old one f (Ok value) new turns is = made_of (λ items. array (items_of items)) [] old one f (view value) new turns is
listed old one f (Err fault) new turns is = tt

empty_told : (one : Option (List Data)) (value : Data) → one ≡ Some [] → option_map (λ items. array (items_of items)) one ≡ Some value →
    value ≡ array no_items
empty_told None value new is = absurd (never new)
empty_told (Some items) value new is = sym (some_is is) ∙ ap (λ (items : List Data). array (items_of items)) (some_is new)

-- a list of no items
pub none_listed : {E : Type 0} (one : Option (List Data)) (result : Result Value E) → one ≡ Some [] →
    IfOk result (λ value. option_map (λ items. array (items_of items)) one ≡ Some (view value)) → IfOk result (λ value. view value ≡ array no_items)
none_listed one (Ok value) new is = empty_told one (view value) new is
none_listed one (Err fault) new is = tt

-- a list of one item
whole_of_one : (value : Option Data) (old one : Option (List Data)) (whole : Data) → old ≡ Some [] → Gets old value one →
    option_map (λ items. array (items_of items)) one ≡ Some whole → option_map (λ told. array (item told no_items)) value ≡ Some whole
whole_of_one value old None whole new gets is = absurd (never is)
whole_of_one None None (Some items) whole new gets is = absurd (never gets.gets)
whole_of_one None (Some before) (Some items) whole new gets is = absurd (never gets.gets)
whole_of_one (Some told) None (Some items) whole new gets is = absurd (never gets.gets)
whole_of_one (Some told) (Some before) (Some items) whole new gets is =
    ap (λ (front : List Data). Some (array (items_of (front ++ told ∷ [])))) (sym (some_is new)) ∙
    (ap (option_map (λ items. array (items_of items))) gets.gets ∙ is)

pub one_whole : {E : Type 0} (value : Option Data) (old one : Option (List Data)) (result : Result Value E) → old ≡ Some [] → Gets old value one →
    IfOk result (λ made. option_map (λ items. array (items_of items)) one ≡ Some (view made)) →
    IfOk result (λ made. option_map (λ told. array (item told no_items)) value ≡ Some (view made))
one_whole value old one (Ok made) new gets is = whole_of_one value old one (view made) new gets is
one_whole value old one (Err fault) new gets is = tt

-- what such a list tells
pub one_listed : {E F : Type 0} (value : Result Value E) (result : Result Value F) (told : Data) → IfOk value (λ one. view one ≡ told) →
    IfOk result (λ made. option_map (λ told. array (item told no_items)) (told_view value) ≡ Some (view made)) →
    IfOk result (λ made. view made ≡ array (item told no_items))
one_listed value (Err fault) told is whole = tt
one_listed (Err fault) (Ok made) told is whole = absurd (never whole)
one_listed (Ok value) (Ok made) told is whole = sym (some_is whole) ∙ ap (λ (told : Data). array (item told no_items)) is

-- ---- texts

said_as : (tell : List ℕ → Data) (old one : Option (List ℕ)) (words : List ℕ) (value : Data) → old ≡ Some [] → Adds old words one →
    option_map tell one ≡ Some value → value ≡ tell words
said_as tell None one words value new adds is = absurd (never new)
said_as tell (Some front) None words value new adds is = absurd (never is)
said_as tell (Some front) (Some whole) words value new adds is =
    sym (some_is is) ∙ ap tell (sym (some_is adds.adds) ∙ ap (λ (text : List ℕ). text ++ words) (some_is new))

-- what is told of a text that was built from its beginning on
pub said : {E : Type 0} (tell : List ℕ → Data) (old one : Option (List ℕ)) (words : List ℕ) (result : Result Value E) → old ≡ Some [] →
    Adds old words one → IfOk result (λ value. option_map tell one ≡ Some (view value)) → IfOk result (λ value. view value ≡ tell words)
said tell old one words (Ok value) new adds is = said_as tell old one words (view value) new adds is
said tell old one words (Err fault) new adds is = tt

added_as : (tell : List ℕ → Data) (old one : Option (List ℕ)) (words : List ℕ) (value : Data) → Adds old words one →
    option_map tell one ≡ Some value → option_map (λ text. tell (text ++ words)) old ≡ Some value
added_as tell old None words value adds is = absurd (never is)
added_as tell None (Some whole) words value adds is = absurd (never adds.adds)
added_as tell (Some front) (Some whole) words value adds is = ap (option_map tell) adds.adds ∙ is

-- the same of a text that was begun elsewhere
pub said_behind : {E : Type 0} (tell : List ℕ → Data) (old one : Option (List ℕ)) (words : List ℕ) (result : Result Value E) →
    Adds old words one → IfOk result (λ value. option_map tell one ≡ Some (view value)) →
    IfOk result (λ value. option_map (λ text. tell (text ++ words)) old ≡ Some (view value))
said_behind tell old one words (Ok value) adds is = added_as tell old one words (view value) adds is
said_behind tell old one words (Err fault) adds is = tt

-- ---- an object whose last member may lack

wraps_from : (key : List ℕ) (members : Members) (old : Option Members) (told : Option Data) (new : Option Members) (value : Data) →
    IfSome old (λ now. now ≡ members) → Puts old key told new → option_map object new ≡ Some value →
    option_map (λ one. object (put key one members)) told ≡ Some value
wraps_from key all old told None value before step is = absurd (never is)
wraps_from key all None None (Some new) value before step is = absurd (never step.puts)
wraps_from key all None (Some one) (Some new) value before step is = absurd (never step.puts)
wraps_from key all (Some so_far) None (Some new) value before step is = absurd (never step.puts)
wraps_from key all (Some so_far) (Some one) (Some new) value before step is =
    ap (λ (now : Members). Some (object (put key one now))) (sym before) ∙ (ap (option_map object) step.puts ∙ is)

wraps : {E : Type 0} (key : List ℕ) (members : Members) (old : Option Members) (told : Option Data) (begun : Object) (result : Result Value E) →
    IfSome old (λ now. now ≡ members) → Puts old key told (made begun) → IfOk result (λ value. Ends begun (view value)) →
    IfOk result (λ value. option_map (λ one. object (put key one members)) told ≡ Some (view value))
wraps key all old told begun (Ok value) before step is = wraps_from key all old told (made begun) (view value) before step is.ends
wraps key all old told begun (Err fault) before step is = tt

through : {E F : Type 0} (f : Data → Data) (tell : List ℕ → Data) (words : Option (List ℕ)) (part : Result Value E) (result : Result Value F) →
    IfOk part (λ value. option_map tell words ≡ Some (view value)) →
    IfOk result (λ value. option_map f (told_view part) ≡ Some (view value)) →
    IfOk result (λ value. option_map (λ text. f (tell text)) words ≡ Some (view value))
through f tell words part (Err fault) is whole = tt
through f tell words (Err fault) (Ok value) is whole = absurd (never whole)
through f tell None (Ok one) (Ok value) is whole = absurd (never is)
through f tell (Some text) (Ok one) (Ok value) is whole = ap (option_map f) is ∙ whole

-- an object whose last member tells a text
pub last_said : {E F : Type 0} (key : List ℕ) (tell : List ℕ → Data) (members : Members) (old : Option Members) (words : Option (List ℕ))
    (part : Result Value E) (begun : Object) (result : Result Value F) → IfSome old (λ now. now ≡ members) →
    IfOk part (λ value. option_map tell words ≡ Some (view value)) → Puts old key (told_view part) (made begun) →
    IfOk result (λ value. Ends begun (view value)) →
    IfOk result (λ value. option_map (λ text. object (put key (tell text) members)) words ≡ Some (view value))
last_said key tell all old words part begun result before is step ends =
    through (λ one. object (put key one all)) tell words part result is (wraps key all old (told_view part) begun result before step ends)

so_as : (f g : List ℕ → Data) (words : Option (List ℕ)) (value : Data) → ((text : List ℕ) → f text ≡ g text) → option_map f words ≡ Some value →
    option_map g words ≡ Some value
so_as f g None value same is = is
so_as f g (Some text) value same is = ap Some (sym (same text)) ∙ is

-- what is told of a text, by another name
pub said_so : {E : Type 0} (f g : List ℕ → Data) (words : Option (List ℕ)) (result : Result Value E) → ((text : List ℕ) → f text ≡ g text) →
    IfOk result (λ value. option_map f words ≡ Some (view value)) → IfOk result (λ value. option_map g words ≡ Some (view value))
said_so f g words (Ok value) same is = so_as f g words (view value) same is
said_so f g words (Err fault) same is = tt

-- ---- results

some_so : (now : Option Members) {one other : Members} → one ≡ other → IfSome now (λ some. some ≡ one) → IfSome now (λ some. some ≡ other)
some_so None same is = tt
some_so (Some some) same is = is ∙ same

-- what a result begins with, by other names
pub result_begun : {one other : Rule} {here there : PlaceParts} {few many : ℕ} (now : Option Members) → one ≡ other → here ≡ there → few ≡ many →
    IfSome now (λ some. some ≡ result_members one here few) → IfSome now (λ some. some ≡ result_members other there many)
result_begun {one} {other} {here} {there} {few} {many} now rule place times is =
    some_so now (ap (λ (rule : Rule). result_members rule here few) rule ∙ (ap (λ (place : PlaceParts). result_members other place few) place ∙
    ap (result_members other there) times)) is
