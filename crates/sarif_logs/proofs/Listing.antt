-- The items of a list of values.
use Rattle.std.proofs.Common.{◌≡◌, ℕ, ◌+◌, ◌<◌, List, [], ◌∷◌, ◌++◌, length, take, get_or, map, Some, true, false, codes, refl, sym, ap, ◌∙◌, append_assoc, append-nil, Bor}
use Rattle.std.proofs.lemmas.List.{take_more, map-append}
use Rattle.std.specs.Prelude.{Option, option_map, Result, IfOk}
use Rattle.std.specs.Global.{Vec}
use Rattle.serde_json.specs.Data.{Data, Items}
use Rattle.serde_json.specs.View.{view, items_of, items_view}
use Rattle.serde_json.specs.declared.value.Value.{Value}
use Rattle.sarif_logs.specs.Reading.{listed, all_listed, is_at}
use Rattle.sarif_logs.specs.Results.{illegal_result}
use Rattle.sarif_logs.specs.Logs.{illegal_results}
use Rattle.sarif_logs.specs.Objects.{told_view}
use Rattle.sarif_logs.specs.Lists.{Gets, Turns}
use Rattle.sarif_logs.proofs.Objects.{told_as}
use Rattle.sarif_logs.proofs.Telling.{two_turns, turns_so, stays, item_more}

listed_items : (items : List Data) → listed (items_of items) ≡ items
listed_items [] = refl
listed_items (one ∷ items) = ap (λ (rest : List Data). one ∷ rest) (listed_items items)

-- the items of a list that is there
pub items_found : (found : Option (Bor (Vec Value))) (list : Bor (Vec Value)) (items : List Value) (all : Option Items) → found ≡ Some list →
    option_map (λ (one : Bor (Vec Value)). items_view one.now.items) found ≡ all → items ≡ list.now.items → map view items ≡ all_listed all
items_found found list items all is named same =
    ap (map view) same ∙ (sym (listed_items (map view list.now.items)) ∙
    ap all_listed (sym (ap (option_map (λ (one : Bor (Vec Value)). items_view one.now.items)) is) ∙ named))

-- one item more of those that are told one by one, behind others
pub told_more : {X : Type 0} (told : X → Data) (items : List X) (index : ℕ) (d : X) (old one two : Option (List Data)) → index < length items →
    Turns old (λ before. before ++ map told (take index items)) one → Turns one (λ before. before ++ told (get_or items index d) ∷ []) two →
    Turns old (λ before. before ++ map told (take (index + 1) items)) two
told_more told items index d old one two below so_far more =
    let next = get_or items index d in
    let front = map told (take index items) in
    turns_so old two _ _ (λ before. append_assoc before front (told next ∷ []) ∙ ap (λ (all : List Data). before ++ all)
    (sym (ap (map told) (take_more items index d below) ∙ map-append told (take index items) (next ∷ []))))
    (two_turns old one two _ _ so_far more)

-- the same of values
pub viewed_more : (told : Data → Data) (values : List Value) (index : ℕ) (d : Value) (old one two : Option (List Data)) → index < length values →
    Turns old (λ before. before ++ map told (map view (take index values))) one →
    Turns one (λ items. items ++ told (view (get_or values index d)) ∷ []) two →
    Turns old (λ before. before ++ map told (map view (take (index + 1) values))) two
viewed_more told values index d old one two below so_far more =
    let next = get_or values index d in
    let front = map told (map view (take index values)) in
    turns_so old two _ _ (λ before. append_assoc before front (told (view next) ∷ []) ∙ ap (λ (all : List Data). before ++ all)
    (sym (ap (λ (some : List Value). map told (map view some)) (take_more values index d below) ∙
    (ap (map told) (map-append view (take index values) (next ∷ [])) ∙ map-append told (map view (take index values)) (view next ∷ [])))))
    (two_turns old one two _ _ so_far more)

illegal_is : (document : Data) → is_at (codes "outcome") (codes "illegal") document ≡ true → illegal_result document ∷ [] ≡ illegal_results document
illegal_is document is = rw is refl

legal_is : (document : Data) → is_at (codes "outcome") (codes "illegal") document ≡ false → [] ≡ illegal_results document
legal_is document is = rw is refl

-- the result of an illegal request
pub illegal_told : {E : Type 0} (document : Data) (old new : Option (List Data)) (value : Result Value E) →
    is_at (codes "outcome") (codes "illegal") document ≡ true → IfOk value (λ one. view one ≡ illegal_result document) →
    Gets old (told_view value) new → Turns old (λ before. before ++ illegal_results document) new
illegal_told document old new value illegal is gets =
    turns_so old new (λ (before : List Data). before ++ illegal_result document ∷ []) (λ (before : List Data). before ++ illegal_results document)
    (λ before. ap (λ (more : List Data). before ++ more) (illegal_is document illegal))
    (item_more old new (told_view value) (illegal_result document) (told_as value (illegal_result document) is) gets)

pub legal_told : (document : Data) (old : Option (List Data)) → is_at (codes "outcome") (codes "illegal") document ≡ false →
    Turns old (λ before. before ++ illegal_results document) old
legal_told document old legal =
    stays old (λ (before : List Data). before ++ illegal_results document)
    (λ before. ap (λ (more : List Data). before ++ more) (sym (legal_is document legal)) ∙ append-nil before)
