-- Products of views that fit.
use Rattle.std.proofs.Common.{◌≡◌, List, [], ◌∷◌, ◌++◌, All, sym, ap, ◌∙◌}
use Rattle.std.proofs.lemmas.List.Elements.{All-head, All-tail}
use Rattle.model_reducers.specs.Views.{Reducer, product}
use Rattle.law_values.specs.Views.{IsMonoidOn}

pub product_fits : {View : Type 0} (Fits : View → Type 0) (reducer : Reducer View) → IsMonoidOn Fits reducer → (views : List View) → All Fits views →
    Fits (product reducer views)
product_fits Fits reducer k [] fit = k.identity_fits
product_fits Fits reducer k (a ∷ views) fit =
    k.closed a (product reducer views) (All-head Fits a views fit) (product_fits Fits reducer k views (All-tail Fits a views fit))

pub product_append : {View : Type 0} (Fits : View → Type 0) (reducer : Reducer View) → IsMonoidOn Fits reducer → (views others : List View) →
    All Fits views → All Fits others → product reducer (views ++ others) ≡ reducer.combine (product reducer views) (product reducer others)
product_append Fits reducer k [] others fit fits = sym (k.left_identity (product reducer others) (product_fits Fits reducer k others fits))
product_append Fits reducer k (a ∷ views) others fit fits =
    let rest = All-tail Fits a views fit in
    ap (reducer.combine a) (product_append Fits reducer k views others rest fits) ∙
    sym (k.associative a (product reducer views) (product reducer others) (All-head Fits a views fit) (product_fits Fits reducer k views rest)
    (product_fits Fits reducer k others fits))
