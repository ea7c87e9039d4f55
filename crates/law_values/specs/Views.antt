-- The views of strands.
use Rattle.std.specs.Prelude.{◌≡◌, ◌⊎◌, ℕ, [], ◌∷◌, map}
use Rattle.model_reducers.specs.Views.{Reducer, product}
use Rattle.model_strands.specs.Updated.{updated}
use Rattle.model_strands.specs.History.{Event, split, joined, ended_joined, History}
use Rattle.law_strands.specs.Gatherings.{gathered}
use Rattle.model_reducers.specs.Items.{Item, control, update, put, other, Items, control_events}
use Rattle.model_reducers.specs.Entries.{Entry, entry_value, HasUpdate, HasPut}

-- the views after an event: a child begins with its spawner's, a next with the identity, a join with the product of those that it gathers
abbrev pub views_after : {View : Type 0} → Reducer View → History → Event → (ℕ → View) → ℕ → View
views_after reducer history (split strand child next join first) views = updated (updated views child (views strand)) next reducer.identity
views_after reducer history (joined strand join) views =
    updated views join (product reducer (map views (gathered (joined strand join ∷ history) join)))
views_after reducer history (ended_joined strand join) views =
    updated views join (product reducer (map views (gathered (ended_joined strand join ∷ history) join)))
views_after reducer history _ views = views

-- an update combines on the right, and a put replaces the strand's view
abbrev pub view : {View : Type 0} → Reducer View → Items → ℕ → View
view reducer [] = λ strand. reducer.identity
view reducer (control event ∷ items) = views_after reducer (control_events items) event (view reducer items)
view reducer (update strand value ∷ items) =
    updated (view reducer items) strand (reducer.combine (view reducer items strand) (reducer.of_update value))
view reducer (put strand value ∷ items) = updated (view reducer items) strand (reducer.of_put value)
view reducer (other strand ∷ items) = view reducer items

-- the item changes the view of the strand
abbrev pub Changes : Item → ℕ → Type 0
Changes (control (split spawner child next join first)) strand = (strand ≡ child) ⊎ (strand ≡ next)
Changes (control (joined last join)) strand = strand ≡ join
Changes (control (ended_joined last join)) strand = strand ≡ join
Changes (update writer value) strand = strand ≡ writer
Changes (put writer value) strand = strand ≡ writer
Changes _ strand = ⊥

-- on the views that fit, combining is associative with the identity on both sides, and it keeps to them
pub record IsMonoidOn {View : Type 0} (Fits : View → Type 0) (reducer : Reducer View) : Type 0 where
  pub associative : (first second third : View) → Fits first → Fits second → Fits third →
      reducer.combine (reducer.combine first second) third ≡ reducer.combine first (reducer.combine second third)
  pub left_identity : (view : View) → Fits view → reducer.combine reducer.identity view ≡ view
  pub right_identity : (view : View) → Fits view → reducer.combine view reducer.identity ≡ view
  pub closed : (first second : View) → Fits first → Fits second → Fits (reducer.combine first second)
  pub identity_fits : Fits reducer.identity

-- and those of the updates and puts fit
pub record EntriesFit {View : Type 0} (Fits : View → Type 0) (reducer : Reducer View) (items : Items) : Type 0 where
  pub updates : (entry : Entry) → HasUpdate items entry → Fits (reducer.of_update (entry_value entry))
  pub puts : (entry : Entry) → HasPut items entry → Fits (reducer.of_put (entry_value entry))
