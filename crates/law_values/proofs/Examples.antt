-- The worked histories: their gets are granted, and their views are these.
use Rattle.std.proofs.Common.{◌≡◌, inl, inr, ℕ, List, map, [], ◌∷◌, Some, refl, sym, ap, ◌∙◌, subst, arith}
use Rattle.model_strands.specs.Updated.{updated}
use Rattle.model_strands.specs.Blocks.{root, spawned, Outstanding}
use Rattle.model_strands.specs.Legal.{open_split, next_split, sync_joined, sync_waits, child_return, last_return}
use Rattle.model_reducers.specs.Items.{Items, control_events}
use Rattle.law_values.specs.Items.{AreLegalItems}
use Rattle.model_reducers.specs.Entries.{Entry, update_entry, put_entry, entry_number, entry_value}
use Rattle.law_values.specs.Logs.{log}
use Rattle.model_reducers.specs.Views.{Reducer, product}
use Rattle.law_values.specs.Views.{view}
use Rattle.law_values.specs.GetValues.{IsGranted}
use Rattle.model_reducers.specs.GetValues.{AreCounted}
use Rattle.law_values.specs.Examples.{last, digits, two_children, early_continuation, waiting_sync, early_update}
use Rattle.law_values.specs.Laws.{IsWorked, ExamplesLaw}
use Rattle.law_values.proofs.Law.{log_law}

tails : (p q : Entry) (us ws : List Entry) → p ∷ us ≡ q ∷ ws → us ≡ ws
tails p q us ws e = cc

-- what stands in the log behind the put are the updates that count
counted_in_log : (h : Items) (s : ℕ) (p : Entry) (us : List Entry) → IsGranted h s p → log h s ≡ p ∷ us → AreCounted h p s us
counted_in_log h s p us g e =
    let found = log_law h s p g in
    subst (AreCounted h p s) (tails p p found.0 us (sym found.2 ∙ e)) found.1

worked : {View : Type 0} (reducer : Reducer View) (h : Items) (s : ℕ) (p : Entry) (us : List Entry) (value : View) → IsGranted h s p → log h s ≡ p ∷ us →
    view reducer h s ≡ value → value ≡ reducer.combine (reducer.of_put (entry_value p)) (product reducer (map (λ u. reducer.of_update (entry_value u)) us)) →
    IsWorked reducer h s p us value
worked reducer h s p us value g in_log is_view combined = record {
  granted = g;
  counts = counted_in_log h s p us g in_log;
  value_is = record { put = p; last = g.last; counted = us; counts = counted_in_log h s p us g in_log; combined = combined };
  view_is = is_view;
}

two_children_legal : AreLegalItems two_children
unfolding updated
two_children_legal = (
  (
    (
      (
        (
          (
            (
              (tt, refl),
              open_split refl tt refl refl refl,
            ),
            next_split {join = 3} {below = root} refl refl refl refl,
          ),
          refl,
        ),
        refl,
      ),
      child_return {number = 2} {join = 3} refl refl (λ t. absurd t.0),
    ),
    child_return {number = 1} {join = 3} refl refl (λ t. absurd t.0),
  ),
  sync_joined {join = 3} {below = root} refl refl none,
)
  where
    none : (m : ℕ) → Outstanding (control_events two_children) m 3 → ⊥
    none m o = elim o.1.1 [
      | inl t ↦ o.1.0 (ap (λ z. spawned z 3) (sym t.0))
      | inr t ↦ elim t [ inl q ↦ o.0 (ap (λ z. spawned z 3) (sym q.0)) | inr q ↦ absurd q ]
    ]

early_continuation_legal : AreLegalItems early_continuation
unfolding updated
early_continuation_legal = (
  (
    (
      (
        (
          (tt, refl),
          open_split refl tt refl refl refl,
        ),
        refl,
      ),
      refl,
    ),
    child_return {number = 1} {join = 3} refl refl (λ t. absurd t.0),
  ),
  sync_joined {join = 3} {below = root} refl refl (λ m o. elim o.1 [ inl t ↦ o.0 (ap (λ z. spawned z 3) (sym t.0)) | inr t ↦ absurd t ]),
)

waiting_sync_legal : AreLegalItems waiting_sync
unfolding updated
waiting_sync_legal = (
  (
    (
      (
        (
          (tt, refl),
          open_split refl tt refl refl refl,
        ),
        refl,
      ),
      sync_waits {join = 3} {below = root} refl refl 1 (inl (refl, refl)),
    ),
    refl,
  ),
  last_return {number = 1} refl refl (inl refl, (λ m o. elim o [ inl t ↦ t.0 | inr t ↦ absurd t ])),
)

early_update_legal : AreLegalItems early_update
unfolding updated
early_update_legal = (((tt, refl), refl), refl)

two_children_granted : IsGranted two_children 3 (put_entry 1 0 1)
unfolding updated
two_children_granted = record {
  legal = two_children_legal;
  runs = refl;
  last = (inl refl, (λ u t. elim t [ inl e ↦ (let k : entry_number u ≡ 1 = ap entry_number e in omega arith) | inr e ↦ absurd e ]));
  same_branch = refl;
}

early_continuation_granted : IsGranted early_continuation 3 (put_entry 1 0 0)
unfolding updated
early_continuation_granted = record {
  legal = early_continuation_legal;
  runs = refl;
  last = (inl refl, (λ u t. elim t [ inl e ↦ (let k : entry_number u ≡ 1 = ap entry_number e in omega arith) | inr e ↦ absurd e ]));
  same_branch = refl;
}

waiting_sync_granted : IsGranted waiting_sync 3 (put_entry 1 0 0)
unfolding updated
waiting_sync_granted = record {
  legal = waiting_sync_legal;
  runs = refl;
  last = (inl refl, (λ u t. elim t [ inl e ↦ (let k : entry_number u ≡ 1 = ap entry_number e in omega arith) | inr e ↦ absurd e ]));
  same_branch = refl;
}

early_update_granted : IsGranted early_update 0 (put_entry 3 0 4)
unfolding updated
early_update_granted = record {
  legal = early_update_legal;
  runs = refl;
  last = (
    inl refl,
    (λ u t. elim t [
      | inl e ↦ (let k : entry_number u ≡ 3 = ap entry_number e in omega arith)
      | inr t ↦ elim t [ inl e ↦ (let k : entry_number u ≡ 1 = ap entry_number e in omega arith) | inr e ↦ absurd e ]
    ]),
  );
  same_branch = refl;
}

two_children_log : log two_children 3 ≡ put_entry 1 0 1 ∷ update_entry 4 1 5 ∷ update_entry 5 4 7 ∷ []
unfolding updated
two_children_log = refl

two_children_view : view last two_children 3 ≡ Some 7
unfolding updated
two_children_view = refl

early_continuation_log : log early_continuation 3 ≡ put_entry 1 0 0 ∷ update_entry 4 1 1 ∷ update_entry 3 2 2 ∷ []
unfolding updated
early_continuation_log = refl

early_continuation_view : view digits early_continuation 3 ≡ (961, 33)
unfolding updated
early_continuation_view = refl

waiting_sync_log : log waiting_sync 3 ≡ put_entry 1 0 0 ∷ update_entry 5 1 1 ∷ update_entry 3 2 2 ∷ []
unfolding updated
waiting_sync_log = refl

waiting_sync_view : view digits waiting_sync 3 ≡ (961, 33)
unfolding updated
waiting_sync_view = refl

early_update_log : log early_update 0 ≡ put_entry 3 0 4 ∷ []
unfolding updated
early_update_log = refl

early_update_view : view last early_update 0 ≡ Some 4
unfolding updated
early_update_view = refl

pub examples_law : ExamplesLaw
examples_law = record {
  spawning_order =
      worked last two_children 3 (put_entry 1 0 1) (update_entry 4 1 5 ∷ update_entry 5 4 7 ∷ []) (Some 7)
      two_children_granted two_children_log two_children_view refl;
  serial_order =
      worked digits early_continuation 3 (put_entry 1 0 0) (update_entry 4 1 1 ∷ update_entry 3 2 2 ∷ []) (961, 33)
      early_continuation_granted early_continuation_log early_continuation_view refl;
  waited_for =
      worked digits waiting_sync 3 (put_entry 1 0 0) (update_entry 5 1 1 ∷ update_entry 3 2 2 ∷ []) (961, 33)
      waiting_sync_granted waiting_sync_log waiting_sync_view refl;
  last_put = worked last early_update 0 (put_entry 3 0 4) [] (Some 4) early_update_granted early_update_log early_update_view refl;
}
