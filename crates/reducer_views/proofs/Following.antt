-- What is held follows the steps.
-- h: a history; s, x: strands; q: a reducer; v: a view; j: a join; A: the type of an allocator; in a split, s is the spawner, c its child,
-- n its next and j the join
use Rattle.std.proofs.Common.{◌≡◌, ◌≢◌, ◌⊎◌, inl, inr, ℕ, ◌+◌, ◌<◌, ◌≤◌, Bool, true, false, List, [], ◌∷◌, map, length, get_or, Option, Some, None, refl, sym, ap, ap₂, ◌∙◌, subst, subst₂, arith}
use Rattle.std.proofs.lemmas.List.{get_or_default}
use Rattle.model_reducers.specs.declared.monoid.Monoid.{Monoid}
use Rattle.model_reducers.specs.declared.monoid.Monoid.TheVariants.{Sum}
use Rattle.model_strands.specs.Updated.{updated}
use Rattle.model_strands.specs.History.{Event, split, same, joined, waits, call, resumed, ended, ended_joined, finished, History}
use Rattle.model_strands.specs.Strands.{absent, reserved, running, over, status, Running, unused}
use Rattle.model_strands.specs.Blocks.{enclosing}
use Rattle.model_strands.specs.Legal.{Allowed, Legal, start, then, sync_waits, child_return, sync_joined, last_return, open_split, next_split}
use Rattle.model_strands.specs.Dag.{Arrives}
use Rattle.law_strands.proofs.Updates.{same_or_not, updated_at, updated_off}
use Rattle.law_strands.proofs.Places.{Ranges, Seen, at_child, at_next, at_join, at_spawner, elsewhere, below_or_beyond}
use Rattle.law_strands.proofs.Range.{ranges}
use Rattle.law_strands.proofs.Calm.{joined_reserved}
use Rattle.law_strands.proofs.Sinks.{arrives_over}
use Rattle.law_strands.proofs.Holders.{holders, Splitting, splitting}
use Rattle.law_strands.specs.Gatherings as gatherings
use Rattle.law_strands.proofs.Members.{Present, present_map, contains_present}
use Rattle.model_reducers.specs.Items as one
use Rattle.model_reducers.specs.Items.{Item, control_events}
use Rattle.model_reducers.specs.Steps.{Steps, control, update, put, other, items_of}
use Rattle.law_values.specs.Accesses.{control_steps, AreLegal}
use Rattle.model_reducers.specs.Views.{product}
use Rattle.law_values.specs.Views.{view}
use Rattle.law_values.proofs.Accesses.{item_cases, projection_law}
use Rattle.law_strands.proofs.Sides.{sides}
use Rattle.model_reducers.specs.declared.view.View.{View}
use Rattle.reducer_views.specs.Products.{FitsMonoid}
use Rattle.model_reducers.specs.Products.{identity_of, product_of, update_view, put_view, reducer_of, monoid_of}
use Rattle.reducer_views.specs.declared.pieces.Piece.{Piece}
use Rattle.reducer_views.specs.declared.touched.Touch.{Touch}
use Rattle.reducer_views.specs.Touched.{look_up, added, view_or, gathered, IsTouch}
use Rattle.reducer_views.specs.Pieces.{Kept, all_kept, home_at, later_at, touches_at, view_in, AreKept, SameHomes, SetsAt, ChangesAt, AreLater, product_from, Combines, more_strands, Grown}
use Rattle.reducer_views.specs.Homes.{home, later, IsCurrent}
use Rattle.reducer_views.specs.Held.{Holding, Holds, view_of, IsQuiet, QuietLaw}
use Rattle.reducer_views.proofs.Associative.{product_of_assoc, product_of-fits, identity-right, identity_of-fits}
use Rattle.reducer_views.proofs.Touches.{gathered_fits, added_touch, added_view}
use Rattle.reducer_views.proofs.KeptLists.{length-all_kept, home_in_range, set_kept, set_changes}
use Rattle.reducer_views.proofs.Blocks.{continuations, blocks, old_home, not_new, follow_same, home_at_child, home_at_next, home_at_join, later_elsewhere, later_at_child, later_at_next, later_at_join, later_at_home}
use Rattle.reducer_views.proofs.Currents.{Gathered, gathered_joined, gathered_ended, current_known, current_split, current_joined, current_ended_joined, current_finished, current_waits, current_ended, own_homes}

legal_steps : (steps : Steps) → AreLegal steps → Legal (control_steps steps)
legal_steps [] l = start
legal_steps (control e ∷ steps) l = then (legal_steps steps l.0) l.1
legal_steps (update s q v ∷ steps) l = legal_steps steps l.0
legal_steps (put s q v ∷ steps) l = legal_steps steps l.0
legal_steps (other s ∷ steps) l = legal_steps steps l.0

-- the view of one reducer at one strand is changed
changed_view : (holding new : Holding) (steps : Steps) (s q : ℕ) (v : View) (step_views : ℕ → ℕ → View) → AreLegal steps → Holds holding steps → Running (control_steps steps) s → new.monoids ≡ holding.monoids →
    ChangesAt holding.monoids holding.strands new.strands (home_at holding.strands s) q v →
    ((reducer x : ℕ) → reducer ≡ q → x ≡ s → step_views reducer x ≡ v) →
    ((reducer x : ℕ) → (x ≢ s) ⊎ (reducer ≢ q) → step_views reducer x ≡ view_of holding.monoids reducer steps x) →
    (x : ℕ) → IsCurrent (control_steps steps) x → (reducer : ℕ) → view_in new.monoids new.strands (home (control_steps steps) x) reducer ≡ step_views reducer x
changed_view holding new steps s q v step_views l k run ms change here there x current reducer =
    ap (λ m. view_in m new.strands (home (control_steps steps) x) reducer) ms ∙ go (same_or_not x s) (same_or_not reducer q)
  where
    at_home : home_at holding.strands s ≡ home (control_steps steps) s
    at_home = k.homes s (current_known (legal_steps steps l) s (inl run))

    kept : (x ≢ s) ⊎ (reducer ≢ q) → (home (control_steps steps) x ≢ home_at holding.strands s) ⊎ (reducer ≢ q) → view_in holding.monoids new.strands (home (control_steps steps) x) reducer ≡ step_views reducer x
    kept apart away = change.others (home (control_steps steps) x) reducer away ∙ (k.views x current reducer ∙ sym (there reducer x apart))

    go : (x ≡ s) ⊎ (x ≢ s) → (reducer ≡ q) ⊎ (reducer ≢ q) → view_in holding.monoids new.strands (home (control_steps steps) x) reducer ≡ step_views reducer x
    go (inl e) (inl f) =
        ap₂ (λ y r. view_in holding.monoids new.strands y r) (ap (home (control_steps steps)) e ∙ sym at_home) f ∙ (change.changed ∙ sym (here reducer x f e))
    go (inl e) (inr f) = kept (inr f) (inr f)
    go (inr ne) f = kept (inl ne) (inl (λ g. ne (own_homes (legal_steps steps l) x s current (inl run) (g ∙ at_home))))

pub holds_update : (holding new : Holding) (steps : Steps) (s q number : ℕ) → AreLegal steps → Holds holding steps → Running (control_steps steps) s → new.monoids ≡ holding.monoids →
    ChangesAt holding.monoids holding.strands new.strands (home_at holding.strands s) q
    (product_of (monoid_of holding.monoids q) (view_in holding.monoids holding.strands (home_at holding.strands s) q) (update_view (monoid_of holding.monoids q) number)) →
    Holds new (update s q number ∷ steps)
holds_update holding new steps s q number l k run ms change = record {
  count = change.same.len ∙ k.count;
  homes = λ x lt. change.same.homes x ∙ k.homes x lt;
  laters = λ x lt. change.same.laters x ∙ k.laters x lt;
  views = λ x current reducer. subst (λ m. view_in new.monoids new.strands (home (control_steps steps) x) reducer ≡ view_of m reducer (update s q number ∷ steps) x) (sym ms)
      (changed_view holding new steps s q value (λ r y. view_of holding.monoids r (update s q number ∷ steps) y) l k run ms change here there x current reducer);
}
  where
    value : View
    value = product_of (monoid_of holding.monoids q) (view_in holding.monoids holding.strands (home_at holding.strands s) q) (update_view (monoid_of holding.monoids q) number)

    after : (reducer : ℕ) → Item → ℕ → View
    after reducer item x = view (reducer_of (monoid_of holding.monoids reducer)) (item ∷ items_of reducer steps) x

    before : (reducer x : ℕ) → View
    before reducer x = view_of holding.monoids reducer steps x

    own_view : before q s ≡ view_in holding.monoids holding.strands (home_at holding.strands s) q
    own_view = sym (ap (λ y. view_in holding.monoids holding.strands y q) (k.homes s (current_known (legal_steps steps l) s (inl run))) ∙ k.views s (inl run) q)

    here : (reducer x : ℕ) → reducer ≡ q → x ≡ s → view_of holding.monoids reducer (update s q number ∷ steps) x ≡ value
    here reducer x e f = item_cases (λ item. after reducer item x ≡ value) q reducer (one.update s number) (one.other s)
        (λ same_one. updated_at (before reducer) s (product_of (monoid_of holding.monoids reducer) (before reducer s) (update_view (monoid_of holding.monoids reducer) number)) x f ∙
        (ap (λ r. product_of (monoid_of holding.monoids r) (before r s) (update_view (monoid_of holding.monoids r) number)) e ∙
        ap (λ v. product_of (monoid_of holding.monoids q) v (update_view (monoid_of holding.monoids q) number)) own_view))
        (λ ne. absurd (ne (sym e)))

    there : (reducer x : ℕ) → (x ≢ s) ⊎ (reducer ≢ q) → view_of holding.monoids reducer (update s q number ∷ steps) x ≡ before reducer x
    there reducer x apart = item_cases (λ item. after reducer item x ≡ before reducer x) q reducer (one.update s number) (one.other s)
        (λ same_one. elim apart [
          | inl ne ↦ updated_off (before reducer) s (product_of (monoid_of holding.monoids reducer) (before reducer s) (update_view (monoid_of holding.monoids reducer) number)) x ne
          | inr ne ↦ absurd (ne (sym same_one))
        ])
        (λ ne. refl)

pub holds_put : (holding new : Holding) (steps : Steps) (s q number : ℕ) → AreLegal steps → Holds holding steps → Running (control_steps steps) s → new.monoids ≡ holding.monoids →
    ChangesAt holding.monoids holding.strands new.strands (home_at holding.strands s) q (put_view (monoid_of holding.monoids q) number) → Holds new (put s q number ∷ steps)
holds_put holding new steps s q number l k run ms change = record {
  count = change.same.len ∙ k.count;
  homes = λ x lt. change.same.homes x ∙ k.homes x lt;
  laters = λ x lt. change.same.laters x ∙ k.laters x lt;
  views = λ x current reducer. subst (λ m. view_in new.monoids new.strands (home (control_steps steps) x) reducer ≡ view_of m reducer (put s q number ∷ steps) x) (sym ms)
      (changed_view holding new steps s q (put_view (monoid_of holding.monoids q) number) (λ r y. view_of holding.monoids r (put s q number ∷ steps) y) l k run ms change here there x current reducer);
}
  where
    after : (reducer : ℕ) → Item → ℕ → View
    after reducer item x = view (reducer_of (monoid_of holding.monoids reducer)) (item ∷ items_of reducer steps) x

    before : (reducer x : ℕ) → View
    before reducer x = view_of holding.monoids reducer steps x

    here : (reducer x : ℕ) → reducer ≡ q → x ≡ s → view_of holding.monoids reducer (put s q number ∷ steps) x ≡ put_view (monoid_of holding.monoids q) number
    here reducer x e f = item_cases (λ item. after reducer item x ≡ put_view (monoid_of holding.monoids q) number) q reducer (one.put s number) (one.other s)
        (λ same_one. updated_at (before reducer) s (put_view (monoid_of holding.monoids reducer) number) x f ∙ ap (λ r. put_view (monoid_of holding.monoids r) number) e)
        (λ ne. absurd (ne (sym e)))

    there : (reducer x : ℕ) → (x ≢ s) ⊎ (reducer ≢ q) → view_of holding.monoids reducer (put s q number ∷ steps) x ≡ before reducer x
    there reducer x apart = item_cases (λ item. after reducer item x ≡ before reducer x) q reducer (one.put s number) (one.other s)
        (λ same_one. elim apart [
          | inl ne ↦ updated_off (before reducer) s (put_view (monoid_of holding.monoids reducer) number) x ne
          | inr ne ↦ absurd (ne (sym same_one))
        ])
        (λ ne. refl)

holds_event : (holding : Holding) (steps : Steps) → AreLegal steps → Holds holding steps → (event : Event) → IsQuiet event → Allowed (control_steps steps) event → Holds holding (control event ∷ steps)
holds_event holding steps l k (split s c n j first) q a = absurd q
holds_event holding steps l k (joined s j) q a = absurd q
holds_event holding steps l k (ended_joined s j) q a = absurd q
holds_event holding steps l k (same s) q a = record { count = k.count; homes = k.homes; laters = k.laters; views = k.views }
holds_event holding steps l k (call s) q a = record { count = k.count; homes = k.homes; laters = k.laters; views = k.views }
holds_event holding steps l k (resumed s) q a = record { count = k.count; homes = k.homes; laters = k.laters; views = k.views }
holds_event holding steps l k (finished s) q a = record { count = k.count; homes = k.homes; laters = k.laters; views = λ x c. k.views x (current_finished (control_steps steps) s x c) }
holds_event holding steps l k (waits s) q (sync_waits run st m out) = record { count = k.count; homes = k.homes; laters = k.laters; views = λ x c. k.views x (current_waits (control_steps steps) s x run c) }
holds_event holding steps l k (ended s) q (child_return run st alive) = record { count = k.count; homes = k.homes; laters = k.laters; views = λ x c. k.views x (current_ended (control_steps steps) s x run c) }

pub quiet_law : QuietLaw
quiet_law holding steps l k = (holds_event holding steps l k, λ strand. record { count = k.count; homes = k.homes; laters = k.laters; views = k.views })

unused_more : (h : History) (s c n j : ℕ) (first : Bool) → unused (split s c n j first ∷ h) ≡ more_strands first + unused h
unused_more h s c n j true = refl
unused_more h s c n j false = refl

opened_join : (h : History) (s c n j : ℕ) (first : Bool) → Allowed h (split s c n j first) → first ≡ true → j ≡ 2 + unused h
opened_join h s c n j true (open_split run sy ce ne je) t = je
opened_join h s c n j false (next_split run st ce ne) t = absurd (cc)

pub holds_split : (holding new : Holding) (steps : Steps) (s c n j : ℕ) (first : Bool) → AreLegal steps → Holds holding steps → Allowed (control_steps steps) (split s c n j first) → new.monoids ≡ holding.monoids →
    Grown holding.strands new.strands (home_at holding.strands s) first → Holds new (control (split s c n j first) ∷ steps)
holds_split holding new steps s c n j first l k a ms grown = record {
  count = grown.len ∙ (ap (λ m. more_strands first + m) k.count ∙ sym (unused_more (control_steps steps) s c n j first));
  homes = λ x lt. home_is x lt (w.numbers.see x);
  laters = λ x lt. later_is x lt (w.numbers.see x);
  views = λ x current reducer. ap (λ m. view_in m new.strands (home (split s c n j first ∷ (control_steps steps)) x) reducer) ms ∙
      (view_is x reducer (current_split (control_steps steps) s c n j first legal w x current) ∙ ap (λ m. view_of m reducer (control (split s c n j first) ∷ steps) x) (sym ms));
}
  where
    legal : Legal (control_steps steps)
    legal = legal_steps steps l

    w : Splitting (control_steps steps) s c n j first
    w = splitting (control_steps steps) s c n j first (ranges legal) (holders legal) a

    old : (x : ℕ) → x < unused (control_steps steps) → x < length holding.strands
    old x lt = subst (λ m. x < m) (sym k.count) lt

    spawner : s < unused (control_steps steps)
    spawner = w.numbers.spawner_known

    spawner_home : home_at holding.strands s ≡ home (control_steps steps) s
    spawner_home = k.homes s spawner

    child_is : c ≡ length holding.strands
    child_is = w.numbers.child_is ∙ sym k.count

    next_is : n ≡ 1 + length holding.strands
    next_is = w.numbers.next_is ∙ ap (λ m. 1 + m) (sym k.count)

    join_is : first ≡ true → j ≡ 2 + length holding.strands
    join_is t = opened_join (control_steps steps) s c n j first a t ∙ ap (λ m. 2 + m) (sym k.count)

    home_below : home (control_steps steps) s < unused (control_steps steps)
    home_below = let a : home (control_steps steps) s ≤ s = (blocks legal).below s spawner in let b : s < unused (control_steps steps) = spawner in omega arith

    old_same : (x : ℕ) → x < unused (control_steps steps) → home (split s c n j first ∷ (control_steps steps)) x ≡ home (control_steps steps) x
    old_same x lt = old_home (control_steps steps) s c n j first (ranges legal) (holders legal) (sides legal) w (blocks legal) x lt

    child_not_next : c ≢ n
    child_not_next e = omega (arith, e, w.numbers.child_is, w.numbers.next_is)

    home_of_child : (x : ℕ) → x ≡ c → home (split s c n j first ∷ (control_steps steps)) x ≡ home (control_steps steps) s
    home_of_child x e = home_at_child (control_steps steps) s c n j first x e (λ g. child_not_next (sym e ∙ g)) (λ g. w.numbers.join_not_child (sym g ∙ e))

    home_of_next : (x : ℕ) → x ≡ n → home (split s c n j first ∷ (control_steps steps)) x ≡ n
    home_of_next x e = home_at_next (control_steps steps) s c n j first x e (λ g. w.numbers.join_not_next (sym g ∙ e))

    home_is : (x : ℕ) → x < unused (split s c n j first ∷ (control_steps steps)) → Seen (control_steps steps) s c n j first x → home_at new.strands x ≡ home (split s c n j first ∷ (control_steps steps)) x
    home_is x lt (at_child e b p d) = ap (home_at new.strands) e ∙ (ap (λ v. v.home) (grown.child c child_is) ∙ (spawner_home ∙ sym (home_of_child x e)))
    home_is x lt (at_next e b p d) = ap (home_at new.strands) e ∙ (ap (λ v. v.home) (grown.next n next_is) ∙ (sym next_is ∙ sym (home_of_next x e)))
    home_is x lt (at_join e lo t b p d) = ap (home_at new.strands) e ∙ (ap (λ v. v.home) (grown.join j t (join_is t)) ∙ (spawner_home ∙ sym (home_at_join (control_steps steps) s c n j first x t e)))
    home_is x lt (at_spawner e b p d) = ap (home_at new.strands) e ∙ (grown.homes s (old s spawner) ∙ (spawner_home ∙ (sym (old_same s spawner) ∙ ap (home (split s c n j first ∷ (control_steps steps))) (sym e))))
    home_is x lt (elsewhere ne (inl q) b p d) = grown.homes x (old x q) ∙ (k.homes x q ∙ sym (old_same x q))
    home_is x lt (elsewhere ne (inr q) b p d) = absurd (omega arith)

    later_old : (x : ℕ) → x < unused (control_steps steps) → later_at new.strands x ≡ later (split s c n j first ∷ (control_steps steps)) x
    later_old x lt = go first refl (same_or_not x (home (control_steps steps) s))
      where
        away : (first ≡ false → x ≢ home (control_steps steps) s) → later_at new.strands x ≡ later (split s c n j first ∷ (control_steps steps)) x
        away ne =
            let b = not_new (control_steps steps) s c n j first (ranges legal) (holders legal) (sides legal) w (blocks legal) x lt in
            grown.laters x (old x lt) (λ f g. ne f (g ∙ spawner_home)) ∙ (k.laters x lt ∙ sym (later_elsewhere (control_steps steps) s c n j first x b.0 b.1 b.2 ne))

        go : (b : Bool) → first ≡ b → (x ≡ home (control_steps steps) s) ⊎ (x ≢ home (control_steps steps) s) → later_at new.strands x ≡ later (split s c n j first ∷ (control_steps steps)) x
        go true f t = away (λ g. absurd (let q : true ≡ false = sym f ∙ g in cc))
        go false f (inr ne) = away (λ g. ne)
        go false f (inl e) = ap (later_at new.strands) (e ∙ sym spawner_home) ∙ (grown.tail f ∙ (sym next_is ∙ sym (subst (λ b. later (split s c n j b ∷ (control_steps steps)) x ≡ n) (sym f) (later_at_home (control_steps steps) s c n j x e))))

    later_is : (x : ℕ) → x < unused (split s c n j first ∷ (control_steps steps)) → Seen (control_steps steps) s c n j first x → later_at new.strands x ≡ later (split s c n j first ∷ (control_steps steps)) x
    later_is x lt (at_child e b p d) = ap (later_at new.strands) e ∙ (ap (λ v. v.later) (grown.child c child_is) ∙ sym (later_at_child (control_steps steps) s c n j first x e (λ g. child_not_next (sym e ∙ g)) (λ g. w.numbers.join_not_child (sym g ∙ e)) (λ g. omega (arith, e, g, home_below, w.numbers.child_is))))
    later_is x lt (at_next e b p d) = ap (later_at new.strands) e ∙ (ap (λ v. v.later) (grown.next n next_is) ∙ sym (later_at_next (control_steps steps) s c n j first x e (λ g. w.numbers.join_not_next (sym g ∙ e)) (λ g. omega (arith, e, g, home_below, w.numbers.next_is))))
    later_is x lt (at_join e lo t b p d) = ap (later_at new.strands) e ∙ (ap (λ v. v.later) (grown.join j t (join_is t)) ∙ (sym next_is ∙ sym (subst (λ b. later (split s c n j b ∷ (control_steps steps)) x ≡ n) (sym t) (later_at_join (control_steps steps) s c n j x e))))
    later_is x lt (at_spawner e b p d) = later_old x (subst (λ y. y < unused (control_steps steps)) (sym e) spawner)
    later_is x lt (elsewhere ne (inl q) b p d) = later_old x q
    later_is x lt (elsewhere ne (inr q) b p d) = absurd (omega arith)

    before : (reducer x : ℕ) → View
    before reducer x = view_of holding.monoids reducer steps x

    view_is : (x reducer : ℕ) → (x ≡ c) ⊎ (x ≡ n) ⊎ (IsCurrent (control_steps steps) x × (x ≢ s) × (x < unused (control_steps steps))) →
        view_in holding.monoids new.strands (home (split s c n j first ∷ (control_steps steps)) x) reducer ≡ view_of holding.monoids reducer (control (split s c n j first) ∷ steps) x
    view_is x reducer (inl e) =
        ap (λ y. view_in holding.monoids new.strands y reducer) (home_of_child x e) ∙ (ap (λ ts. gathered holding.monoids ts reducer) (grown.touched (home (control_steps steps) s) (old (home (control_steps steps) s) home_below)) ∙ (k.views s (inl w.runs) reducer ∙
        sym (updated_off (updated (view_of holding.monoids reducer steps) c (view_of holding.monoids reducer steps s)) n (identity_of (monoid_of holding.monoids reducer)) x (λ g. child_not_next (sym e ∙ g)) ∙
        updated_at (view_of holding.monoids reducer steps) c (view_of holding.monoids reducer steps s) x e)))
    view_is x reducer (inr (inl e)) =
        ap (λ y. view_in holding.monoids new.strands y reducer) (home_of_next x e) ∙ (ap (λ v. gathered holding.monoids (look_up v.touches) reducer) (grown.next n next_is) ∙
        sym (updated_at (updated (view_of holding.monoids reducer steps) c (view_of holding.monoids reducer steps s)) n (identity_of (monoid_of holding.monoids reducer)) x e))
    view_is x reducer (inr (inr t)) =
        let b = not_new (control_steps steps) s c n j first (ranges legal) (holders legal) (sides legal) w (blocks legal) x t.2 in
        let home_low : home (control_steps steps) x < unused (control_steps steps) = (let p : home (control_steps steps) x ≤ x = (blocks legal).below x t.2 in let q : x < unused (control_steps steps) = t.2 in omega arith) in
        ap (λ y. view_in holding.monoids new.strands y reducer) (old_same x t.2) ∙ (ap (λ ts. gathered holding.monoids ts reducer) (grown.touched (home (control_steps steps) x) (old (home (control_steps steps) x) home_low)) ∙ (k.views x t.0 reducer ∙
        sym (updated_off (updated (view_of holding.monoids reducer steps) c (view_of holding.monoids reducer steps s)) n (identity_of (monoid_of holding.monoids reducer)) x b.1 ∙
        updated_off (view_of holding.monoids reducer steps) c (view_of holding.monoids reducer steps s) x b.0)))

-- the product of views
abbrev pub folded : Monoid → List View → View
folded monoid [] = identity_of monoid
folded monoid (v ∷ views) = product_of monoid v (folded monoid views)

abbrev pub AllFitting : Monoid → List View → Type 0
AllFitting monoid [] = Unit {0}
AllFitting monoid (v ∷ views) = FitsMonoid monoid v × AllFitting monoid views

folded_fits : (monoid : Monoid) (views : List View) → AllFitting monoid views → FitsMonoid monoid (folded monoid views)
folded_fits monoid [] fits = identity_of-fits monoid
folded_fits monoid (v ∷ views) fits = product_of-fits monoid v (folded monoid views) fits.0 (folded_fits monoid views fits.1)

product_from_is : (monoid : Monoid) (v : View) (views : List View) → FitsMonoid monoid v → AllFitting monoid views → product_from monoid v views ≡ folded monoid (v ∷ views)
product_from_is monoid v [] fits all = sym (identity-right monoid v fits)
product_from_is monoid v (u ∷ views) fits all =
    product_from_is monoid (product_of monoid v u) views (product_of-fits monoid v u fits all.0) all.1 ∙ product_of_assoc monoid v u (folded monoid views) fits all.0 (folded_fits monoid views all.1)

folded_is : (monoid : Monoid) (views : List View) → product (reducer_of monoid) views ≡ folded monoid views
folded_is monoid [] = refl
folded_is monoid (v ∷ views) = ap (product_of monoid v) (folded_is monoid views)

views_at_homes : (f g : ℕ → View) (at : ℕ → ℕ) (xs : List ℕ) → ((x : ℕ) → Present x xs → g (at x) ≡ f x) → map g (map at xs) ≡ map f xs
views_at_homes f g at [] e = refl
views_at_homes f g at (x ∷ xs) e = ap₂ (λ v vs. v ∷ vs) (e x (inl refl)) (views_at_homes f g at xs (λ y i. e y (inr i)))

kept_fit : (monoids : List Monoid) (strands : List Kept) (reducer : ℕ) (xs : List ℕ) → AreKept monoids strands → AllFitting (monoid_of monoids reducer) (map (λ x. view_in monoids strands x reducer) xs)
kept_fit monoids strands reducer [] sound = tt
kept_fit monoids strands reducer (x ∷ xs) sound = (gathered_fits monoids (touches_at strands x) reducer (sound.touched x), kept_fit monoids strands reducer xs sound)

-- the views at the join's home are those of the strands that it gathers, combined
joined_views : (holding new : Holding) (steps : Steps) (s j : ℕ) (xs : List ℕ) (reducer : ℕ) → Holds holding steps → AreKept holding.monoids holding.strands → Gathered (control_steps steps) s j xs →
    Combines holding.monoids holding.strands new.strands (home (control_steps steps) j) (continuations (control_steps steps) j) →
    view_in holding.monoids new.strands (home (control_steps steps) j) reducer ≡ product (reducer_of (monoid_of holding.monoids reducer)) (map (view_of holding.monoids reducer steps) xs)
joined_views holding new steps s j xs reducer k sound g c =
    c.views reducer ∙
    (product_from_is (monoid_of holding.monoids reducer) (view_in holding.monoids holding.strands (home (control_steps steps) j) reducer) (map (λ x. view_in holding.monoids holding.strands x reducer) (continuations (control_steps steps) j)) (gathered_fits holding.monoids (touches_at holding.strands (home (control_steps steps) j)) reducer (sound.touched (home (control_steps steps) j))) (kept_fit holding.monoids holding.strands reducer (continuations (control_steps steps) j) sound) ∙
    (ap (λ ys. folded (monoid_of holding.monoids reducer) (map (λ x. view_in holding.monoids holding.strands x reducer) ys)) (sym g.homes) ∙
    (ap (folded (monoid_of holding.monoids reducer)) (views_at_homes (view_of holding.monoids reducer steps) (λ x. view_in holding.monoids holding.strands x reducer) (home (control_steps steps)) xs (λ x i. k.views x (g.current x i) reducer)) ∙
    sym (folded_is (monoid_of holding.monoids reducer) (map (view_of holding.monoids reducer steps) xs)))))

in_home : (h : History) (xs ys : List ℕ) (y : ℕ) → map (home h) xs ≡ ys → Present y ys → (x : ℕ) × Present x xs × (home h x ≡ y)
in_home h xs ys y e i = let t = present_map (home h) y xs (subst (Present y) (sym e) i) in (t.0, t.1, t.2)

reserved_below : (h : History) (j : ℕ) → Ranges h → status h j ≡ reserved → j < unused h
reserved_below h j r rj = elim (below_or_beyond j (unused h)) [ inl t ↦ t | inr t ↦ absurd (let e : absent ≡ reserved = sym (r.absent_beyond j t) ∙ rj in cc) ]

join_not_current : {h : History} → Legal h → (j : ℕ) → status h j ≡ reserved → IsCurrent h j → ⊥
join_not_current l j rj (inl run) = let e : reserved ≡ running = sym rj ∙ run in cc
join_not_current l j rj (inr t) = let e : reserved ≡ over = sym rj ∙ arrives_over l j t.0 t.2 in cc

-- a join begins by this event
holds_join : (holding new : Holding) (steps : Steps) (e : Event) (s j : ℕ) (xs : List ℕ) → AreLegal steps → Holds holding steps → AreKept holding.monoids holding.strands → new.monoids ≡ holding.monoids →
    SameHomes holding.strands new.strands → Combines holding.monoids holding.strands new.strands (home (control_steps steps) j) (continuations (control_steps steps) j) → Gathered (control_steps steps) s j xs → status (control_steps steps) j ≡ reserved →
    (same_homes : home (e ∷ (control_steps steps)) ≡ home (control_steps steps)) (same_laters : later (e ∷ (control_steps steps)) ≡ later (control_steps steps)) (same_unused : unused (e ∷ (control_steps steps)) ≡ unused (control_steps steps)) →
    ((x : ℕ) → IsCurrent (e ∷ (control_steps steps)) x → (x ≡ j) ⊎ (IsCurrent (control_steps steps) x × (x ≢ s) × (Arrives (control_steps steps) x j → ⊥))) →
    ((reducer x : ℕ) → view_of holding.monoids reducer (control e ∷ steps) x ≡
    updated (view_of holding.monoids reducer steps) j (product (reducer_of (monoid_of holding.monoids reducer)) (map (view_of holding.monoids reducer steps) xs)) x) →
    Holds new (control e ∷ steps)
holds_join holding new steps e s j xs l k sound ms alike c g rj same_homes same_laters same_unused cases view_is = record {
  count = alike.len ∙ (k.count ∙ sym same_unused);
  homes = λ x lt. alike.homes x ∙ (k.homes x (subst (λ m. x < m) same_unused lt) ∙ sym (ap (λ f. f x) same_homes));
  laters = λ x lt. alike.laters x ∙ (k.laters x (subst (λ m. x < m) same_unused lt) ∙ sym (ap (λ f. f x) same_laters));
  views = λ x current reducer. ap₂ (λ m y. view_in m new.strands y reducer) ms (ap (λ f. f x) same_homes) ∙
      (go x reducer (cases x current) ∙ (sym (view_is reducer x) ∙ ap (λ m. view_of m reducer (control e ∷ steps) x) (sym ms)));
}
  where
    legal : Legal (control_steps steps)
    legal = legal_steps steps l

    -- no other current strand is at one of the block's homes
    apart : (x y : ℕ) → IsCurrent (control_steps steps) x → x ≢ s → (Arrives (control_steps steps) x j → ⊥) → Present y (home (control_steps steps) j ∷ continuations (control_steps steps) j) → home (control_steps steps) x ≢ y
    apart x y cx ns na i q =
        let t = in_home (control_steps steps) xs (home (control_steps steps) j ∷ continuations (control_steps steps) j) y g.homes i in
        let same_strand : x ≡ t.0 = own_homes legal x t.0 cx (g.current t.0 t.1) (q ∙ sym t.2) in
        elim (g.arrived t.0 t.1) [ inl u ↦ ns (same_strand ∙ u) | inr u ↦ na (subst (λ z. Arrives (control_steps steps) z j) (sym same_strand) u) ]

    go : (x reducer : ℕ) → (x ≡ j) ⊎ (IsCurrent (control_steps steps) x × (x ≢ s) × (Arrives (control_steps steps) x j → ⊥)) → view_in holding.monoids new.strands (home (control_steps steps) x) reducer ≡
        updated (view_of holding.monoids reducer steps) j (product (reducer_of (monoid_of holding.monoids reducer)) (map (view_of holding.monoids reducer steps) xs)) x
    go x reducer (inl q) =
        ap (λ y. view_in holding.monoids new.strands (home (control_steps steps) y) reducer) q ∙ (joined_views holding new steps s j xs reducer k sound g c ∙
        sym (updated_at (view_of holding.monoids reducer steps) j (product (reducer_of (monoid_of holding.monoids reducer)) (map (view_of holding.monoids reducer steps) xs)) x q))
    go x reducer (inr t) =
        ap (λ ts. gathered holding.monoids ts reducer) (c.others (home (control_steps steps) x) (λ q. apart x (home (control_steps steps) j) t.0 t.1 t.2 (inl refl) q) (λ i. apart x (home (control_steps steps) x) t.0 t.1 t.2 (inr ((contains_present (home (control_steps steps) x) (continuations (control_steps steps) j)).0 i)) refl)) ∙ (k.views x t.0 reducer ∙
        sym (updated_off (view_of holding.monoids reducer steps) j (product (reducer_of (monoid_of holding.monoids reducer)) (map (view_of holding.monoids reducer steps) xs)) x
        (λ q. join_not_current legal j rj (subst (IsCurrent (control_steps steps)) q t.0))))

-- the block of a reserved join, as it is held
held_block : (holding : Holding) (steps : Steps) (j : ℕ) → AreLegal steps → Holds holding steps → status (control_steps steps) j ≡ reserved → AreLater (later_at holding.strands) (later_at holding.strands j) (continuations (control_steps steps) j)
held_block holding steps j l k rj =
    subst (λ y. AreLater (later_at holding.strands) y (continuations (control_steps steps) j)) (sym (k.laters j below))
    (follow_same (later (control_steps steps)) (later_at holding.strands) (later (control_steps steps) j) (continuations (control_steps steps) j) (λ x i. k.laters x ((blocks legal).known j x i).0) ((blocks legal).chain j rj))
  where
    legal : Legal (control_steps steps)
    legal = legal_steps steps l

    below : j < unused (control_steps steps)
    below = reserved_below (control_steps steps) j (ranges legal) rj

-- what a join's home holds by the code's own names
combines_here : (holding new : Holding) (steps : Steps) (j : ℕ) → AreLegal steps → Holds holding steps → status (control_steps steps) j ≡ reserved →
    ((continuations : List ℕ) → AreLater (later_at holding.strands) (later_at holding.strands j) continuations → Combines holding.monoids holding.strands new.strands (home_at holding.strands j) continuations) →
    Combines holding.monoids holding.strands new.strands (home (control_steps steps) j) (continuations (control_steps steps) j)
combines_here holding new steps j l k rj all =
    subst (λ y. Combines holding.monoids holding.strands new.strands y (continuations (control_steps steps) j)) (k.homes j (reserved_below (control_steps steps) j (ranges (legal_steps steps l)) rj))
    (all (continuations (control_steps steps) j) (held_block holding steps j l k rj))

pub holds_joined : (holding new : Holding) (steps : Steps) (s j : ℕ) → AreLegal steps → Holds holding steps → AreKept holding.monoids holding.strands → new.monoids ≡ holding.monoids → SameHomes holding.strands new.strands →
    ((continuations : List ℕ) → AreLater (later_at holding.strands) (later_at holding.strands j) continuations → Combines holding.monoids holding.strands new.strands (home_at holding.strands j) continuations) →
    Allowed (control_steps steps) (joined s j) → Holds new (control (joined s j) ∷ steps)
holds_joined holding new steps s j l k sound ms alike all (sync_joined run st none) =
    holds_join holding new steps (joined s j) s j (gatherings.gathered (joined s j ∷ control_steps steps) j) l k sound ms alike (combines_here holding new steps j l k rj all)
    (gathered_joined (control_steps steps) s j (legal_steps steps l) (sync_joined run st none)) rj refl refl refl (current_joined (control_steps steps) s j (legal_steps steps l) (sync_joined run st none))
    (λ reducer x. ap (λ h. updated (view_of holding.monoids reducer steps) j
    (product (reducer_of (monoid_of holding.monoids reducer)) (map (view_of holding.monoids reducer steps) (gatherings.gathered (joined s j ∷ h) j))) x) (projection_law reducer steps).0)
  where
    rj : status (control_steps steps) j ≡ reserved
    rj = joined_reserved (control_steps steps) s j (holders (legal_steps steps l)) run (ap enclosing st)

pub holds_ended_joined : (holding new : Holding) (steps : Steps) (s j : ℕ) → AreLegal steps → Holds holding steps → AreKept holding.monoids holding.strands → new.monoids ≡ holding.monoids → SameHomes holding.strands new.strands →
    ((continuations : List ℕ) → AreLater (later_at holding.strands) (later_at holding.strands j) continuations → Combines holding.monoids holding.strands new.strands (home_at holding.strands j) continuations) →
    Allowed (control_steps steps) (ended_joined s j) → Holds new (control (ended_joined s j) ∷ steps)
holds_ended_joined holding new steps s j l k sound ms alike all (last_return run st last) =
    holds_join holding new steps (ended_joined s j) s j (gatherings.gathered (ended_joined s j ∷ control_steps steps) j) l k sound ms alike (combines_here holding new steps j l k rj all)
    (gathered_ended (control_steps steps) s j (legal_steps steps l) (last_return run st last)) rj refl refl refl (current_ended_joined (control_steps steps) s j (legal_steps steps l) (last_return run st last))
    (λ reducer x. ap (λ h. updated (view_of holding.monoids reducer steps) j
    (product (reducer_of (monoid_of holding.monoids reducer)) (map (view_of holding.monoids reducer steps) (gatherings.gathered (ended_joined s j ∷ h) j))) x) (projection_law reducer steps).0)
  where
    rj : status (control_steps steps) j ≡ reserved
    rj = joined_reserved (control_steps steps) s j (holders (legal_steps steps l)) run (ap enclosing st)

-- The same of a value's fields: what is kept of its pieces.
abbrev pub held : {A : Type 0} → List Monoid → List (Piece A) → Bool → Holding
held monoids pieces has_room = record { monoids = monoids; strands = all_kept pieces; has_room = has_room }

pub joined_at : {A : Type 0} (monoids : List Monoid) (room new_room : Bool) (pieces new_pieces items : List (Piece A)) (now : Holding) (steps : Steps) (s j : ℕ) → held monoids pieces room ≡ now → items ≡ new_pieces →
    AreLegal steps → Holds now steps → AreKept monoids (all_kept pieces) → SameHomes (all_kept pieces) (all_kept new_pieces) →
    ((continuations : List ℕ) → AreLater (later_at (all_kept pieces)) (later_at (all_kept pieces) j) continuations → Combines monoids (all_kept pieces) (all_kept new_pieces) (home_at (all_kept pieces) j) continuations) →
    Allowed (control_steps steps) (joined s j) → Holds (held monoids items new_room) (control (joined s j) ∷ steps)
joined_at monoids room new_room pieces new_pieces items now steps s j now_is items_is l k sound alike all a =
    subst (λ ps. Holds (held monoids ps new_room) (control (joined s j) ∷ steps)) (sym items_is)
    (holds_joined (held monoids pieces room) (held monoids new_pieces new_room) steps s j l (subst (λ v. Holds v steps) (sym now_is) k) sound refl alike all a)

pub ended_joined_at : {A : Type 0} (monoids : List Monoid) (room new_room : Bool) (pieces new_pieces items : List (Piece A)) (now : Holding) (steps : Steps) (s j : ℕ) → held monoids pieces room ≡ now → items ≡ new_pieces →
    AreLegal steps → Holds now steps → AreKept monoids (all_kept pieces) → SameHomes (all_kept pieces) (all_kept new_pieces) →
    ((continuations : List ℕ) → AreLater (later_at (all_kept pieces)) (later_at (all_kept pieces) j) continuations → Combines monoids (all_kept pieces) (all_kept new_pieces) (home_at (all_kept pieces) j) continuations) →
    Allowed (control_steps steps) (ended_joined s j) → Holds (held monoids items new_room) (control (ended_joined s j) ∷ steps)
ended_joined_at monoids room new_room pieces new_pieces items now steps s j now_is items_is l k sound alike all a =
    subst (λ ps. Holds (held monoids ps new_room) (control (ended_joined s j) ∷ steps)) (sym items_is)
    (holds_ended_joined (held monoids pieces room) (held monoids new_pieces new_room) steps s j l (subst (λ v. Holds v steps) (sym now_is) k) sound refl alike all a)

pub updated_at_home : {A : Type 0} (monoids : List Monoid) (room new_room : Bool) (pieces new_pieces items : List (Piece A)) (now : Holding) (steps : Steps) (s q number home : ℕ) (v : View) →
    held monoids pieces room ≡ now → items ≡ new_pieces → home ≡ home_at (all_kept pieces) s → v ≡ update_view (monoid_of monoids q) number →
    ChangesAt monoids (all_kept pieces) (all_kept new_pieces) home q (product_of (monoid_of monoids q) (view_in monoids (all_kept pieces) home q) v) →
    AreLegal steps → Holds now steps → Running (control_steps steps) s → Holds (held monoids items new_room) (update s q number ∷ steps)
updated_at_home monoids room new_room pieces new_pieces items now steps s q number home v now_is items_is home_is v_is change l k run =
    subst (λ ps. Holds (held monoids ps new_room) (update s q number ∷ steps)) (sym items_is)
    (holds_update (held monoids pieces room) (held monoids new_pieces new_room) steps s q number l (subst (λ w. Holds w steps) (sym now_is) k) run refl
    (subst₂ (λ at w. ChangesAt monoids (all_kept pieces) (all_kept new_pieces) at q (product_of (monoid_of monoids q) (view_in monoids (all_kept pieces) at q) w)) home_is v_is change))

pub put_at_home : {A : Type 0} (monoids : List Monoid) (room new_room : Bool) (pieces new_pieces items : List (Piece A)) (now : Holding) (steps : Steps) (s q number home : ℕ) (v : View) →
    held monoids pieces room ≡ now → items ≡ new_pieces → home ≡ home_at (all_kept pieces) s → v ≡ put_view (monoid_of monoids q) number →
    ChangesAt monoids (all_kept pieces) (all_kept new_pieces) home q v →
    AreLegal steps → Holds now steps → Running (control_steps steps) s → Holds (held monoids items new_room) (put s q number ∷ steps)
put_at_home monoids room new_room pieces new_pieces items now steps s q number home v now_is items_is home_is v_is change l k run =
    subst (λ ps. Holds (held monoids ps new_room) (put s q number ∷ steps)) (sym items_is)
    (holds_put (held monoids pieces room) (held monoids new_pieces new_room) steps s q number l (subst (λ w. Holds w steps) (sym now_is) k) run refl
    (subst₂ (λ at w. ChangesAt monoids (all_kept pieces) (all_kept new_pieces) at q w) home_is v_is change))

-- what a strand sees
pub view_seen : {A : Type 0} (monoids : List Monoid) (room : Bool) (pieces : List (Piece A)) (now : Holding) (steps : Steps) (s q home : ℕ) →
    held monoids pieces room ≡ now → home ≡ home_at (all_kept pieces) s → AreLegal steps → Holds now steps → IsCurrent (control_steps steps) s →
    view_in monoids (all_kept pieces) home q ≡ view_of now.monoids q steps s
view_seen monoids room pieces now steps s q home now_is home_is l k current =
    ap (λ y. view_in monoids (all_kept pieces) y q) (home_is ∙ at.homes s (current_known (legal_steps steps l) s current)) ∙
    (at.views s current q ∙ ap (λ v. view_of v.monoids q steps s) now_is)
  where
    at : Holds (held monoids pieces room) steps
    at = subst (λ w. Holds w steps) (sym now_is) k

pub split_at : {A : Type 0} (monoids : List Monoid) (room new_room : Bool) (pieces new_pieces : List (Piece A)) (now : Holding) (steps : Steps) (s c n j home : ℕ) (first : Bool) → held monoids pieces room ≡ now →
    home ≡ home_at (all_kept pieces) s → Grown (all_kept pieces) (all_kept new_pieces) home first →
    AreLegal steps → Holds now steps → Allowed (control_steps steps) (split s c n j first) → Holds (held monoids new_pieces new_room) (control (split s c n j first) ∷ steps)
split_at monoids room new_room pieces new_pieces now steps s c n j home first now_is home_is grown l k a =
    holds_split (held monoids pieces room) (held monoids new_pieces new_room) steps s c n j first l (subst (λ w. Holds w steps) (sym now_is) k) a refl
    (subst (λ at. Grown (all_kept pieces) (all_kept new_pieces) at first) home_is grown)

-- The same where a call was lent the pieces and the monoids.
pub joined_lent : {A : Type 0} (monoids : List Monoid) (room new_room : Bool) (pieces lent new_pieces items : List (Piece A)) (now : Holding) (steps : Steps) (s j : ℕ) → held monoids pieces room ≡ now → items ≡ new_pieces →
    lent ≡ pieces → AreLegal steps → Holds now steps → AreKept monoids (all_kept pieces) → SameHomes (all_kept lent) (all_kept new_pieces) →
    ((continuations : List ℕ) → AreLater (later_at (all_kept lent)) (later_at (all_kept lent) j) continuations → Combines monoids (all_kept lent) (all_kept new_pieces) (home_at (all_kept lent) j) continuations) →
    Allowed (control_steps steps) (joined s j) → Holds (held monoids items new_room) (control (joined s j) ∷ steps)
joined_lent {A} monoids room new_room pieces lent new_pieces items now steps s j now_is items_is ps l k sound =
    subst Claim (sym ps) (joined_at monoids room new_room pieces new_pieces items now steps s j now_is items_is l k sound)
  where
    Claim : List (Piece A) → Type 0
    Claim given = SameHomes (all_kept given) (all_kept new_pieces) →
        ((continuations : List ℕ) → AreLater (later_at (all_kept given)) (later_at (all_kept given) j) continuations → Combines monoids (all_kept given) (all_kept new_pieces) (home_at (all_kept given) j) continuations) →
        Allowed (control_steps steps) (joined s j) → Holds (held monoids items new_room) (control (joined s j) ∷ steps)

pub ended_joined_lent : {A : Type 0} (monoids : List Monoid) (room new_room : Bool) (pieces lent new_pieces items : List (Piece A)) (now : Holding) (steps : Steps) (s j : ℕ) → held monoids pieces room ≡ now → items ≡ new_pieces →
    lent ≡ pieces → AreLegal steps → Holds now steps → AreKept monoids (all_kept pieces) → SameHomes (all_kept lent) (all_kept new_pieces) →
    ((continuations : List ℕ) → AreLater (later_at (all_kept lent)) (later_at (all_kept lent) j) continuations → Combines monoids (all_kept lent) (all_kept new_pieces) (home_at (all_kept lent) j) continuations) →
    Allowed (control_steps steps) (ended_joined s j) → Holds (held monoids items new_room) (control (ended_joined s j) ∷ steps)
ended_joined_lent {A} monoids room new_room pieces lent new_pieces items now steps s j now_is items_is ps l k sound =
    subst Claim (sym ps) (ended_joined_at monoids room new_room pieces new_pieces items now steps s j now_is items_is l k sound)
  where
    Claim : List (Piece A) → Type 0
    Claim given = SameHomes (all_kept given) (all_kept new_pieces) →
        ((continuations : List ℕ) → AreLater (later_at (all_kept given)) (later_at (all_kept given) j) continuations → Combines monoids (all_kept given) (all_kept new_pieces) (home_at (all_kept given) j) continuations) →
        Allowed (control_steps steps) (ended_joined s j) → Holds (held monoids items new_room) (control (ended_joined s j) ∷ steps)

-- a monoid that was read from the list
monoid_read : (monoids : List Monoid) (q : ℕ) (monoid : Monoid) → q < length monoids → monoid ≡ get_or monoids q monoid → monoid ≡ monoid_of monoids q
monoid_read monoids q monoid lt e = e ∙ get_or_default monoids q monoid Sum lt

touch_read : (monoids : List Monoid) (q : ℕ) (monoid : Monoid) (v : View) → q < length monoids → monoid ≡ get_or monoids q monoid → FitsMonoid monoid v → IsTouch (monoid_of monoids q) (Some (record { monoid = monoid; view = v }))
touch_read monoids q monoid v lt e fits = (monoid_read monoids q monoid lt e, subst (λ m. FitsMonoid m v) (monoid_read monoids q monoid lt e) fits)

-- an update or a put where a call was lent the pieces
module _ {A : Type 0} (monoids : List Monoid) (room : Bool) (pieces lent new_pieces items : List (Piece A)) (now : Holding) (s q home : ℕ) (monoid : Monoid) (v : View)
    (now_is : held monoids pieces room ≡ now) (items_is : items ≡ new_pieces) (lent_is : lent ≡ pieces) (sound : AreKept monoids (all_kept pieces)) (known : q < length now.monoids)
    (home_is : home ≡ home_at (all_kept pieces) s) (monoid_is : monoid ≡ get_or monoids q monoid) (fits : FitsMonoid monoid v) where
  in_list : q < length monoids
  in_list = subst (λ n. q < n) (ap (λ h. length h.monoids) (sym now_is)) known

  is_touch : IsTouch (monoid_of monoids q) (Some (record { monoid = monoid; view = v }))
  is_touch = touch_read monoids q monoid v in_list monoid_is fits

  -- what an update leaves
  module _ (sets : SetsAt (all_kept lent) (all_kept new_pieces) home q (added (touches_at (all_kept lent) home q) (record { monoid = monoid; view = v }))) where
    sets_old : SetsAt (all_kept pieces) (all_kept new_pieces) home q (added (touches_at (all_kept pieces) home q) (record { monoid = monoid; view = v }))
    sets_old = subst (λ given. SetsAt (all_kept given) (all_kept new_pieces) home q (added (touches_at (all_kept given) home q) (record { monoid = monoid; view = v }))) lent_is sets

    pub updated_sound : AreKept monoids (all_kept items)
    updated_sound = subst (λ ps. AreKept monoids (all_kept ps)) (sym items_is)
        (set_kept monoids (all_kept pieces) (all_kept new_pieces) home q (added (touches_at (all_kept pieces) home q) (record { monoid = monoid; view = v })) sound sets_old
        (added_touch (monoid_of monoids q) (touches_at (all_kept pieces) home q) (record { monoid = monoid; view = v }) (sound.touched home q) is_touch))

    pub updated_lent : (new_room : Bool) (number : ℕ) → v ≡ update_view monoid number → (steps : Steps) → AreLegal steps → Holds now steps → Running (control_steps steps) s → Holds (held monoids items new_room) (update s q number ∷ steps)
    updated_lent new_room number v_is steps l k run =
        updated_at_home monoids room new_room pieces new_pieces items now steps s q number home v now_is items_is home_is (v_is ∙ ap (λ m. update_view m number) (monoid_read monoids q monoid in_list monoid_is))
        (subst (ChangesAt monoids (all_kept pieces) (all_kept new_pieces) home q)
        (added_view (monoid_of monoids q) (touches_at (all_kept pieces) home q) (record { monoid = monoid; view = v }) (sound.touched home q) is_touch)
        (set_changes monoids (all_kept pieces) (all_kept new_pieces) home q (added (touches_at (all_kept pieces) home q) (record { monoid = monoid; view = v })) sets_old))
        l k run

  -- and a put
  module _ (sets : SetsAt (all_kept lent) (all_kept new_pieces) home q (record { monoid = monoid; view = v })) where
    put_old : SetsAt (all_kept pieces) (all_kept new_pieces) home q (record { monoid = monoid; view = v })
    put_old = subst (λ given. SetsAt (all_kept given) (all_kept new_pieces) home q (record { monoid = monoid; view = v })) lent_is sets

    pub put_sound : AreKept monoids (all_kept items)
    put_sound = subst (λ ps. AreKept monoids (all_kept ps)) (sym items_is)
        (set_kept monoids (all_kept pieces) (all_kept new_pieces) home q (record { monoid = monoid; view = v }) sound put_old is_touch)

    pub put_lent : (new_room : Bool) (number : ℕ) → v ≡ put_view monoid number → (steps : Steps) → AreLegal steps → Holds now steps → Running (control_steps steps) s → Holds (held monoids items new_room) (put s q number ∷ steps)
    put_lent new_room number v_is steps l k run =
        put_at_home monoids room new_room pieces new_pieces items now steps s q number home v now_is items_is home_is (v_is ∙ ap (λ m. put_view m number) (monoid_read monoids q monoid in_list monoid_is))
        (set_changes monoids (all_kept pieces) (all_kept new_pieces) home q (record { monoid = monoid; view = v }) put_old) l k run

-- a number that is there is that of a piece
pub there_lent : {A : Type 0} (monoids : List Monoid) (room : Bool) (pieces lent : List (Piece A)) (now : Holding) (s : ℕ) → held monoids pieces room ≡ now → lent ≡ pieces → s < length now.strands → s < length lent
there_lent monoids room pieces lent now s now_is ps there =
    subst (λ n. s < n) (ap (λ h. length h.strands) (sym now_is) ∙ (length-all_kept pieces ∙ ap length (sym ps))) there

pub home_read : {A : Type 0} (pieces lent : List (Piece A)) (s home : ℕ) → lent ≡ pieces → home ≡ home_at (all_kept lent) s → home ≡ home_at (all_kept pieces) s
home_read pieces lent s home ps home_is = home_is ∙ ap (λ given. home_at (all_kept given) s) ps

pub touch_seen : {A : Type 0} (pieces lent : List (Piece A)) (home q : ℕ) (found : Option Touch) → lent ≡ pieces → found ≡ touches_at (all_kept lent) home q → found ≡ touches_at (all_kept pieces) home q
touch_seen pieces lent home q found ps found_is = found_is ∙ ap (λ given. touches_at (all_kept given) home q) ps

pub home_lent : {A : Type 0} (monoids : List Monoid) (pieces lent : List (Piece A)) (s home : ℕ) → AreKept monoids (all_kept pieces) → lent ≡ pieces → home ≡ home_at (all_kept pieces) s → home < length lent
home_lent monoids pieces lent s home sound ps home_is = subst (λ given. home < length given) (sym ps) (home_in_range monoids pieces s home sound home_is)

pub view_found : {A : Type 0} (monoids : List Monoid) (room : Bool) (pieces : List (Piece A)) (now : Holding) (steps : Steps) (s q home : ℕ) (found : Option Touch) (touch : Touch) →
    held monoids pieces room ≡ now → home ≡ home_at (all_kept pieces) s → found ≡ touches_at (all_kept pieces) home q → found ≡ Some touch →
    AreLegal steps → Holds now steps → IsCurrent (control_steps steps) s → touch.view ≡ view_of now.monoids q steps s
view_found monoids room pieces now steps s q home found touch now_is home_is found_is some l k current =
    ap (view_or (identity_of (monoid_of monoids q))) (sym some ∙ found_is) ∙ view_seen monoids room pieces now steps s q home now_is home_is l k current

pub view_untouched : {A : Type 0} (monoids : List Monoid) (room : Bool) (pieces : List (Piece A)) (now : Holding) (steps : Steps) (s q home : ℕ) (found : Option Touch) (monoid : Monoid) (v : View) →
    held monoids pieces room ≡ now → q < length now.monoids → home ≡ home_at (all_kept pieces) s → found ≡ touches_at (all_kept pieces) home q → found ≡ None → monoid ≡ get_or monoids q monoid → v ≡ identity_of monoid →
    AreLegal steps → Holds now steps → IsCurrent (control_steps steps) s → v ≡ view_of now.monoids q steps s
view_untouched monoids room pieces now steps s q home found monoid v now_is known home_is found_is none m_is v_is l k current =
    v_is ∙ (ap identity_of (monoid_read monoids q monoid (subst (λ n. q < n) (ap (λ h. length h.monoids) (sym now_is)) known) m_is) ∙
    (ap (view_or (identity_of (monoid_of monoids q))) (sym none ∙ found_is) ∙ view_seen monoids room pieces now steps s q home now_is home_is l k current))
