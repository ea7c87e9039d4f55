-- The paths that a history has once all that runs syncs and returns at once, and that they follow the addresses.
use Rattle.std.proofs.Common.{◌≡◌, ◌≢◌, ◌⊎◌, inl, inr, ℕ, ◌<◌, ◌≤◌, Bool, true, ◌∷◌, Some, None, refl, sym, ap, ◌∙◌, subst, subst₂, arith}
use Rattle.model_strands.specs.Address.{Word, child, next, join}
use Rattle.law_addresses.specs.Address.{is_fork}
use Rattle.model_strands.specs.History.{Event, split, same, joined, waits, call, resumed, ended, ended_joined, finished, History}
use Rattle.model_strands.specs.Strands.{unused}
use Rattle.model_strands.specs.Legal.{Legal, start, then}
use Rattle.model_strands.specs.Dag.{Forks, Path, stay, step}
use Rattle.model_strands.specs.Addresses.{address}
use Rattle.law_strands.proofs.Updates.{same_or_not}
use Rattle.law_strands.proofs.Words.{Precedes, not_precedes_shorter, precedes_longer, precedes_of_longer, precedes_siblings, ◌▹◌}
use Rattle.law_strands.proofs.Places.{place, join_of, below_or_beyond, Ranges, some_same, running_not_over}
use Rattle.law_strands.proofs.Range.{ranges, child_seen, next_seen, join_seen}
use Rattle.law_strands.proofs.Holders.{Holders, holders, Splitting, splitting, running_open}
use Rattle.law_strands.proofs.Calm.{IsCalm, calm_place, calm_address, calm_unused, calm_forks}
use Rattle.law_strands.proofs.Addresses.{Addresses, addresses, by_word, Named, named_new, named_old, named, place_kept}
use Rattle.law_strands.proofs.Fates.{Fates, fates}

-- from a spawner to what it began, from any other strand to the join of its place, begun or not
abbrev pub Link : History → ℕ → ℕ → Type 0
Link history strand other = Forks history strand other ⊎ (((forked : ℕ) → Forks history strand forked → ⊥) × (join_of (place history strand) ≡ Some other))

pub path_then : {R : ℕ → ℕ → Type 0} {u v w : ℕ} → Path R u v → Path R v w → Path R u w
path_then stay q = q
path_then (step r p) q = step r (path_then p q)

pub path_map : {R S : ℕ → ℕ → Type 0} {u v : ℕ} → ((strand other : ℕ) → R strand other → S strand other) → Path R u v → Path S u v
path_map f stay = stay
path_map f (step {strand = u} {between = v} r p) = step (f u v r) (path_map f p)

pub path_bind : {R S : ℕ → ℕ → Type 0} {u v : ℕ} → ((strand other : ℕ) → R strand other → Path S strand other) → Path R u v → Path S u v
path_bind f stay = stay
path_bind f (step {strand = u} {between = v} r p) = path_then (f u v r) (path_bind f p)

path_of_equal : {R : ℕ → ℕ → Type 0} {u v : ℕ} → u ≡ v → Path R u v
path_of_equal {R} {u} {v} e = subst (λ z. Path R u z) e stay

first_step : {R : ℕ → ℕ → Type 0} {u v : ℕ} → Path R u v → (u ≡ v) ⊎ ((third : ℕ) × R u third × Path R third v)
first_step stay = inl refl
first_step (step {between = w} r p) = inr (w, r, p)

-- the links lead wherever the addresses say that a path does
pub record Leads (history : History) : Type 0 where
  pub leads : (strand other : ℕ) → strand < unused history → other < unused history → Precedes (address history strand) (address history other) →
      Path (Link history) strand other

none_not_some : {k : ℕ} → None ≡ Some k → ⊥
none_not_some e = cc

leads_split : (history : History) (strand the_child the_next the_join : ℕ) (first : Bool) → Ranges history → Holders history → Addresses history →
    Fates history → Splitting history strand the_child the_next the_join first → Leads history →
    Leads (split strand the_child the_next the_join first ∷ history)
leads_split h s c n j first r o d f w l = record {
  leads = λ u v lu lv b. leads_at u v b (named h s c n j first w u lu) (named h s c n j first w v lv);
}
  where
    -- a strand that the split begins has not forked, nor has the reserved join
    new_unforked : (strand : ℕ) → unused h ≤ strand → (other : ℕ) → Forks (split s c n j first ∷ h) strand other → ⊥
    new_unforked x lo y (inl t) = omega (arith, t.0, w.numbers.spawner_known)
    new_unforked x lo y (inr t) = omega (arith, (f.forked x y t).1)

    spawner_unforked : (other : ℕ) → Forks h s other → ⊥
    spawner_unforked y t = running_not_over w.runs (f.forked s y t).0

    child_to_join : Link (split s c n j first ∷ h) c j
    child_to_join = inr ((λ x t. new_unforked c (omega (arith, w.numbers.child_is)) x t), ap join_of (child_seen h s c n j first w.numbers).1)

    next_to_join : Link (split s c n j first ∷ h) n j
    next_to_join = inr ((λ x t. new_unforked n (omega (arith, w.numbers.next_is)) x t), ap join_of (next_seen h s c n j first w.numbers).1)

    from_join : (other : ℕ) → join_of (place h s) ≡ Some other → Path (Link (split s c n j first ∷ h)) j other
    from_join v e = elim w.block_is [
      | inl k ↦ step (inr ((λ x t. new_unforked j k.1 x t), ap join_of (join_seen h s c n j first w.numbers k.1).1 ∙ e)) stay
      | inr k ↦ path_of_equal (some_same (sym (ap join_of k.1) ∙ e))
    ]

    spawner_onward : (other : ℕ) → join_of (place h s) ≡ Some other → Path (Link (split s c n j first ∷ h)) s other
    spawner_onward v e = step (inl (inl (refl, inr refl))) (step next_to_join (from_join v e))

    lift_link : (strand other : ℕ) → Link h strand other → Path (Link (split s c n j first ∷ h)) strand other
    lift_link x y (inl t) = step (inl (inr t)) stay
    lift_link x y (inr t) = go (same_or_not x s) (below_or_beyond x (unused h))
      where
        go : (x ≡ s) ⊎ (x ≢ s) → (x < unused h) ⊎ (unused h ≤ x) → Path (Link (split s c n j first ∷ h)) x y
        go (inl e) k = subst (λ z. Path (Link (split s c n j first ∷ h)) z y) (sym e) (spawner_onward y (ap (λ z. join_of (place h z)) (sym e) ∙ t.1))
        go (inr ne) (inl lt) = step (inr ((λ v g. elim g [ inl q ↦ ne q.0 | inr q ↦ t.0 v q ]), ap join_of (place_kept h s c n j first w x lt) ∙ t.1)) stay
        go (inr ne) (inr le) = absurd (none_not_some (sym (ap join_of (r.outermost_beyond x le)) ∙ t.1))

    lift : {x y : ℕ} → Path (Link h) x y → Path (Link (split s c n j first ∷ h)) x y
    lift p = path_bind lift_link p

    -- from the spawner to what the word names
    down : (word : Word) → Path (Link (split s c n j first ∷ h)) s (by_word c n j word)
    down child = step (inl (inl (refl, inl refl))) stay
    down next = step (inl (inl (refl, inr refl))) stay
    down join = step (inl (inl (refl, inr refl))) (step next_to_join stay)

    across : (word : Word) → is_fork word ≡ true → Path (Link (split s c n j first ∷ h)) (by_word c n j word) j
    across child fork = step child_to_join stay
    across next fork = step next_to_join stay
    across join fork = absurd (cc)

    onward : (word : Word) (other : ℕ) → join_of (place h s) ≡ Some other → Path (Link (split s c n j first ∷ h)) (by_word c n j word) other
    onward child y e = step child_to_join (from_join y e)
    onward next y e = step next_to_join (from_join y e)
    onward join y e = from_join y e

    to_new : (strand : ℕ) (word : Word) → strand < unused h → Precedes (address h strand) (address h s ▹ word) →
        Path (Link (split s c n j first ∷ h)) strand (by_word c n j word)
    to_new u v lu b = elim (precedes_longer (address h u) (address h s) v b) [
      | inl q ↦ path_then (lift (l.leads u s lu w.numbers.spawner_known q)) (down v)
      | inr q ↦ subst (λ z. Path (Link (split s c n j first ∷ h)) z (by_word c n j v)) (sym (d.leaf s u (running_open h s w.runs) lu q)) (down v)
    ]

    from_new : (word : Word) (other : ℕ) → other < unused h → Precedes (address h s ▹ word) (address h other) →
        Path (Link (split s c n j first ∷ h)) (by_word c n j word) other
    from_new v y ly b = elim (first_step (l.leads s y w.numbers.spawner_known ly (precedes_of_longer (address h s) (address h y) v b))) [
      | inl e ↦ absurd (not_precedes_shorter (address h s) v (subst (λ z. Precedes (address h s ▹ v) (address h z)) (sym e) b))
      | inr t ↦ elim t.1 [
        | inl g ↦ absurd (spawner_unforked t.0 g)
        | inr g ↦ path_then (onward v t.0 g.1) (lift t.2)
      ]
    ]

    leads_at : (strand other : ℕ) → Precedes (address (split s c n j first ∷ h) strand) (address (split s c n j first ∷ h) other) →
        Named h s c n j first strand → Named h s c n j first other → Path (Link (split s c n j first ∷ h)) strand other
    leads_at u v b (named_new x e g a) (named_new y e' g' a') = elim (precedes_siblings (address h s) x y (subst₂ Precedes a a' b)) [
      | inl q ↦ path_of_equal (e ∙ (ap (by_word c n j) q ∙ sym e'))
      | inr q ↦ subst₂ (Path (Link (split s c n j first ∷ h))) (sym e) (sym (e' ∙ ap (by_word c n j) q.1)) (across x q.0)
    ]
    leads_at u v b (named_new x e g a) (named_old lv a' p' k') =
        subst (λ z. Path (Link (split s c n j first ∷ h)) z v) (sym e) (from_new x v lv (subst₂ Precedes a a' b))
    leads_at u v b (named_old lu a p k) (named_new y e' g' a') =
        subst (λ z. Path (Link (split s c n j first ∷ h)) u z) (sym e') (to_new u y lu (subst₂ Precedes a a' b))
    leads_at u v b (named_old lu a p k) (named_old lv a' p' k') = lift (l.leads u v lu lv (subst₂ Precedes a a' b))

leads_calm : (history : History) (event : Event) → IsCalm event → Leads history → Leads (event ∷ history)
leads_calm h e calm l = record {
  leads = λ u v lu lv b. path_map link_kept (l.leads u v (older u lu) (older v lv) (subst₂ Precedes (calm_address h e calm u) (calm_address h e calm v) b));
}
  where
    older : (strand : ℕ) → strand < unused (e ∷ h) → strand < unused h
    older x lt = subst (λ m. x < m) (calm_unused h e calm) lt

    link_kept : (strand other : ℕ) → Link h strand other → Link (e ∷ h) strand other
    link_kept x y (inl g) = inl ((calm_forks h e calm x y).1 g)
    link_kept x y (inr g) = inr ((λ v t. g.0 v ((calm_forks h e calm x v).0 t)), ap join_of (calm_place h e calm x) ∙ g.1)

pub leads : {h : History} → Legal h → Leads h
leads start = record { leads = λ u v lu lv b. path_of_equal (omega arith) }
leads (then {history = h} {event = split s c n j first} l a) =
    leads_split h s c n j first (ranges l) (holders l) (addresses l) (fates l) (splitting h s c n j first (ranges l) (holders l) a) (leads l)
leads (then {history = h} {event = same s} l a) = leads_calm h (same s) tt (leads l)
leads (then {history = h} {event = joined s j} l a) = leads_calm h (joined s j) tt (leads l)
leads (then {history = h} {event = waits s} l a) = leads_calm h (waits s) tt (leads l)
leads (then {history = h} {event = call s} l a) = leads_calm h (call s) tt (leads l)
leads (then {history = h} {event = resumed s} l a) = leads_calm h (resumed s) tt (leads l)
leads (then {history = h} {event = ended s} l a) = leads_calm h (ended s) tt (leads l)
leads (then {history = h} {event = ended_joined s j} l a) = leads_calm h (ended_joined s j) tt (leads l)
leads (then {history = h} {event = finished s} l a) = leads_calm h (finished s) tt (leads l)
