-- Which addresses no strand has: none begins behind a strand that has ended otherwise than by a spawn, nor behind a join that no spawn made.
use Rattle.std.proofs.Common.{◌≡◌, ◌≢◌, inl, inr, ℕ, zero, suc, ◌<◌, Bool, true, false, [], ◌∷◌, ◌++◌, replicate, append-nil, append_assoc, refl, sym, ap, ◌∙◌, subst, subst₂, arith}
use Rattle.model_strands.specs.Address.{Word, next, join, Address, extended}
use Rattle.model_strands.specs.Addresses.{address}
use Rattle.model_strands.specs.History.{Event, split, same, joined, waits, call, resumed, ended, ended_joined, finished, History}
use Rattle.model_strands.specs.Strands.{over, status, Running, Begun, unused}
use Rattle.model_strands.specs.Legal.{sync_joined, sync_waits, child_return, last_return, Legal, start, then}
use Rattle.model_strands.specs.Dag.{Arrives}
use Rattle.law_addresses.specs.Address.{IsPrefix}
use Rattle.law_addresses.specs.Blocks.{joined as behind_joins, IsBeyond}
use Rattle.law_strands.proofs.Words.{last_same, prefix_longer, prefix_of_longer, prefix_siblings, not_prefix_shorter, ◌▹◌}
use Rattle.law_strands.proofs.Places.{running_not_over, running_below}
use Rattle.law_strands.proofs.Range.{ranges, spawner_seen}
use Rattle.law_strands.proofs.Holders.{holders, Splitting, splitting, running_open}
use Rattle.law_strands.proofs.Calm.{IsCalm, calm_over, calm_unused, calm_address}
use Rattle.law_strands.proofs.Addresses.{Named, named_new, named_old, named, address_kept, addresses}
use Rattle.law_strands.proofs.Fates.{over_kept}
use Rattle.law_strands.proofs.Law.{begun_below}
use Rattle.law_strands.proofs.Splits.{split_facts, turn_splits}
use Rattle.law_strands.proofs.Sinks.{arrives_over}
use Rattle.law_traces.specs.Spawns.{SpawnsWithin, GoesThrough}

-- the strand has ended, and no address begins with its own and the word
record IsBarren (history : History) (strand : ℕ) (word : Word) : Type 0 where
  is_over : status history strand ≡ over
  known : strand < unused history
  none : (number : ℕ) → number < unused history → IsPrefix (address history strand ▹ word) (address history number) → ⊥

-- behind a running strand there is nothing
below_running : {h : History} → Legal h → (strand : ℕ) → Running h strand → (word : Word) → (number : ℕ) → number < unused h →
    IsPrefix (address h strand ▹ word) (address h number) → ⊥
below_running {h} l s run w x lt p =
    let is : x ≡ s = (addresses l).leaf s x (running_open h s run) lt (prefix_of_longer (address h s) (address h x) w p) in
    not_prefix_shorter (address h s) w (subst (λ z. IsPrefix (address h s ▹ w) (address h z)) is p)

-- a spawn puts nothing behind another strand
barren_split : (history : History) (strand the_child the_next the_join : ℕ) (first : Bool) → Legal history →
    Splitting history strand the_child the_next the_join first → (one : ℕ) (word : Word) → IsBarren history one word →
    IsBarren (split strand the_child the_next the_join first ∷ history) one word
barren_split h s c n j first l v x w barren = record {
  is_over = over_kept h s c n j first (ranges l) v x barren.is_over;
  known = omega (arith, barren.known, v.numbers.grows);
  none = λ y lt p. go y (subst (λ z. IsPrefix (z ▹ w) (address (split s c n j first ∷ h) y)) (address_kept h s c n j first v x barren.known) p) (named h s c n j first v y lt);
}
  where
    go : (number : ℕ) → IsPrefix (address h x ▹ w) (address (split s c n j first ∷ h) number) → Named h s c n j first number → ⊥
    go y p (named_old known at d o) = barren.none y known (subst (IsPrefix (address h x ▹ w)) at p)
    go y p (named_new word e f at) = elim (prefix_longer (address h x ▹ w) (address h s) word (subst (IsPrefix (address h x ▹ w)) at p)) [
      | inl t ↦ barren.none s v.numbers.spawner_known t
      | inr t ↦ (
          let same : x ≡ s = (addresses l).distinct x s barren.known v.numbers.spawner_known (last_same (address h x) (address h s) w word t).0 in
          running_not_over v.runs (subst (λ z. status h z ≡ over) same barren.is_over))
    ]

barren_stays : {h : History} {e : Event} → Legal (e ∷ h) → (one : ℕ) (word : Word) → IsBarren h one word → IsBarren (e ∷ h) one word
barren_stays (then {history = h} {event = split s c n j first} l a) x w b = barren_split h s c n j first l (splitting h s c n j first (ranges l) (holders l) a) x w b
barren_stays (then {history = h} {event = same s} l a) x w b = record { is_over = calm_over h (same s) tt (holders l) a x b.is_over; known = b.known; none = b.none }
barren_stays (then {history = h} {event = joined s j} l a) x w b = record { is_over = calm_over h (joined s j) tt (holders l) a x b.is_over; known = b.known; none = b.none }
barren_stays (then {history = h} {event = waits s} l a) x w b = record { is_over = calm_over h (waits s) tt (holders l) a x b.is_over; known = b.known; none = b.none }
barren_stays (then {history = h} {event = call s} l a) x w b = record { is_over = calm_over h (call s) tt (holders l) a x b.is_over; known = b.known; none = b.none }
barren_stays (then {history = h} {event = resumed s} l a) x w b = record { is_over = calm_over h (resumed s) tt (holders l) a x b.is_over; known = b.known; none = b.none }
barren_stays (then {history = h} {event = ended s} l a) x w b = record { is_over = calm_over h (ended s) tt (holders l) a x b.is_over; known = b.known; none = b.none }
barren_stays (then {history = h} {event = ended_joined s j} l a) x w b = record { is_over = calm_over h (ended_joined s j) tt (holders l) a x b.is_over; known = b.known; none = b.none }
barren_stays (then {history = h} {event = finished s} l a) x w b = record { is_over = calm_over h (finished s) tt (holders l) a x b.is_over; known = b.known; none = b.none }

-- who ends and spawns nothing is barren from then on
barren_end : (history : History) (event : Event) → IsCalm event → Legal history → Legal (event ∷ history) → (strand : ℕ) → Running history strand →
    status (event ∷ history) strand ≡ over → (word : Word) → IsBarren (event ∷ history) strand word
barren_end h e calm l l' s run is_over w = record {
  is_over = is_over;
  known = subst (λ m. s < m) (sym (calm_unused h e calm)) (running_below h (ranges l) s run);
  none = λ y lt p. below_running l s run w y (subst (λ m. y < m) (calm_unused h e calm) lt) (subst₂ (λ u v. IsPrefix (u ▹ w) v) (calm_address h e calm s) (calm_address h e calm y) p);
}

arrived_barren : {h : History} → Legal h → (strand its_join : ℕ) → Arrives h strand its_join → (word : Word) → IsBarren h strand word
arrived_barren start s j arrives w = absurd arrives
arrived_barren (then {history = h} {event = split t c n k first} l a) s j arrives w = barren_stays (then l a) s w (arrived_barren l s j arrives w)
arrived_barren (then {history = h} {event = same t} l a) s j arrives w = barren_stays (then l a) s w (arrived_barren l s j arrives w)
arrived_barren (then {history = h} {event = call t} l a) s j arrives w = barren_stays (then l a) s w (arrived_barren l s j arrives w)
arrived_barren (then {history = h} {event = resumed t} l a) s j arrives w = barren_stays (then l a) s w (arrived_barren l s j arrives w)
arrived_barren (then {history = h} {event = finished t} l a) s j arrives w = barren_stays (then l a) s w (arrived_barren l s j arrives w)
arrived_barren (then {history = h} {event = joined t k} l (sync_joined run st none)) s j (inr arrives) w =
    barren_stays (then l (sync_joined run st none)) s w (arrived_barren l s j arrives w)
arrived_barren (then {history = h} {event = joined t k} l (sync_joined run st none)) s j (inl is) w =
    barren_end h (joined t k) tt l (then l (sync_joined run st none)) s (subst (λ z. Running h z) (sym is.0) run)
    (arrives_over (then l (sync_joined run st none)) s j (inl is)) w
arrived_barren (then {history = h} {event = waits t} l (sync_waits run st m o)) s j (inr arrives) w =
    barren_stays (then l (sync_waits run st m o)) s w (arrived_barren l s j arrives w)
arrived_barren (then {history = h} {event = waits t} l (sync_waits run st m o)) s j (inl is) w =
    barren_end h (waits t) tt l (then l (sync_waits run st m o)) s (subst (λ z. Running h z) (sym is.0) run)
    (arrives_over (then l (sync_waits run st m o)) s j (inl is)) w
arrived_barren (then {history = h} {event = ended t} l (child_return run st last)) s j (inr arrives) w =
    barren_stays (then l (child_return run st last)) s w (arrived_barren l s j arrives w)
arrived_barren (then {history = h} {event = ended t} l (child_return run st last)) s j (inl is) w =
    barren_end h (ended t) tt l (then l (child_return run st last)) s (subst (λ z. Running h z) (sym is.0) run)
    (arrives_over (then l (child_return run st last)) s j (inl is)) w
arrived_barren (then {history = h} {event = ended_joined t k} l (last_return run st last)) s j (inr arrives) w =
    barren_stays (then l (last_return run st last)) s w (arrived_barren l s j arrives w)
arrived_barren (then {history = h} {event = ended_joined t k} l (last_return run st last)) s j (inl is) w =
    barren_end h (ended_joined t k) tt l (then l (last_return run st last)) s (subst (λ z. Running h z) (sym is.0) run)
    (arrives_over (then l (last_return run st last)) s j (inl is)) w

-- who spawned in an open block has no join behind it
new_not_joined : (history : History) (strand the_child the_next the_join : ℕ) → Legal history → Splitting history strand the_child the_next the_join false →
    IsBarren (split strand the_child the_next the_join false ∷ history) strand join
new_not_joined h s c n j l v = record {
  is_over = (spawner_seen h s c n j false v.numbers).0;
  known = omega (arith, v.numbers.spawner_known, v.numbers.grows);
  none = λ y lt p. go y (subst (λ z. IsPrefix (z ▹ join) (address (split s c n j false ∷ h) y)) (address_kept h s c n j false v s v.numbers.spawner_known) p) (named h s c n j false v y lt);
}
  where
    go : (number : ℕ) → IsPrefix (address h s ▹ join) (address (split s c n j false ∷ h) number) → Named h s c n j false number → ⊥
    go y p (named_old known at d o) = below_running l s v.runs join y known (subst (IsPrefix (address h s ▹ join)) at p)
    go y p (named_new word e f at) =
        let is : join ≡ word = prefix_siblings (address h s) join word (subst (IsPrefix (address h s ▹ join)) at p) in
        let clash : false ≡ true = f (sym is) in
        cc

within_barren : {h : History} → Legal h → (strand : ℕ) → SpawnsWithin h strand → IsBarren h strand join
within_barren start s within = absurd within
within_barren (then {history = h} {event = split t c n k false} l a) s (inl is) =
    subst (λ z. IsBarren (split t c n k false ∷ h) z join) (sym is) (new_not_joined h t c n k l (splitting h t c n k false (ranges l) (holders l) a))
within_barren (then {history = h} {event = split t c n k false} l a) s (inr within) = barren_stays (then l a) s join (within_barren l s within)
within_barren (then {history = h} {event = split t c n k true} l a) s within = barren_stays (then l a) s join (within_barren l s within)
within_barren (then {history = h} {event = same t} l a) s within = barren_stays (then l a) s join (within_barren l s within)
within_barren (then {history = h} {event = joined t k} l a) s within = barren_stays (then l a) s join (within_barren l s within)
within_barren (then {history = h} {event = waits t} l a) s within = barren_stays (then l a) s join (within_barren l s within)
within_barren (then {history = h} {event = call t} l a) s within = barren_stays (then l a) s join (within_barren l s within)
within_barren (then {history = h} {event = resumed t} l a) s within = barren_stays (then l a) s join (within_barren l s within)
within_barren (then {history = h} {event = ended t} l a) s within = barren_stays (then l a) s join (within_barren l s within)
within_barren (then {history = h} {event = ended_joined t k} l a) s within = barren_stays (then l a) s join (within_barren l s within)
within_barren (then {history = h} {event = finished t} l a) s within = barren_stays (then l a) s join (within_barren l s within)

-- ---- beyond where the spawner's function goes on to

one_more_join : (blocks : ℕ) (a : Address) → behind_joins a (suc blocks) ≡ behind_joins a blocks ▹ join
one_more_join blocks a = ap (λ z. a ++ z) (last_join blocks) ∙ sym (append_assoc a (replicate blocks join) (join ∷ []))
  where
    last_join : (blocks : ℕ) → join ∷ replicate blocks join ≡ replicate blocks join ++ (join ∷ [])
    last_join zero = refl
    last_join (suc blocks) = ap (λ z. join ∷ z) (last_join blocks)

-- who is beyond an address goes on from it by a word
longer_by : (a b : Address) → IsBeyond a b → (word : Word) × IsPrefix (a ▹ word) b
longer_by a b (([], is), differ) = absurd (differ (is ∙ append-nil a))
longer_by a b ((word ∷ rest, is), differ) = (word, (rest, is ∙ sym (append_assoc a (word ∷ []) rest)))

-- where an address begins with one that no strand is at, no strand is at it either
none_behind : {h : History} → Legal h → (at : Address) → ((strand : ℕ) → Begun h strand → address h strand ≢ at) → (strand : ℕ) → Begun h strand →
    IsPrefix at (address h strand) → ⊥
none_behind {h} l at none s begun ([], is) = none s begun (is ∙ append-nil at)
none_behind {h} l at none s begun (word ∷ rest, is) =
    let t = turn_splits l s (begun_below h (ranges l) s begun) at word (rest, is ∙ sym (append_assoc at (word ∷ []) rest)) in
    none t.spawner (split_facts l t.spawner t.the_child t.the_next t.splits).spawner_begun t.spawner_address

pub none_beyond : {h : History} → Legal h → (spawner : Address) (blocks : ℕ) → GoesThrough h spawner blocks → (strand other : ℕ) → Begun h strand → Begun h other →
    IsPrefix (extended spawner join) (address h strand) → IsBeyond (behind_joins (extended spawner next) blocks) (address h other) → ⊥
none_beyond {h} l spawner blocks (inl (s, j, at, arrives)) x y bx by behind beyond =
    let t = longer_by (behind_joins (extended spawner next) blocks) (address h y) beyond in
    (arrived_barren l s j arrives t.0).none y (begun_below h (ranges l) y by) (subst (λ z. IsPrefix (z ▹ t.0) (address h y)) (sym at) t.1)
none_beyond {h} l spawner blocks (inr (inl (s, before, is, at, within))) x y bx by behind beyond =
    let end : behind_joins (extended spawner next) blocks ≡ address h s ▹ join =
    ap (behind_joins (extended spawner next)) is ∙ one_more_join before (extended spawner next) ∙ ap (λ z. z ▹ join) (sym at) in
    (within_barren l s within).none y (begun_below h (ranges l) y by) (subst (λ z. IsPrefix z (address h y)) end beyond.0)
none_beyond {h} l spawner blocks (inr (inr none)) x y bx by behind beyond = none_behind l (extended spawner join) none x bx behind
