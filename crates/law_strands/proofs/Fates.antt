-- What became of each strand: it is open, it forked, or it arrived at the join of its place.
use Rattle.std.proofs.Common.{◌≡◌, ◌⊎◌, inl, inr, ℕ, ◌<◌, Bool, ◌∷◌, Some, None, refl, sym, ap, ◌∙◌, subst, arith}
use Rattle.model_strands.specs.Address.{Word, child, next}
use Rattle.model_strands.specs.Updated.{updated}
use Rattle.model_strands.specs.History.{Event, split, same, joined, waits, call, resumed, ended, ended_joined, finished, History}
use Rattle.model_strands.specs.Strands.{absent, reserved, running, over, status, unused}
use Rattle.model_strands.specs.Blocks.{stack, enclosing}
use Rattle.model_strands.specs.Legal.{Allowed, sync_joined, sync_waits, child_return, last_return, root_return, Legal, start, then}
use Rattle.model_strands.specs.Dag.{Forks, Arrives}
use Rattle.model_strands.specs.Addresses.{address}
use Rattle.law_strands.proofs.Updates.{updated_at, updated_case}
use Rattle.law_strands.proofs.Words.{◌▹◌}
use Rattle.law_strands.proofs.Places.{outermost, place_of, place, join_of, enclosing_is, Ranges, running_below, Seen, at_child, at_next, at_join, at_spawner, elsewhere, over_not_absent, running_not_absent}
use Rattle.law_strands.proofs.Range.{ranges, child_seen, next_seen, spawner_seen}
use Rattle.law_strands.proofs.Holders.{IsOpen, Open, Holders, holders, Splitting, splitting, running_open, reserved_open}
use Rattle.law_strands.proofs.Calm.{IsCalm, calm_place, calm_address, calm_unused, calm_forks, calm_arrives, calm_over}
use Rattle.law_strands.proofs.Addresses.{address_kept, place_kept}

-- each known number is open, has forked, or has arrived at the join of its place
pub record Fates (history : History) : Type 0 where
  pub known : (number : ℕ) → number < unused history → status history number ≡ absent → ⊥
  pub forked : (strand other : ℕ) → Forks history strand other → (status history strand ≡ over) × (strand < unused history) × (other < unused history)
  pub below : (strand other : ℕ) → Forks history strand other → (word : Word) × (address history other ≡ address history strand ▹ word)
  pub arrived : (strand join : ℕ) → Arrives history strand join → (strand < unused history) × (join_of (place history strand) ≡ Some join)
  pub fate : (number : ℕ) → number < unused history →
      Open history number ⊎ ((other : ℕ) × Forks history number other) ⊎ ((join : ℕ) → join_of (place history number) ≡ Some join → Arrives history number join)

pub over_kept : (history : History) (strand the_child the_next the_join : ℕ) (first : Bool) → Ranges history →
    Splitting history strand the_child the_next the_join first → (one : ℕ) → status history one ≡ over →
    status (split strand the_child the_next the_join first ∷ history) one ≡ over
over_kept h s c n j first r w x e = go (w.numbers.see x)
  where
    go : Seen h s c n j first x → status (split s c n j first ∷ h) x ≡ over
    go (at_child xe a b d) = absurd (over_not_absent e (r.absent_beyond x (omega (arith, xe, w.numbers.child_is))))
    go (at_next xe a b d) = absurd (over_not_absent e (r.absent_beyond x (omega (arith, xe, w.numbers.next_is))))
    go (at_join xe lo f a b d) = absurd (over_not_absent e (r.absent_beyond x lo))
    go (at_spawner xe a b d) = a
    go (elsewhere ne kn a b d) = a ∙ e

fates_split : (history : History) (strand the_child the_next the_join : ℕ) (first : Bool) → Ranges history →
    Splitting history strand the_child the_next the_join first → Fates history → Fates (split strand the_child the_next the_join first ∷ history)
fates_split h s c n j first r w f = record {
  known = λ x lt e. known_at x lt e (w.numbers.see x);
  forked = λ u v g. forked_at u v g;
  below = λ u v g. below_at u v g;
  arrived = λ u k g. arrived_at u k g;
  fate = λ x lt. fate_at x lt (w.numbers.see x);
}
  where
    wider : (strand : ℕ) → strand < unused h → strand < unused (split s c n j first ∷ h)
    wider x lt = omega (arith, w.numbers.grows)

    known_at : (strand : ℕ) → strand < unused (split s c n j first ∷ h) → status (split s c n j first ∷ h) strand ≡ absent → Seen h s c n j first strand → ⊥
    known_at x lt e (at_child xe a b d) = let g : running ≡ absent = sym a ∙ e in cc
    known_at x lt e (at_next xe a b d) = let g : running ≡ absent = sym a ∙ e in cc
    known_at x lt e (at_join xe lo t a b d) = let g : reserved ≡ absent = sym a ∙ e in cc
    known_at x lt e (at_spawner xe a b d) = let g : over ≡ absent = sym a ∙ e in cc
    known_at x lt e (elsewhere ne (inl kn) a b d) = f.known x kn (sym a ∙ e)
    known_at x lt e (elsewhere ne (inr kn) a b d) = omega arith

    forked_at : (strand other : ℕ) → Forks (split s c n j first ∷ h) strand other →
        (status (split s c n j first ∷ h) strand ≡ over) × (strand < unused (split s c n j first ∷ h)) × (other < unused (split s c n j first ∷ h))
    forked_at u v (inl (e, inl g)) =
        (subst (λ z. status (split s c n j first ∷ h) z ≡ over) (sym e) (spawner_seen h s c n j first w.numbers).0, omega (arith, e, w.numbers.spawner_known, w.numbers.grows), omega (arith, g, w.numbers.child_is, w.numbers.grows))
    forked_at u v (inl (e, inr g)) =
        (subst (λ z. status (split s c n j first ∷ h) z ≡ over) (sym e) (spawner_seen h s c n j first w.numbers).0, omega (arith, e, w.numbers.spawner_known, w.numbers.grows), omega (arith, g, w.numbers.next_is, w.numbers.grows))
    forked_at u v (inr g) = let t = f.forked u v g in (over_kept h s c n j first r w u t.0, wider u t.1, wider v t.2)

    below_at : (strand other : ℕ) → Forks (split s c n j first ∷ h) strand other →
        (word : Word) × (address (split s c n j first ∷ h) other ≡ address (split s c n j first ∷ h) strand ▹ word)
    below_at u v (inl (e, inl g)) =
        (child, ap (address (split s c n j first ∷ h)) g ∙ ((child_seen h s c n j first w.numbers).2 ∙ ap (λ z. z ▹ child) (sym (ap (address (split s c n j first ∷ h)) e ∙ address_kept h s c n j first w s w.numbers.spawner_known))))
    below_at u v (inl (e, inr g)) =
        (next, ap (address (split s c n j first ∷ h)) g ∙ ((next_seen h s c n j first w.numbers).2 ∙ ap (λ z. z ▹ next) (sym (ap (address (split s c n j first ∷ h)) e ∙ address_kept h s c n j first w s w.numbers.spawner_known))))
    below_at u v (inr g) = let t = f.below u v g in let k = f.forked u v g in
        (t.0, address_kept h s c n j first w v k.2 ∙ (t.1 ∙ ap (λ z. z ▹ t.0) (sym (address_kept h s c n j first w u k.1))))

    arrived_at : (strand other_join : ℕ) → Arrives h strand other_join →
        (strand < unused (split s c n j first ∷ h)) × (join_of (place (split s c n j first ∷ h) strand) ≡ Some other_join)
    arrived_at u k g = let t = f.arrived u k g in (wider u t.0, ap join_of (place_kept h s c n j first w u t.0) ∙ t.1)

    fate_at : (strand : ℕ) → strand < unused (split s c n j first ∷ h) → Seen h s c n j first strand →
        Open (split s c n j first ∷ h) strand ⊎ ((other : ℕ) × Forks (split s c n j first ∷ h) strand other) ⊎ ((other_join : ℕ) → join_of (place (split s c n j first ∷ h) strand) ≡ Some other_join → Arrives h strand other_join)
    fate_at x lt (at_child xe a b d) = inl (running_open (split s c n j first ∷ h) x a)
    fate_at x lt (at_next xe a b d) = inl (running_open (split s c n j first ∷ h) x a)
    fate_at x lt (at_join xe lo t a b d) = inl (reserved_open (split s c n j first ∷ h) x a)
    fate_at x lt (at_spawner xe a b d) = inr (inl (c, inl (xe, inl refl)))
    fate_at x lt (elsewhere ne (inr kn) a b d) = absurd (omega arith)
    fate_at x lt (elsewhere ne (inl kn) a b d) = elim (f.fate x kn) [
      | inl o ↦ inl (subst IsOpen (sym a) o)
      | inr (inl t) ↦ inr (inl (t.0, inr t.1))
      | inr (inr t) ↦ inr (inr (λ k g. t k (sym (ap join_of b) ∙ g)))
    ]

-- what a calm event leaves of the fates, but for the strand that it ends
fates_calm : (history : History) (event : Event) → IsCalm event → Holders history → Allowed history event → Fates history →
    ((strand : ℕ) → strand < unused history → status (event ∷ history) strand ≡ absent → ⊥) →
    ((one other_join : ℕ) → Arrives (event ∷ history) one other_join → Arrives history one other_join ⊎ ((one < unused history) × (join_of (place history one) ≡ Some other_join))) →
    ((strand : ℕ) → strand < unused history → Open history strand → Open (event ∷ history) strand ⊎ ((other_join : ℕ) → join_of (place history strand) ≡ Some other_join → Arrives (event ∷ history) strand other_join)) →
    Fates (event ∷ history)
fates_calm h e calm o a f here arrives ends = record {
  known = λ x lt g. here x (older x lt) g;
  forked = λ u v g. let t = f.forked u v ((calm_forks h e calm u v).0 g) in (calm_over h e calm o a u t.0, newer u t.1, newer v t.2);
  below = λ u v g. let t = f.below u v ((calm_forks h e calm u v).0 g) in (t.0, calm_address h e calm v ∙ (t.1 ∙ ap (λ z. z ▹ t.0) (sym (calm_address h e calm u))));
  arrived = λ u k g. arrived_at u k (arrives u k g);
  fate = λ x lt. fate_at x (older x lt) (f.fate x (older x lt));
}
  where
    older : (strand : ℕ) → strand < unused (e ∷ h) → strand < unused h
    older x lt = subst (λ m. x < m) (calm_unused h e calm) lt

    newer : (strand : ℕ) → strand < unused h → strand < unused (e ∷ h)
    newer x lt = subst (λ m. x < m) (sym (calm_unused h e calm)) lt

    arrived_at : (strand other_join : ℕ) → Arrives h strand other_join ⊎ ((strand < unused h) × (join_of (place h strand) ≡ Some other_join)) →
        (strand < unused (e ∷ h)) × (join_of (place (e ∷ h) strand) ≡ Some other_join)
    arrived_at u k (inl g) = let t = f.arrived u k g in (newer u t.0, ap join_of (calm_place h e calm u) ∙ t.1)
    arrived_at u k (inr t) = (newer u t.0, ap join_of (calm_place h e calm u) ∙ t.1)

    fate_at : (strand : ℕ) → strand < unused h →
        Open h strand ⊎ ((other : ℕ) × Forks h strand other) ⊎ ((other_join : ℕ) → join_of (place h strand) ≡ Some other_join → Arrives h strand other_join) →
        Open (e ∷ h) strand ⊎ ((other : ℕ) × Forks (e ∷ h) strand other) ⊎ ((other_join : ℕ) → join_of (place (e ∷ h) strand) ≡ Some other_join → Arrives (e ∷ h) strand other_join)
    fate_at x lt (inl op) = elim (ends x lt op) [
      | inl q ↦ inl q
      | inr q ↦ inr (inr (λ k g. q k (sym (ap join_of (calm_place h e calm x)) ∙ g)))
    ]
    fate_at x lt (inr (inl t)) = inr (inl (t.0, (calm_forks h e calm x t.0).1 t.1))
    fate_at x lt (inr (inr t)) = inr (inr (λ k g. calm_arrives h e x k (t k (sym (ap join_of (calm_place h e calm x)) ∙ g))))

-- the strand ends
known_after_end : (history : History) → Fates history → (strand one : ℕ) → one < unused history → updated (status history) strand over one ≡ absent → ⊥
known_after_end h f s x lt = updated_case (λ t. t ≡ absent → ⊥) (status h) s over x (λ e. over_not_absent refl) (λ ne. f.known x lt)

-- the strand ends and a join begins
known_after_join : (history : History) → Fates history → (strand its_join one : ℕ) → one < unused history →
    updated (updated (status history) strand over) its_join running one ≡ absent → ⊥
known_after_join h f s j x lt =
    updated_case (λ t. t ≡ absent → ⊥) (updated (status h) s over) j running x (λ e. running_not_absent refl) (λ ne. known_after_end h f s x lt)

end_or_open : (history : History) (strand one : ℕ) → Open history one → IsOpen (updated (status history) strand over one) ⊎ (one ≡ strand)
end_or_open h s x op = updated_case (λ t. IsOpen t ⊎ (x ≡ s)) (status h) s over x (λ e. inr e) (λ ne. inl op)

end_or_open_join : (history : History) (strand its_join one : ℕ) → Open history one →
    IsOpen (updated (updated (status history) strand over) its_join running one) ⊎ (one ≡ strand)
end_or_open_join h s j x op = updated_case (λ t. IsOpen t ⊎ (x ≡ s)) (updated (status h) s over) j running x (λ e. inl tt) (λ ne. end_or_open h s x op)

-- what arrives is the strand that ends
arrival : (history : History) (strand one other_join : ℕ) → strand < unused history →
    (one ≡ strand) × (enclosing (stack history strand) ≡ Some other_join) ⊎ Arrives history one other_join →
    Arrives history one other_join ⊎ ((one < unused history) × (join_of (place history one) ≡ Some other_join))
arrival h s u k lt (inl t) = inr (subst (λ z. z < unused h) (sym t.0) lt, ap (λ z. join_of (place h z)) t.0 ∙ (sym (enclosing_is (stack h s)) ∙ t.1))
arrival h s u k lt (inr t) = inl t

enclosing_at : (history : History) (strand one other_join : ℕ) → one ≡ strand → join_of (place history one) ≡ Some other_join →
    enclosing (stack history strand) ≡ Some other_join
enclosing_at h s x k e g = enclosing_is (stack h s) ∙ (ap (λ z. join_of (place h z)) (sym e) ∙ g)

pub fates : {h : History} → Legal h → Fates h
fates start = record {
  known = λ x lt e. let z : x ≡ 0 = omega arith in let g : running ≡ absent = sym (updated_at (λ y. absent) 0 running x z) ∙ e in cc;
  forked = λ u v g. absurd g;
  below = λ u v g. absurd g;
  arrived = λ u k g. absurd g;
  fate = λ x lt. let z : x ≡ 0 = omega arith in inl (subst IsOpen (sym (updated_at (λ y. absent) 0 running x z)) tt);
}
fates (then {history = h} {event = split s c n j first} l a) =
    fates_split h s c n j first (ranges l) (splitting h s c n j first (ranges l) (holders l) a) (fates l)
fates (then {history = h} {event = same s} l a) = let f = fates l in fates_calm h (same s) tt (holders l) a f f.known (λ u k g. inl g) (λ x lt op. inl op)
fates (then {history = h} {event = call s} l a) = let f = fates l in fates_calm h (call s) tt (holders l) a f f.known (λ u k g. inl g) (λ x lt op. inl op)
fates (then {history = h} {event = resumed s} l a) = let f = fates l in fates_calm h (resumed s) tt (holders l) a f f.known (λ u k g. inl g) (λ x lt op. inl op)
fates (then {history = h} {event = joined s j} l (sync_joined run st none)) =
    let f = fates l in fates_calm h (joined s j) tt (holders l) (sync_joined run st none) f (known_after_join h f s j)
    (λ u k g. arrival h s u k (running_below h (ranges l) s run) g)
    (λ x lt op. elim (end_or_open_join h s j x op) [ inl q ↦ inl q | inr e ↦ inr (λ k g. inl (e, enclosing_at h s x k e g)) ])
fates (then {history = h} {event = waits s} l (sync_waits run st m some)) =
    let f = fates l in fates_calm h (waits s) tt (holders l) (sync_waits run st m some) f (known_after_end h f s)
    (λ u k g. arrival h s u k (running_below h (ranges l) s run) g)
    (λ x lt op. elim (end_or_open h s x op) [ inl q ↦ inl q | inr e ↦ inr (λ k g. inl (e, enclosing_at h s x k e g)) ])
fates (then {history = h} {event = ended s} l (child_return run st last)) =
    let f = fates l in fates_calm h (ended s) tt (holders l) (child_return run st last) f (known_after_end h f s)
    (λ u k g. arrival h s u k (running_below h (ranges l) s run) g)
    (λ x lt op. elim (end_or_open h s x op) [ inl q ↦ inl q | inr e ↦ inr (λ k g. inl (e, enclosing_at h s x k e g)) ])
fates (then {history = h} {event = ended_joined s j} l (last_return run st last)) =
    let f = fates l in fates_calm h (ended_joined s j) tt (holders l) (last_return run st last) f (known_after_join h f s j)
    (λ u k g. arrival h s u k (running_below h (ranges l) s run) g)
    (λ x lt op. elim (end_or_open_join h s j x op) [ inl q ↦ inl q | inr e ↦ inr (λ k g. inl (e, enclosing_at h s x k e g)) ])
fates (then {history = h} {event = finished s} l (root_return run st)) =
    let f = fates l in fates_calm h (finished s) tt (holders l) (root_return run st) f (known_after_end h f s)
    (λ u k g. inl g)
    (λ x lt op. elim (end_or_open h s x op) [ inl q ↦ inl q | inr e ↦ inr (λ k g. absurd (no_join (ap place_of st) (enclosing_at h s x k e g))) ])
  where
    no_join : {k : ℕ} → place h s ≡ outermost → enclosing (stack h s) ≡ Some k → ⊥
    no_join {k} e g = let t : None ≡ Some k = sym (ap join_of e) ∙ (sym (enclosing_is (stack h s)) ∙ g) in cc
