-- What the children of a block lead to comes before the block's join or behind it.
-- a, b: addresses; v, w: words; h: a history; x, y: strands; in a split, s is the spawner, c its child, n its next and j the join
use Rattle.std.proofs.Common.{◌≡◌, ◌⊎◌, inl, inr, ℕ, ◌<◌, ◌≤◌, Bool, true, false, [], ◌∷◌, ◌++◌, Some, refl, sym, ap, ◌∙◌, subst, subst₂, append_assoc, arith}
use Rattle.model_strands.specs.Address.{Word, child, next, join, Address}
use Rattle.law_addresses.specs.Address.{is_fork, IsPrefix}
use Rattle.law_addresses.proofs.Blocks.{prefix-reaches, inside-reaches}
use Rattle.law_addresses.proofs.Branches.{cases_last}
use Rattle.law_addresses.proofs.Relations.{reaches-decides, reaches-transitive}
use Rattle.model_strands.specs.History.{Event, split, same, joined, waits, call, resumed, ended, ended_joined, finished, History}
use Rattle.model_strands.specs.Strands.{reserved, running, Running, Begun, unused}
use Rattle.model_strands.specs.Blocks.{Stack, block, stack}
use Rattle.model_strands.specs.Legal.{Legal, start, then}
use Rattle.model_strands.specs.Dag.{Reaches}
use Rattle.model_strands.specs.Extensions.{Extends}
use Rattle.model_strands.specs.Addresses.{address}
use Rattle.law_strands.proofs.Words.{Precedes, Diverges, diverges_extend, diverges_precedes, last_same, prefix_refl, prefix_widen, ◌▹◌}
use Rattle.law_strands.proofs.Places.{continuation, place, join_of, Seen, at_child, at_next, at_join, at_spawner, elsewhere, some_same}
use Rattle.law_strands.proofs.Range.{ranges}
use Rattle.law_strands.proofs.Holders.{Splitting, splitting, holders}
use Rattle.law_strands.proofs.Calm.{IsCalm, calm_place, calm_address, calm_unused}
use Rattle.law_strands.proofs.Addresses.{address_kept}
use Rattle.law_strands.proofs.Law.{reach_precedes, precedes_reach}
use Rattle.law_strands.proofs.Leads.{path_then}
use Rattle.law_strands.proofs.Kept.{address_stays, legal_before, join_law}
use Rattle.law_strands.proofs.Branches.{legal_part}
use Rattle.race_pairs.proofs.Framed.{unused_with}
use Rattle.race_pairs.specs.Syncs.{GoesOnWithSync, SyncOrders}

-- Addresses.

-- b is the join of a block, and a comes by its child or its continuation
abbrev pub TurnsOff : Address → Address → Type 0
TurnsOff a b = (front : Address) × (word : Word) × (is_fork word ≡ true) × IsPrefix (front ▹ word) a × (b ≡ front ▹ join)

turns_extend : (a b : Address) (w : Word) → TurnsOff a b → TurnsOff (a ▹ w) b
turns_extend a b w (front, v, fork, p, e) = (front, v, fork, prefix_widen (front ▹ v) a w p, e)

turns_here : (a : Address) (w : Word) → is_fork w ≡ true → TurnsOff (a ▹ w) (a ▹ join)
turns_here a w fork = (a, w, fork, prefix_refl (a ▹ w), refl)

-- what a side of the block leads to precedes the join, or the join precedes it
beside_join : (a : Address) (w : Word) → is_fork w ≡ true → (b : Address) → Precedes (a ▹ w) b → Precedes b (a ▹ join) ⊎ Precedes (a ▹ join) b
beside_join a w fork b p = go ((reaches-decides (a ▹ w) b).0 p)
  where
    go : IsPrefix (a ▹ w) b ⊎ Diverges (a ▹ w) b → Precedes b (a ▹ join) ⊎ Precedes (a ▹ join) b
    go (inl k) = inl (inside-reaches a w fork b k)
    go (inr (front, u, v, x, y, e, f, k)) = last (cases_last u)
      where
        last : (u ≡ []) ⊎ ((rest : Address) × (z : Word) × (u ≡ rest ▹ z)) → Precedes b (a ▹ join) ⊎ Precedes (a ▹ join) b
        last (inl none) =
            let here : a ≡ front = (last_same a front w x (e ∙ ap (λ (r : Address). front ++ (x ∷ r)) none)).0 in
            let begins : b ≡ (a ▹ join) ++ v =
            f ∙ (ap (λ (r : Address). r ++ (y ∷ v)) (sym here) ∙ (ap (λ (z : Word). a ++ (z ∷ v)) k.1 ∙ sym (append_assoc a (join ∷ []) v))) in
            inr (prefix-reaches (a ▹ join) b (v, begins))
        last (inr (rest, z, some)) =
            let turn : a ≡ front ++ (x ∷ rest) =
            (last_same a (front ++ (x ∷ rest)) w z (e ∙ (ap (λ (r : Address). front ++ (x ∷ r)) some ∙ sym (append_assoc front (x ∷ rest) (z ∷ []))))).0 in
            inr (diverges_precedes (a ▹ join) b (diverges_extend a b join (front, rest, v, x, y, turn, f, k)))

-- Strands in a block.

-- each strand in a block turns off before the block's join
abbrev pub Inside : History → Type 0
Inside history =
    (strand its_join : ℕ) → strand < unused history → join_of (place history strand) ≡ Some its_join →
    TurnsOff (address history strand) (address history its_join)

side_turns : (h : History) (s c n j : ℕ) (first : Bool) → Legal h → Inside h → Splitting h s c n j first → (w : Word) → is_fork w ≡ true →
    TurnsOff (address h s ▹ w) (address (split s c n j first ∷ h) j)
side_turns h s c n j first l inner made w fork = go made.block_is (made.numbers.see j)
  where
    running_is_not : running ≡ reserved → ⊥
    running_is_not t = cc

    go : ((first ≡ true) × (unused h ≤ j)) ⊎ ((first ≡ false) × (place h s ≡ continuation j)) → Seen h s c n j first j →
        TurnsOff (address h s ▹ w) (address (split s c n j first ∷ h) j)
    go (inl k) (at_child e a b g) = absurd (running_is_not (sym a ∙ made.join_waits))
    go (inl k) (at_next e a b g) = absurd (running_is_not (sym a ∙ made.join_waits))
    go (inl k) (at_join e lo f a b g) = subst (TurnsOff (address h s ▹ w)) (sym g) (turns_here (address h s) w fork)
    go (inl k) (at_spawner e a b g) = absurd (omega (arith, e, k.1, made.numbers.spawner_known))
    go (inl k) (elsewhere ns (inl q) a b g) = absurd (omega (arith, k.1))
    go (inl k) (elsewhere ns (inr q) a b g) = absurd (omega (arith, made.numbers.join_known))
    go (inr k) seen =
        let known : j < unused h = (ranges l).join_below s j (ap join_of k.1) in
        subst (TurnsOff (address h s ▹ w)) (sym (address_kept h s c n j first made j known))
        (turns_extend (address h s) (address h j) w (inner s j made.numbers.spawner_known (ap join_of k.1)))

inside_split : (h : History) (s c n j : ℕ) (first : Bool) → Legal h → Inside h → Splitting h s c n j first → Inside (split s c n j first ∷ h)
inside_split h s c n j first l inner made x k lx g = go (made.numbers.see x)
  where
    old : (y : ℕ) → y < unused h → join_of (place h y) ≡ Some k → TurnsOff (address h y) (address (split s c n j first ∷ h) k)
    old y ly e = subst (TurnsOff (address h y)) (sym (address_kept h s c n j first made k ((ranges l).join_below y k e))) (inner y k ly e)

    go : Seen h s c n j first x → TurnsOff (address (split s c n j first ∷ h) x) (address (split s c n j first ∷ h) k)
    go (at_child e a b q) =
        let k_is : j ≡ k = some_same (sym (ap join_of b) ∙ g) in
        subst₂ TurnsOff (sym q) (ap (address (split s c n j first ∷ h)) k_is) (side_turns h s c n j first l inner made child refl)
    go (at_next e a b q) =
        let k_is : j ≡ k = some_same (sym (ap join_of b) ∙ g) in
        subst₂ TurnsOff (sym q) (ap (address (split s c n j first ∷ h)) k_is) (side_turns h s c n j first l inner made next refl)
    go (at_join e lo f a b q) =
        subst (λ (z : Address). TurnsOff z (address (split s c n j first ∷ h) k)) (sym q)
        (turns_extend (address h s) (address (split s c n j first ∷ h) k) join (old s made.numbers.spawner_known (sym (ap join_of b) ∙ g)))
    go (at_spawner e a b q) =
        subst (λ (z : Address). TurnsOff z (address (split s c n j first ∷ h) k)) (sym q) (old s made.numbers.spawner_known (sym (ap join_of b) ∙ g))
    go (elsewhere ne (inl known) a b q) =
        subst (λ (z : Address). TurnsOff z (address (split s c n j first ∷ h) k)) (sym q) (old x known (sym (ap join_of b) ∙ g))
    go (elsewhere ne (inr beyond) a b q) = absurd (omega arith)

inside_calm : (h : History) (event : Event) → IsCalm event → Inside h → Inside (event ∷ h)
inside_calm h e calm inner x k lx g =
    subst₂ TurnsOff (sym (calm_address h e calm x)) (sym (calm_address h e calm k))
    (inner x k (subst (λ m. x < m) (calm_unused h e calm) lx) (sym (ap join_of (calm_place h e calm x)) ∙ g))

pub inside : {h : History} → Legal h → Inside h
inside start = λ x k lx g. absurd (cc)
inside (then {history = h} {event = split s c n j first} l a) =
    inside_split h s c n j first l (inside l) (splitting h s c n j first (ranges l) (holders l) a)
inside (then {history = h} {event = same s} l a) = inside_calm h (same s) tt (inside l)
inside (then {history = h} {event = joined s j} l a) = inside_calm h (joined s j) tt (inside l)
inside (then {history = h} {event = waits s} l a) = inside_calm h (waits s) tt (inside l)
inside (then {history = h} {event = call s} l a) = inside_calm h (call s) tt (inside l)
inside (then {history = h} {event = resumed s} l a) = inside_calm h (resumed s) tt (inside l)
inside (then {history = h} {event = ended s} l a) = inside_calm h (ended s) tt (inside l)
inside (then {history = h} {event = ended_joined s j} l a) = inside_calm h (ended_joined s j) tt (inside l)
inside (then {history = h} {event = finished s} l a) = inside_calm h (finished s) tt (inside l)

-- what a strand in a block leads to precedes the begun join, or the join precedes it
pub reach_join : (h : History) → Legal h → (x j y : ℕ) → TurnsOff (address h x) (address h j) → Begun h j → Begun h y → Reaches h x y →
    Reaches h y j ⊎ Reaches h j y
reach_join h l x j y (front, w, fork, p, e) begun_join begun r =
    let leads : Precedes (front ▹ w) (address h y) =
    reaches-transitive (front ▹ w) (address h x) (address h y) (prefix-reaches (front ▹ w) (address h x) p) (reach_precedes h l x y r) in
    elim (beside_join front w fork (address h y) leads) [
      | inl k ↦ inl (precedes_reach h l y j begun begun_join (subst (Precedes (address h y)) (sym e) k))
      | inr k ↦ inr (precedes_reach h l j y begun_join begun (subst (λ (z : Address). Precedes z (address h y)) (sym e) k))
    ]

-- In longer histories.

lasting : (later h : History) → Legal (later ++ h) → (x : ℕ) → x < unused h → (address (later ++ h) x ≡ address h x) × (x < unused (later ++ h))
lasting [] h l x lt = (refl, lt)
lasting (e ∷ later) h l x lt =
    let t = lasting later h (legal_before l) x lt in
    (address_stays l x t.1 ∙ t.0, omega (arith, t.1, unused_with (later ++ h) (Some e)))

pub address_lasts : (h longer : History) → Extends longer h → Legal longer → (x : ℕ) → x < unused h → address longer x ≡ address h x
address_lasts h longer (later, e) l x lt =
    subst (λ (z : History). address z x ≡ address h x) e (lasting later h (subst (λ (z : History). Legal z) (sym e) l) x lt).0

-- A sync.

pub sync_orders : (h : History) → Legal h → (x c j : ℕ) (below : Stack) → Running h x → stack h x ≡ block j below → c < unused h → j < unused h →
    TurnsOff (address h c) (address h j) → SyncOrders h x c j
sync_orders h l x c j below run st lc lj turns = record {
  runs = run;
  below = below;
  in_block = st;
  goes_on = join_law h l x j below run st;
  orders = λ longer on begun first second begun_first r not_behind after. ordered longer on begun first second begun_first r not_behind after;
}
  where
    stays : (longer : History) → GoesOnWithSync h x longer → (y : ℕ) → y < unused h → address longer y ≡ address h y
    stays longer (event, answers, extends, legal) y lt =
        let here : Legal (event ∷ h) = legal_part (event ∷ h) longer extends legal in
        address_lasts (event ∷ h) longer extends legal y (omega (arith, lt, unused_with h (Some event))) ∙ address_stays here y lt

    ordered : (longer : History) → GoesOnWithSync h x longer → Begun longer j → (first second : ℕ) → Begun longer first → Reaches longer c first →
        (Reaches longer j first → ⊥) → Reaches longer j second → Reaches longer first second
    ordered longer on begun first second begun_first r not_behind after =
        elim (reach_join longer on.3 c j first (subst₂ TurnsOff (sym (stays longer on c lc)) (sym (stays longer on j lj)) turns) begun begun_first r) [
          | inl k ↦ path_then k after
          | inr k ↦ absurd (not_behind k)
        ]
