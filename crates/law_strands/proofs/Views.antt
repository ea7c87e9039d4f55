-- Views stand in the serial order, and a sink's view holds all that lies between it and an earlier strand of its branch.
use Rattle.std.proofs.Common.{◌≡◌, ◌≢◌, ◌⊎◌, inl, inr, ℕ, ◌<◌, ◌&&◌, not, true, false, Bool, [], ◌∷◌, refl, sym, ap, ◌∙◌, subst, subst₂, arith}
use Rattle.model_strands.specs.Address.{Word, child, next, Address}
use Rattle.law_addresses.specs.Address.{is_prefix, reaches, parallel, english, english_before}
use Rattle.law_addresses.proofs.Differences.{first_difference-longer}
use Rattle.law_addresses.proofs.Relations.{is_prefix-decides}
use Rattle.law_addresses.proofs.Extensions.{before-from_extended, before-to_extended, before-append}
use Rattle.law_addresses.proofs.Branches.{branch-peers}
use Rattle.std.proofs.lemmas.Bool.{false_from_ne_true, and_right}
use Rattle.law_addresses.proofs.Orders.{english-total}
use Rattle.model_strands.specs.History.{Event, split, History}
use Rattle.model_strands.specs.Strands.{absent, running, status, Begun, unused}
use Rattle.model_strands.specs.Legal.{Legal, start, then}
use Rattle.model_strands.specs.Dag.{Arrives, Edge, Path, stay, step, Reaches}
use Rattle.model_strands.specs.Addresses.{address}
use Rattle.law_strands.specs.Addresses.{IsEnglishBefore}
use Rattle.law_strands.specs.Branches.{branch}
use Rattle.law_strands.specs.Views.{Covers, IsSink}
use Rattle.law_strands.specs.Laws.{ViewLaw}
use Rattle.law_strands.proofs.Updates.{same_or_not, updated_at}
use Rattle.law_strands.proofs.Words.{Precedes, ◌▹◌, diverges_precedes, precedes_or_not, precedes_english, english_irreflexive, english_asymmetric, english_then, english_cases, english_between}
use Rattle.law_strands.proofs.Places.{over_not_reserved, running_not_reserved}
use Rattle.law_strands.proofs.Range.{ranges, child_seen, next_seen}
use Rattle.law_strands.proofs.Holders.{Splitting, running_open}
use Rattle.law_strands.proofs.Addresses.{Addresses, addresses, address_kept}
use Rattle.law_strands.proofs.Fates.{fates}
use Rattle.law_strands.proofs.Leads.{path_then, path_map}
use Rattle.law_strands.proofs.Law.{begun_below, reach_precedes, precedes_reach, address_differs, begun_not_reserved}
use Rattle.law_strands.proofs.Kept.{begun_stays, reach_stays}
use Rattle.law_strands.proofs.Decisions.{arrives_or_not}
use Rattle.law_strands.proofs.Branches.{branch_address_law}
use Rattle.law_strands.proofs.Sinks.{arrives_over, sink_end, running_sink, sink_before, edge_stays, forked_begun}
use Rattle.law_strands.proofs.EventKinds.{Joining, Quiet, Kind, a_split, a_join, quiet, kind, arriving_sink, begun_earlier, new_sink, old_sink, begun_first}

-- Each begun strand is in a sink's view

Seat : History → ℕ → Type 0
Seat history strand = (viewer : ℕ) × IsSink history viewer × Covers history viewer strand

seat_joining : (history : History) (event : Event) (strand its_join : ℕ) → Joining history event strand its_join → (one : ℕ) →
    (Begun history one → Seat history one) → Begun (event ∷ history) one → Seat (event ∷ history) one
unfolding Seat
seat_joining h e s j g u old b = elim (g.begun u b) [ inl q ↦ (j, join_sink, g.covered j u (inl (refl, inl q))) | inr q ↦ moved (old q) ]
  where
    join_sink : IsSink (e ∷ h) j
    join_sink = (
      g.begins,
      (λ w k. elim k [
        | inl f ↦ over_not_reserved ((fates g.before).forked j w (g.forks j w f)).0 g.waits_for
        | inr t ↦ elim (g.arrives j w t.0) [ inl q ↦ running_not_reserved (ap (status h) q.0 ∙ g.runs) g.waits_for | inr q ↦ over_not_reserved (arrives_over g.before j w q) g.waits_for ]
      ]),
    )

    moved : Seat h u → Seat (e ∷ h) u
    moved t = elim (arrives_or_not (e ∷ h) t.0 j) [
      | inl a ↦ (j, join_sink, g.covered j u (inl (refl, inr (t.0, a, t.2))))
      | inr na ↦ (t.0, still na, g.covered t.0 u (inr ((λ q. not_join q), t.2)))
    ]
      where
        not_join : t.0 ≡ j → ⊥
        not_join q = begun_not_reserved h t.0 t.1.0 (ap (status h) q ∙ g.waits_for)

        still : (Arrives (e ∷ h) t.0 j → ⊥) → IsSink (e ∷ h) t.0
        still na = (
          begun_stays g.after t.0 t.1.0,
          (λ w k. elim k [
            | inl f ↦ t.1.1 w (inl (g.forks t.0 w f))
            | inr r ↦ elim (g.arrives t.0 w r.0) [
              | inl q ↦ na (subst (Arrives (e ∷ h) t.0) q.1 r.0)
              | inr q ↦ elim (g.begun w r.1) [ inl z ↦ na (subst (Arrives (e ∷ h) t.0) z r.0) | inr z ↦ t.1.1 w (inr (q, z)) ]
            ]
          ]),
        )

seat_split : (history : History) (strand the_child the_next the_join : ℕ) (first : Bool) → Legal history →
    Legal (split strand the_child the_next the_join first ∷ history) → Splitting history strand the_child the_next the_join first → (one : ℕ) →
    (Begun history one → Seat history one) → Begun (split strand the_child the_next the_join first ∷ history) one →
    Seat (split strand the_child the_next the_join first ∷ history) one
unfolding Seat
seat_split h s c n j first l l' w u old b = go (same_or_not u c) (same_or_not u n)
  where
    sink_c : IsSink (split s c n j first ∷ h) c
    sink_c = new_sink h s c n j first l w c (omega (arith, w.numbers.child_is)) (inl (child_seen h s c n j first w.numbers).0)

    sink_n : IsSink (split s c n j first ∷ h) n
    sink_n = new_sink h s c n j first l w n (omega (arith, w.numbers.next_is)) (inl (next_seen h s c n j first w.numbers).0)

    moved : Seat h u → Seat (split s c n j first ∷ h) u
    moved t = elim (same_or_not t.0 s) [
      | inl e ↦ (c, sink_c, inl (refl, inr (subst (λ z. Covers h z u) e t.2)))
      | inr ne ↦ (let lt : t.0 < unused h = begun_below h (ranges l) t.0 t.1.0 in
          (t.0, old_sink h s c n j first l l' w t.0 ne t.1, inr (inr ((λ e. omega (arith, lt, e, w.numbers.child_is)), (λ e. omega (arith, lt, e, w.numbers.next_is)), t.2))))
    ]

    go : (u ≡ c) ⊎ (u ≢ c) → (u ≡ n) ⊎ (u ≢ n) → Seat (split s c n j first ∷ h) u
    go (inl e) k = (c, sink_c, inl (refl, inl e))
    go (inr nc) (inl e) = (n, sink_n, inr (inl (refl, e)))
    go (inr nc) (inr nn) = moved (old (begun_earlier h s c n j first w u nc nn b))

seat_kind : (history : History) (event : Event) → Legal history → Legal (event ∷ history) → Kind history event → (strand : ℕ) →
    (Begun history strand → Seat history strand) → Begun (event ∷ history) strand → Seat (event ∷ history) strand
unfolding Seat
seat_kind h (split s c n j first) l l' (a_split w) u old b = seat_split h s c n j first l l' w u old b
seat_kind h e l l' (a_join s j g) u old b = seat_joining h e s j g u old b
seat_kind h e l l' (quiet q) u old b = let t = old (q.begun u b) in (t.0, q.still t.0 t.1, q.covered t.0 u t.2)

seat : {h : History} → Legal h → (strand : ℕ) → Begun h strand → Seat h strand
unfolding Seat
seat start u b = (0, (inl (updated_at (λ x. absent) 0 running 0 refl), (λ w e. elim e [ inl f ↦ f | inr t ↦ t.0 ])), (refl, begun_first u b))
seat (then {history = h} {event = e} l a) u b = seat_kind h e l (then l a) (kind h e l a) u (λ k. seat l u k) b

-- What a view holds reaches its strand

pub Within : History → Type 0
Within history = (viewer strand : ℕ) → Begun history viewer → Covers history viewer strand → Begun history strand × Reaches history strand viewer

within_kind : (history : History) (event : Event) → Legal history → Legal (event ∷ history) → Kind history event → Within history → Within (event ∷ history)
unfolding Within
within_kind h (split s c n j first) l l' (a_split w) old x u b (inl (e, inl g)) =
    let k : u ≡ x = g ∙ sym e in (subst (λ z. Begun (split s c n j first ∷ h) z) (sym k) b, subst (λ z. Reaches (split s c n j first ∷ h) u z) k stay)
within_kind h (split s c n j first) l l' (a_split w) old x u b (inl (e, inr t)) =
    let k = old s u (inl w.runs) t in (
      begun_stays l' u k.0,
      subst (λ z. Reaches (split s c n j first ∷ h) u z) (sym e)
          (path_then (path_map (edge_stays h (split s c n j first) l') k.1) (step (inl (inl (refl, inl refl))) stay)),
    )
within_kind h (split s c n j first) l l' (a_split w) old x u b (inr (inl (e, g))) =
    let k : u ≡ x = g ∙ sym e in (subst (λ z. Begun (split s c n j first ∷ h) z) (sym k) b, subst (λ z. Reaches (split s c n j first ∷ h) u z) k stay)
within_kind h (split s c n j first) l l' (a_split w) old x u b (inr (inr (nc, nn, t))) =
    let k = old x u (begun_earlier h s c n j first w x nc nn b) t in (begun_stays l' u k.0, path_map (edge_stays h (split s c n j first) l') k.1)
within_kind h e l l' (a_join s j g) old x u b t = elim (g.covers x u t) [
  | inl q ↦ elim q.1 [
    | inl z ↦ (let k : u ≡ x = z ∙ sym q.0 in (subst (λ y. Begun (e ∷ h) y) (sym k) b, subst (λ y. Reaches (e ∷ h) u y) k stay))
    | inr z ↦ (let k = old z.0 u (arriving_sink h e s j g z.0 z.1).0 z.2 in
        (begun_stays l' u k.0, subst (λ y. Reaches (e ∷ h) u y) (sym q.0) (path_then (path_map (edge_stays h e l') k.1) (step (inr (z.1, g.begins)) stay))))
  ]
  | inr q ↦ elim (g.begun x b) [
    | inl z ↦ absurd (q.0 z)
    | inr z ↦ (let k = old x u z q.1 in (begun_stays l' u k.0, path_map (edge_stays h e l') k.1))
  ]
]
within_kind h e l l' (quiet q) old x u b t = let k = old x u (q.begun x b) (q.covers x u t) in (begun_stays l' u k.0, path_map (edge_stays h e l') k.1)

pub within : {h : History} → Legal h → Within h
unfolding Within
within start = λ x u b t. (subst (λ z. Begun [] z) (t.0 ∙ sym t.1) b, subst (λ z. Reaches [] u z) (t.1 ∙ sym t.0) stay)
within (then {history = h} {event = e} l a) = within_kind h e l (then l a) (kind h e l a) (within l)

-- The order of addresses

never_before_self : (history : History) (strand other : ℕ) → strand ≡ other → IsEnglishBefore history strand other → ⊥
never_before_self h x y e a = english_irreflexive (address h x) (subst (λ z. IsEnglishBefore h x z) (sym e) a)

-- what is reached comes later
pub reach_english : (history : History) → Legal history → (strand other : ℕ) → Begun history strand → Begun history other → Reaches history strand other →
    (strand ≡ other) ⊎ IsEnglishBefore history strand other
reach_english h l u v bu bv r = elim (same_or_not u v) [
  | inl e ↦ inl e
  | inr ne ↦ inr (precedes_english (address h u) (address h v) (address_differs h l u v bu bv ne) (reach_precedes h l u v r))
]

last_step : {R : ℕ → ℕ → Type 0} (strand other : ℕ) → Path R strand other → (strand ≡ other) ⊎ ((number : ℕ) × Path R strand number × R number other)
last_step {R} u v stay = inl refl
last_step {R} u v (step {between = m} r p) = elim (last_step m v p) [
  | inl e ↦ inr (u, stay, subst (λ z. R u z) e r)
  | inr t ↦ inr (t.0, step r t.1, t.2)
]

-- a sink comes before all that a later sink's view holds
InOrder : History → Type 0
InOrder history = (viewer later strand : ℕ) → IsSink history viewer → IsSink history later → IsEnglishBefore history viewer later → Covers history later strand → IsEnglishBefore history viewer strand

in_order_quiet : (history : History) (event : Event) → Quiet history event → InOrder history → InOrder (event ∷ history)
unfolding InOrder
in_order_quiet h e q old x y v sx sy a c =
    subst₂ (λ a b. english_before a b ≡ true) (sym (q.address_same x)) (sym (q.address_same v))
    (old x y v (sink_before h e q.after x (q.begun x sx.0) sx) (sink_before h e q.after y (q.begun y sy.0) sy)
    (subst₂ (λ a b. english_before a b ≡ true) (q.address_same x) (q.address_same y) a) (q.covers y v c))

-- no other old address begins with the spawner's
apart_from : {h : History} {s c n j : ℕ} {first : Bool} → Addresses h → Splitting h s c n j first → (other : ℕ) → other < unused h → other ≢ s →
    is_prefix (address h s) (address h other) ≡ false
apart_from {h} {s} d k v lv ne =
    false_from_ne_true (is_prefix (address h s) (address h v)) (λ t. ne (d.leaf s v (running_open h s k.runs) lv ((is_prefix-decides (address h s) (address h v)).0 t)))

-- how the new address at the end of the spawner's stands to the old ones
behind_side : (history : History) (strand the_child the_next the_join : ℕ) (first : Bool) → Addresses history →
    Splitting history strand the_child the_next the_join first → (one : ℕ) (word : Word) →
    address (split strand the_child the_next the_join first ∷ history) one ≡ address history strand ▹ word → (other : ℕ) → other < unused history →
    english_before (address (split strand the_child the_next the_join first ∷ history) one) (address (split strand the_child the_next the_join first ∷ history) other) ≡ english_before (address history strand) (address history other)
behind_side h s c n j first d k x w key v lv =
    ap (λ z. english_before z (address (split s c n j first ∷ h) v)) key ∙ (ap (english_before (address h s ▹ w)) (address_kept h s c n j first k v lv) ∙ go (same_or_not v s))
  where
    go : (v ≡ s) ⊎ (v ≢ s) → english_before (address h s ▹ w) (address h v) ≡ english_before (address h s) (address h v)
    go (inl e) = rw (e, first_difference-longer (address h s) w [], english-total.irreflexive (address h s)) refl
    go (inr ne) = before-from_extended english (address h s) (w ∷ []) (address h v) (apart_from d k v lv ne)

before_side : (history : History) (strand the_child the_next the_join : ℕ) (first : Bool) → Addresses history →
    Splitting history strand the_child the_next the_join first → (one : ℕ) (word : Word) →
    address (split strand the_child the_next the_join first ∷ history) one ≡ address history strand ▹ word → (u : ℕ) → u < unused history →
    IsEnglishBefore (split strand the_child the_next the_join first ∷ history) u one → (u ≡ strand) ⊎ IsEnglishBefore history u strand
before_side h s c n j first d k x w key u lu a = go (same_or_not u s)
  where
    go : (u ≡ s) ⊎ (u ≢ s) → (u ≡ s) ⊎ IsEnglishBefore h u s
    go (inl e) = inl e
    go (inr ne) =
        inr (sym (before-to_extended english (address h s) (w ∷ []) (address h u) (apart_from d k u lu ne)) ∙
        (ap (english_before (address h u)) (sym key) ∙ (ap (λ z. english_before z (address (split s c n j first ∷ h) x)) (sym (address_kept h s c n j first k u lu)) ∙ a)))

-- after a split
in_order_split : (history : History) (strand the_child the_next the_join : ℕ) (first : Bool) → Legal history →
    Legal (split strand the_child the_next the_join first ∷ history) → Splitting history strand the_child the_next the_join first → InOrder history →
    InOrder (split strand the_child the_next the_join first ∷ history)
unfolding InOrder Within
in_order_split h s c n j first l l' w old x y v sx sy a t = go (same_or_not x c) (same_or_not x n) t
  where
    known : (number : ℕ) → Begun h number → number < unused h
    known m b = begun_below h (ranges l) m b

    to_old : (strand number : ℕ) → strand < unused h → number < unused h → IsEnglishBefore (split s c n j first ∷ h) strand number →
        IsEnglishBefore h strand number
    to_old u m lu lm k = subst₂ (λ a b. english_before a b ≡ true) (address_kept h s c n j first w u lu) (address_kept h s c n j first w m lm) k

    to_new : (strand number : ℕ) → strand < unused h → number < unused h → IsEnglishBefore h strand number →
        IsEnglishBefore (split s c n j first ∷ h) strand number
    to_new u m lu lm k = subst₂ (λ a b. english_before a b ≡ true) (sym (address_kept h s c n j first w u lu)) (sym (address_kept h s c n j first w m lm)) k

    not_spawner : (third : ℕ) → IsSink (split s c n j first ∷ h) third → third ≢ s
    not_spawner z k e = k.1 c (inl (inl (e, inl refl)))

    old_begun : x ≢ c → x ≢ n → Begun h x
    old_begun nc nn = begun_earlier h s c n j first w x nc nn sx.0

    sink_x : x ≢ c → x ≢ n → IsSink h x
    sink_x nc nn = sink_before h (split s c n j first) l' x (old_begun nc nn) sx

    sink_s : IsSink h s
    sink_s = running_sink h l s w.runs

    go : (x ≡ c) ⊎ (x ≢ c) → (x ≡ n) ⊎ (x ≢ n) → Covers (split s c n j first ∷ h) y v → IsEnglishBefore (split s c n j first ∷ h) x v
    -- the child's view: the spawner's and its own
    go p q (inl (e, inl k)) = subst (λ z. IsEnglishBefore (split s c n j first ∷ h) x z) (e ∙ sym k) a
    go (inl p) q (inl (e, inr k)) = absurd (never_before_self (split s c n j first ∷ h) x y (p ∙ sym e) a)
    go (inr nc) (inl q) (inl (e, inr k)) =
        absurd (english_apart_sides (subst₂ (λ a b. english_before a b ≡ true) (ap (address (split s c n j first ∷ h)) q ∙ (next_seen h s c n j first w.numbers).2) (ap (address (split s c n j first ∷ h)) e ∙ (child_seen h s c n j first w.numbers).2) a))
      where
        english_apart_sides : english_before (address h s ▹ next) (address h s ▹ child) ≡ true → ⊥
        english_apart_sides b =
            let never : english_before (address h s ▹ next) (address h s ▹ child) ≡ false = before-append english (address h s) (next ∷ []) (child ∷ []) in cc
    go (inr nc) (inr nn) (inl (e, inr k)) =
        let lx : x < unused h = known x (old_begun nc nn) in
        elim (before_side h s c n j first (addresses l) w c child ((child_seen h s c n j first w.numbers).2) x lx (subst (λ z. IsEnglishBefore (split s c n j first ∷ h) x z) e a)) [
          | inl q ↦ absurd (not_spawner x sx q)
          | inr q ↦ to_new x v lx (known v (within l s v (inl w.runs) k).0) (old x s v (sink_x nc nn) sink_s q k)
        ]
    -- the continuation's view: its own
    go p q (inr (inl (e, k))) = subst (λ z. IsEnglishBefore (split s c n j first ∷ h) x z) (e ∙ sym k) a
    -- an earlier sink's view
    go (inl p) q (inr (inr (yc, yn, k))) =
        let by : Begun h y = begun_earlier h s c n j first w y yc yn sy.0 in
        let ky : IsSink h y = sink_before h (split s c n j first) l' y by sy in
        let key = ap (address (split s c n j first ∷ h)) p ∙ (child_seen h s c n j first w.numbers).2 in
        let bv = (within l y v by k).0 in
        behind_side h s c n j first (addresses l) w x child key v (known v bv) ∙
        old s y v sink_s ky (sym (behind_side h s c n j first (addresses l) w x child key y (known y by)) ∙ a) k
    go (inr nc) (inl q) (inr (inr (yc, yn, k))) =
        let by : Begun h y = begun_earlier h s c n j first w y yc yn sy.0 in
        let ky : IsSink h y = sink_before h (split s c n j first) l' y by sy in
        let key = ap (address (split s c n j first ∷ h)) q ∙ (next_seen h s c n j first w.numbers).2 in
        let bv = (within l y v by k).0 in
        behind_side h s c n j first (addresses l) w x next key v (known v bv) ∙
        old s y v sink_s ky (sym (behind_side h s c n j first (addresses l) w x next key y (known y by)) ∙ a) k
    go (inr nc) (inr nn) (inr (inr (yc, yn, k))) =
        let by : Begun h y = begun_earlier h s c n j first w y yc yn sy.0 in
        let ky : IsSink h y = sink_before h (split s c n j first) l' y by sy in
        let lx : x < unused h = known x (old_begun nc nn) in
        to_new x v lx (known v (within l y v by k).0) (old x y v (sink_x nc nn) ky (to_old x y lx (known y by) a) k)

-- after a join begins
in_order_joining : (history : History) (event : Event) (strand its_join : ℕ) → Joining history event strand its_join → InOrder history →
    InOrder (event ∷ history)
unfolding InOrder Within
in_order_joining h e s j g old x y v sx sy a t = go (same_or_not x j) (g.covers y v t)
  where
    l : Legal h
    l = g.before

    l' : Legal (e ∷ h)
    l' = g.after

    to_old : (strand number : ℕ) → IsEnglishBefore (e ∷ h) strand number → IsEnglishBefore h strand number
    to_old u m k = subst₂ (λ a b. english_before a b ≡ true) (g.address_same u) (g.address_same m) k

    to_new : (strand number : ℕ) → IsEnglishBefore h strand number → IsEnglishBefore (e ∷ h) strand number
    to_new u m k = subst₂ (λ a b. english_before a b ≡ true) (sym (g.address_same u)) (sym (g.address_same m)) k

    old_sink : (third : ℕ) → IsSink (e ∷ h) third → third ≢ j → IsSink h third
    old_sink z k nj = elim (g.begun z k.0) [ inl q ↦ absurd (nj q) | inr b ↦ sink_before h e l' z b k ]

    not_arriving : (third : ℕ) → IsSink (e ∷ h) third → Arrives (e ∷ h) third j → ⊥
    not_arriving z k b = k.1 j (inr (b, g.begins))

    leads_on : (third : ℕ) → Arrives (e ∷ h) third j → Precedes (address (e ∷ h) third) (address (e ∷ h) j)
    leads_on z b = let k = (fates l').arrived z j b in diverges_precedes (address (e ∷ h) z) (address (e ∷ h) j) ((addresses l').inside z j k.0 k.1)

    before_j : (third : ℕ) → Arrives (e ∷ h) third j → IsEnglishBefore h third j
    before_j z b = to_old z j (precedes_english (address (e ∷ h) z) (address (e ∷ h) j) (λ q. not_same z b q) (leads_on z b))
      where
        not_same : (third : ℕ) → Arrives (e ∷ h) third j → address (e ∷ h) third ≡ address (e ∷ h) j → ⊥
        not_same z b q =
            let same_strand : z ≡ j = (addresses l').distinct z j ((fates l').arrived z j b).0 (begun_below (e ∷ h) (ranges l') j g.begins) q in
            let k = arriving_sink h e s j g z b in
            begun_not_reserved h z k.0 (ap (status h) same_strand ∙ g.waits_for)

    -- a strand between one that arrives and the join, and not before the join, comes before the one that arrives or is reached from it
    between : (third number : ℕ) → Arrives (e ∷ h) third j → Begun h number → (Precedes (address (e ∷ h) number) (address (e ∷ h) j) → ⊥) →
        IsEnglishBefore (e ∷ h) number j → (number ≡ third → ⊥) → IsEnglishBefore h number third
    between z m b bm nb k nz = elim (english_between (address (e ∷ h) z) (address (e ∷ h) m) (address (e ∷ h) j) (leads_on z b) k nb) [
      | inl q ↦ to_old m z q
      | inr q ↦ (let kz = arriving_sink h e s j g z b in
          absurd (nz (sym (sink_end h z m kz (precedes_reach h l z m kz.0 bm (subst₂ Precedes (g.address_same z) (g.address_same m) q))))))
    ]

    -- an earlier sink that comes before the join comes before whoever arrives
    sink_before_join : (third : ℕ) → Arrives (e ∷ h) third j → x ≢ j → IsEnglishBefore (e ∷ h) x j → IsEnglishBefore h x third
    sink_before_join z b nj k = elim (precedes_or_not (address (e ∷ h) x) (address (e ∷ h) j)) [
      | inl q ↦ absurd (nj (sink_end (e ∷ h) x j sx (precedes_reach (e ∷ h) l' x j sx.0 g.begins q)))
      | inr nb ↦ between z x b (old_sink x sx nj).0 nb k (λ q. not_arriving x sx (subst (λ r. Arrives (e ∷ h) r j) (sym q) b))
    ]

    -- what a later sink holds comes after the join
    after_join : y ≢ j → IsEnglishBefore (e ∷ h) j y → Covers h y v → IsEnglishBefore (e ∷ h) j v
    after_join nj k cv = elim (english_cases (address (e ∷ h) j) (address (e ∷ h) v)) [
      | inl q ↦ q
      | inr (inl q) ↦ absurd (v_not_j (sym ((addresses l').distinct j v (begun_below (e ∷ h) (ranges l') j g.begins) (begun_below (e ∷ h) (ranges l') v (begun_stays l' v bv)) q)))
      | inr (inr q) ↦ absurd (earlier q)
    ]
      where
        ky : IsSink h y
        ky = old_sink y sy nj

        bv : Begun h v
        bv = (within l y v ky.0 cv).0

        v_not_j : v ≡ j → ⊥
        v_not_j q = begun_not_reserved h v bv (ap (status h) q ∙ g.waits_for)

        -- whoever arrives comes before v
        arrives_earlier : (third : ℕ) → Arrives (e ∷ h) third j → IsEnglishBefore h third v
        arrives_earlier z b =
            old z y v (arriving_sink h e s j g z b) ky (english_then (address h z) (address h j) (address h y) (before_j z b) (to_old j y k)) cv

        earlier : IsEnglishBefore (e ∷ h) v j → ⊥
        earlier q = elim (precedes_or_not (address (e ∷ h) v) (address (e ∷ h) j)) [
          | inl b ↦ elim (last_step v j (precedes_reach (e ∷ h) l' v j (begun_stays l' v bv) g.begins b)) [
            | inl z ↦ v_not_j z
            | inr z ↦ through z.0 z.1 z.2
          ]
          | inr nb ↦ english_asymmetric (address h s) (address h v) (arrives_earlier s g.arrives_now)
              (between s v g.arrives_now bv nb q (λ z. never_before_self h s v (sym z) (arrives_earlier s g.arrives_now)))
        ]
          where
            through : (number : ℕ) → Reaches (e ∷ h) v number → Edge (e ∷ h) number j → ⊥
            through m r (inl f) = begun_not_reserved h j (forked_begun l m j (g.forks m j f)) g.waits_for
            through m r (inr b) =
                let km = arriving_sink h e s j g m b.0 in
                elim (reach_english h l v m bv km.0 ((reach_stays h e l' v m bv km.0).0 r)) [
                  | inl z ↦ never_before_self h m v (sym z) (arrives_earlier m b.0)
                  | inr z ↦ english_asymmetric (address h v) (address h m) z (arrives_earlier m b.0)
                ]

    go : (x ≡ j) ⊎ (x ≢ j) → ((y ≡ j) × ((v ≡ j) ⊎ ((third : ℕ) × Arrives (e ∷ h) third j × Covers h third v))) ⊎ ((y ≢ j) × Covers h y v) →
        IsEnglishBefore (e ∷ h) x v
    go p (inl (q, inl z)) = subst (IsEnglishBefore (e ∷ h) x) (q ∙ sym z) a
    go (inl p) (inl (q, inr z)) = absurd (never_before_self (e ∷ h) x y (p ∙ sym q) a)
    go (inr p) (inl (q, inr z)) =
        to_new x v (old x z.0 v (old_sink x sx p) (arriving_sink h e s j g z.0 z.1) (sink_before_join z.0 z.1 p (subst (IsEnglishBefore (e ∷ h) x) q a)) z.2)
    go (inl p) (inr (q, z)) = subst (λ r. IsEnglishBefore (e ∷ h) r v) (sym p) (after_join q (subst (λ r. IsEnglishBefore (e ∷ h) r y) p a) z)
    go (inr p) (inr (q, z)) = to_new x v (old x y v (old_sink x sx p) (old_sink y sy q) (to_old x y a) z)

in_order_kind : (history : History) (event : Event) → Legal history → Legal (event ∷ history) → Kind history event → InOrder history →
    InOrder (event ∷ history)
in_order_kind h (split s c n j first) l l' (a_split w) old = in_order_split h s c n j first l l' w old
in_order_kind h e l l' (a_join s j g) old = in_order_joining h e s j g old
in_order_kind h e l l' (quiet q) old = in_order_quiet h e q old

in_order : {h : History} → Legal h → InOrder h
unfolding InOrder
in_order start = λ x y v sx sy a c. let never : false ≡ true = a in absurd (cc)
in_order (then {history = h} {event = e} l a) = in_order_kind h e l (then l a) (kind h e l a) (in_order l)

reached_begun : (history : History) → Legal history → (item third : ℕ) → Begun history item → Reaches history item third → Begun history third
reached_begun h l a z b r = elim (last_step a z r) [
  | inl e ↦ subst (λ y. Begun h y) e b
  | inr t ↦ elim t.2 [ inl f ↦ forked_begun l t.0 z f | inr q ↦ q.1 ]
]

not_parallel : (test other_test : Bool) → (not test && not other_test) ≡ false → (test ≡ true) ⊎ (other_test ≡ true)
not_parallel true t h = inl refl
not_parallel false true h = inr refl
not_parallel false false h = cc

parallel-reached : (a b : Address) → reaches b a ≡ true → parallel a b ≡ false
parallel-reached a b h = and_right (not (reaches a b)) (not (reaches b a)) (rw h refl)

pub view_law : ViewLaw
unfolding Seat Within InOrder
view_law h l = record {
  seated = λ u b. seat l u b;
  within = λ x u b c. within l x u b c;
  ordered = ordered;
  whole = branch_view;
}
  where
    ordered : (strand other one second : ℕ) → IsSink h strand → IsSink h other → IsEnglishBefore h strand other → Covers h strand one →
        Covers h other second → IsEnglishBefore h one second
    ordered x y u v sx sy a cx cy =
        let k = within l x u sx.0 cx in
        let b : IsEnglishBefore h x v = in_order l x y v sx sy a cy in
        elim (reach_english h l u x k.0 sx.0 k.1) [
          | inl e ↦ subst (λ z. IsEnglishBefore h z v) (sym e) b
          | inr q ↦ english_then (address h u) (address h x) (address h v) q b
        ]

    branch_view : (item strand bound : ℕ) → Begun h item → IsSink h bound → branch h item ≡ branch h bound → Reaches h item strand →
        Reaches h strand bound → Covers h bound strand
    branch_view a u b ba sb e ra rb = go (seat l u bu)
      where
        bu : Begun h u
        bu = reached_begun h l a u ba ra

        go : (strand : ℕ) × IsSink h strand × Covers h strand u → Covers h b u
        go t = subst (λ z. Covers h z u) is_b t.2
          where
            k : Begun h u × Reaches h u t.0
            k = within l t.0 u t.1.0 t.2

            -- the sink is not parallel to the one, so not to the other of its branch
            related : (reaches (address h t.0) (address h b) ≡ true) ⊎ (reaches (address h b) (address h t.0) ≡ true)
            related = not_parallel (reaches (address h t.0) (address h b)) (reaches (address h b) (address h t.0))
                (sym (branch-peers (address h a) (address h b) ((branch_address_law h l a b ba sb.0).0 e) (address h t.0)) ∙
                parallel-reached (address h t.0) (address h a) (reach_precedes h l a t.0 (path_then ra k.1)))

            is_b : t.0 ≡ b
            is_b = elim related [
              | inl q ↦ sink_end h t.0 b t.1 (precedes_reach h l t.0 b t.1.0 sb.0 q)
              | inr q ↦ sym (sink_end h b t.0 sb (precedes_reach h l b t.0 sb.0 t.1.0 q))
            ]
