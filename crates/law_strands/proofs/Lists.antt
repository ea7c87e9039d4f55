-- Lists that grow directly behind the spawner stand in the orders of the addresses.
use Rattle.std.proofs.Common.{◌≡◌, ◌≢◌, ◌⊎◌, ◌↔◌, inl, inr, ℕ, suc, ◌+◌, ◌<◌, ◌≤◌, Bool, true, false, cond, eqb, List, [], ◌∷◌, ◌++◌, length, get_or, All, refl, sym, ap, ◌∙◌, subst, subst₂, arith}
use Rattle.std.proofs.lemmas.Bool.Decides.{eqb_tells}
use Rattle.std.proofs.lemmas.List.Elements.{All-nil}
use Rattle.model_strands.specs.Address.{Word, child, next, join, Address}
use Rattle.law_addresses.specs.Address.{before, english, hebrew, is_prefix}
use Rattle.law_addresses.specs.Sorted.{IsSortedBy}
use Rattle.law_addresses.proofs.Orders.{IsRank, english-ranks, hebrew-ranks}
use Rattle.law_addresses.proofs.Relations.{is_prefix-decides}
use Rattle.law_addresses.proofs.Extremes.{before-different}
use Rattle.std.proofs.lemmas.Bool.{false_from_ne_true}
use Rattle.law_addresses.proofs.Sorted.{pairs-nil, pairs-head, pairs-append_right, sorted-alike, sorted-places, spawned-english, spawned-hebrew, opened-english, opened-hebrew}
use Rattle.std.proofs.lemmas.List.Kept.{AllPairs-cons}
use Rattle.model_strands.specs.History.{split, same, joined, waits, call, resumed, ended, ended_joined, finished, History}
use Rattle.model_strands.specs.Strands.{unused}
use Rattle.model_strands.specs.Legal.{open_split, next_split, Legal, start, then}
use Rattle.model_strands.specs.Addresses.{address}
use Rattle.law_strands.specs.Lists.{placed_after, place_in, english_items, hebrew_items}
use Rattle.law_strands.specs.Laws.{ListsLaw}
use Rattle.law_strands.proofs.Updates.{same_or_not}
use Rattle.law_strands.proofs.Words.{◌▹◌}
use Rattle.law_strands.proofs.Range.{ranges, child_seen, next_seen, join_seen}
use Rattle.law_strands.proofs.Holders.{holders, Splitting, splitting, running_open}
use Rattle.law_strands.proofs.Addresses.{Addresses, addresses, address_kept}
use Rattle.law_strands.proofs.Members.{Present, present_append, all_present, present_all}

-- a list up to the first place of an item, and what is behind it
record Found (item : ℕ) (items : List ℕ) : Type 0 where
  front : List ℕ
  back : List ℕ
  whole : items ≡ front ++ (item ∷ back)
  none_earlier : Present item front → ⊥

found : (item : ℕ) (xs : List ℕ) → Present item xs → Found item xs
found a [] p = absurd p
found a (x ∷ xs) p = go (same_or_not x a) p (λ q. found a xs q)
  where
    go : (x ≡ a) ⊎ (x ≢ a) → (x ≡ a) ⊎ Present a xs → (Present a xs → Found a xs) → Found a (x ∷ xs)
    go (inl e) q again = record { front = []; back = xs; whole = ap (λ z. z ∷ xs) e; none_earlier = λ t. t }
    go (inr ne) (inl e) again = absurd (ne e)
    go (inr ne) (inr q) again =
        let f = again q in
        record { front = x ∷ f.front; back = f.back; whole = ap (λ z. x ∷ z) f.whole; none_earlier = λ t. elim t [ inl e ↦ ne e | inr k ↦ f.none_earlier k ] }

-- The two functions of lists

pub placed_here : (item strand : ℕ) (ys : List ℕ) → placed_after item strand (item ∷ ys) ≡ item ∷ strand ∷ ys
unfolding placed_after
placed_here a x ys = go (eqb_tells a a)
  where
    go : ((eqb a a ≡ true) × (a ≡ a)) ⊎ ((eqb a a ≡ false) × (a ≢ a)) → cond (eqb a a) (a ∷ x ∷ ys) (a ∷ placed_after a x ys) ≡ a ∷ x ∷ ys
    go (inl t) = rw t.0 refl
    go (inr t) = absurd (t.1 refl)

pub placed_there : (item strand other : ℕ) (ys : List ℕ) → other ≢ item → placed_after item strand (other ∷ ys) ≡ other ∷ placed_after item strand ys
unfolding placed_after
placed_there a x y ys ne = go (eqb_tells y a)
  where
    go : ((eqb y a ≡ true) × (y ≡ a)) ⊎ ((eqb y a ≡ false) × (y ≢ a)) → cond (eqb y a) (y ∷ x ∷ ys) (y ∷ placed_after a x ys) ≡ y ∷ placed_after a x ys
    go (inl t) = absurd (ne t.1)
    go (inr t) = rw t.0 refl

-- an item that is not in the front is placed behind it
pub placed_behind : (item strand : ℕ) (front back : List ℕ) → (Present item front → ⊥) →
    placed_after item strand (front ++ back) ≡ front ++ placed_after item strand back
placed_behind a x [] back none = refl
placed_behind a x (y ∷ front) back none =
    placed_there a x y (front ++ back) (λ e. none (inl e)) ∙ ap (λ z. y ∷ z) (placed_behind a x front back (λ p. none (inr p)))

place_here : (item : ℕ) (ys : List ℕ) → place_in item (item ∷ ys) ≡ 0
unfolding place_in
place_here a ys = go (eqb_tells a a)
  where
    go : ((eqb a a ≡ true) × (a ≡ a)) ⊎ ((eqb a a ≡ false) × (a ≢ a)) → cond (eqb a a) 0 (suc (place_in a ys)) ≡ 0
    go (inl t) = rw t.0 refl
    go (inr t) = absurd (t.1 refl)

place_there : (item other : ℕ) (ys : List ℕ) → other ≢ item → place_in item (other ∷ ys) ≡ suc (place_in item ys)
unfolding place_in
place_there a y ys ne = go (eqb_tells y a)
  where
    go : ((eqb y a ≡ true) × (y ≡ a)) ⊎ ((eqb y a ≡ false) × (y ≢ a)) → cond (eqb y a) 0 (suc (place_in a ys)) ≡ suc (place_in a ys)
    go (inl t) = absurd (ne t.1)
    go (inr t) = rw t.0 refl

-- an item stands at its place
pub place_holds : (xs : List ℕ) (item default : ℕ) → Present item xs → (place_in item xs < length xs) × (get_or xs (place_in item xs) default ≡ item)
place_holds [] a d p = absurd p
place_holds (x ∷ xs) a d p = go (same_or_not x a) p (λ q. place_holds xs a d q)
  where
    go : (x ≡ a) ⊎ (x ≢ a) → (x ≡ a) ⊎ Present a xs → (Present a xs → (place_in a xs < length xs) × (get_or xs (place_in a xs) d ≡ a)) →
        (place_in a (x ∷ xs) < length (x ∷ xs)) × (get_or (x ∷ xs) (place_in a (x ∷ xs)) d ≡ a)
    go (inl e) q again =
        let first : place_in a (x ∷ xs) ≡ 0 = ap (λ z. place_in a (z ∷ xs)) e ∙ place_here a xs in
        (omega (arith, first), ap (λ i. get_or (x ∷ xs) i d) first ∙ e)
    go (inr ne) (inl e) again = absurd (ne e)
    go (inr ne) (inr q) again =
        let t = again q in
        let later = place_there a x xs ne in
        (omega (arith, later, t.0), ap (λ i. get_or (x ∷ xs) i d) later ∙ t.1)

-- in a sorted list the order of the places is that of the keys
places_sorted : (rank : Word → ℕ) → IsRank rank → (key : ℕ → Address) (xs : List ℕ) → IsSortedBy rank key xs → (strand other : ℕ) → Present strand xs →
    Present other xs → (place_in strand xs < place_in other xs) ↔ (before rank (key strand) (key other) ≡ true)
places_sorted rank ranks key xs sorted u v pu pv =
    let at_u = place_holds xs u 0 pu in
    let at_v = place_holds xs v 0 pv in
    let both = sorted-places rank key ranks xs sorted (place_in u xs) (place_in v xs) 0 at_u.0 at_v.0 in (
      λ k. subst₂ (λ a b. before rank (key a) (key b) ≡ true) at_u.1 at_v.1 (both.1 k),
      λ k. both.0 (subst₂ (λ a b. before rank (key a) (key b) ≡ true) (sym at_u.1) (sym at_v.1) k),
    )

-- One split

-- what is there is what is below the least unused number, in the order of the addresses
pub record Listed (rank : Word → ℕ) (history : History) (items : List ℕ) : Type 0 where
  pub present : (number : ℕ) → Present number items ↔ number < unused history
  pub sorted : IsSortedBy rank (address history) items

-- the list before a split, parted at the spawner, with the new addresses
record Parted (rank : Word → ℕ) (history : History) (strand the_child the_next the_join : ℕ) (first : Bool) (items : List ℕ) : Type 0 where
  front : List ℕ
  back : List ℕ
  whole : items ≡ front ++ (strand ∷ back)
  none_earlier : Present strand front → ⊥
  -- the new numbers are not there
  fresh : (fresh_one : ℕ) → unused history ≤ fresh_one → Present fresh_one front → ⊥
  sorted : IsSortedBy rank (address (split strand the_child the_next the_join first ∷ history)) (front ++ (strand ∷ back))
  apart : All (λ other. is_prefix (address (split strand the_child the_next the_join first ∷ history) strand) (address (split strand the_child the_next the_join first ∷ history) other) ≡ false) back
  key_child : address (split strand the_child the_next the_join first ∷ history) the_child ≡ address (split strand the_child the_next the_join first ∷ history) strand ▹ child
  key_next : address (split strand the_child the_next the_join first ∷ history) the_next ≡ address (split strand the_child the_next the_join first ∷ history) strand ▹ next
  key_join : unused history ≤ the_join →
      address (split strand the_child the_next the_join first ∷ history) the_join ≡ address (split strand the_child the_next the_join first ∷ history) strand ▹ join
  others : (known : ℕ) → Present known front ⊎ ((strand ≡ known) ⊎ Present known back) ↔ known < unused history

parted : (rank : Word → ℕ) (history : History) (strand the_child the_next the_join : ℕ) (first : Bool) → Addresses history →
    Splitting history strand the_child the_next the_join first → (xs : List ℕ) → Listed rank history xs →
    Parted rank history strand the_child the_next the_join first xs
parted rank h s c n j first d w xs listed = record {
  front = f.front;
  back = f.back;
  whole = f.whole;
  none_earlier = f.none_earlier;
  fresh = λ x le p. let lt : x < unused h = (others x).0 (inl p) in omega arith;
  sorted = sorted-alike rank (address h) (address (split s c n j first ∷ h)) (f.front ++ (s ∷ f.back))
      (all_present (λ x. address (split s c n j first ∷ h) x ≡ address h x) (f.front ++ (s ∷ f.back))
      (λ x p. address_kept h s c n j first w x ((others x).0 ((present_append f.front (s ∷ f.back) x).0 p)))) old_sorted;
  apart = all_present (λ y. is_prefix (address (split s c n j first ∷ h) s) (address (split s c n j first ∷ h) y) ≡ false) f.back
      (λ y p. false_from_ne_true (is_prefix (address (split s c n j first ∷ h) s) (address (split s c n j first ∷ h) y)) (λ k. not_below y p k));
  key_child = (child_seen h s c n j first w.numbers).2 ∙ ap (λ z. z ▹ child) (sym kept);
  key_next = (next_seen h s c n j first w.numbers).2 ∙ ap (λ z. z ▹ next) (sym kept);
  key_join = λ lo. (join_seen h s c n j first w.numbers lo).2 ∙ ap (λ z. z ▹ join) (sym kept);
  others = others;
}
  where
    f : Found s xs
    f = found s xs ((listed.present s).1 w.numbers.spawner_known)

    kept : address (split s c n j first ∷ h) s ≡ address h s
    kept = address_kept h s c n j first w s w.numbers.spawner_known

    others : (other : ℕ) → Present other f.front ⊎ ((s ≡ other) ⊎ Present other f.back) ↔ other < unused h
    others v = (
      λ t. (listed.present v).0 (subst (Present v) (sym f.whole) ((present_append f.front (s ∷ f.back) v).1 t)),
      λ lt. (present_append f.front (s ∷ f.back) v).0 (subst (Present v) f.whole ((listed.present v).1 lt)),
    )

    old_sorted : IsSortedBy rank (address h) (f.front ++ (s ∷ f.back))
    old_sorted = subst (IsSortedBy rank (address h)) f.whole listed.sorted

    R : ℕ → ℕ → Type 0
    R x y = before rank (address h x) (address h y) ≡ true

    not_below : (other : ℕ) → Present other f.back → is_prefix (address (split s c n j first ∷ h) s) (address (split s c n j first ∷ h) other) ≡ true → ⊥
    not_below y p k =
        let known : y < unused h = (others y).0 (inr (inr p)) in
        let old : is_prefix (address h s) (address h y) ≡ true = sym (ap (λ z. is_prefix z (address h y)) kept) ∙ (sym (ap (is_prefix (address (split s c n j first ∷ h) s)) (address_kept h s c n j first w y known)) ∙ k) in
        let is_spawner : y ≡ s = d.leaf s y (running_open h s w.runs) known ((is_prefix-decides (address h s) (address h y)).0 old) in
        before-different rank (address h s) (address h y)
        (present_all (R s) f.back (pairs-head R s f.back (pairs-append_right R f.front (s ∷ f.back) old_sorted)) y p) (ap (address h) (sym is_spawner))

-- The lists after a split

two_placed : (strand the_child the_next : ℕ) (front back : List ℕ) → (Present strand front → ⊥) → (Present the_child front → ⊥) → strand ≢ the_child →
    (placed_after the_child the_next (placed_after strand the_child (front ++ (strand ∷ back))) ≡ front ++ (strand ∷ the_child ∷ the_next ∷ back)) × (placed_after strand the_next (placed_after strand the_child (front ++ (strand ∷ back))) ≡ front ++ (strand ∷ the_next ∷ the_child ∷ back))
two_placed s c n front back ns nc sc = (
  ap (placed_after c n) once ∙ (placed_behind c n front (s ∷ c ∷ back) nc ∙
      ap (λ z. front ++ z) (placed_there c n s (c ∷ back) sc ∙ ap (λ z. s ∷ z) (placed_here c n back))),
  ap (placed_after s n) once ∙ (placed_behind s n front (s ∷ c ∷ back) ns ∙ ap (λ z. front ++ z) (placed_here s n (c ∷ back))),
)
  where
    once : placed_after s c (front ++ (s ∷ back)) ≡ front ++ (s ∷ c ∷ back)
    once = placed_behind s c front (s ∷ back) ns ∙ ap (λ z. front ++ z) (placed_here s c back)

third_placed : (strand one other its_join : ℕ) (front back : List ℕ) → (Present other front → ⊥) → strand ≢ other → one ≢ other →
    placed_after other its_join (front ++ (strand ∷ one ∷ other ∷ back)) ≡ front ++ (strand ∷ one ∷ other ∷ its_join ∷ back)
third_placed s x y j front back ny sy xy =
    placed_behind y j front (s ∷ x ∷ y ∷ back) ny ∙ ap (λ z. front ++ z)
    (placed_there y j s (x ∷ y ∷ back) sy ∙ ap (λ z. s ∷ z) (placed_there y j x (y ∷ back) xy ∙ ap (λ z. x ∷ z) (placed_here y j back)))

-- who is there with the child and the next, in either order
two_there : (number the_child the_next strand one other second : ℕ) (front back : List ℕ) → the_child ≡ number → the_next ≡ 1 + number →
    ((one ≡ the_child) × (other ≡ the_next)) ⊎ ((one ≡ the_next) × (other ≡ the_child)) →
    Present second front ⊎ ((strand ≡ second) ⊎ Present second back) ↔ second < number →
    Present second (front ++ (strand ∷ one ∷ other ∷ back)) ↔ second < 2 + number
two_there m c n s x y v front back ce ne xy old =
    (λ p. forward ((present_append front (s ∷ x ∷ y ∷ back) v).0 p), λ lt. (present_append front (s ∷ x ∷ y ∷ back) v).1 (backward lt))
  where
    below : v < m → v < 2 + m
    below lt = omega arith

    new : (x ≡ v) ⊎ (y ≡ v) → v < 2 + m
    new t =
        elim xy [ inl e ↦ elim t [ inl k ↦ omega (arith, e.0, k) | inr k ↦ omega (arith, e.1, k) ] | inr e ↦ elim t [ inl k ↦ omega (arith, e.0, k) | inr k ↦ omega (arith, e.1, k) ] ]

    forward : Present v front ⊎ Present v (s ∷ x ∷ y ∷ back) → v < 2 + m
    forward (inl p) = below (old.0 (inl p))
    forward (inr (inl e)) = below (old.0 (inr (inl e)))
    forward (inr (inr (inl e))) = new (inl e)
    forward (inr (inr (inr (inl e)))) = new (inr e)
    forward (inr (inr (inr (inr p)))) = below (old.0 (inr (inr p)))

    placed : Present v front ⊎ ((s ≡ v) ⊎ Present v back) → Present v front ⊎ Present v (s ∷ x ∷ y ∷ back)
    placed (inl p) = inl p
    placed (inr (inl e)) = inr (inl e)
    placed (inr (inr p)) = inr (inr (inr (inr p)))

    as_new : (v ≡ c) ⊎ (v ≡ n) → Present v front ⊎ Present v (s ∷ x ∷ y ∷ back)
    as_new (inl e) = elim xy [ inl k ↦ inr (inr (inl (k.0 ∙ sym e))) | inr k ↦ inr (inr (inr (inl (k.1 ∙ sym e)))) ]
    as_new (inr e) = elim xy [ inl k ↦ inr (inr (inr (inl (k.1 ∙ sym e)))) | inr k ↦ inr (inr (inl (k.0 ∙ sym e))) ]

    backward : v < 2 + m → Present v front ⊎ Present v (s ∷ x ∷ y ∷ back)
    backward lt = elim (same_or_not v c) [
      | inl e ↦ as_new (inl e)
      | inr nc ↦ elim (same_or_not v n) [ inl e ↦ as_new (inr e) | inr nn ↦ placed (old.1 (omega (arith, lt, nc, nn, ce, ne))) ]
    ]

-- and with the join behind them
three_there : (number strand one other its_join second : ℕ) (front back : List ℕ) → its_join ≡ 2 + number →
    Present second (front ++ (strand ∷ one ∷ other ∷ back)) ↔ second < 2 + number →
    Present second (front ++ (strand ∷ one ∷ other ∷ its_join ∷ back)) ↔ second < 3 + number
three_there m s x y j v front back je old = (
  λ p. forward (with_join.0 p),
  λ lt. with_join.1 (elim (same_or_not v j) [ inl e ↦ inl e | inr ne ↦ inr (old.1 (omega (arith, lt, ne, je))) ]),
)
  where
    with_join : Present v (front ++ (s ∷ x ∷ y ∷ j ∷ back)) ↔ (v ≡ j) ⊎ Present v (front ++ (s ∷ x ∷ y ∷ back))
    with_join = (λ p. out ((present_append front (s ∷ x ∷ y ∷ j ∷ back) v).0 p), λ p. (present_append front (s ∷ x ∷ y ∷ j ∷ back) v).1 (into p))
      where
        old_one : Present v front ⊎ Present v (s ∷ x ∷ y ∷ back) → (v ≡ j) ⊎ Present v (front ++ (s ∷ x ∷ y ∷ back))
        old_one t = inr ((present_append front (s ∷ x ∷ y ∷ back) v).1 t)

        out : Present v front ⊎ Present v (s ∷ x ∷ y ∷ j ∷ back) → (v ≡ j) ⊎ Present v (front ++ (s ∷ x ∷ y ∷ back))
        out (inl p) = old_one (inl p)
        out (inr (inl e)) = old_one (inr (inl e))
        out (inr (inr (inl e))) = old_one (inr (inr (inl e)))
        out (inr (inr (inr (inl e)))) = old_one (inr (inr (inr (inl e))))
        out (inr (inr (inr (inr (inl e))))) = inl (sym e)
        out (inr (inr (inr (inr (inr p))))) = old_one (inr (inr (inr (inr p))))

        back_in : Present v front ⊎ Present v (s ∷ x ∷ y ∷ back) → Present v front ⊎ Present v (s ∷ x ∷ y ∷ j ∷ back)
        back_in (inl p) = inl p
        back_in (inr (inl e)) = inr (inl e)
        back_in (inr (inr (inl e))) = inr (inr (inl e))
        back_in (inr (inr (inr (inl e)))) = inr (inr (inr (inl e)))
        back_in (inr (inr (inr (inr p)))) = inr (inr (inr (inr (inr p))))

        into : (v ≡ j) ⊎ Present v (front ++ (s ∷ x ∷ y ∷ back)) → Present v front ⊎ Present v (s ∷ x ∷ y ∷ j ∷ back)
        into (inl e) = inr (inr (inr (inr (inl (sym e)))))
        into (inr p) = back_in ((present_append front (s ∷ x ∷ y ∷ back) v).0 p)

    forward : (v ≡ j) ⊎ Present v (front ++ (s ∷ x ∷ y ∷ back)) → v < 3 + m
    forward (inl e) = omega (arith, e, je)
    forward (inr p) = let lt = old.0 p in omega arith

module _ (h : History) (s c n j : ℕ) (first : Bool) (d : Addresses h) (w : Splitting h s c n j first) where
  not_child : s ≢ c
  not_child e = omega (arith, e, w.numbers.child_is, w.numbers.spawner_known)

  not_next : s ≢ n
  not_next e = omega (arith, e, w.numbers.next_is, w.numbers.spawner_known)

  sides_differ : c ≢ n
  sides_differ e = omega (arith, e, w.numbers.child_is, w.numbers.next_is)

  fresh_child : unused h ≤ c
  fresh_child = omega (arith, w.numbers.child_is)

  english_two : (xs : List ℕ) → Listed english h xs → unused (split s c n j first ∷ h) ≡ 2 + unused h →
      Listed english (split s c n j first ∷ h) (placed_after c n (placed_after s c xs))
  english_two xs listed grown =
      let p = parted english h s c n j first d w xs listed in
      let made = ap (λ z. placed_after c n (placed_after s c z)) p.whole ∙ (two_placed s c n p.front p.back p.none_earlier (p.fresh c fresh_child) not_child).0 in
      record {
        present = λ v. subst₂ (λ z m. Present v z ↔ v < m) (sym made) (sym grown)
            (two_there (unused h) c n s c n v p.front p.back w.numbers.child_is w.numbers.next_is (inl (refl, refl)) (p.others v));
        sorted = subst (IsSortedBy english (address (split s c n j first ∷ h))) (sym made)
            (spawned-english (address (split s c n j first ∷ h)) p.front s c n p.back p.key_child p.key_next p.apart p.sorted);
      }

  hebrew_two : (xs : List ℕ) → Listed hebrew h xs → unused (split s c n j first ∷ h) ≡ 2 + unused h →
      Listed hebrew (split s c n j first ∷ h) (placed_after s n (placed_after s c xs))
  hebrew_two xs listed grown =
      let p = parted hebrew h s c n j first d w xs listed in
      let made = ap (λ z. placed_after s n (placed_after s c z)) p.whole ∙ (two_placed s c n p.front p.back p.none_earlier (p.fresh c fresh_child) not_child).1 in
      record {
        present = λ v. subst₂ (λ z m. Present v z ↔ v < m) (sym made) (sym grown)
            (two_there (unused h) c n s n c v p.front p.back w.numbers.child_is w.numbers.next_is (inr (refl, refl)) (p.others v));
        sorted = subst (IsSortedBy hebrew (address (split s c n j first ∷ h))) (sym made)
            (spawned-hebrew (address (split s c n j first ∷ h)) p.front s c n p.back p.key_child p.key_next p.apart p.sorted);
      }

  module _ (je : j ≡ 2 + unused h) (grown : unused (split s c n j first ∷ h) ≡ 3 + unused h) where
    fresh_join : unused h ≤ j
    fresh_join = omega arith

    english_three : (xs : List ℕ) → Listed english h xs → Listed english (split s c n j first ∷ h) (placed_after n j (placed_after c n (placed_after s c xs)))
    english_three xs listed =
        let p = parted english h s c n j first d w xs listed in
        let made = ap (λ z. placed_after n j (placed_after c n (placed_after s c z))) p.whole ∙
        (ap (placed_after n j) (two_placed s c n p.front p.back p.none_earlier (p.fresh c fresh_child) not_child).0 ∙
        third_placed s c n j p.front p.back (p.fresh n (omega (arith, w.numbers.next_is))) not_next sides_differ) in
        record {
          present = λ v. subst₂ (λ z m. Present v z ↔ v < m) (sym made) (sym grown)
              (three_there (unused h) s c n j v p.front p.back je
              (two_there (unused h) c n s c n v p.front p.back w.numbers.child_is w.numbers.next_is (inl (refl, refl)) (p.others v)));
          sorted = subst (IsSortedBy english (address (split s c n j first ∷ h))) (sym made)
              (opened-english (address (split s c n j first ∷ h)) p.front s c n p.back p.key_child p.key_next p.apart j (p.key_join fresh_join) p.sorted);
        }

    hebrew_three : (xs : List ℕ) → Listed hebrew h xs → Listed hebrew (split s c n j first ∷ h) (placed_after c j (placed_after s n (placed_after s c xs)))
    hebrew_three xs listed =
        let p = parted hebrew h s c n j first d w xs listed in
        let made = ap (λ z. placed_after c j (placed_after s n (placed_after s c z))) p.whole ∙
        (ap (placed_after c j) (two_placed s c n p.front p.back p.none_earlier (p.fresh c fresh_child) not_child).1 ∙
        third_placed s n c j p.front p.back (p.fresh c fresh_child) not_child (λ e. sides_differ (sym e))) in
        record {
          present = λ v. subst₂ (λ z m. Present v z ↔ v < m) (sym made) (sym grown)
              (three_there (unused h) s n c j v p.front p.back je
              (two_there (unused h) c n s n c v p.front p.back w.numbers.child_is w.numbers.next_is (inr (refl, refl)) (p.others v)));
          sorted = subst (IsSortedBy hebrew (address (split s c n j first ∷ h))) (sym made)
              (opened-hebrew (address (split s c n j first ∷ h)) p.front s c n p.back p.key_child p.key_next p.apart j (p.key_join fresh_join) p.sorted);
        }

listed_start : (rank : Word → ℕ) → Listed rank [] (0 ∷ [])
listed_start rank = record {
  present = λ v. (λ t. elim t [ inl e ↦ omega (arith, e) | inr e ↦ absurd e ], λ lt. inl (omega arith));
  sorted = AllPairs-cons (λ x y. before rank (address [] x) (address [] y) ≡ true) 0 [] (All-nil (λ y. before rank (address [] 0) (address [] y) ≡ true))
      (pairs-nil (λ x y. before rank (address [] x) (address [] y) ≡ true));
}

pub english_listed : {h : History} → Legal h → Listed english h (english_items h)
english_listed start = listed_start english
english_listed (then {history = h} {event = split s c n j true} l (open_split run sy ce ne je)) =
    english_three h s c n j true (addresses l) (splitting h s c n j true (ranges l) (holders l) (open_split run sy ce ne je)) je refl (english_items h) (english_listed l)
english_listed (then {history = h} {event = split s c n j false} l (next_split run st ce ne)) =
    english_two h s c n j false (addresses l) (splitting h s c n j false (ranges l) (holders l) (next_split run st ce ne)) (english_items h) (english_listed l) refl
english_listed (then {history = h} {event = same s} l a) = let k = english_listed l in record { present = k.present; sorted = k.sorted }
english_listed (then {history = h} {event = joined s j} l a) = let k = english_listed l in record { present = k.present; sorted = k.sorted }
english_listed (then {history = h} {event = waits s} l a) = let k = english_listed l in record { present = k.present; sorted = k.sorted }
english_listed (then {history = h} {event = call s} l a) = let k = english_listed l in record { present = k.present; sorted = k.sorted }
english_listed (then {history = h} {event = resumed s} l a) = let k = english_listed l in record { present = k.present; sorted = k.sorted }
english_listed (then {history = h} {event = ended s} l a) = let k = english_listed l in record { present = k.present; sorted = k.sorted }
english_listed (then {history = h} {event = ended_joined s j} l a) = let k = english_listed l in record { present = k.present; sorted = k.sorted }
english_listed (then {history = h} {event = finished s} l a) = let k = english_listed l in record { present = k.present; sorted = k.sorted }

pub hebrew_listed : {h : History} → Legal h → Listed hebrew h (hebrew_items h)
hebrew_listed start = listed_start hebrew
hebrew_listed (then {history = h} {event = split s c n j true} l (open_split run sy ce ne je)) =
    hebrew_three h s c n j true (addresses l) (splitting h s c n j true (ranges l) (holders l) (open_split run sy ce ne je)) je refl (hebrew_items h) (hebrew_listed l)
hebrew_listed (then {history = h} {event = split s c n j false} l (next_split run st ce ne)) =
    hebrew_two h s c n j false (addresses l) (splitting h s c n j false (ranges l) (holders l) (next_split run st ce ne)) (hebrew_items h) (hebrew_listed l) refl
hebrew_listed (then {history = h} {event = same s} l a) = let k = hebrew_listed l in record { present = k.present; sorted = k.sorted }
hebrew_listed (then {history = h} {event = joined s j} l a) = let k = hebrew_listed l in record { present = k.present; sorted = k.sorted }
hebrew_listed (then {history = h} {event = waits s} l a) = let k = hebrew_listed l in record { present = k.present; sorted = k.sorted }
hebrew_listed (then {history = h} {event = call s} l a) = let k = hebrew_listed l in record { present = k.present; sorted = k.sorted }
hebrew_listed (then {history = h} {event = resumed s} l a) = let k = hebrew_listed l in record { present = k.present; sorted = k.sorted }
hebrew_listed (then {history = h} {event = ended s} l a) = let k = hebrew_listed l in record { present = k.present; sorted = k.sorted }
hebrew_listed (then {history = h} {event = ended_joined s j} l a) = let k = hebrew_listed l in record { present = k.present; sorted = k.sorted }
hebrew_listed (then {history = h} {event = finished s} l a) = let k = hebrew_listed l in record { present = k.present; sorted = k.sorted }

pub lists_law : ListsLaw
lists_law h l u v lu lv =
    let e = english_listed l in
    let b = hebrew_listed l in (
      places_sorted english english-ranks (address h) (english_items h) e.sorted u v ((e.present u).1 lu) ((e.present v).1 lv),
      places_sorted hebrew hebrew-ranks (address h) (hebrew_items h) b.sorted u v ((b.present u).1 lu) ((b.present v).1 lv),
    )
