-- The count of the outstanding children of a block.
use Rattle.std.proofs.Common.{◌≡◌, ◌≢◌, ◌⊎◌, ◌↔◌, inl, inr, ℕ, suc, ◌<◌, ◌≤◌, Bool, true, false, cond, eqb, pred, List, [], ◌∷◌, length, refl, sym, ap, ap₂, ◌∙◌, subst, arith}
use Rattle.model_strands.specs.Updated.{updated}
use Rattle.model_strands.specs.History.{split, same, joined, waits, call, resumed, ended, ended_joined, finished, History}
use Rattle.model_strands.specs.Strands.{Running}
use Rattle.model_strands.specs.Blocks.{Stack, spawned, stack, Outstanding}
use Rattle.model_strands.specs.Legal.{child_return, last_return, Legal, start, then}
use Rattle.law_strands.specs.Counts.{one_less, children_left}
use Rattle.law_strands.specs.Laws.{CountLaw}
use Rattle.law_strands.proofs.Updates.{same_or_not, updated_at, updated_off, updated_case}
use Rattle.std.proofs.lemmas.Bool.Decides.{eqb_tells}
use Rattle.law_strands.proofs.Places.{place_of, spawned_same}
use Rattle.law_strands.proofs.Holders.{IsLive, holders, running_open}
use Rattle.law_strands.proofs.Members.{Present}

-- each number is less than the one before, the first less than the bound
Falls : ℕ → List ℕ → Type 0
Falls bound [] = Unit {0}
Falls bound (number ∷ numbers) = (number < bound) × Falls number numbers

falls_from : (number other_join : ℕ) (xs : List ℕ) → number ≤ other_join → Falls number xs → Falls other_join xs
unfolding Falls
falls_from m k [] le f = tt
falls_from m k (y ∷ ys) le f = (omega (arith, f.0), f.1)

falls_below : (number : ℕ) (xs : List ℕ) (item : ℕ) → Falls number xs → Present item xs → item < number
unfolding Falls
falls_below m [] a f p = absurd p
falls_below m (y ∷ ys) a f (inl e) = omega (arith, e, f.0)
falls_below m (y ∷ ys) a f (inr p) = omega (arith, f.0, falls_below y ys a f.1 p)

without : ℕ → List ℕ → List ℕ
without n [] = []
without n (y ∷ ys) = cond (eqb y n) ys (y ∷ without n ys)

without_here : (number other : ℕ) (ys : List ℕ) → other ≡ number → without number (other ∷ ys) ≡ ys
unfolding without
without_here n y ys e = go (eqb_tells y n)
  where
    go : ((eqb y n ≡ true) × (y ≡ n)) ⊎ ((eqb y n ≡ false) × (y ≢ n)) → cond (eqb y n) ys (y ∷ without n ys) ≡ ys
    go (inl t) = rw t.0 refl
    go (inr t) = absurd (t.1 e)

without_there : (number other : ℕ) (ys : List ℕ) → other ≢ number → without number (other ∷ ys) ≡ other ∷ without number ys
unfolding without
without_there n y ys ne = go (eqb_tells y n)
  where
    go : ((eqb y n ≡ true) × (y ≡ n)) ⊎ ((eqb y n ≡ false) × (y ≢ n)) → cond (eqb y n) ys (y ∷ without n ys) ≡ y ∷ without n ys
    go (inl t) = absurd (ne t.1)
    go (inr t) = rw t.0 refl

falls_without : (number other_number : ℕ) (xs : List ℕ) → Falls number xs → Falls number (without other_number xs)
unfolding Falls without
falls_without m n [] f = tt
falls_without m n (y ∷ ys) f = elim (same_or_not y n) [
  | inl e ↦ subst (Falls m) (sym (without_here n y ys e)) (falls_from y m ys (omega (arith, f.0)) f.1)
  | inr ne ↦ subst (Falls m) (sym (without_there n y ys ne)) (f.0, falls_without y n ys f.1)
]

present_without : (number other_number : ℕ) (xs : List ℕ) (item : ℕ) → Falls number xs →
    Present item (without other_number xs) ↔ (item ≢ other_number) × Present item xs
unfolding Falls without
present_without m n [] a f = ((λ t. absurd t), (λ t. t.1))
present_without m n (y ∷ ys) a f = go (same_or_not y n) (present_without y n ys a f.1)
  where
    go : (y ≡ n) ⊎ (y ≢ n) → Present a (without n ys) ↔ (a ≢ n) × Present a ys → Present a (without n (y ∷ ys)) ↔ (a ≢ n) × ((y ≡ a) ⊎ Present a ys)
    go (inl e) k = (
      (λ t. let p : Present a ys = subst (Present a) (without_here n y ys e) t in ((λ g. omega (arith, falls_below y ys a f.1 p, e, g)), inr p)),
      (λ t. subst (Present a) (sym (without_here n y ys e)) (elim t.1 [ inl q ↦ absurd (t.0 (sym q ∙ e)) | inr q ↦ q ])),
    )
    go (inr ne) k = (
      (λ t. elim (subst (Present a) (without_there n y ys ne) t) [ inl q ↦ ((λ g. ne (q ∙ g)), inl q) | inr q ↦ ((k.0 q).0, inr (k.0 q).1) ]),
      (λ t. subst (Present a) (sym (without_there n y ys ne)) (elim t.1 [ inl q ↦ inl q | inr q ↦ inr (k.1 (t.0, q)) ])),
    )

length_without : (number : ℕ) (xs : List ℕ) → Present number xs → length (without number xs) ≡ pred (length xs)
unfolding without
length_without n [] p = absurd p
length_without n (y ∷ ys) p = go (same_or_not y n) p (λ q. length_without n ys q)
  where
    some : (zs : List ℕ) → Present n zs → suc (pred (length zs)) ≡ length zs
    some [] q = absurd q
    some (z ∷ zs) q = omega arith

    go : (y ≡ n) ⊎ (y ≢ n) → (y ≡ n) ⊎ Present n ys → (Present n ys → length (without n ys) ≡ pred (length ys)) → length (without n (y ∷ ys)) ≡ length ys
    go (inl e) q again = ap length (without_here n y ys e)
    go (inr ne) (inl q) again = absurd (ne q)
    go (inr ne) (inr q) again = ap length (without_there n y ys ne) ∙ (ap (λ z. suc z) (again q) ∙ some ys q)

-- the outstanding children, the last spawned first
abbrev removed : Stack → (ℕ → List ℕ) → ℕ → List ℕ
removed (spawned number join) lists = updated lists join (without number (lists join))
removed _ lists = lists

abbrev left_of : History → ℕ → List ℕ
left_of [] = λ join. []
left_of (split strand the_child the_next its_join first ∷ history) = updated (left_of history) its_join (suc (length history) ∷ left_of history its_join)
left_of (ended strand ∷ history) = removed (stack history strand) (left_of history)
left_of (ended_joined strand its_join ∷ history) = removed (stack history strand) (left_of history)
left_of (_ ∷ history) = left_of history

-- the list is that of the outstanding children, and the count is its length
record Children (history : History) : Type 0 where
  falling : (join : ℕ) → Falls (suc (length history)) (left_of history join)
  members : (number join : ℕ) → Present number (left_of history join) ↔ Outstanding history number join
  counted : (join : ℕ) → children_left history join ≡ length (left_of history join)

children_split : (history : History) (strand the_child the_next the_join : ℕ) (first : Bool) → Children history →
    Children (split strand the_child the_next the_join first ∷ history)
unfolding Falls
children_split h s c n j first k = record {
  falling = λ i. updated_case (Falls (suc (suc (length h)))) (left_of h) j (suc (length h) ∷ left_of h j) i
      (λ e. (omega arith, k.falling j)) (λ ne. falls_from (suc (length h)) (suc (suc (length h))) (left_of h i) (omega arith) (k.falling i));
  members = λ m i. updated_case (λ xs. Present m xs ↔ Outstanding (split s c n j first ∷ h) m i) (left_of h) j (suc (length h) ∷ left_of h j) i
      (λ e. (
        (λ t. elim t [ inl q ↦ inl (sym q, e) | inr q ↦ inr (subst (Outstanding h m) (sym e) ((k.members m j).0 q)) ]),
        (λ t. elim t [ inl q ↦ inl (sym q.0) | inr q ↦ inr ((k.members m j).1 (subst (Outstanding h m) e q)) ]),
      ))
      (λ ne. ((λ t. inr ((k.members m i).0 t)), (λ t. elim t [ inl q ↦ absurd (ne q.1) | inr q ↦ (k.members m i).1 q ])));
  counted = λ i. elim (same_or_not i j) [
    | inl e ↦ updated_at (children_left h) j (suc (children_left h j)) i e ∙ (ap (λ z. suc z) (k.counted j) ∙ ap length (sym (updated_at (left_of h) j (suc (length h) ∷ left_of h j) i e)))
    | inr ne ↦ updated_off (children_left h) j (suc (children_left h j)) i ne ∙ (k.counted i ∙ ap length (sym (updated_off (left_of h) j (suc (length h) ∷ left_of h j) i ne)))
  ];
}

-- a return of a child takes it away
record Taken (history : History) (strand number join : ℕ) : Type 0 where
  falls : (other : ℕ) → Falls (suc (suc (length history))) (removed (stack history strand) (left_of history) other)
  there : (other_number other : ℕ) →
      Present other_number (removed (stack history strand) (left_of history) other) ↔ (stack history strand ≢ spawned other_number other) × Outstanding history other_number other
  count : (other : ℕ) → one_less (stack history strand) (children_left history) other ≡ length (removed (stack history strand) (left_of history) other)

taken : (history : History) (strand number its_join : ℕ) → Children history → stack history strand ≡ spawned number its_join →
    Outstanding history number its_join → Taken history strand number its_join
taken h s n j k st o = record {
  falls = λ i. subst (λ z. Falls (suc (suc (length h))) (removed z (left_of h) i)) (sym st)
      (updated_case (Falls (suc (suc (length h)))) (left_of h) j (without n (left_of h j)) i
      (λ e. falls_from (suc (length h)) (suc (suc (length h))) (without n (left_of h j)) (omega arith) (falls_without (suc (length h)) n (left_of h j) (k.falling j)))
      (λ ne. falls_from (suc (length h)) (suc (suc (length h))) (left_of h i) (omega arith) (k.falling i)));
  there = λ m i. subst (λ z. Present m (removed z (left_of h) i) ↔ (z ≢ spawned m i) × Outstanding h m i) (sym st)
      (updated_case (λ xs. Present m xs ↔ (spawned n j ≢ spawned m i) × Outstanding h m i) (left_of h) j (without n (left_of h j)) i
      (λ e. let w = present_without (suc (length h)) n (left_of h j) m (k.falling j) in (
        (λ t. ((λ g. (w.0 t).0 (sym (spawned_same g).0)), subst (Outstanding h m) (sym e) ((k.members m j).0 (w.0 t).1))),
        (λ t. w.1 ((λ g. t.0 (ap₂ (λ a b. spawned a b) (sym g) (sym e))), (k.members m j).1 (subst (Outstanding h m) e t.1))),
      ))
      (λ ne. ((λ t. ((λ g. ne (sym (spawned_same g).1)), (k.members m i).0 t)), (λ t. (k.members m i).1 t.1))));
  count = λ i. subst (λ z. one_less z (children_left h) i ≡ length (removed z (left_of h) i)) (sym st) (count_at i (same_or_not i j));
}
  where
    count_at : (another : ℕ) → (another ≡ j) ⊎ (another ≢ j) →
        updated (children_left h) j (pred (children_left h j)) another ≡ length (updated (left_of h) j (without n (left_of h j)) another)
    count_at i (inl e) = updated_at (children_left h) j (pred (children_left h j)) i e ∙
        (ap pred (k.counted j) ∙ (sym (length_without n (left_of h j) ((k.members n j).1 o)) ∙ ap length (sym (updated_at (left_of h) j (without n (left_of h j)) i e))))
    count_at i (inr ne) =
        updated_off (children_left h) j (pred (children_left h j)) i ne ∙ (k.counted i ∙ ap length (sym (updated_off (left_of h) j (without n (left_of h j)) i ne)))

-- a running strand's function is an outstanding child of its block
pub child_outstanding : (history : History) → Legal history → (strand number its_join : ℕ) → Running history strand →
    stack history strand ≡ spawned number its_join → Outstanding history number its_join
child_outstanding h l s n j run st = (subst (IsLive h) (ap place_of st) ((holders l).live s (running_open h s run))).1

grown : (history : History) (its_join : ℕ) → Children history → Falls (suc (suc (length history))) (left_of history its_join)
grown h j k = falls_from (suc (length h)) (suc (suc (length h))) (left_of h j) (omega arith) (k.falling j)

children_of : {h : History} → Legal h → Children h
unfolding Falls
children_of start = record { falling = λ j. tt; members = λ m j. ((λ t. t), (λ t. t)); counted = λ j. refl }
children_of (then {history = h} {event = split s c n j first} l a) = children_split h s c n j first (children_of l)
children_of (then {history = h} {event = same s} l a) = let k = children_of l in record { falling = λ j. grown h j k; members = k.members; counted = k.counted }
children_of (then {history = h} {event = joined s j} l a) = let k = children_of l in record { falling = λ i. grown h i k; members = k.members; counted = k.counted }
children_of (then {history = h} {event = waits s} l a) = let k = children_of l in record { falling = λ j. grown h j k; members = k.members; counted = k.counted }
children_of (then {history = h} {event = call s} l a) = let k = children_of l in record { falling = λ j. grown h j k; members = k.members; counted = k.counted }
children_of (then {history = h} {event = resumed s} l a) = let k = children_of l in record { falling = λ j. grown h j k; members = k.members; counted = k.counted }
children_of (then {history = h} {event = finished s} l a) = let k = children_of l in record { falling = λ j. grown h j k; members = k.members; counted = k.counted }
children_of (then {history = h} {event = ended s} l (child_return {number = n} {join = j} run st last)) =
    let t = taken h s n j (children_of l) st (child_outstanding h l s n j run st) in record { falling = t.falls; members = t.there; counted = t.count }
children_of (then {history = h} {event = ended_joined s j} l (last_return {number = n} run st last)) =
    let t = taken h s n j (children_of l) st (child_outstanding h l s n j run st) in record { falling = t.falls; members = t.there; counted = t.count }

none_is_empty : (xs : List ℕ) → (length xs ≡ 0) ↔ ((number : ℕ) → Present number xs → ⊥)
none_is_empty [] = ((λ e m p. p), (λ n. refl))
none_is_empty (y ∷ ys) = ((λ e. absurd (omega arith)), (λ n. absurd (n y (inl refl))))

one_is_last : (bound number : ℕ) (xs : List ℕ) → Falls bound xs → Present number xs → (length xs ≡ 1) ↔ ((count : ℕ) → Present count xs → count ≡ number)
unfolding Falls
one_is_last b n [] f p = absurd p
one_is_last b n (y ∷ []) f p = ((λ e m q. only m q ∙ sym (only n p)), (λ t. refl))
  where
    only : (number : ℕ) → (y ≡ number) ⊎ ⊥ → number ≡ y
    only m (inl e) = sym e
    only m (inr e) = absurd e
one_is_last b n (y ∷ z ∷ zs) f p = ((λ e. absurd (omega arith)), (λ t. absurd (omega (arith, f.1.0, t y (inl refl), t z (inr (inl refl))))))

pub count_law : CountLaw
count_law h l = (
  (λ j. (
    (λ e m o. ((none_is_empty (left_of h j)).0 (sym (k.counted j) ∙ e)) m ((k.members m j).1 o)),
    (λ n. k.counted j ∙ (none_is_empty (left_of h j)).1 (λ m p. n m ((k.members m j).0 p))),
  )),
  (λ s n j run st. let one = one_is_last (suc (length h)) n (left_of h j) (k.falling j) ((k.members n j).1 (child_outstanding h l s n j run st)) in (
    (λ e m o. one.0 (sym (k.counted j) ∙ e) m ((k.members m j).1 o)),
    (λ t. k.counted j ∙ one.1 (λ m p. t m ((k.members m j).0 p))),
  )),
)
  where
    k : Children h
    k = children_of l
