-- What climbing from two strands to what made them leaves: the climb passes no spawn at which the two part.
use Rattle.std.proofs.Common.{◌≡◌, ◌⊎◌, ◌↔◌, inl, inr, ℕ, zero, suc, ◌<◌, ◌≤◌, true, false, [], ◌∷◌, ◌++◌, length, refl, sym, ap, ◌∙◌, subst, append-nil, append_assoc, IsTrue, arith}
use Rattle.std.proofs.lemmas.Bool.{cases_Bool}
use Rattle.model_strands.specs.Address.{Word, child, next, join, Address}
use Rattle.law_addresses.specs.Address.{is_prefix, reaches, parallel, IsPrefix}
use Rattle.law_addresses.proofs.Differences.{first_difference-longer}
use Rattle.law_addresses.proofs.Extensions.{first_difference-extended, reaches-append, parallel-append}
use Rattle.law_addresses.proofs.Relations.{is_prefix-decides, parallel-self, parallel-comm, parallel_at, parallel-by_difference}
use Rattle.law_addresses.proofs.Blocks.{prefix-reaches}
use Rattle.model_strands.specs.declared.spawned.Spawned.{Spawned}
use Rattle.model_strands.specs.Strands.{Begun, unused}
use Rattle.model_strands.specs.Legal.{Legal}
use Rattle.model_strands.specs.Dag.{Reaches, IsParallel}
use Rattle.model_strands.specs.Addresses.{address}
use Rattle.law_strands.proofs.Words.{◌▹◌, prefix_refl, prefix_of_longer, prefix_longer, last_same}
use Rattle.law_strands.proofs.Addresses.{addresses}
use Rattle.law_strands.proofs.Law.{reach_precedes, precedes_reach}
use Rattle.law_strands.proofs.Orders.{address_tests_law}
use Rattle.model_histories.specs.declared.answer.Answer.TheVariants.{Split}
use Rattle.model_histories.specs.declared.answer.Entry.{Entry}
use Rattle.model_histories.specs.Entries.{Entries, control_part}
use Rattle.race_pairs.specs.Makers.{HasNumber, IsSpawn, maker}
use Rattle.race_pairs.specs.Climbs.{Climbs}
use Rattle.race_pairs.proofs.Made.{Made, Origin, origins}

-- Entries and their numbers.

pub number_within : (entries : Entries) (number : ℕ) (one : Entry) → HasNumber entries number one → (0 < number) × (number ≤ length entries)
number_within [] number one k = absurd k
number_within (entry ∷ entries) number one (inl t) = let is : number ≡ suc (length entries) = t.0 in (omega arith, omega arith)
number_within (entry ∷ entries) number one (inr k) = let old = number_within entries number one k in (old.0, omega (arith, old.1))

pub same_entry : (entries : Entries) (number : ℕ) (one two : Entry) → HasNumber entries number one → HasNumber entries number two → one ≡ two
same_entry [] number one two k t = absurd k
same_entry (entry ∷ entries) number one two (inl k) (inl t) = k.1 ∙ sym t.1
same_entry (entry ∷ entries) number one two (inl k) (inr t) = absurd (let old = number_within entries number two t in omega (arith, k.0, old.1))
same_entry (entry ∷ entries) number one two (inr k) (inl t) = absurd (let old = number_within entries number one k in omega (arith, t.0, old.1))
same_entry (entry ∷ entries) number one two (inr k) (inr t) = same_entry entries number one two k t

-- one entry is one spawn
pub same_spawn : (entries : Entries) (number s t : ℕ) (a b : Spawned) → IsSpawn entries number s a → IsSpawn entries number t b → (s ≡ t) × (a ≡ b)
same_spawn entries number s t a b (one, k, e, f) (two, q, g, h) =
    let is : one ≡ two = same_entry entries number one two k q in
    let fa : one.answer ≡ Split a = f.1 in
    let fb : two.answer ≡ Split b = h.1 in
    (cc, cc)

-- Addresses.

nil_extended : (a : Address) (w : Word) (rest : Address) → [] ≡ (a ▹ w) ++ rest → ⊥
nil_extended [] w rest e = cc
nil_extended (x ∷ a) w rest e = cc

parallel_longer : (a : Address) (w : Word) → parallel (a ▹ w) a ≡ false
parallel_longer a w = parallel-by_difference (a ▹ w) a ∙ ap parallel_at (first_difference-longer a w [])

-- where nothing of a lies behind the spawner's address, the word behind it makes no difference
parallel_climb : (a b : Address) (w : Word) → ((x : Word) → IsPrefix (a ▹ x) b → ⊥) → parallel (a ▹ w) b ≡ parallel a b
parallel_climb a b w none = elim (cases_Bool (is_prefix a b)) [ inl e ↦ within ((is_prefix-decides a b).0 e) | inr e ↦ apart e ]
  where
    apart : is_prefix a b ≡ false → parallel (a ▹ w) b ≡ parallel a b
    apart e = parallel-by_difference (a ▹ w) b ∙ (ap parallel_at (first_difference-extended a (w ∷ []) b e) ∙ sym (parallel-by_difference a b))

    within : IsPrefix a b → parallel (a ▹ w) b ≡ parallel a b
    within ([], e) =
        let is : a ≡ b = sym (append-nil a) ∙ sym e in
        subst (λ (z : Address). parallel (a ▹ w) z ≡ parallel a z) is (parallel_longer a w ∙ sym (parallel-self a))
    within (x ∷ rest, e) = absurd (none x (rest, e ∙ sym (append_assoc a (x ∷ []) rest)))

-- what one side of a spawn reaches of the other's
reaches_side : (a b rest : Address) (x y : Word) → b ≡ (a ▹ y) ++ rest → reaches (a ▹ x) b ≡ reaches (x ∷ []) (y ∷ rest)
reaches_side a b rest x y e =
    ap (reaches (a ▹ x)) (e ∙ append_assoc a (y ∷ []) rest) ∙ reaches-append a (x ∷ []) (y ∷ rest)

-- The climb.

-- what stands behind the spawner of a strand was made by no earlier entry
beyond : (entries : Entries) → Legal (control_part entries) → (one : ℕ) → (w : Made entries (control_part entries) (maker entries) one) →
    (bound y : ℕ) → maker entries y < bound → y < unused (control_part entries) → (x : Word) →
    IsPrefix (address (control_part entries) w.spawner ▹ x) (address (control_part entries) y) → maker entries one ≤ maker entries y
beyond entries l one w zero y lt known x p = absurd (omega arith)
beyond entries l one w (suc bound) y lt known x p =
    go (λ z lower there q. beyond entries l one w bound z lower there x q) (origins entries l y known)
  where
    beside : (v : Made entries (control_part entries) (maker entries) y) →
        address (control_part entries) w.spawner ≡ address (control_part entries) v.spawner → maker entries one ≤ maker entries y
    beside v e =
        let alike : address (control_part entries) w.began.child ≡ address (control_part entries) v.began.child =
        w.child_address ∙ (ap (λ a. a ▹ child) e ∙ sym v.child_address) in
        let is : w.began.child ≡ v.began.child = (addresses l).distinct w.began.child v.began.child w.child_known v.child_known alike in
        let made : maker entries one ≡ maker entries y = sym w.child_maker ∙ (ap (maker entries) is ∙ v.child_maker) in
        omega arith

    go : ((z : ℕ) → maker entries z < bound → z < unused (control_part entries) →
        IsPrefix (address (control_part entries) w.spawner ▹ x) (address (control_part entries) z) → maker entries one ≤ maker entries z) →
        Origin entries (control_part entries) (maker entries) y → maker entries one ≤ maker entries y
    go ih (inl t) = absurd (nil_extended (address (control_part entries) w.spawner) x p.0 (sym t.2 ∙ p.1))
    go ih (inr v) = elim (prefix_longer (address (control_part entries) w.spawner ▹ x) (address (control_part entries) v.spawner) v.word
        (subst (IsPrefix (address (control_part entries) w.spawner ▹ x)) v.own_address p)) [
          | inl q ↦ (let lower : maker entries v.spawner < bound = omega (arith, v.earlier) in
              let earlier = ih v.spawner lower v.spawner_known q in omega (arith, earlier, v.earlier))
          | inr e ↦ beside v (last_same (address (control_part entries) w.spawner) (address (control_part entries) v.spawner) x v.word e).0
        ]

pub climbs_first : (entries : Entries) (strand other : ℕ) → strand < unused (control_part entries) → other < unused (control_part entries) →
    Climbs entries strand other strand other
climbs_first entries strand other known also = record {
  one_known = known;
  two_known = also;
  one_begins = prefix_refl (address (control_part entries) strand);
  two_begins = prefix_refl (address (control_part entries) other);
  parallel_alike = refl;
}

pub climbs_swap : (entries : Entries) (strand other one two : ℕ) → Climbs entries strand other one two → Climbs entries other strand two one
climbs_swap entries strand other one two c =
    let h = control_part entries in
    record {
      one_known = c.two_known;
      two_known = c.one_known;
      one_begins = c.two_begins;
      two_begins = c.one_begins;
      parallel_alike = parallel-comm (address h other) (address h strand) ∙ (c.parallel_alike ∙ parallel-comm (address h one) (address h two));
    }

-- some entry made what has a maker
pub made : (entries : Entries) → Legal (control_part entries) → (one : ℕ) → one < unused (control_part entries) → 0 < maker entries one →
    Made entries (control_part entries) (maker entries) one
made entries l one known some = go (origins entries l one known)
  where
    go : Origin entries (control_part entries) (maker entries) one → Made entries (control_part entries) (maker entries) one
    go (inl t) = absurd (omega (arith, t.1))
    go (inr w) = w

-- the one whose maker is later goes on to its spawner
pub climb : (entries : Entries) → Legal (control_part entries) → (strand other one two : ℕ) → Climbs entries strand other one two →
    maker entries two < maker entries one → (spawner : ℕ) (spawned : Spawned) → IsSpawn entries (maker entries one) spawner spawned →
    Climbs entries strand other spawner two × (maker entries spawner < maker entries one)
climb entries l strand other one two c later spawner spawned is =
    let h = control_part entries in
    let w = made entries l one c.one_known (omega arith) in
    let named : w.spawner ≡ spawner = (same_spawn entries (maker entries one) w.spawner spawner w.began spawned w.spawn is).0 in
    let none : (x : Word) → IsPrefix (address h w.spawner ▹ x) (address h two) → ⊥ = λ x p.
    (let within : maker entries two < suc (maker entries two) = omega arith in
    let earlier = beyond entries l one w (suc (maker entries two)) two within c.two_known x p in absurd (omega (arith, earlier))) in
    let up : Climbs entries strand other w.spawner two = record {
      one_known = w.spawner_known;
      two_known = c.two_known;
      one_begins = prefix_of_longer (address h w.spawner) (address h strand) w.word (subst (λ (z : Address). IsPrefix z (address h strand)) w.own_address c.one_begins);
      two_begins = c.two_begins;
      parallel_alike = c.parallel_alike ∙ (ap (λ (z : Address). parallel z (address h two)) w.own_address ∙ parallel_climb (address h w.spawner) (address h two) w.word none);
    } in
    (subst (λ (s : ℕ). Climbs entries strand other s two) named up, subst (λ (s : ℕ). maker entries s < maker entries one) named w.earlier)

-- Where the climbs end.

-- the strands are parallel exactly where what the climbs came by is
pub parallel_told : (entries : Entries) → Legal (control_part entries) → (strand other one two : ℕ) → Climbs entries strand other one two →
    Begun (control_part entries) strand → Begun (control_part entries) other →
    IsParallel (control_part entries) strand other ↔ IsTrue (parallel (address (control_part entries) one) (address (control_part entries) two))
parallel_told entries l strand other one two c bs bo =
    let law = (address_tests_law (control_part entries) l strand other bs bo).1 in
    (λ p. sym c.parallel_alike ∙ law.0 p, λ t. law.1 (c.parallel_alike ∙ t))

-- the sides of a spawn by which two strands come
pub record Sides (entries : Entries) (spawned : Spawned) (by_child by_next : ℕ) : Type 0 where
  pub child_reaches : Reaches (control_part entries) spawned.child by_child
  pub next_reaches : Reaches (control_part entries) spawned.next by_next
  pub child_misses : Reaches (control_part entries) spawned.child by_next → ⊥
  pub next_misses : Reaches (control_part entries) spawned.next by_child → ⊥
  pub parallel_sides : parallel (address (control_part entries) spawned.child) (address (control_part entries) spawned.next) ≡ true

-- the climbs came by the child and the next of one spawn
pub sides : (entries : Entries) → Legal (control_part entries) → (strand other one two : ℕ) → Climbs entries strand other one two →
    Begun (control_part entries) strand → Begun (control_part entries) other → 0 < maker entries one → (spawner : ℕ) (spawned : Spawned) →
    IsSpawn entries (maker entries one) spawner spawned → one ≡ spawned.child → two ≡ spawned.next → Sides entries spawned strand other
sides entries l strand other one two c bs bo some spawner spawned is at_child at_next = record {
  child_reaches = precedes_reach (control_part entries) l spawned.child strand child_begun bs (prefix-reaches (address (control_part entries) spawned.child) (address (control_part entries) strand) of_strand);
  next_reaches = precedes_reach (control_part entries) l spawned.next other next_begun bo (prefix-reaches (address (control_part entries) spawned.next) (address (control_part entries) other) of_other);
  child_misses = λ p. (let yes = reach_precedes (control_part entries) l spawned.child other p in
      let no : reaches (address (control_part entries) spawned.child) (address (control_part entries) other) ≡ false =
      ap (λ (z : Address). reaches z (address (control_part entries) other)) child_address ∙
      reaches_side (address (control_part entries) w.spawner) (address (control_part entries) other) of_other.0 child next (of_other.1 ∙ ap (λ (z : Address). z ++ of_other.0) next_address) in
      cc);
  next_misses = λ p. (let yes = reach_precedes (control_part entries) l spawned.next strand p in
      let no : reaches (address (control_part entries) spawned.next) (address (control_part entries) strand) ≡ false =
      ap (λ (z : Address). reaches z (address (control_part entries) strand)) next_address ∙
      reaches_side (address (control_part entries) w.spawner) (address (control_part entries) strand) of_strand.0 next child (of_strand.1 ∙ ap (λ (z : Address). z ++ of_strand.0) child_address) in
      cc);
  parallel_sides = ap (λ (z : Address). parallel z (address (control_part entries) spawned.next)) child_address ∙
      (ap (parallel (address (control_part entries) w.spawner ▹ child)) next_address ∙ parallel-append (address (control_part entries) w.spawner) (child ∷ []) (next ∷ []));
}
  where
    w : Made entries (control_part entries) (maker entries) one
    w = made entries l one c.one_known some

    same_began : w.began ≡ spawned
    same_began = (same_spawn entries (maker entries one) w.spawner spawner w.began spawned w.spawn is).1

    child_begun : Begun (control_part entries) spawned.child
    child_begun = subst (λ (b : Spawned). Begun (control_part entries) b.child) same_began w.child_begun

    next_begun : Begun (control_part entries) spawned.next
    next_begun = subst (λ (b : Spawned). Begun (control_part entries) b.next) same_began w.next_begun

    child_address : address (control_part entries) spawned.child ≡ address (control_part entries) w.spawner ▹ child
    child_address = subst (λ (b : Spawned). address (control_part entries) b.child ≡ address (control_part entries) w.spawner ▹ child) same_began w.child_address

    next_address : address (control_part entries) spawned.next ≡ address (control_part entries) w.spawner ▹ next
    next_address = subst (λ (b : Spawned). address (control_part entries) b.next ≡ address (control_part entries) w.spawner ▹ next) same_began w.next_address

    of_strand : IsPrefix (address (control_part entries) spawned.child) (address (control_part entries) strand)
    of_strand = subst (λ (x : ℕ). IsPrefix (address (control_part entries) x) (address (control_part entries) strand)) at_child c.one_begins

    of_other : IsPrefix (address (control_part entries) spawned.next) (address (control_part entries) other)
    of_other = subst (λ (x : ℕ). IsPrefix (address (control_part entries) x) (address (control_part entries) other)) at_next c.two_begins

-- two words are the sides of a spawn, or nothing behind them is parallel
word_cases : (x y : Word) → (parallel (x ∷ []) (y ∷ []) ≡ false) ⊎ (((x ≡ child) × (y ≡ next)) ⊎ ((y ≡ child) × (x ≡ next)))
word_cases child child = inl refl
word_cases child next = inr (inl (refl, refl))
word_cases child join = inl refl
word_cases next child = inr (inr (refl, refl))
word_cases next next = inl refl
word_cases next join = inl refl
word_cases join child = inl refl
word_cases join next = inl refl
word_cases join join = inl refl

-- the climbs came by what one spawn made, but not by its child and its next
pub no_sides : (entries : Entries) → Legal (control_part entries) → (one two : ℕ) → one < unused (control_part entries) →
    two < unused (control_part entries) → 0 < maker entries one → maker entries one ≡ maker entries two → (spawner : ℕ) (spawned : Spawned) →
    IsSpawn entries (maker entries one) spawner spawned → (one ≡ spawned.child → two ≡ spawned.next → ⊥) →
    (two ≡ spawned.child → one ≡ spawned.next → ⊥) → parallel (address (control_part entries) one) (address (control_part entries) two) ≡ false
no_sides entries l one two known also some alike spawner spawned is not_these nor_these = go (word_cases w.word v.word)
  where
    w : Made entries (control_part entries) (maker entries) one
    w = made entries l one known some

    v : Made entries (control_part entries) (maker entries) two
    v = made entries l two also (omega arith)

    of_one : (w.spawner ≡ spawner) × (w.began ≡ spawned)
    of_one = same_spawn entries (maker entries one) w.spawner spawner w.began spawned w.spawn is

    of_two : (v.spawner ≡ spawner) × (v.began ≡ spawned)
    of_two = same_spawn entries (maker entries one) v.spawner spawner v.began spawned
        (subst (λ (n : ℕ). IsSpawn entries n v.spawner v.began) (sym alike) v.spawn) is

    one_at : address (control_part entries) one ≡ address (control_part entries) spawner ▹ w.word
    one_at = w.own_address ∙ ap (λ (s : ℕ). address (control_part entries) s ▹ w.word) of_one.0

    two_at : address (control_part entries) two ≡ address (control_part entries) spawner ▹ v.word
    two_at = v.own_address ∙ ap (λ (s : ℕ). address (control_part entries) s ▹ v.word) of_two.0

    child_at : address (control_part entries) spawned.child ≡ address (control_part entries) spawner ▹ child
    child_at = subst (λ (b : Spawned). address (control_part entries) b.child ≡ address (control_part entries) spawner ▹ child) of_one.1
        (w.child_address ∙ ap (λ (s : ℕ). address (control_part entries) s ▹ child) of_one.0)

    next_at : address (control_part entries) spawned.next ≡ address (control_part entries) spawner ▹ next
    next_at = subst (λ (b : Spawned). address (control_part entries) b.next ≡ address (control_part entries) spawner ▹ next) of_one.1
        (w.next_address ∙ ap (λ (s : ℕ). address (control_part entries) s ▹ next) of_one.0)

    child_known : spawned.child < unused (control_part entries)
    child_known = subst (λ (b : Spawned). b.child < unused (control_part entries)) of_one.1 w.child_known

    next_known : spawned.next < unused (control_part entries)
    next_known = subst (λ (b : Spawned). b.next < unused (control_part entries)) of_one.1 w.next_known

    is_child : (x : ℕ) (word : Word) → x < unused (control_part entries) → address (control_part entries) x ≡ address (control_part entries) spawner ▹ word →
        word ≡ child → x ≡ spawned.child
    is_child x word lt stands e = (addresses l).distinct x spawned.child lt child_known (stands ∙ (ap (λ (z : Word). address (control_part entries) spawner ▹ z) e ∙ sym child_at))

    is_next : (x : ℕ) (word : Word) → x < unused (control_part entries) → address (control_part entries) x ≡ address (control_part entries) spawner ▹ word →
        word ≡ next → x ≡ spawned.next
    is_next x word lt stands e = (addresses l).distinct x spawned.next lt next_known (stands ∙ (ap (λ (z : Word). address (control_part entries) spawner ▹ z) e ∙ sym next_at))

    go : (parallel (w.word ∷ []) (v.word ∷ []) ≡ false) ⊎ (((w.word ≡ child) × (v.word ≡ next)) ⊎ ((v.word ≡ child) × (w.word ≡ next))) →
        parallel (address (control_part entries) one) (address (control_part entries) two) ≡ false
    go (inl e) = ap (λ (z : Address). parallel z (address (control_part entries) two)) one_at ∙
        (ap (parallel (address (control_part entries) spawner ▹ w.word)) two_at ∙ (parallel-append (address (control_part entries) spawner) (w.word ∷ []) (v.word ∷ []) ∙ e))
    go (inr (inl t)) = absurd (not_these (is_child one w.word known one_at t.0) (is_next two v.word also two_at t.1))
    go (inr (inr t)) = absurd (nor_these (is_child two v.word also two_at t.0) (is_next one w.word known one_at t.1))

-- both climbs came to strand 0
pub at_root : (entries : Entries) → Legal (control_part entries) → (one two : ℕ) → one < unused (control_part entries) →
    two < unused (control_part entries) → maker entries one ≡ 0 → maker entries two ≡ 0 →
    parallel (address (control_part entries) one) (address (control_part entries) two) ≡ false
at_root entries l one two known also none neither =
    let same : one ≡ two = root one known none ∙ sym (root two also neither) in
    subst (λ (x : ℕ). parallel (address (control_part entries) one) (address (control_part entries) x) ≡ false) same
    (parallel-self (address (control_part entries) one))
  where
    root : (x : ℕ) → x < unused (control_part entries) → maker entries x ≡ 0 → x ≡ 0
    root x lt e = elim (origins entries l x lt) [ inl t ↦ t.0 | inr w ↦ absurd (let up : maker entries w.spawner < maker entries x = w.earlier in omega arith) ]
