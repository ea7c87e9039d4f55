-- Where two strands part: at one spawn at most, and at one where they are parallel.
-- A, B: addresses of spawners; es: the entries; s, o: strands; p, q: spawns at which they part
use Rattle.std.proofs.Common.{◌≡◌, ◌⊎◌, inl, inr, ℕ, zero, suc, ◌+◌, ◌<◌, ◌≤◌, Bool, false, [], ◌∷◌, ◌++◌, length, Option, Some, None, refl, sym, ap, ◌∙◌, subst, arith}
use Rattle.std.proofs.lemmas.Bool.{cases_Bool, false≢true}
use Rattle.model_strands.specs.Address.{Word, child, next, Address}
use Rattle.model_strands.specs.declared.spawned.Spawned.{Spawned}
use Rattle.model_strands.specs.History.{Event, split, same, joined, waits, call, resumed, ended, ended_joined, finished, History}
use Rattle.model_strands.specs.Strands.{Begun, unused}
use Rattle.model_strands.specs.Legal.{Legal, then}
use Rattle.model_strands.specs.Dag.{Reaches, IsParallel}
use Rattle.model_strands.specs.Addresses.{address}
use Rattle.law_addresses.specs.Address.{reaches, IsPrefix}
use Rattle.law_addresses.proofs.Extensions.{reaches-side}
use Rattle.law_addresses.proofs.Relations.{is_prefix-decides}
use Rattle.law_strands.proofs.Addresses.{addresses}
use Rattle.law_strands.proofs.Law.{reach_precedes, precedes_reach, begun_below}
use Rattle.law_strands.proofs.Leads.{path_then}
use Rattle.law_strands.proofs.Places.{below_or_beyond}
use Rattle.law_strands.proofs.Range.{ranges, numbered}
use Rattle.law_strands.proofs.Updates.{same_or_not}
use Rattle.law_strands.proofs.Words.{◌▹◌}
use Rattle.model_histories.specs.Entries.{Entries, event_of, with_event, control_part}
use Rattle.race_pairs.specs.declared.lineage.Parting.{Parting}
use Rattle.race_pairs.specs.Makers.{IsSpawn, with_maker, maker}
use Rattle.race_pairs.specs.Climbs.{Climbs}
use Rattle.race_pairs.specs.Partings.{IsParting}
use Rattle.race_pairs.proofs.Made.{Made, maker_new, maker_old, legal_rest}
use Rattle.race_pairs.proofs.Climbing.{number_within, same_spawn, made, climbs_first}
use Rattle.race_pairs.proofs.Parted.{some_spawn, climb_one, climb_two, root_told, beside_told, sided, sided_turned}

-- Addresses.

same_fork : (A B x y z w : Address) (a b c d : Word) → (a ≡ b → ⊥) → (c ≡ d → ⊥) → (A ▹ a) ++ x ≡ (B ▹ c) ++ z → (A ▹ b) ++ y ≡ (B ▹ d) ++ w → A ≡ B
same_fork [] [] x y z w a b c d ab cd e f = refl
same_fork [] (v ∷ B) x y z w a b c d ab cd e f =
    let one : a ≡ v = cc in
    let two : b ≡ v = cc in
    absurd (ab (one ∙ sym two))
same_fork (v ∷ A) [] x y z w a b c d ab cd e f =
    let one : v ≡ c = cc in
    let two : v ≡ d = cc in
    absurd (cd (sym one ∙ two))
same_fork (u ∷ A) (v ∷ B) x y z w a b c d ab cd e f =
    let one : (A ▹ a) ++ x ≡ (B ▹ c) ++ z = cc in
    let two : (A ▹ b) ++ y ≡ (B ▹ d) ++ w = cc in
    let rest : A ≡ B = same_fork A B x y z w a b c d ab cd one two in
    cc

child_next : child ≡ next → ⊥
child_next e = cc

-- The child of a spawn.

-- what later entries leave of a strand
later : (event : Option Event) (h : History) (m : ℕ → ℕ) (k : ℕ) → Legal (with_event event h) → (x : ℕ) → x < unused h →
    (with_maker event k m x ≡ m x) × (x < unused (with_event event h))
later (Some (split s c n j first)) h m k (then l a) x lt =
    (maker_old h s c n j k first m a x lt, let grows = (numbered h s c n j first (ranges l) a).grows in omega (arith, lt, grows))
later (Some (same s)) h m k l x lt = (refl, lt)
later (Some (joined s j)) h m k l x lt = (refl, lt)
later (Some (waits s)) h m k l x lt = (refl, lt)
later (Some (call s)) h m k l x lt = (refl, lt)
later (Some (resumed s)) h m k l x lt = (refl, lt)
later (Some (ended s)) h m k l x lt = (refl, lt)
later (Some (ended_joined s j)) h m k l x lt = (refl, lt)
later (Some (finished s)) h m k l x lt = (refl, lt)
later None h m k l x lt = (refl, lt)

newest : (h : History) (s c n j k : ℕ) (first : Bool) (m : ℕ → ℕ) → Legal (split s c n j first ∷ h) →
    (with_maker (Some (split s c n j first)) k m c ≡ k) × (c < unused (split s c n j first ∷ h))
newest h s c n j k first m (then l a) =
    let w = numbered h s c n j first (ranges l) a in
    (maker_new s c n j k first m child (λ e. absurd (cc)), omega (arith, w.child_is, w.grows))

pub child_made : (es : Entries) → Legal (control_part es) → (number s : ℕ) (b : Spawned) → IsSpawn es number s b →
    (maker es b.child ≡ number) × (b.child < unused (control_part es))
child_made [] l number s b is = absurd is.1
child_made (entry ∷ es) l number s b (one, inl k, asked, began) =
    let event : event_of one ≡ Some (split one.request.strand b.child b.next b.join b.first) = rw (began.0, began.1) refl in
    let here : event_of entry ≡ Some (split one.request.strand b.child b.next b.join b.first) = ap event_of (sym k.1) ∙ event in
    let legal : Legal (split one.request.strand b.child b.next b.join b.first ∷ control_part es) =
    subst (λ (o : Option Event). Legal (with_event o (control_part es))) here l in
    let t = newest (control_part es) one.request.strand b.child b.next b.join (suc (length es)) b.first (maker es) legal in (
      ap (λ (o : Option Event). with_maker o (suc (length es)) (maker es) b.child) here ∙ (t.0 ∙ sym k.0),
      subst (λ (o : Option Event). b.child < unused (with_event o (control_part es))) (sym here) t.1,
    )
child_made (entry ∷ es) l number s b (one, inr k, asked, began) =
    let old = child_made es (legal_rest (event_of entry) (control_part es) l) number s b (one, k, asked, began) in
    let t = later (event_of entry) (control_part es) (maker es) (suc (length es)) l b.child old.1 in
    (t.0 ∙ old.0, t.1)

-- what is known of a spawn
pub record OfSpawn (es : Entries) (number s : ℕ) (b : Spawned) : Type 0 where
  pub spawner_known : s < unused (control_part es)
  pub child_known : b.child < unused (control_part es)
  pub child_maker : maker es b.child ≡ number
  pub child_begun : Begun (control_part es) b.child
  pub next_begun : Begun (control_part es) b.next
  pub child_address : address (control_part es) b.child ≡ address (control_part es) s ▹ child
  pub next_address : address (control_part es) b.next ≡ address (control_part es) s ▹ next

pub of_spawn : (es : Entries) → Legal (control_part es) → (number s : ℕ) (b : Spawned) → IsSpawn es number s b → OfSpawn es number s b
of_spawn es l number s b is = go (made es l b.child t.1 (omega (arith, t.0, some)))
  where
    t : (maker es b.child ≡ number) × (b.child < unused (control_part es))
    t = child_made es l number s b is

    some : 0 < number
    some = (number_within es number is.0 is.1).0

    go : Made es (control_part es) (maker es) b.child → OfSpawn es number s b
    go w =
        let alike = same_spawn es number w.spawner s w.began b (subst (λ (n : ℕ). IsSpawn es n w.spawner w.began) t.0 w.spawn) is in
        let at : address (control_part es) w.spawner ≡ address (control_part es) s = ap (address (control_part es)) alike.0 in
        record {
          spawner_known = omega (arith, alike.0, w.spawner_known);
          child_known = t.1;
          child_maker = t.0;
          child_begun = subst (λ (z : Spawned). Begun (control_part es) z.child) alike.1 w.child_begun;
          next_begun = subst (λ (z : Spawned). Begun (control_part es) z.next) alike.1 w.next_begun;
          child_address = subst (λ (z : Spawned). address (control_part es) z.child ≡ address (control_part es) s ▹ child) alike.1
              (w.child_address ∙ ap (λ a. a ▹ child) at);
          next_address = subst (λ (z : Spawned). address (control_part es) z.next ≡ address (control_part es) s ▹ next) alike.1
              (w.next_address ∙ ap (λ a. a ▹ next) at);
        }

-- One spawn at most.

-- the two strands go on from the spawner by two words
pub record Forks (es : Entries) (s o : ℕ) (p : Parting) : Type 0 where
  pub a : Word
  pub b : Word
  pub apart : a ≡ b → ⊥
  pub one : IsPrefix (address (control_part es) p.spawner ▹ a) (address (control_part es) s)
  pub two : IsPrefix (address (control_part es) p.spawner ▹ b) (address (control_part es) o)

misses : (es : Entries) → Legal (control_part es) → (x y : ℕ) (a : Address) → Begun (control_part es) x → Begun (control_part es) y →
    address (control_part es) x ≡ a → (Reaches (control_part es) x y → ⊥) → reaches a (address (control_part es) y) ≡ false
misses es l x y a bx by stands none = elim (cases_Bool (reaches a (address (control_part es) y))) [
  | inl e ↦ absurd (none (precedes_reach (control_part es) l x y bx by (ap (λ (z : Address). reaches z (address (control_part es) y)) stands ∙ e)))
  | inr e ↦ e
]

-- the one strand came by the next
pub next_begins : (es : Entries) → Legal (control_part es) → (s o : ℕ) (p : Parting) → IsParting es s o p → Begun (control_part es) p.by_next →
    IsPrefix (address (control_part es) p.spawner ▹ next) (address (control_part es) p.by_next)
next_begins es l s o p is begun =
    let m : OfSpawn es p.entry p.spawner p.spawned = of_spawn es l p.entry p.spawner p.spawned is.spawn in
    let h = control_part es in
    (is_prefix-decides (address h p.spawner ▹ next) (address h p.by_next)).0 (reaches-side next refl (address h p.spawner) (address h p.by_next)
    (ap (λ (z : Address). reaches z (address h p.by_next)) (sym m.next_address) ∙ reach_precedes h l p.spawned.next p.by_next is.next_reaches)
    (misses es l p.spawned.child p.by_next (address h p.spawner ▹ child) m.child_begun begun m.child_address is.child_misses))

forks : (es : Entries) → Legal (control_part es) → (s o : ℕ) → Begun (control_part es) s → Begun (control_part es) o → (p : Parting) → IsParting es s o p →
    Forks es s o p
forks es l s o bs bo p is = go is.sides
  where
    m : OfSpawn es p.entry p.spawner p.spawned
    m = of_spawn es l p.entry p.spawner p.spawned is.spawn

    at : ℕ → Address
    at x = address (control_part es) x

    by_child_begun : Begun (control_part es) p.by_child
    by_child_begun = elim is.sides [ inl t ↦ subst (Begun (control_part es)) (sym t.0) bs | inr t ↦ subst (Begun (control_part es)) (sym t.0) bo ]

    by_next_begun : Begun (control_part es) p.by_next
    by_next_begun = elim is.sides [ inl t ↦ subst (Begun (control_part es)) (sym t.1) bo | inr t ↦ subst (Begun (control_part es)) (sym t.1) bs ]

    begins_child : IsPrefix (at p.spawner ▹ child) (at p.by_child)
    begins_child = (is_prefix-decides (at p.spawner ▹ child) (at p.by_child)).0 (reaches-side child refl (at p.spawner) (at p.by_child)
        (ap (λ (z : Address). reaches z (at p.by_child)) (sym m.child_address) ∙ reach_precedes (control_part es) l p.spawned.child p.by_child is.child_reaches)
        (misses es l p.spawned.next p.by_child (at p.spawner ▹ next) m.next_begun by_child_begun m.next_address is.next_misses))

    begins_next : IsPrefix (at p.spawner ▹ next) (at p.by_next)
    begins_next = next_begins es l s o p is by_next_begun

    go : ((p.by_child ≡ s) × (p.by_next ≡ o)) ⊎ ((p.by_child ≡ o) × (p.by_next ≡ s)) → Forks es s o p
    go (inl t) = record {
      a = child;
      b = next;
      apart = child_next;
      one = subst (λ (x : ℕ). IsPrefix (at p.spawner ▹ child) (at x)) t.0 begins_child;
      two = subst (λ (x : ℕ). IsPrefix (at p.spawner ▹ next) (at x)) t.1 begins_next;
    }
    go (inr t) = record {
      a = next;
      b = child;
      apart = λ e. child_next (sym e);
      one = subst (λ (x : ℕ). IsPrefix (at p.spawner ▹ next) (at x)) t.1 begins_next;
      two = subst (λ (x : ℕ). IsPrefix (at p.spawner ▹ child) (at x)) t.0 begins_child;
    }

pub one_parting : (es : Entries) → Legal (control_part es) → (s o : ℕ) → Begun (control_part es) s → Begun (control_part es) o → (p q : Parting) →
    IsParting es s o p → IsParting es s o q → p.entry ≡ q.entry
one_parting es l s o bs bo p q is also =
    let h = control_part es in
    let f = forks es l s o bs bo p is in
    let g = forks es l s o bs bo q also in
    let m = of_spawn es l p.entry p.spawner p.spawned is.spawn in
    let n = of_spawn es l q.entry q.spawner q.spawned also.spawn in
    let at : address h p.spawner ≡ address h q.spawner =
    same_fork (address h p.spawner) (address h q.spawner) f.one.0 f.two.0 g.one.0 g.two.0 f.a f.b g.a g.b f.apart g.apart
    (sym f.one.1 ∙ g.one.1) (sym f.two.1 ∙ g.two.1) in
    let children : address h p.spawned.child ≡ address h q.spawned.child = m.child_address ∙ (ap (λ a. a ▹ child) at ∙ sym n.child_address) in
    let child_is : p.spawned.child ≡ q.spawned.child = (addresses l).distinct p.spawned.child q.spawned.child m.child_known n.child_known children in
    sym m.child_maker ∙ (ap (maker es) child_is ∙ n.child_maker)

-- strands that part are parallel
pub parting_parallel : (es : Entries) (s o : ℕ) (p : Parting) → IsParting es s o p → IsParallel (control_part es) s o
parting_parallel es s o p is = go is.sides
  where
    forth : Reaches (control_part es) p.by_child p.by_next → ⊥
    forth r = is.child_misses (path_then is.child_reaches r)

    back : Reaches (control_part es) p.by_next p.by_child → ⊥
    back r = is.next_misses (path_then is.next_reaches r)

    go : ((p.by_child ≡ s) × (p.by_next ≡ o)) ⊎ ((p.by_child ≡ o) × (p.by_next ≡ s)) → IsParallel (control_part es) s o
    go (inl t) = (
      λ r. forth (subst (λ (x : ℕ). Reaches (control_part es) x p.by_next) (sym t.0) (subst (Reaches (control_part es) s) (sym t.1) r)),
      λ r. back (subst (λ (x : ℕ). Reaches (control_part es) x p.by_child) (sym t.1) (subst (Reaches (control_part es) o) (sym t.0) r)),
    )
    go (inr t) = (
      λ r. back (subst (λ (x : ℕ). Reaches (control_part es) x p.by_child) (sym t.1) (subst (Reaches (control_part es) s) (sym t.0) r)),
      λ r. forth (subst (λ (x : ℕ). Reaches (control_part es) x p.by_next) (sym t.0) (subst (Reaches (control_part es) o) (sym t.1) r)),
    )

-- One spawn where they are parallel.

both : {P Q : Type 0} → P ⊎ (P → ⊥) → Q ⊎ (Q → ⊥) → (P × Q) ⊎ (P → Q → ⊥)
both (inl p) (inl q) = inl (p, q)
both (inl p) (inr neither) = inr (λ x y. neither y)
both (inr neither) other = inr (λ x y. neither x)

abbrev pub SomeParting : Entries → ℕ → ℕ → Type 0
SomeParting es s o = ((p : Parting) × IsParting es s o p) ⊎ ((p : Parting) → IsParting es s o p → ⊥)

module _ (es : Entries) (l : Legal (control_part es)) (s o : ℕ) (bs : Begun (control_part es) s) (bo : Begun (control_part es) o) where
  none_parts : (IsParallel (control_part es) s o → ⊥) → SomeParting es s o
  none_parts serial = inr (λ p is. serial (parting_parallel es s o p is))

  -- where both climbs come to what one entry made
  meet : (one two : ℕ) → Climbs es s o one two → maker es one ≡ maker es two → SomeParting es s o
  meet one two c alike = at_root (below_or_beyond 0 (maker es one))
    where
      at_spawn : 0 < maker es one → (spawner : ℕ) (b : Spawned) → IsSpawn es (maker es one) spawner b →
          ((one ≡ b.child) × (two ≡ b.next)) ⊎ (one ≡ b.child → two ≡ b.next → ⊥) → ((two ≡ b.child) × (one ≡ b.next)) ⊎ (two ≡ b.child → one ≡ b.next → ⊥) →
          SomeParting es s o
      at_spawn some spawner b is (inl t) other =
          let found = (sided es l s o one two c bs bo some spawner b is t.0 t.1).0 in
          inl (
            record { entry = maker es one; spawner = spawner; spawned = b; by_child = s; by_next = o },
            record {
              spawn = is;
              sides = inl (refl, refl);
              child_reaches = found.child_reaches;
              next_reaches = found.next_reaches;
              child_misses = found.child_misses;
              next_misses = found.next_misses;
            },
          )
      at_spawn some spawner b is (inr not_these) (inl t) =
          let found = (sided_turned es l s o one two c bs bo alike some spawner b is t.0 t.1).0 in
          inl (
            record { entry = maker es one; spawner = spawner; spawned = b; by_child = o; by_next = s },
            record {
              spawn = is;
              sides = inr (refl, refl);
              child_reaches = found.child_reaches;
              next_reaches = found.next_reaches;
              child_misses = found.child_misses;
              next_misses = found.next_misses;
            },
          )
      at_spawn some spawner b is (inr not_these) (inr nor_these) =
          none_parts (λ p. false≢true ((beside_told es l s o one two c bs bo alike some spawner b is not_these nor_these).1 p))

      at_root : (0 < maker es one) ⊎ (maker es one ≤ 0) → SomeParting es s o
      at_root (inl some) =
          let t = some_spawn es l one c.one_known some in
          at_spawn some t.0 t.1 t.2 (both (same_or_not one t.1.child) (same_or_not two t.1.next)) (both (same_or_not two t.1.child) (same_or_not one t.1.next))
      at_root (inr zero_is) =
          none_parts (λ p. false≢true ((root_told es l s o one two c bs bo alike (omega (arith, zero_is))).1 p))

  climbing : (bound one two : ℕ) → Climbs es s o one two → maker es one + maker es two < bound → SomeParting es s o
  climbing zero one two c low = absurd (omega (arith, low))
  climbing (suc bound) one two c low =
      go (λ x y more less. climbing bound x y more less) (below_or_beyond (maker es one) (maker es two)) (below_or_beyond (maker es two) (maker es one))
    where
      go : ((x y : ℕ) → Climbs es s o x y → maker es x + maker es y < bound → SomeParting es s o) →
          (maker es one < maker es two) ⊎ (maker es two ≤ maker es one) → (maker es two < maker es one) ⊎ (maker es one ≤ maker es two) → SomeParting es s o
      go on (inl lt) other =
          let t = some_spawn es l two c.two_known (omega (arith, lt)) in
          let up = climb_two es l s o one two c lt t.0 t.1 t.2 in
          on one t.0 up.0 (omega (arith, low, up.1))
      go on (inr ge) (inl lt) =
          let t = some_spawn es l one c.one_known (omega (arith, lt)) in
          let up = climb_one es l s o one two c lt t.0 t.1 t.2 in
          on t.0 two up.0 (omega (arith, low, up.1))
      go on (inr ge) (inr le) = meet one two c (omega (arith, ge, le))

  pub some_parting : SomeParting es s o
  some_parting =
      climbing (suc (maker es s + maker es o)) s o
      (climbs_first es s o (begun_below (control_part es) (ranges l) s bs) (begun_below (control_part es) (ranges l) o bo)) (omega arith)
