-- Where an address goes on from another, a strand at that other one has split.
use Rattle.std.proofs.Common.{◌≡◌, inl, inr, ℕ, ◌<◌, Bool, [], ◌∷◌, ◌++◌, refl, sym, ap, ◌∙◌, subst}
use Rattle.model_strands.specs.Address.{Word, child, next, Address}
use Rattle.law_addresses.specs.Address.{IsPrefix}
use Rattle.model_strands.specs.History.{Event, split, same, joined, waits, call, resumed, ended, ended_joined, finished, History}
use Rattle.model_strands.specs.Strands.{Begun, unused}
use Rattle.model_strands.specs.Legal.{Legal, start, then}
use Rattle.model_strands.specs.Addresses.{address}
use Rattle.model_strands.specs.SerialOrder.{Splits}
use Rattle.law_strands.proofs.Words.{last_same, prefix_longer, ◌▹◌}
use Rattle.law_strands.proofs.Range.{ranges, child_seen, next_seen, spawner_seen}
use Rattle.law_strands.proofs.Holders.{holders, Splitting, splitting}
use Rattle.law_strands.proofs.Addresses.{Named, named_new, named_old, named, address_kept}
use Rattle.law_strands.proofs.Law.{begun_below}
use Rattle.law_strands.proofs.Kept.{address_stays, begun_stays}

-- what the split has named
pub record SplitFacts (history : History) (strand the_child the_next : ℕ) : Type 0 where
  pub spawner_begun : Begun history strand
  pub child_begun : Begun history the_child
  pub next_begun : Begun history the_next
  pub child_address : address history the_child ≡ address history strand ▹ child
  pub next_address : address history the_next ≡ address history strand ▹ next

facts_stay : {h : History} {e : Event} → Legal (e ∷ h) → Legal h → (strand the_child the_next : ℕ) → SplitFacts h strand the_child the_next →
    SplitFacts (e ∷ h) strand the_child the_next
facts_stay {h} {e} l old s c n f = record {
  spawner_begun = begun_stays l s f.spawner_begun;
  child_begun = begun_stays l c f.child_begun;
  next_begun = begun_stays l n f.next_begun;
  child_address = kept c f.child_begun ∙ (f.child_address ∙ ap (λ z. z ▹ child) (sym (kept s f.spawner_begun)));
  next_address = kept n f.next_begun ∙ (f.next_address ∙ ap (λ z. z ▹ next) (sym (kept s f.spawner_begun)));
}
  where
    kept : (strand : ℕ) → Begun h strand → address (e ∷ h) strand ≡ address h strand
    kept x b = address_stays l x (begun_below h (ranges old) x b)

facts_new : (history : History) (strand the_child the_next the_join : ℕ) (first : Bool) → Splitting history strand the_child the_next the_join first →
    SplitFacts (split strand the_child the_next the_join first ∷ history) strand the_child the_next
facts_new h s c n j first w = record {
  spawner_begun = inr (spawner_seen h s c n j first w.numbers).0;
  child_begun = inl (child_seen h s c n j first w.numbers).0;
  next_begun = inl (next_seen h s c n j first w.numbers).0;
  child_address = (child_seen h s c n j first w.numbers).2 ∙ ap (λ z. z ▹ child) (sym (spawner_seen h s c n j first w.numbers).2);
  next_address = (next_seen h s c n j first w.numbers).2 ∙ ap (λ z. z ▹ next) (sym (spawner_seen h s c n j first w.numbers).2);
}

pub split_facts : {h : History} → Legal h → (strand the_child the_next : ℕ) → Splits h strand the_child the_next → SplitFacts h strand the_child the_next
split_facts start s c n k = absurd k
split_facts (then {history = h} {event = split s' c' n' j first} l a) s c n (inr k) = facts_stay (then l a) l s c n (split_facts l s c n k)
split_facts (then {history = h} {event = split s' c' n' j first} l a) s c n (inl k) =
    subst (λ z. SplitFacts (split s' c' n' j first ∷ h) s c z) (sym k.2) (subst (λ z. SplitFacts (split s' c' n' j first ∷ h) s z n') (sym k.1)
    (subst (λ z. SplitFacts (split s' c' n' j first ∷ h) z c' n') (sym k.0) (facts_new h s' c' n' j first (splitting h s' c' n' j first (ranges l) (holders l) a))))
split_facts (then {history = h} {event = same t} l a) s c n k = facts_stay (then l a) l s c n (split_facts l s c n k)
split_facts (then {history = h} {event = joined t j} l a) s c n k = facts_stay (then l a) l s c n (split_facts l s c n k)
split_facts (then {history = h} {event = waits t} l a) s c n k = facts_stay (then l a) l s c n (split_facts l s c n k)
split_facts (then {history = h} {event = call t} l a) s c n k = facts_stay (then l a) l s c n (split_facts l s c n k)
split_facts (then {history = h} {event = resumed t} l a) s c n k = facts_stay (then l a) l s c n (split_facts l s c n k)
split_facts (then {history = h} {event = ended t} l a) s c n k = facts_stay (then l a) l s c n (split_facts l s c n k)
split_facts (then {history = h} {event = ended_joined t j} l a) s c n k = facts_stay (then l a) l s c n (split_facts l s c n k)
split_facts (then {history = h} {event = finished t} l a) s c n k = facts_stay (then l a) l s c n (split_facts l s c n k)

-- a split by a strand with this address
pub record SplitAt (history : History) (at : Address) : Type 0 where
  pub spawner : ℕ
  pub the_child : ℕ
  pub the_next : ℕ
  pub splits : Splits history spawner the_child the_next
  pub spawner_address : address history spawner ≡ at

at_stays : (history : History) (event : Event) → Legal (event ∷ history) → Legal history → (q : Address) →
    ((strand the_child the_next : ℕ) → Splits history strand the_child the_next → Splits (event ∷ history) strand the_child the_next) → SplitAt history q →
    SplitAt (event ∷ history) q
at_stays h e l old q up t = record {
  spawner = t.spawner;
  the_child = t.the_child;
  the_next = t.the_next;
  splits = up t.spawner t.the_child t.the_next t.splits;
  spawner_address = address_stays l t.spawner (begun_below h (ranges old) t.spawner (split_facts old t.spawner t.the_child t.the_next t.splits).spawner_begun) ∙ t.spawner_address;
}

-- a known address goes on from another one only where a strand with that one split
pub turn_splits : {h : History} → Legal h → (strand : ℕ) → strand < unused h → (q : Address) (word : Word) → IsPrefix (q ▹ word) (address h strand) →
    SplitAt h q
turn_splits start x lt q w p = absurd (none q p.1)
  where
    none : (q : Address) → [] ≡ (q ▹ w) ++ p.0 → ⊥
    none [] e = cc
    none (y ∷ q) e = cc
turn_splits (then {history = h} {event = split s c n j first} l a) x lt q w p = go (λ y k r. turn_splits l y k q w r) (named h s c n j first v x lt)
  where
    v : Splitting h s c n j first
    v = splitting h s c n j first (ranges l) (holders l) a

    stays : SplitAt h q → SplitAt (split s c n j first ∷ h) q
    stays t = at_stays h (split s c n j first) (then l a) l q (λ s' c' n' k. inr k) t

    go : ((other : ℕ) → other < unused h → IsPrefix (q ▹ w) (address h other) → SplitAt h q) → Named h s c n j first x → SplitAt (split s c n j first ∷ h) q
    go old (named_old kn b d o) = stays (old x kn (subst (IsPrefix (q ▹ w)) b p))
    go old (named_new y e f b) = elim (prefix_longer (q ▹ w) (address h s) y (subst (IsPrefix (q ▹ w)) b p)) [
      | inl t ↦ stays (old s v.numbers.spawner_known t)
      | inr t ↦ record {
        spawner = s;
        the_child = c;
        the_next = n;
        splits = inl (refl, refl, refl);
        spawner_address = address_kept h s c n j first v s v.numbers.spawner_known ∙ sym (last_same q (address h s) w y t).0;
      }
    ]
turn_splits (then {history = h} {event = same t} l a) x lt q w p = at_stays h (same t) (then l a) l q (λ s c n k. k) (turn_splits l x lt q w p)
turn_splits (then {history = h} {event = joined t j} l a) x lt q w p = at_stays h (joined t j) (then l a) l q (λ s c n k. k) (turn_splits l x lt q w p)
turn_splits (then {history = h} {event = waits t} l a) x lt q w p = at_stays h (waits t) (then l a) l q (λ s c n k. k) (turn_splits l x lt q w p)
turn_splits (then {history = h} {event = call t} l a) x lt q w p = at_stays h (call t) (then l a) l q (λ s c n k. k) (turn_splits l x lt q w p)
turn_splits (then {history = h} {event = resumed t} l a) x lt q w p = at_stays h (resumed t) (then l a) l q (λ s c n k. k) (turn_splits l x lt q w p)
turn_splits (then {history = h} {event = ended t} l a) x lt q w p = at_stays h (ended t) (then l a) l q (λ s c n k. k) (turn_splits l x lt q w p)
turn_splits (then {history = h} {event = ended_joined t j} l a) x lt q w p =
    at_stays h (ended_joined t j) (then l a) l q (λ s c n k. k) (turn_splits l x lt q w p)
turn_splits (then {history = h} {event = finished t} l a) x lt q w p = at_stays h (finished t) (then l a) l q (λ s c n k. k) (turn_splits l x lt q w p)
