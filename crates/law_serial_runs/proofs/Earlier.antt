-- What has been current has begun, and is before the current strand in the English order; so the Hebrew order tells whether it is parallel.
use Rattle.std.proofs.Common.{◌≡◌, ◌≢◌, ◌⊎◌, ◌↔◌, inl, inr, ℕ, ◌<◌, true, [], ◌∷◌, ◌++◌, append_assoc, Contains, refl, sym, ap, ◌∙◌, subst, subst₂, arith}
use Rattle.model_strands.specs.Address.{Word, child, next, join, Address}
use Rattle.model_strands.specs.Addresses.{address}
use Rattle.model_strands.specs.History.{Event, split, same, joined, waits, call, resumed, ended, ended_joined, finished, History}
use Rattle.model_strands.specs.Strands.{Begun}
use Rattle.model_strands.specs.Legal.{Allowed, sync_joined, child_return, Legal, start, then}
use Rattle.model_strands.specs.Dag.{stay, Reaches, IsParallel}
use Rattle.model_strands.specs.Extensions.{IsFinished}
use Rattle.law_addresses.specs.Address.{english, english_before, hebrew_before, parallel, IsPrefix, PartBy}
use Rattle.law_addresses.proofs.Differences.{first_difference-shorter}
use Rattle.law_addresses.proofs.Relations.{parallel-decides, before-decides}
use Rattle.law_addresses.proofs.Orders.{english-total, hebrew-total}
use Rattle.law_strands.specs.Addresses.{IsHebrewBefore}
use Rattle.law_strands.proofs.Updates.{same_or_not}
use Rattle.law_strands.proofs.Words.{◌▹◌, prefix_refl, english_asymmetric}
use Rattle.law_strands.proofs.Range.{ranges, numbered, child_seen}
use Rattle.law_strands.proofs.Law.{begun_below}
use Rattle.law_strands.proofs.Kept.{address_stays, begun_stays}
use Rattle.law_strands.proofs.Orders.{parallel_iff, orders_law}
use Rattle.model_serial_runs.specs.Current.{strand_of, current, IsSerial}
use Rattle.law_serial_runs.specs.Turns.{HasRun}
use Rattle.law_serial_runs.specs.Spawns.{PartAtSpawn, IsInChild, passed_spawners}
use Rattle.law_serial_runs.specs.Laws.{IsEarlier, SerialParallelLaw, HebrewLastLaw, SpansLaw}
use Rattle.law_serial_runs.proofs.Passed.{parted_english, word_behind, passed_law}
use Rattle.law_serial_runs.proofs.Runs.{Runs}
use Rattle.law_serial_runs.proofs.Steps.{runs_of, runs_before, returning, over_at_end}
use Rattle.law_serial_runs.proofs.Ends.{ending}

finished_or_not : (history : History) → IsFinished history ⊎ (IsFinished history → ⊥)
finished_or_not [] = inr (λ f. f)
finished_or_not (finished s ∷ h) = inl tt
finished_or_not (split s c n j first ∷ h) = inr (λ f. f)
finished_or_not (same s ∷ h) = inr (λ f. f)
finished_or_not (joined s j ∷ h) = inr (λ f. f)
finished_or_not (waits s ∷ h) = inr (λ f. f)
finished_or_not (call s ∷ h) = inr (λ f. f)
finished_or_not (resumed s ∷ h) = inr (λ f. f)
finished_or_not (ended s ∷ h) = inr (λ f. f)
finished_or_not (ended_joined s j ∷ h) = inr (λ f. f)

pub current_begun : {h : History} → Legal h → IsSerial h → Begun h (current h)
current_begun {h} l r = elim (finished_or_not h) [ inl f ↦ inr (over_at_end l r f) | inr nf ↦ inl (runs_of l r nf).runs ]

-- an event moves the run on in the English order, or leaves it where it is
module _ {h : History} (l : Legal h) (r : Runs h) where
  moves : (event : Event) → Allowed h event → strand_of event ≡ current h →
      (current (event ∷ h) ≡ current h) ⊎ (english_before (address h (current h)) (address (event ∷ h) (current (event ∷ h))) ≡ true)
  moves (split s c n j first) a at =
      inr (subst₂ (λ y z. english_before y z ≡ true) (ap (address h) at)
      (sym (child_seen h s c n j first (numbered h s c n j first (ranges l) a)).2)
      (ahead (address h s)))
    where
      ahead : (at : Address) → english_before at (at ▹ child) ≡ true
      ahead at = rw (first_difference-shorter at child []) refl
  moves (joined s j) (sync_joined {below = below} run st none) at =
      let ends = ending l s j below st in
      inr (subst (λ z. english_before (address h z) (address h j) ≡ true) at
      (parted_english ends.opener next join (address h s) (address h j) (omega arith) ends.behind_next
      (subst (IsPrefix (ends.opener ▹ join)) (sym ends.join_address) (prefix_refl (ends.opener ▹ join)))))
  moves (ended s) (child_return {number = m} {join = j} run st last) at =
      let back = returning l r s at m j st in
      let spawner : Address = address h back.spawn.spawner in
      inr (subst₂ (λ y z. english_before (address h y) (address h z) ≡ true) at (sym back.goes_on)
      (parted_english spawner child next (address h s) (address h back.spawn.next_strand) (omega arith) (_, back.last_address)
      (subst (IsPrefix (spawner ▹ next)) (sym back.next_address) (prefix_refl (spawner ▹ next)))))
  moves (same s) a at = inl refl
  moves (waits s) a at = inl refl
  moves (call s) a at = inl refl
  moves (resumed s) a at = inl refl
  moves (ended_joined s j) a at = inl refl
  moves (finished s) a at = inl refl

-- it is the current strand or before it
abbrev pub IsBehind : History → ℕ → Type 0
IsBehind history strand =
    Begun history strand × ((strand ≡ current history) ⊎ (english_before (address history strand) (address history (current history)) ≡ true))

carried : {h : History} {e : Event} → Legal h → Legal (e ∷ h) → Begun h (current h) →
    (current (e ∷ h) ≡ current h) ⊎ (english_before (address h (current h)) (address (e ∷ h) (current (e ∷ h))) ≡ true) →
    (strand : ℕ) → IsBehind h strand → IsBehind (e ∷ h) strand
carried {h} {e} l l' bc move x (b, before) = (begun_stays l' x b, go move before)
  where
    stays : (one : ℕ) → Begun h one → address (e ∷ h) one ≡ address h one
    stays y by = address_stays l' y (begun_below h (ranges l) y by)

    go : (current (e ∷ h) ≡ current h) ⊎ (english_before (address h (current h)) (address (e ∷ h) (current (e ∷ h))) ≡ true) →
        (x ≡ current h) ⊎ (english_before (address h x) (address h (current h)) ≡ true) →
        (x ≡ current (e ∷ h)) ⊎ (english_before (address (e ∷ h) x) (address (e ∷ h) (current (e ∷ h))) ≡ true)
    go (inl e) (inl i) = inl (i ∙ sym e)
    go (inl i) (inr k) = inr (subst₂ (λ y z. english_before y z ≡ true) (sym (stays x b)) (sym (ap (address (e ∷ h)) i ∙ stays (current h) bc)) k)
    go (inr k) (inl i) = inr (subst (λ z. english_before z (address (e ∷ h) (current (e ∷ h))) ≡ true) (sym (stays x b ∙ ap (address h) i)) k)
    go (inr k) (inr m) = inr (subst (λ z. english_before z (address (e ∷ h) (current (e ∷ h))) ≡ true) (sym (stays x b))
        (english-total.transitive (address h x) (address h (current h)) (address (e ∷ h) (current (e ∷ h))) m k))

pub behind : {h : History} → Legal h → IsSerial h → (strand : ℕ) → HasRun h strand → IsBehind h strand
behind start r x e = (subst (Begun []) (sym e) (current_begun start r), inl e)
behind (then {history = h} {event = e} l a) r x (inl is) = (subst (Begun (e ∷ h)) (sym is) (current_begun (then l a) r), inl is)
behind (then {history = h} {event = e} l a) r x (inr k) =
    carried l (then l a) (current_begun l r.1) (moves l (runs_before (then l a) r) e a r.0) x (behind l r.1 x k)

-- Parallel, by the orders

part_of : (a b : Address) → english_before a b ≡ true → (parallel a b ≡ true) ↔ PartAtSpawn a b
part_of a b early = (
  (λ p. go ((parallel-decides a b).0 p)),
  (λ (front, rest_a, rest_b, word, other, is_a, is_b, sides). (parallel-decides a b).1 (front, rest_a, rest_b, word, other, is_a, is_b, inl sides)),
)
  where
    late : (front rest_a rest_b : Address) (word other : Word) → a ≡ front ++ (word ∷ rest_a) → b ≡ front ++ (other ∷ rest_b) → word ≡ next → other ≡ child →
        english_before b a ≡ true
    late p u v w x is_a is_b wn xc =
        let lower : english x < english w = subst₂ (λ y z. english y < english z) (sym xc) (sym wn) (omega arith) in
        (before-decides english b a).1 (inr (p, v, u, x, w, is_b, is_a, lower))

    go : PartBy (λ word other. ((word ≡ child) × (other ≡ next)) ⊎ ((word ≡ next) × (other ≡ child))) a b → PartAtSpawn a b
    go (front, rest_a, rest_b, word, other, is_a, is_b, inl sides) = (front, rest_a, rest_b, word, other, is_a, is_b, sides)
    go (front, rest_a, rest_b, word, other, is_a, is_b, inr sides) =
        absurd (english_asymmetric a b early (late front rest_a rest_b word other is_a is_b sides.0 sides.1))

pub earlier_of : {h : History} → Legal h → (strand other : ℕ) → Begun h strand → Begun h other → strand ≢ other →
    english_before (address h strand) (address h other) ≡ true → IsEarlier h strand other
earlier_of {h} l x y bx by ne early =
    let tests = parallel_iff h l x y bx by in
    let parts = part_of (address h x) (address h y) early in
    let orders = (orders_law h l x y bx by ne).1 in
    record {
      begun = bx;
      english = early;
      parts = (λ p. parts.0 (tests.0 p), λ t. tests.1 (parts.1 t));
      hebrew = (
        (λ p. elim (orders.0 p) [ inl t ↦ t.1 | inr t ↦ absurd (english_asymmetric (address h x) (address h y) early t.0) ]),
        (λ t. orders.1 (inl (early, t))),
      );
    }

pub serial_parallel_law : SerialParallelLaw
serial_parallel_law h l r x k ne =
    let t = behind l r x k in
    elim t.1 [ inl e ↦ absurd (ne e) | inr early ↦ earlier_of l x (current h) t.0 (current_begun l r) ne early ]

parallel_not_self : (history : History) (strand other : ℕ) → IsParallel history strand other → strand ≢ other
parallel_not_self h x y p e = p.0 (subst (Reaches h x) e stay)

pub spans_law : SpansLaw
spans_law h l r x k = (forward, backward)
  where
    a : Address
    a = address h x

    b : Address
    b = address h (current h)

    forward : IsParallel h x (current h) → (spawner : Address) × Contains (passed_spawners b) spawner × IsInChild spawner a
    forward p =
        let e = serial_parallel_law h l r x k (parallel_not_self h x (current h) p) in
        let (front, rest_a, rest_b, word, other, is_a, is_b, sides) = e.parts.0 p in
        (front, (passed_law b front).1 (behind_word front other next rest_b b is_b sides.1), behind_word front word child rest_a a is_a sides.0)
      where
        behind_word : (front : Address) (word is : Word) (rest at : Address) → at ≡ front ++ (word ∷ rest) → word ≡ is → IsPrefix (front ▹ is) at
        behind_word p w v r at e is = (r, e ∙ (ap (λ z. p ++ (z ∷ r)) is ∙ sym (append_assoc p (v ∷ []) r)))

    backward : (spawner : Address) × Contains (passed_spawners b) spawner × IsInChild spawner a → IsParallel h x (current h)
    backward (p, m, t) =
        let (rest_a, is_a) = word_behind p child a t in
        let (rest_b, is_b) = word_behind p next b ((passed_law b p).0 m) in
        (parallel_iff h l x (current h) (behind l r x k).0 (current_begun l r)).1
        ((parallel-decides a b).1 (p, rest_a, rest_b, child, next, is_a, is_b, inl (refl, refl)))

-- Of earlier strands, the last in the Hebrew order decides.
pub hebrew_last_law : HebrewLastLaw
hebrew_last_law h l r x y kx ky order p = go order (same_or_not y (current h))
  where
    -- the current strand is before the one in the Hebrew order
    ahead : IsHebrewBefore h (current h) x
    ahead = (serial_parallel_law h l r x kx (parallel_not_self h x (current h) p)).hebrew.0 p

    go : (x ≡ y) ⊎ IsHebrewBefore h x y → (y ≡ current h) ⊎ (y ≢ current h) → IsParallel h y (current h)
    go (inl e) d = subst (λ z. IsParallel h z (current h)) e p
    go (inr b) (inl e) =
        let loop = hebrew-total.transitive (address h (current h)) (address h x) (address h (current h)) ahead
        (subst (λ z. hebrew_before (address h x) (address h z) ≡ true) e b) in
        absurd (let never = hebrew-total.irreflexive (address h (current h)) in cc)
    go (inr b) (inr ne) =
        (serial_parallel_law h l r y ky ne).hebrew.1 (hebrew-total.transitive (address h (current h)) (address h x) (address h y) ahead b)
