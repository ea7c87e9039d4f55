-- The addresses of a function's strands begin with that of its first strand.
use Rattle.std.proofs.Common.{◌≡◌, ◌⊎◌, inl, inr, ℕ, suc, ◌≤◌, Bool, true, false, ◌||◌, ◌&&◌, eqb, not, [], ◌∷◌, ◌++◌, length, Option, Some, None, refl, sym, ap, ◌∙◌, subst, subst₂, append_assoc, append-nil, arith}
use Rattle.std.proofs.lemmas.Bool.{or_cases, eqb-true}
use Rattle.std.proofs.lemmas.Bool.Decides.{eqb_tells}
use Rattle.model_accesses.specs.declared.kind.Kind.{Kind}
use Rattle.model_strands.specs.Updated.{updated}
use Rattle.model_strands.specs.Address.{Word, child, next, join, Address, extended}
use Rattle.model_strands.specs.Addresses.{address}
use Rattle.model_strands.specs.History.{Event, split, same, joined, waits, call, resumed, ended, ended_joined, finished, History}
use Rattle.law_addresses.specs.Address.{IsPrefix}
use Rattle.law_addresses.proofs.Extremes.{contains-cases}
use Rattle.law_strands.proofs.Updates.{same_or_not, updated_at, updated_off, updated_case}
use Rattle.law_strands.proofs.Branches.{stability_law}
use Rattle.model_strands.specs.Strands.{Begun}
use Rattle.model_strands.specs.Blocks.{stack}
use Rattle.model_histories.specs.declared.answer.Entry.{Entry}
use Rattle.model_histories.specs.Entries.{Entries, event_of, with_event, control_part}
use Rattle.model_histories.specs.Shapes.{Shape}
use Rattle.model_histories.specs.Legal.{IsLegal}
use Rattle.model_races.specs.Accesses.{cell_access}
use Rattle.law_traces.specs.Locations.{access_of, Accesses}
use Rattle.law_traces.specs.Functions.{returns_from, is_inside, begins_at, IsAskedInside}
use Rattle.law_traces.specs.Laws.{FunctionLaw}
use Rattle.law_traces.proofs.Histories.{none_in, legal_part, extends_all, begun_by}

-- two functions changed at one number
pub updated_both : {A B : Type 0} (P : A → B → Type 0) (f : ℕ → A) (g : ℕ → B) (key : ℕ) (v : A) (w : B) (number : ℕ) → P v w → P (f number) (g number) →
    P (updated f key v number) (updated g key w number)
updated_both P f g k v w x here there = elim (same_or_not x k) [
  | inl e ↦ subst (λ z. P z (updated g k w x)) (sym (updated_at f k v x e)) (subst (P v) (sym (updated_at g k w x e)) here)
  | inr ne ↦ subst (λ z. P z (updated g k w x)) (sym (updated_off f k v x ne)) (subst (P (f x)) (sym (updated_off g k w x ne)) there)
]

prefix_further : (front at : Address) (word : Word) → IsPrefix front at → IsPrefix front (extended at word)
prefix_further front at word (rest, is) = (rest ++ (word ∷ []), ap (λ z. extended z word) is ∙ append_assoc front rest (word ∷ []))

prefix_self : (at : Address) → IsPrefix at at
prefix_self at = ([], sym (append-nil at))

-- a strand that is inside has the address of the function's first strand at its front, and the function has begun
abbrev Known : History → ℕ → Bool → Address → Type 0
Known history function inside at = inside ≡ true → (function ≤ length history) × IsPrefix (begins_at history function) at

further : (history : History) (function : ℕ) (inside : Bool) (at : Address) (word : Word) → Known history function inside at → Known history function inside (extended at word)
further h f i a w known is = let t = known is in (t.0, prefix_further (begins_at h f) a w t.1)

-- a function that has begun is none that the next event begins
not_next : (function number : ℕ) → function ≤ number → eqb function (suc number) ≡ false
not_next f m le = go (eqb_tells f (suc m))
  where
    go : ((eqb f (suc m) ≡ true) × (f ≡ suc m)) ⊎ ((eqb f (suc m) ≡ false) × (f ≡ suc m → ⊥)) → eqb f (suc m) ≡ false
    go (inl t) = let is : f ≡ suc m = t.1 in absurd (omega arith)
    go (inr t) = t.0

begins_stays : (event : Event) (history : History) (function : ℕ) → function ≤ length history → begins_at (event ∷ history) function ≡ begins_at history function
begins_stays (split s c n j first) h f le = rw (not_next f (length h) le) refl
begins_stays (same s) h f le = refl
begins_stays (joined s j) h f le = refl
begins_stays (waits s) h f le = refl
begins_stays (call s) h f le = rw (not_next f (length h) le) refl
begins_stays (resumed s) h f le = refl
begins_stays (ended s) h f le = refl
begins_stays (ended_joined s j) h f le = refl
begins_stays (finished s) h f le = refl

later : (event : Event) (history : History) (function : ℕ) (inside : Bool) (at : Address) → Known history function inside at → Known (event ∷ history) function inside at
later e h f i a known is =
    let t = known is in
    let le : f ≤ length h = t.0 in
    (omega arith, subst (λ z. IsPrefix z a) (sym (begins_stays e h f le)) t.1)

-- the event begins the function
next_number : (function number : ℕ) → eqb function (suc number) ≡ true → function ≤ suc number
next_number f m is = let e : f ≡ suc m = eqb-true f (suc m) is in omega arith

at_child : (history : History) (function strand the_child the_next the_join : ℕ) (first : Bool) → Known history function (is_inside history function strand) (address history strand) →
    Known (split strand the_child the_next the_join first ∷ history) function (is_inside history function strand || eqb function (suc (length history))) (extended (address history strand) child)
at_child h f s c n j first known is = elim (or_cases (is_inside h f s) (eqb f (suc (length h))) is) [
  | inl t ↦ later (split s c n j first) h f (is_inside h f s) (extended (address h s) child) (further h f (is_inside h f s) (address h s) child known) t
  | inr t ↦ (next_number f (length h) t, subst (λ z. IsPrefix z (extended (address h s) child)) (sym (begins t)) (prefix_self (extended (address h s) child)))
]
  where
    begins : eqb f (suc (length h)) ≡ true → begins_at (split s c n j first ∷ h) f ≡ extended (address h s) child
    begins t = rw t refl

at_call : (history : History) (function strand : ℕ) → Known history function (is_inside history function strand) (address history strand) →
    Known (call strand ∷ history) function (is_inside history function strand || eqb function (suc (length history))) (address history strand)
at_call h f s known is = elim (or_cases (is_inside h f s) (eqb f (suc (length h))) is) [
  | inl t ↦ later (call s) h f (is_inside h f s) (address h s) known t
  | inr t ↦ (next_number f (length h) t, subst (λ z. IsPrefix z (address h s)) (sym (begins t)) (prefix_self (address h s)))
]
  where
    begins : eqb f (suc (length h)) ≡ true → begins_at (call s ∷ h) f ≡ address h s
    begins t = rw t refl

and_first : (one other : Bool) → (one && other) ≡ true → one ≡ true
and_first true other is = refl
and_first false other is = is

none_yet : {A : Type 0} → false ≡ true → A
none_yet e = absurd (cc)

pub inside_known : (history : History) (function strand : ℕ) → Known history function (is_inside history function strand) (address history strand)
inside_known [] f x = none_yet
inside_known (split s c n j true ∷ h) f x =
    let inside = is_inside h f s in
    let its_child : Bool = inside || eqb f (suc (length h)) in
    let at = address h s in
    updated_both (Known (split s c n j true ∷ h) f) (updated (updated (is_inside h f) c its_child) n inside) (updated (updated (address h) c (extended at child)) n (extended at next)) j
    inside (extended at join) x (later (split s c n j true) h f inside (extended at join) (further h f inside at join (inside_known h f s)))
    (updated_both (Known (split s c n j true ∷ h) f) (updated (is_inside h f) c its_child) (updated (address h) c (extended at child)) n
    inside (extended at next) x (later (split s c n j true) h f inside (extended at next) (further h f inside at next (inside_known h f s)))
    (updated_both (Known (split s c n j true ∷ h) f) (is_inside h f) (address h) c its_child (extended at child) x (at_child h f s c n j true (inside_known h f s))
    (later (split s c n j true) h f (is_inside h f x) (address h x) (inside_known h f x))))
inside_known (split s c n j false ∷ h) f x =
    let inside = is_inside h f s in
    let its_child : Bool = inside || eqb f (suc (length h)) in
    let at = address h s in
    updated_both (Known (split s c n j false ∷ h) f) (updated (is_inside h f) c its_child) (updated (address h) c (extended at child)) n
    inside (extended at next) x (later (split s c n j false) h f inside (extended at next) (further h f inside at next (inside_known h f s)))
    (updated_both (Known (split s c n j false ∷ h) f) (is_inside h f) (address h) c its_child (extended at child) x (at_child h f s c n j false (inside_known h f s))
    (later (split s c n j false) h f (is_inside h f x) (address h x) (inside_known h f x)))
inside_known (call s ∷ h) f x =
    updated_case (λ b. Known (call s ∷ h) f b (address h x)) (is_inside h f) s (is_inside h f s || eqb f (suc (length h))) x
    (λ e. subst (λ z. Known (call s ∷ h) f (is_inside h f s || eqb f (suc (length h))) (address h z)) (sym e) (at_call h f s (inside_known h f s)))
    (λ ne. later (call s) h f (is_inside h f x) (address h x) (inside_known h f x))
inside_known (resumed s ∷ h) f x =
    let returns : Bool = returns_from f (stack h s) in
    updated_case (λ b. Known (resumed s ∷ h) f b (address h x)) (is_inside h f) s (is_inside h f s && not returns) x
    (λ e. subst (λ z. Known (resumed s ∷ h) f (is_inside h f s && not returns) (address h z)) (sym e)
    (λ is. later (resumed s) h f (is_inside h f s) (address h s) (inside_known h f s) (and_first (is_inside h f s) (not returns) is)))
    (λ ne. later (resumed s) h f (is_inside h f x) (address h x) (inside_known h f x))
inside_known (same s ∷ h) f x = later (same s) h f (is_inside h f x) (address h x) (inside_known h f x)
inside_known (joined s j ∷ h) f x = later (joined s j) h f (is_inside h f x) (address h x) (inside_known h f x)
inside_known (waits s ∷ h) f x = later (waits s) h f (is_inside h f x) (address h x) (inside_known h f x)
inside_known (ended s ∷ h) f x = later (ended s) h f (is_inside h f x) (address h x) (inside_known h f x)
inside_known (ended_joined s j ∷ h) f x = later (ended_joined s j) h f (is_inside h f x) (address h x) (inside_known h f x)
inside_known (finished s ∷ h) f x = later (finished s) h f (is_inside h f x) (address h x) (inside_known h f x)

-- ---- the accesses of a cell

abbrev Below : History → ℕ → ℕ → Type 0
Below history function strand = (function ≤ length history) × IsPrefix (begins_at history function) (address history strand)

over_event : (event : Option Event) (history : History) (function : ℕ) → function ≤ length history →
    (function ≤ length (with_event event history)) × (begins_at (with_event event history) function ≡ begins_at history function)
over_event None h f le = (le, refl)
over_event (Some e) h f le = (omega arith, begins_stays e h f le)

access_below : (shape : Shape) (entries : Entries) → IsLegal shape entries → (function cell : ℕ) → IsAskedInside entries function cell → (strand : ℕ) (kind : Kind) →
    Accesses entries strand kind cell → Below (control_part entries) function strand
access_below shape [] l f c asked s k (one, h, at, q) = absurd (none_in one h)
access_below shape (e ∷ H) l f c asked s k (one, h, at, q) = subst (Below (control_part (e ∷ H)) f) at (elim (contains-cases e one H h) [
  | inl is ↦ subst (λ (x : Entry). Below (control_part (e ∷ H)) f x.request.strand) (sym is) (carried e.request.strand (inl l.1.runs)
      (inside_known (control_part H) f e.request.strand (asked.0 k (subst (λ (x : Entry). cell_access x.request.act ≡ Some (access_of k c)) is q))))
  | inr t ↦ carried one.request.strand (begun_by shape H l.0 one t) (access_below shape H l.0 f c asked.1 one.request.strand k (one, t, refl, q))
])
  where
    carried : (strand : ℕ) → Begun (control_part H) strand → Below (control_part H) f strand → Below (control_part (e ∷ H)) f strand
    carried u begun below =
        let over = over_event (event_of e) (control_part H) f below.0 in
        let stays : address (control_part (e ∷ H)) u ≡ address (control_part H) u =
        (stability_law (control_part H) (control_part (e ∷ H)) (extends_all (e ∷ []) H) (legal_part shape (e ∷ H) l) u begun).0.same_address in
        (over.0, subst₂ IsPrefix (sym over.1) (sym stays) below.1)

pub function_law : FunctionLaw
function_law shape H j f c asked a k (s, at, x) =
    subst (IsPrefix (begins_at (control_part H) f)) at (access_below shape H j.legal f c asked s k x).1
