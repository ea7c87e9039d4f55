-- Where a strand stands tells how its address ends: behind the last spawn, of its function or of its open block, come joins.
use Rattle.std.proofs.Common.{◌≡◌, inl, inr, ℕ, zero, suc, ◌<◌, ◌≤◌, Bool, true, false, [], ◌∷◌, ◌++◌, length, replicate, append-nil, append_assoc, refl, sym, ap, ◌∙◌, subst, arith}
use Rattle.std.proofs.lemmas.Bool.Decides.{eqb_tells}
use Rattle.model_strands.specs.Updated.{updated}
use Rattle.model_strands.specs.Address.{child, next, join, Address}
use Rattle.model_strands.specs.Addresses.{address}
use Rattle.model_strands.specs.History.{Event, split, same, joined, waits, call, resumed, ended, ended_joined, finished, History}
use Rattle.model_strands.specs.Strands.{unused}
use Rattle.model_strands.specs.Blocks.{Stack, root, spawned, called, block, caller, stack}
use Rattle.model_strands.specs.Legal.{Allowed, open_split, next_split, Legal, start, then}
use Rattle.law_addresses.specs.Address.{IsPrefix}
use Rattle.law_addresses.specs.Blocks.{joined as joined_address}
use Rattle.law_strands.proofs.Updates.{updated_at, updated_off, updated_case}
use Rattle.law_strands.proofs.Words.{◌▹◌, prefix_refl, prefix_widen}
use Rattle.law_strands.proofs.Range.{ranges}
use Rattle.law_strands.proofs.Holders.{holders, splitting}
use Rattle.law_strands.proofs.Addresses.{address_kept}
use Rattle.law_strands.proofs.Sides.{origin}
use Rattle.law_traces.proofs.Functions.{updated_both}
use Rattle.model_serial_runs.specs.Current.{next_of}

-- the strand stands there and has this address
abbrev pub Stands : History → Stack → Address → Type 0
Stands history root a = (blocks : ℕ) × (a ≡ joined_address [] blocks)
Stands history (spawned number its_join) a = (number ≤ length history) × (blocks : ℕ) × (a ≡ joined_address (origin history number ▹ child) blocks)
Stands history (called number below) a = Stands history below a
Stands history (block its_join below) a =
    (its_join < unused history) × (opener : Address) × (address history its_join ≡ opener ▹ join) × IsPrefix (opener ▹ next) a × Stands history below opener

joins_end : (blocks : ℕ) → replicate blocks join ++ (join ∷ []) ≡ replicate (suc blocks) join
joins_end zero = refl
joins_end (suc k) = ap (λ z. join ∷ z) (joins_end k)

pub one_join_more : (a : Address) (blocks : ℕ) → joined_address a blocks ▹ join ≡ joined_address a (suc blocks)
one_join_more a k = append_assoc a (replicate k join) (join ∷ []) ∙ ap (λ z. a ++ z) (joins_end k)

stands_join : (history : History) (st : Stack) (a : Address) → Stands history st a → Stands history st (a ▹ join)
stands_join h root a (k, e) = (suc k, ap (λ z. z ▹ join) e ∙ one_join_more [] k)
stands_join h (spawned m j) a (le, k, e) = (le, suc k, ap (λ z. z ▹ join) e ∙ one_join_more (origin h m ▹ child) k)
stands_join h (called m below) a t = stands_join h below a t
stands_join h (block j below) a (lt, o, e, p, t) = (lt, o, e, prefix_widen (o ▹ next) a join p, t)

stands_next : (history : History) (its_join : ℕ) (below : Stack) (a : Address) → Stands history (block its_join below) a → Stands history (block its_join below) (a ▹ next)
stands_next h j below a (lt, o, e, p, t) = (lt, o, e, prefix_widen (o ▹ next) a next p, t)

stands_caller : (history : History) (st : Stack) (a : Address) → Stands history st a → Stands history (caller st) a
stands_caller h root a t = t
stands_caller h (spawned m j) a t = t
stands_caller h (called m below) a t = t
stands_caller h (block j below) a t = t

-- what a later history leaves of the addresses and the splits
pub record Later (history later : History) : Type 0 where
  pub wider : unused history ≤ unused later
  pub longer : length history ≤ length later
  pub addresses : (strand : ℕ) → strand < unused history → address later strand ≡ address history strand
  pub origins : (number : ℕ) → number ≤ length history → origin later number ≡ origin history number
  pub nexts : (number : ℕ) → number ≤ length history → next_of later number ≡ next_of history number

stands_later : (history later : History) → Later history later → (st : Stack) (a : Address) → Stands history st a → Stands later st a
stands_later h h' w root a t = t
stands_later h h' w (spawned m j) a (le, k, e) =
    let up : length h ≤ length h' = w.longer in (omega arith, k, e ∙ ap (λ z. joined_address (z ▹ child) k) (sym (w.origins m le)))
stands_later h h' w (called m below) a t = stands_later h h' w below a t
stands_later h h' w (block j below) a (lt, o, e, p, t) =
    let up : unused h ≤ unused h' = w.wider in (omega arith, o, w.addresses j lt ∙ e, p, stands_later h h' w below o t)

calm_later : (event : Event) (history : History) → unused (event ∷ history) ≡ unused history →
    ((strand : ℕ) → address (event ∷ history) strand ≡ address history strand) → ((number : ℕ) → origin (event ∷ history) number ≡ origin history number) →
    ((number : ℕ) → next_of (event ∷ history) number ≡ next_of history number) → Later history (event ∷ history)
calm_later e h u a o n = record {
  wider = omega (arith, u);
  longer = omega arith;
  addresses = λ x lt. a x;
  origins = λ m le. o m;
  nexts = λ m le. n m;
}

split_later : {h : History} (strand the_child the_next the_join : ℕ) (first : Bool) → Legal h → Allowed h (split strand the_child the_next the_join first) →
    Later h (split strand the_child the_next the_join first ∷ h)
split_later {h} s c n j first l a =
    let w = splitting h s c n j first (ranges l) (holders l) a in
    record {
      wider = omega (arith, w.numbers.grows);
      longer = omega arith;
      addresses = λ x lt. address_kept h s c n j first w x lt;
      origins = λ m le. updated_off (origin h) (suc (length h)) (address h s) m (λ e. omega arith);
      nexts = λ m le. older m le;
    }
  where
    older : (number : ℕ) → number ≤ length h → next_of (split s c n j first ∷ h) number ≡ next_of h number
    older m le = elim (eqb_tells m (suc (length h))) [
      | inl t ↦ (let is : m ≡ suc (length h) = t.1 in absurd (omega arith))
      | inr t ↦ rw t.0 refl
    ]

pub later : {h : History} {e : Event} → Legal (e ∷ h) → Later h (e ∷ h)
later (then {history = h} {event = split s c n j first} l a) = split_later s c n j first l a
later (then {history = h} {event = same s} l a) = calm_later (same s) h refl (λ x. refl) (λ m. refl) (λ m. refl)
later (then {history = h} {event = joined s j} l a) = calm_later (joined s j) h refl (λ x. refl) (λ m. refl) (λ m. refl)
later (then {history = h} {event = waits s} l a) = calm_later (waits s) h refl (λ x. refl) (λ m. refl) (λ m. refl)
later (then {history = h} {event = call s} l a) = calm_later (call s) h refl (λ x. refl) (λ m. refl) (λ m. refl)
later (then {history = h} {event = resumed s} l a) = calm_later (resumed s) h refl (λ x. refl) (λ m. refl) (λ m. refl)
later (then {history = h} {event = ended s} l a) = calm_later (ended s) h refl (λ x. refl) (λ m. refl) (λ m. refl)
later (then {history = h} {event = ended_joined s j} l a) = calm_later (ended_joined s j) h refl (λ x. refl) (λ m. refl) (λ m. refl)
later (then {history = h} {event = finished s} l a) = calm_later (finished s) h refl (λ x. refl) (λ m. refl) (λ m. refl)

stands_here : {h : History} {e : Event} → Legal (e ∷ h) → (strand : ℕ) → Stands h (stack h strand) (address h strand) →
    Stands (e ∷ h) (stack h strand) (address h strand)
stands_here {h} {e} l x t = stands_later h (e ∷ h) (later l) (stack h x) (address h x) t

-- each strand's address is as it stands
pub stands : {h : History} → Legal h → (strand : ℕ) → Stands h (stack h strand) (address h strand)
stands start x = (0, refl)
stands (then {history = h} {event = split s c n j true} l (open_split run sy ce ne je)) x =
    let h' : History = split s c n j true ∷ h in
    let kept : (one : ℕ) → Stands h' (stack h one) (address h one) = λ y. stands_here (then l (open_split run sy ce ne je)) y (stands l y) in
    updated_both (Stands h') (updated (updated (stack h) c (spawned (suc (length h)) j)) n (block j (stack h s)))
    (updated (updated (address h) c (address h s ▹ child)) n (address h s ▹ next)) j (stack h s) (address h s ▹ join) x
    (stands_join h' (stack h s) (address h s) (kept s))
    (updated_both (Stands h') (updated (stack h) c (spawned (suc (length h)) j)) (updated (address h) c (address h s ▹ child)) n (block j (stack h s))
    (address h s ▹ next) x
    (omega arith, address h s, updated_at (updated (updated (address h) c (address h s ▹ child)) n (address h s ▹ next)) j (address h s ▹ join) j refl, prefix_refl (address h s ▹ next), kept s)
    (updated_both (Stands h') (stack h) (address h) c (spawned (suc (length h)) j) (address h s ▹ child) x (
      omega arith,
      0,
      sym (append-nil (address h s ▹ child)) ∙
          ap (λ z. joined_address (z ▹ child) 0) (sym (updated_at (origin h) (suc (length h)) (address h s) (suc (length h)) refl)),
    )
    (kept x)))
stands (then {history = h} {event = split s c n j false} l (next_split {below = below} run st ce ne)) x =
    let h' : History = split s c n j false ∷ h in
    let kept : (one : ℕ) → Stands h' (stack h one) (address h one) = λ y. stands_here (then l (next_split run st ce ne)) y (stands l y) in
    updated_both (Stands h') (updated (stack h) c (spawned (suc (length h)) j)) (updated (address h) c (address h s ▹ child)) n (stack h s)
    (address h s ▹ next) x
    (subst (λ z. Stands h' z (address h s ▹ next)) (sym st) (stands_next h' j below (address h s) (subst (λ z. Stands h' z (address h s)) st (kept s))))
    (updated_both (Stands h') (stack h) (address h) c (spawned (suc (length h)) j) (address h s ▹ child) x (
      omega arith,
      0,
      sym (append-nil (address h s ▹ child)) ∙
          ap (λ z. joined_address (z ▹ child) 0) (sym (updated_at (origin h) (suc (length h)) (address h s) (suc (length h)) refl)),
    )
    (kept x))
stands (then {history = h} {event = same s} l a) x = stands_here (then l a) x (stands l x)
stands (then {history = h} {event = joined s j} l a) x = stands_here (then l a) x (stands l x)
stands (then {history = h} {event = waits s} l a) x = stands_here (then l a) x (stands l x)
stands (then {history = h} {event = call s} l a) x =
    updated_case (λ st. Stands (call s ∷ h) st (address h x)) (stack h) s (called (suc (length h)) (stack h s)) x
    (λ e. subst (λ y. Stands (call s ∷ h) (stack h y) (address h x)) e (stands_here (then l a) x (stands l x))) (λ ne. stands_here (then l a) x (stands l x))
stands (then {history = h} {event = resumed s} l a) x =
    updated_case (λ st. Stands (resumed s ∷ h) st (address h x)) (stack h) s (caller (stack h s)) x
    (λ e. stands_caller (resumed s ∷ h) (stack h s) (address h x) (subst (λ y. Stands (resumed s ∷ h) (stack h y) (address h x)) e (stands_here (then l a) x (stands l x)))) (λ ne. stands_here (then l a) x (stands l x))
stands (then {history = h} {event = ended s} l a) x = stands_here (then l a) x (stands l x)
stands (then {history = h} {event = ended_joined s j} l a) x = stands_here (then l a) x (stands l x)
stands (then {history = h} {event = finished s} l a) x = stands_here (then l a) x (stands l x)
