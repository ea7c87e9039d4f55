-- What the events other than splits leave as it was.
use Rattle.std.proofs.Common.{◌≡◌, ◌↔◌, inr, ℕ, suc, ◌∷◌, length, Some, refl, sym, ap, ◌∙◌}
use Rattle.model_strands.specs.Updated.{updated}
use Rattle.model_strands.specs.History.{Event, split, same, joined, waits, call, resumed, ended, ended_joined, finished, History}
use Rattle.model_strands.specs.Strands.{reserved, running, over, status, Running, unused}
use Rattle.model_strands.specs.Blocks.{stack, enclosing}
use Rattle.model_strands.specs.Legal.{Allowed, sync_joined, last_return}
use Rattle.model_strands.specs.Dag.{Forks, Arrives}
use Rattle.model_strands.specs.Addresses.{address}
use Rattle.law_strands.proofs.Updates.{updated_off, updated_case}
use Rattle.law_strands.proofs.Places.{place, enclosing_is, place_called, place_resumed}
use Rattle.law_strands.proofs.Holders.{Open, Holders, running_open, open_after_end, open_after_join, join_reserved}

-- no split
abbrev pub IsCalm : Event → Type 0
IsCalm (split strand the_child the_next the_join first) = ⊥
IsCalm _ = Unit {0}

pub calm_place : (history : History) (event : Event) → IsCalm event → (strand : ℕ) → place (event ∷ history) strand ≡ place history strand
calm_place h (split s c n j first) k x = absurd k
calm_place h (call s) k x = place_called h s (suc (length h)) x
calm_place h (resumed s) k x = place_resumed h s x
calm_place h (same s) k x = refl
calm_place h (joined s j) k x = refl
calm_place h (waits s) k x = refl
calm_place h (ended s) k x = refl
calm_place h (ended_joined s j) k x = refl
calm_place h (finished s) k x = refl

pub calm_address : (history : History) (event : Event) → IsCalm event → (strand : ℕ) → address (event ∷ history) strand ≡ address history strand
calm_address h (split s c n j first) k x = absurd k
calm_address h (call s) k x = refl
calm_address h (resumed s) k x = refl
calm_address h (same s) k x = refl
calm_address h (joined s j) k x = refl
calm_address h (waits s) k x = refl
calm_address h (ended s) k x = refl
calm_address h (ended_joined s j) k x = refl
calm_address h (finished s) k x = refl

pub calm_unused : (history : History) (event : Event) → IsCalm event → unused (event ∷ history) ≡ unused history
calm_unused h (split s c n j first) k = absurd k
calm_unused h (call s) k = refl
calm_unused h (resumed s) k = refl
calm_unused h (same s) k = refl
calm_unused h (joined s j) k = refl
calm_unused h (waits s) k = refl
calm_unused h (ended s) k = refl
calm_unused h (ended_joined s j) k = refl
calm_unused h (finished s) k = refl

pub calm_forks : (history : History) (event : Event) → IsCalm event → (strand other : ℕ) → Forks (event ∷ history) strand other ↔ Forks history strand other
calm_forks h (split s c n j first) k u v = absurd k
calm_forks h (call s) k u v = ((λ f. f), (λ f. f))
calm_forks h (resumed s) k u v = ((λ f. f), (λ f. f))
calm_forks h (same s) k u v = ((λ f. f), (λ f. f))
calm_forks h (joined s j) k u v = ((λ f. f), (λ f. f))
calm_forks h (waits s) k u v = ((λ f. f), (λ f. f))
calm_forks h (ended s) k u v = ((λ f. f), (λ f. f))
calm_forks h (ended_joined s j) k u v = ((λ f. f), (λ f. f))
calm_forks h (finished s) k u v = ((λ f. f), (λ f. f))

pub calm_arrives : (history : History) (event : Event) → (strand other : ℕ) → Arrives history strand other → Arrives (event ∷ history) strand other
calm_arrives h (split s c n j first) u v a = a
calm_arrives h (call s) u v a = a
calm_arrives h (resumed s) u v a = a
calm_arrives h (same s) u v a = a
calm_arrives h (joined s j) u v a = inr a
calm_arrives h (waits s) u v a = inr a
calm_arrives h (ended s) u v a = inr a
calm_arrives h (ended_joined s j) u v a = inr a
calm_arrives h (finished s) u v a = a

-- the join that begins by the event was reserved
pub joined_reserved : (history : History) (strand its_join : ℕ) → Holders history → Running history strand →
    enclosing (stack history strand) ≡ Some its_join → status history its_join ≡ reserved
joined_reserved h s j o run e = join_reserved h (place h s) j (o.live s (running_open h s run)) (sym (enclosing_is (stack h s)) ∙ e)

pub calm_open : (history : History) (event : Event) → IsCalm event → Holders history → Allowed history event → (strand : ℕ) →
    Open (event ∷ history) strand → Open history strand
calm_open h (split s c n j first) k o a x op = absurd k
calm_open h (call s) k o a x op = op
calm_open h (resumed s) k o a x op = op
calm_open h (same s) k o a x op = op
calm_open h (joined s j) k o (sync_joined run st none) x op = (open_after_join h s j x run (joined_reserved h s j o run (ap enclosing st)) op).1
calm_open h (waits s) k o a x op = (open_after_end h s x op).1
calm_open h (ended s) k o a x op = (open_after_end h s x op).1
calm_open h (ended_joined s j) k o (last_return run st last) x op = (open_after_join h s j x run (joined_reserved h s j o run (ap enclosing st)) op).1
calm_open h (finished s) k o a x op = (open_after_end h s x op).1

over_after_end : (history : History) (strand one : ℕ) → status history one ≡ over → updated (status history) strand over one ≡ over
over_after_end h s x e = updated_case (λ t. t ≡ over) (status h) s over x (λ g. refl) (λ ne. e)

over_after_join : (history : History) (strand its_join one : ℕ) → status history its_join ≡ reserved → status history one ≡ over →
    updated (updated (status history) strand over) its_join running one ≡ over
over_after_join h s j x rj e =
    updated_off (updated (status h) s over) j running x (λ g. absurd (two (ap (status h) g ∙ rj))) ∙ over_after_end h s x e
  where
    two : status h x ≡ reserved → ⊥
    two t = cc

pub calm_over : (history : History) (event : Event) → IsCalm event → Holders history → Allowed history event → (strand : ℕ) → status history strand ≡ over →
    status (event ∷ history) strand ≡ over
calm_over h (split s c n j first) k o a x e = absurd k
calm_over h (call s) k o a x e = e
calm_over h (resumed s) k o a x e = e
calm_over h (same s) k o a x e = e
calm_over h (joined s j) k o (sync_joined run st none) x e = over_after_join h s j x (joined_reserved h s j o run (ap enclosing st)) e
calm_over h (waits s) k o a x e = over_after_end h s x e
calm_over h (ended s) k o a x e = over_after_end h s x e
calm_over h (ended_joined s j) k o (last_return run st last) x e = over_after_join h s j x (joined_reserved h s j o run (ap enclosing st)) e
calm_over h (finished s) k o a x e = over_after_end h s x e
