-- The place that a strand holds in the block round it, which is kept by whoever goes on for it.
use Rattle.std.proofs.Common.{◌≡◌, ◌≢◌, ◌⊎◌, inl, inr, ℕ, suc, ◌+◌, ◌<◌, ◌≤◌, Bool, true, false, ◌∷◌, length, Option, Some, None, refl, sym, ap, ◌∙◌, arith}
use Rattle.model_strands.specs.Address.{child, next, join}
use Rattle.model_strands.specs.Updated.{updated}
use Rattle.model_strands.specs.History.{split, History}
use Rattle.model_strands.specs.Strands.{absent, reserved, running, over, status, Running, unused, Status}
use Rattle.model_strands.specs.Blocks.{Stack, root, spawned, called, block, caller, stack, enclosing, Outstanding, IsWaitedFor}
use Rattle.model_strands.specs.Addresses.{address}
use Rattle.law_strands.proofs.Updates.{same_or_not, updated_at, updated_off, updated_case}
use Rattle.law_strands.proofs.Words.{◌▹◌}

pub data Place : Type 0 where
  outermost : Place
  continuation : (join : ℕ) → Place
  child_of : (join number : ℕ) → Place

abbrev pub place_of : Stack → Place
place_of root = outermost
place_of (spawned number its_join) = child_of its_join number
place_of (called number below) = place_of below
place_of (block its_join below) = continuation its_join

abbrev pub place : History → ℕ → Place
place history number = place_of (stack history number)

abbrev pub join_of : Place → Option ℕ
join_of outermost = None
join_of (continuation its_join) = Some its_join
join_of (child_of its_join number) = Some its_join

pub enclosing_is : (st : Stack) → enclosing st ≡ join_of (place_of st)
enclosing_is root = refl
enclosing_is (spawned n j) = refl
enclosing_is (called n below) = enclosing_is below
enclosing_is (block j below) = refl

pub place_caller : (st : Stack) → place_of (caller st) ≡ place_of st
place_caller root = refl
place_caller (spawned n j) = refl
place_caller (called n below) = refl
place_caller (block j below) = refl

pub place_called : (history : History) (strand number one : ℕ) →
    place_of (updated (stack history) strand (called number (stack history strand)) one) ≡ place history one
place_called h s n x = updated_case (λ st. place_of st ≡ place h x) (stack h) s (called n (stack h s)) x (λ e. ap (place h) (sym e)) (λ ne. refl)

pub place_resumed : (history : History) (strand one : ℕ) → place_of (updated (stack history) strand (caller (stack history strand)) one) ≡ place history one
place_resumed h s x =
    updated_case (λ st. place_of st ≡ place h x) (stack h) s (caller (stack h s)) x (λ e. place_caller (stack h s) ∙ ap (place h) (sym e)) (λ ne. refl)

-- Constructors differ, and have equal arguments where they are equal.

pub some_same : {a b : ℕ} → Some a ≡ Some b → a ≡ b
some_same e = cc

pub spawned_same : {a b c d : ℕ} → spawned a b ≡ spawned c d → (a ≡ c) × (b ≡ d)
spawned_same e = (cc, cc)

pub running_not_reserved : {t : Status} → t ≡ running → t ≡ reserved → ⊥
running_not_reserved e g = cc

pub over_not_reserved : {t : Status} → t ≡ over → t ≡ reserved → ⊥
over_not_reserved e g = cc

pub running_not_over : {t : Status} → t ≡ running → t ≡ over → ⊥
running_not_over e g = cc

pub reserved_not_absent : {t : Status} → t ≡ reserved → t ≡ absent → ⊥
reserved_not_absent e g = cc

pub over_not_absent : {t : Status} → t ≡ over → t ≡ absent → ⊥
over_not_absent e g = cc

pub running_not_absent : {t : Status} → t ≡ running → t ≡ absent → ⊥
running_not_absent e g = cc

pub true_not_false : true ≡ false → ⊥
true_not_false e = cc

pub below_or_beyond : (strand number : ℕ) → (strand < number) ⊎ (number ≤ strand)
below_or_beyond x m = grind arith

-- the numbers that a history names are below the least unused one
pub record Ranges (history : History) : Type 0 where
  pub absent_beyond : (strand : ℕ) → unused history ≤ strand → status history strand ≡ absent
  pub outermost_beyond : (strand : ℕ) → unused history ≤ strand → place history strand ≡ outermost
  pub join_below : (strand join : ℕ) → join_of (place history strand) ≡ Some join → join < unused history
  pub waited_below : (join : ℕ) → IsWaitedFor history join → join < unused history
  pub outstanding_below : (number join : ℕ) → Outstanding history number join → number ≤ length history

pub running_below : (history : History) → Ranges history → (strand : ℕ) → Running history strand → strand < unused history
running_below h r s run = go (below_or_beyond s (unused h))
  where
    go : (s < unused h) ⊎ (unused h ≤ s) → s < unused h
    go (inl t) = t
    go (inr t) = absurd (let e : absent ≡ running = sym (r.absent_beyond s t) ∙ run in cc)

-- x after the split by s
pub data Seen (history : History) (strand the_child the_next the_join : ℕ) (first : Bool) (number : ℕ) : Type 0 where
  at_child : number ≡ the_child → status (split strand the_child the_next the_join first ∷ history) number ≡ running →
      place (split strand the_child the_next the_join first ∷ history) number ≡ child_of the_join (suc (length history)) →
      address (split strand the_child the_next the_join first ∷ history) number ≡ address history strand ▹ child → Seen history strand the_child the_next the_join first number
  at_next : number ≡ the_next → status (split strand the_child the_next the_join first ∷ history) number ≡ running →
      place (split strand the_child the_next the_join first ∷ history) number ≡ continuation the_join →
      address (split strand the_child the_next the_join first ∷ history) number ≡ address history strand ▹ next → Seen history strand the_child the_next the_join first number
  at_join : number ≡ the_join → unused history ≤ number → first ≡ true → status (split strand the_child the_next the_join first ∷ history) number ≡ reserved →
      place (split strand the_child the_next the_join first ∷ history) number ≡ place history strand →
      address (split strand the_child the_next the_join first ∷ history) number ≡ address history strand ▹ join → Seen history strand the_child the_next the_join first number
  at_spawner : number ≡ strand → status (split strand the_child the_next the_join first ∷ history) number ≡ over →
      place (split strand the_child the_next the_join first ∷ history) number ≡ place history strand →
      address (split strand the_child the_next the_join first ∷ history) number ≡ address history strand → Seen history strand the_child the_next the_join first number
  elsewhere : number ≢ strand → (number < unused history) ⊎ (unused (split strand the_child the_next the_join first ∷ history) ≤ number) →
      status (split strand the_child the_next the_join first ∷ history) number ≡ status history number →
      place (split strand the_child the_next the_join first ∷ history) number ≡ place history number → address (split strand the_child the_next the_join first ∷ history) number ≡ address history number → Seen history strand the_child the_next the_join first number

pub see_open : (history : History) (strand the_child the_next the_join : ℕ) → strand < unused history → the_child ≡ unused history →
    the_next ≡ 1 + unused history → the_join ≡ 2 + unused history → (one : ℕ) → Seen history strand the_child the_next the_join true one
see_open h s c n j sb ce ne je x = go (same_or_not x j) (same_or_not x n) (same_or_not x c) (same_or_not x s)
  where
    go : (x ≡ j) ⊎ (x ≢ j) → (x ≡ n) ⊎ (x ≢ n) → (x ≡ c) ⊎ (x ≢ c) → (x ≡ s) ⊎ (x ≢ s) → Seen h s c n j true x
    go (inl e) b c' d = at_join e (omega arith) refl (updated_at _ j _ x e) (ap place_of (updated_at _ j _ x e)) (updated_at _ j _ x e)
    go (inr nj) (inl e) c' d =
        at_next e (updated_off _ j _ x nj ∙ updated_at _ n _ x e) (ap place_of (updated_off _ j _ x nj ∙ updated_at _ n _ x e)) (updated_off _ j _ x nj ∙ updated_at _ n _ x e)
    go (inr nj) (inr nn) (inl e) d =
        at_child e (updated_off _ j _ x nj ∙ (updated_off _ n _ x nn ∙ updated_at _ c _ x e)) (ap place_of (updated_off _ j _ x nj ∙ (updated_off _ n _ x nn ∙ updated_at _ c _ x e))) (updated_off _ j _ x nj ∙ (updated_off _ n _ x nn ∙ updated_at _ c _ x e))
    go (inr nj) (inr nn) (inr nc) (inl e) = at_spawner e (updated_off _ j _ x nj ∙ (updated_off _ n _ x nn ∙ (updated_off _ c _ x nc ∙ updated_at _ s _ x e)))
        (ap place_of (updated_off _ j _ x nj ∙ (updated_off _ n _ x nn ∙ updated_off _ c _ x nc)) ∙ ap (place h) e)
        ((updated_off _ j _ x nj ∙ (updated_off _ n _ x nn ∙ updated_off _ c _ x nc)) ∙ ap (address h) e)
    go (inr nj) (inr nn) (inr nc) (inr ns) =
        elsewhere ns (grind arith) (updated_off _ j _ x nj ∙ (updated_off _ n _ x nn ∙ (updated_off _ c _ x nc ∙ updated_off _ s _ x ns)))
        (ap place_of (updated_off _ j _ x nj ∙ (updated_off _ n _ x nn ∙ updated_off _ c _ x nc)))
        (updated_off _ j _ x nj ∙ (updated_off _ n _ x nn ∙ updated_off _ c _ x nc))

pub see_next : (history : History) (strand the_child the_next the_join : ℕ) → strand < unused history → place history strand ≡ continuation the_join →
    the_child ≡ unused history → the_next ≡ 1 + unused history → (one : ℕ) → Seen history strand the_child the_next the_join false one
see_next h s c n j sb pe ce ne x = go (same_or_not x n) (same_or_not x c) (same_or_not x s)
  where
    go : (x ≡ n) ⊎ (x ≢ n) → (x ≡ c) ⊎ (x ≢ c) → (x ≡ s) ⊎ (x ≢ s) → Seen h s c n j false x
    go (inl e) c' d = at_next e (updated_at _ n _ x e) (ap place_of (updated_at _ n _ x e) ∙ pe) (updated_at _ n _ x e)
    go (inr nn) (inl e) d =
        at_child e (updated_off _ n _ x nn ∙ updated_at _ c _ x e) (ap place_of (updated_off _ n _ x nn ∙ updated_at _ c _ x e)) (updated_off _ n _ x nn ∙ updated_at _ c _ x e)
    go (inr nn) (inr nc) (inl e) = at_spawner e (updated_off _ n _ x nn ∙ (updated_off _ c _ x nc ∙ updated_at _ s _ x e))
        (ap place_of (updated_off _ n _ x nn ∙ updated_off _ c _ x nc) ∙ ap (place h) e)
        ((updated_off _ n _ x nn ∙ updated_off _ c _ x nc) ∙ ap (address h) e)
    go (inr nn) (inr nc) (inr ns) = elsewhere ns (grind arith) (updated_off _ n _ x nn ∙ (updated_off _ c _ x nc ∙ updated_off _ s _ x ns))
        (ap place_of (updated_off _ n _ x nn ∙ updated_off _ c _ x nc))
        (updated_off _ n _ x nn ∙ updated_off _ c _ x nc)
