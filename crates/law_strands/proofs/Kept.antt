-- Later events change no address and no path between begun strands, and a join stands where the strand stands that ends its block.
use Rattle.std.proofs.Common.{◌≡◌, ◌≢◌, ◌⊎◌, ◌↔◌, inl, inr, ℕ, suc, ◌<◌, ◌≤◌, Bool, true, false, ◌∷◌, length, refl, sym, ap, ◌∙◌, subst, subst₂, arith}
use Rattle.model_strands.specs.Updated.{updated}
use Rattle.model_strands.specs.History.{Event, split, same, joined, waits, call, resumed, ended, ended_joined, finished, History}
use Rattle.model_strands.specs.Strands.{Status, reserved, running, over, status, Begun, unused}
use Rattle.model_strands.specs.Blocks.{Stack, root, spawned, called, block, caller, stack, IsWaitedFor}
use Rattle.model_strands.specs.Legal.{Allowed, open_split, next_split, function_call, called_return, Legal, start, then}
use Rattle.model_strands.specs.Dag.{Reaches}
use Rattle.model_strands.specs.Addresses.{address}
use Rattle.law_strands.specs.Laws.{JoinLaw}
use Rattle.law_strands.proofs.Updates.{updated_at, updated_off, updated_case}
use Rattle.law_strands.proofs.Words.{Precedes}
use Rattle.law_strands.proofs.Places.{Seen, at_child, at_next, at_join, at_spawner, elsewhere, running_not_reserved, over_not_reserved, place_of}
use Rattle.law_strands.proofs.Range.{ranges, numbered}
use Rattle.law_strands.proofs.Holders.{holders, Splitting, splitting, reserved_before_end, reserved_before_join, IsLive, running_open}
use Rattle.law_strands.proofs.Addresses.{address_kept}
use Rattle.law_strands.proofs.Law.{reach_precedes, precedes_reach, begun_below}

pub address_stays : {h : History} {e : Event} → Legal (e ∷ h) → (strand : ℕ) → strand < unused h → address (e ∷ h) strand ≡ address h strand
address_stays (then {history = h} {event = split s c n j first} l a) x lt =
    address_kept h s c n j first (splitting h s c n j first (ranges l) (holders l) a) x lt
address_stays (then {history = h} {event = same s} l a) x lt = refl
address_stays (then {history = h} {event = joined s j} l a) x lt = refl
address_stays (then {history = h} {event = waits s} l a) x lt = refl
address_stays (then {history = h} {event = call s} l a) x lt = refl
address_stays (then {history = h} {event = resumed s} l a) x lt = refl
address_stays (then {history = h} {event = ended s} l a) x lt = refl
address_stays (then {history = h} {event = ended_joined s j} l a) x lt = refl
address_stays (then {history = h} {event = finished s} l a) x lt = refl

-- begun strands stay begun
pub begun_as : {t u : Status} → t ≡ u → (t ≡ running) ⊎ (t ≡ over) → (u ≡ running) ⊎ (u ≡ over)
begun_as e (inl g) = inl (sym e ∙ g)
begun_as e (inr g) = inr (sym e ∙ g)

begun_end : (history : History) (strand one : ℕ) → Begun history one →
    (updated (status history) strand over one ≡ running) ⊎ (updated (status history) strand over one ≡ over)
begun_end h s x b = updated_case (λ t. (t ≡ running) ⊎ (t ≡ over)) (status h) s over x (λ e. inr refl) (λ ne. b)

begun_join : (history : History) (strand its_join one : ℕ) → Begun history one →
    (updated (updated (status history) strand over) its_join running one ≡ running) ⊎ (updated (updated (status history) strand over) its_join running one ≡ over)
begun_join h s j x b = updated_case (λ t. (t ≡ running) ⊎ (t ≡ over)) (updated (status h) s over) j running x (λ e. inl refl) (λ ne. begun_end h s x b)

pub begun_stays : {h : History} {e : Event} → Legal (e ∷ h) → (strand : ℕ) → Begun h strand → Begun (e ∷ h) strand
begun_stays (then {history = h} {event = split s c n j first} l a) x b = go ((numbered h s c n j first (ranges l) a).see x)
  where
    lt : x < unused h
    lt = begun_below h (ranges l) x b

    go : Seen h s c n j first x → Begun (split s c n j first ∷ h) x
    go (at_child e g p q) = inl g
    go (at_next e g p q) = inl g
    go (at_join e lo t g p q) = absurd (omega (arith, lt))
    go (at_spawner e g p q) = inr g
    go (elsewhere ne k g p q) = begun_as (sym g) b
begun_stays (then {history = h} {event = same s} l a) x b = b
begun_stays (then {history = h} {event = joined s j} l a) x b = begun_join h s j x b
begun_stays (then {history = h} {event = waits s} l a) x b = begun_end h s x b
begun_stays (then {history = h} {event = call s} l a) x b = b
begun_stays (then {history = h} {event = resumed s} l a) x b = b
begun_stays (then {history = h} {event = ended s} l a) x b = begun_end h s x b
begun_stays (then {history = h} {event = ended_joined s j} l a) x b = begun_join h s j x b
begun_stays (then {history = h} {event = finished s} l a) x b = begun_end h s x b

pub legal_before : {h : History} {e : Event} → Legal (e ∷ h) → Legal h
legal_before (then l a) = l

-- a later event changes no path between begun strands
pub reach_stays : (history : History) (event : Event) → Legal (event ∷ history) → (strand other : ℕ) → Begun history strand → Begun history other →
    Reaches (event ∷ history) strand other ↔ Reaches history strand other
reach_stays h e l u v bu bv =
    let lu : u < unused h = begun_below h (ranges (legal_before l)) u bu in
    let lv : v < unused h = begun_below h (ranges (legal_before l)) v bv in (
      (λ p. precedes_reach h (legal_before l) u v bu bv (subst₂ Precedes (address_stays l u lu) (address_stays l v lv) (reach_precedes (e ∷ h) l u v p))),
      (λ p. precedes_reach (e ∷ h) l u v (begun_stays l u bu) (begun_stays l v bv)
          (subst₂ Precedes (sym (address_stays l u lu)) (sym (address_stays l v lv)) (reach_precedes h (legal_before l) u v p))),
    )

-- each open block of the stack has a join that, until it begins, stands where the stack goes on below the block
abbrev pub Rests : History → Stack → Type 0
Rests history root = Unit {0}
Rests history (spawned number join) = Unit {0}
Rests history (called number below) = Rests history below
Rests history (block join below) = (join < unused history) × (status history join ≡ reserved → stack history join ≡ below) × Rests history below

rests_kept : (history h' : History) → unused history ≤ unused h' →
    ((other_join : ℕ) → other_join < unused history → status h' other_join ≡ reserved → (status history other_join ≡ reserved) × (stack h' other_join ≡ stack history other_join)) →
    (st : Stack) → Rests history st → Rests h' st
rests_kept h h' up same_joins root t = tt
rests_kept h h' up same_joins (spawned n j) t = tt
rests_kept h h' up same_joins (called n below) t = rests_kept h h' up same_joins below t
rests_kept h h' up same_joins (block j below) t =
    (omega (arith, t.0), (λ e. let k = same_joins j t.0 e in k.1 ∙ t.1 k.0), rests_kept h h' up same_joins below t.2)

rests_caller : (history : History) (st : Stack) → Rests history st → Rests history (caller st)
rests_caller h root t = t
rests_caller h (spawned n j) t = t
rests_caller h (called n below) t = t
rests_caller h (block j below) t = t

rests_split : (history : History) (strand the_child the_next the_join : ℕ) (first : Bool) → Splitting history strand the_child the_next the_join first →
    Allowed history (split strand the_child the_next the_join first) → ((one : ℕ) → Rests history (stack history one)) → (other_join : ℕ) →
    other_join < unused history → status (split strand the_child the_next the_join first ∷ history) other_join ≡ reserved →
    (status history other_join ≡ reserved) × (stack (split strand the_child the_next the_join first ∷ history) other_join ≡ stack history other_join)
rests_split h s c n j true w (open_split run sy ce ne je) old k lt e =
    let kj : k ≢ j = omega arith in
    let kn : k ≢ n = omega arith in
    let kc : k ≢ c = omega arith in
    (go (w.numbers.see k), updated_off _ j _ k kj ∙ (updated_off _ n _ k kn ∙ updated_off _ c _ k kc))
  where
    go : Seen h s c n j true k → status h k ≡ reserved
    go (at_child xe g p q) = absurd (running_not_reserved g e)
    go (at_next xe g p q) = absurd (running_not_reserved g e)
    go (at_join xe lo t g p q) = absurd (omega (arith, lt))
    go (at_spawner xe g p q) = absurd (over_not_reserved g e)
    go (elsewhere ns b g p q) = sym g ∙ e
rests_split h s c n j false w (next_split run st ce ne) old k lt e =
    let kn : k ≢ n = omega arith in
    let kc : k ≢ c = omega arith in
    (go (w.numbers.see k), updated_off _ n _ k kn ∙ updated_off _ c _ k kc)
  where
    go : Seen h s c n j false k → status h k ≡ reserved
    go (at_child xe g p q) = absurd (running_not_reserved g e)
    go (at_next xe g p q) = absurd (running_not_reserved g e)
    go (at_join xe lo t g p q) = absurd (omega (arith, lt))
    go (at_spawner xe g p q) = absurd (over_not_reserved g e)
    go (elsewhere ns b g p q) = sym g ∙ e

pub rests : {h : History} → Legal h → (strand : ℕ) → Rests h (stack h strand)
rests start x = tt
rests (then {history = h} {event = split s c n j true} l (open_split run sy ce ne je)) x =
    let w = splitting h s c n j true (ranges l) (holders l) (open_split run sy ce ne je) in
    let kept = rests_kept h (split s c n j true ∷ h) (omega arith) (rests_split h s c n j true w (open_split run sy ce ne je) (rests l)) in
    updated_case (Rests (split s c n j true ∷ h)) (updated (updated (stack h) c (spawned (suc (length h)) j)) n (block j (stack h s))) j (stack h s) x
    (λ e. kept (stack h s) (rests l s))
    (λ nj. updated_case (Rests (split s c n j true ∷ h)) (updated (stack h) c (spawned (suc (length h)) j)) n (block j (stack h s)) x
    (λ e. (omega arith, (λ g. updated_at _ j (stack h s) j refl), kept (stack h s) (rests l s)))
    (λ nn. updated_case (Rests (split s c n j true ∷ h)) (stack h) c (spawned (suc (length h)) j) x
    (λ e. tt)
    (λ nc. kept (stack h x) (rests l x))))
rests (then {history = h} {event = split s c n j false} l (next_split run st ce ne)) x =
    let w = splitting h s c n j false (ranges l) (holders l) (next_split run st ce ne) in
    let kept = rests_kept h (split s c n j false ∷ h) (omega arith) (rests_split h s c n j false w (next_split run st ce ne) (rests l)) in
    updated_case (Rests (split s c n j false ∷ h)) (updated (stack h) c (spawned (suc (length h)) j)) n (stack h s) x
    (λ e. kept (stack h s) (rests l s))
    (λ nn. updated_case (Rests (split s c n j false ∷ h)) (stack h) c (spawned (suc (length h)) j) x
    (λ e. tt)
    (λ nc. kept (stack h x) (rests l x)))
rests (then {history = h} {event = same s} l a) x = rests_kept h (same s ∷ h) (omega arith) (λ k lt e. (e, refl)) (stack h x) (rests l x)
rests (then {history = h} {event = call s} l (function_call run)) x =
    let kept = rests_kept h (call s ∷ h) (omega arith) (λ k lt e. (e, updated_off (stack h) s (called (suc (length h)) (stack h s)) k (λ g. running_not_reserved run (ap (status h) (sym g) ∙ e)))) in
    updated_case (Rests (call s ∷ h)) (stack h) s (called (suc (length h)) (stack h s)) x (λ e. kept (stack h s) (rests l s)) (λ ne. kept (stack h x) (rests l x))
rests (then {history = h} {event = resumed s} l (called_return run st)) x =
    let kept = rests_kept h (resumed s ∷ h) (omega arith) (λ k lt e. (e, updated_off (stack h) s (caller (stack h s)) k (λ g. running_not_reserved run (ap (status h) (sym g) ∙ e)))) in
    updated_case (Rests (resumed s ∷ h)) (stack h) s (caller (stack h s)) x (λ e. kept (caller (stack h s)) (rests_caller h (stack h s) (rests l s))) (λ ne. kept (stack h x) (rests l x))
rests (then {history = h} {event = joined s j} l a) x =
    rests_kept h (joined s j ∷ h) (omega arith) (λ k lt e. ((reserved_before_join h s j k e).1, refl)) (stack h x) (rests l x)
rests (then {history = h} {event = waits s} l a) x =
    rests_kept h (waits s ∷ h) (omega arith) (λ k lt e. (reserved_before_end h s k e, refl)) (stack h x) (rests l x)
rests (then {history = h} {event = ended s} l a) x =
    rests_kept h (ended s ∷ h) (omega arith) (λ k lt e. (reserved_before_end h s k e, refl)) (stack h x) (rests l x)
rests (then {history = h} {event = ended_joined s j} l a) x =
    rests_kept h (ended_joined s j ∷ h) (omega arith) (λ k lt e. ((reserved_before_join h s j k e).1, refl)) (stack h x) (rests l x)
rests (then {history = h} {event = finished s} l a) x =
    rests_kept h (finished s ∷ h) (omega arith) (λ k lt e. (reserved_before_end h s k e, refl)) (stack h x) (rests l x)

-- a strand with an open block stands, below the block, where the block's join stands
pub join_law : JoinLaw
join_law h l s j below run st = (subst (Rests h) st (rests l s)).1 live.0
  where
    live : (status h j ≡ reserved) × (IsWaitedFor h j → ⊥)
    live = subst (IsLive h) (ap place_of st) ((holders l).live s (running_open h s run))
