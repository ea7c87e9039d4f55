-- Strands from which no edge leads on: those that run, and those that have arrived at a join that has not begun.
use Rattle.std.proofs.Common.{◌≡◌, inl, inr, ℕ, ◌∷◌, refl, sym, ap, ◌∙◌, subst}
use Rattle.model_strands.specs.Updated.{updated}
use Rattle.model_strands.specs.History.{Event, split, same, joined, waits, call, resumed, ended, ended_joined, finished, History}
use Rattle.model_strands.specs.Strands.{reserved, running, over, status, Running, Begun}
use Rattle.model_strands.specs.Blocks.{enclosing}
use Rattle.model_strands.specs.Legal.{sync_joined, sync_waits, child_return, last_return, Legal, start, then}
use Rattle.model_strands.specs.Dag.{Forks, Arrives, Edge, stay, step, Reaches}
use Rattle.law_strands.specs.Views.{IsSink}
use Rattle.law_strands.specs.Laws.{RunningLaw, RunningAddressLaw}
use Rattle.std.proofs.lemmas.Bool.{false_from_ne_true}
use Rattle.law_addresses.specs.Address.{reaches}
use Rattle.model_strands.specs.Addresses.{address}
use Rattle.law_strands.proofs.Updates.{updated_at, updated_off}
use Rattle.law_strands.proofs.Places.{some_same, running_not_over, running_not_reserved}
use Rattle.law_strands.proofs.Range.{ranges, child_seen, next_seen, numbered}
use Rattle.law_strands.proofs.Holders.{holders, splitting}
use Rattle.law_strands.proofs.Calm.{calm_over, calm_arrives, joined_reserved}
use Rattle.law_strands.proofs.Fates.{fates, over_kept}
use Rattle.law_strands.proofs.Law.{begun_not_reserved, precedes_reach}
use Rattle.law_strands.proofs.Kept.{begun_stays}

-- Who arrives has ended

end_over : (history : History) (strand one : ℕ) → one ≡ strand → updated (status history) strand over one ≡ over
end_over h s u e = updated_at (status h) s over u e

join_over : (history : History) (strand its_join one : ℕ) → Running history strand → status history its_join ≡ reserved → one ≡ strand →
    updated (updated (status history) strand over) its_join running one ≡ over
join_over h s j u run rj e =
    updated_off (updated (status h) s over) j running u (λ g. running_not_reserved (ap (status h) (sym g ∙ e) ∙ run) rj) ∙ end_over h s u e

pub arrives_over : {h : History} → Legal h → (strand other_join : ℕ) → Arrives h strand other_join → status h strand ≡ over
arrives_over start u k a = absurd a
arrives_over (then {history = h} {event = split s c n j first} l x) u k a =
    over_kept h s c n j first (ranges l) (splitting h s c n j first (ranges l) (holders l) x) u (arrives_over l u k a)
arrives_over (then {history = h} {event = same s} l x) u k a = arrives_over l u k a
arrives_over (then {history = h} {event = call s} l x) u k a = arrives_over l u k a
arrives_over (then {history = h} {event = resumed s} l x) u k a = arrives_over l u k a
arrives_over (then {history = h} {event = joined s j} l (sync_joined run st none)) u k (inl t) =
    join_over h s j u run (joined_reserved h s j (holders l) run (ap enclosing st)) t.0
arrives_over (then {history = h} {event = joined s j} l (sync_joined run st none)) u k (inr a) =
    calm_over h (joined s j) tt (holders l) (sync_joined run st none) u (arrives_over l u k a)
arrives_over (then {history = h} {event = waits s} l x) u k (inl t) = end_over h s u t.0
arrives_over (then {history = h} {event = waits s} l x) u k (inr a) = calm_over h (waits s) tt (holders l) x u (arrives_over l u k a)
arrives_over (then {history = h} {event = ended s} l x) u k (inl t) = end_over h s u t.0
arrives_over (then {history = h} {event = ended s} l x) u k (inr a) = calm_over h (ended s) tt (holders l) x u (arrives_over l u k a)
arrives_over (then {history = h} {event = ended_joined s j} l (last_return run st last)) u k (inl t) =
    join_over h s j u run (joined_reserved h s j (holders l) run (ap enclosing st)) t.0
arrives_over (then {history = h} {event = ended_joined s j} l (last_return run st last)) u k (inr a) =
    calm_over h (ended_joined s j) tt (holders l) (last_return run st last) u (arrives_over l u k a)
arrives_over (then {history = h} {event = finished s} l x) u k a = calm_over h (finished s) tt (holders l) x u (arrives_over l u k a)

-- Edges and paths stay

forks_stay : (history : History) (event : Event) (strand other : ℕ) → Forks history strand other → Forks (event ∷ history) strand other
forks_stay h (split s c n j first) u v f = inr f
forks_stay h (call s) u v f = f
forks_stay h (resumed s) u v f = f
forks_stay h (same s) u v f = f
forks_stay h (joined s j) u v f = f
forks_stay h (waits s) u v f = f
forks_stay h (ended s) u v f = f
forks_stay h (ended_joined s j) u v f = f
forks_stay h (finished s) u v f = f

pub edge_stays : (history : History) (event : Event) → Legal (event ∷ history) → (strand other : ℕ) → Edge history strand other →
    Edge (event ∷ history) strand other
edge_stays h e l u v (inl f) = inl (forks_stay h e u v f)
edge_stays h e l u v (inr t) = inr (calm_arrives h e u v t.0, begun_stays l v t.1)

pub sink_before : (history : History) (event : Event) → Legal (event ∷ history) → (strand : ℕ) → Begun history strand → IsSink (event ∷ history) strand →
    IsSink history strand
sink_before h e l x b s = (b, (λ w k. s.1 w (edge_stays h e l x w k)))

-- nothing is reached from a sink but itself
pub sink_end : (history : History) (strand other : ℕ) → IsSink history strand → Reaches history strand other → strand ≡ other
sink_end h x y s stay = refl
sink_end h x y s (step {between = m} e p) = absurd (s.1 m e)

pub running_sink : (history : History) → Legal history → (strand : ℕ) → Running history strand → IsSink history strand
running_sink h l s run = (
  inl run,
  (λ w e. elim e [
    | inl f ↦ running_not_over run ((fates l).forked s w f).0
    | inr a ↦ running_not_over run (arrives_over l s w a.0)
  ]),
)

-- a running strand reaches no other one
pub running_law : RunningLaw
running_law h l s x run r = sink_end h s x (running_sink h l s run) r

pub running_address_law : RunningAddressLaw
running_address_law h l s x run b ne =
    false_from_ne_true (reaches (address h s) (address h x)) (λ k. ne (running_law h l s x run (precedes_reach h l s x (inl run) b k)))

-- a strand forks or arrives, not both
forks_or_arrives : {h : History} → Legal h → (strand other other_join : ℕ) → Forks h strand other → Arrives h strand other_join → ⊥
forks_or_arrives start u v k f a = a
forks_or_arrives (then {history = h} {event = split s c n j first} l x) u v k (inl t) a =
    running_not_over (splitting h s c n j first (ranges l) (holders l) x).runs (ap (status h) (sym t.0) ∙ arrives_over l u k a)
forks_or_arrives (then {history = h} {event = split s c n j first} l x) u v k (inr f) a = forks_or_arrives l u v k f a
forks_or_arrives (then {history = h} {event = same s} l x) u v k f a = forks_or_arrives l u v k f a
forks_or_arrives (then {history = h} {event = call s} l x) u v k f a = forks_or_arrives l u v k f a
forks_or_arrives (then {history = h} {event = resumed s} l x) u v k f a = forks_or_arrives l u v k f a
forks_or_arrives (then {history = h} {event = finished s} l x) u v k f a = forks_or_arrives l u v k f a
forks_or_arrives (then {history = h} {event = joined s j} l (sync_joined run st none)) u v k f (inl t) =
    running_not_over run (ap (status h) (sym t.0) ∙ ((fates l).forked u v f).0)
forks_or_arrives (then {history = h} {event = joined s j} l x) u v k f (inr a) = forks_or_arrives l u v k f a
forks_or_arrives (then {history = h} {event = waits s} l (sync_waits run st m o)) u v k f (inl t) =
    running_not_over run (ap (status h) (sym t.0) ∙ ((fates l).forked u v f).0)
forks_or_arrives (then {history = h} {event = waits s} l x) u v k f (inr a) = forks_or_arrives l u v k f a
forks_or_arrives (then {history = h} {event = ended s} l (child_return run st last)) u v k f (inl t) =
    running_not_over run (ap (status h) (sym t.0) ∙ ((fates l).forked u v f).0)
forks_or_arrives (then {history = h} {event = ended s} l x) u v k f (inr a) = forks_or_arrives l u v k f a
forks_or_arrives (then {history = h} {event = ended_joined s j} l (last_return run st last)) u v k f (inl t) =
    running_not_over run (ap (status h) (sym t.0) ∙ ((fates l).forked u v f).0)
forks_or_arrives (then {history = h} {event = ended_joined s j} l x) u v k f (inr a) = forks_or_arrives l u v k f a

one_join : {h : History} → Legal h → (strand its_join third : ℕ) → Arrives h strand its_join → Arrives h strand third → its_join ≡ third
one_join l x j w a b = some_same (sym ((fates l).arrived x j a).1 ∙ ((fates l).arrived x w b).1)

-- a strand that arrived at a reserved join goes no further yet
pub arrived_sink : (history : History) → Legal history → (strand its_join : ℕ) → Arrives history strand its_join → status history its_join ≡ reserved →
    IsSink history strand
arrived_sink h l x j a rj = (
  inr (arrives_over l x j a),
  (λ w e. elim e [
    | inl f ↦ forks_or_arrives l x w j f a
    | inr t ↦ begun_not_reserved h w t.1 (subst (λ z. status h z ≡ reserved) (one_join l x j w a t.0) rj)
  ]),
)

-- what a spawner began has begun
pub forked_begun : {h : History} → Legal h → (strand other : ℕ) → Forks h strand other → Begun h other
forked_begun start u v f = absurd f
forked_begun (then {history = h} {event = split s c n j first} l a) u v (inl (e, inl g)) =
    subst (λ z. Begun (split s c n j first ∷ h) z) (sym g) (inl (child_seen h s c n j first (numbered h s c n j first (ranges l) a)).0)
forked_begun (then {history = h} {event = split s c n j first} l a) u v (inl (e, inr g)) =
    subst (λ z. Begun (split s c n j first ∷ h) z) (sym g) (inl (next_seen h s c n j first (numbered h s c n j first (ranges l) a)).0)
forked_begun (then {history = h} {event = split s c n j first} l a) u v (inr f) = begun_stays (then l a) v (forked_begun l u v f)
forked_begun (then {history = h} {event = same s} l a) u v f = begun_stays (then l a) v (forked_begun l u v f)
forked_begun (then {history = h} {event = joined s j} l a) u v f = begun_stays (then l a) v (forked_begun l u v f)
forked_begun (then {history = h} {event = waits s} l a) u v f = begun_stays (then l a) v (forked_begun l u v f)
forked_begun (then {history = h} {event = call s} l a) u v f = begun_stays (then l a) v (forked_begun l u v f)
forked_begun (then {history = h} {event = resumed s} l a) u v f = begun_stays (then l a) v (forked_begun l u v f)
forked_begun (then {history = h} {event = ended s} l a) u v f = begun_stays (then l a) v (forked_begun l u v f)
forked_begun (then {history = h} {event = ended_joined s j} l a) u v f = begun_stays (then l a) v (forked_begun l u v f)
forked_begun (then {history = h} {event = finished s} l a) u v f = begun_stays (then l a) v (forked_begun l u v f)
