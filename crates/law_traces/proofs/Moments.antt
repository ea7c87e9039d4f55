-- Where no block is open, one strand runs at most, and all that have begun reach whatever will run.
use Rattle.std.proofs.Common.{◌≡◌, ◌⊎◌, inl, inr, ℕ, suc, ◌<◌, Bool, true, [], ◌∷◌, ◌++◌, length, List, refl, sym, ◌∙◌, subst, arith, zero, ap, Some, None}
use Rattle.model_strands.specs.Address.{Address, child, next, join}
use Rattle.model_strands.specs.Addresses.{address}
use Rattle.model_strands.specs.History.{Event, split, same, joined, waits, call, resumed, ended, ended_joined, finished, History}
use Rattle.model_strands.specs.Strands.{Status, absent, reserved, running, over, status, Running, Begun, unused}
use Rattle.model_strands.specs.Blocks.{stack}
use Rattle.model_strands.specs.Legal.{Allowed, Legal, start, then}
use Rattle.model_strands.specs.Dag.{Reaches}
use Rattle.law_addresses.specs.Address.{reaches}
use Rattle.law_addresses.proofs.Relations.{reaches-self, reaches-transitive}
use Rattle.law_addresses.proofs.Extensions.{reaches-extension, reaches-nil}
use Rattle.law_strands.proofs.Words.{◌▹◌}
use Rattle.law_strands.proofs.Places.{Place, outermost, continuation, child_of, place, place_called, place_resumed, Ranges, Seen, at_child, at_next, at_join, at_spawner, elsewhere, join_of, enclosing_is, running_not_reserved}
use Rattle.law_strands.proofs.Range.{ranges}
use Rattle.law_strands.proofs.Holders.{IsOpen, Open, IsLive, holders, Splitting, splitting, running_open, not_open, reserved_open, join_reserved}
use Rattle.law_strands.proofs.Busy.{busy}
use Rattle.law_strands.proofs.Calm.{calm_open}
use Rattle.law_strands.proofs.Law.{begun_below, precedes_reach}
use Rattle.law_strands.proofs.Kept.{address_stays, legal_before, begun_stays}
use Rattle.law_strands.proofs.Sinks.{running_law}
use Rattle.law_traces.specs.Epochs.{HasNoOpenBlock}
use Rattle.law_traces.specs.Laws.{OpenBlockLaw, MomentLaw}

-- the address has no other word than join
abbrev OnlyJoins : Address → Type 0
OnlyJoins [] = Unit {0}
OnlyJoins (join ∷ at) = OnlyJoins at
OnlyJoins (word ∷ at) = ⊥

one_more : (at : Address) → OnlyJoins at → OnlyJoins (at ▹ join)
one_more [] only = tt
one_more (join ∷ at) only = one_more at only
one_more (child ∷ at) only = only
one_more (next ∷ at) only = only

-- such an address is reached by each, or reaches it
reached_or_reaching : (outer at : Address) → OnlyJoins outer → (reaches at outer ≡ true) ⊎ (reaches outer at ≡ true)
reached_or_reaching [] at only = inr (reaches-nil at)
reached_or_reaching (join ∷ outer) [] only = inl refl
reached_or_reaching (join ∷ outer) (child ∷ at) only = inl refl
reached_or_reaching (join ∷ outer) (next ∷ at) only = inl refl
reached_or_reaching (join ∷ outer) (join ∷ at) only = reached_or_reaching outer at only
reached_or_reaching (child ∷ outer) at only = absurd only
reached_or_reaching (next ∷ outer) at only = absurd only

-- it is that of each strand that stands in the root function and in no block
abbrev OutermostJoin : History → Type 0
OutermostJoin history = (number : ℕ) → number < unused history → place history number ≡ outermost → OnlyJoins (address history number)

child_not_outermost : {j n : ℕ} → child_of j n ≡ outermost → ⊥
child_not_outermost e = cc

next_not_outermost : {j : ℕ} → continuation j ≡ outermost → ⊥
next_not_outermost e = cc

joins_split : (history : History) (strand the_child the_next the_join : ℕ) (first : Bool) → Ranges history →
    Splitting history strand the_child the_next the_join first → OutermostJoin history → OutermostJoin (split strand the_child the_next the_join first ∷ history)
joins_split h s c n j first r w known x lt at = go (w.numbers.see x)
  where
    go : Seen h s c n j first x → OnlyJoins (address (split s c n j first ∷ h) x)
    go (at_child e a b d) = absurd (child_not_outermost (sym b ∙ at))
    go (at_next e a b d) = absurd (next_not_outermost (sym b ∙ at))
    go (at_join e lo f a b d) = subst OnlyJoins (sym d) (one_more (address h s) (known s w.numbers.spawner_known (sym b ∙ at)))
    go (at_spawner e a b d) = subst OnlyJoins (sym d) (known s w.numbers.spawner_known (sym b ∙ at))
    go (elsewhere ne (inl below) a b d) = subst OnlyJoins (sym d) (known x below (sym b ∙ at))
    go (elsewhere ne (inr beyond) a b d) = absurd (omega (arith, lt, beyond))

outermost_joins : {h : History} → Legal h → OutermostJoin h
outermost_joins start x lt at = tt
outermost_joins (then {history = h} {event = split s c n j first} l a) x lt at =
    joins_split h s c n j first (ranges l) (splitting h s c n j first (ranges l) (holders l) a) (outermost_joins l) x lt at
outermost_joins (then {history = h} {event = same s} l a) x lt at = outermost_joins l x lt at
outermost_joins (then {history = h} {event = joined s j} l a) x lt at = outermost_joins l x lt at
outermost_joins (then {history = h} {event = waits s} l a) x lt at = outermost_joins l x lt at
outermost_joins (then {history = h} {event = call s} l a) x lt at = outermost_joins l x lt (sym (place_called h s (suc (length h)) x) ∙ at)
outermost_joins (then {history = h} {event = resumed s} l a) x lt at = outermost_joins l x lt (sym (place_resumed h s x) ∙ at)
outermost_joins (then {history = h} {event = ended s} l a) x lt at = outermost_joins l x lt at
outermost_joins (then {history = h} {event = ended_joined s j} l a) x lt at = outermost_joins l x lt at
outermost_joins (then {history = h} {event = finished s} l a) x lt at = outermost_joins l x lt at

-- where no block is open, who runs stands in the root function and in no block
runs_outermost : (history : History) → Legal history → HasNoOpenBlock history → (strand : ℕ) → Running history strand → place history strand ≡ outermost
runs_outermost h l closed s run = go (place h s) refl
  where
    live : IsLive h (place h s)
    live = (holders l).live s (running_open h s run)

    go : (held : Place) → place h s ≡ held → place h s ≡ outermost
    go outermost e = e
    go (continuation j) e = let it : (status h j ≡ reserved) × _ = subst (IsLive h) e live in absurd (closed j it.0)
    go (child_of j n) e = let it : (status h j ≡ reserved) × _ = subst (IsLive h) e live in absurd (closed j it.0)

-- and is reached by all that have begun
reaches_running : (history : History) → Legal history → HasNoOpenBlock history → (strand : ℕ) → Running history strand → (other : ℕ) → Begun history other →
    reaches (address history other) (address history strand) ≡ true
reaches_running h l closed s run u begun =
    elim (reached_or_reaching (address h s) (address h u) (outermost_joins l s (begun_below h (ranges l) s (inl run)) (runs_outermost h l closed s run))) [
      | inl r ↦ r
      | inr r ↦ (
          let same : s ≡ u = running_law h l s u run (precedes_reach h l s u (inl run) begun r) in
          subst (λ z. reaches (address h z) (address h s) ≡ true) same (reaches-self (address h s)))
    ]

-- begun strands stay begun, and keep their addresses
stay_begun : (history : History) (later : List Event) → Legal (later ++ history) → (strand : ℕ) → Begun history strand →
    Begun (later ++ history) strand × (address (later ++ history) strand ≡ address history strand)
stay_begun h [] l u b = (b, refl)
stay_begun h (e ∷ later) l u b =
    let before = legal_before l in
    let t = stay_begun h later before u b in
    (begun_stays l u t.0, address_stays l u (begun_below (later ++ h) (ranges before) u t.0) ∙ t.1)

-- all that have begun where no block is open reach whoever is open after it
module _ (history : History) (closed : HasNoOpenBlock history) where
  abbrev pub AllReach : History → Type 0
  AllReach longer = (strand : ℕ) → Open longer strand → (other : ℕ) → Begun history other → reaches (address history other) (address longer strand) ≡ true

  reach_split : (longer : History) (strand the_child the_next the_join : ℕ) (first : Bool) → Splitting longer strand the_child the_next the_join first →
      AllReach longer → AllReach (split strand the_child the_next the_join first ∷ longer)
  reach_split g s c n j first w all x opened u begun = go (w.numbers.see x)
    where
      spawner : reaches (address history u) (address g s) ≡ true
      spawner = all s (running_open g s w.runs) u begun

      further : (word : _) → reaches (address history u) (address g s ▹ word) ≡ true
      further word = reaches-transitive (address history u) (address g s) (address g s ▹ word) spawner (reaches-extension (address g s) (word ∷ []))

      go : Seen g s c n j first x → reaches (address history u) (address (split s c n j first ∷ g) x) ≡ true
      go (at_child e a b d) = subst (λ z. reaches (address history u) z ≡ true) (sym d) (further child)
      go (at_next e a b d) = subst (λ z. reaches (address history u) z ≡ true) (sym d) (further next)
      go (at_join e lo f a b d) = subst (λ z. reaches (address history u) z ≡ true) (sym d) (further join)
      go (at_spawner e a b d) = absurd (not_open a opened)
      go (elsewhere ne known a b d) = subst (λ z. reaches (address history u) z ≡ true) (sym d) (all x (subst IsOpen a opened) u begun)

  reach_calm : (longer : History) (event : Event) → Legal longer → Allowed longer event → AllReach longer → AllReach (event ∷ longer)
  reach_calm g (split s c n j first) l a all = reach_split g s c n j first (splitting g s c n j first (ranges l) (holders l) a) all
  reach_calm g (same s) l a all = all
  reach_calm g (joined s j) l a all = λ x opened. all x (calm_open g (joined s j) tt (holders l) a x opened)
  reach_calm g (waits s) l a all = λ x opened. all x (calm_open g (waits s) tt (holders l) a x opened)
  reach_calm g (call s) l a all = all
  reach_calm g (resumed s) l a all = all
  reach_calm g (ended s) l a all = λ x opened. all x (calm_open g (ended s) tt (holders l) a x opened)
  reach_calm g (ended_joined s j) l a all = λ x opened. all x (calm_open g (ended_joined s j) tt (holders l) a x opened)
  reach_calm g (finished s) l a all = λ x opened. all x (calm_open g (finished s) tt (holders l) a x opened)

  open_runs : Legal history → AllReach history
  open_runs l x opened u begun = go (status history x) refl
    where
      go : (is : Status) → status history x ≡ is → reaches (address history u) (address history x) ≡ true
      go running e = reaches_running history l closed x e u begun
      go reserved e = absurd (closed x e)
      go over e = absurd (subst IsOpen e opened)
      go absent e = absurd (subst IsOpen e opened)

  pub all_reach : (later : List Event) → Legal (later ++ history) → AllReach (later ++ history)
  all_reach [] l = open_runs l
  all_reach (e ∷ later) (then l a) = reach_calm (later ++ history) e l a (all_reach later l)

  -- so by paths of the dag
  pub reaches_later : (later : List Event) → Legal (later ++ history) → (strand : ℕ) → Running (later ++ history) strand → (other : ℕ) → Begun history other →
      Reaches (later ++ history) other strand
  reaches_later later l s run u begun =
      let t = stay_begun history later l u begun in
      precedes_reach (later ++ history) l u s t.0 (inl run)
      (subst (λ z. reaches z (address (later ++ history) s) ≡ true) (sym t.1) (all_reach later l s (running_open (later ++ history) s run) u begun))

pub moment_law : MomentLaw
moment_law history later legal closed strand other begun runs = reaches_later history closed later legal other runs strand begun

-- ---- no block is open where a running strand stands in none

not_some : {join : ℕ} → Some join ≡ None → ⊥
not_some e = cc

stands_outermost : (held : Place) → join_of held ≡ None → held ≡ outermost
stands_outermost outermost e = refl
stands_outermost (continuation j) e = absurd (not_some e)
stands_outermost (child_of j n) e = absurd (not_some e)

-- each open block is within an older one or in the root function, where the running strand is alone
module _ (history : History) (legal : Legal history) (strand : ℕ) (runs : Running history strand) (at : place history strand ≡ outermost) where
  none_kept_back : (fuel join : ℕ) → join < fuel → status history join ≡ reserved → ⊥
  none_kept_back zero j below is = absurd (omega arith)
  none_kept_back (suc fuel) j below is = go (λ k less. none_kept_back fuel k (omega arith)) (place history j) refl
    where
      held : Open history j
      held = reserved_open history j is

      outer : (k : ℕ) → join_of (place history j) ≡ Some k → (k < j) × (status history k ≡ reserved)
      outer k e = ((busy legal).younger j k is e, join_reserved history (place history j) k ((holders legal).live j held) e)

      go : ((k : ℕ) → k < j → status history k ≡ reserved → ⊥) → (its_place : Place) → place history j ≡ its_place → ⊥
      go older outermost e =
          let same : j ≡ strand = (holders legal).alone j strand held (running_open history strand runs) (e ∙ sym at) in
          running_not_reserved runs (subst (λ z. status history z ≡ reserved) same is)
      go older (continuation k) e = let t = outer k (ap join_of e) in older k t.0 t.1
      go older (child_of k n) e = let t = outer k (ap join_of e) in older k t.0 t.1

pub open_block_law : OpenBlockLaw
open_block_law h l s run = (
  (λ closed. enclosing_is (stack h s) ∙ ap join_of (runs_outermost h l closed s run)),
  (λ e j is. none_kept_back h l s run (stands_outermost (place h s) (sym (enclosing_is (stack h s)) ∙ e)) (suc j) j (omega arith) is),
)
