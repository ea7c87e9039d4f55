-- No edge of the dag stands twice in the list: the strand that an event ends had no edge before.
-- h: a history; s, o: strands, from which and to which an edge goes; j: a join; in a split, c is the child and n the next
use Rattle.std.proofs.Common.{◌≡◌, ◌≢◌, inl, inr, ℕ, List, [], ◌∷◌, ◌++◌, Option, Some, None, All, AllPairs, sym, ap, ◌∙◌, arith}
use Rattle.std.proofs.lemmas.List.Elements.{All-nil, All-cons}
use Rattle.std.proofs.lemmas.List.Kept.{AllPairs-cons}
use Rattle.model_strands.specs.History.{split, same, joined, waits, call, resumed, ended, ended_joined, finished, History}
use Rattle.model_strands.specs.Strands.{over, status, Running}
use Rattle.model_strands.specs.Blocks.{stack, enclosing}
use Rattle.model_strands.specs.Legal.{sync_joined, sync_waits, child_return, last_return, Legal, start, then}
use Rattle.law_addresses.proofs.Sorted.{pairs-nil, pairs-append}
use Rattle.law_strands.proofs.Fates.{fates}
use Rattle.law_strands.proofs.Holders.{holders, splitting}
use Rattle.law_strands.proofs.Members.{Present, all_present}
use Rattle.law_strands.proofs.Places.{running_not_over}
use Rattle.law_strands.proofs.Range.{ranges, numbered}
use Rattle.law_strands.proofs.Sinks.{arrives_over}
use Rattle.dag_drawing.specs.declared.drawing.Edge.{Edge}
use Rattle.dag_drawing.specs.declared.drawing.EdgeKind.{EdgeKind}
use Rattle.dag_drawing.specs.declared.drawing.EdgeKind.TheVariants.{Child, Next, Join}
use Rattle.dag_drawing.specs.Arrows.{forks, arrival, arrows}
use Rattle.dag_drawing.specs.Drawn.{HaveOtherEnds}
use Rattle.dag_drawing.proofs.EdgesByKind.{ArrowOf, edge_of, child_forks, next_forks, arrow_in}

-- the strand that an edge leads from has ended
start_over : {h : History} → Legal h → (kind : EdgeKind) (s o : ℕ) → ArrowOf kind h s o → status h s ≡ over
start_over {h} l Child s o a = ((fates l).forked s o (child_forks h s o a)).0
start_over {h} l Next s o a = ((fates l).forked s o (next_forks h s o a)).0
start_over l Join s o a = arrives_over l s o a

-- the edges so far, and those from a strand that runs
add_once : {h : History} → Legal h → (s : ℕ) → Running h s → (more : List Edge) → ((edge : Edge) → Present edge more → edge.from ≡ s) →
    AllPairs HaveOtherEnds more → AllPairs HaveOtherEnds (arrows h) → AllPairs HaveOtherEnds (arrows h ++ more)
add_once {h} l s run more from once so_far =
    pairs-append HaveOtherEnds (arrows h) more so_far once
    (all_present (λ old. All (HaveOtherEnds old) more) (arrows h) (λ old p. all_present (HaveOtherEnds old) more (λ new q. differ old p new q)))
  where
    differ : (old : Edge) → Present old (arrows h) → (new : Edge) → Present new more → HaveOtherEnds old new
    differ old p new q e =
        absurd (running_not_over run (ap (status h) (sym (e ∙ from new q)) ∙ start_over l old.kind old.from old.to (arrow_in h old p)))

alone : (edge : Edge) → AllPairs HaveOtherEnds (edge ∷ [])
alone edge = AllPairs-cons HaveOtherEnds edge [] (All-nil (HaveOtherEnds edge)) (pairs-nil HaveOtherEnds)

forks_from : (s c n : ℕ) (edge : Edge) → Present edge (forks s c n) → edge.from ≡ s
forks_from s c n edge (inl e) = ap (λ (it : Edge). it.from) (sym e)
forks_from s c n edge (inr (inl e)) = ap (λ (it : Edge). it.from) (sym e)
forks_from s c n edge (inr (inr none)) = absurd none

forks_once : (s c n : ℕ) → c ≢ n → AllPairs HaveOtherEnds (forks s c n)
forks_once s c n ne =
    AllPairs-cons HaveOtherEnds child (next ∷ []) (All-cons (HaveOtherEnds child) next [] (λ e f. ne f) (All-nil (HaveOtherEnds child)))
    (alone next)
  where
    child : Edge
    child = edge_of Child s c

    next : Edge
    next = edge_of Next s n

arrival_from : (s : ℕ) (found : Option ℕ) (edge : Edge) → Present edge (arrival s found) → edge.from ≡ s
arrival_from s None edge none = absurd none
arrival_from s (Some j) edge (inl e) = ap (λ (it : Edge). it.from) (sym e)
arrival_from s (Some j) edge (inr none) = absurd none

arrival_once : (s : ℕ) (found : Option ℕ) → AllPairs HaveOtherEnds (arrival s found)
arrival_once s None = pairs-nil HaveOtherEnds
arrival_once s (Some j) = alone (edge_of Join s j)

-- with the edge of a strand that runs to the join of the block round it
arrive_once : {h : History} → Legal h → (s : ℕ) → Running h s → AllPairs HaveOtherEnds (arrows h) →
    AllPairs HaveOtherEnds (arrows h ++ arrival s (enclosing (stack h s)))
arrive_once {h} l s run so_far =
    add_once l s run (arrival s (enclosing (stack h s))) (arrival_from s (enclosing (stack h s))) (arrival_once s (enclosing (stack h s))) so_far

pub arrows_once : {h : History} → Legal h → AllPairs HaveOtherEnds (arrows h)
arrows_once start = pairs-nil HaveOtherEnds
arrows_once (then {history = h} {event = split s c n j first} l a) =
    let numbers = numbered h s c n j first (ranges l) a in
    let apart : c ≢ n = omega (arith, numbers.child_is, numbers.next_is) in
    add_once l s (splitting h s c n j first (ranges l) (holders l) a).runs (forks s c n) (forks_from s c n) (forks_once s c n apart) (arrows_once l)
arrows_once (then {history = h} {event = same s} l a) = arrows_once l
arrows_once (then {history = h} {event = joined s j} l (sync_joined run st none)) = arrive_once l s run (arrows_once l)
arrows_once (then {history = h} {event = waits s} l (sync_waits run st number left)) = arrive_once l s run (arrows_once l)
arrows_once (then {history = h} {event = call s} l a) = arrows_once l
arrows_once (then {history = h} {event = resumed s} l a) = arrows_once l
arrows_once (then {history = h} {event = ended s} l (child_return run st last)) = arrive_once l s run (arrows_once l)
arrows_once (then {history = h} {event = ended_joined s j} l (last_return run st last)) = arrive_once l s run (arrows_once l)
arrows_once (then {history = h} {event = finished s} l a) = arrows_once l
