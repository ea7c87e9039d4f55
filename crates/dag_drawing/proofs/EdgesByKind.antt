-- The edges of the dag, told apart by their kinds, and as a list.
-- h: a history; s, o: strands, from which and to which an edge goes; x: a strand; j: a join; in a split, c is the child and n the next
use Rattle.std.proofs.Common.{◌≡◌, ◌⊎◌, inl, inr, ℕ, List, [], ◌∷◌, ◌++◌, Bool, Option, Some, None, refl, sym, subst}
use Rattle.model_strands.specs.History.{Event, split, same, joined, waits, call, resumed, ended, ended_joined, finished, History}
use Rattle.model_strands.specs.Blocks.{stack, enclosing}
use Rattle.model_strands.specs.Dag.{Forks, Arrives, Edge as EdgeOfDag}
use Rattle.law_strands.proofs.Members.{Present, present_append}
use Rattle.dag_drawing.specs.declared.drawing.Edge.{Edge}
use Rattle.dag_drawing.specs.declared.drawing.EdgeKind.{EdgeKind}
use Rattle.dag_drawing.specs.declared.drawing.EdgeKind.TheVariants.{Child, Next, Join}
use Rattle.dag_drawing.specs.Arrows.{SpawnsChild, SpawnsNext, EdgeOf, forks, arrival, arrows}
use Rattle.dag_drawing.specs.Laws.{EdgesLaw}

-- ---- the kinds of edges

fork_kinds : (h : History) (s o : ℕ) → Forks h s o → SpawnsChild h s o ⊎ SpawnsNext h s o
fork_kinds [] s o f = absurd f
fork_kinds (split x c n j first ∷ h) s o (inl (e, inl g)) = inl (inl (e, g))
fork_kinds (split x c n j first ∷ h) s o (inl (e, inr g)) = inr (inl (e, g))
fork_kinds (split x c n j first ∷ h) s o (inr f) = elim (fork_kinds h s o f) [ inl a ↦ inl (inr a) | inr b ↦ inr (inr b) ]
fork_kinds (same x ∷ h) s o f = fork_kinds h s o f
fork_kinds (joined x j ∷ h) s o f = fork_kinds h s o f
fork_kinds (waits x ∷ h) s o f = fork_kinds h s o f
fork_kinds (call x ∷ h) s o f = fork_kinds h s o f
fork_kinds (resumed x ∷ h) s o f = fork_kinds h s o f
fork_kinds (ended x ∷ h) s o f = fork_kinds h s o f
fork_kinds (ended_joined x j ∷ h) s o f = fork_kinds h s o f
fork_kinds (finished x ∷ h) s o f = fork_kinds h s o f

pub child_forks : (h : History) (s o : ℕ) → SpawnsChild h s o → Forks h s o
child_forks [] s o f = absurd f
child_forks (split x c n j first ∷ h) s o (inl (e, g)) = inl (e, inl g)
child_forks (split x c n j first ∷ h) s o (inr f) = inr (child_forks h s o f)
child_forks (same x ∷ h) s o f = child_forks h s o f
child_forks (joined x j ∷ h) s o f = child_forks h s o f
child_forks (waits x ∷ h) s o f = child_forks h s o f
child_forks (call x ∷ h) s o f = child_forks h s o f
child_forks (resumed x ∷ h) s o f = child_forks h s o f
child_forks (ended x ∷ h) s o f = child_forks h s o f
child_forks (ended_joined x j ∷ h) s o f = child_forks h s o f
child_forks (finished x ∷ h) s o f = child_forks h s o f

pub next_forks : (h : History) (s o : ℕ) → SpawnsNext h s o → Forks h s o
next_forks [] s o f = absurd f
next_forks (split x c n j first ∷ h) s o (inl (e, g)) = inl (e, inr g)
next_forks (split x c n j first ∷ h) s o (inr f) = inr (next_forks h s o f)
next_forks (same x ∷ h) s o f = next_forks h s o f
next_forks (joined x j ∷ h) s o f = next_forks h s o f
next_forks (waits x ∷ h) s o f = next_forks h s o f
next_forks (call x ∷ h) s o f = next_forks h s o f
next_forks (resumed x ∷ h) s o f = next_forks h s o f
next_forks (ended x ∷ h) s o f = next_forks h s o f
next_forks (ended_joined x j ∷ h) s o f = next_forks h s o f
next_forks (finished x ∷ h) s o f = next_forks h s o f

pub kind_edge : (kind : EdgeKind) (h : History) (s o : ℕ) → EdgeOf kind h s o → EdgeOfDag h s o
kind_edge Child h s o e = inl (child_forks h s o e)
kind_edge Next h s o e = inl (next_forks h s o e)
kind_edge Join h s o e = inr e

edge_kind : (h : History) (s o : ℕ) → EdgeOfDag h s o → (kind : EdgeKind) × EdgeOf kind h s o
edge_kind h s o (inl f) = elim (fork_kinds h s o f) [ inl a ↦ (Child, a) | inr b ↦ (Next, b) ]
edge_kind h s o (inr a) = (Join, a)

pub edges_law : EdgesLaw
edges_law h s o = (edge_kind h s o, (λ (kind, e). kind_edge kind h s o e))

-- ---- the edges as a list

-- an edge of the dag, or one that will be where its join begins
abbrev pub ArrowOf : EdgeKind → History → ℕ → ℕ → Type 0
ArrowOf Child h s o = SpawnsChild h s o
ArrowOf Next h s o = SpawnsNext h s o
ArrowOf Join h s o = Arrives h s o

lift : (kind : EdgeKind) (event : Event) (h : History) (s o : ℕ) → ArrowOf kind h s o → ArrowOf kind (event ∷ h) s o
lift Child (split x c n j first) h s o a = inr a
lift Child (same x) h s o a = a
lift Child (joined x j) h s o a = a
lift Child (waits x) h s o a = a
lift Child (call x) h s o a = a
lift Child (resumed x) h s o a = a
lift Child (ended x) h s o a = a
lift Child (ended_joined x j) h s o a = a
lift Child (finished x) h s o a = a
lift Next (split x c n j first) h s o a = inr a
lift Next (same x) h s o a = a
lift Next (joined x j) h s o a = a
lift Next (waits x) h s o a = a
lift Next (call x) h s o a = a
lift Next (resumed x) h s o a = a
lift Next (ended x) h s o a = a
lift Next (ended_joined x j) h s o a = a
lift Next (finished x) h s o a = a
lift Join (split x c n j first) h s o a = a
lift Join (same x) h s o a = a
lift Join (joined x j) h s o a = inr a
lift Join (waits x) h s o a = inr a
lift Join (call x) h s o a = a
lift Join (resumed x) h s o a = a
lift Join (ended x) h s o a = inr a
lift Join (ended_joined x j) h s o a = inr a
lift Join (finished x) h s o a = a

abbrev pub edge_of : EdgeKind → ℕ → ℕ → Edge
edge_of kind s o = record { kind = kind; from = s; to = o }

abbrev OfEdge : History → Edge → Type 0
OfEdge h edge = ArrowOf edge.kind h edge.from edge.to

fork_told : (x c n j : ℕ) (first : Bool) (h : History) (edge : Edge) → Present edge (forks x c n) → OfEdge (split x c n j first ∷ h) edge
fork_told x c n j first h edge (inl e) = subst (OfEdge (split x c n j first ∷ h)) e (inl (refl, refl))
fork_told x c n j first h edge (inr (inl e)) = subst (OfEdge (split x c n j first ∷ h)) e (inl (refl, refl))
fork_told x c n j first h edge (inr (inr none)) = absurd none

arrival_told : (x : ℕ) (found : Option ℕ) (edge : Edge) → Present edge (arrival x found) →
    (j : ℕ) × (found ≡ Some j) × (edge_of Join x j ≡ edge)
arrival_told x None edge none = absurd none
arrival_told x (Some j) edge (inl e) = (j, refl, e)
arrival_told x (Some j) edge (inr none) = absurd none

told_arrival : (x j : ℕ) (found : Option ℕ) → found ≡ Some j → Present (edge_of Join x j) (arrival x found)
told_arrival x j found e = subst (λ (o : Option ℕ). Present (edge_of Join x j) (arrival x o)) (sym e) (inl refl)

pub arrow_in : (h : History) (edge : Edge) → Present edge (arrows h) → OfEdge h edge
arrow_in [] edge p = absurd p
arrow_in (split x c n j first ∷ h) edge p = elim ((present_append (arrows h) (forks x c n) edge).0 p) [
  | inl q ↦ lift edge.kind (split x c n j first) h edge.from edge.to (arrow_in h edge q)
  | inr q ↦ fork_told x c n j first h edge q
]
arrow_in (same x ∷ h) edge p = lift edge.kind (same x) h edge.from edge.to (arrow_in h edge p)
arrow_in (joined x j ∷ h) edge p = elim ((present_append (arrows h) (arrival x (enclosing (stack h x))) edge).0 p) [
  | inl q ↦ lift edge.kind (joined x j) h edge.from edge.to (arrow_in h edge q)
  | inr q ↦ (let t = arrival_told x (enclosing (stack h x)) edge q in subst (OfEdge (joined x j ∷ h)) t.2 (inl (refl, t.1)))
]
arrow_in (waits x ∷ h) edge p = elim ((present_append (arrows h) (arrival x (enclosing (stack h x))) edge).0 p) [
  | inl q ↦ lift edge.kind (waits x) h edge.from edge.to (arrow_in h edge q)
  | inr q ↦ (let t = arrival_told x (enclosing (stack h x)) edge q in subst (OfEdge (waits x ∷ h)) t.2 (inl (refl, t.1)))
]
arrow_in (call x ∷ h) edge p = lift edge.kind (call x) h edge.from edge.to (arrow_in h edge p)
arrow_in (resumed x ∷ h) edge p = lift edge.kind (resumed x) h edge.from edge.to (arrow_in h edge p)
arrow_in (ended x ∷ h) edge p = elim ((present_append (arrows h) (arrival x (enclosing (stack h x))) edge).0 p) [
  | inl q ↦ lift edge.kind (ended x) h edge.from edge.to (arrow_in h edge q)
  | inr q ↦ (let t = arrival_told x (enclosing (stack h x)) edge q in subst (OfEdge (ended x ∷ h)) t.2 (inl (refl, t.1)))
]
arrow_in (ended_joined x j ∷ h) edge p = elim ((present_append (arrows h) (arrival x (enclosing (stack h x))) edge).0 p) [
  | inl q ↦ lift edge.kind (ended_joined x j) h edge.from edge.to (arrow_in h edge q)
  | inr q ↦ (let t = arrival_told x (enclosing (stack h x)) edge q in subst (OfEdge (ended_joined x j ∷ h)) t.2 (inl (refl, t.1)))
]
arrow_in (finished x ∷ h) edge p = lift edge.kind (finished x) h edge.from edge.to (arrow_in h edge p)

-- behind the edges so far
behind : (h : History) (more : List Edge) (edge : Edge) → Present edge (arrows h) → Present edge (arrows h ++ more)
behind h more edge p = (present_append (arrows h) more edge).1 (inl p)

last_of : (h : History) (more : List Edge) (edge : Edge) → Present edge more → Present edge (arrows h ++ more)
last_of h more edge p = (present_append (arrows h) more edge).1 (inr p)

at_arrival : (h : History) (x s o : ℕ) → (s ≡ x) × (enclosing (stack h x) ≡ Some o) →
    Present (edge_of Join s o) (arrows h ++ arrival x (enclosing (stack h x)))
at_arrival h x s o (e, g) =
    last_of h (arrival x (enclosing (stack h x))) (edge_of Join s o)
    (subst (λ (y : ℕ). Present (edge_of Join y o) (arrival x (enclosing (stack h x)))) (sym e) (told_arrival x o (enclosing (stack h x)) g))

pub child_in : (h : History) (s o : ℕ) → SpawnsChild h s o → Present (edge_of Child s o) (arrows h)
child_in [] s o a = absurd a
child_in (split x c n j first ∷ h) s o (inl (e, g)) = last_of h (forks x c n) (edge_of Child s o) (rw (e, g) (inl refl))
child_in (split x c n j first ∷ h) s o (inr a) = behind h (forks x c n) (edge_of Child s o) (child_in h s o a)
child_in (same x ∷ h) s o a = child_in h s o a
child_in (joined x j ∷ h) s o a = behind h _ (edge_of Child s o) (child_in h s o a)
child_in (waits x ∷ h) s o a = behind h _ (edge_of Child s o) (child_in h s o a)
child_in (call x ∷ h) s o a = child_in h s o a
child_in (resumed x ∷ h) s o a = child_in h s o a
child_in (ended x ∷ h) s o a = behind h _ (edge_of Child s o) (child_in h s o a)
child_in (ended_joined x j ∷ h) s o a = behind h _ (edge_of Child s o) (child_in h s o a)
child_in (finished x ∷ h) s o a = child_in h s o a

pub next_in : (h : History) (s o : ℕ) → SpawnsNext h s o → Present (edge_of Next s o) (arrows h)
next_in [] s o a = absurd a
next_in (split x c n j first ∷ h) s o (inl (e, g)) = last_of h (forks x c n) (edge_of Next s o) (rw (e, g) (inr (inl refl)))
next_in (split x c n j first ∷ h) s o (inr a) = behind h (forks x c n) (edge_of Next s o) (next_in h s o a)
next_in (same x ∷ h) s o a = next_in h s o a
next_in (joined x j ∷ h) s o a = behind h _ (edge_of Next s o) (next_in h s o a)
next_in (waits x ∷ h) s o a = behind h _ (edge_of Next s o) (next_in h s o a)
next_in (call x ∷ h) s o a = next_in h s o a
next_in (resumed x ∷ h) s o a = next_in h s o a
next_in (ended x ∷ h) s o a = behind h _ (edge_of Next s o) (next_in h s o a)
next_in (ended_joined x j ∷ h) s o a = behind h _ (edge_of Next s o) (next_in h s o a)
next_in (finished x ∷ h) s o a = next_in h s o a

pub join_in : (h : History) (s o : ℕ) → Arrives h s o → Present (edge_of Join s o) (arrows h)
join_in [] s o a = absurd a
join_in (split x c n j first ∷ h) s o a = behind h (forks x c n) (edge_of Join s o) (join_in h s o a)
join_in (same x ∷ h) s o a = join_in h s o a
join_in (joined x j ∷ h) s o (inl (e, g)) = at_arrival h x s o (e, g)
join_in (joined x j ∷ h) s o (inr a) = behind h _ (edge_of Join s o) (join_in h s o a)
join_in (waits x ∷ h) s o (inl (e, g)) = at_arrival h x s o (e, g)
join_in (waits x ∷ h) s o (inr a) = behind h _ (edge_of Join s o) (join_in h s o a)
join_in (call x ∷ h) s o a = join_in h s o a
join_in (resumed x ∷ h) s o a = join_in h s o a
join_in (ended x ∷ h) s o (inl (e, g)) = at_arrival h x s o (e, g)
join_in (ended x ∷ h) s o (inr a) = behind h _ (edge_of Join s o) (join_in h s o a)
join_in (ended_joined x j ∷ h) s o (inl (e, g)) = at_arrival h x s o (e, g)
join_in (ended_joined x j ∷ h) s o (inr a) = behind h _ (edge_of Join s o) (join_in h s o a)
join_in (finished x ∷ h) s o a = join_in h s o a
