-- What is drawn is what the walk over the entries found.
-- h: a history; s, o: strands, from which and to which an edge goes; t: a status; n: the number of a list's first mark; i, k: places in
-- lists
use Rattle.std.proofs.Common.{◌≡◌, ◌⊎◌, inl, inr, ℕ, zero, suc, ◌+◌, ◌<◌, ◌≤◌, Bool, true, false, cond, List, [], ◌∷◌, length, get_or, filter, AllPairs, Option, refl, sym, ap, ◌∙◌, subst, arith}
use Rattle.std.proofs.lemmas.List.{get_or_past}
use Rattle.std.proofs.lemmas.List.Kept.{AllPairs-filter}
use Rattle.model_strands.specs.History.{History}
use Rattle.model_strands.specs.Strands.{Status, absent, reserved, running, over, status, Begun, unused}
use Rattle.law_strands.proofs.Members.{Present, contains_present}
use Rattle.law_strands.proofs.Law.{begun_below}
use Rattle.law_strands.proofs.Places.{below_or_beyond}
use Rattle.law_strands.proofs.Range.{ranges}
use Rattle.law_strands.proofs.Sinks.{forked_begun}
use Rattle.dag_drawing.specs.declared.drawing.Edge.{Edge}
use Rattle.dag_drawing.specs.declared.drawing.EdgeKind.{EdgeKind}
use Rattle.dag_drawing.specs.declared.drawing.EdgeKind.TheVariants.{Child, Next, Join}
use Rattle.dag_drawing.specs.Arrows.{EdgeOf, arrows, has_begun}
use Rattle.dag_drawing.specs.Walks.{IsWalk}
use Rattle.dag_drawing.specs.Drawn.{marked_from, has_mark, HaveOtherEnds, leads_to_begun, AreStrands, AreEdges}
use Rattle.dag_drawing.proofs.EdgesByKind.{ArrowOf, edge_of, child_forks, next_forks, arrow_in, child_in, next_in, join_in}
use Rattle.dag_drawing.proofs.EdgesOnce.{arrows_once}

-- ---- marked numbers

pub marked_here : (n : ℕ) (mark : Bool) (marks : List Bool) → mark ≡ true → marked_from n (mark ∷ marks) ≡ n ∷ marked_from (n + 1) marks
marked_here n true marks is = refl
marked_here n false marks is = absurd (let g : false ≡ true = is in cc)

pub marked_later : (n : ℕ) (mark : Bool) (marks : List Bool) → mark ≡ false → marked_from n (mark ∷ marks) ≡ marked_from (n + 1) marks
marked_later n true marks is = absurd (let g : true ≡ false = is in cc)
marked_later n false marks is = refl

marked_at : (n : ℕ) (marks : List Bool) (x : ℕ) → Present x (marked_from n marks) → (i : ℕ) × (x ≡ i + n) × (get_or marks i false ≡ true)
marked_at n [] x p = absurd p
marked_at n (true ∷ marks) x (inl e) = (0, omega (arith, e), refl)
marked_at n (true ∷ marks) x (inr p) = let t = marked_at (n + 1) marks x p in (suc t.0, omega (arith, t.1), t.2)
marked_at n (false ∷ marks) x p = let t = marked_at (n + 1) marks x p in (suc t.0, omega (arith, t.1), t.2)

at_marked : (n : ℕ) (marks : List Bool) (i x : ℕ) → x ≡ i + n → get_or marks i false ≡ true → Present x (marked_from n marks)
at_marked n [] i x at e = absurd (let g : false ≡ true = e in cc)
at_marked n (true ∷ marks) zero x at e = inl (omega (arith, at))
at_marked n (true ∷ marks) (suc i) x at e = inr (at_marked (n + 1) marks i x (omega (arith, at)) e)
at_marked n (false ∷ marks) zero x at e = absurd (let g : false ≡ true = e in cc)
at_marked n (false ∷ marks) (suc i) x at e = at_marked (n + 1) marks i x (omega (arith, at)) e

lowest : (n : ℕ) (marks : List Bool) (k : ℕ) → k < length (marked_from n marks) → n ≤ get_or (marked_from n marks) k 0
lowest n [] k lt = absurd (omega arith)
lowest n (true ∷ marks) zero lt = omega arith
lowest n (true ∷ marks) (suc k) lt = let low = lowest (n + 1) marks k (omega arith) in omega (arith, low)
lowest n (false ∷ marks) k lt = let low = lowest (n + 1) marks k lt in omega (arith, low)

rising : (n : ℕ) (marks : List Bool) (k : ℕ) → k + 1 < length (marked_from n marks) →
    get_or (marked_from n marks) k 0 < get_or (marked_from n marks) (k + 1) 0
rising n [] k lt = absurd (omega arith)
rising n (true ∷ marks) zero lt = let low = lowest (n + 1) marks 0 (omega arith) in omega (arith, low)
rising n (true ∷ marks) (suc k) lt =
    let e : suc (k + 1) ≡ suc k + 1 = omega arith in
    subst (λ (j : ℕ). get_or (marked_from (n + 1) marks) k 0 < get_or (marked_from n (true ∷ marks)) j 0) e (rising (n + 1) marks k (omega arith))
rising n (false ∷ marks) k lt = rising (n + 1) marks k lt

mark_within : (marks : List Bool) (i : ℕ) → get_or marks i false ≡ true → i < length marks
mark_within [] i e = absurd (let g : false ≡ true = e in cc)
mark_within (mark ∷ marks) zero e = omega arith
mark_within (mark ∷ marks) (suc i) e = let lt = mark_within marks i e in omega (arith, lt)

-- ---- the strands

begun_of : (t : Status) → has_begun t ≡ true → (t ≡ running) ⊎ (t ≡ over)
begun_of absent e = absurd (let g : false ≡ true = e in cc)
begun_of reserved e = absurd (let g : false ≡ true = e in cc)
begun_of running e = inl refl
begun_of over e = inr refl

of_begun : (t : Status) → (t ≡ running) ⊎ (t ≡ over) → has_begun t ≡ true
of_begun t (inl e) = ap has_begun e
of_begun t (inr e) = ap has_begun e

mark_begun : (begun : List Bool) (blocks : List (Option ℕ)) (edges : List Edge) (h : History) → IsWalk begun blocks edges h → (x : ℕ) →
    get_or begun x false ≡ true → Begun h x
mark_begun begun blocks edges h walk x e =
    let within : x < unused h = (let lt = mark_within begun x e in omega (arith, lt, walk.marks)) in
    begun_of (status h x) (sym (walk.each_mark x within) ∙ e)

begun_mark : (begun : List Bool) (blocks : List (Option ℕ)) (edges : List Edge) (h : History) → IsWalk begun blocks edges h → (x : ℕ) →
    Begun h x → get_or begun x false ≡ true
begun_mark begun blocks edges h walk x b = walk.each_mark x (begun_below h (ranges walk.legal) x b) ∙ of_begun (status h x) b

pub are_strands : (begun : List Bool) (blocks : List (Option ℕ)) (edges : List Edge) (h : History) → IsWalk begun blocks edges h →
    (strands : List ℕ) → strands ≡ marked_from 0 begun → AreStrands h strands
are_strands begun blocks edges h walk strands is = rw is (record {
  each_once = λ k lt. rising 0 begun k lt;
  begun = λ x. (
    (λ c.
        let t = marked_at 0 begun x ((contains_present x (marked_from 0 begun)).0 c) in
        mark_begun begun blocks edges h walk x (subst (λ (i : ℕ). get_or begun i false ≡ true) (omega (arith, t.1)) t.2)),
    (λ b. (contains_present x (marked_from 0 begun)).1 (at_marked 0 begun x x (omega arith) (begun_mark begun blocks edges h walk x b))),
  );
})

-- ---- the edges

present_cond : {X : Type 0} (test : Bool) (x y : X) (xs : List X) → Present x (cond test (y ∷ xs) xs) → ((y ≡ x) × (test ≡ true)) ⊎ Present x xs
present_cond true x y xs (inl e) = inl (e, refl)
present_cond true x y xs (inr p) = inr p
present_cond false x y xs p = inr p

cond_present : {X : Type 0} (test : Bool) (x y : X) (xs : List X) → Present x xs → Present x (cond test (y ∷ xs) xs)
cond_present true x y xs p = inr p
cond_present false x y xs p = p

cond_here : {X : Type 0} (test : Bool) (x y : X) (xs : List X) → y ≡ x → test ≡ true → Present x (cond test (y ∷ xs) xs)
cond_here true x y xs e t = inl e
cond_here false x y xs e t = absurd (let g : false ≡ true = t in cc)

kept_of : (p : Edge → Bool) (xs : List Edge) (x : Edge) → Present x (filter p xs) → Present x xs × (p x ≡ true)
kept_of p [] x none = absurd none
kept_of p (y ∷ xs) x k = elim (present_cond (p y) x y (filter p xs) k) [
  | inl t ↦ (inl t.0, ap p (sym t.0) ∙ t.1)
  | inr q ↦ (let r = kept_of p xs x q in (inr r.0, r.1))
]

of_kept : (p : Edge → Bool) (xs : List Edge) (x : Edge) → Present x xs → p x ≡ true → Present x (filter p xs)
of_kept p [] x none t = absurd none
of_kept p (y ∷ xs) x (inl e) t = cond_here (p y) x y (filter p xs) e (ap p e ∙ t)
of_kept p (y ∷ xs) x (inr q) t = cond_present (p y) x y (filter p xs) (of_kept p xs x q t)

edge_at : (kind : EdgeKind) (h : History) (s o : ℕ) → ArrowOf kind h s o → Begun h o → EdgeOf kind h s o
edge_at Child h s o a b = a
edge_at Next h s o a b = a
edge_at Join h s o a b = (a, b)

arrow_at : (begun : List Bool) (blocks : List (Option ℕ)) (edges : List Edge) (h : History) → IsWalk begun blocks edges h →
    (kind : EdgeKind) (s o : ℕ) → EdgeOf kind h s o → Present (edge_of kind s o) (arrows h) × Begun h o
arrow_at begun blocks edges h walk Child s o e = (child_in h s o e, forked_begun walk.legal s o (child_forks h s o e))
arrow_at begun blocks edges h walk Next s o e = (next_in h s o e, forked_begun walk.legal s o (next_forks h s o e))
arrow_at begun blocks edges h walk Join s o e = (join_in h s o e.0, e.1)

mark_says : (begun : List Bool) (blocks : List (Option ℕ)) (edges : List Edge) (h : History) → IsWalk begun blocks edges h → (x : ℕ) →
    get_or begun x false ≡ has_begun (status h x)
mark_says begun blocks edges h walk x = go (below_or_beyond x (unused h))
  where
    go : (x < unused h) ⊎ (unused h ≤ x) → get_or begun x false ≡ has_begun (status h x)
    go (inl below) = walk.each_mark x below
    go (inr beyond) =
        get_or_past begun x false (omega (arith, beyond, walk.marks)) ∙ sym (ap has_begun ((ranges walk.legal).absent_beyond x beyond))

same_kept : (p q : Edge → Bool) → ((edge : Edge) → p edge ≡ q edge) → (xs : List Edge) → filter p xs ≡ filter q xs
same_kept p q alike [] = refl
same_kept p q alike (x ∷ xs) =
    ap (λ (kept : List Edge). cond (p x) (x ∷ kept) kept) (same_kept p q alike xs) ∙
    ap (λ (test : Bool). cond test (x ∷ filter q xs) (filter q xs)) (alike x)

pub are_edges : (begun : List Bool) (blocks : List (Option ℕ)) (edges : List Edge) (h : History) → IsWalk begun blocks edges h →
    (kept : List Edge) → kept ≡ filter (has_mark begun) edges → AreEdges h kept
are_edges begun blocks edges h walk kept is = rw is (record {
  each_once = AllPairs-filter HaveOtherEnds (has_mark begun) edges (subst (AllPairs HaveOtherEnds) (sym walk.arrows_are) (arrows_once walk.legal));
  of_dag = λ edge. (
    (λ c.
        let t = kept_of (has_mark begun) edges edge ((contains_present edge (filter (has_mark begun) edges)).0 c) in
        edge_at edge.kind h edge.from edge.to (arrow_in h edge (subst (Present edge) walk.arrows_are t.0))
        (mark_begun begun blocks edges h walk edge.to t.1)),
    (λ e.
        let t = arrow_at begun blocks edges h walk edge.kind edge.from edge.to e in
        (contains_present edge (filter (has_mark begun) edges)).1
        (of_kept (has_mark begun) edges edge (subst (Present edge) (sym walk.arrows_are) t.0) (begun_mark begun blocks edges h walk edge.to t.1))),
  );
  in_order = same_kept (has_mark begun) (leads_to_begun h) (λ edge. mark_says begun blocks edges h walk edge.to) edges ∙
      ap (filter (leads_to_begun h)) walk.arrows_are;
})
