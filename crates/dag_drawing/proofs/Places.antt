-- Which strands have begun, and the blocks round them, after one more event.
-- h: a history; s, x: strands; i, k: places in lists; in a split, s is the spawner, c its child, n its next and j the join
use Rattle.std.proofs.Common.{◌≡◌, ◌≢◌, ◌⊎◌, inl, inr, ℕ, suc, ◌+◌, ◌-◌, ◌<◌, ◌≤◌, Bool, true, false, List, [], ◌∷◌, ◌++◌, length, get_or, set, Option, Some, None, refl, sym, ap, ◌∙◌, arith}
use Rattle.std.proofs.Math.ListN.{get_or-append}
use Rattle.std.proofs.Math.Seq.{get_or-append_right}
use Rattle.std.proofs.lemmas.List.{length-append, length-set, get_or-set_other}
use Rattle.std.proofs.lemmas.Grind.{get_or-set_at}
use Rattle.model_strands.specs.Updated.{updated}
use Rattle.model_strands.specs.History.{split, same, joined, waits, call, resumed, ended, ended_joined, finished, History}
use Rattle.model_strands.specs.Strands.{absent, running, over, status, Running, unused}
use Rattle.model_strands.specs.Blocks.{stack, enclosing}
use Rattle.model_strands.specs.Legal.{Allowed, open_split, next_split, Legal, start, then as later}
use Rattle.law_strands.proofs.Updates.{same_or_not, updated_at, updated_case}
use Rattle.law_strands.proofs.Places.{place, join_of, enclosing_is, place_called, place_resumed, below_or_beyond, running_below, Seen, at_child, at_next, at_join, at_spawner, elsewhere}
use Rattle.law_strands.proofs.Range.{Numbered, numbered, block_below, ranges}
use Rattle.law_strands.proofs.Holders.{holders, splitting}
use Rattle.dag_drawing.specs.declared.drawing.Edge.{Edge}
use Rattle.dag_drawing.specs.Arrows.{forks, arrival, arrows, has_begun}
use Rattle.dag_drawing.specs.Walks.{marks_of, blocks_of, IsWalk}

-- ---- a spawn

block_same : (h g : History) (x y : ℕ) → place h x ≡ place g y → enclosing (stack h x) ≡ enclosing (stack g y)
block_same h g x y p = enclosing_is (stack h x) ∙ (ap join_of p ∙ sym (enclosing_is (stack g y)))

-- what was there before
old_mark : (h : History) (s c n j : ℕ) (first : Bool) → Legal h → Allowed h (split s c n j first) → (x : ℕ) → x < unused h →
    has_begun (status (split s c n j first ∷ h) x) ≡ has_begun (status h x)
old_mark h s c n j first l a x lt = go ((numbered h s c n j first (ranges l) a).see x)
  where
    w : Numbered h s c n j first
    w = numbered h s c n j first (ranges l) a

    go : Seen h s c n j first x → has_begun (status (split s c n j first ∷ h) x) ≡ has_begun (status h x)
    go (at_child e g p q) = absurd (omega (arith, e, w.child_is, lt))
    go (at_next e g p q) = absurd (omega (arith, e, w.next_is, lt))
    go (at_join e lo t g p q) = absurd (omega (arith, lo, lt))
    go (at_spawner e g p q) = ap has_begun g ∙ sym (ap has_begun (ap (status h) e ∙ (splitting h s c n j first (ranges l) (holders l) a).runs))
    go (elsewhere ne k g p q) = ap has_begun g

old_block : (h : History) (s c n j : ℕ) (first : Bool) → Legal h → Allowed h (split s c n j first) → (x : ℕ) → x < unused h →
    enclosing (stack (split s c n j first ∷ h) x) ≡ enclosing (stack h x)
old_block h s c n j first l a x lt = go ((numbered h s c n j first (ranges l) a).see x)
  where
    w : Numbered h s c n j first
    w = numbered h s c n j first (ranges l) a

    go : Seen h s c n j first x → enclosing (stack (split s c n j first ∷ h) x) ≡ enclosing (stack h x)
    go (at_child e g p q) = absurd (omega (arith, e, w.child_is, lt))
    go (at_next e g p q) = absurd (omega (arith, e, w.next_is, lt))
    go (at_join e lo t g p q) = absurd (omega (arith, lo, lt))
    go (at_spawner e g p q) = block_same (split s c n j first ∷ h) h x x (p ∙ ap (place h) (sym e))
    go (elsewhere ne k g p q) = block_same (split s c n j first ∷ h) h x x p

join_number : (h : History) (s c n j : ℕ) (first : Bool) → Allowed h (split s c n j first) → first ≡ true → j ≡ 2 + unused h
join_number h s c n j true (open_split run sy ce ne je) t = je
join_number h s c n j false (next_split run st ce ne) t = absurd (let e : false ≡ true = t in cc)

first_mark : (first : Bool) → get_or (marks_of first) 0 false ≡ true
first_mark true = refl
first_mark false = refl

second_mark : (first : Bool) → get_or (marks_of first) 1 false ≡ true
second_mark true = refl
second_mark false = refl

third_mark : (first : Bool) → first ≡ true → get_or (marks_of first) 2 false ≡ false
third_mark true t = refl
third_mark false t = absurd (let e : false ≡ true = t in cc)

first_block : (first : Bool) (j : ℕ) (outer : Option ℕ) → get_or (blocks_of first j outer) 0 None ≡ Some j
first_block true j outer = refl
first_block false j outer = refl

second_block : (first : Bool) (j : ℕ) (outer : Option ℕ) → get_or (blocks_of first j outer) 1 None ≡ Some j
second_block true j outer = refl
second_block false j outer = refl

third_block : (first : Bool) (j : ℕ) (outer : Option ℕ) → first ≡ true → get_or (blocks_of first j outer) 2 None ≡ outer
third_block true j outer t = refl
third_block false j outer t = absurd (let e : false ≡ true = t in cc)

-- what is new there
new_mark : (h : History) (s c n j : ℕ) (first : Bool) → Legal h → Allowed h (split s c n j first) → (x i : ℕ) → x ≡ i + unused h →
    x < unused (split s c n j first ∷ h) → get_or (marks_of first) i false ≡ has_begun (status (split s c n j first ∷ h) x)
new_mark h s c n j first l a x i at lt = go ((numbered h s c n j first (ranges l) a).see x)
  where
    w : Numbered h s c n j first
    w = numbered h s c n j first (ranges l) a

    here : (k : ℕ) → i ≡ k → (v : Bool) → get_or (marks_of first) k false ≡ v → get_or (marks_of first) i false ≡ v
    here k e v f = ap (λ (y : ℕ). get_or (marks_of first) y false) e ∙ f

    go : Seen h s c n j first x → get_or (marks_of first) i false ≡ has_begun (status (split s c n j first ∷ h) x)
    go (at_child e g p q) = here 0 (omega (arith, e, w.child_is, at)) true (first_mark first) ∙ sym (ap has_begun g)
    go (at_next e g p q) = here 1 (omega (arith, e, w.next_is, at)) true (second_mark first) ∙ sym (ap has_begun g)
    go (at_join e lo t g p q) =
        here 2 (omega (arith, e, join_number h s c n j first a t, at)) false (third_mark first t) ∙ sym (ap has_begun g)
    go (at_spawner e g p q) = absurd (omega (arith, e, w.spawner_known, at))
    go (elsewhere ne (inl kn) g p q) = absurd (omega (arith, kn, at))
    go (elsewhere ne (inr kn) g p q) = absurd (omega (arith, kn, lt))

new_block : (h : History) (s c n j : ℕ) (first : Bool) → Legal h → Allowed h (split s c n j first) → (x i : ℕ) → x ≡ i + unused h →
    x < unused (split s c n j first ∷ h) →
    get_or (blocks_of first j (enclosing (stack h s))) i None ≡ enclosing (stack (split s c n j first ∷ h) x)
new_block h s c n j first l a x i at lt = go ((numbered h s c n j first (ranges l) a).see x)
  where
    w : Numbered h s c n j first
    w = numbered h s c n j first (ranges l) a

    here : (k : ℕ) → i ≡ k → (v : Option ℕ) → get_or (blocks_of first j (enclosing (stack h s))) k None ≡ v →
        get_or (blocks_of first j (enclosing (stack h s))) i None ≡ v
    here k e v f = ap (λ (y : ℕ). get_or (blocks_of first j (enclosing (stack h s))) y None) e ∙ f

    go : Seen h s c n j first x → get_or (blocks_of first j (enclosing (stack h s))) i None ≡ enclosing (stack (split s c n j first ∷ h) x)
    go (at_child e g p q) =
        here 0 (omega (arith, e, w.child_is, at)) (Some j) (first_block first j (enclosing (stack h s))) ∙
        sym (enclosing_is (stack (split s c n j first ∷ h) x) ∙ ap join_of p)
    go (at_next e g p q) =
        here 1 (omega (arith, e, w.next_is, at)) (Some j) (second_block first j (enclosing (stack h s))) ∙
        sym (enclosing_is (stack (split s c n j first ∷ h) x) ∙ ap join_of p)
    go (at_join e lo t g p q) =
        here 2 (omega (arith, e, join_number h s c n j first a t, at)) (enclosing (stack h s)) (third_block first j (enclosing (stack h s)) t) ∙
        sym (block_same (split s c n j first ∷ h) h x s p)
    go (at_spawner e g p q) = absurd (omega (arith, e, w.spawner_known, at))
    go (elsewhere ne (inl kn) g p q) = absurd (omega (arith, kn, at))
    go (elsewhere ne (inr kn) g p q) = absurd (omega (arith, kn, lt))

marks_grow : (h : History) (s c n j : ℕ) (first : Bool) → unused (split s c n j first ∷ h) ≡ length (marks_of first) + unused h
marks_grow h s c n j true = refl
marks_grow h s c n j false = refl

blocks_grow : (h : History) (s c n j : ℕ) (first : Bool) (outer : Option ℕ) →
    unused (split s c n j first ∷ h) ≡ length (blocks_of first j outer) + unused h
blocks_grow h s c n j true outer = refl
blocks_grow h s c n j false outer = refl

pub walk_split : (begun : List Bool) (blocks : List (Option ℕ)) (edges : List Edge) (h : History) (s c n j : ℕ) (first : Bool) →
    IsWalk begun blocks edges h → Allowed h (split s c n j first) →
    IsWalk (begun ++ marks_of first) (blocks ++ blocks_of first j (get_or blocks s None)) (edges ++ forks s c n) (split s c n j first ∷ h)
walk_split begun blocks edges h s c n j first walk a = record {
  legal = later walk.legal a;
  marks = length-append begun (marks_of first) ∙ omega (arith, marks_grow h s c n j first, walk.marks);
  places = length-append blocks (blocks_of first j (get_or blocks s None)) ∙ omega (arith, blocks_grow h s c n j first (get_or blocks s None), walk.places);
  each_mark = λ x lt. mark x lt (below_or_beyond x (unused h));
  each_block = λ x lt. block_at x lt (below_or_beyond x (unused h));
  arrows_are = ap (λ (es : List Edge). es ++ forks s c n) walk.arrows_are;
}
  where
    known : s < unused h
    known = (numbered h s c n j first (ranges walk.legal) a).spawner_known

    mark : (x : ℕ) → x < unused (split s c n j first ∷ h) → (x < unused h) ⊎ (unused h ≤ x) →
        get_or (begun ++ marks_of first) x false ≡ has_begun (status (split s c n j first ∷ h) x)
    mark x lt (inl below) =
        get_or-append begun (marks_of first) false x (omega (arith, below, walk.marks)) ∙
        (walk.each_mark x below ∙ sym (old_mark h s c n j first walk.legal a x below))
    mark x lt (inr ge) =
        get_or-append_right begun (marks_of first) x false (omega (arith, ge, walk.marks)) ∙
        new_mark h s c n j first walk.legal a x (x - length begun) (omega (arith, ge, walk.marks)) lt

    block_at : (x : ℕ) → x < unused (split s c n j first ∷ h) → (x < unused h) ⊎ (unused h ≤ x) →
        get_or (blocks ++ blocks_of first j (get_or blocks s None)) x None ≡ enclosing (stack (split s c n j first ∷ h) x)
    block_at x lt (inl below) =
        get_or-append blocks (blocks_of first j (get_or blocks s None)) None x (omega (arith, below, walk.places)) ∙
        (walk.each_block x below ∙ sym (old_block h s c n j first walk.legal a x below))
    block_at x lt (inr ge) =
        get_or-append_right blocks (blocks_of first j (get_or blocks s None)) x None (omega (arith, ge, walk.places)) ∙
        (ap (λ (o : Option ℕ). get_or (blocks_of first j o) (x - length blocks) None) (walk.each_block s known) ∙
        new_block h s c n j first walk.legal a x (x - length blocks) (omega (arith, ge, walk.places)) lt)

-- ---- the end of a strand

end_mark : (h : History) (s : ℕ) → Running h s → (x : ℕ) → has_begun (updated (status h) s over x) ≡ has_begun (status h x)
end_mark h s run x =
    updated_case (λ v. has_begun v ≡ has_begun (status h x)) (status h) s over x (λ e. sym (ap has_begun (ap (status h) e ∙ run))) (λ ne. refl)

pub arrival_is : (blocks : List (Option ℕ)) (edges : List Edge) (begun : List Bool) (h : History) (s : ℕ) → IsWalk begun blocks edges h → Running h s →
    edges ++ arrival s (get_or blocks s None) ≡ arrows h ++ arrival s (enclosing (stack h s))
arrival_is blocks edges begun h s walk run =
    ap (λ (es : List Edge). es ++ arrival s (get_or blocks s None)) walk.arrows_are ∙
    ap (λ (o : Option ℕ). arrows h ++ arrival s o) (walk.each_block s (running_below h (ranges walk.legal) s run))

pub walk_waits : (begun : List Bool) (blocks : List (Option ℕ)) (edges : List Edge) (h : History) (s : ℕ) → IsWalk begun blocks edges h → Running h s →
    Allowed h (waits s) → IsWalk begun blocks (edges ++ arrival s (get_or blocks s None)) (waits s ∷ h)
walk_waits begun blocks edges h s walk run a = record {
  legal = later walk.legal a;
  marks = walk.marks;
  places = walk.places;
  each_mark = λ x lt. walk.each_mark x lt ∙ sym (end_mark h s run x);
  each_block = walk.each_block;
  arrows_are = arrival_is blocks edges begun h s walk run;
}

pub walk_ended : (begun : List Bool) (blocks : List (Option ℕ)) (edges : List Edge) (h : History) (s : ℕ) → IsWalk begun blocks edges h → Running h s →
    Allowed h (ended s) → IsWalk begun blocks (edges ++ arrival s (get_or blocks s None)) (ended s ∷ h)
walk_ended begun blocks edges h s walk run a = record {
  legal = later walk.legal a;
  marks = walk.marks;
  places = walk.places;
  each_mark = λ x lt. walk.each_mark x lt ∙ sym (end_mark h s run x);
  each_block = walk.each_block;
  arrows_are = arrival_is blocks edges begun h s walk run;
}

-- ---- the beginning of a join

join_mark : (begun : List Bool) (h : History) (s j : ℕ) → Running h s → j < length begun →
    (x : ℕ) → get_or begun x false ≡ has_begun (status h x) →
    get_or (set begun j true) x false ≡ has_begun (updated (updated (status h) s over) j running x)
join_mark begun h s j run below x was = go (same_or_not x j)
  where
    go : (x ≡ j) ⊎ (x ≢ j) → get_or (set begun j true) x false ≡ has_begun (updated (updated (status h) s over) j running x)
    go (inl e) =
        get_or-set_at begun j x true false e below ∙
        updated_case (λ v. true ≡ has_begun v) (updated (status h) s over) j running x (λ g. refl) (λ ne. absurd (ne e))
    go (inr ne) =
        get_or-set_other begun j x true false ne ∙
        (was ∙ updated_case (λ v. has_begun (status h x) ≡ has_begun v) (updated (status h) s over) j running x (λ g. absurd (ne g))
        (λ other. sym (end_mark h s run x)))

pub join_known : (h : History) (s j : ℕ) → Legal h → enclosing (stack h s) ≡ Some j → j < unused h
join_known h s j l e = block_below h s j (ranges l) e

pub walk_joined : (begun : List Bool) (blocks : List (Option ℕ)) (edges : List Edge) (h : History) (s j : ℕ) → IsWalk begun blocks edges h → Running h s →
    j < unused h → Allowed h (joined s j) → IsWalk (set begun j true) blocks (edges ++ arrival s (get_or blocks s None)) (joined s j ∷ h)
walk_joined begun blocks edges h s j walk run below a = record {
  legal = later walk.legal a;
  marks = length-set begun j true ∙ walk.marks;
  places = walk.places;
  each_mark = λ x lt. join_mark begun h s j run (omega (arith, below, walk.marks)) x (walk.each_mark x lt);
  each_block = walk.each_block;
  arrows_are = arrival_is blocks edges begun h s walk run;
}

pub walk_ended_joined : (begun : List Bool) (blocks : List (Option ℕ)) (edges : List Edge) (h : History) (s j : ℕ) → IsWalk begun blocks edges h →
    Running h s → j < unused h → Allowed h (ended_joined s j) →
    IsWalk (set begun j true) blocks (edges ++ arrival s (get_or blocks s None)) (ended_joined s j ∷ h)
walk_ended_joined begun blocks edges h s j walk run below a = record {
  legal = later walk.legal a;
  marks = length-set begun j true ∙ walk.marks;
  places = walk.places;
  each_mark = λ x lt. join_mark begun h s j run (omega (arith, below, walk.marks)) x (walk.each_mark x lt);
  each_block = walk.each_block;
  arrows_are = arrival_is blocks edges begun h s walk run;
}

-- ---- what changes none of this

pub walk_same : (begun : List Bool) (blocks : List (Option ℕ)) (edges : List Edge) (h : History) (s : ℕ) → IsWalk begun blocks edges h →
    Allowed h (same s) → IsWalk begun blocks edges (same s ∷ h)
walk_same begun blocks edges h s walk a = record {
  legal = later walk.legal a;
  marks = walk.marks;
  places = walk.places;
  each_mark = walk.each_mark;
  each_block = walk.each_block;
  arrows_are = walk.arrows_are;
}

pub walk_call : (begun : List Bool) (blocks : List (Option ℕ)) (edges : List Edge) (h : History) (s : ℕ) → IsWalk begun blocks edges h →
    Allowed h (call s) → IsWalk begun blocks edges (call s ∷ h)
walk_call begun blocks edges h s walk a = record {
  legal = later walk.legal a;
  marks = walk.marks;
  places = walk.places;
  each_mark = walk.each_mark;
  each_block = λ x lt. walk.each_block x lt ∙ sym (block_same (call s ∷ h) h x x (place_called h s (suc (length h)) x));
  arrows_are = walk.arrows_are;
}

pub walk_resumed : (begun : List Bool) (blocks : List (Option ℕ)) (edges : List Edge) (h : History) (s : ℕ) → IsWalk begun blocks edges h →
    Allowed h (resumed s) → IsWalk begun blocks edges (resumed s ∷ h)
walk_resumed begun blocks edges h s walk a = record {
  legal = later walk.legal a;
  marks = walk.marks;
  places = walk.places;
  each_mark = walk.each_mark;
  each_block = λ x lt. walk.each_block x lt ∙ sym (block_same (resumed s ∷ h) h x x (place_resumed h s x));
  arrows_are = walk.arrows_are;
}

pub walk_finished : (begun : List Bool) (blocks : List (Option ℕ)) (edges : List Edge) (h : History) (s : ℕ) → IsWalk begun blocks edges h → Running h s →
    Allowed h (finished s) → IsWalk begun blocks edges (finished s ∷ h)
walk_finished begun blocks edges h s walk run a = record {
  legal = later walk.legal a;
  marks = walk.marks;
  places = walk.places;
  each_mark = λ x lt. walk.each_mark x lt ∙ sym (end_mark h s run x);
  each_block = walk.each_block;
  arrows_are = walk.arrows_are;
}

-- ---- before the first event

root_mark : (x : ℕ) → x < 1 → get_or (true ∷ []) x false ≡ has_begun (status [] x)
root_mark x lt =
    let e : x ≡ 0 = omega (arith, lt) in
    ap (λ (y : ℕ). get_or (true ∷ []) y false) e ∙ sym (ap has_begun (updated_at (λ number. absent) 0 running x e))

abbrev outermost_block : List (Option ℕ)
outermost_block = None ∷ []

root_block : (x : ℕ) → x < 1 → get_or outermost_block x None ≡ None
root_block x lt =
    let e : x ≡ 0 = omega (arith, lt) in
    ap (λ (y : ℕ). get_or outermost_block y None) e

pub walk_start : (begun : List Bool) (blocks : List (Option ℕ)) (edges : List Edge) → begun ≡ true ∷ [] → blocks ≡ None ∷ [] → edges ≡ [] →
    IsWalk begun blocks edges []
walk_start begun blocks edges e f g =
    let there : IsWalk (true ∷ []) (None ∷ []) [] [] =
    record { legal = start; marks = refl; places = refl; each_mark = root_mark; each_block = root_block; arrows_are = refl } in
    rw (e, f, g) there
