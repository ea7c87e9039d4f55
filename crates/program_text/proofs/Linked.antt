-- Each `if` and `else` of a body knows where its part ends, and an `end` closes the part behind an `else`, a line at a time.
use Rattle.std.proofs.Common.{◌≡◌, ℕ, zero, suc, ◌+◌, ◌-◌, ◌<◌, ◌≤◌, ◌⊎◌, inl, inr, List, [], ◌∷◌, ◌++◌, length, drop, map, set, arith, length-drop, refl, sym, ap, ◌∙◌, subst, Bool, true, false}
use Rattle.std.specs.Prelude.{Option, Some, None, IsTrue, slice_get, option_map, ◌==◌}
use Rattle.std.proofs.lemmas.Bool.Decides.{nat_tests}
use Rattle.std.proofs.lemmas.List.{drop-append-le, drop-drop, drop-map, drop_all, length-map, length_push, map_push}
use Rattle.std.proofs.lemmas.Option.{slice_get-map, slice_get_within, get_or_from_slice_get}
use Rattle.std.proofs.Math.Seq.{map-set_same}
use Rattle.model_bodies.specs.declared.statement.Statement.{Statement}
use Rattle.model_bodies.specs.declared.statement.Statement.TheVariants.{If, Else, End}
use Rattle.program_text.specs.declared.open_function.Part.{Part}
use Rattle.model_bodies.specs.Bodies.{behind_part, part_end, is_end, open_behind, EndsAt, IsLinked, IsDivided, IsBalanced}
use Rattle.model_bodies.specs.declared.statement.Register.{Register}
use Rattle.program_text.specs.Drafts.{ending, ended_at, with_end}

-- ---- what matters of a statement

pub data Shape : Type 0 where
  Opens : Shape
  Divides : Shape
  Closes : Shape
  Plain : Shape

abbrev pub shape : Statement → Shape
shape (If line register otherwise) = Opens
shape (Else line after) = Divides
shape (End line) = Closes
shape statement = Plain

abbrev pub shapes : List Statement → List Shape
shapes body = map shape body

-- how many parts are open behind these lines, where so many are before them, and none of those ends
abbrev pub scan : ℕ → List Shape → Option ℕ
scan depth [] = Some depth
scan depth (Opens ∷ rest) = scan (suc depth) rest
scan zero (Divides ∷ rest) = None
scan (suc depth) (Divides ∷ rest) = scan (suc depth) rest
scan zero (Closes ∷ rest) = None
scan (suc depth) (Closes ∷ rest) = scan depth rest
scan depth (Plain ∷ rest) = scan depth rest

-- the part ends with the statement of that number, counted from 1
abbrev pub IsClosed : ℕ → ℕ → List Shape → Type 0
IsClosed depth zero rest = ⊥
IsClosed depth (suc n) [] = ⊥
IsClosed depth (suc n) (Opens ∷ rest) = IsClosed (suc depth) n rest
IsClosed zero (suc n) (Divides ∷ rest) = n ≡ 0
IsClosed (suc depth) (suc n) (Divides ∷ rest) = IsClosed (suc depth) n rest
IsClosed zero (suc n) (Closes ∷ rest) = n ≡ 0
IsClosed (suc depth) (suc n) (Closes ∷ rest) = IsClosed depth n rest
IsClosed depth (suc n) (Plain ∷ rest) = IsClosed depth n rest

-- an `else` or an `end` closes the part behind an `if`, and an `end` alone that behind an `else`
abbrev pub Encloses : Option Shape → Option Shape → Type 0
Encloses (Some Opens) (Some Divides) = Unit {0}
Encloses (Some Opens) (Some Closes) = Unit {0}
Encloses (Some Divides) (Some Closes) = Unit {0}
Encloses before behind = ⊥

-- the part behind the place ends before another, and what closes it may
abbrev pub ClosesAt : List Shape → ℕ → ℕ → Type 0
ClosesAt all place to = (n : ℕ) × (to ≡ place + 1 + n) × IsClosed 0 n (drop (place + 1) all) × Encloses (slice_get all place) (slice_get all (place + n))

-- ---- lists

get_set_same : {A : Type 0} (xs : List A) (i : ℕ) (a : A) → i < length xs → slice_get (set xs i a) i ≡ Some a
get_set_same [] i a l = absurd (omega arith)
get_set_same (x ∷ xs) zero a l = refl
get_set_same (x ∷ xs) (suc i) a l = get_set_same xs i a (omega arith)

get_set_other : {A : Type 0} (xs : List A) (i j : ℕ) (a : A) → (j ≡ i → ⊥) → slice_get (set xs i a) j ≡ slice_get xs j
get_set_other [] i j a n = refl
get_set_other (x ∷ xs) zero zero a n = absurd (n refl)
get_set_other (x ∷ xs) zero (suc j) a n = refl
get_set_other (x ∷ xs) (suc i) zero a n = refl
get_set_other (x ∷ xs) (suc i) (suc j) a n = get_set_other xs i j a (λ e. n (ap suc e))

get_more : {A : Type 0} (xs ys : List A) (i : ℕ) → i < length xs → slice_get (xs ++ ys) i ≡ slice_get xs i
get_more [] ys i l = absurd (omega arith)
get_more (x ∷ xs) ys zero l = refl
get_more (x ∷ xs) ys (suc i) l = get_more xs ys i (omega arith)

get_last : {A : Type 0} (xs : List A) (a : A) (i : ℕ) → i ≡ length xs → slice_get (xs ++ a ∷ []) i ≡ Some a
get_last [] a zero e = refl
get_last [] a (suc i) e = absurd (omega (arith, e))
get_last (x ∷ xs) a zero e = absurd (omega (arith, e))
get_last (x ∷ xs) a (suc i) e = get_last xs a i (omega (arith, e))

-- ---- closed parts

closed_push : (depth n : ℕ) (xs ys : List Shape) → IsClosed depth n xs → IsClosed depth n (xs ++ ys)
closed_push depth zero xs ys c = absurd c
closed_push depth (suc n) [] ys c = absurd c
closed_push depth (suc n) (Opens ∷ xs) ys c = closed_push (suc depth) n xs ys c
closed_push zero (suc n) (Divides ∷ xs) ys c = c
closed_push (suc depth) (suc n) (Divides ∷ xs) ys c = closed_push (suc depth) n xs ys c
closed_push zero (suc n) (Closes ∷ xs) ys c = c
closed_push (suc depth) (suc n) (Closes ∷ xs) ys c = closed_push depth n xs ys c
closed_push depth (suc n) (Plain ∷ xs) ys c = closed_push depth n xs ys c

closed_nothing : (depth n : ℕ) → IsClosed depth n [] → ⊥
closed_nothing depth zero c = c
closed_nothing depth (suc n) c = c

closed_behind_drop : (k depth n : ℕ) (xs ys : List Shape) → IsClosed depth n (drop k xs) → IsClosed depth n (drop k (xs ++ ys))
closed_behind_drop zero depth n xs ys c = closed_push depth n xs ys c
closed_behind_drop (suc k) depth n [] ys c = absurd (closed_nothing depth n c)
closed_behind_drop (suc k) depth n (x ∷ xs) ys c = closed_behind_drop k depth n xs ys c

closed_within : (depth n : ℕ) (xs : List Shape) → IsClosed depth n xs → (0 < n) × (n ≤ length xs)
closed_within depth zero xs c = absurd c
closed_within depth (suc n) [] c = absurd c
closed_within depth (suc n) (Opens ∷ xs) c = let w = closed_within (suc depth) n xs c in (omega arith, omega (arith, w.1))
closed_within zero (suc n) (Divides ∷ xs) c = (omega arith, omega (arith, c))
closed_within (suc depth) (suc n) (Divides ∷ xs) c = let w = closed_within (suc depth) n xs c in (omega arith, omega (arith, w.1))
closed_within zero (suc n) (Closes ∷ xs) c = (omega arith, omega (arith, c))
closed_within (suc depth) (suc n) (Closes ∷ xs) c = let w = closed_within depth n xs c in (omega arith, omega (arith, w.1))
closed_within depth (suc n) (Plain ∷ xs) c = let w = closed_within depth n xs c in (omega arith, omega (arith, w.1))

closes_push : (xs ys : List Shape) (place to : ℕ) → ClosesAt xs place to → ClosesAt (xs ++ ys) place to
closes_push xs ys place to c =
    let w = closed_within 0 c.0 (drop (place + 1) xs) c.2 in
    let l = length-drop (place + 1) xs in
    let here : slice_get (xs ++ ys) place ≡ slice_get xs place = get_more xs ys place (omega (arith, w.0, w.1, l)) in
    let there : slice_get (xs ++ ys) (place + c.0) ≡ slice_get xs (place + c.0) = get_more xs ys (place + c.0) (omega (arith, w.0, w.1, l)) in (
      c.0,
      c.1,
      closed_behind_drop (place + 1) 0 c.0 xs ys c.2,
      subst (λ (o : Option Shape). Encloses o (slice_get (xs ++ ys) (place + c.0))) (sym here) (subst (λ (o : Option Shape). Encloses (slice_get xs place) o) (sym there) c.3),
    )

drop_none : (n : ℕ) (xs : List Statement) → n ≡ 0 → xs ≡ drop n xs
drop_none n xs e = ap (λ k. drop k xs) (sym e)

closed_behind : (depth n : ℕ) (body : List Statement) → IsClosed depth n (shapes body) → behind_part depth body ≡ drop n body
closed_behind depth zero body c = absurd c
closed_behind depth (suc n) [] c = absurd c
closed_behind depth (suc n) (If line register otherwise ∷ body) c = closed_behind (suc depth) n body c
closed_behind zero (suc n) (Else line after ∷ body) c = drop_none n body c
closed_behind (suc depth) (suc n) (Else line after ∷ body) c = closed_behind (suc depth) n body c
closed_behind zero (suc n) (End line ∷ body) c = drop_none n body c
closed_behind (suc depth) (suc n) (End line ∷ body) c = closed_behind depth n body c
closed_behind depth (suc n) (statement ∷ body) c = closed_behind depth n body c

-- a place whose part is closed ends there
pub ends_at : (body : List Statement) (place to : ℕ) → ClosesAt (shapes body) place to → EndsAt body place to
ends_at body place to c =
    let w = closed_within 0 c.0 (drop (place + 1) (shapes body)) c.2 in
    let l = length-drop (place + 1) (shapes body) in
    let m = length-map body shape in
    let k : IsClosed 0 c.0 (shapes (drop (place + 1) body)) = subst (λ (t : List Shape). IsClosed 0 c.0 t) (drop-map shape (place + 1) body) c.2 in (
      omega (arith, c.1, w.0),
      omega (arith, c.1, w.0, w.1, l, m),
      ap (λ (n : ℕ). drop n body) c.1 ∙ (sym (drop-drop c.0 (place + 1) body) ∙ sym (closed_behind 0 c.0 (drop (place + 1) body) k)),
    )

-- ---- open parts

-- what stands before a part
abbrev pub opening : (second : Bool) → Shape
opening false = Opens
opening true = Divides

-- each open part, the innermost first: what stands before it, and how many parts are open in it
abbrev pub Opened : ℕ → List Part → List Shape → Type 0
Opened depth [] all = Unit {0}
Opened depth (part ∷ parts) all =
    (part.place < length all) × (scan 0 (drop (part.place + 1) all) ≡ Some depth) × (slice_get all part.place ≡ Some (opening part.second)) × Opened (suc depth) parts all

scan_push : (depth k : ℕ) (xs : List Shape) (s : Shape) → scan depth xs ≡ Some k → scan depth (xs ++ s ∷ []) ≡ scan k (s ∷ [])
scan_push depth k [] s e = let same : depth ≡ k = cc in ap (λ (d : ℕ). scan d (s ∷ [])) same
scan_push depth k (Opens ∷ xs) s e = scan_push (suc depth) k xs s e
scan_push zero k (Divides ∷ xs) s e = cc
scan_push (suc depth) k (Divides ∷ xs) s e = scan_push (suc depth) k xs s e
scan_push zero k (Closes ∷ xs) s e = cc
scan_push (suc depth) k (Closes ∷ xs) s e = scan_push depth k xs s e
scan_push depth k (Plain ∷ xs) s e = scan_push depth k xs s e

module _ (s : Shape) (Steps : ℕ → ℕ → Type 0) (one : (d e : ℕ) → Steps d e → scan d (s ∷ []) ≡ Some e) (more : (d e : ℕ) → Steps d e → Steps (suc d) (suc e)) where
  opened_push : (d e : ℕ) (parts : List Part) (all : List Shape) → Steps d e → Opened d parts all → Opened e parts (all ++ s ∷ [])
  opened_push d e [] all step o = tt
  opened_push d e (part ∷ parts) all step o =
      let l = length_push all s in (
        omega (arith, l, o.0),
        ap (λ (t : List Shape). scan 0 t) (drop-append-le (part.place + 1) all (s ∷ []) (omega (arith, o.0)))
            ∙ (scan_push 0 d (drop (part.place + 1) all) s o.1 ∙ one d e step),
        get_more all (s ∷ []) part.place o.0 ∙ o.2,
        opened_push (suc d) (suc e) parts all (more d e step) o.3,
      )

-- the shape of a part that ends
abbrev pub IsEnding : Shape → Type 0
IsEnding Opens = ⊥
IsEnding Divides = Unit {0}
IsEnding Closes = Unit {0}
IsEnding Plain = ⊥

closes_last : (depth : ℕ) (xs : List Shape) (s : Shape) → IsEnding s → scan depth xs ≡ Some 0 → IsClosed depth (suc (length xs)) (xs ++ s ∷ [])
closes_last zero [] Divides i e = refl
closes_last zero [] Closes i e = refl
closes_last zero [] s i e = absurd i
closes_last (suc depth) [] s i e = let same : suc depth ≡ 0 = cc in absurd (omega (arith, same))
closes_last depth (Opens ∷ xs) s i e = closes_last (suc depth) xs s i e
closes_last zero (Divides ∷ xs) s i e = cc
closes_last (suc depth) (Divides ∷ xs) s i e = closes_last (suc depth) xs s i e
closes_last zero (Closes ∷ xs) s i e = cc
closes_last (suc depth) (Closes ∷ xs) s i e = closes_last depth xs s i e
closes_last depth (Plain ∷ xs) s i e = closes_last depth xs s i e

-- the innermost part ends behind the statement that comes
closes_here : (all : List Shape) (place : ℕ) (before s : Shape) → IsEnding s → place < length all → scan 0 (drop (place + 1) all) ≡ Some 0
    → slice_get all place ≡ Some before → Encloses (Some before) (Some s) → ClosesAt (all ++ s ∷ []) place (length all + 1)
closes_here all place before s i l e at encloses =
    let n = length-drop (place + 1) all in
    let d = drop-append-le (place + 1) all (s ∷ []) (omega (arith, l)) in
    let here : slice_get (all ++ s ∷ []) place ≡ Some before = get_more all (s ∷ []) place l ∙ at in
    let there : slice_get (all ++ s ∷ []) (place + suc (length (drop (place + 1) all))) ≡ Some s = get_last all s _ (omega (arith, n, l)) in (
      suc (length (drop (place + 1) all)),
      omega (arith, n, l),
      subst (λ (t : List Shape). IsClosed 0 (suc (length (drop (place + 1) all))) t) (sym d) (closes_last 0 (drop (place + 1) all) s i e),
      subst (λ (o : Option Shape). Encloses o (slice_get (all ++ s ∷ []) (place + suc (length (drop (place + 1) all))))) (sym here)
          (subst (λ (o : Option Shape). Encloses (Some before) o) (sym there) encloses),
    )

-- ---- what a body and its open parts keep

abbrev pub IsOpenAt : List Part → ℕ → Type 0
IsOpenAt [] place = ⊥
IsOpenAt (part ∷ parts) place = (place ≡ part.place) ⊎ IsOpenAt parts place

-- each part knows its end, or is open
abbrev pub IsLinkedBut : List Part → List Shape → List Statement → Type 0
IsLinkedBut parts all body = (place to : ℕ) → part_end (slice_get body place) ≡ Some to → IsOpenAt parts place ⊎ ClosesAt all place to

pub record IsBuilt (body : List Statement) (parts : List Part) : Type 0 where
  pub total : scan 0 (shapes body) ≡ Some (length parts)
  pub opened : Opened 0 parts (shapes body)
  pub linked : IsLinkedBut parts (shapes body) body

pub built_nothing : IsBuilt [] []
built_nothing = record { total = refl; opened = tt; linked = λ place to e. cc }

-- a statement at the end
push_end : (body : List Statement) (statement : Statement) (place to : ℕ) → part_end (slice_get (body ++ statement ∷ []) place) ≡ Some to
    → (part_end (slice_get body place) ≡ Some to) ⊎ ((place ≡ length body) × (part_end (Some statement) ≡ Some to))
push_end [] statement zero to e = inr (refl, e)
push_end [] statement (suc place) to e = cc
push_end (first ∷ body) statement zero to e = inl e
push_end (first ∷ body) statement (suc place) to e = by (push_end body statement place to e)
  where
    by : (part_end (slice_get body place) ≡ Some to) ⊎ ((place ≡ length body) × (part_end (Some statement) ≡ Some to))
        → (part_end (slice_get body place) ≡ Some to) ⊎ ((suc place ≡ suc (length body)) × (part_end (Some statement) ≡ Some to))
    by (inl h) = inl h
    by (inr h) = inr (ap suc h.0, h.1)

module _ (body : List Statement) (statement : Statement) (parts more : List Part) where
  -- where the statement ends no part, or the part that it opens is among the open ones
  linked_push : ((place to : ℕ) → place ≡ length body → part_end (Some statement) ≡ Some to → IsOpenAt more place)
      → ((place : ℕ) → IsOpenAt parts place → IsOpenAt more place) → IsLinkedBut parts (shapes body) body
      → IsLinkedBut more (shapes (body ++ statement ∷ [])) (body ++ statement ∷ [])
  linked_push new old h place to e = by (push_end body statement place to e)
    where
      keep : IsOpenAt parts place ⊎ ClosesAt (shapes body) place to → IsOpenAt more place ⊎ ClosesAt (shapes (body ++ statement ∷ [])) place to
      keep (inl o) = inl (old place o)
      keep (inr c) = inr (subst (λ (t : List Shape). ClosesAt t place to) (sym (map_push shape body statement)) (closes_push (shapes body) (shape statement ∷ []) place to c))

      by : (part_end (slice_get body place) ≡ Some to) ⊎ ((place ≡ length body) × (part_end (Some statement) ≡ Some to))
          → IsOpenAt more place ⊎ ClosesAt (shapes (body ++ statement ∷ [])) place to
      by (inl f) = keep (h place to f)
      by (inr f) = inl (new place to f.0 f.1)

-- a statement that is no `if`, `else` or `end`
pub built_plain : (body : List Statement) (parts : List Part) (statement : Statement) → shape statement ≡ Plain → part_end (Some statement) ≡ None → IsBuilt body parts
    → IsBuilt (body ++ statement ∷ []) parts
built_plain body parts statement plain none b =
    let e : shapes (body ++ statement ∷ []) ≡ shapes body ++ Plain ∷ [] = map_push shape body statement ∙ ap (λ (s : Shape). shapes body ++ s ∷ []) plain in
    record {
      total = ap (scan 0) e ∙ scan_push 0 (length parts) (shapes body) Plain b.total;
      opened = subst (λ (t : List Shape). Opened 0 parts t) (sym e)
          (opened_push Plain (λ d k. d ≡ k) (λ d k h. ap (λ (n : ℕ). Some n) h) (λ d k h. ap suc h) 0 0 parts (shapes body) refl b.opened);
      linked = linked_push body statement parts parts (λ place to l h. let clash : None ≡ Some to = sym none ∙ h in cc) (λ place o. o) b.linked;
    }

abbrev pub part_at : ℕ → Bool → Part
part_at place second = record { place = place; second = second }

-- an `if`
pub built_choice : (body : List Statement) (parts : List Part) (line : ℕ) (register : Register) → IsBuilt body parts
    → IsBuilt (body ++ If line register 0 ∷ []) (part_at (length body) false ∷ parts)
built_choice body parts line register b =
    let e : shapes (body ++ If line register 0 ∷ []) ≡ shapes body ++ Opens ∷ [] = map_push shape body (If line register 0) in
    let m = length-map body shape in
    let l = length_push (shapes body) Opens in
    let past : drop (length body + 1) (shapes body ++ Opens ∷ []) ≡ [] = drop_all (length body + 1) (shapes body ++ Opens ∷ []) (omega (arith, m, l)) in
    record {
      total = ap (scan 0) e ∙ scan_push 0 (length parts) (shapes body) Opens b.total;
      opened = subst (λ (t : List Shape). Opened 0 (part_at (length body) false ∷ parts) t) (sym e) (
        omega (arith, m, l),
        ap (scan 0) past,
        get_last (shapes body) Opens (length body) (sym m),
        opened_push Opens (λ d k. suc d ≡ k) (λ d k h. ap (λ (n : ℕ). Some n) h) (λ d k h. ap suc h) 0 1 parts (shapes body) refl b.opened,
      );
      linked = linked_push body (If line register 0) parts (part_at (length body) false ∷ parts) (λ place to h k. inl h) (λ place o. inr o) b.linked;
    }

-- ---- the end of a part

-- what does not hang on the places that an `if` and an `else` name stays the same
module _ {A : Type 0} (f : Statement → A) (same : (to : ℕ) (statement : Statement) → f (ending to statement) ≡ f statement) where
  map_ended_at : (found : Option Statement) (place to : ℕ) (body : List Statement) → slice_get body place ≡ found → map f (ended_at found place to body) ≡ map f body
  map_ended_at None place to body e = refl
  map_ended_at (Some statement) place to body e =
      map-set_same f body place (ending to statement) statement (same to statement ∙ ap f (sym (get_or_from_slice_get body place statement statement e)))

  pub map_ended : (place to : ℕ) (body : List Statement) → map f (with_end place to body) ≡ map f body
  map_ended place to body = map_ended_at (slice_get body place) place to body refl

shape_ending : (to : ℕ) (statement : Statement) → shape (ending to statement) ≡ shape statement
shape_ending to (If line register otherwise) = refl
shape_ending to (Else line after) = refl
shape_ending to statement = refl

same_shapes : (place to : ℕ) (body : List Statement) → shapes (with_end place to body) ≡ shapes body
same_shapes place to body = map_ended shape shape_ending place to body

shapes_behind : (place to : ℕ) (body : List Statement) (last : Statement) → shapes (with_end place to body ++ last ∷ []) ≡ shapes body ++ shape last ∷ []
shapes_behind place to body last = map_push shape (with_end place to body) last ∙ ap (λ (t : List Shape). t ++ shape last ∷ []) (same_shapes place to body)

pub ended_size : (place to : ℕ) (body : List Statement) → length (with_end place to body) ≡ length body
ended_size place to body = sym (length-map (with_end place to body) shape) ∙ (ap length (same_shapes place to body) ∙ length-map body shape)

end_ending : (to end : ℕ) (statement : Statement) → part_end (Some (ending to statement)) ≡ Some end → end ≡ to
end_ending to end (If line register otherwise) e = cc
end_ending to end (Else line after) e = cc
end_ending to end statement e = cc

ended_by : (found : Option Statement) (place to : ℕ) (body : List Statement) → slice_get body place ≡ found → (other end : ℕ)
    → part_end (slice_get (ended_at found place to body) other) ≡ Some end → ((other ≡ place) × (end ≡ to)) ⊎ ((other ≡ place → ⊥) × (part_end (slice_get body other) ≡ Some end))
ended_by None place to body e other end h = inr (λ same. let clash : None ≡ Some end = ap part_end (sym e ∙ ap (slice_get body) (sym same)) ∙ h in cc, h)
ended_by (Some statement) place to body e other end h = by (other == place) refl
  where
    by : (b : Bool) → (other == place) ≡ b → ((other ≡ place) × (end ≡ to)) ⊎ ((other ≡ place → ⊥) × (part_end (slice_get body other) ≡ Some end))
    by true t =
        let same : other ≡ place = grind (arith, nat_tests) in
        let found : slice_get (set body place (ending to statement)) other ≡ Some (ending to statement) =
        ap (slice_get (set body place (ending to statement))) same ∙ get_set_same body place (ending to statement) (slice_get_within body place statement e) in
        inl (same, end_ending to end statement (ap part_end (sym found) ∙ h))
    by false t =
        let apart : other ≡ place → ⊥ = λ same. grind (arith, nat_tests) in
        inr (apart, ap part_end (sym (get_set_other body place other (ending to statement) apart)) ∙ h)

module _ (body : List Statement) (part : Part) (parts : List Part) (last : Statement) (ending_shape : IsEnding (shape last))
    (encloses : Encloses (Some (opening part.second)) (Some (shape last))) where
  -- the innermost part ends behind the statement that comes
  linked_end : (more : List Part) → IsBuilt body (part ∷ parts) → ((to : ℕ) → part_end (Some last) ≡ Some to → IsOpenAt more (length body))
      → ((place : ℕ) → IsOpenAt parts place → IsOpenAt more place)
      → IsLinkedBut more (shapes (with_end part.place (length body + 1) body ++ last ∷ [])) (with_end part.place (length body + 1) body ++ last ∷ [])
  linked_end more b new old =
      let ended = ended_by (slice_get body part.place) part.place (length body + 1) body refl in
      let changed = with_end part.place (length body + 1) body in
      let m = length-map body shape in
      let size : length changed ≡ length body = ended_size part.place (length body + 1) body in
      let all : shapes (changed ++ last ∷ []) ≡ shapes body ++ shape last ∷ [] = shapes_behind part.place (length body + 1) body last in
      let here : ClosesAt (shapes body ++ shape last ∷ []) part.place (length body + 1) =
      subst (λ (n : ℕ). ClosesAt (shapes body ++ shape last ∷ []) part.place (n + 1)) m (closes_here (shapes body) part.place (opening part.second) (shape last) ending_shape b.opened.0 b.opened.1 b.opened.2 encloses) in
      λ place to e.
      subst (λ (t : List Shape). IsOpenAt more place ⊎ ClosesAt t place to) (sym all)
      (by changed place to size here (ended place to) (push_end changed last place to e))
    where
      rest : (place to : ℕ) → (place ≡ part.place → ⊥) → IsOpenAt (part ∷ parts) place ⊎ ClosesAt (shapes body) place to
          → IsOpenAt more place ⊎ ClosesAt (shapes body ++ shape last ∷ []) place to
      rest place to apart (inl (inl o)) = absurd (apart o)
      rest place to apart (inl (inr o)) = inl (old place o)
      rest place to apart (inr c) = inr (closes_push (shapes body) (shape last ∷ []) place to c)

      either : (place to : ℕ) → ClosesAt (shapes body ++ shape last ∷ []) part.place (length body + 1)
          → ((place ≡ part.place) × (to ≡ length body + 1)) ⊎ ((place ≡ part.place → ⊥) × (part_end (slice_get body place) ≡ Some to))
          → IsOpenAt more place ⊎ ClosesAt (shapes body ++ shape last ∷ []) place to
      either place to here (inl f) =
          inr (subst (λ (n : ℕ). ClosesAt (shapes body ++ shape last ∷ []) place n) (sym f.1) (subst (λ (n : ℕ). ClosesAt (shapes body ++ shape last ∷ []) n (length body + 1)) (sym f.0) here))
      either place to here (inr f) = rest place to f.0 (b.linked place to f.1)

      by : (changed : List Statement) (place to : ℕ) → length changed ≡ length body → ClosesAt (shapes body ++ shape last ∷ []) part.place (length body + 1)
          → (part_end (slice_get changed place) ≡ Some to → ((place ≡ part.place) × (to ≡ length body + 1)) ⊎ ((place ≡ part.place → ⊥) × (part_end (slice_get body place) ≡ Some to)))
          → (part_end (slice_get changed place) ≡ Some to) ⊎ ((place ≡ length changed) × (part_end (Some last) ≡ Some to))
          → IsOpenAt more place ⊎ ClosesAt (shapes body ++ shape last ∷ []) place to
      by changed place to size here split (inl f) = either place to here (split f)
      by changed place to size here split (inr f) = inl (subst (λ (n : ℕ). IsOpenAt more n) (sym (f.0 ∙ size)) (new to f.1))

module _ (body : List Statement) (part : Part) (parts : List Part) (line : ℕ) (b : IsBuilt body (part ∷ parts)) where
  -- an `else`, which ends the first part of its `if`
  pub built_else : part.second ≡ false → IsBuilt (with_end part.place (length body + 1) body ++ Else line 0 ∷ []) (part_at (length body) true ∷ parts)
  built_else first =
      let e = shapes_behind part.place (length body + 1) body (Else line 0) in
      let m = length-map body shape in
      let l = length_push (shapes body) Divides in
      let past : drop (length body + 1) (shapes body ++ Divides ∷ []) ≡ [] = drop_all (length body + 1) (shapes body ++ Divides ∷ []) (omega (arith, m, l)) in
      record {
        total = ap (scan 0) e ∙ scan_push 0 (suc (length parts)) (shapes body) Divides b.total;
        opened = subst (λ (t : List Shape). Opened 0 (part_at (length body) true ∷ parts) t) (sym e) (
          omega (arith, m, l),
          ap (scan 0) past,
          get_last (shapes body) Divides (length body) (sym m),
          opened_push Divides (λ d k. (d ≡ k) × (0 < d)) divides_one (λ d k h. (ap suc h.0, omega arith)) 1 1 parts (shapes body) (refl, omega arith) b.opened.3,
        );
        linked = linked_end body part parts (Else line 0) tt (subst (λ (second : Bool). Encloses (Some (opening second)) (Some Divides)) (sym first) tt) (part_at (length body) true ∷ parts) b (λ to h. inl refl) (λ place o. inr o);
      }
    where
      divides_one : (d k : ℕ) → (d ≡ k) × (0 < d) → scan d (Divides ∷ []) ≡ Some k
      divides_one zero k h = absurd (omega (arith, h.1))
      divides_one (suc d) k h = ap (λ (n : ℕ). Some n) h.0

  -- an `end` of an `if`
  pub built_end : IsBuilt (with_end part.place (length body + 1) body ++ End line ∷ []) parts
  built_end =
      let e = shapes_behind part.place (length body + 1) body (End line) in
      record {
        total = ap (scan 0) e ∙ scan_push 0 (suc (length parts)) (shapes body) Closes b.total;
        opened = subst (λ (t : List Shape). Opened 0 parts t) (sym e)
            (opened_push Closes (λ d k. d ≡ suc k) closes_one (λ d k h. ap suc h) 1 0 parts (shapes body) refl b.opened.3);
        linked = linked_end body part parts (End line) tt (end_encloses part.second) parts b (λ to h. cc) (λ place o. o);
      }
    where
      end_encloses : (second : Bool) → Encloses (Some (opening second)) (Some Closes)
      end_encloses false = tt
      end_encloses true = tt

      closes_one : (d k : ℕ) → d ≡ suc k → scan d (Closes ∷ []) ≡ Some k
      closes_one zero k h = absurd (omega (arith, h))
      closes_one (suc d) k h = let same : d ≡ k = omega (arith, h) in ap (λ (n : ℕ). Some n) same

-- ---- a body without open parts

pub linked_whole : (body : List Statement) → IsBuilt body [] → IsLinked body
linked_whole body b place to e = by (b.linked place to e)
  where
    by : IsOpenAt [] place ⊎ ClosesAt (shapes body) place to → EndsAt body place to
    by (inl o) = absurd o
    by (inr c) = ends_at body place to c

is_end_of : (found : Option Statement) → option_map shape found ≡ Some Closes → is_end found ≡ true
is_end_of None e = cc
is_end_of (Some (End line)) e = refl
is_end_of (Some statement) e = cc

closed_by_end : (behind : Option Shape) → Encloses (Some Divides) behind → behind ≡ Some Closes
closed_by_end None e = absurd e
closed_by_end (Some Closes) e = refl
closed_by_end (Some s) e = absurd e

pub divided_whole : (body : List Statement) → IsBuilt body [] → IsDivided body
divided_whole body b place line after e = by (b.linked place after (ap part_end e))
  where
    here : slice_get (shapes body) place ≡ Some Divides
    here = slice_get-map shape body place ∙ ap (option_map shape) e

    by : IsOpenAt [] place ⊎ ClosesAt (shapes body) place after → IsTrue (is_end (slice_get body (after - 1)))
    by (inl o) = absurd o
    by (inr c) =
        let at : after - 1 ≡ place + c.0 = omega (arith, c.1) in
        let closing = closed_by_end (slice_get (shapes body) (place + c.0)) (subst (λ (o : Option Shape). Encloses o (slice_get (shapes body) (place + c.0))) here c.3) in
        is_end_of (slice_get body (after - 1)) (ap (λ (k : ℕ). option_map shape (slice_get body k)) at ∙ (sym (slice_get-map shape body (place + c.0)) ∙ closing))

-- the parts that are open, by statements and by shapes
open_scan : (depth : ℕ) (body : List Statement) → open_behind depth body ≡ scan depth (shapes body)
open_scan depth [] = refl
open_scan depth (If line register otherwise ∷ body) = open_scan (suc depth) body
open_scan zero (Else line after ∷ body) = refl
open_scan (suc depth) (Else line after ∷ body) = open_scan (suc depth) body
open_scan zero (End line ∷ body) = refl
open_scan (suc depth) (End line ∷ body) = open_scan depth body
open_scan depth (statement ∷ body) = open_scan depth body

pub balanced_whole : (body : List Statement) → IsBuilt body [] → IsBalanced body
balanced_whole body b = open_scan 0 body ∙ b.total
