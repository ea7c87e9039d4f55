-- Where statements stand in a body.
use Rattle.std.proofs.Common.{◌≡◌, ℕ, zero, suc, ◌+◌, ◌-◌, ◌<◌, ◌≤◌, ◌⊎◌, inl, inr, List, [], ◌∷◌, Some, refl, sym, ap, ◌∙◌, subst, arith, length, drop, add-one}
use Rattle.std.specs.Prelude.{IsTrue, slice_get, slice_index_or}
use Rattle.std.proofs.lemmas.List.{length-drop, drop-drop}
use Rattle.std.proofs.lemmas.Option.{slice_get_within, slice_get-get_or}
use Rattle.model_bodies.specs.declared.statement.Statement.{Statement}
use Rattle.model_bodies.specs.declared.statement.Statement.TheVariants.{Else, End}
use Rattle.model_bodies.specs.Bodies.{behind_part, part_end, is_end, EndsAt, IsLinked, IsDivided}
use Rattle.model_bodies.specs.Trees.{Tree, left_of}
use Rattle.frame_steps.proofs.Trees.{Closes, Closed, else_closed}

-- the statement at a place, and those behind it
pub drop_at : (xs : List Statement) (place : ℕ) (statement : Statement) → slice_get xs place ≡ Some statement → drop place xs ≡ statement ∷ drop (place + 1) xs
drop_at [] zero statement h = cc
drop_at [] (suc place) statement h = cc
drop_at (x ∷ xs) zero statement h = let e : x ≡ statement = cc in ap (λ y. y ∷ xs) e
drop_at (x ∷ xs) (suc place) statement h = rw (add-one) (let k = drop_at xs place statement h in let e : drop (place + 1) xs ≡ drop (suc place) xs = rw add-one in k ∙ ap (λ l. statement ∷ l) e)

-- and back
at_drop : (xs later : List Statement) (place : ℕ) (statement : Statement) → drop place xs ≡ statement ∷ later → (slice_get xs place ≡ Some statement) × (place + 1 + length later ≡ length xs)
at_drop [] later zero statement h = cc
at_drop [] later (suc place) statement h = cc
at_drop (x ∷ xs) later zero statement h = (let e : x ≡ statement = cc in ap Some e, let e : xs ≡ later = cc in let k = ap length e in omega arith)
at_drop (x ∷ xs) later (suc place) statement h = let r = at_drop xs later place statement h in (r.0, let k = r.1 in omega arith)

-- an item that is there
pub found : {A : Type 0} (xs : List A) (k : ℕ) → k < length xs → (x : A) × (slice_get xs k ≡ Some x)
found [] k h = absurd (omega arith)
found (x ∷ xs) zero h = (x, refl)
found (x ∷ xs) (suc k) h = found xs k (omega arith)

pub lt_or_le : (m n : ℕ) → (m < n) ⊎ (n ≤ m)
lt_or_le m zero = inr (omega arith)
lt_or_le zero (suc n) = inl (omega arith)
lt_or_le (suc m) (suc n) = elim (lt_or_le m n) [ inl h ↦ inl (omega arith) | inr h ↦ inr (omega arith) ]

-- an item of a slice of the list
pub item_of : {A : Type 0} (xs ys : List A) (k : ℕ) (x y : A) → xs ≡ ys → slice_get ys k ≡ Some y → x ≡ slice_index_or xs k x → slice_get ys k ≡ Some x
item_of xs ys k x y e h g = let l = slice_get_within ys k y h in slice_get-get_or ys k x l ∙ ap Some (ap (λ l. slice_index_or l k x) (sym e) ∙ sym g)

module _ (body : List Statement) (place line after : ℕ) (ends : EndsAt body place after) where
  -- the line that closes the part behind an `else` stands before the place that the `else` names
  closing_before : (c : Closed (drop (place + 1) body) (behind_part 0 (drop (place + 1) body)) (left_of (Else line after ∷ drop (place + 1) body))) → slice_get body (after - 1) ≡ Some c.closing
  closing_before c =
      let a : drop (place + 1 + c.place) body ≡ c.closing ∷ drop after body = sym (drop-drop c.place (place + 1) body) ∙ c.at ∙ ap (λ l. c.closing ∷ l) (sym ends.2) in
      let r = at_drop body (drop after body) (place + 1 + c.place) c.closing a in
      let l = length-drop after body in
      let n : place + 1 + c.place ≡ after - 1 = let k = r.1 in let w = ends.1 in omega arith in
      subst (λ p. slice_get body p ≡ Some c.closing) n r.0

behind_closing : (closing : Statement) (later : List Statement) (outer : Tree) → IsTrue (is_end (Some closing)) → Closes closing later outer → left_of later ≡ outer
behind_closing (End line) later outer e c = c
behind_closing statement later outer e c = cc

-- at an `else` the same is left as at the place that it names
pub left_behind_else : (body : List Statement) (place line after : ℕ) → IsLinked body → IsDivided body → slice_get body place ≡ Some (Else line after) → left_of (drop after body) ≡ left_of (Else line after ∷ drop (place + 1) body)
left_behind_else body place line after linked divided at =
    let ends = linked place after (ap part_end at) in
    elim (else_closed line after (drop (place + 1) body)) [
      | inl c ↦ ap left_of ends.2 ∙ behind_closing c.closing _ _ (subst (λ o. IsTrue (is_end o)) (closing_before body place line after ends c) (divided place line after at)) c.closes
      | inr d ↦ ap left_of (ends.2 ∙ d.0) ∙ sym d.1
    ]
