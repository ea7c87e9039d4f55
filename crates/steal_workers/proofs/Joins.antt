-- Passes that go back one after another.
use Rattle.std.proofs.Common.{◌≡◌, ℕ, ◌+◌, ◌<◌, List, [], ◌∷◌, ◌++◌, take, map, length, set, get_or, append_assoc, length-append, refl, sym, subst, ap, arith, ◌∙◌}
use Rattle.std.proofs.lemmas.List.{take_more, take_more_set, get_or-map, get_or_at, length-map, map-append}
use Rattle.std.proofs.lemmas.List.Elements.{All-push, All-same}
use Rattle.steal_workers.specs.declared.pass_log.PassLog.{PassLog}
use Rattle.steal_workers.specs.PassLogs.{joined}
use Rattle.steal_workers.specs.StealHandles.{Deque, AllLeadTo, joined_each}

-- none goes back
pub joined_each-nil : (vs : List PassLog) → joined_each vs [] ≡ vs
joined_each-nil [] = refl
joined_each-nil (v ∷ vs) = refl

-- the last goes back first, to the owner that it leads to
joined_each-last : (vs ws : List PassLog) (w d : PassLog) → length ws < length vs
    → joined_each (set vs (length ws) (joined (get_or vs (length ws) d) w)) ws ≡ joined_each vs (ws ++ w ∷ [])
joined_each-last [] ws w d within = absurd (omega (arith, within))
joined_each-last (v ∷ vs) [] w d within = ap (λ rest. joined v w ∷ rest) (sym (joined_each-nil vs))
joined_each-last (v ∷ vs) (u ∷ ws) w d within = ap (λ rest. joined v u ∷ rest) (joined_each-last vs ws w d (omega (arith, within)))

pub joined_last : (vs ws : List PassLog) (w v d : PassLog) (place : ℕ) → place ≡ length ws → place < length vs → get_or vs place d ≡ v
    → joined_each (set vs place (joined v w)) ws ≡ joined_each vs (ws ++ w ∷ [])
joined_last vs ws w v d place there within had =
    let last = joined_each-last vs ws w d (omega (arith, there, within)) in
    cc (last)

pub joined_none : (vs ws : List PassLog) → length ws ≡ 0 → joined_each vs ws ≡ vs
joined_none vs [] none = joined_each-nil vs
joined_none vs (w ∷ ws) none = absurd (omega (arith, none))

-- the last of some items leads where the others end
pub last_leads : {X Y : Type 0} (f : X → Y) (items left : List X) (x : X) (owns rest : List Y) → owns ≡ map f items ++ rest → items ≡ left ++ x ∷ [] → owns ≡ map f left ++ (f x ∷ rest)
last_leads f items left x owns rest same last =
    same ∙ ap (λ these. map f these ++ rest) last ∙ ap (λ ys. ys ++ rest) (map-append f left (x ∷ [])) ∙ append_assoc (map f left) (f x ∷ []) rest

pub led_to_last : {Y : Type 0} (owns led rest : List Y) (y d : Y) (place : ℕ) → owns ≡ led ++ (y ∷ rest) → length led ≡ place → (place < length owns) × (get_or owns place d ≡ y)
led_to_last owns led rest y d place same there =
    (omega (arith, ap length same, length-append led (y ∷ rest), there), ap (λ ys. get_or ys place d) same ∙ get_or_at led y rest d place there)

-- what was made of the first of some items, and of one more
pub one_more : {X Y : Type 0} (f : X → Y) (xs : List X) (made : List Y) (y e : Y) (place : ℕ) (d : X) → place < length xs → made ≡ take place (map f xs) → y ≡ f (get_or xs place d) → made ++ y ∷ [] ≡ take (place + 1) (map f xs)
one_more f xs made y e place d within before here =
    let more = take_more (map f xs) place y (omega (arith, length-map xs (f), within)) in
    let there = get_or-map f xs place d y within in
    cc (more, there)

-- one more worker leads to all deques
pub lead_more : {A : Type 0} (owns owns' : List (Deque A)) (others others' others'' : List (List (Deque A))) (deques : List (Deque A)) (place : ℕ) → owns' ≡ owns → others'' ≡ set others' place deques → others' ≡ others → deques ≡ owns
    → place < length others' → AllLeadTo owns (take place others) → AllLeadTo owns' (take (place + 1) others'')
lead_more owns owns' others others' others'' deques place same made kept leads within before =
    let old : AllLeadTo owns (take place others') = subst (λ all. AllLeadTo owns (take place all)) (sym kept) before in
    let new : AllLeadTo owns (take place others' ++ deques ∷ []) = All-push (λ ds. ds ≡ owns) (take place others') deques old leads in
    let at : AllLeadTo owns (take (place + 1) others'') = All-same (λ ds. ds ≡ owns) _ _ (ap (take (place + 1)) made ∙ take_more_set others' place deques within) new in
    subst (λ all. AllLeadTo all (take (place + 1) others'')) (sym same) at

-- the same workers lead to the same deques
pub lead_same : {A : Type 0} (owns owns' : List (Deque A)) (others others' : List (List (Deque A))) → owns' ≡ owns → others' ≡ others → AllLeadTo owns others → AllLeadTo owns' others'
lead_same owns owns' others others' own other leads = subst (λ ds. AllLeadTo ds others') (sym own) (subst (AllLeadTo owns) (sym other) leads)
