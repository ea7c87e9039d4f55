-- A strand's view is the product of its log, and so at a granted get that of the last put and the updates that count.
-- h: a history, of events or of items; s, x: strands; u: an update or put with its number; p: a put; f: the logs of strands; g: their views
use Rattle.std.proofs.Common.{◌≡◌, inl, inr, ℕ, suc, ◌≤◌, List, [], ◌∷◌, ◌++◌, map, length, All, IsTrue, refl, sym, ap, ap₂, ◌∙◌, subst, arith}
use Rattle.std.proofs.lemmas.List.{map-append}
use Rattle.std.specs.List.{flat_map}
use Rattle.model_strands.specs.Updated.{updated}
use Rattle.model_strands.specs.History.{Event, split, same, joined, waits, call, resumed, ended, ended_joined, finished, History}
use Rattle.law_strands.specs.Gatherings.{gathered}
use Rattle.law_strands.proofs.Updates.{same_or_not, updated_at, updated_off}
use Rattle.law_strands.proofs.Members.{Present, present_map, all_present, contains_present}
use Rattle.model_reducers.specs.Items.{control, update, put, other, Items, control_events}
use Rattle.model_reducers.specs.Entries.{Entry, update_entry, put_entry, entry_number, entry_value, HasUpdate, HasPut}
use Rattle.law_values.specs.Logs.{logs_after, log}
use Rattle.model_reducers.specs.Views.{Reducer, product}
use Rattle.law_values.specs.Views.{views_after, view, IsMonoidOn, EntriesFit}
use Rattle.law_values.specs.GetValues.{IsGranted}
use Rattle.model_reducers.specs.GetValues.{AreCounted, IsValue}
use Rattle.law_values.specs.Laws.{ValuesAre, ValueLaw}
use Rattle.law_values.proofs.Lists.{in_flat}
use Rattle.law_values.proofs.Steps.{written, put_numbered}
use Rattle.law_values.proofs.Law.{log_law, counted_law}
use Rattle.law_values.proofs.Products.{product_append}

-- the view that an update or a put makes
abbrev view_of : {View : Type 0} → Reducer View → Entry → View
view_of reducer (update_entry number strand value) = reducer.of_update value
view_of reducer (put_entry number strand value) = reducer.of_put value

put_view : {View : Type 0} (reducer : Reducer View) (h : Items) (u : Entry) → HasPut h u → view_of reducer u ≡ reducer.of_put (entry_value u)
put_view reducer [] u t = absurd t
put_view reducer (control e ∷ h) u t = put_view reducer h u t
put_view reducer (update s v ∷ h) u t = put_view reducer h u t
put_view reducer (put s v ∷ h) u (inl e) = subst (λ w. view_of reducer w ≡ reducer.of_put (entry_value w)) (sym e) refl
put_view reducer (put s v ∷ h) u (inr t) = put_view reducer h u t
put_view reducer (other s ∷ h) u t = put_view reducer h u t

update_view : {View : Type 0} (reducer : Reducer View) (h : Items) (u : Entry) → HasUpdate h u → view_of reducer u ≡ reducer.of_update (entry_value u)
update_view reducer [] u t = absurd t
update_view reducer (control e ∷ h) u t = update_view reducer h u t
update_view reducer (put s v ∷ h) u t = update_view reducer h u t
update_view reducer (update s v ∷ h) u (inl e) = subst (λ w. view_of reducer w ≡ reducer.of_update (entry_value w)) (sym e) refl
update_view reducer (update s v ∷ h) u (inr t) = update_view reducer h u t
update_view reducer (other s ∷ h) u t = update_view reducer h u t

-- the product of the views that the entries made
abbrev image : {View : Type 0} → Reducer View → List Entry → View
image reducer entries = product reducer (map (view_of reducer) entries)

image_append : {View : Type 0} (Fits : View → Type 0) (reducer : Reducer View) → IsMonoidOn Fits reducer → (us ws : List Entry) →
    ((u : Entry) → Present u us → Fits (view_of reducer u)) → ((u : Entry) → Present u ws → Fits (view_of reducer u)) →
    image reducer (us ++ ws) ≡ reducer.combine (image reducer us) (image reducer ws)
image_append Fits reducer k us ws fu fw =
    ap (product reducer) (map-append (view_of reducer) us ws) ∙
    product_append Fits reducer k (map (view_of reducer) us) (map (view_of reducer) ws) (images_fit us fu) (images_fit ws fw)
  where
    images_fit : (xs : List Entry) → ((u : Entry) → Present u xs → Fits (view_of reducer u)) → All Fits (map (view_of reducer) xs)
    images_fit xs f =
        all_present Fits (map (view_of reducer) xs) (λ v i. let t = present_map (view_of reducer) v xs i in subst Fits t.2 (f t.0 t.1))

image_flat : {View : Type 0} (Fits : View → Type 0) (reducer : Reducer View) → IsMonoidOn Fits reducer → (f : ℕ → List Entry) (g : ℕ → View) →
    ((x : ℕ) (u : Entry) → Present u (f x) → Fits (view_of reducer u)) → ((x : ℕ) → g x ≡ image reducer (f x)) → (xs : List ℕ) →
    product reducer (map g xs) ≡ image reducer (flat_map f xs)
image_flat Fits reducer k f g fit e [] = refl
image_flat Fits reducer k f g fit e (x ∷ xs) =
    ap₂ reducer.combine (e x) (image_flat Fits reducer k f g fit e xs) ∙
    sym (image_append Fits reducer k (f x) (flat_map f xs) (fit x) (λ u i. let t = in_flat f xs u i in fit t.0 u t.2))

-- two functions that are changed alike stay alike
updated_like : {View : Type 0} (to : List Entry → View) (f : ℕ → List Entry) (g : ℕ → View) (y : ℕ) (us : List Entry) (m : View) → m ≡ to us →
    ((x : ℕ) → g x ≡ to (f x)) → (x : ℕ) → updated g y m x ≡ to (updated f y us x)
updated_like to f g y us m e k x = elim (same_or_not x y) [
  | inl q ↦ updated_at g y m x q ∙ (e ∙ ap to (sym (updated_at f y us x q)))
  | inr ne ↦ updated_off g y m x ne ∙ (k x ∙ ap to (sym (updated_off f y us x ne)))
]

after_alike : {View : Type 0} (Fits : View → Type 0) (reducer : Reducer View) → IsMonoidOn Fits reducer → (h : History) (e : Event) (f : ℕ → List Entry)
    (g : ℕ → View) → ((x : ℕ) (u : Entry) → Present u (f x) → Fits (view_of reducer u)) → ((x : ℕ) → g x ≡ image reducer (f x)) → (x : ℕ) →
    views_after reducer h e g x ≡ image reducer (logs_after h e f x)
after_alike Fits reducer k h (split s c n j first) f g fit old x =
    updated_like (image reducer) (updated f c (f s)) (updated g c (g s)) n [] reducer.identity refl (updated_like (image reducer) f g c (f s) (g s) (old s) old) x
after_alike Fits reducer k h (joined s j) f g fit old x =
    updated_like (image reducer) f g j (flat_map f (gathered (joined s j ∷ h) j)) (product reducer (map g (gathered (joined s j ∷ h) j)))
    (image_flat Fits reducer k f g fit old (gathered (joined s j ∷ h) j)) old x
after_alike Fits reducer k h (ended_joined s j) f g fit old x =
    updated_like (image reducer) f g j (flat_map f (gathered (ended_joined s j ∷ h) j)) (product reducer (map g (gathered (ended_joined s j ∷ h) j)))
    (image_flat Fits reducer k f g fit old (gathered (ended_joined s j ∷ h) j)) old x
after_alike Fits reducer k h (same s) f g fit old x = old x
after_alike Fits reducer k h (waits s) f g fit old x = old x
after_alike Fits reducer k h (call s) f g fit old x = old x
after_alike Fits reducer k h (resumed s) f g fit old x = old x
after_alike Fits reducer k h (ended s) f g fit old x = old x
after_alike Fits reducer k h (finished s) f g fit old x = old x

log_fits : {View : Type 0} (Fits : View → Type 0) (reducer : Reducer View) (h : Items) → EntriesFit Fits reducer h → (x : ℕ) (u : Entry) →
    Present u (log h x) → Fits (view_of reducer u)
log_fits Fits reducer h fit x u i = elim (written h x u i) [
  | inl t ↦ subst Fits (sym (update_view reducer h u t)) (fit.updates u t)
  | inr t ↦ subst Fits (sym (put_view reducer h u t)) (fit.puts u t)
]

view_is_image : {View : Type 0} (Fits : View → Type 0) (reducer : Reducer View) → IsMonoidOn Fits reducer → (h : Items) → EntriesFit Fits reducer h → (x : ℕ) →
    view reducer h x ≡ image reducer (log h x)
view_is_image Fits reducer k [] fit x = refl
view_is_image Fits reducer k (control e ∷ h) fit x =
    after_alike Fits reducer k (control_events h) e (log h) (view reducer h) (log_fits Fits reducer h older) (view_is_image Fits reducer k h older) x
  where
    older : EntriesFit Fits reducer h
    older = record { updates = λ u t. fit.updates u t; puts = λ u t. fit.puts u t }
view_is_image Fits reducer k (update s v ∷ h) fit x =
    updated_like (image reducer) (log h) (view reducer h) s (log h s ++ (new ∷ [])) (reducer.combine (view reducer h s) (reducer.of_update v))
    (ap₂ reducer.combine (view_is_image Fits reducer k h older s) (sym (k.right_identity (reducer.of_update v) new_fits)) ∙
    sym (image_append Fits reducer k (log h s) (new ∷ []) (log_fits Fits reducer h older s) one))
    (view_is_image Fits reducer k h older) x
  where
    new : Entry
    new = update_entry (suc (length h)) s v

    new_fits : Fits (reducer.of_update v)
    new_fits = fit.updates (update_entry (suc (length h)) s v) (inl refl)

    older : EntriesFit Fits reducer h
    older = record { updates = λ u t. fit.updates u (inr t); puts = λ u t. fit.puts u t }

    one : (u : Entry) → Present u (update_entry (suc (length h)) s v ∷ []) → Fits (view_of reducer u)
    one u (inl e) = subst (λ w. Fits (view_of reducer w)) e new_fits
    one u (inr i) = absurd i
view_is_image Fits reducer k (put s v ∷ h) fit x =
    updated_like (image reducer) (log h) (view reducer h) s (put_entry (suc (length h)) s v ∷ []) (reducer.of_put v)
    (sym (k.right_identity (reducer.of_put v) (fit.puts (put_entry (suc (length h)) s v) (inl refl))))
    (view_is_image Fits reducer k h older) x
  where
    older : EntriesFit Fits reducer h
    older = record { updates = λ u t. fit.updates u t; puts = λ u t. fit.puts u (inr t) }
view_is_image Fits reducer k (other s ∷ h) fit x =
    view_is_image Fits reducer k h (record { updates = λ u t. fit.updates u t; puts = λ u t. fit.puts u t }) x

updates_image : {View : Type 0} (reducer : Reducer View) (h : Items) (us : List Entry) → ((u : Entry) → Present u us → HasUpdate h u) →
    image reducer us ≡ product reducer (map (λ u. reducer.of_update (entry_value u)) us)
updates_image reducer h [] k = refl
updates_image reducer h (u ∷ us) k =
    ap₂ reducer.combine (update_view reducer h u (k u (inl refl))) (updates_image reducer h us (λ w i. k w (inr i)))

-- the view at a granted get
view_at : {View : Type 0} (Fits : View → Type 0) (reducer : Reducer View) → IsMonoidOn Fits reducer → (h : Items) → EntriesFit Fits reducer h →
    (s : ℕ) (p : Entry) → IsGranted h s p → (us : List Entry) → AreCounted h p s us →
    view reducer h s ≡ reducer.combine (reducer.of_put (entry_value p)) (product reducer (map (λ u. reducer.of_update (entry_value u)) us))
view_at Fits reducer k h fit s p g us counted =
    let found = log_law h s p g in
    let e : found.0 ≡ us = counted_law h g.legal s p found.0 us found.1 counted in
    view_is_image Fits reducer k h fit s ∙ ap (image reducer) (found.2 ∙ ap (λ ws. p ∷ ws) e) ∙
    ap₂ reducer.combine (put_view reducer h p g.last.0)
    (updates_image reducer h us (λ u i. ((counted.1 u).0 ((contains_present u us).1 i)).0))

-- only one put is the last
last_alike : (h : Items) (p q : Entry) → HasPut h p → HasPut h q → entry_number p ≡ entry_number q → p ≡ q
last_alike [] p q t r e = absurd t
last_alike (control x ∷ h) p q t r e = last_alike h p q t r e
last_alike (update s v ∷ h) p q t r e = last_alike h p q t r e
last_alike (other s ∷ h) p q t r e = last_alike h p q t r e
last_alike (put s v ∷ h) p q (inl t) (inl r) e = t ∙ sym r
last_alike (put s v ∷ h) p q (inl t) (inr r) e =
    absurd (let m : entry_number q ≤ length h = put_numbered h q r in let m' : entry_number p ≡ suc (length h) = ap entry_number t in omega arith)
last_alike (put s v ∷ h) p q (inr t) (inl r) e =
    absurd (let m : entry_number p ≤ length h = put_numbered h p t in let m' : entry_number q ≡ suc (length h) = ap entry_number r in omega arith)
last_alike (put s v ∷ h) p q (inr t) (inr r) e = last_alike h p q t r e

pub value_law : {View : Type 0} (Fits : View → Type 0) (reducer : Reducer View) → ValuesAre Fits reducer
value_law {View} Fits reducer k h fit s p g value = (to, from)
  where
    to : IsValue reducer h s value → value ≡ view reducer h s
    to is =
        let a : entry_number p ≤ entry_number is.put = is.last.1 p g.last.0 in
        let b : entry_number is.put ≤ entry_number p = g.last.1 is.put is.last.0 in
        let same : p ≡ is.put = last_alike h p is.put g.last.0 is.last.0 (omega arith) in
        is.combined ∙ sym (view_at Fits reducer k h fit s is.put (subst (IsGranted h s) same g) is.counted is.counts)

    from : value ≡ view reducer h s → IsValue reducer h s value
    from e =
        let found = log_law h s p g in
        record { put = p; last = g.last; counted = found.0; counts = found.1; combined = e ∙ view_at Fits reducer k h fit s p g found.0 found.1 }

pub value_laws : (View : Type 0) → ValueLaw View
value_laws View reducer fits = value_law (λ view. IsTrue (fits view)) reducer
