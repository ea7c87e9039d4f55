-- In serial order each get is given the value of the elision's view.
use Rattle.std.proofs.Common.{◌≡◌, ◌≢◌, ◌⊎◌, inl, inr, ℕ, ◌<◌, Bool, true, false, Option, List, [], ◌∷◌, ◌++◌, AllPairs, refl, sym, ap, ◌∙◌, subst, arith}
use Rattle.law_addresses.specs.Address.{english_before, reaches, parallel}
use Rattle.law_addresses.proofs.Relations.{parallel-self}
use Rattle.law_addresses.proofs.Branches.{branch-peers}
use Rattle.law_addresses.proofs.Sorted.{pairs-head, pairs-tail}
use Rattle.model_accesses.specs.declared.request.Act.{Act}
use Rattle.model_reducers.specs.declared.monoid.Monoid.{Monoid}
use Rattle.model_strands.specs.History.{History}
use Rattle.model_strands.specs.Strands.{Begun}
use Rattle.model_strands.specs.Legal.{Legal}
use Rattle.model_strands.specs.Dag.{Reaches, IsParallel}
use Rattle.model_strands.specs.Addresses.{address}
use Rattle.law_strands.specs.Branches.{branch}
use Rattle.law_strands.proofs.Law.{reach_precedes, precedes_reach}
use Rattle.law_strands.proofs.Words.{english_asymmetric}
use Rattle.law_strands.proofs.Orders.{parallel_iff}
use Rattle.law_strands.proofs.Branches.{branch_address_law}
use Rattle.law_strands.proofs.Members.{Present, present_all}
use Rattle.model_histories.specs.Entries.{Entries, control_part}
use Rattle.model_reducers.specs.declared.view.View.{View}
use Rattle.model_reducers.specs.Products.{update_view, put_view, product_of}
use Rattle.model_programs.specs.Evaluation.{Effect}
use Rattle.model_runs.specs.Serial.{value_given}
use Rattle.law_elision.specs.Placed.{Placed}
use Rattle.law_elision.proofs.Trees.{IsEarlier}
use Rattle.law_elision.proofs.Runs.{placed_effects}
use Rattle.law_elision.proofs.Cells.{this_cell, other_cell}
use Rattle.law_elision.proofs.Stores.{view_after, view_after_all, IsGetRight, AreGetsRight}
use Rattle.law_elision.proofs.Insertions.{never_earlier}
use Rattle.law_elision.proofs.Roles.{updates, puts, gets, aside, role}

-- stretches of effects

pub views_parts : (monoid : Monoid) (reducer : ℕ) (first second : List Effect) (view : View) →
    view_after_all monoid (first ++ second) reducer view ≡ view_after_all monoid second reducer (view_after_all monoid first reducer view)
views_parts monoid reducer [] second view = refl
views_parts monoid reducer (one ∷ first) second view = views_parts monoid reducer first second (view_after monoid one.act reducer view)

pub gets_first : (monoid : Monoid) (reducer : ℕ) (first second : List Effect) (view : View) → AreGetsRight monoid reducer view (first ++ second) →
    AreGetsRight monoid reducer view first
gets_first monoid reducer [] second view r = tt
gets_first monoid reducer (one ∷ first) second view r = (r.0, gets_first monoid reducer first second (view_after monoid one.act reducer view) r.1)

pub gets_second : (monoid : Monoid) (reducer : ℕ) (first second : List Effect) (view : View) → AreGetsRight monoid reducer view (first ++ second) →
    AreGetsRight monoid reducer (view_after_all monoid first reducer view) second
gets_second monoid reducer [] second view r = r
gets_second monoid reducer (one ∷ first) second view r = gets_second monoid reducer first second (view_after monoid one.act reducer view) r.1

pub gets_both : (monoid : Monoid) (reducer : ℕ) (first second : List Effect) (view : View) → AreGetsRight monoid reducer view first →
    AreGetsRight monoid reducer (view_after_all monoid first reducer view) second → AreGetsRight monoid reducer view (first ++ second)
gets_both monoid reducer [] second view r q = q
gets_both monoid reducer (one ∷ first) second view r q = (r.0, gets_both monoid reducer first second (view_after monoid one.act reducer view) r.1 q)

-- acts by their roles

pub not_get_right : (reducer : ℕ) (act : Act) → act ≢ Act.Get reducer → (view : View) (given : Option ℕ) → IsGetRight reducer view act given
not_get_right reducer (Act.Get asked) ne view given = λ e. absurd (ne (ap (λ r. Act.Get r) e))
not_get_right reducer Act.Spawn ne view given = tt
not_get_right reducer Act.Sync ne view given = tt
not_get_right reducer Act.Call ne view given = tt
not_get_right reducer Act.Return ne view given = tt
not_get_right reducer (Act.Read location) ne view given = tt
not_get_right reducer (Act.Write location written) ne view given = tt
not_get_right reducer (Act.Bump location added) ne view given = tt
not_get_right reducer (Act.Update asked updated) ne view given = tt
not_get_right reducer (Act.Put asked put) ne view given = tt

pub aside_view : (monoid : Monoid) (reducer : ℕ) (act : Act) → ((v : ℕ) → act ≢ Act.Update reducer v) → ((v : ℕ) → act ≢ Act.Put reducer v) → (view : View) →
    view_after monoid act reducer view ≡ view
aside_view monoid reducer (Act.Update asked v) nu np view =
    other_cell asked reducer (product_of monoid view (update_view monoid v)) view (λ e. nu v (ap (λ r. Act.Update r v) e))
aside_view monoid reducer (Act.Put asked v) nu np view = other_cell asked reducer (put_view monoid v) view (λ e. np v (ap (λ r. Act.Put r v) e))
aside_view monoid reducer (Act.Get asked) nu np view = refl
aside_view monoid reducer Act.Spawn nu np view = refl
aside_view monoid reducer Act.Sync nu np view = refl
aside_view monoid reducer Act.Call nu np view = refl
aside_view monoid reducer Act.Return nu np view = refl
aside_view monoid reducer (Act.Read location) nu np view = refl
aside_view monoid reducer (Act.Write location v) nu np view = refl
aside_view monoid reducer (Act.Bump location v) nu np view = refl

pub put_is : (monoid : Monoid) (reducer : ℕ) (act : Act) (v : ℕ) → act ≡ Act.Put reducer v → (view : View) → view_after monoid act reducer view ≡ put_view monoid v
put_is monoid reducer act v e view =
    subst (λ a. view_after monoid a reducer view ≡ put_view monoid v) (sym e) (this_cell reducer reducer (put_view monoid v) view refl)

pub update_is : (monoid : Monoid) (reducer : ℕ) (act : Act) (v : ℕ) → act ≡ Act.Update reducer v → (view : View) →
    view_after monoid act reducer view ≡ product_of monoid view (update_view monoid v)
update_is monoid reducer act v e view =
    subst (λ a. view_after monoid a reducer view ≡ product_of monoid view (update_view monoid v)) (sym e)
    (this_cell reducer reducer (product_of monoid view (update_view monoid v)) view refl)

-- a list in which a put comes before each get is right from each view

pub data Sheltered (reducer : ℕ) : List Placed → Type 0 where
  no_more : Sheltered reducer []
  by_put : {y : Placed} {back : List Placed} (v : ℕ) → y.entry.request.act ≡ Act.Put reducer v → Sheltered reducer (y ∷ back)
  no_get : {y : Placed} {back : List Placed} → y.entry.request.act ≢ Act.Get reducer → Sheltered reducer back → Sheltered reducer (y ∷ back)

pub put_no_get : {reducer v : ℕ} {act : Act} → act ≡ Act.Put reducer v → act ≢ Act.Get reducer
put_no_get e k = cc

pub update_no_get : {reducer v : ℕ} {act : Act} → act ≡ Act.Update reducer v → act ≢ Act.Get reducer
update_no_get e k = cc

pub update_no_put : {reducer other v w : ℕ} {act : Act} → act ≡ Act.Update reducer v → act ≢ Act.Put other w
update_no_put e k = cc

pub sheltered_right : (monoid : Monoid) (reducer : ℕ) (back : List Placed) → Sheltered reducer back → (view other : View) → AreGetsRight monoid reducer view (placed_effects back) →
    AreGetsRight monoid reducer other (placed_effects back)
sheltered_right monoid reducer back no_more view other r = r
sheltered_right monoid reducer back (by_put {y = y} {back = more} v e) view other r = (
  not_get_right reducer y.entry.request.act (put_no_get e) other (value_given y.entry.answer),
  subst (λ w. AreGetsRight monoid reducer w (placed_effects more))
      (put_is monoid reducer y.entry.request.act v e view ∙ sym (put_is monoid reducer y.entry.request.act v e other)) r.1,
)
sheltered_right monoid reducer back (no_get {y = y} {back = more} n s) view other r = (
  not_get_right reducer y.entry.request.act n other (value_given y.entry.answer),
  sheltered_right monoid reducer more s (view_after monoid y.entry.request.act reducer view) (view_after monoid y.entry.request.act reducer other) r.1,
)

-- no two entries are each before the other
pub earlier_once : (entries : Entries) (x y : Placed) → IsEarlier entries x y → IsEarlier entries y x → ⊥
earlier_once entries x y (inl a) (inl b) =
    english_asymmetric (address (control_part entries) x.entry.request.strand) (address (control_part entries) y.entry.request.strand) a b
earlier_once entries x y (inl a) (inr t) =
    never_earlier entries x (inl (subst (λ s. english_before (address (control_part entries) x.entry.request.strand) (address (control_part entries) s) ≡ true) t.0 a))
earlier_once entries x y (inr t) (inl b) =
    never_earlier entries y (inl (subst (λ s. english_before (address (control_part entries) y.entry.request.strand) (address (control_part entries) s) ≡ true) t.0 b))
earlier_once entries x y (inr t) (inr u) = let a : x.number < y.number = t.1 in let b : y.number < x.number = u.1 in omega arith

-- a put before each get
abbrev pub HasShelter : Entries → ℕ → List Placed → Placed → Type 0
HasShelter entries reducer back get =
    (put : Placed) × (v : ℕ) × (put.entry.request.act ≡ Act.Put reducer v) × Present put back × IsEarlier entries put get

narrower : (entries : Entries) (reducer : ℕ) (y : Placed) (back : List Placed) → ((v : ℕ) → y.entry.request.act ≢ Act.Put reducer v) → (get : Placed) →
    HasShelter entries reducer (y ∷ back) get → HasShelter entries reducer back get
narrower entries reducer y back n get (put, v, e, inl p, k) = absurd (n v (ap (λ z. z.entry.request.act) p ∙ e))
narrower entries reducer y back n get (put, v, e, inr p, k) = (put, v, e, p, k)

pub shelter : (entries : Entries) (reducer : ℕ) (back : List Placed) → AllPairs (IsEarlier entries) back →
    ((get : Placed) → Present get back → get.entry.request.act ≡ Act.Get reducer → HasShelter entries reducer back get) → Sheltered reducer back
shelter entries reducer [] sorted f = no_more
shelter entries reducer (y ∷ back) sorted f =
    elim (role reducer y.entry.request.act) [
      | puts v e ↦ by_put v e
      | updates v e ↦ no_get (update_no_get e) (shelter entries reducer back tail (λ get p k. narrower entries reducer y back (λ w. update_no_put e) get (f get (inr p) k)))
      | aside nu np ng ↦ no_get ng (shelter entries reducer back tail (λ get p k. narrower entries reducer y back np get (f get (inr p) k)))
      | gets e ↦ absurd (alone e (f y (inl refl) e))
    ]
  where
    tail : AllPairs (IsEarlier entries) back
    tail = pairs-tail (IsEarlier entries) y back sorted

    alone : y.entry.request.act ≡ Act.Get reducer → HasShelter entries reducer (y ∷ back) y → ⊥
    alone e (put, v, k, inl p, b) = put_no_get (ap (λ z. z.entry.request.act) p ∙ k) e
    alone e (put, v, k, inr p, b) = earlier_once entries y put (present_all (IsEarlier entries y) back (pairs-head (IsEarlier entries) y back sorted) put p) b

-- strands of one branch are not parallel
pub not_parallel : (h : History) → Legal h → (x y : ℕ) → Begun h x → Begun h y → branch h x ≡ branch h y → IsParallel h x y → ⊥
not_parallel h l x y bx by e p =
    let there : parallel (address h x) (address h y) ≡ true = (parallel_iff h l x y bx by).0 p in
    let same = branch-peers (address h x) (address h y) ((branch_address_law h l x y bx by).0 e) (address h x) in
    let itself = parallel-self (address h x) in
    cc

-- so one of them reaches the other
pub comparable : (h : History) → Legal h → (x y : ℕ) → Begun h x → Begun h y → branch h x ≡ branch h y → Reaches h x y ⊎ Reaches h y x
comparable h l x y bx by e = go (reaches (address h x) (address h y)) refl (reaches (address h y) (address h x)) refl
  where
    go : (a : Bool) → reaches (address h x) (address h y) ≡ a → (b : Bool) → reaches (address h y) (address h x) ≡ b → Reaches h x y ⊎ Reaches h y x
    go true p b q = inl (precedes_reach h l x y bx by p)
    go false p true q = inr (precedes_reach h l y x by bx q)
    go false p false q =
        absurd (not_parallel h l x y bx by e
        ((λ r. let t = reach_precedes h l x y r in let f : true ≡ false = sym t ∙ p in cc), (λ r. let t = reach_precedes h l y x r in let f : true ≡ false = sym t ∙ q in cc)))
