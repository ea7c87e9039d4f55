-- The view of a strand at a granted get is the value of the definition.
use Rattle.std.proofs.Common.{◌≡◌, inl, inr, ℕ, suc, ◌≤◌, List, [], ◌∷◌, map, length, Some, None, refl, sym, ◌∙◌, ap, subst, arith}
use Rattle.model_reducers.specs.declared.monoid.Monoid.{Monoid}
use Rattle.model_reducers.specs.declared.monoid.Monoid.TheVariants.{Sum, Min, Max, Last, Digits}
use Rattle.model_strands.specs.Strands.{Running}
use Rattle.law_strands.specs.Branches.{branch}
use Rattle.model_accesses.specs.Reads.{ReducerRead, IsReadOf}
use Rattle.model_reducers.specs.Items.{Items, control, update, put, other}
use Rattle.model_reducers.specs.Entries.{Entry, entry_number, strand_of, entry_value, HasPut}
use Rattle.model_reducers.specs.Steps.{Steps, items_of}
use Rattle.law_values.specs.Accesses.{control_steps, AreLegal}
use Rattle.model_reducers.specs.Views.{product}
use Rattle.model_reducers.specs.GetValues.{IsLastPut, IsValue}
use Rattle.law_values.specs.GetValues.{IsGranted}
use Rattle.law_values.proofs.Accesses.{projection_law}
use Rattle.law_values.proofs.Steps.{put_numbered}
use Rattle.model_reducers.specs.declared.view.View.{View}
use Rattle.model_reducers.specs.declared.view.View.TheVariants.{Nothing, One, Pair}
use Rattle.model_reducers.specs.Products.{product_of, put_view, update_view, view_number, reducer_of, monoid_of}
use Rattle.reducer_views.specs.Held.{AreNumbers, view_of}
use Rattle.reducer_views.proofs.Gets.{get_law}
use Rattle.model_races.specs.ReducerVerdicts.{IsGetValue}
use Rattle.race_gate.specs.Books.{PutsAreRead}

-- where there is a put, there is a last one
last-put : (items : Items) (some : Entry) → HasPut items some → (last : Entry) × IsLastPut items last
last-put [] some has = absurd has
last-put (control event ∷ items) some has = let (last, is) = last-put items some has in (last, is)
last-put (update strand value ∷ items) some has = let (last, is) = last-put items some has in (last, is)
last-put (other strand ∷ items) some has = let (last, is) = last-put items some has in (last, is)
last-put (put strand value ∷ items) some has = (_, (inl refl, newest))
  where
    newest : (one : Entry) → HasPut (put strand value ∷ items) one → entry_number one ≤ suc (length items)
    newest one (inl e) = let at : entry_number one ≡ suc (length items) = ap entry_number e in omega arith
    newest one (inr older) = omega (arith, put_numbered items one older)

-- what is combined with a put is a number
put-number : (monoid : Monoid) (value : ℕ) (view : View) → view_number (product_of monoid (put_view monoid value) view) ≡ None → ⊥
put-number Sum value Nothing e = absurd (cc)
put-number Sum value (One n) e = absurd (cc)
put-number Sum value (Pair m n) e = absurd (cc)
put-number Min value Nothing e = absurd (cc)
put-number Min value (One n) e = absurd (cc)
put-number Min value (Pair m n) e = absurd (cc)
put-number Max value Nothing e = absurd (cc)
put-number Max value (One n) e = absurd (cc)
put-number Max value (Pair m n) e = absurd (cc)
put-number Last value Nothing e = absurd (cc)
put-number Last value (One n) e = absurd (cc)
put-number Last value (Pair m n) e = absurd (cc)
put-number Digits value Nothing e = absurd (cc)
put-number Digits value (One n) e = absurd (cc)
put-number Digits value (Pair m n) e = absurd (cc)

value-some : (monoid : Monoid) (items : Items) (strand : ℕ) (view : View) → IsValue (reducer_of monoid) items strand view → view_number view ≡ None → ⊥
value-some monoid items strand view is none =
    put-number monoid (entry_value is.put) (product (reducer_of monoid) (map (λ (entry : Entry). update_view monoid (entry_value entry)) is.counted))
    (ap view_number (sym is.combined) ∙ none)

module _ (monoids : List Monoid) (steps : Steps) (earlier : List ReducerRead) (strand reducer : ℕ) (legal : AreLegal steps) (numbers : AreNumbers steps)
    (puts : PutsAreRead steps earlier reducer) (runs : Running (control_steps steps) strand)
    (same : (read : ReducerRead) → IsReadOf earlier reducer read → branch (control_steps steps) read.strand ≡ branch (control_steps steps) strand)
    (found : (read : ReducerRead) × IsReadOf earlier reducer read) where
  granted : (last : Entry) × IsGranted (items_of reducer steps) strand last
  granted =
      let projects = projection_law reducer steps in
      let (some, has) = puts.put_of found.0 found.1 in
      let (last, is) = last-put (items_of reducer steps) some has in
      let (read, listed, at) = puts.read_of last is.0 in (
        last,
        record {
          legal = projects.1.1 legal;
          runs = subst (λ history. Running history strand) (sym projects.0) runs;
          last = is;
          same_branch = subst (λ history. branch history (strand_of last) ≡ branch history strand) (sym projects.0)
              (ap (branch (control_steps steps)) (sym at) ∙ same read listed);
        },
      )

  is_value : IsValue (reducer_of (monoid_of monoids reducer)) (items_of reducer steps) strand (view_of monoids reducer steps strand)
  is_value = (get_law monoids reducer steps numbers strand granted.0 granted.1 (view_of monoids reducer steps strand)).1 refl

  pub get-value : (value : ℕ) → Some value ≡ view_number (view_of monoids reducer steps strand) → IsGetValue monoids steps strand reducer value
  get-value value is = (view_of monoids reducer steps strand, is_value, sym is)

  pub get-some : None ≡ view_number (view_of monoids reducer steps strand) → ⊥
  get-some none = value-some (monoid_of monoids reducer) (items_of reducer steps) strand (view_of monoids reducer steps strand) is_value (sym none)
