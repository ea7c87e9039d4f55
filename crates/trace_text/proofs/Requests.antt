-- Requests, from their words.
use Rattle.std.proofs.Common.{◌≡◌, ◌⊎◌, ℕ, ◌∷◌, ◌++◌, [], List, refl, sym, subst, inl, inr}
use Rattle.std.specs.Prelude.{Option, Some, Result, Ok, Err}
use Rattle.model_accesses.specs.declared.kind.Kind.{Kind}
use Rattle.model_accesses.specs.declared.kind.Kind.TheVariants as kind
use Rattle.model_accesses.specs.declared.request.Act.{Act}
use Rattle.model_accesses.specs.declared.request.Act.TheVariants as act
use Rattle.text_words.specs.Values.{Known}
use Rattle.text_words.specs.declared.fault.Cause.{Cause}
use Rattle.text_words.specs.Causes.{both_of}
use Rattle.trace_text.specs.declared.keyword.Keyword.TheVariants.{Access}
use Rattle.trace_text.specs.Lines.{Place, Cell, ReducerName, a_strand, a_value, Mark, OfNumber, if_there, asks, operands, placed, wanted, optional, spelling, IsControl, HasKeyword}
use Rattle.trace_text.specs.Grammar.{ItemMeans}
use Rattle.trace_text.specs.LineGrammar.{IsPlacedFault}
use Rattle.trace_text.specs.Faults.{WordFault}
use Rattle.trace_text.specs.Outcome.{TakesWord, TakesValue, Fits}
use Rattle.trace_text.specs.Items.{line_asked, place_of, access_of}
use Rattle.trace_text.proofs.Outcomes.{takes}

pub control_item : (known : Known) (at : ℕ) (a : Act) (words : List (List ℕ)) (by : ℕ) (mark : Option ℕ) → IsControl a
    → Fits {A = ℕ × Option ℕ} known (a_strand ∷ []) (Some Mark) words (Ok (by, mark)) (λ r. OfNumber r.0 ∷ if_there r.1)
    → ItemMeans at known (spelling (asks a) ∷ words) (line_asked at by a mark)
control_item known at act.Spawn words by mark is f = (mark, (f.0, (words, refl, tt, f.1), f.2), refl, refl, refl)
control_item known at act.Sync words by mark is f = (mark, (f.0, (words, refl, tt, f.1), f.2), refl, refl, refl)
control_item known at act.Call words by mark is f = (mark, (f.0, (words, refl, tt, f.1), f.2), refl, refl, refl)
control_item known at act.Return words by mark is f = (mark, (f.0, (words, refl, tt, f.1), f.2), refl, refl, refl)
control_item known at a words by mark is f = absurd is

pub control_fault : (known : Known) (a : Act) (words : List (List ℕ)) (cause : Cause) → IsControl a
    → IsPlacedFault (WordFault known) (placed (a_strand ∷ []) (Some Mark) words) cause → IsPlacedFault (WordFault known) (placed (wanted (asks a)) (optional (asks a)) words) cause
control_fault known act.Spawn words cause is f = f
control_fault known act.Sync words cause is f = f
control_fault known act.Call words cause is f = f
control_fault known act.Return words cause is f = f
control_fault known a words cause is f = absurd is

-- ---- an access

-- a value that was taken
pub value_taken : (known : Known) (k : Kind) (before after : List (List ℕ)) (answer : Result ℕ Cause)
    → (k ≡ kind.Write) ⊎ ((k ≡ kind.Bump) ⊎ ((k ≡ kind.Update) ⊎ (k ≡ kind.Put))) → TakesWord known a_value before after answer OfNumber
    → TakesValue known k before after answer
value_taken known k before after answer is t = elim is [ inl e ↦ by kind.Write e t | inr b ↦ elim b [ inl e ↦ by kind.Bump e t | inr c ↦ elim c [ inl e ↦ by kind.Update e t | inr e ↦ by kind.Put e t ] ] ]
  where
    by : (other : Kind) → k ≡ other → TakesValue known other before after answer → TakesValue known k before after answer
    by other e v = subst (λ (x : Kind). TakesValue known x before after answer) (sym e) v

-- a value of 0 that was not taken changes nothing
no_value_by : (known : Known) (words : List (List ℕ)) (mark : Result (Option ℕ) Cause) → Fits known [] (Some Mark) words mark if_there
    → Fits {A = ℕ × Option ℕ} known [] (Some Mark) words (both_of (Ok 0) mark) (λ r. if_there r.1)
no_value_by known words (Ok mark) f = f
no_value_by known words (Err cause) f = f

no_value : (known : Known) (before after : List (List ℕ)) (value : Result ℕ Cause) (mark : Result (Option ℕ) Cause) → (after ≡ before) × (value ≡ Ok 0)
    → Fits known [] (Some Mark) after mark if_there → Fits {A = ℕ × Option ℕ} known [] (Some Mark) before (both_of value mark) (λ r. if_there r.1)
no_value known before after value mark same f =
    subst (λ (v : Result ℕ Cause). Fits {A = ℕ × Option ℕ} known [] (Some Mark) before (both_of v mark) (λ r. if_there r.1)) (sym same.1)
    (no_value_by known before mark (subst (λ (ws : List (List ℕ)). Fits known [] (Some Mark) ws mark if_there) same.0 f))

module _ (known : Known) (words first second third : List (List ℕ)) (by : Result ℕ Cause) (place : Result ℕ Cause) (value : Result ℕ Cause) (mark : Result (Option ℕ) Cause)
    (strand : TakesWord known a_strand words first by OfNumber) (end : Fits known [] (Some Mark) third mark if_there) where
  alone : (where_is : Place) → TakesWord known where_is first second place OfNumber → (third ≡ second) × (value ≡ Ok 0)
      → Fits known (a_strand ∷ where_is ∷ []) (Some Mark) words (both_of by (both_of place (both_of value mark))) (λ r. OfNumber r.0 ∷ OfNumber r.1.0 ∷ if_there r.1.1.1)
  alone where_is p v =
      takes known a_strand (where_is ∷ []) (Some Mark) words first by (both_of place (both_of value mark)) OfNumber (λ r. OfNumber r.0 ∷ if_there r.1.1) strand
      (takes known where_is [] (Some Mark) first second place (both_of value mark) OfNumber (λ r. if_there r.1) p (no_value known second third value mark v end))

  valued : (where_is : Place) → TakesWord known where_is first second place OfNumber → TakesWord known a_value second third value OfNumber
      → Fits known (a_strand ∷ where_is ∷ a_value ∷ []) (Some Mark) words (both_of by (both_of place (both_of value mark)))
      (λ r. OfNumber r.0 ∷ OfNumber r.1.0 ∷ OfNumber r.1.1.0 ∷ if_there r.1.1.1)
  valued where_is p v =
      takes known a_strand (where_is ∷ a_value ∷ []) (Some Mark) words first by (both_of place (both_of value mark)) OfNumber (λ r. OfNumber r.0 ∷ OfNumber r.1.0 ∷ if_there r.1.1) strand
      (takes known where_is (a_value ∷ []) (Some Mark) first second place (both_of value mark) OfNumber (λ r. OfNumber r.0 ∷ if_there r.1) p
      (takes known a_value [] (Some Mark) second third value mark OfNumber if_there v end))

  -- the words behind the keyword of an access fit the places that it wants
  pub access_fits : (k : Kind) → TakesWord known (place_of k) first second place OfNumber → TakesValue known k second third value
      → Fits known (wanted (Access k)) (optional (Access k)) words (both_of by (both_of place (both_of value mark)))
      (λ r. OfNumber r.0 ∷ (operands (access_of k r.1.0 r.1.1.0) ++ if_there r.1.1.1))
  access_fits kind.Write p v = valued Cell p v
  access_fits kind.Bump p v = valued Cell p v
  access_fits kind.Read p v = alone Cell p v
  access_fits kind.Update p v = valued ReducerName p v
  access_fits kind.Put p v = valued ReducerName p v
  access_fits kind.Get p v = alone ReducerName p v

-- so they say the access
pub access_item : (known : Known) (at : ℕ) (k : Kind) (words : List (List ℕ)) (by place value : ℕ) (mark : Option ℕ) → HasKeyword known.version (Access k)
    → Fits {A = ℕ × (ℕ × (ℕ × Option ℕ))} known (wanted (Access k)) (optional (Access k)) words (Ok (by, (place, (value, mark))))
    (λ r. OfNumber r.0 ∷ (operands (access_of k r.1.0 r.1.1.0) ++ if_there r.1.1.1))
    → ItemMeans at known (spelling (Access k) ∷ words) (line_asked at by (access_of k place value) mark)
access_item known at kind.Write words by place value mark has f = (mark, (f.0, (words, refl, has, f.1), f.2), refl, refl, refl)
access_item known at kind.Bump words by place value mark has f = (mark, (f.0, (words, refl, has, f.1), f.2), refl, refl, refl)
access_item known at kind.Read words by place value mark has f = (mark, (f.0, (words, refl, has, f.1), f.2), refl, refl, refl)
access_item known at kind.Update words by place value mark has f = (mark, (f.0, (words, refl, has, f.1), f.2), refl, refl, refl)
access_item known at kind.Put words by place value mark has f = (mark, (f.0, (words, refl, has, f.1), f.2), refl, refl, refl)
access_item known at kind.Get words by place value mark has f = (mark, (f.0, (words, refl, has, f.1), f.2), refl, refl, refl)
