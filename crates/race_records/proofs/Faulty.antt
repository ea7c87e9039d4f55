-- Faults, one by one.
use Rattle.std.proofs.Common.{◌≡◌, ℕ, Bool, List, [], ◌∷◌, ◌++◌, sym, subst, ap, ◌∙◌, append_assoc}
use Rattle.serde_json.specs.Data.{Data}
use Rattle.fault_lists.specs.declared.fault.Fault.{Fault}
use Rattle.text_words.specs.Text.{lines}
use Rattle.source_quotes.specs.declared.meant.Meant.{Meant}
use Rattle.fault_lists.specs.FaultLists.{ListsFaults}
use Rattle.race_records.specs.Values.{IsTextOf}
use Rattle.race_records.specs.declared.form.RecordForm.{RecordForm}
use Rattle.race_records.specs.Forms.{in_form}
use Rattle.race_records.specs.Unjudged.{RecordsFault, RecordsFaults, faulty_told, RecordsText}

-- one fault before the others
pub one_more : (file : List ℕ) (source : List (List ℕ)) (faults rest : List Fault) (fault : Fault) (one : Data) (old with new added : List Data) →
    RecordsFault file source fault one → with ≡ old ++ one ∷ [] → new ≡ with ++ added → RecordsFaults file source rest added → faults ≡ fault ∷ rest →
    (all : List Data) × (new ≡ old ++ all) × RecordsFaults file source faults all
one_more file source faults rest fault one old with new added tells first second others is = (
  one ∷ added,
  second ∙ ap (λ (values : List Data). values ++ added) first ∙ append_assoc old (one ∷ []) added,
  subst (λ (some : List Fault). RecordsFaults file source some (one ∷ added)) (sym is) (tells, others),
)

-- a fault and those behind it
pub faults_listed : (file : List ℕ) (source : List (List ℕ)) (first : Fault) (others : List Fault) (one : Data) (old new added : List Data) →
    RecordsFault file source first one → old ≡ one ∷ [] → new ≡ old ++ added → RecordsFaults file source others added →
    RecordsFaults file source (first ∷ others) new
faults_listed file source first others one old new added tells begun whole rest =
    subst (λ (all : List Data). RecordsFaults file source (first ∷ others) all)
    (sym (whole ∙ ap (λ (front : List Data). front ++ added) begun)) (tells, rest)

-- the faults of a text
pub text_recorded : (form : RecordForm) (file : List ℕ) (meant : Meant) (text : List ℕ) (first : Fault) (source : List (List ℕ)) (list others : List Fault) (more : Bool)
    (faults : List Data) (value : Data) (told : List ℕ) → ListsFaults meant text first others more → list ≡ others →
    source ≡ lines text → RecordsFaults file source (first ∷ list) faults →
    value ≡ faulty_told faults more → IsTextOf (in_form form value) told → RecordsText form file meant text first told
text_recorded form file meant text first source list others more faults value told lists same is tells value_is is_text = record {
  others = others;
  more = more;
  lists = lists;
  faults = faults;
  are_faults = subst (λ (s : List (List ℕ)). RecordsFaults file s (first ∷ others) faults) is
      (subst (λ (some : List Fault). RecordsFaults file source (first ∷ some) faults) same tells);
  is_text = subst (λ (v : Data). IsTextOf (in_form form v) told) value_is is_text;
}
