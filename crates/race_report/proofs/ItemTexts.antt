-- The text of refusals as an array, and its part between the brackets.
use Rattle.std.proofs.Common.{◌≡◌, ℕ, suc, Bool, true, false, List, [], ◌∷◌, ◌++◌, length, map, Some, append_assoc, refl, ap, sym, subst, ◌∙◌}
use Rattle.serde.specs.Event.{Log, Logs, WritesEach, WritesSeq, seq_begins, seq_ends}
use Rattle.serde_json.specs.Data.{Data, array}
use Rattle.serde_json.specs.Events.{items_len, SendsValue, SendsItems}
use Rattle.serde_json.specs.View.{items_of}
use Rattle.serde_json.specs.Written.{has_float, items_have_float, comma_if, compact_text, items_text}
use Rattle.race_report.specs.declared.refusal.Refusal.{Refusal}
use Rattle.race_report.specs.RefusalValues.{refusal_in}
use Rattle.race_report.proofs.RefusalValues.{refusal_whole}

-- ---- what is sent

as_many : (refusals : List Refusal) → items_len (items_of (map refusal_in refusals)) ≡ length refusals
as_many [] = refl
as_many (refusal ∷ refusals) = ap suc (as_many refusals)

each_sent : (refusals : List Refusal) (first last new : Log) → WritesEach (λ (refusal : Refusal). SendsValue (refusal_in refusal)) refusals first last →
    Logs last new seq_ends → SendsItems (items_of (map refusal_in refusals)) first new
each_sent [] first last new each ended = subst (λ (log : Log). Logs log new seq_ends) each ended
each_sent (refusal ∷ refusals) first last new each ended = (each.0, each.1, each_sent refusals each.0 last new each.2 ended)

pub array_sent : (refusals : List Refusal) (old new : Log) → WritesSeq (λ (refusal : Refusal). SendsValue (refusal_in refusal)) refusals old new →
    SendsValue (array (items_of (map refusal_in refusals))) old new
array_sent refusals old new sent = (
  sent.0,
  subst (λ (n : ℕ). Logs old sent.0 (seq_begins (Some n))) (sym (as_many refusals)) sent.2,
  each_sent refusals sent.0 sent.1 new sent.3 sent.4,
)

whole_items : (refusals : List Refusal) → items_have_float (items_of (map refusal_in refusals)) ≡ false
whole_items [] = refl
whole_items (refusal ∷ refusals) = rw (refusal_whole refusal) (whole_items refusals)

pub array_whole : (refusals : List Refusal) → has_float (array (items_of (map refusal_in refusals))) ≡ false
array_whole refusals = whole_items refusals

-- ---- texts

-- the items with commas between them, and one before them where others stand there
pub inner_text : Bool → List Data → List ℕ
inner_text later [] = []
inner_text later (value ∷ values) = comma_if later ++ (compact_text value ++ inner_text true values)

regroup : (a b c d : List ℕ) → (a ++ (b ++ c)) ++ d ≡ a ++ (b ++ (c ++ d))
regroup a b c d = simp append_assoc

joined_behind : (values rest : List Data) → items_text true (items_of (values ++ rest)) ≡ inner_text true values ++ items_text true (items_of rest)
unfolding inner_text
joined_behind [] rest = refl
joined_behind (value ∷ values) rest =
    ap (λ (text : List ℕ). comma_if true ++ (compact_text value ++ text)) (joined_behind values rest) ∙
    sym (regroup (comma_if true) (compact_text value) (inner_text true values) (items_text true (items_of rest)))

joined : (later : Bool) (value : Data) (values rest : List Data) →
    items_text later (items_of (value ∷ (values ++ rest))) ≡ (comma_if later ++ inner_text false (value ∷ values)) ++ items_text true (items_of rest)
unfolding inner_text
joined later value values rest =
    ap (λ (text : List ℕ). comma_if later ++ (compact_text value ++ text)) (joined_behind values rest) ∙
    sym (regroup (comma_if later) (compact_text value) (inner_text true values) (items_text true (items_of rest)))

ended : (later : Bool) (values : List Data) → items_text later (items_of values) ≡ inner_text later values ++ 93 ∷ []
unfolding inner_text
ended later [] = refl
ended later (value ∷ values) =
    ap (λ (text : List ℕ). comma_if later ++ (compact_text value ++ text)) (ended true values) ∙
    sym (regroup (comma_if later) (compact_text value) (inner_text true values) (93 ∷ []))

pub array_text : (values : List Data) → compact_text (array (items_of values)) ≡ 91 ∷ (inner_text false values ++ 93 ∷ [])
array_text values = ap (λ (text : List ℕ). 91 ∷ text) (ended false values)

-- the text with the refusals printed, of which there are some, goes on as the one before with them as its next items
pub printed : (text new : List ℕ) (later : Bool) (refusals left : List Refusal) (rest : List Data) → (refusals ≡ [] → ⊥) → left ≡ [] →
    new ≡ text ++ (comma_if later ++ inner_text false (map refusal_in refusals)) →
    new ++ items_text true (items_of (map refusal_in left ++ rest)) ≡ text ++ items_text later (items_of (map refusal_in refusals ++ rest))
printed text new later [] left rest some none is = absurd (some refl)
printed text new later (refusal ∷ refusals) left rest some none is =
    let values = map refusal_in refusals in
    rw (none, is)
    (append_assoc text (comma_if later ++ inner_text false (refusal_in refusal ∷ values)) (items_text true (items_of rest)) ∙
    ap (λ (behind : List ℕ). text ++ behind) (sym (joined later (refusal_in refusal) values rest)))
