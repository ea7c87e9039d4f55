-- The lines of a trace, taken one after another.
use Rattle.std.proofs.Common.{◌≡◌, List, [], ◌∷◌, ◌++◌, map, append-nil, append_assoc, ap, sym, ◌∙◌}
use Rattle.std.proofs.lemmas.List.{map-append}
use Rattle.text_words.specs.declared.value.TraceLine.{TraceLine}

-- one more line of a trace
pub requests_more : (taken : List TraceLine) (line : TraceLine) → map (λ line. line.request) (taken ++ line ∷ []) ≡ map (λ line. line.request) taken ++ line.request ∷ []
requests_more taken line = map-append (λ (line : TraceLine). line.request) taken (line ∷ [])

-- what is taken and what is still to come are the whole, also behind one more
pub taken_more : (whole taken later rest : List TraceLine) (line : TraceLine) → whole ≡ taken ++ later → later ≡ line ∷ rest → whole ≡ (taken ++ line ∷ []) ++ rest
taken_more whole taken later rest line same next = same ∙ ap (λ l. taken ++ l) next ∙ sym (append_assoc taken (line ∷ []) rest)

-- all is taken where nothing is to come
pub taken_all : (whole taken later : List TraceLine) → whole ≡ taken ++ later → later ≡ [] → whole ≡ taken
taken_all whole taken later same none = same ∙ ap (λ l. taken ++ l) none ∙ append-nil taken
