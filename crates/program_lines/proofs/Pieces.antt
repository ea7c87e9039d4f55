-- Words behind one another, each behind a space.
use Rattle.std.proofs.Common.{◌≡◌, ℕ, ◌∷◌, ◌++◌, [], List, refl, sym, ap, ◌∙◌, append_assoc}
use Rattle.trace_text.specs.Printing.{behind_space}

behind_append : (words more : List (List ℕ)) → behind_space (words ++ more) ≡ behind_space words ++ behind_space more
behind_append [] more = refl
behind_append (word ∷ words) more =
    ap (λ (t : List ℕ). 32 ∷ (word ++ t)) (behind_append words more)
    ∙ ap (λ (t : List ℕ). 32 ∷ t) (sym (append_assoc word (behind_space words) (behind_space more)))

-- a word and three parts behind it
pub all_put : (old word begun second third whole : List ℕ) (a b d all : List (List ℕ)) → begun ≡ old ++ word → second ≡ begun ++ behind_space a
    → third ≡ second ++ behind_space b → all ≡ a ++ (b ++ d) → whole ≡ third ++ behind_space d → whole ≡ old ++ (word ++ behind_space all)
all_put old word begun second third whole a b d all e f g h k =
    let parts : behind_space all ≡ behind_space a ++ (behind_space b ++ behind_space d) =
    ap behind_space h ∙ (behind_append a (b ++ d) ∙ ap (λ (t : List ℕ). behind_space a ++ t) (behind_append b d)) in
    let flat : whole ≡ (((old ++ word) ++ behind_space a) ++ behind_space b) ++ behind_space d = cc in
    flat
    ∙ (append_assoc ((old ++ word) ++ behind_space a) (behind_space b) (behind_space d)
    ∙ (append_assoc (old ++ word) (behind_space a) (behind_space b ++ behind_space d)
    ∙ (append_assoc old word (behind_space a ++ (behind_space b ++ behind_space d)) ∙ ap (λ (t : List ℕ). old ++ (word ++ t)) (sym parts))))
