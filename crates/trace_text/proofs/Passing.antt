-- One less of those that are left of a list.
use Rattle.std.proofs.Common.{◌≡◌, ℕ, zero, suc, ◌+◌, ◌∷◌, [], List, drop, refl, ap, sym, ◌∙◌, arith}
use Rattle.std.proofs.Math.Seq.{drop-nil}
use Rattle.std.specs.Prelude.{Option, Some, None, MatchOption}

drop_one : {A : Type 0} (all : List A) (count : ℕ) → drop (count + 1) all ≡ drop 1 (drop count all)
drop_one [] count = drop-nil (count + 1) ∙ sym (ap (drop 1) (drop-nil count) ∙ drop-nil 1)
drop_one (x ∷ xs) zero = refl
drop_one (x ∷ xs) (suc n) = (let more : suc n + 1 ≡ suc (n + 1) = omega arith in ap (λ (k : ℕ). drop k (x ∷ xs)) more) ∙ drop_one xs n

pub passes : {A : Type 0} (all : List A) (count : ℕ) (left next : List A) (result : Option A) → left ≡ drop count all
    → MatchOption result ((left ≡ []) × (next ≡ [])) (λ x. left ≡ x ∷ next) → next ≡ drop (count + 1) all
passes all count left next None is none = none.1 ∙ sym (drop_one all count ∙ ap (drop 1) (sym is ∙ none.0) ∙ drop-nil 1)
passes all count left next (Some x) is some = sym (drop_one all count ∙ ap (drop 1) (sym is ∙ some))
