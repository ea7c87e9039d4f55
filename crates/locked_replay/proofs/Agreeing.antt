-- Lists that agree from the front on.
use Rattle.std.proofs.Common.{◌≡◌, ℕ, zero, suc, ◌+◌, ◌<◌, List, [], ◌∷◌, ◌++◌, length, take, get_or, refl, ap, sym, arith, ◌∙◌}
use Rattle.std.proofs.lemmas.List.{take_more}
use Rattle.model_reducers.specs.declared.monoid.Monoid.{Monoid}

pub monoids_more : (xs ys : List Monoid) (i : ℕ) (d e : Monoid) → i < length xs → i < length ys → take i xs ≡ take i ys → get_or xs i d ≡ get_or ys i e →
    take (i + 1) xs ≡ take (i + 1) ys
monoids_more xs ys i d e in-xs in-ys before here = take_more xs i d in-xs ∙ (λ j. before j ++ here j ∷ []) ∙ sym (take_more ys i e in-ys)

any_default : (xs : List Monoid) (i : ℕ) (d e : Monoid) → i < length xs → get_or xs i d ≡ get_or xs i e
any_default [] i d e low = absurd (omega arith)
any_default (x ∷ xs) zero d e low = refl
any_default (x ∷ xs) (suc i) d e low = any_default xs i d e (omega arith)

pub monoid_here : (xs ys : List Monoid) (i : ℕ) (d e : Monoid) → i < length xs → xs ≡ ys → get_or xs i d ≡ get_or ys i e
monoid_here xs ys i d e inside same = any_default xs i d e inside ∙ ap (λ l. get_or l i e) same
