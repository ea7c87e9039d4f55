-- Two lists that agree item by item, from the front on.
use Rattle.std.proofs.Common.{◌≡◌, ℕ, ◌+◌, ◌<◌, List, [], ◌∷◌, ◌++◌, length, take, get_or, ap, sym, subst, ◌∙◌}
use Rattle.std.specs.List.{AllZip}
use Rattle.std.proofs.lemmas.List.{take_more}
use Rattle.std.proofs.lemmas.Slice.Zip.{all_zipped_more}

one_more : {X : Type 0} (xs : List X) (i : ℕ) (x : X) → i < length xs → x ≡ get_or xs i x → take (i + 1) xs ≡ take i xs ++ x ∷ []
one_more xs i x below is = take_more xs i x below ∙ ap (λ y. take i xs ++ y ∷ []) (sym is)

pub pairs_more : {X : Type 0} (R : X → X → Type 0) (xs ys : List X) (i : ℕ) (x y : X) → i < length xs → i < length ys → x ≡ get_or xs i x → y ≡ get_or ys i y →
    AllZip R (take i xs) (take i ys) → R x y → AllZip R (take (i + 1) xs) (take (i + 1) ys)
pairs_more R xs ys i x y in-xs in-ys x-is y-is before here =
    subst (λ l. AllZip R l (take (i + 1) ys)) (sym (one_more xs i x in-xs x-is))
    (subst (λ l. AllZip R (take i xs ++ x ∷ []) l) (sym (one_more ys i y in-ys y-is)) (all_zipped_more R (take i xs) (take i ys) x y before here))
