-- What a loop over a list has found or added at its end.
use Rattle.std.proofs.Common.{◌≡◌, ◌++◌, ◌≤◌, ◌∙◌, ℕ, List, [], drop, length, ap, sym}
use Rattle.std.proofs.lemmas.List.{append-nil, drop_all}

-- f: what comes of the rest of the list; i: the place that the loop has come to
pub at_last : {X Y : Type 0} (f : List X → Y) (xs : List X) (i : ℕ) (whole : Y) → length xs ≤ i → f (drop i xs) ≡ whole → f [] ≡ whole
at_last f xs i whole past is = ap f (sym (drop_all i xs past)) ∙ is

-- f: what is added for the rest
pub at_end : {X Y : Type 0} (f : List X → List Y) (xs : List X) (i : ℕ) (added whole : List Y) → f [] ≡ [] → length xs ≤ i →
    added ++ f (drop i xs) ≡ whole → added ≡ whole
at_end f xs i added whole none past is =
    sym (append-nil added) ∙
    (ap (λ more. added ++ more) (sym none) ∙ (ap (λ rest. added ++ f rest) (sym (drop_all i xs past)) ∙ is))
