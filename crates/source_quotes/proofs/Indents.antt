-- What stands below the bytes of a line.
use Rattle.std.proofs.Common.{ℕ, ◌≡◌, ◌+◌, ◌<◌, ◌==◌, if◌then◌else◌, List, [], ◌∷◌, ◌++◌, length, take, get_or, sym, ap, ◌∙◌}
use Rattle.std.proofs.lemmas.List.{map-append, take_more}
use Rattle.source_quotes.specs.Parts.{indent}

-- one byte more
pub indent_more : (front : List ℕ) (index d byte : ℕ) → index < length front → byte ≡ (if get_or front index d == 9 then 9 else 32) →
    indent (take index front) ++ byte ∷ [] ≡ indent (take (index + 1) front)
indent_more front index d byte below is =
    ap (λ one. indent (take index front) ++ one ∷ []) is ∙
    sym (map-append (λ (b : ℕ). if b == 9 then 9 else 32) (take index front) (get_or front index d ∷ [])) ∙ ap indent (sym (take_more front index d below))
