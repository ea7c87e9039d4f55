-- The function of a program in which a line stands.
use Rattle.std.proofs.Common.{◌≡◌, ℕ, ◌+◌, ◌<◌, ◌≤◌, List, ◌∷◌, length, drop, get_or, true, false, refl, sym, ap, ◌∙◌, arith, rules}
use Rattle.std.specs.Prelude.{nat_lt}
use Rattle.std.proofs.lemmas.List.{drop_more}
use Rattle.std.proofs.lemmas.Grind.{common_steps}
use Rattle.model_bodies.specs.Codes.{Code}
use Rattle.race_explanations.specs.Names.{name_before, function_at}

-- the next function begins before the line
pub name_on : (functions : List Code) (index : ℕ) (one : Code) (name next : List ℕ) (line : ℕ) → index < length functions →
    one ≡ get_or functions index one → one.line < line → next ≡ one.name →
    name_before name (drop index functions) line ≡ function_at functions line →
    name_before next (drop (index + 1) functions) line ≡ function_at functions line
name_on functions index one name next line below is before named whole =
    let here : drop index functions ≡ one ∷ drop (index + 1) functions =
    drop_more functions index one below ∙ ap (λ next. next ∷ drop (index + 1) functions) (sym is) in
    let test : nat_lt one.line line ≡ true = first_of (search rules, grind (arith, common_steps)) in
    let taken : name_before name (one ∷ drop (index + 1) functions) line ≡ name_before one.name (drop (index + 1) functions) line = rw test refl in
    ap (λ text. name_before text (drop (index + 1) functions) line) named ∙ sym (ap (λ rest. name_before name rest line) here ∙ taken) ∙ whole

-- it does not
pub name_here : (functions : List Code) (index : ℕ) (one : Code) (name : List ℕ) (line : ℕ) → index < length functions →
    one ≡ get_or functions index one → line ≤ one.line →
    name_before name (drop index functions) line ≡ function_at functions line → name ≡ function_at functions line
name_here functions index one name line below is behind whole =
    let here : drop index functions ≡ one ∷ drop (index + 1) functions =
    drop_more functions index one below ∙ ap (λ next. next ∷ drop (index + 1) functions) (sym is) in
    let test : nat_lt one.line line ≡ false = first_of (search rules, grind (arith, common_steps)) in
    let kept : name_before name (one ∷ drop (index + 1) functions) line ≡ name = rw test refl in
    sym (ap (λ rest. name_before name rest line) here ∙ kept) ∙ whole
