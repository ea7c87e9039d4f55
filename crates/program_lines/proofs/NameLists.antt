-- Names in a list: how they are found and added.
use Rattle.std.proofs.Common.{◌≡◌, ℕ, ◌+◌, ◌∷◌, ◌++◌, [], List, Bool, true, false, cond, refl, sym, ap, ◌∙◌}
use Rattle.std.specs.Prelude.{Option, Some, None, Result, Ok, Err, OnOk, option_map, is_some, position, ◌||◌}
use Rattle.std.specs.List.{list_any, position_from}
use Rattle.std.specs.Str.{bytes_eq}
use Rattle.std.proofs.lemmas.Iterator.Adapters.{position_from-zero}
use Rattle.program_lines.specs.Scopes.{ok_word, register_named, function_named, with_name}

any_by : (b : Bool) (from : ℕ) (rest : Bool) (o : Option ℕ) → rest ≡ is_some o → (b || rest) ≡ is_some (cond b (Some from) o)
any_by true from rest o e = refl
any_by false from rest o e = e

any_position : {X : Type 0} (test : X → Bool) (from : ℕ) (xs : List X) → list_any test xs ≡ is_some (position_from test from xs)
any_position test from [] = refl
any_position test from (x ∷ xs) = any_by (test x) from (list_any test xs) (position_from test (from + 1) xs) (any_position test (from + 1) xs)

added_by : (names : List (List ℕ)) (name : List ℕ) (o : Option ℕ) → function_named names name ≡ o → cond (is_some o) names (names ++ name ∷ []) ≡ with_name names name
added_by names name o e = sym (ap (λ (b : Bool). cond b names (names ++ name ∷ [])) (any_position (bytes_eq name) 0 names ∙ ap is_some e))

pub name_there : (names : List (List ℕ)) (name : List ℕ) (number : ℕ) → function_named names name ≡ Some number → names ≡ with_name names name
name_there names name number e = added_by names name (Some number) e

pub name_new : (names : List (List ℕ)) (name : List ℕ) → function_named names name ≡ None → names ++ name ∷ [] ≡ with_name names name
name_new names name e = added_by names name None e

pub on_ok : {T E : Type 0} (r : Result T E) (P Q : Type 0) → (P → Q) → OnOk r P → OnOk r Q
on_ok (Ok x) P Q f h = f h
on_ok (Err e) P Q f h = tt

shifted_by : (b : Bool) (from : ℕ) (o p : Option ℕ) → p ≡ option_map (λ n. n + 1) o → cond b (Some (from + 1)) p ≡ option_map (λ n. n + 1) (cond b (Some from) o)
shifted_by true from o p e = refl
shifted_by false from o p e = e

shifted : {X : Type 0} (test : X → Bool) (from : ℕ) (xs : List X) → position_from test (from + 1) xs ≡ option_map (λ n. n + 1) (position_from test from xs)
shifted test from [] = refl
shifted test from (x ∷ xs) = shifted_by (test x) from (position_from test (from + 1) xs) (position_from test (from + 1 + 1) xs) (shifted test (from + 1) xs)

pub register_found : (registers : List (List ℕ)) (name : List ℕ) (o : Option ℕ) → bytes_eq name ok_word ≡ false → o ≡ position (bytes_eq name) registers
    → option_map (λ n. n + 1) o ≡ register_named registers name
register_found registers name o other e =
    ap (option_map (λ n. n + 1)) (e ∙ position_from-zero (bytes_eq name) registers)
    ∙ (sym (shifted (bytes_eq name) 0 registers)
    ∙ sym (ap (λ (b : Bool). cond b (Some 0) (position_from (bytes_eq name) 1 registers)) other))
