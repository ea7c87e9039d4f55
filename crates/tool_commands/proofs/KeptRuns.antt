-- Notes of runs, each kept once.
use Rattle.std.proofs.Common.{◌≡◌, ℕ, zero, suc, ◌+◌, ◌<◌, ◌||◌, Bool, true, false, List, [], ◌∷◌, ◌++◌, length, take, map, get_or, refl, sym, ap, ◌∙◌, arith}
use Rattle.std.specs.List.{list_any}
use Rattle.std.proofs.lemmas.List.{take_more, map-append}
use Rattle.tool_commands.specs.Together.{with_run, with_runs}

with_more : (runs some : List (List ℕ)) (run : List ℕ) → with_runs runs (some ++ run ∷ []) ≡ with_run (with_runs runs some) run
with_more runs [] run = refl
with_more runs (x ∷ some) run = with_more (with_run runs x) some run

-- one note more is kept
pub one_kept : {X : Type 0} (name : X → List ℕ) (items : List X) (index : ℕ) (one : X) (run : List ℕ) (old now new : List (List ℕ)) → index < length items →
    one ≡ get_or items index one → run ≡ name one → now ≡ with_runs old (map name (take index items)) → new ≡ with_run now run →
    new ≡ with_runs old (map name (take (index + 1) items))
one_kept name items index one run old now new below read called before is =
    let front = map name (take index items) in
    let grown : front ++ run ∷ [] ≡ map name (take (index + 1) items) =
    ap (λ n. front ++ n ∷ []) called ∙ sym (map-append name (take index items) (one ∷ [])) ∙
    ap (map name) (ap (λ x. take index items ++ x ∷ []) read ∙ sym (take_more items index one below)) in
    is ∙ ap (λ runs. with_run runs run) before ∙ sym (with_more old front run) ∙ ap (with_runs old) grown

or_true : (a b : Bool) → b ≡ true → (a || b) ≡ true
or_true true b is = refl
or_true false b is = is

or_false : (a b c : Bool) → (b ≡ false → c ≡ false) → (a || b) ≡ false → (a || c) ≡ false
or_false true b c then_c is = absurd (cc)
or_false false b c then_c is = then_c is

at_has : {X : Type 0} (name : X → List ℕ) (has : List ℕ → Bool) (items : List X) (index : ℕ) (d : X) → index < length items →
    has (name (get_or items index d)) ≡ true → list_any has (map name items) ≡ true
at_has name has [] index d below is = absurd (omega (arith, below))
at_has name has (x ∷ items) zero d below is = ap (λ b. b || list_any has (map name items)) is
at_has name has (x ∷ items) (suc index) d below is =
    or_true (has (name x)) (list_any has (map name items)) (at_has name has items index d (omega (arith, below)) is)

-- one of those has the property
pub some_has : {X : Type 0} (name : X → List ℕ) (has : List ℕ → Bool) (items : List X) (index : ℕ) (one : X) → index < length items →
    one ≡ get_or items index one → has (name one) ≡ true → list_any has (map name items) ≡ true
some_has name has items index one below read is = at_has name has items index one below (ap (λ x. has (name x)) (sym read) ∙ is)

any_append : (has : List ℕ → Bool) (xs : List (List ℕ)) (y : List ℕ) → list_any has xs ≡ false → has y ≡ false → list_any has (xs ++ y ∷ []) ≡ false
any_append has [] y none is = ap (λ b. b || false) is
any_append has (x ∷ xs) y none is =
    or_false (has x) (list_any has xs) (list_any has (xs ++ y ∷ [])) (λ e. any_append has xs y e is) none

-- none of those so far has the property
pub none_has : {X : Type 0} (name : X → List ℕ) (has : List ℕ → Bool) (items : List X) (index : ℕ) (one : X) → index < length items →
    one ≡ get_or items index one → list_any has (map name (take index items)) ≡ false → has (name one) ≡ false →
    list_any has (map name (take (index + 1) items)) ≡ false
none_has name has items index one below read none is =
    ap (λ some. list_any has (map name some)) (take_more items index one below ∙ ap (λ x. take index items ++ x ∷ []) (sym read)) ∙
    ap (list_any has) (map-append name (take index items) (one ∷ [])) ∙ any_append has (map name (take index items)) (name one) none is
