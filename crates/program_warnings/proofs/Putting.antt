-- Reducers that are put in functions that are reached.
use Rattle.std.proofs.Common.{◌≡◌, ℕ, zero, suc, ◌+◌, ◌<◌, Bool, true, false, ◌&&◌, ◌||◌, List, [], ◌∷◌, refl, sym, ap, ◌∙◌, subst, arith}
use Rattle.std.specs.Prelude.{Some, slice_get}
use Rattle.std.specs.List.{list_any}
use Rattle.std.proofs.lemmas.List.Folds.{Any-from_list_any, list_any-from_Any}
use Rattle.std.proofs.lemmas.Bool.Decides.{Decides-eqb}
use Rattle.std.proofs.lemmas.Option.{slice_get_within}
use Rattle.model_bodies.specs.declared.statement.Statement.{Statement}
use Rattle.model_bodies.specs.declared.statement.Statement.TheVariants.{Put}
use Rattle.model_bodies.specs.Codes.{Code}
use Rattle.program_warnings.specs.Reach.{AreReached, reducer_put, IsPut, ArePut, is_marked, puts, puts_from}

puts_of : (reducer : ℕ) (statement : Statement) → puts reducer statement ≡ true → reducer_put statement ≡ Some reducer
puts_of reducer (Put line other value) is = ap Some ((Decides-eqb other reducer).0 is)
puts_of reducer statement is = cc

put_puts : (reducer : ℕ) (statement : Statement) → reducer_put statement ≡ Some reducer → puts reducer statement ≡ true
put_puts reducer (Put line other value) is = let e : other ≡ reducer = cc in (Decides-eqb other reducer).1 e
put_puts reducer statement is = cc

and_true : (a b : Bool) → (a && b) ≡ true → (a ≡ true) × (b ≡ true)
and_true true b is = (refl, is)
and_true false b is = cc

module _ (is_reached : ℕ → Bool) (reducer : ℕ) where
  -- the function of these that puts it
  abbrev Found : (number : ℕ) → List Code → Type 0
  Found number codes =
      (place : ℕ) × (code : Code) × (slice_get codes place ≡ Some code) × (is_reached (number + place) ≡ true) × (list_any (puts reducer) code.body ≡ true)

  found_by : (number : ℕ) (code : Code) (codes : List Code) (here : Bool) → (is_reached number && list_any (puts reducer) code.body) ≡ here →
      (puts_from is_reached reducer (number + 1) codes ≡ true → Found (number + 1) codes) →
      (here || puts_from is_reached reducer (number + 1) codes) ≡ true → Found number (code ∷ codes)
  found_by number code codes true is later any =
      let parts = and_true (is_reached number) (list_any (puts reducer) code.body) is in
      let e : number ≡ number + 0 = omega arith in (0, code, refl, subst (λ n. is_reached n ≡ true) e parts.0, parts.1)
  found_by number code codes false is later any =
      let found = later any in
      let e : number + 1 + found.0 ≡ number + suc found.0 = omega arith in
      (suc found.0, found.1, found.2, subst (λ n. is_reached n ≡ true) e found.3, found.4)

  found_from : (number : ℕ) (codes : List Code) → puts_from is_reached reducer number codes ≡ true → Found number codes
  found_from number [] any = cc
  found_from number (code ∷ codes) any =
      found_by number code codes (is_reached number && list_any (puts reducer) code.body) refl (found_from (number + 1) codes) any

  or_left : (a b : Bool) → a ≡ true → (a || b) ≡ true
  or_left true b is = refl
  or_left false b is = cc

  or_right : (a b : Bool) → b ≡ true → (a || b) ≡ true
  or_right true b is = refl
  or_right false b is = is

  both : (a b : Bool) → a ≡ true → b ≡ true → (a && b) ≡ true
  both true b one other = other
  both false b one other = cc

  put_from : (codes : List Code) (number place : ℕ) (code : Code) → slice_get codes place ≡ Some code → is_reached (number + place) ≡ true →
      list_any (puts reducer) code.body ≡ true → puts_from is_reached reducer number codes ≡ true
  put_from [] number place code known reached any = cc
  put_from (first ∷ codes) number zero code known reached any =
      let e : code ≡ first = cc in
      let z : number + 0 ≡ number = omega arith in
      or_left (is_reached number && list_any (puts reducer) first.body) (puts_from is_reached reducer (number + 1) codes)
      (both (is_reached number) (list_any (puts reducer) first.body) (subst (λ n. is_reached n ≡ true) z reached)
      (subst (λ (one : Code). list_any (puts reducer) one.body ≡ true) e any))
  put_from (first ∷ codes) number (suc place) code known reached any =
      let e : number + suc place ≡ number + 1 + place = omega arith in
      or_right (is_reached number && list_any (puts reducer) first.body) (puts_from is_reached reducer (number + 1) codes)
      (put_from codes (number + 1) place code known (subst (λ n. is_reached n ≡ true) e reached) any)

zero_more : (n : ℕ) → 0 + n ≡ n
zero_more n = omega arith

module _ (functions : List Code) (main reducers : ℕ) (marks put : List Bool) (reach : AreReached functions main (is_marked marks))
    (same : (reducer : ℕ) → reducer < reducers → is_marked put reducer ≡ puts_from (is_marked marks) reducer 0 functions) where
  put_there : (reducer : ℕ) → puts_from (is_marked marks) reducer 0 functions ≡ true → IsPut functions main reducer
  put_there reducer any =
      let found = found_from (is_marked marks) reducer 0 functions any in
      let one = Any-from_list_any (puts reducer) found.1.body found.4 in
      record {
        function = found.0;
        reached = (reach found.0 (slice_get_within functions found.0 found.1 found.2)).0 (subst (λ n. is_marked marks n ≡ true) (zero_more found.0) found.3);
        code = found.1;
        known = found.2;
        statement = one.1;
        stands = (one.0, one.2, one.3);
        puts = puts_of reducer one.1 one.4;
      }

  put_back : (reducer : ℕ) → IsPut functions main reducer → puts_from (is_marked marks) reducer 0 functions ≡ true
  put_back reducer is =
      put_from (is_marked marks) reducer functions 0 is.function is.code is.known
      (subst (λ n. is_marked marks n ≡ true) (sym (zero_more is.function)) ((reach is.function (slice_get_within functions is.function is.code is.known)).1 is.reached))
      (list_any-from_Any (puts reducer) is.code.body (is.stands.0, is.statement, is.stands.1, is.stands.2, put_puts reducer is.statement is.puts))

  -- the marks of reducers are right
  pub all_put : ArePut functions main reducers (is_marked put)
  all_put reducer within = ((λ is. put_there reducer (sym (same reducer within) ∙ is)), (λ is. same reducer within ∙ put_back reducer is))
