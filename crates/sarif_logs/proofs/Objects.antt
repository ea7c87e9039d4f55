-- An object that is made member by member.
use Rattle.std.proofs.Common.{◌≡◌, ℕ, List, Option, Some, None, sym, ap, ◌∙◌}
use Rattle.std.specs.Prelude.{Result, Ok, Err, IfOk, IfSome}
use Rattle.std.specs.Option.{option_map}
use Rattle.serde_json.specs.Data.{Data, Members, put, object}
use Rattle.serde_json.specs.View.{view}
use Rattle.serde_json.specs.declared.value.Value.{Value}
use Rattle.sarif_logs.specs.declared.object.Object.{Object}
use Rattle.sarif_logs.specs.Objects.{made, Makes, told_view, Puts, Ends}

pub some_is : {X : Type 0} {one two : X} → Some one ≡ Some two → one ≡ two
some_is e = cc

pub never : {X : Type 0} {one : X} → None ≡ Some one → ⊥
never e = absurd (cc)

pub begins : (now : Option Members) (members : Members) → now ≡ Some members → IfSome now (λ some. some ≡ members)
begins None all e = tt
begins (Some some) all e = some_is e

puts_from : (key : List ℕ) (old new : Option Members) (value : Option Data) (members : Members) (told : Data) →
    IfSome old (λ now. now ≡ members) → IfSome value (λ one. one ≡ told) → Puts old key value new → IfSome new (λ now. now ≡ put key told members)
puts_from key old None value all told before is step = tt
puts_from key None (Some new) None all told before is step = absurd (never step.puts)
puts_from key None (Some new) (Some one) all told before is step = absurd (never step.puts)
puts_from key (Some old) (Some new) None all told before is step = absurd (never step.puts)
puts_from key (Some old) (Some new) (Some one) all told before is step =
    sym (some_is step.puts) ∙ ap (λ d. put key d old) is ∙ ap (put key told) before

-- a member more, whose value tells this
pub puts : (key : List ℕ) {old new : Option Members} {value : Option Data} (members : Members) (told : Data) →
    IfSome old (λ now. now ≡ members) → IfSome value (λ one. one ≡ told) → Puts old key value new → IfSome new (λ now. now ≡ put key told members)
puts key members told before is step = puts_from key _ _ _ members told before is step

pub told_as : {E : Type 0} (value : Result Value E) (told : Data) → IfOk value (λ made. view made ≡ told) → IfSome (told_view value) (λ one. one ≡ told)
told_as (Ok value) told is = is
told_as (Err fault) told is = tt

-- the same by another name
pub told_by : {E : Type 0} (value : Result Value E) {told other : Data} → told ≡ other → IfOk value (λ made. view made ≡ told) →
    IfSome (told_view value) (λ one. one ≡ other)
told_by (Ok value) same is = is ∙ same
told_by (Err fault) same is = tt

ended : (now : Option Members) (members : Members) (told : Data) → IfSome now (λ some. some ≡ members) → option_map object now ≡ Some told → told ≡ object members
ended None all told makes is = absurd (never is)
ended (Some now) all told makes is = sym (some_is is) ∙ ap object makes

-- the whole object as a value
pub finishes : {E : Type 0} (begun : Object) (members : Members) (result : Result Value E) → Makes begun members →
    IfOk result (λ value. Ends begun (view value)) → IfOk result (λ value. view value ≡ object members)
finishes begun all (Ok value) makes is = ended (made begun) all (view value) makes is.ends
finishes begun all (Err fault) makes is = tt
