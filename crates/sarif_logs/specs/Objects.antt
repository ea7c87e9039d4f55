-- An object that is made member by member: Some of its members so far, and None once there was no memory for one.
use Rattle.std.specs.Prelude.{ℕ, ◌≡◌, Bool, true, false, List, Option, Some, None, IfSome, Result, Ok, Err}
use Rattle.std.specs.Option.{option_map}
use Rattle.serde_json.specs.Data.{Data, Members, put, object as whole}
use Rattle.serde_json.specs.View.{view, members_view}
use Rattle.serde_json.specs.declared.value.Value.{Value}
use Rattle.sarif_logs.specs.declared.object.Object.{Object}

abbrev pub made_so_far : Bool → Members → Option Members
made_so_far true so_far = None
made_so_far false so_far = Some so_far

abbrev pub made : Object → Option Members
made object = made_so_far object.is_short (members_view object.members.entries)

-- these are the members so far, where there was memory for each
abbrev pub Makes : Object → Members → Type 0
Makes object members = IfSome (made object) (λ now. now ≡ members)

-- what a value tells, where there was memory for one
abbrev pub told_view : {E : Type 0} → Result Value E → Option Data
told_view (Ok value) = Some (view value)
told_view (Err fault) = None

abbrev pub put_in : (key : List ℕ) → (told : Option Data) → Option Members → Option Members
put_in key (Some told) (Some members) = Some (put key told members)
put_in key told members = None

-- this member is put beside those before, where there was memory for it
pub record Puts (old : Option Members) (key : List ℕ) (told : Option Data) (new : Option Members) : Type 0 where
  pub puts : IfSome new (λ members. put_in key told old ≡ Some members)

-- the object as a value, where there was memory for each member
pub record Ends (object : Object) (told : Data) : Type 0 where
  pub ends : option_map whole (made object) ≡ Some told
