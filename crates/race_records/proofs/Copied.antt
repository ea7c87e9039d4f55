-- A copy of a value as a member of an object.
use Rattle.std.proofs.Common.{◌≡◌, ◌∙◌}
use Rattle.std.specs.Prelude.{Result, Ok, Err, IfSome, MatchResult}
use Rattle.serde_json.specs.Data.{Data}
use Rattle.serde_json.specs.View.{view}
use Rattle.serde_json.specs.declared.value.Value.{Value}
use Rattle.sarif_logs.specs.Objects.{told_view}

-- what a copy tells, where there was memory for it
pub copied : {E : Type 0} (copy : Result Value E) {told other : Data} → MatchResult copy (λ one. view one ≡ told) (λ fault. ⊥ → ⊥) →
    told ≡ other → IfSome (told_view copy) (λ one. one ≡ other)
copied (Ok value) is same = is ∙ same
copied (Err fault) is same = tt
