-- Two dialogues of one function.
use Rattle.std.specs.Prelude.{◌≡◌, ℕ, List, [], ◌∷◌}
use Rattle.model_histories.specs.declared.answer.Answer.{Answer}
use Rattle.model_histories.specs.Extensions.{IsCleanAnswer}
use Rattle.model_bodies.specs.Codes.{Code}
use Rattle.model_programs.specs.Exchanges.{Exchange}
use Rattle.model_programs.specs.Dialogue.{Extent, DialogueOf}
use Rattle.model_runs.specs.Serial.{value_given}

-- two answers, neither a refusal, that give the same value, if any: a function goes on alike after them
pub record AreAlike (one other : Answer) : Type 0 where
  pub one_clean : IsCleanAnswer one
  pub other_clean : IsCleanAnswer other
  pub same_value : value_given one ≡ value_given other

-- the same is asked, and again after answers that are alike, as far as both lists go
abbrev pub Agree : List Exchange → List Exchange → Type 0
Agree [] others = Unit {0}
Agree (x ∷ said) [] = Unit {0}
Agree (x ∷ said) (y ∷ others) =
    (x.act ≡ y.act) × (x.line ≡ y.line) × (x.target ≡ y.target) × (AreAlike x.answer y.answer → Agree said others)

-- two dialogues of one function with one argument agree
abbrev pub AgreementLaw : Type 0
AgreementLaw =
    (functions : List Code) (function argument : ℕ) (one other : Extent) (said others : List Exchange) →
    DialogueOf functions function argument one said → DialogueOf functions function argument other others → Agree said others
