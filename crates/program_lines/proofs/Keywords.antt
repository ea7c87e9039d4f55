-- A word is the word of one keyword at most, and of one sign.
use Rattle.std.proofs.Common.{◌≡◌, ◌↔◌, ℕ, cond, List, Some, get_or, refl, sym, ap, subst, ◌∙◌}
use Rattle.std.specs.Prelude.{◌==◌}
use Rattle.model_accesses.specs.declared.kind.Kind.TheVariants as kind
use Rattle.program_lines.specs.declared.keyword.Keyword.{Keyword}
use Rattle.program_lines.specs.declared.keyword.Keyword.TheVariants.{Mem, Reducer, Func, Let, Access, Spawn, Call, Sync, ParallelFor, If, Else, End}
use Rattle.program_lines.specs.declared.operator.Operator.{Operator}
use Rattle.program_lines.specs.declared.operator.Operator.TheVariants.{Plus, Minus, Times, Below}
use Rattle.program_lines.specs.Places.{sign_spelling}
use Rattle.text_words.specs.declared.value.Version.{Version}
use Rattle.program_lines.specs.Table.{spelling, HasKeyword}

-- the keyword whose first, second and third letters are these
abbrev keyword_by : ℕ → ℕ → ℕ → Keyword
keyword_by first second third =
    cond (first == 109) Mem (cond (first == 102) Func (cond (first == 108) Let (cond (first == 119) (Access kind.Write)
    (cond (first == 98) (Access kind.Bump) (cond (first == 117) (Access kind.Update) (cond (first == 103) (Access kind.Get)
    (cond (first == 99) Call (cond (first == 105) If (cond (first == 115) (cond (third == 97) Spawn Sync)
    (cond (first == 114) (cond (third == 100) Reducer (Access kind.Read)) (cond (first == 112) (cond (second == 102) ParallelFor (Access kind.Put))
    (cond (second == 108) Else End))))))))))))

abbrev pub keyword_of_word : List ℕ → Keyword
keyword_of_word word = keyword_by (get_or word 0 0) (get_or word 1 0) (get_or word 2 0)

pub keyword_of_spelling : (keyword : Keyword) → keyword_of_word (spelling keyword) ≡ keyword
keyword_of_spelling Mem = refl
keyword_of_spelling Reducer = refl
keyword_of_spelling Func = refl
keyword_of_spelling Let = refl
keyword_of_spelling (Access kind.Write) = refl
keyword_of_spelling (Access kind.Bump) = refl
keyword_of_spelling (Access kind.Read) = refl
keyword_of_spelling (Access kind.Update) = refl
keyword_of_spelling (Access kind.Put) = refl
keyword_of_spelling (Access kind.Get) = refl
keyword_of_spelling Spawn = refl
keyword_of_spelling Call = refl
keyword_of_spelling Sync = refl
keyword_of_spelling ParallelFor = refl
keyword_of_spelling If = refl
keyword_of_spelling Else = refl
keyword_of_spelling End = refl

some_same : (keyword other : Keyword) → Some keyword ≡ Some other → keyword ≡ other
some_same keyword other e = cc

-- a word that is spelled as a keyword of the version is no other keyword
pub only_keyword : (version : Version) (word : List ℕ) (found : Keyword) → HasKeyword version found → word ≡ spelling found
    → (keyword : Keyword) → (Some found ≡ Some keyword) ↔ (HasKeyword version keyword × (word ≡ spelling keyword))
only_keyword version word found has is keyword = (
  (λ e. subst (λ (k : Keyword). HasKeyword version k × (word ≡ spelling k)) (some_same found keyword e) (has, is)),
  (λ t. ap Some (sym (keyword_of_spelling found) ∙ (ap keyword_of_word (sym is ∙ t.1) ∙ keyword_of_spelling keyword))),
)

abbrev pub sign_of_word : List ℕ → Operator
sign_of_word word = cond (get_or word 0 0 == 43) Plus (cond (get_or word 0 0 == 45) Minus (cond (get_or word 0 0 == 42) Times Below))

pub sign_of_spelling : (operator : Operator) → sign_of_word (sign_spelling operator) ≡ operator
sign_of_spelling Plus = refl
sign_of_spelling Minus = refl
sign_of_spelling Times = refl
sign_of_spelling Below = refl

pub sign_once : (operator other : Operator) → sign_spelling operator ≡ sign_spelling other → operator ≡ other
sign_once operator other same = sym (sign_of_spelling operator) ∙ (ap sign_of_word same ∙ sign_of_spelling other)
