-- A word is the word of one keyword at most, and of one monoid.
use Rattle.std.proofs.Common.{◌≡◌, ℕ, cond, List, get_or, refl, sym, ap, ◌∙◌}
use Rattle.std.specs.Prelude.{◌==◌}
use Rattle.model_accesses.specs.declared.kind.Kind.TheVariants as kind
use Rattle.trace_text.specs.declared.keyword.Keyword.{Keyword}
use Rattle.trace_text.specs.declared.keyword.Keyword.TheVariants.{Mem as MemWord, Reducer as ReducerWord, Spawn, Call, Sync, Return, Access}
use Rattle.model_reducers.specs.declared.monoid.Monoid.{Monoid}
use Rattle.model_reducers.specs.declared.monoid.Monoid.TheVariants.{Sum, Min, Max, Last, Digits}
use Rattle.text_words.specs.Values.{monoid_spelling}
use Rattle.trace_text.specs.Lines.{spelling}

-- the keyword whose first and third letters are these
abbrev keyword_by : ℕ → ℕ → Keyword
keyword_by first third =
    cond (first == 109) MemWord (cond (first == 99) Call (cond (first == 119) (Access kind.Write) (cond (first == 98) (Access kind.Bump)
    (cond (first == 117) (Access kind.Update) (cond (first == 112) (Access kind.Put) (cond (first == 103) (Access kind.Get)
    (cond (first == 115) (cond (third == 97) Spawn Sync)
    (cond (third == 100) ReducerWord (cond (third == 116) Return (Access kind.Read))))))))))

abbrev pub keyword_of_word : List ℕ → Keyword
keyword_of_word word = keyword_by (get_or word 0 0) (get_or word 2 0)

pub keyword_of_spelling : (keyword : Keyword) → keyword_of_word (spelling keyword) ≡ keyword
keyword_of_spelling MemWord = refl
keyword_of_spelling ReducerWord = refl
keyword_of_spelling Spawn = refl
keyword_of_spelling Call = refl
keyword_of_spelling Sync = refl
keyword_of_spelling Return = refl
keyword_of_spelling (Access kind.Write) = refl
keyword_of_spelling (Access kind.Bump) = refl
keyword_of_spelling (Access kind.Read) = refl
keyword_of_spelling (Access kind.Update) = refl
keyword_of_spelling (Access kind.Put) = refl
keyword_of_spelling (Access kind.Get) = refl

-- the monoid whose second letter is this
abbrev pub monoid_of_word : List ℕ → Monoid
monoid_of_word word =
    cond (get_or word 0 0 == 115) Sum (cond (get_or word 0 0 == 108) Last (cond (get_or word 0 0 == 100) Digits (cond (get_or word 1 0 == 105) Min Max)))

pub monoid_of_spelling : (monoid : Monoid) → monoid_of_word (monoid_spelling monoid) ≡ monoid
monoid_of_spelling Sum = refl
monoid_of_spelling Min = refl
monoid_of_spelling Max = refl
monoid_of_spelling Last = refl
monoid_of_spelling Digits = refl

pub monoid_once : (monoid other : Monoid) → monoid_spelling monoid ≡ monoid_spelling other → monoid ≡ other
monoid_once monoid other same = sym (monoid_of_spelling monoid) ∙ (ap monoid_of_word same ∙ monoid_of_spelling other)
