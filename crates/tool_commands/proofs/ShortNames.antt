-- The names that a program declares are no longer than a name may be.
use Rattle.std.proofs.Common.{◌≤◌, ℕ, ◌+◌, List, [], ◌∷◌, ◌++◌, length, arith}
use Rattle.std.specs.List.{All}
use Rattle.std.proofs.lemmas.List.Elements.{All-nil, All-cons}
use Rattle.text_words.specs.declared.value.Mem.{Mem}
use Rattle.text_words.specs.Text.{IsName}
use Rattle.program_text.specs.Drafts.{Contents}
use Rattle.program_text.specs.Grammar.{TextMeans}
use Rattle.run_traces.proofs.Declared.{AreMemories, declared_of_text}
use Rattle.command_streams.specs.ElisionText.{HasShortName}

name_short : (name : List ℕ) → IsName name → length name ≤ 32
name_short [] named = absurd named
name_short (byte ∷ bytes) named = omega (arith, named.2)

names_short : (names : List (List ℕ)) (first : ℕ) (mems : List Mem) → AreMemories names first mems → All HasShortName mems
names_short names first [] declared = All-nil HasShortName
names_short names first (mem ∷ mems) declared =
    All-cons HasShortName mem mems (name_short mem.name declared.0.0) (names_short (names ++ mem.name ∷ []) (first + mem.cells) mems declared.1)

-- what a text means has such names
pub short_names : (text : List ℕ) (contents : Contents) → TextMeans text contents → All HasShortName contents.known.mems
short_names text contents means = names_short [] 0 contents.known.mems (declared_of_text text contents means).memories
