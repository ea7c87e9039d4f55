-- What the addresses of two strands say of the strands: reach, orders, branches.
use Rattle.std.specs.Prelude.{ℕ, ltb, Bool, true, false, not, ◌&&◌, [], ◌∷◌, ◌++◌, ◌≡◌, ◌≢◌, ◌⊎◌, ◌<◌, IsTrue}
use Rattle.model_strands.specs.Address.{Word, child, next, join, Address, extended, Difference, equal, prefix}
use Rattle.model_strands.specs.Address.{extension, differ, first_difference, same_at}

-- a spawn leads to it
abbrev pub is_fork : Word → Bool
is_fork join = false
is_fork _ = true

-- the other side of a spawn
abbrev pub sibling : Word → Word
sibling child = next
sibling next = child
sibling join = join

-- how the second stands to the first
abbrev pub reversed : Difference → Difference
reversed equal = equal
reversed prefix = extension
reversed extension = prefix
reversed (differ word other) = differ other word

-- a is b
abbrev pub same : Address → Address → Bool
same a b = same_at (first_difference a b)

-- at such a difference the second begins with the first
abbrev pub is_prefix_at : Difference → Bool
is_prefix_at equal = true
is_prefix_at prefix = true
is_prefix_at _ = false

-- b begins with a
abbrev pub is_prefix : Address → Address → Bool
is_prefix a b = is_prefix_at (first_difference a b)

-- a path leads from what goes on with the first word to what goes on with the other: the one forks and the other joins
abbrev pub reaches_word : Word → Word → Bool
reaches_word word join = is_fork word
reaches_word _ _ = false

-- at such a difference a path leads from the first to the second
abbrev pub reaches_at : Difference → Bool
reaches_at equal = true
reaches_at prefix = true
reaches_at extension = false
reaches_at (differ word other) = reaches_word word other

-- a path leads from a to b: a is a prefix of b, or at the first difference a forks and b joins
abbrev pub reaches : Address → Address → Bool
reaches a b = reaches_at (first_difference a b)

-- no path leads from one to the other
abbrev pub parallel : Address → Address → Bool
parallel a b = not (reaches a b) && not (reaches b a)

-- just one of two tests holds
abbrev pub disagree : Bool → Bool → Bool
disagree true test = not test
disagree false test = test

-- at such a difference the first is before the second in the order by a rank of the words
abbrev pub before_at : (Word → ℕ) → Difference → Bool
before_at rank equal = false
before_at rank prefix = true
before_at rank extension = false
before_at rank (differ word other) = ltb (rank word) (rank other)

-- a is before b: it is a proper prefix of b, or at the first difference its word has the lower rank
abbrev pub before : (Word → ℕ) → Address → Address → Bool
before rank a b = before_at rank (first_difference a b)

-- the English order of the words: child, next, join
abbrev pub english : Word → ℕ
english child = 0
english next = 1
english join = 2

-- the Hebrew order of the words: next, child, join
abbrev pub hebrew : Word → ℕ
hebrew next = 0
hebrew child = 1
hebrew join = 2

-- the English order of addresses
abbrev pub english_before : Address → Address → Bool
english_before a b = before english a b

-- the Hebrew order of addresses
abbrev pub hebrew_before : Address → Address → Bool
hebrew_before a b = before hebrew a b

-- a first word with the branch of the words behind it: a join goes where nothing is behind it
abbrev pub put_before : Word → Address → Address
put_before word (other ∷ a) = word ∷ (other ∷ a)
put_before join [] = []
put_before word [] = word ∷ []

-- the address without the joins at its end
abbrev pub branch : Address → Address
branch [] = []
branch (word ∷ a) = put_before word (branch a)

-- The same relations in words.

-- b begins with a
abbrev pub IsPrefix : Address → Address → Type 0
IsPrefix a b = (rest : Address) × (b ≡ a ++ rest)

-- where a and b part, a goes on with a word and b with another that the relation joins
abbrev pub PartBy : (Word → Word → Type 0) → Address → Address → Type 0
PartBy Relation a b =
    (front rest_a rest_b : Address) × (word_a word_b : Word) × (a ≡ front ++ (word_a ∷ rest_a))
    × (b ≡ front ++ (word_b ∷ rest_b)) × Relation word_a word_b

-- a path leads from a to b
abbrev pub Reaches : Address → Address → Type 0
Reaches a b = IsPrefix a b ⊎ PartBy (λ word other. IsTrue (is_fork word) × (other ≡ join)) a b

-- a is before b in the order by a rank of the words
abbrev pub Before : (Word → ℕ) → Address → Address → Type 0
Before rank a b = (IsPrefix a b × (a ≢ b)) ⊎ PartBy (λ word other. rank word < rank other) a b

-- one is on the side of the child and the other on that of the continuation
abbrev pub Parallel : Address → Address → Type 0
Parallel a b = PartBy (λ word other. ((word ≡ child) × (other ≡ next)) ⊎ ((word ≡ next) × (other ≡ child))) a b

-- the order of a serial run: a path leads from a to b, or a is on the side of the child and b on that of the continuation
abbrev pub SerialBefore : Address → Address → Type 0
SerialBefore a b = (Reaches a b × (a ≢ b)) ⊎ PartBy (λ word other. (word ≡ child) × (other ≡ next)) a b

-- the child of some spawn reaches a and not b, and its continuation b and not a
abbrev pub IsSplit : Address → Address → Type 0
IsSplit a b =
    (spawner : Address) × IsTrue (reaches (extended spawner child) a) × (reaches (extended spawner child) b ≡ false) ×
    IsTrue (reaches (extended spawner next) b) × (reaches (extended spawner next) a ≡ false)
