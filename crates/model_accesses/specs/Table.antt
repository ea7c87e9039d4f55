-- The access table: which kinds conflict, under which rule, and the words of kinds and rules.
use Rattle.std.specs.Prelude.{ℕ, Bool, true, false, Option, Some, None, List, [], ◌∷◌, ◌++◌, codes, Contains}
use Rattle.model_accesses.specs.declared.kind.Kind.{Kind}
use Rattle.model_accesses.specs.declared.kind.Kind.TheVariants.{Write, Bump, Read, Update, Put, Get}
use Rattle.model_accesses.specs.declared.kind.Rule.{Rule}
use Rattle.model_accesses.specs.declared.kind.Rule.TheVariants.{Free, Race, View}

-- The kinds in their order.
abbrev pub kinds : List Kind
kinds = Write ∷ Bump ∷ Read ∷ Update ∷ Put ∷ Get ∷ []

-- The table as a set: an earlier kind, a new kind, and the rule that the two come under.
abbrev pub conflicts : List (Kind × Kind × Rule)
conflicts =
    (Write, Write, Race) ∷ (Bump, Write, Race) ∷ (Read, Write, Race) ∷
    (Write, Bump, Race) ∷ (Read, Bump, Race) ∷ (Write, Read, Race) ∷ (Bump, Read, Race) ∷
    (Put, Put, View) ∷ (Get, Put, View) ∷ (Put, Get, View) ∷ (Get, Get, View) ∷ []

-- Two kinds come under a rule that is listed for them, and under Free where none is.
abbrev pub HasRule : Kind → Kind → Rule → Type 0
HasRule old new Free = (rule : Rule) → Contains conflicts (old, new, rule) → ⊥
HasRule old new rule = Contains conflicts (old, new, rule)

-- The rule that two kinds come under, by cases, so that it computes.
abbrev pub rule_between : Kind → Kind → Rule
rule_between Write Write = Race
rule_between Bump Write = Race
rule_between Read Write = Race
rule_between Write Bump = Race
rule_between Read Bump = Race
rule_between Write Read = Race
rule_between Bump Read = Race
rule_between Put Put = View
rule_between Get Put = View
rule_between Put Get = View
rule_between Get Get = View
rule_between old new = Free

-- Two accesses that come under the rule conflict.
abbrev pub is_conflict : Rule → Bool
is_conflict Free = false
is_conflict rule = true

-- The word of a kind.
abbrev pub spelling : Kind → List ℕ
spelling Write = codes "write"
spelling Bump = codes "bump"
spelling Read = codes "read"
spelling Update = codes "update"
spelling Put = codes "put"
spelling Get = codes "get"

-- The word of a rule between an earlier and a new kind, where they conflict.
abbrev pub rule_spelling : Kind → Kind → Rule → Option (List ℕ)
rule_spelling old new Free = None
rule_spelling old new Race = Some (spelling old ++ codes "-" ++ spelling new)
rule_spelling old new View = Some (codes "view-read")

-- The accesses of memory cells.
abbrev pub is_memory_kind : Kind → Bool
is_memory_kind Write = true
is_memory_kind Bump = true
is_memory_kind Read = true
is_memory_kind kind = false

-- The accesses of a reducer that tell one view of it from another.
abbrev pub is_reducer_read : Kind → Bool
is_reducer_read Put = true
is_reducer_read Get = true
is_reducer_read kind = false
