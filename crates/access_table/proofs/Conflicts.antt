-- The list of conflicts against the rule by cases.
use Rattle.std.proofs.Common.{rules, ◌≡◌, true, refl, sym, ap, ◌∙◌, subst, lit<, Contains}
use Rattle.std.proofs.lemmas.List.Elements.{All-nil, All-cons, All-contains}
use Rattle.model_accesses.specs.declared.kind.Kind.{Kind}
use Rattle.model_accesses.specs.declared.kind.Kind.TheVariants.{Write, Bump, Read, Put, Get}
use Rattle.model_accesses.specs.declared.kind.Rule.{Rule}
use Rattle.model_accesses.specs.declared.kind.Rule.TheVariants.{Free, Race, View}
use Rattle.model_accesses.specs.Table.{conflicts, rule_between, is_conflict}
use Rattle.access_table.specs.Laws.{EachPairHasOneRule, RuleIsSymmetric, RacesAreOfMemory, ViewsAreOfReducerReads}

-- where two kinds stand in the list
place_of_conflict : (old new : Kind) → is_conflict (rule_between old new) ≡ true → Contains conflicts (old, new, rule_between old new)
place_of_conflict Write Write e = (0, lit< tt, refl)
place_of_conflict Bump Write e = (1, lit< tt, refl)
place_of_conflict Read Write e = (2, lit< tt, refl)
place_of_conflict Write Bump e = (3, lit< tt, refl)
place_of_conflict Read Bump e = (4, lit< tt, refl)
place_of_conflict Write Read e = (5, lit< tt, refl)
place_of_conflict Bump Read e = (6, lit< tt, refl)
place_of_conflict Put Put e = (7, lit< tt, refl)
place_of_conflict Get Put e = (8, lit< tt, refl)
place_of_conflict Put Get e = (9, lit< tt, refl)
place_of_conflict Get Get e = (10, lit< tt, refl)
place_of_conflict old new e = cc

-- a conflict by cases is listed
conflict_listed : (old new : Kind) (rule : Rule) → rule_between old new ≡ rule → is_conflict rule ≡ true → Contains conflicts (old, new, rule)
conflict_listed old new rule e h = let P : Rule → Type 0 = λ r. Contains conflicts (old, new, r) in subst P e (place_of_conflict old new (ap is_conflict e ∙ h))

-- a triple has the rule by cases, which is a conflict
abbrev IsConflict : Kind × Kind × Rule → Type 0
IsConflict triple = (rule_between triple.0 triple.1 ≡ triple.2) × (is_conflict triple.2 ≡ true)

listed_conflict : (old new : Kind) (rule : Rule) → Contains conflicts (old, new, rule) → IsConflict (old, new, rule)
listed_conflict old new rule = All-contains IsConflict conflicts (old, new, rule) (search (All-cons, All-nil) depth 30)

pub one_rule : EachPairHasOneRule
one_rule old new Race = (λ h. (listed_conflict old new Race h).0, λ e. conflict_listed old new Race e refl)
one_rule old new View = (λ h. (listed_conflict old new View h).0, λ e. conflict_listed old new View e refl)
one_rule old new Free = (λ none. none_listed none (rule_between old new) refl, free)
  where
    none_listed : ((rule : Rule) → Contains conflicts (old, new, rule) → ⊥) → (rule : Rule) → rule_between old new ≡ rule → rule_between old new ≡ Free
    none_listed none Free e = e
    none_listed none Race e = absurd (none Race (conflict_listed old new Race e refl))
    none_listed none View e = absurd (none View (conflict_listed old new View e refl))

    free : rule_between old new ≡ Free → (rule : Rule) → Contains conflicts (old, new, rule) → ⊥
    free e rule h = let found = listed_conflict old new rule h in let clash : is_conflict Free ≡ true = ap is_conflict (sym e ∙ found.0) ∙ found.1 in cc

pub rule_symmetric : RuleIsSymmetric
rule_symmetric old new = search rules

pub races_of_memory : RacesAreOfMemory
races_of_memory old new e = search rules

pub views_of_reducer_reads : ViewsAreOfReducerReads
views_of_reducer_reads old new = search rules
