-- Facts on kinds, by cases.
use Rattle.std.proofs.Common.{◌≡◌, ◌≢◌, ◌⊎◌, ◌≤◌, inl, inr, false, IsTrue, get_or, arith, refl, sym, ap, ◌∙◌}
use Rattle.std.proofs.lemmas.Bool.{both_ways}
use Rattle.std.proofs.lemmas.Bool.Decides.{eqb_tells}
use Rattle.model_accesses.specs.declared.kind.Kind.{Kind}
use Rattle.model_accesses.specs.declared.kind.Kind.TheVariants.{Write, Bump, Read, Update, Put, Get}
use Rattle.model_accesses.specs.declared.kind.Rule.TheVariants.{Race}
use Rattle.model_accesses.specs.Table.{kinds, rule_between, is_memory_kind}
use Rattle.access_table.proofs.Conflicts.{races_of_memory}
use Rattle.shadow_history.specs.Witnesses.{place}
use Rattle.shadow_history.specs.Laws.{PlaceLaw}

pub place_law : PlaceLaw
place_law Write = refl
place_law Bump = refl
place_law Read = refl
place_law Update = refl
place_law Put = refl
place_law Get = refl

-- two kinds are one, or differ
pub cases_kind : (kind other : Kind) → (kind ≡ other) ⊎ (kind ≢ other)
cases_kind kind other = elim (eqb_tells (place kind) (place other)) [
  | inl e ↦ inl (sym (place_law kind) ∙ (ap (λ n. get_or kinds n Write) e.1 ∙ place_law other))
  | inr ne ↦ inr (λ e. ne.1 (ap place e))
]

-- the first kind is done, and what is left stands behind it
pub from-second : (P : Kind → Type 0) → P Write → (kind : Kind) → (place Bump ≤ place kind) ⊎ P kind
from-second P first Write = inr first
from-second P first Bump = inl (omega arith)
from-second P first Read = inl (omega arith)
from-second P first Update = inl (omega arith)
from-second P first Put = inl (omega arith)
from-second P first Get = inl (omega arith)

pub from-third : (P : Kind → Type 0) → P Write → P Bump → (kind : Kind) → (place Read ≤ place kind) ⊎ P kind
from-third P first second Write = inr first
from-third P first second Bump = inr second
from-third P first second Read = inl (omega arith)
from-third P first second Update = inl (omega arith)
from-third P first second Put = inl (omega arith)
from-third P first second Get = inl (omega arith)

-- what races is of one of the three kinds of memory access
pub of-memory : (P : Kind → Type 0) (new : Kind) → (rule_between Write new ≡ Race → P Write) → (rule_between Bump new ≡ Race → P Bump) →
    (rule_between Read new ≡ Race → P Read) → (kind : Kind) → rule_between kind new ≡ Race → P kind
of-memory P new write bump read Write e = write e
of-memory P new write bump read Bump e = bump e
of-memory P new write bump read Read e = read e
of-memory P new write bump read Update e = let memory = (races_of_memory Update new e).0 in absurd (cc)
of-memory P new write bump read Put e = let memory = (races_of_memory Put new e).0 in absurd (cc)
of-memory P new write bump read Get e = let memory = (races_of_memory Get new e).0 in absurd (cc)

-- two accesses of one of these kinds do not race
pub free-bumps : {A : Type 0} {kind : Kind} → kind ≡ Bump → rule_between Bump kind ≡ Race → A
free-bumps is e = let free = rw is at e in absurd (cc)

pub free-reads : {A : Type 0} {kind : Kind} → kind ≡ Read → rule_between Read kind ≡ Race → A
free-reads is e = let free = rw is at e in absurd (cc)

-- no access of memory is of another kind
pub no-memory : {A : Type 0} {kind : Kind} (other : Kind) → is_memory_kind other ≡ false → kind ≡ other → IsTrue (is_memory_kind kind) → A
no-memory other none is memory = absurd (both_ways _ none (rw is at memory))
