-- What a scope says of the stack that it stands for, and how it goes on to stand for it.
use Rattle.std.proofs.Common.{◌≡◌, ◌≢◌, ℕ, zero, suc, ◌≤◌, List, Option, Some, None, get_or, refl, sym, ap, ◌∙◌, subst, arith}
use Rattle.sp_labels.specs.declared.record.Scope.{Scope}
use Rattle.sp_labels.specs.declared.record.Scope.TheVariants.{Root, Child, Call, Block}
use Rattle.model_strands.specs.Updated.{updated}
use Rattle.model_strands.specs.Blocks.{Stack, root, spawned, called, block, IsSynced}
use Rattle.law_strands.proofs.Updates.{updated_off}
use Rattle.law_strands.proofs.Places.{place_of}
use Rattle.sp_labels.specs.Roster.{StandsFor}

pub stands-root : (callers : List (Option Scope)) (below_call : ℕ → Stack) (scope : Scope) (stack : Stack) →
    StandsFor callers below_call scope stack → scope ≡ Root → stack ≡ root
stands-root callers below_call scope root d e = refl
stands-root callers below_call scope (spawned number join) d e = absurd (let both : Child join ≡ Root = sym d ∙ e in cc)
stands-root callers below_call scope (called number below) (key, caller, d, at, is, rest) e = absurd (let both : Call key ≡ Root = sym d ∙ e in cc)
stands-root callers below_call scope (block join below) d e = absurd (let both : Block join ≡ Root = sym d ∙ e in cc)

pub stands-child : (callers : List (Option Scope)) (below_call : ℕ → Stack) (scope : Scope) (join : ℕ) (stack : Stack) →
    StandsFor callers below_call scope stack → scope ≡ Child join → (number : ℕ) × (stack ≡ spawned number join)
stands-child callers below_call scope join root d e = absurd (let both : Root ≡ Child join = sym d ∙ e in cc)
stands-child callers below_call scope join (spawned number other) d e =
    let both : Child other ≡ Child join = sym d ∙ e in
    let same_join : other ≡ join = cc in
    (number, ap (λ x. spawned number x) same_join)
stands-child callers below_call scope join (called number below) (key, caller, d, at, is, rest) e = absurd (let both : Call key ≡ Child join = sym d ∙ e in cc)
stands-child callers below_call scope join (block other below) d e = absurd (let both : Block other ≡ Child join = sym d ∙ e in cc)

pub stands-block : (callers : List (Option Scope)) (below_call : ℕ → Stack) (scope : Scope) (join : ℕ) (stack : Stack) →
    StandsFor callers below_call scope stack → scope ≡ Block join → (below : Stack) × (stack ≡ block join below)
stands-block callers below_call scope join root d e = absurd (let both : Root ≡ Block join = sym d ∙ e in cc)
stands-block callers below_call scope join (spawned number other) d e = absurd (let both : Child other ≡ Block join = sym d ∙ e in cc)
stands-block callers below_call scope join (called number below) (key, caller, d, at, is, rest) e = absurd (let both : Call key ≡ Block join = sym d ∙ e in cc)
stands-block callers below_call scope join (block other below) d e =
    let both : Block other ≡ Block join = sym d ∙ e in
    let same_join : other ≡ join = cc in
    (below, ap (λ x. block x below) same_join)

-- what lies below a called function
pub record IsCall (callers : List (Option Scope)) (below_call : ℕ → Stack) (key : ℕ) (stack : Stack) : Type 0 where
  pub number : ℕ
  pub below : Stack
  pub caller : Scope
  pub stack_is : stack ≡ called number below
  pub caller_is : get_or callers key None ≡ Some caller
  pub below_is : below_call key ≡ below
  pub stands : StandsFor callers below_call caller below

pub stands-call : (callers : List (Option Scope)) (below_call : ℕ → Stack) (scope : Scope) (key : ℕ) (stack : Stack) →
    StandsFor callers below_call scope stack → scope ≡ Call key → IsCall callers below_call key stack
stands-call callers below_call scope key root d e = absurd (let both : Root ≡ Call key = sym d ∙ e in cc)
stands-call callers below_call scope key (spawned number other) d e = absurd (let both : Child other ≡ Call key = sym d ∙ e in cc)
stands-call callers below_call scope key (called number below) (other, caller, d, at, is, rest) e =
    let both : Call other ≡ Call key = sym d ∙ e in
    let same_key : other ≡ key = cc in
    record {
      number = number;
      below = below;
      caller = caller;
      stack_is = refl;
      caller_is = subst (λ x. get_or callers x None ≡ Some caller) same_key at;
      below_is = subst (λ x. below_call x ≡ below) same_key is;
      stands = rest;
    }
stands-call callers below_call scope key (block other below) d e = absurd (let both : Block other ≡ Call key = sym d ∙ e in cc)

pub stands-synced : (callers : List (Option Scope)) (below_call : ℕ → Stack) (scope : Scope) (stack : Stack) →
    StandsFor callers below_call scope stack → ((join : ℕ) → scope ≡ Block join → ⊥) → IsSynced stack
stands-synced callers below_call scope root d none = tt
stands-synced callers below_call scope (spawned number join) d none = tt
stands-synced callers below_call scope (called number below) d none = tt
stands-synced callers below_call scope (block join below) d none = none join d

-- a caller put under a key that is vacant
pub stands-added : (old new : List (Option Scope)) (below_call : ℕ → Stack) (key : ℕ) (added : Stack) → get_or old key None ≡ None →
    ((other : ℕ) → other ≢ key → get_or new other None ≡ get_or old other None) →
    (scope : Scope) (stack : Stack) → StandsFor old below_call scope stack → StandsFor new (updated below_call key added) scope stack
stands-added old new below_call key added vacant others scope root d = d
stands-added old new below_call key added vacant others scope (spawned number join) d = d
stands-added old new below_call key added vacant others scope (block join below) d = d
stands-added old new below_call key added vacant others scope (called number below) (at, caller, d, held, is, rest) =
    let apart : at ≢ key = λ e. let was : get_or old at None ≡ None = ap (λ other. get_or old other None) e ∙ vacant in let both : None ≡ Some caller = sym was ∙ held in cc in
    (at, caller, d, others at apart ∙ held, updated_off below_call key added at apart ∙ is, stands-added old new below_call key added vacant others caller below rest)

-- how many called functions stand above the innermost open block or spawned function
abbrev pub depth : Stack → ℕ
depth (called number below) = suc (depth below)
depth _ = zero

-- a caller taken away whose key no function of the stack has
pub stands-removed : (old new : List (Option Scope)) (below_call : ℕ → Stack) (key : ℕ) →
    ((other : ℕ) → other ≢ key → get_or new other None ≡ get_or old other None) →
    (scope : Scope) (stack : Stack) → (place_of stack ≡ place_of (below_call key) → depth stack ≤ depth (below_call key)) →
    StandsFor old below_call scope stack → StandsFor new below_call scope stack
stands-removed old new below_call key others scope root free d = d
stands-removed old new below_call key others scope (spawned number join) free d = d
stands-removed old new below_call key others scope (block join below) free d = d
stands-removed old new below_call key others scope (called number below) free (at, caller, d, held, is, rest) =
    let apart : at ≢ key = λ e. let same_stack : below_call key ≡ below = ap below_call (sym e) ∙ is in let same_depth : depth (below_call key) ≡ depth below = ap depth same_stack in
    let le : suc (depth below) ≤ depth (below_call key) = free (ap place_of (sym same_stack)) in omega arith in
    (at, caller, d, others at apart ∙ held, is, stands-removed old new below_call key others caller below (λ e. let le : suc (depth below) ≤ depth (below_call key) = free e in omega arith) rest)
