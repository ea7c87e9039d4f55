-- What the words of a line tell of its names.
use Rattle.std.proofs.Common.{◌≡◌, ℕ, ◌<◌, ◌≤◌, ◌∷◌, [], List, length, arith, refl, sym, ap, ◌∙◌, subst}
use Rattle.std.specs.Prelude.{codes, unwrap_or, Option, Some, None}
use Rattle.trace_text.specs.Lines.{OfName, OfNumber, OfMonoid}
use Rattle.text_words.specs.Text.{IsName}
use Rattle.program_lines.specs.declared.keyword.Keyword.{Keyword}
use Rattle.program_lines.specs.declared.keyword.Keyword.TheVariants as word
use Rattle.model_bodies.specs.declared.statement.Register.{Register}
use Rattle.model_bodies.specs.declared.statement.Statement.{Statement}
use Rattle.model_bodies.specs.declared.statement.Statement.TheVariants.{Let, Read, Get, ParallelFor, If, Else, End}
use Rattle.text_words.specs.Names.{IsFresh as IsUndeclaredName}
use Rattle.trace_text.proofs.LineOutcomes.{first_means, last_means}
use Rattle.trace_text.specs.Lines as trace
use Rattle.model_accesses.specs.declared.kind.Kind.TheVariants as kind
use Rattle.program_lines.specs.Scopes.{NameScope, IsFresh, HasNotBegun}
use Rattle.program_lines.specs.Places.{Place, Common, FreshName, OperandWord, LocationWord, AssignedRegister, FunctionName, ParameterName, Exactly, Value, Plain, OfOperand, OfLocation, OfAssigned, Nothing, WordMeans}
use Rattle.program_lines.specs.Table.{Placed, placed, wanted, optional, WordsMean, Says}
use Rattle.program_lines.specs.Grammar.{Item, Blank, Declared, Reduces, Begins, Does, Decides, Otherwise, Ends, ItemMeans, number_if_there, expression_values}
use Rattle.program_text.specs.Drafts.{Draft, scope_of}
use Rattle.program_text.specs.Grammar.{IsSaid}

module _ (scope : NameScope) (ws : List (List ℕ)) where
  -- what the first word behind the keyword means
  pub first_said : (keyword : Keyword) (p : Place) (places : List Place) (value : Value) (values : List Value) → wanted keyword ≡ p ∷ places
      → Says scope ws keyword (value ∷ values)
      → (w : List ℕ) × (more : List Placed) × (rest : List (List ℕ)) × WordsMean scope ((p, w) ∷ []) (value ∷ []) × WordsMean scope more values × (placed places (optional keyword) rest ≡ Some more)
  first_said keyword p places value values e says =
      let placing : placed (p ∷ places) (optional keyword) says.1.0 ≡ Some says.0 =
      subst (λ (t : List Place). placed t (optional keyword) says.1.0 ≡ Some says.0) e says.1.3 in
      let first = first_means (WordMeans scope) p places (optional keyword) says.1.0 says.0 value values placing says.2 in
      (first.0, first.2, first.1, (first.3, tt), first.4, first.5)

  new_register : (keyword : Keyword) (places : List Place) (register : Register) (name : List ℕ) (values : List Value) → wanted keyword ≡ AssignedRegister ∷ places
      → Says scope ws keyword (OfAssigned register (Some name) ∷ values) → IsName name × (length scope.registers < 16)
  new_register keyword places register name values e says =
      let first = first_said keyword AssignedRegister places (OfAssigned register (Some name)) values e says in
      let small = register.in_range in
      (subst (λ (t : List ℕ). IsName t) (sym first.3.0.0) first.3.0.1.0, omega (arith, first.3.0.3, small))

fresh_said : (scope : NameScope) (w name : List ℕ) → (name ≡ w) × IsName w × IsFresh scope w → IsName name × IsUndeclaredName scope.known name
fresh_said scope w name h = (subst (λ (t : List ℕ). IsName t) (sym h.0) h.1, subst (λ (t : List ℕ). IsUndeclaredName scope.known t) (sym h.0) h.2.0)

-- the words of a `func`
pub begins_words : (scope : NameScope) (name parameter : List ℕ) (arguments : List (List ℕ)) (pairs : List Placed)
    → placed (FreshName ∷ ParameterName ∷ []) [] arguments ≡ Some pairs → WordsMean scope pairs (Plain (OfName name) ∷ Plain (OfName parameter) ∷ [])
    → (arguments ≡ name ∷ parameter ∷ []) × IsName name × IsName parameter × HasNotBegun scope name
begins_words scope name parameter [] pairs e m = cc
begins_words scope name parameter (a ∷ []) pairs e m = cc
begins_words scope name parameter (a ∷ b ∷ []) pairs e m =
    let same : pairs ≡ (FreshName, a) ∷ (ParameterName, b) ∷ [] = cc in
    let k : WordsMean scope ((FreshName, a) ∷ (ParameterName, b) ∷ []) (Plain (OfName name) ∷ Plain (OfName parameter) ∷ []) =
    subst (λ (ps : List Placed). WordsMean scope ps (Plain (OfName name) ∷ Plain (OfName parameter) ∷ [])) same m in
    let first : name ≡ a = k.0.0 in
    let second : parameter ≡ b = k.1.0.0 in (
      ap (λ (t : List ℕ). t ∷ b ∷ []) (sym first) ∙ ap (λ (t : List ℕ). name ∷ t ∷ []) (sym second),
      subst (λ (t : List ℕ). IsName t) (sym first) k.0.1,
      subst (λ (t : List ℕ). IsName t) (sym second) k.1.0.1.0,
      subst (λ (t : List ℕ). HasNotBegun scope t) (sym first) k.0.2.1,
    )
begins_words scope name parameter (a ∷ b ∷ c ∷ rest) pairs e m = cc

begins_said : (scope : NameScope) (ws : List (List ℕ)) (name parameter : List ℕ) → Says scope ws word.Func (Plain (OfName name) ∷ Plain (OfName parameter) ∷ []) → IsName name × IsName parameter
begins_said scope ws name parameter says = let b = begins_words scope name parameter says.1.0 says.0 says.1.3 says.2 in (b.1, b.2)

does_said : (scope : NameScope) (at : ℕ) (ws : List (List ℕ)) (statement : Statement) (name : List ℕ) → ItemMeans at scope ws (Does statement (Some name))
    → IsName name × (length scope.registers < 16)
does_said scope at ws (Let line register value) name m =
    new_register scope ws word.Let (Exactly (codes "=") ∷ OperandWord ∷ []) register name (Nothing ∷ expression_values value) refl m.2
does_said scope at ws (Read line register location) name m =
    new_register scope ws (word.Access kind.Read) (LocationWord ∷ []) register name (OfLocation location ∷ []) refl m.2
does_said scope at ws (Get line register reducer) name m =
    new_register scope ws (word.Access kind.Get) (Common trace.ReducerName ∷ []) register name (Plain (OfNumber reducer) ∷ []) refl m.2
does_said scope at ws (ParallelFor line register count function) name m =
    new_register scope ws word.ParallelFor (OperandWord ∷ FunctionName ∷ []) register name (OfOperand count ∷ Plain (OfNumber function) ∷ []) refl m.2
does_said scope at ws (If line register otherwise) name m = absurd m.0
does_said scope at ws (Else line after) name m = absurd m.0
does_said scope at ws (End line) name m = absurd m.0
does_said scope at ws statement name m = let clash : Some name ≡ None = m.0 in cc

-- what an item tells of its names
pub said : (names : List (List ℕ)) (at : ℕ) (before : Draft) (ws : List (List ℕ)) (item : Item) → ItemMeans at (scope_of names before) ws item → IsSaid before item
said names at before ws (Declared name length) m =
    let first = first_said (scope_of names before) ws word.Mem FreshName [] (Plain (OfName name)) (number_if_there length) refl m in
    fresh_said (scope_of names before) first.0 name first.3.0
said names at before ws (Reduces name monoid) m =
    let first = first_said (scope_of names before) ws word.Reducer FreshName (Common trace.MonoidWord ∷ []) (Plain (OfName name)) (Plain (OfMonoid monoid) ∷ []) refl m in
    fresh_said (scope_of names before) first.0 name first.3.0
said names at before ws (Begins name parameter) m = begins_said (scope_of names before) ws name parameter m
said names at before ws (Does statement (Some name)) m = does_said (scope_of names before) at ws statement name m
said names at before ws (Does statement None) m = tt
said names at before ws Blank m = tt
said names at before ws (Decides register) m = tt
said names at before ws Otherwise m = tt
said names at before ws Ends m = tt

number_said : (scope : NameScope) (low n : ℕ) (rest : List (List ℕ)) (more : List Placed) → placed [] (Common (trace.Number low 1000000) ∷ []) rest ≡ Some more
    → WordsMean scope more (Plain (OfNumber n) ∷ []) → low ≤ n
number_said scope low n rest more e m = (last_means (WordMeans scope) (Common (trace.Number low 1000000)) [] rest more (Plain (OfNumber n)) [] e m).1.1

-- a memory has a cell at least
pub length_said : (scope : NameScope) (ws : List (List ℕ)) (name : List ℕ) (length : Option ℕ) → Says scope ws word.Mem (Plain (OfName name) ∷ number_if_there length) → 1 ≤ unwrap_or length 1
length_said scope ws name None says = omega arith
length_said scope ws name (Some n) says =
    let first = first_said scope ws word.Mem FreshName [] (Plain (OfName name)) (Plain (OfNumber n) ∷ []) refl says in
    number_said scope 1 n first.2 first.1 first.5 first.4
