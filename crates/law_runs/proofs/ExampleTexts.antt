-- What the worked texts mean.
use Rattle.std.proofs.Common.{◌≡◌, ◌≢◌, ℕ, ◌+◌, ◌<◌, ◌≤◌, true, List, [], ◌∷◌, length, Some, None, refl, sym, subst}
use Rattle.std.specs.Prelude.{codes}
use Rattle.std.specs.List.{list_all}
use Rattle.std.specs.Char.{is_ascii_lowercase}
use Rattle.std.proofs.lemmas.List.Sums.{AllPass-from_list_all}
use Rattle.text_words.specs.Text.{words, is_text_byte, is_name_byte, IsName}
use Rattle.model_accesses.specs.Limits.{most_cells}
use Rattle.text_words.specs.Limits.{most_lines}
use Rattle.text_words.specs.Names.{SingleMeans}
use Rattle.text_words.specs.Declarations.{cells_of}
use Rattle.model_bodies.specs.declared.statement.Register.{Register}
use Rattle.model_bodies.specs.declared.statement.Operand.{Operand}
use Rattle.model_bodies.specs.declared.statement.Location.TheVariants.{Cell}
use Rattle.model_bodies.specs.declared.statement.Statement.TheVariants.{Read, Write, Spawn, Sync}
use Rattle.program_lines.specs.Scopes.{ok_word, register_named, function_named, IsFresh}
use Rattle.program_lines.specs.Places.{FreshName, OperandWord, LocationWord, AssignedRegister, KnownRegister, FunctionName, ParameterName, OperandMeans}
use Rattle.program_lines.specs.Grammar.{Item, Declared, Begins, Does, Decides, Otherwise, Ends, ItemMeans}
use Rattle.model_bodies.specs.Sound.{max_functions, max_statements}
use Rattle.program_text.specs.Drafts.{Draft, begun, registers_of, scope_of}
use Rattle.program_text.specs.Grammar.{IsInOrder, HasRoom, HasDepth, LineMeans}

-- ---- lines

pub some_there : {A : Type 0} (x : A) → Some x ≢ None
some_there x e = cc

pub named_by : (byte : ℕ) (bytes : List ℕ) → is_ascii_lowercase byte ≡ true → list_all is_name_byte bytes ≡ true → length bytes < 32 → IsName (byte ∷ bytes)
named_by byte bytes first rest short = (first, AllPass-from_list_all is_name_byte bytes rest, short)

-- one line of a text with these functions
module _ (names : List (List ℕ)) (at : ℕ) (so_far : Draft) (line : List ℕ) (small : at ≤ most_lines) (bytes : list_all is_text_byte line ≡ true) where
  said : (ws : List (List ℕ)) (item : Item) → words line ≡ ws → ItemMeans at (scope_of names so_far) ws item → IsInOrder so_far item → HasRoom so_far item →
      LineMeans names at so_far line item
  said ws item e means order room =
      (small, AllPass-from_list_all is_text_byte line bytes, subst (λ (w : List (List ℕ)). ItemMeans at (scope_of names so_far) w item) (sym e) means, order, room)

  pub declared_line : (name : List ℕ) → words line ≡ codes "mem" ∷ name ∷ [] → IsName name → IsFresh (scope_of names so_far) name → begun so_far ≡ 0 →
      cells_of so_far.known.mems + 1 ≤ most_cells → LineMeans names at so_far line (Declared name None)
  declared_line name e is fresh first room =
      said (codes "mem" ∷ name ∷ []) (Declared name None) e ((FreshName, name) ∷ [], (name ∷ [], refl, tt, refl), ((refl, is, fresh), tt)) first room

  pub begin_line : (name parameter : List ℕ) → words line ≡ codes "func" ∷ name ∷ parameter ∷ [] → IsName name → IsFresh (scope_of names so_far) name → IsName parameter →
      parameter ≢ ok_word → so_far.current ≡ None → so_far.lines ≤ max_statements → begun so_far < max_functions → LineMeans names at so_far line (Begins name parameter)
  begin_line name parameter e is fresh named other outside few more =
      said (codes "func" ∷ name ∷ parameter ∷ []) (Begins name parameter) e
      ((FreshName, name) ∷ (ParameterName, parameter) ∷ [], (name ∷ parameter ∷ [], refl, tt, refl), ((refl, is, fresh), ((refl, (named, other)), tt)))
      outside (few, more)

  pub spawn_line : (name value : List ℕ) (function : ℕ) (argument : Operand) → words line ≡ codes "spawn" ∷ name ∷ value ∷ [] → IsName name →
      function_named names name ≡ Some function → OperandMeans (registers_of so_far.current) value argument → so_far.current ≢ None → so_far.lines ≤ max_statements →
      LineMeans names at so_far line (Does (Spawn at function argument) None)
  spawn_line name value function argument e is found means inside few =
      said (codes "spawn" ∷ name ∷ value ∷ []) (Does (Spawn at function argument) None) e
      (refl, refl, ((FunctionName, name) ∷ (OperandWord, value) ∷ [], (name ∷ value ∷ [], refl, tt, refl), ((is, found), (means, tt))))
      inside few

  pub sync_line : words line ≡ codes "sync" ∷ [] → so_far.current ≢ None → so_far.lines ≤ max_statements → LineMeans names at so_far line (Does (Sync at) None)
  sync_line e inside few = said (codes "sync" ∷ []) (Does (Sync at) None) e (refl, refl, ([], ([], refl, tt, refl), tt)) inside few

  -- a read that is the first to name its register
  pub read_line : (name place : List ℕ) (register : Register) (cell : ℕ) → words line ≡ codes "read" ∷ name ∷ place ∷ [] → IsName name → name ≢ ok_word →
      register_named (registers_of so_far.current) name ≡ None → register.index ≡ length (registers_of so_far.current) + 1 → SingleMeans so_far.known.mems place cell →
      so_far.current ≢ None → so_far.lines ≤ max_statements → LineMeans names at so_far line (Does (Read at register (Cell cell)) (Some name))
  read_line name place register cell e is other new next single inside few =
      said (codes "read" ∷ name ∷ place ∷ []) (Does (Read at register (Cell cell)) (Some name)) e
      (tt, refl, ((AssignedRegister, name) ∷ (LocationWord, place) ∷ [], (name ∷ place ∷ [], refl, tt, refl), ((refl, (is, other), new, next), (single, tt))))
      inside few

  pub write_line : (place value : List ℕ) (cell : ℕ) (operand : Operand) → words line ≡ codes "write" ∷ place ∷ value ∷ [] → SingleMeans so_far.known.mems place cell →
      OperandMeans (registers_of so_far.current) value operand → so_far.current ≢ None → so_far.lines ≤ max_statements →
      LineMeans names at so_far line (Does (Write at (Cell cell) operand) None)
  write_line place value cell operand e single means inside few =
      said (codes "write" ∷ place ∷ value ∷ []) (Does (Write at (Cell cell) operand) None) e
      (refl, refl, ((LocationWord, place) ∷ (OperandWord, value) ∷ [], (place ∷ value ∷ [], refl, tt, refl), (single, (means, tt))))
      inside few

  pub if_line : (name : List ℕ) (register : Register) → words line ≡ codes "if" ∷ name ∷ [] → IsName name →
      register_named (registers_of so_far.current) name ≡ Some register.index → so_far.current ≢ None → so_far.lines ≤ max_statements → HasDepth so_far.current →
      LineMeans names at so_far line (Decides register)
  if_line name register e is known inside few deep =
      said (codes "if" ∷ name ∷ []) (Decides register) e ((KnownRegister, name) ∷ [], (name ∷ [], refl, tt, refl), ((is, known), tt)) inside (few, deep)

  pub else_line : words line ≡ codes "else" ∷ [] → IsInOrder so_far Otherwise → so_far.lines ≤ max_statements → LineMeans names at so_far line Otherwise
  else_line e first few = said (codes "else" ∷ []) Otherwise e ([], ([], refl, tt, refl), tt) first few

  pub end_line : words line ≡ codes "end" ∷ [] → so_far.current ≢ None → so_far.lines ≤ max_statements → LineMeans names at so_far line Ends
  end_line e inside few = said (codes "end" ∷ []) Ends e ([], ([], refl, tt, refl), tt) inside few
