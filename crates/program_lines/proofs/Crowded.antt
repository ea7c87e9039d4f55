-- A line that names a register for which there is no room.
use Rattle.std.proofs.Common.{◌≡◌, ℕ, ◌≤◌, ◌∷◌, [], List, length, Bool, true, false, refl, sym, subst, inl, inr}
use Rattle.std.specs.Prelude.{Some, ◌⊎◌}
use Rattle.model_accesses.specs.declared.kind.Kind.TheVariants as kind
use Rattle.text_words.specs.declared.fault.Cause.{Cause}
use Rattle.text_words.specs.declared.fault.Cause.TheVariants.{NotText, BadHeader, BadNesting, NoMain, TooMany}
use Rattle.trace_text.specs.LineGrammar.{IsArranged, SomeFault}
use Rattle.trace_text.proofs.LineOutcomes.{split_option, nowhere}
use Rattle.program_lines.specs.declared.keyword.Keyword.{Keyword}
use Rattle.program_lines.specs.declared.keyword.Keyword.TheVariants.{Mem, Reducer, Func, Let, Access, Spawn, Call, Sync, ParallelFor, If, Else, End}
use Rattle.trace_text.specs.Lines as trace
use Rattle.program_lines.specs.Scopes.{NameScope, max_registers}
use Rattle.program_lines.specs.Places.{Place, Common, FreshName, OperandWord, LocationWord, AssignedRegister, FunctionName, ParameterName}
use Rattle.program_lines.specs.Table.{table, wanted, optional, Placed, placed}
use Rattle.program_lines.specs.Faults.{WordFault, WordsFault}

-- the lines that assign a register
abbrev pub assigns : Keyword → Bool
assigns Let = true
assigns (Access kind.Read) = true
assigns (Access kind.Get) = true
assigns ParallelFor = true
assigns keyword = false

abbrev is_assigned : Place → Bool
is_assigned AssignedRegister = true
is_assigned place = false

abbrev HasAssigned : List Place → Type 0
HasAssigned [] = ⊥
HasAssigned (place ∷ places) = (is_assigned place ≡ true) ⊎ HasAssigned places

module _ (scope : NameScope) where
  no_room : (place : Place) (word : List ℕ) → WordFault scope place word TooMany → (is_assigned place ≡ true) × (max_registers ≤ length scope.registers)
  no_room (Common place) word f = absurd f
  no_room AssignedRegister word f = (refl, f.1)
  no_room place word f = absurd f

  in_places : (places last : List Place) (words : List (List ℕ)) (pairs : List Placed) → placed places last words ≡ Some pairs → SomeFault (WordFault scope) pairs TooMany
      → (HasAssigned places ⊎ HasAssigned last) × (max_registers ≤ length scope.registers)
  in_places [] last [] pairs e f = let same : [] ≡ pairs = cc in absurd (subst (λ (ps : List Placed). SomeFault (WordFault scope) ps TooMany) (sym same) f)
  in_places [] [] (word ∷ words) pairs e f = cc
  in_places [] (place ∷ last) (word ∷ words) pairs e f =
      let parts = split_option place word (placed last [] words) pairs e in
      elim (subst (λ (ps : List Placed). SomeFault (WordFault scope) ps TooMany) parts.2 f) [
        | inl here ↦ (let found = no_room place word here in (inr (inl found.0), found.1))
        | inr there ↦ (let found = in_places last [] words parts.0 parts.1 there in (elim found.0 [ inl a ↦ inr (inr a) | inr b ↦ absurd b ], found.1))
      ]
  in_places (place ∷ places) last [] pairs e f = cc
  in_places (place ∷ places) last (word ∷ words) pairs e f =
      let parts = split_option place word (placed places last words) pairs e in
      elim (subst (λ (ps : List Placed). SomeFault (WordFault scope) ps TooMany) parts.2 f) [
        | inl here ↦ (let found = no_room place word here in (inl (inl found.0), found.1))
        | inr there ↦ (let found = in_places places last words parts.0 parts.1 there in (elim found.0 [ inl a ↦ inl (inr a) | inr b ↦ inr b ], found.1))
      ]

  none_of : (first second : Place) → is_assigned first ≡ false → is_assigned second ≡ false → HasAssigned (first ∷ second ∷ []) ⊎ HasAssigned [] → ⊥
  none_of first second e f (inl (inl h)) = cc
  none_of first second e f (inl (inr (inl h))) = cc
  none_of first second e f (inl (inr (inr h))) = h
  none_of first second e f (inr h) = h

  no_place : HasAssigned [] ⊎ HasAssigned [] → ⊥
  no_place (inl h) = h
  no_place (inr h) = h

  assigning : (keyword : Keyword) → HasAssigned (wanted keyword) ⊎ HasAssigned (optional keyword) → assigns keyword ≡ true
  assigning Let h = refl
  assigning (Access kind.Read) h = refl
  assigning (Access kind.Get) h = refl
  assigning ParallelFor h = refl
  assigning Mem (inl (inl h)) = cc
  assigning Mem (inl (inr h)) = absurd h
  assigning Mem (inr (inl h)) = cc
  assigning Mem (inr (inr h)) = absurd h
  assigning Reducer h = absurd (none_of FreshName (Common trace.MonoidWord) refl refl h)
  assigning Func h = absurd (none_of FreshName ParameterName refl refl h)
  assigning (Access kind.Write) h = absurd (none_of LocationWord OperandWord refl refl h)
  assigning (Access kind.Bump) h = absurd (none_of LocationWord OperandWord refl refl h)
  assigning (Access kind.Update) h = absurd (none_of (Common trace.ReducerName) OperandWord refl refl h)
  assigning (Access kind.Put) h = absurd (none_of (Common trace.ReducerName) OperandWord refl refl h)
  assigning Spawn h = absurd (none_of FunctionName OperandWord refl refl h)
  assigning Call h = absurd (none_of FunctionName OperandWord refl refl h)
  assigning Sync h = absurd (no_place h)
  assigning If (inl (inl h)) = cc
  assigning If (inl (inr h)) = absurd h
  assigning If (inr h) = absurd h
  assigning Else h = absurd (no_place h)
  assigning End h = absurd (no_place h)

  -- where it holds, the line assigns a register and all registers are known
  pub crowded : (ws : List (List ℕ)) → WordsFault scope ws TooMany
      → (keyword : Keyword) × (pairs : List Placed) × IsArranged table scope.known.version ws keyword pairs × (assigns keyword ≡ true) × (max_registers ≤ length scope.registers)
  crowded ws f =
      let found = in_places (wanted f.0) (optional f.0) f.2.0 f.1 f.2.3 f.3 in
      (f.0, f.1, f.2, assigning f.0 found.0, found.1)

  -- ---- causes that words never have

  abbrev pub IsOfWords : Cause → Type 0
  IsOfWords NotText = ⊥
  IsOfWords BadHeader = ⊥
  IsOfWords BadNesting = ⊥
  IsOfWords NoMain = ⊥
  IsOfWords cause = Unit {0}

  no_word_fault : (place : Place) (word : List ℕ) (cause : Cause) → (IsOfWords cause → ⊥) → WordFault scope place word cause → ⊥
  no_word_fault (Common place) word NotText h f = f
  no_word_fault (Common place) word BadHeader h f = f
  no_word_fault (Common place) word BadNesting h f = f
  no_word_fault (Common place) word NoMain h f = f
  no_word_fault (Common place) word cause h f = absurd (h tt)
  no_word_fault place word NotText h f = f
  no_word_fault place word BadHeader h f = f
  no_word_fault place word BadNesting h f = f
  no_word_fault place word NoMain h f = f
  no_word_fault place word cause h f = absurd (h tt)

  pub no_words_fault : (ws : List (List ℕ)) (cause : Cause) → (IsOfWords cause → ⊥) → WordsFault scope ws cause → ⊥
  no_words_fault ws NotText h f = nowhere (WordFault scope) f.1 NotText (λ place word g. no_word_fault place word NotText h g) f.3
  no_words_fault ws BadHeader h f = nowhere (WordFault scope) f.1 BadHeader (λ place word g. no_word_fault place word BadHeader h g) f.3
  no_words_fault ws BadNesting h f = nowhere (WordFault scope) f.1 BadNesting (λ place word g. no_word_fault place word BadNesting h g) f.3
  no_words_fault ws NoMain h f = nowhere (WordFault scope) f.1 NoMain (λ place word g. no_word_fault place word NoMain h g) f.3
  no_words_fault ws cause h f = absurd (h tt)
