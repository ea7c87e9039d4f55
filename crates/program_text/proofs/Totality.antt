-- Each text means a program or has a fault.
use Rattle.std.proofs.Common.{◌≡◌, ◌≢◌, ◌⊎◌, inl, inr, ℕ, ◌+◌, ◌<◌, ◌≤◌, Bool, true, false, List, [], ◌∷◌, length, refl, sym, ◌∙◌, subst, arith}
use Rattle.std.specs.Prelude.{Option, Some, None, MatchOption, option_map, unwrap_or}
use Rattle.std.proofs.lemmas.List.{length_push}
use Rattle.text_words.specs.declared.fault.Cause.{Cause}
use Rattle.text_words.specs.declared.fault.Cause.TheVariants.{NotText, BadHeader, BadWord, BadNumber, UnknownName, TwiceNamed, BadNesting, NoMain, TooMany}
use Rattle.text_words.specs.declared.value.Version.{Version}
use Rattle.text_words.specs.Text.{words, lines, IsTextLine}
use Rattle.model_accesses.specs.Limits.{most_cells}
use Rattle.model_reducers.specs.Limits.{most_reducers}
use Rattle.text_words.specs.Limits.{most_lines}
use Rattle.text_words.specs.Declarations.{cells_of}
use Rattle.text_words.specs.Causes.{IsLowest, cause_number}
use Rattle.text_words.proofs.Decided.{OrNot, both_or_not, number_or_not, most_or_not, below_or_not, text_line_or_not}
use Rattle.trace_text.specs.Faults.{HeaderFault}
use Rattle.trace_text.specs.Grammar.{IsHeader}
use Rattle.trace_text.proofs.Totality.{header_told}
use Rattle.program_lines.specs.Scopes.{max_registers}
use Rattle.model_bodies.specs.declared.statement.Statement.{Statement}
use Rattle.program_lines.specs.Grammar.{Item, Blank, Declared, Reduces, Begins, Does, Decides, Otherwise, Ends, ItemMeans}
use Rattle.program_lines.proofs.Totality.{Told, line_told as words_told}
use Rattle.program_text.specs.declared.open_function.Part.{Part}
use Rattle.model_bodies.specs.Codes.{main_of}
use Rattle.model_bodies.specs.Sound.{max_functions, max_statements}
use Rattle.program_text.specs.Functions.{functions_of}
use Rattle.program_text.specs.Drafts.{Open, Draft, Contents, begun, registers_of, scope_of, held, with_register, with_statement, divided_by}
use Rattle.program_text.specs.Grammar.{max_nested, IsFirst, IsInOrder, HasDepth, HasRoom, IsSaid, extended, ended, ended_by, nothing, LineMeans, LinesMean, LinesOfProgram}
use Rattle.program_text.specs.Faults.{LineFault, LinesFault, FaultOfLines}
use Rattle.program_text.specs.Laws.{MeaningOrFault}
use Rattle.program_text.proofs.Said.{said}
use Rattle.program_text.proofs.Taken.{lowest_of_room, lowest_of_words, open_here, no_main_here, lines_of_program}

-- ---- the registers of a function

abbrev IsRoomy : Draft → Type 0
IsRoomy so_far = length (registers_of so_far.current) ≤ max_registers

roomy_divided : (at : ℕ) (current : Open) (parts : List Part) → (divided_by at current parts).registers ≡ current.registers
roomy_divided at current [] = refl
roomy_divided at current (part ∷ parts) = refl

roomy_ended : (at : ℕ) (so_far : Draft) (current : Open) (parts : List Part) → length current.registers ≤ max_registers → IsRoomy (ended_by at so_far current parts)
roomy_ended at so_far current [] few = omega arith
roomy_ended at so_far current (part ∷ parts) few = few

module _ (at : ℕ) (before : Draft) where
  roomy_behind_end : (current : Option Open) → length (registers_of current) ≤ max_registers → IsRoomy before → IsRoomy (ended at before current)
  roomy_behind_end None few before_few = before_few
  roomy_behind_end (Some current) few before_few = roomy_ended at before current current.parts few

  same_registers : (f : Open → Open) → ((current : Open) → (f current).registers ≡ current.registers) → (current : Option Open) →
      length (registers_of current) ≤ max_registers → length (registers_of (option_map f current)) ≤ max_registers
  same_registers f same None few = few
  same_registers f same (Some current) few = subst (λ (names : List (List ℕ)). length names ≤ max_registers) (sym (same current)) few

  one_register : (statement : Statement) (name : List ℕ) (current : Option Open) → length (registers_of current) < max_registers →
      length (registers_of (option_map (λ (function : Open). with_statement (with_register function (Some name)) statement) current)) ≤ max_registers
  one_register statement name None few = omega arith
  one_register statement name (Some current) few = let l = length_push current.registers name in omega (arith, l, few)

  -- a line names no register past the last that a function may have
  roomy_extended : (item : Item) → IsSaid before item → IsRoomy before → IsRoomy (extended at before item)
  roomy_extended Blank s few = few
  roomy_extended (Declared name length) s few = few
  roomy_extended (Reduces name monoid) s few = few
  roomy_extended (Begins name parameter) s few = omega arith
  roomy_extended (Does statement None) s few = same_registers (λ current. with_statement (with_register current None) statement) (λ current. refl) before.current few
  roomy_extended (Does statement (Some name)) s few = one_register statement name before.current s.1
  roomy_extended (Decides register) s few = same_registers _ (λ current. refl) before.current few
  roomy_extended Otherwise s few = same_registers _ (λ current. roomy_divided at current current.parts) before.current few
  roomy_extended Ends s few = roomy_behind_end before.current few few

-- ---- the place and the room of a line

none_or_not : (current : Option Open) → OrNot (current ≡ None)
none_or_not None = inl refl
none_or_not (Some current) = inr (λ e. cc)

open_or_not : (current : Option Open) → OrNot (current ≢ None)
open_or_not None = inr (λ h. h refl)
open_or_not (Some current) = inl (λ e. cc)

first_or_not : (parts : List Part) → OrNot (IsFirst parts)
first_or_not [] = inr (λ t. t)
first_or_not (part ∷ parts) = by part.second
  where
    by : (second : Bool) → OrNot (second ≡ false)
    by true = inr (λ e. cc)
    by false = inl refl

first_part_or_not : (current : Option Open) → OrNot (MatchOption current ⊥ (λ current. IsFirst current.parts))
first_part_or_not None = inr (λ t. t)
first_part_or_not (Some current) = first_or_not current.parts

order_or_not : (before : Draft) (item : Item) → OrNot (IsInOrder before item)
order_or_not before Blank = inl tt
order_or_not before (Declared name length) = number_or_not (begun before) 0
order_or_not before (Reduces name monoid) = number_or_not (begun before) 0
order_or_not before (Begins name parameter) = none_or_not before.current
order_or_not before (Does statement named) = open_or_not before.current
order_or_not before (Decides register) = open_or_not before.current
order_or_not before Otherwise = first_part_or_not before.current
order_or_not before Ends = open_or_not before.current

depth_or_not : (current : Option Open) → OrNot (HasDepth current)
depth_or_not None = inl tt
depth_or_not (Some current) = below_or_not (length current.parts) max_nested

room_or_not : (before : Draft) (item : Item) → OrNot (HasRoom before item)
room_or_not before Blank = inl tt
room_or_not before (Declared name length) = most_or_not (cells_of before.known.mems + unwrap_or length 1) most_cells
room_or_not before (Reduces name monoid) = below_or_not (length before.known.reducers) most_reducers
room_or_not before (Begins name parameter) = both_or_not (most_or_not before.lines max_statements) (below_or_not (begun before) max_functions)
room_or_not before (Does statement named) = most_or_not before.lines max_statements
room_or_not before (Decides register) = both_or_not (most_or_not before.lines max_statements) (depth_or_not before.current)
room_or_not before Otherwise = most_or_not before.lines max_statements
room_or_not before Ends = most_or_not before.lines max_statements

-- ---- lines

none_below_first : (lower : Cause) → cause_number lower < 1 → ⊥
none_below_first NotText l = omega arith
none_below_first BadHeader l = omega arith
none_below_first BadWord l = omega arith
none_below_first BadNumber l = omega arith
none_below_first UnknownName l = omega arith
none_below_first TwiceNamed l = omega arith
none_below_first BadNesting l = omega arith
none_below_first NoMain l = omega arith
none_below_first TooMany l = omega arith

module _ (names : List (List ℕ)) where
  abbrev LineTold : ℕ → Draft → List ℕ → Type 0
  LineTold at before line = ((item : Item) × LineMeans names at before line item) ⊎ ((why : Cause) × IsLowest (LineFault names at before line) why)

  -- a line means something, or has a lowest fault
  line_told : (at : ℕ) (before : Draft) (line : List ℕ) → IsRoomy before → LineTold at before line
  line_told at before line few = go (text_line_or_not line) (words_told at (scope_of names before) (words line) few)
    where
      said_so : IsTextLine line → (item : Item) → ItemMeans at (scope_of names before) (words line) item → OrNot (IsInOrder before item) → OrNot (most_lines < at) →
          OrNot (HasRoom before item) → LineTold at before line
      said_so text item m (inr fails) late room = inr (BadNesting, lowest_of_room names at before line text item m BadNesting fails)
      said_so text item m (inl order) (inl late) room = inr (TooMany, lowest_of_room names at before line text item m TooMany (order, inl late))
      said_so text item m (inl order) (inr soon) (inr fails) = inr (TooMany, lowest_of_room names at before line text item m TooMany (order, inr fails))
      said_so text item m (inl order) (inr soon) (inl room) = inl (item, (within at soon, text, m, order, room))
        where
          within : (n : ℕ) → (most_lines < n → ⊥) → n ≤ most_lines
          within n soon = omega arith

      go : OrNot (IsTextLine line) → Told at (scope_of names before) (words line) → LineTold at before line
      go (inr fails) told = inr (NotText, (fails, λ lower l f. none_below_first lower l))
      go (inl text) (inl (item, m)) = said_so text item m (order_or_not before item) (below_or_not most_lines at) (room_or_not before item)
      go (inl text) (inr (why, f)) = inr (why, lowest_of_words names at before line text why f)

  abbrev LinesTold : ℕ → Draft → List (List ℕ) → Type 0
  LinesTold at before ls = ((contents : Contents) × LinesMean names at before ls contents) ⊎ ((bad : ℕ) × (why : Cause) × LinesFault names at before ls bad why)

  end_told : (at : ℕ) (before : Draft) → LinesTold at before []
  end_told at before = go (none_or_not before.current) (main_of before.functions) refl
    where
      go : OrNot (before.current ≡ None) → (main : Option ℕ) → main_of before.functions ≡ main → LinesTold at before []
      go (inr begun) main e = inr (at, BadNesting, (refl, open_here before begun))
      go (inl ended) None e = inr (at, NoMain, (refl, no_main_here before (λ begun. begun ended) e))
      go (inl ended) (Some main) e = inl (held before, (ended, (λ none. let clash : Some main ≡ None = sym e ∙ none in cc), refl))

  lines_told : (at : ℕ) (before : Draft) (ls : List (List ℕ)) → IsRoomy before → LinesTold at before ls
  lines_told at before [] few = end_told at before
  lines_told at before (line ∷ ls) few = go (λ item roomy. lines_told (at + 1) (extended at before item) ls roomy) (line_told at before line few)
    where
      behind : (item : Item) → LineMeans names at before line item → LinesTold (at + 1) (extended at before item) ls → LinesTold at before (line ∷ ls)
      behind item m (inl (contents, means)) = inl (contents, (item, m, means))
      behind item m (inr (bad, why, f)) = inr (bad, why, inr (item, m, f))

      go : ((item : Item) → IsRoomy (extended at before item) → LinesTold (at + 1) (extended at before item) ls) → LineTold at before line → LinesTold at before (line ∷ ls)
      go rest (inl (item, m)) = behind item m (rest item (roomy_extended at before item (said names at before (words line) item m.2) few))
      go rest (inr (why, f)) = inr (at, why, inl (refl, f))

-- ---- texts

text_told_by : (ls : List (List ℕ)) → ((contents : Contents) × LinesOfProgram ls contents) ⊎ ((bad : ℕ) × (why : Cause) × FaultOfLines ls bad why)
text_told_by [] = inr (1, BadHeader, (refl, refl))
text_told_by (first ∷ rest) = go (header_told first)
  where
    behind : (version : Version) → IsHeader first version → LinesTold (functions_of rest) 2 (nothing version) rest →
        ((contents : Contents) × LinesOfProgram (first ∷ rest) contents) ⊎ ((bad : ℕ) × (why : Cause) × FaultOfLines (first ∷ rest) bad why)
    behind version h (inl (contents, m)) = inl (contents, lines_of_program version first rest contents h m)
    behind version h (inr (bad, why, f)) = inr (bad, why, inr (version, h, f))

    go : ((version : Version) × IsHeader first version) ⊎ ((cause : Cause) × IsLowest (HeaderFault first) cause) →
        ((contents : Contents) × LinesOfProgram (first ∷ rest) contents) ⊎ ((bad : ℕ) × (why : Cause) × FaultOfLines (first ∷ rest) bad why)
    go (inl (version, h)) = behind version h (lines_told (functions_of rest) 2 (nothing version) rest (omega arith))
    go (inr (cause, f)) = inr (1, cause, inl (refl, f))

pub text_told : MeaningOrFault
text_told text = text_told_by (lines text)
