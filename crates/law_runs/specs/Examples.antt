-- Worked programs and histories, the newest entry first, and what they show.
use Rattle.std.specs.Prelude.{◌≡◌, ◌+◌, ◌<◌, ℕ, true, false, List, [], ◌∷◌, ◌++◌, map, reverse, codes}
use Rattle.model_accesses.specs.declared.kind.Kind.TheVariants as kind
use Rattle.model_accesses.specs.declared.kind.Rule.TheVariants.{Race}
use Rattle.model_accesses.specs.declared.request.Act.{Act}
use Rattle.text_words.specs.declared.value.Version.TheVariants.{One}
use Rattle.text_words.specs.Values.{Known}
use Rattle.text_words.specs.Declarations.{cells_of}
use Rattle.model_histories.specs.declared.answer.Answer.{Answer}
use Rattle.model_histories.specs.declared.answer.Answer.TheVariants.{Split, Same, Joined, Ended, Finished, Granted, Value, Refused}
use Rattle.model_histories.specs.declared.answer.Entry.{Entry}
use Rattle.model_histories.specs.Entries.{Entries}
use Rattle.model_histories.specs.Shapes.{Shape}
use Rattle.model_races.specs.Judged.{IsJudged}
use Rattle.model_histories.specs.Extensions.{IsClean}
use Rattle.model_bodies.specs.declared.statement.Register.{Register}
use Rattle.model_bodies.specs.declared.statement.Operand.TheVariants.{Number, Held}
use Rattle.model_bodies.specs.declared.statement.Location.TheVariants.{Cell}
use Rattle.model_bodies.specs.declared.statement.Statement.{Statement}
use Rattle.model_bodies.specs.declared.statement.Statement.TheVariants.{Read, Write, Spawn, Sync, If, Else, End}
use Rattle.model_bodies.specs.Codes.{Code}
use Rattle.program_text.specs.Grammar.{TextMeans}
use Rattle.model_programs.specs.Evaluation.{Effect, effect, valued}
use Rattle.model_programs.specs.Elisions.{HasMain, EvaluatesProgram}
use Rattle.model_runs.specs.Runs.{IsRun, IsFinishedRun}
use Rattle.model_runs.specs.Serial.{effect_of}

-- ---- histories of two cells

abbrev pub two_cells : Shape
two_cells = record { cells = 2; monoids = [] }

-- the strand's act with its line, and its answer
abbrev pub asked : ℕ → Act → ℕ → Answer → Entry
asked strand act line answer = record { request = record { strand = strand; act = act; line = line }; answer = answer }

-- `main` spawns a function on line 5, and the child writes to `x`
abbrev pub spawned : Entries
spawned = asked 0 Act.Spawn 5 (Split (record { child = 1; next = 2; join = 3; first = true })) ∷ []

abbrev pub child_wrote : (value line : ℕ) → Entries
child_wrote value line = asked 1 (Act.Write 0 value) line Granted ∷ spawned

-- what `main` is then answered where it reads `x`
abbrev pub refused_by_write : Answer
refused_by_write = Refused Race (record { entry = 2; strand = 1; kind = kind.Write })

abbrev pub read_refused : (line : ℕ) → Entries
read_refused line = asked 2 (Act.Read 0) 6 refused_by_write ∷ child_wrote 7 line

-- ---- what the programs below do

abbrev pub pair_entries : Entries
pair_entries =
    asked 3 Act.Return 7 Finished ∷ asked 2 Act.Sync 7 (Joined 3) ∷ asked 1 Act.Return 10 Ended ∷ asked 1 Act.Sync 10 Same ∷
    read_refused 9

-- `main` reads `y`, where the program has it read `x`
abbrev pub other_cell : Entries
other_cell = asked 2 (Act.Read 1) 6 (Value 0) ∷ child_wrote 7 9

abbrev pub series_joined : Entries
series_joined = asked 2 Act.Sync 6 (Joined 3) ∷ asked 1 Act.Return 12 Ended ∷ asked 1 Act.Sync 12 Same ∷ child_wrote 7 11

abbrev pub series_written : Entries
series_written = asked 3 (Act.Write 1 7) 8 Granted ∷ asked 3 (Act.Read 0) 7 (Value 7) ∷ series_joined

abbrev pub series_entries : Entries
series_entries = asked 3 Act.Return 9 Finished ∷ asked 3 Act.Sync 9 Same ∷ series_written

-- without the sync at the end of `main`
abbrev pub never_synced : Entries
never_synced = asked 3 Act.Return 9 Finished ∷ series_written

-- what the serial elision does, the oldest first
abbrev pub series_effects : List Effect
series_effects =
    effect Act.Spawn 5 ∷ effect (Act.Write 0 7) 11 ∷ effect Act.Sync 12 ∷ effect Act.Return 12 ∷ effect Act.Sync 6 ∷
    valued (Act.Read 0) 7 7 ∷ effect (Act.Write 1 7) 8 ∷ effect Act.Sync 9 ∷ effect Act.Return 9 ∷ []

-- `main` writes this to `y` on this line, after the refused read
abbrev pub chosen : (value line : ℕ) → Entries
chosen value line = asked 2 (Act.Write 1 value) line Granted ∷ read_refused 14

-- ---- programs

abbrev pub pair_text : List ℕ
pair_text = codes "cilk 1\nmem x\nmem y\nfunc main z\n  spawn f 7\n  read r x\nend\nfunc f v\n  write x v\nend\n"

abbrev pub series_text : List ℕ
series_text =
    codes "cilk 1\nmem x\nmem y\nfunc main z\n  spawn f 7\n  sync\n  read r x\n  write y r\nend\nfunc f v\n  write x v\nend\n"

abbrev pub choosing_text : List ℕ
choosing_text =
    codes "cilk 1\nmem x\nmem y\nfunc main z\n  spawn f 7\n  read r x\n" ++
    codes "  if ok\n    write y 1\n  else\n    write y 2\n  end\nend\nfunc f v\n  write x v\nend\n"

abbrev pub two_memories : Known
two_memories = record {
  version = One;
  mems =
      record { name = codes "x"; cells = 1; array = false; first = 0; line = 2 } ∷
      record { name = codes "y"; cells = 1; array = false; first = 1; line = 3 } ∷ [];
  reducers = [];
}

-- the text declares `x` and `y` and means these functions
abbrev pub MeansFunctions : List ℕ → List Code → Type 0
MeansFunctions text functions = TextMeans text (record { known = two_memories; functions = functions })

-- `ok`, the parameter, and the register that is named first, each with the proof that it carries, whichever that is
module _ (ok_there : 0 < 17) (parameter_there : 1 < 17) (named_there : 2 < 17) where
  abbrev pub ok : Register
  ok = record { index = 0; in_range = ok_there }

  abbrev pub parameter : Register
  parameter = record { index = 1; in_range = parameter_there }

  abbrev pub named : Register
  named = record { index = 2; in_range = named_there }

  -- `main` with this body, and behind it a function that writes its argument to `x`
  abbrev pub with_writer : (end_line : ℕ) → List Statement → List Code
  with_writer end_line body =
      record {
        name = codes "main";
        parameter = codes "z";
        line = 4;
        end_line = end_line;
        registers = codes "z" ∷ codes "r" ∷ [];
        body = body;
      } ∷
      record {
        name = codes "f";
        parameter = codes "v";
        line = end_line + 1;
        end_line = end_line + 3;
        registers = codes "v" ∷ [];
        body = Write (end_line + 2) (Cell 0) (Held parameter) ∷ [];
      } ∷ []

  -- `main` spawns it and reads `x`
  abbrev pub pair : List Code
  pair = with_writer 7 (Spawn 5 1 (Number 7) ∷ Read 6 named (Cell 0) ∷ [])

  -- `main` spawns it, syncs, and writes to `y` what it reads in `x`
  abbrev pub series : List Code
  series = with_writer 9 (Spawn 5 1 (Number 7) ∷ Sync 6 ∷ Read 7 named (Cell 0) ∷ Write 8 (Cell 1) (Held named) ∷ [])

  -- after the read `main` writes 1 to `y` if it was granted, and else 2
  abbrev pub choosing : List Code
  choosing =
      with_writer 12
      (Spawn 5 1 (Number 7) ∷ Read 6 named (Cell 0) ∷
      If 7 ok 5 ∷ Write 8 (Cell 1) (Number 1) ∷ Else 9 7 ∷ Write 10 (Cell 1) (Number 2) ∷ End 11 ∷ [])

  -- what they show
  pub record WorkedRuns : Type 0 where
    -- the texts declare two cells
    pub declared : cells_of two_memories.mems ≡ two_cells.cells
    -- a finished run in which a read is refused
    pub pair_means : MeansFunctions pair_text pair
    pub pair_run : IsFinishedRun pair two_cells pair_entries
    pub pair_not_clean : IsClean pair_entries → ⊥
    -- a finished run in which nothing is refused, and its serial elision, which does what the entries did
    pub series_means : MeansFunctions series_text series
    pub series_run : IsFinishedRun series two_cells series_entries
    pub series_clean : IsClean series_entries
    pub series_elided : (main : Code) × HasMain series main ×
        EvaluatesProgram series [] 2 main series_effects (record { memory = 7 ∷ 7 ∷ []; views = [] })
    pub series_done : map effect_of (reverse series_entries) ≡ series_effects
    -- judged, and no run: a granted read of another cell
    pub other_cell_judged : IsJudged two_cells other_cell
    pub other_cell_no_run : IsRun pair two_cells other_cell → ⊥
    -- judged, and no run: the child writes another value than its argument
    pub other_value_judged : IsJudged two_cells (child_wrote 8 9)
    pub other_value_no_run : IsRun pair two_cells (child_wrote 8 9) → ⊥
    -- judged, and no run: the sync at the end of `main` is left out
    pub never_synced_judged : IsJudged two_cells never_synced
    pub never_synced_no_run : IsRun series two_cells never_synced → ⊥
    -- after a refused read the second part of an `if ok` is a run, and the first part is judged, and no run
    pub choosing_means : MeansFunctions choosing_text choosing
    pub second_part_run : IsRun choosing two_cells (chosen 2 10)
    pub first_part_judged : IsJudged two_cells (chosen 1 8)
    pub first_part_no_run : IsRun choosing two_cells (chosen 1 8) → ⊥

abbrev pub ExamplesLaw : Type 0
ExamplesLaw = (ok_there : 0 < 17) (parameter_there : 1 < 17) (named_there : 2 < 17) → WorkedRuns ok_there parameter_there named_there
