-- What the worked programs mean.
use Rattle.std.proofs.Common.{◌≡◌, ◌≢◌, ℕ, ◌+◌, ◌<◌, ◌≤◌, false, List, [], ◌∷◌, Some, None, refl, lit<, lit≤, arith}
use Rattle.std.specs.Prelude.{codes}
use Rattle.std.proofs.lemmas.List.Sums.{AllPass-from_list_all}
use Rattle.text_words.specs.declared.value.Version.TheVariants.{One}
use Rattle.text_words.specs.Text.{is_text_byte, IsName}
use Rattle.text_words.specs.Limits.{most_lines}
use Rattle.text_words.specs.Names.{SingleMeans}
use Rattle.model_bodies.specs.declared.statement.Operand.TheVariants.{Number, Held}
use Rattle.model_bodies.specs.declared.statement.Location.TheVariants.{Cell}
use Rattle.model_bodies.specs.declared.statement.Statement.{Statement}
use Rattle.model_bodies.specs.declared.statement.Statement.TheVariants.{Read, Write, Spawn, Sync, If, Else, End}
use Rattle.program_lines.specs.Scopes.{ok_word, function_named}
use Rattle.program_lines.specs.Places.{OperandMeans}
use Rattle.program_lines.specs.Grammar.{Declared, Begins, Does, Decides, Otherwise, Ends}
use Rattle.model_bodies.specs.Codes.{Code}
use Rattle.model_bodies.specs.Sound.{max_statements}
use Rattle.program_text.specs.Drafts.{Draft, Contents}
use Rattle.program_text.specs.Grammar.{LinesMean, nothing, extended}
use Rattle.law_runs.specs.Examples.{two_memories, MeansFunctions, pair_text, pair, series_text, series, choosing_text, choosing, ok, parameter, named}
use Rattle.law_runs.proofs.ExampleTexts.{some_there, named_by, declared_line, begin_line, spawn_line, sync_line, read_line, write_line, if_line, else_line, end_line}

-- ---- words

abbrev names : List (List ℕ)
names = codes "main" ∷ codes "f" ∷ []

name_x : IsName (codes "x")
name_x = named_by 120 [] refl refl (lit< tt)

name_y : IsName (codes "y")
name_y = named_by 121 [] refl refl (lit< tt)

name_z : IsName (codes "z")
name_z = named_by 122 [] refl refl (lit< tt)

name_f : IsName (codes "f")
name_f = named_by 102 [] refl refl (lit< tt)

name_v : IsName (codes "v")
name_v = named_by 118 [] refl refl (lit< tt)

name_r : IsName (codes "r")
name_r = named_by 114 [] refl refl (lit< tt)

name_main : IsName (codes "main")
name_main = named_by 109 (codes "ain") refl refl (lit< tt)

name_ok : IsName (codes "ok")
name_ok = named_by 111 (codes "k") refl refl (lit< tt)

z_other : codes "z" ≢ ok_word
z_other e = cc

v_other : codes "v" ≢ ok_word
v_other e = cc

r_other : codes "r" ≢ ok_word
r_other e = cc

no_function : (name : List ℕ) → function_named names name ≡ None → (number : ℕ) → function_named names name ≡ Some number → 0 ≤ number
no_function name none number e = omega arith

f_new : (number : ℕ) → function_named names (codes "f") ≡ Some number → 1 ≤ number
f_new number e =
    let found : Some 1 ≡ Some number = e in
    let is : 1 ≡ number = cc in
    omega (arith, is)

single_x : SingleMeans two_memories.mems (codes "x") 0
single_x = (name_x, record { name = codes "x"; cells = 1; array = false; first = 0; line = 2 }, (refl, refl), refl)

single_y : SingleMeans two_memories.mems (codes "y") 1
single_y = (name_y, record { name = codes "y"; cells = 1; array = false; first = 1; line = 3 }, (refl, refl), refl)

seven : (registers : List (List ℕ)) → OperandMeans registers (codes "7") (Number 7)
seven registers = ((lit< tt, refl, refl), lit≤ tt, lit≤ tt)

one : (registers : List (List ℕ)) → OperandMeans registers (codes "1") (Number 1)
one registers = ((lit< tt, refl, refl), lit≤ tt, lit≤ tt)

two : (registers : List (List ℕ)) → OperandMeans registers (codes "2") (Number 2)
two registers = ((lit< tt, refl, refl), lit≤ tt, lit≤ tt)

-- ---- what the texts have in common

abbrev contents_of : List Code → Contents
contents_of functions = record { known = two_memories; functions = functions }

-- the function that writes
abbrev writer_lines : List (List ℕ)
writer_lines = codes "func f v" ∷ codes "  write x v" ∷ codes "end" ∷ []

abbrev at_x : Draft
at_x = nothing One

abbrev at_y : Draft
at_y = extended 2 at_x (Declared (codes "x") None)

abbrev at_main : Draft
at_main = extended 3 at_y (Declared (codes "y") None)

abbrev at_spawn : Draft
at_spawn = extended 4 at_main (Begins (codes "main") (codes "z"))

abbrev behind_spawn : Draft
behind_spawn = extended 5 at_spawn (Does (Spawn 5 1 (Number 7)) None)

-- the lines up to the spawn
first_lines : (rest : List (List ℕ)) (contents : Contents) → LinesMean names 6 behind_spawn rest contents →
    LinesMean names 2 at_x (codes "mem x" ∷ codes "mem y" ∷ codes "func main z" ∷ codes "  spawn f 7" ∷ rest) contents
first_lines rest contents more = (
  Declared (codes "x") None,
  declared_line names 2 at_x (codes "mem x") (lit≤ tt) refl (codes "x") refl name_x ((refl, refl), no_function (codes "x") refl) refl (lit≤ tt),
  (
    Declared (codes "y") None,
    declared_line names 3 at_y (codes "mem y") (lit≤ tt) refl (codes "y") refl name_y ((refl, refl), no_function (codes "y") refl) refl (lit≤ tt),
    (
      Begins (codes "main") (codes "z"),
      begin_line names 4 at_main (codes "func main z") (lit≤ tt) refl (codes "main") (codes "z") refl name_main ((refl, refl), (λ number e. omega arith)) name_z z_other
          refl (lit≤ tt) (lit< tt),
      (
        Does (Spawn 5 1 (Number 7)) None,
        spawn_line names 5 at_spawn (codes "  spawn f 7") (lit≤ tt) refl (codes "f") (codes "7") 1 (Number 7) refl name_f refl (seven (codes "z" ∷ []))
            (some_there _) (lit≤ tt),
        more,
      ),
    ),
  ),
)

module _ (ok_there : 0 < 17) (parameter_there : 1 < 17) (named_there : 2 < 17) where
  abbrev main_code : (end_line : ℕ) → List Statement → Code
  main_code end_line body =
      record { name = codes "main"; parameter = codes "z"; line = 4; end_line = end_line; registers = codes "z" ∷ codes "r" ∷ []; body = body }

  abbrev writer_code : (at : ℕ) → Code
  writer_code at = record {
    name = codes "f";
    parameter = codes "v";
    line = at;
    end_line = at + 1 + 1;
    registers = codes "v" ∷ [];
    body = Write (at + 1) (Cell 0) (Held (parameter ok_there parameter_there named_there)) ∷ [];
  }

  abbrev behind_main : Code → (counted : ℕ) → Draft
  behind_main main counted = record { known = two_memories; functions = main ∷ []; current = None; lines = counted }

  -- the lines of the function that writes
  last_lines : (at counted end : ℕ) (body : List Statement) → at ≤ most_lines → at + 1 ≤ most_lines → at + 1 + 1 ≤ most_lines → counted ≤ max_statements →
      counted + 1 ≤ max_statements → counted + 1 + 1 ≤ max_statements →
      LinesMean names at (behind_main (main_code end body) counted) writer_lines (contents_of (main_code end body ∷ writer_code at ∷ []))
  last_lines at counted end body one_line two_line three_line one_more two_more three_more =
      let before = behind_main (main_code end body) counted in
      let inside = extended at before (Begins (codes "f") (codes "v")) in
      let statement = Write (at + 1) (Cell 0) (Held (parameter ok_there parameter_there named_there)) in
      let behind = extended (at + 1) inside (Does statement None) in (
        Begins (codes "f") (codes "v"),
        begin_line names at before (codes "func f v") one_line refl (codes "f") (codes "v") refl name_f ((refl, refl), f_new) name_v v_other refl one_more (lit< tt),
        (
          Does statement None,
          write_line names (at + 1) inside (codes "  write x v") two_line refl (codes "x") (codes "v") 0 (Held (parameter ok_there parameter_there named_there)) refl
              single_x (name_v, refl) (some_there _) two_more,
          (
            Ends,
            end_line names (at + 1 + 1) behind (codes "end") three_line refl refl (some_there _) three_more,
            (refl, some_there {A = ℕ} 0, refl),
          ),
        ),
      )

  -- ---- the texts

  pub pair_means : MeansFunctions pair_text (pair ok_there parameter_there named_there)
  pair_means =
      let register = named ok_there parameter_there named_there in
      let item = Does (Read 6 register (Cell 0)) (Some (codes "r")) in
      let at_end = extended 6 behind_spawn item in (
        (AllPass-from_list_all is_text_byte (codes "cilk 1") refl, refl),
        first_lines (codes "  read r x" ∷ codes "end" ∷ writer_lines) (contents_of (pair ok_there parameter_there named_there)) (
          item,
          read_line names 6 behind_spawn (codes "  read r x") (lit≤ tt) refl (codes "r") (codes "x") register 0 refl name_r r_other refl refl single_x (some_there _) (lit≤ tt),
          (
            Ends,
            end_line names 7 at_end (codes "end") (lit≤ tt) refl refl (some_there _) (lit≤ tt),
            last_lines 8 4 7 (Spawn 5 1 (Number 7) ∷ Read 6 register (Cell 0) ∷ []) (lit≤ tt) (lit≤ tt) (lit≤ tt) (lit≤ tt) (lit≤ tt) (lit≤ tt),
          ),
        ),
      )

  pub series_means : MeansFunctions series_text (series ok_there parameter_there named_there)
  series_means =
      let register = named ok_there parameter_there named_there in
      let sync = Does (Sync 6) None in
      let read = Does (Read 7 register (Cell 0)) (Some (codes "r")) in
      let write = Does (Write 8 (Cell 1) (Held register)) None in
      let at_read = extended 6 behind_spawn sync in
      let at_write = extended 7 at_read read in
      let at_end = extended 8 at_write write in (
        (AllPass-from_list_all is_text_byte (codes "cilk 1") refl, refl),
        first_lines (codes "  sync" ∷ codes "  read r x" ∷ codes "  write y r" ∷ codes "end" ∷ writer_lines) (contents_of (series ok_there parameter_there named_there)) (
          sync,
          sync_line names 6 behind_spawn (codes "  sync") (lit≤ tt) refl refl (some_there _) (lit≤ tt),
          (
            read,
            read_line names 7 at_read (codes "  read r x") (lit≤ tt) refl (codes "r") (codes "x") register 0 refl name_r r_other refl refl single_x (some_there _) (lit≤ tt),
            (
              write,
              write_line names 8 at_write (codes "  write y r") (lit≤ tt) refl (codes "y") (codes "r") 1 (Held register) refl single_y (name_r, refl) (some_there _) (lit≤ tt),
              (
                Ends,
                end_line names 9 at_end (codes "end") (lit≤ tt) refl refl (some_there _) (lit≤ tt),
                last_lines 10 6 9 (Spawn 5 1 (Number 7) ∷ Sync 6 ∷ Read 7 register (Cell 0) ∷ Write 8 (Cell 1) (Held register) ∷ [])
                    (lit≤ tt) (lit≤ tt) (lit≤ tt) (lit≤ tt) (lit≤ tt) (lit≤ tt),
              ),
            ),
          ),
        ),
      )

  pub choosing_means : MeansFunctions choosing_text (choosing ok_there parameter_there named_there)
  choosing_means =
      let register = named ok_there parameter_there named_there in
      let ok_register = ok ok_there parameter_there named_there in
      let read = Does (Read 6 register (Cell 0)) (Some (codes "r")) in
      let first = Does (Write 8 (Cell 1) (Number 1)) None in
      let second = Does (Write 10 (Cell 1) (Number 2)) None in
      let at_if = extended 6 behind_spawn read in
      let at_first = extended 7 at_if (Decides ok_register) in
      let at_else = extended 8 at_first first in
      let at_second = extended 9 at_else Otherwise in
      let at_end = extended 10 at_second second in
      let behind_if = extended 11 at_end Ends in (
        (AllPass-from_list_all is_text_byte (codes "cilk 1") refl, refl),
        first_lines (codes "  read r x" ∷ codes "  if ok" ∷ codes "    write y 1" ∷ codes "  else" ∷ codes "    write y 2" ∷ codes "  end" ∷ codes "end" ∷ writer_lines) (contents_of (choosing ok_there parameter_there named_there)) (
          read,
          read_line names 6 behind_spawn (codes "  read r x") (lit≤ tt) refl (codes "r") (codes "x") register 0 refl name_r r_other refl refl single_x (some_there _) (lit≤ tt),
          (
            Decides ok_register,
            if_line names 7 at_if (codes "  if ok") (lit≤ tt) refl (codes "ok") ok_register refl name_ok refl (some_there _) (lit≤ tt) (lit< tt),
            (
              first,
              write_line names 8 at_first (codes "    write y 1") (lit≤ tt) refl (codes "y") (codes "1") 1 (Number 1) refl single_y (one (codes "z" ∷ codes "r" ∷ []))
                  (some_there _) (lit≤ tt),
              (
                Otherwise,
                else_line names 9 at_else (codes "  else") (lit≤ tt) refl refl refl (lit≤ tt),
                (
                  second,
                  write_line names 10 at_second (codes "    write y 2") (lit≤ tt) refl (codes "y") (codes "2") 1 (Number 2) refl single_y
                      (two (codes "z" ∷ codes "r" ∷ [])) (some_there _) (lit≤ tt),
                  (
                    Ends,
                    end_line names 11 at_end (codes "  end") (lit≤ tt) refl refl (some_there _) (lit≤ tt),
                    (
                      Ends,
                      end_line names 12 behind_if (codes "end") (lit≤ tt) refl refl (some_there _) (lit≤ tt),
                      last_lines 13 9 12
                          (Spawn 5 1 (Number 7) ∷ Read 6 register (Cell 0) ∷ If 7 ok_register 5 ∷ Write 8 (Cell 1) (Number 1) ∷ Else 9 7 ∷ Write 10 (Cell 1) (Number 2) ∷ End 11 ∷ [])
                          (lit≤ tt) (lit≤ tt) (lit≤ tt) (lit≤ tt) (lit≤ tt) (lit≤ tt),
                    ),
                  ),
                ),
              ),
            ),
          ),
        ),
      )
