-- Worked histories of one cell, the newest entry first, and what they show.
use Rattle.std.specs.Prelude.{◌≡◌, ℕ, true, [], ◌∷◌}
use Rattle.model_accesses.specs.declared.kind.Kind.TheVariants as kind
use Rattle.model_accesses.specs.declared.kind.Rule.TheVariants.{Race}
use Rattle.model_accesses.specs.declared.request.Act.{Act}
use Rattle.model_strands.specs.Address.{Address}
use Rattle.model_histories.specs.declared.answer.Answer.{Answer}
use Rattle.model_histories.specs.declared.answer.Answer.TheVariants.{Split, Joined, Waits, Ended, EndedJoined, Finished, Granted, Value, Refused}
use Rattle.model_histories.specs.declared.answer.Entry.{Entry}
use Rattle.model_histories.specs.Entries.{Entries}
use Rattle.model_histories.specs.Shapes.{Shape}
use Rattle.model_histories.specs.Extensions.{IsFinished, IsClean}
use Rattle.model_races.specs.Memory.{cell_value}
use Rattle.model_races.specs.Judged.{IsJudged}
use Rattle.law_interleavings.specs.Asked.{asked_at, AsksNoMore}

abbrev pub one_cell : Shape
one_cell = record { cells = 1; monoids = [] }

-- the strand's act, and its answer
abbrev pub asked : ℕ → Act → Answer → Entry
asked strand act answer = record { request = record { strand = strand; act = act; line = 0 }; answer = answer }

-- strand 0 spawns: child 1, continuation 2, join 3
abbrev pub spawned : Entries
spawned = asked 0 Act.Spawn (Split (record { child = 1; next = 2; join = 3; first = true })) ∷ []

abbrev pub child_wrote : (value : ℕ) → Entries
child_wrote value = asked 1 (Act.Write 0 value) Granted ∷ spawned

-- the child returns before the sync, and the join reads what it wrote
abbrev pub child_first : Entries
child_first =
    asked 3 Act.Return Finished ∷ asked 3 (Act.Read 0) (Value 7) ∷ asked 2 Act.Sync (Joined 3) ∷ asked 1 Act.Return Ended ∷ child_wrote 7

-- the sync comes before the child writes, and waits for it
abbrev pub sync_first : Entries
sync_first =
    asked 3 Act.Return Finished ∷ asked 3 (Act.Read 0) (Value 7) ∷ asked 1 Act.Return (EndedJoined 3) ∷ asked 1 (Act.Write 0 7) Granted ∷
    asked 2 Act.Sync Waits ∷ spawned

-- the continuation reads what the child writes, in both orders
abbrev pub write_first : Entries
write_first = asked 2 (Act.Read 0) (Refused Race (record { entry = 2; strand = 1; kind = kind.Write })) ∷ child_wrote 7

abbrev pub read_first : Entries
read_first =
    asked 1 (Act.Write 0 7) (Refused Race (record { entry = 2; strand = 2; kind = kind.Read })) ∷ asked 2 (Act.Read 0) (Value 0) ∷ spawned

-- at each address the two ask the same
abbrev pub AskTheSame : Entries → Entries → Type 0
AskTheSame entries other = (place : Address) → asked_at entries place ≡ asked_at other place

-- what they show
pub record WorkedHistories : Type 0 where
  -- a clean and finished history, and another order of its strands, in which the sync and the child's return are answered otherwise
  pub child_first_judged : IsJudged one_cell child_first
  pub child_first_clean : IsClean child_first
  pub child_first_finished : IsFinished child_first
  pub sync_first_judged : IsJudged one_cell sync_first
  pub sync_first_asks : AskTheSame sync_first child_first
  pub sync_first_clean : IsClean sync_first
  pub sync_first_holds : cell_value sync_first 0 ≡ 7
  -- judged, and it asks something else: the child writes another value
  pub other_value_judged : IsJudged one_cell (child_wrote 8)
  pub other_value_asks : AsksNoMore (child_wrote 8) child_first → ⊥
  pub other_value_holds : cell_value (child_wrote 8) 0 ≡ 8
  -- two orders of the same strands, neither clean: they leave different memory
  pub write_first_judged : IsJudged one_cell write_first
  pub read_first_judged : IsJudged one_cell read_first
  pub races_ask : AskTheSame read_first write_first
  pub write_first_refuses : IsClean write_first → ⊥
  pub read_first_refuses : IsClean read_first → ⊥
  pub write_first_holds : cell_value write_first 0 ≡ 7
  pub read_first_holds : cell_value read_first 0 ≡ 0
