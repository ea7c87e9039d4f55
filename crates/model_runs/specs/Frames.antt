-- The spawned functions of a history, each with the functions that it calls: its frames.
use Rattle.std.specs.Prelude.{◌≡◌, ◌⊎◌, ◌==◌, ℕ, suc, List, [], ◌∷◌, ◌++◌, length, Option, Some, None, if◌then◌else◌}
use Rattle.model_accesses.specs.declared.request.Act.{Act}
use Rattle.model_strands.specs.Blocks.{Stack, root, spawned, called, block, stack}
use Rattle.model_histories.specs.declared.answer.Answer.{Answer}
use Rattle.model_histories.specs.declared.answer.Answer.TheVariants.{Split}
use Rattle.model_histories.specs.declared.answer.Entry.{Entry}
use Rattle.model_histories.specs.Entries.{Entries, control_part}
use Rattle.model_programs.specs.declared.target.Target.{Target}
use Rattle.model_programs.specs.Exchanges.{Exchange}

-- the frame in which a strand stands there: 0 for that of the root function, and else the number of the split that spawned it, among the
-- events of control
abbrev pub frame_of : Stack → ℕ
frame_of root = 0
frame_of (spawned number join) = number
frame_of (called number below) = frame_of below
frame_of (block join below) = frame_of below

-- the frame of a strand that has begun
abbrev pub frame_in : Entries → ℕ → ℕ
frame_in entries strand = frame_of (stack (control_part entries) strand)

abbrev pub IsSplit : Answer → Type 0
IsSplit (Split strands) = Unit {0}
IsSplit answer = ⊥

-- the frame that a split begins where it comes next
abbrev pub next_frame : Entries → ℕ
next_frame entries = suc (length (control_part entries))

-- a split began this frame
abbrev pub HasSplit : Entries → ℕ → Type 0
HasSplit [] frame = ⊥
HasSplit (entry ∷ entries) frame = (frame ≡ next_frame entries) × IsSplit entry.answer ⊎ HasSplit entries frame

-- there is such a frame
abbrev pub HasFrame : Entries → ℕ → Type 0
HasFrame entries frame = (frame ≡ 0) ⊎ HasSplit entries frame

-- the function of each frame, with its argument
abbrev pub Targets : Type 0
Targets = ℕ → Target

-- an act of spawning has a target
abbrev pub target_of : Act → Target → Option Target
target_of Act.Spawn target = Some target
target_of act target = None

-- an entry as an exchange of its frame: a split spawns the function of the frame that it begins
abbrev pub exchange_of : Targets → (begins : ℕ) → Entry → Exchange
exchange_of targets begins entry =
    record {
      act = entry.request.act;
      line = entry.request.line;
      target = target_of entry.request.act (targets begins);
      answer = entry.answer;
    }

-- what a frame asked and was answered, in order
abbrev pub said_by : Targets → Entries → ℕ → List Exchange
said_by targets [] frame = []
said_by targets (entry ∷ entries) frame =
    said_by targets entries frame ++
    (if frame_in entries entry.request.strand == frame then exchange_of targets (next_frame entries) entry ∷ [] else [])
