-- Why a request of a trace is illegal, and what is told of it.
use Rattle.std.specs.Prelude.{ℕ, ◌≡◌, ◌-◌, ◌==◌, Bool, Option, Some, None, List, [], ◌∷◌, ◌++◌, codes, decimal, if◌then◌else◌}
use Rattle.text_words.specs.declared.value.TraceLine.{TraceLine}
use Rattle.model_accesses.specs.declared.request.Act.TheVariants.{Return}
use Rattle.model_accesses.specs.declared.request.Request.{Request}
use Rattle.model_strands.specs.Strands.{absent, status, unused}
use Rattle.model_strands.specs.Blocks.{stack, IsSynced}
use Rattle.model_histories.specs.Entries.{control_part}
use Rattle.model_histories.specs.Shapes.{IsInRange}
use Rattle.model_histories.specs.States.{GateState}
use Rattle.race_pairs.specs.Standings.{IsEnd, IsKeptBack}
use Rattle.source_quotes.specs.declared.look.Look.{Look}
use Rattle.source_quotes.specs.declared.look.Paint.TheVariants.{Red}
use Rattle.source_quotes.specs.Lines.{line_in}
use Rattle.source_quotes.specs.Quotes.{look_of, painted, place, marked, noted}
use Rattle.race_explanations.specs.Names.{statement}
use Rattle.race_explanations.specs.declared.illegal.Illegality.{Illegality}
use Rattle.race_explanations.specs.declared.illegal.Illegality.TheVariants.{Ended, NotBegun, NoStrand, OpenBlock, NoName}

-- ---- the reason

-- The reason is there, in the history of a gate that does not answer the request.
abbrev pub HasReason : GateState → Request → Illegality → Type 0
HasReason state request (Ended number) = IsEnd state.history number request.strand
HasReason state request (NotBegun number) = IsKeptBack state.history number request.strand
HasReason state request (NoStrand count) =
    (status (control_part state.history) request.strand ≡ absent) × (unused (control_part state.history) ≡ count)
HasReason state request OpenBlock = (request.act ≡ Return) × (IsSynced (stack (control_part state.history) request.strand) → ⊥)
HasReason state request NoName = IsInRange state.shape request.act → ⊥

-- ---- the lines of requests

-- the line of the request with this number, from 1 on
abbrev pub request_line : List TraceLine → ℕ → Option TraceLine
request_line [] number = None
request_line (line ∷ lines) number = if number == 1 then Some line else request_line lines (number - 1)

abbrev pub at_of : Option TraceLine → ℕ
at_of (Some line) = line.at
at_of None = 0

abbrev pub strand_of : Option TraceLine → ℕ
strand_of (Some line) = line.request.strand
strand_of None = 0

-- a line of the trace in a sentence, with what stands on it
abbrev pub told_line : List (List ℕ) → ℕ → List ℕ
told_line source number = codes "line " ++ decimal number ++ codes ": `" ++ statement (line_in source number) ++ codes "`"

-- that of the request with this number
abbrev pub told_request : List (List ℕ) → List TraceLine → ℕ → List ℕ
told_request source lines number = told_line source (at_of (request_line lines number))

-- ---- words

abbrev pub title_words : Illegality → List ℕ
title_words (Ended number) = codes "this strand has ended"
title_words (NotBegun number) = codes "this strand has not begun"
title_words (NoStrand count) = codes "no strand has this number"
title_words OpenBlock = codes "this function has an open block"
title_words NoName = codes "there is no such cell or reducer"

abbrev pub help_words : Illegality → List ℕ
help_words (Ended number) =
    codes "a spawn and a sync end their strand: `judge` prints the number by which the function goes on. Behind a return there is none"
help_words (NotBegun number) = codes "it begins when its block is synced and each function that was spawned there has returned"
help_words (NoStrand count) = codes "a spawn gives the next numbers to its child, to what follows it, and, where it opens a block, to the join"
help_words OpenBlock = codes "ask for a `sync` of this strand, and let the join return"
help_words NoName = codes "declare it before the first request"

-- ---- texts

-- what is so of the strand of the request
abbrev pub reason_text : List (List ℕ) → List TraceLine → Illegality → List ℕ
reason_text source lines (Ended number) = codes " ended at " ++ told_request source lines number
reason_text source lines (NotBegun number) = codes " is the join of the block that opened at " ++ told_request source lines number
reason_text source lines (NoStrand count) = codes " is none of those that have begun: the numbers below " ++ decimal count ++ codes " are given"
reason_text source lines OpenBlock = codes " returns from a function that has spawned and not synced"
reason_text source lines NoName = codes " asks for what the trace does not declare"

abbrev pub error_title : Look → Illegality → List ℕ
error_title look why = painted look Red (codes "error") ++ (codes ": " ++ title_words why ++ codes "\n")

-- the number of the request and its strand, and what is so of it
abbrev pub request_note : Look → List (List ℕ) → List TraceLine → ℕ → Illegality → List ℕ
request_note look source lines number why =
    noted look ++ (codes "request " ++ decimal number) ++ (codes ": strand " ++ decimal (strand_of (request_line lines number))) ++
    reason_text source lines why ++ codes "\n"

abbrev pub help_note : Look → Illegality → List ℕ
help_note look why = noted look ++ codes "help: " ++ help_words why ++ codes "\n"

-- what is told of the request with this number: that it is illegal, its line of the trace, and why
abbrev pub illegal_in : Look → List ℕ → List (List ℕ) → List TraceLine → ℕ → Illegality → List ℕ
illegal_in look file source lines number why =
    (error_title look why ++ place look file (at_of (request_line lines number)) ++
    marked look source (at_of (request_line lines number)) 94 ++ codes "\n") ++
    (request_note look source lines number why ++ help_note look why)

abbrev pub illegal_text : (is_painted : Bool) → (file : List ℕ) → (source : List (List ℕ)) → List TraceLine → ℕ → Illegality → List ℕ
illegal_text is_painted file source lines number why = illegal_in (look_of is_painted source) file source lines number why
