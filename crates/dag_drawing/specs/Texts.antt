-- The words of a drawing, and the parts of its text in Graphviz's language that need no names.
use Rattle.std.specs.Prelude.{ℕ, ◌+◌, ◌==◌, ◌||◌, List, [], ◌∷◌, ◌++◌, codes, decimal, flat_map, unwrap_or, cond}
use Rattle.std.specs.Option.{option_map}
use Rattle.model_accesses.specs.declared.kind.Kind.{Kind}
use Rattle.model_accesses.specs.Table.{spelling}
use Rattle.model_accesses.specs.declared.request.Act.{Act}
use Rattle.model_histories.specs.declared.answer.Answer.{Answer}
use Rattle.model_histories.specs.declared.answer.Answer.TheVariants.{Refused, Unset}
use Rattle.verdict_lines.specs.VerdictText.{kind_asked, refusal_word}
use Rattle.dag_drawing.specs.declared.drawing.Access.{Access}
use Rattle.dag_drawing.specs.declared.drawing.Edge.{Edge}
use Rattle.dag_drawing.specs.declared.drawing.EdgeKind.{EdgeKind}
use Rattle.dag_drawing.specs.declared.drawing.EdgeKind.TheVariants.{Child, Next, Join}

-- a byte between quotation marks: these and backslashes stand behind a backslash
abbrev pub escape : ℕ → List ℕ
escape byte = cond ((byte == 34) || (byte == 92)) (92 ∷ byte ∷ []) (byte ∷ [])

abbrev pub escaped : List ℕ → List ℕ
escaped bytes = flat_map escape bytes

-- what is said of an access that was not done
abbrev pub outcome_text : Answer → List ℕ
outcome_text (Refused rule witness) = codes " refused"
outcome_text Unset = codes " unset"
outcome_text answer = []

abbrev pub kind_text : Act → List ℕ
kind_text act = unwrap_or (option_map spelling (kind_asked act)) []

abbrev pub kind_word : EdgeKind → List ℕ
kind_word Child = codes "child"
kind_word Next = codes "next"
kind_word Join = codes "join"

abbrev pub edge_text : Edge → List ℕ
edge_text edge =
    codes "  " ++ decimal edge.from ++ codes " -> " ++ decimal edge.to ++ codes " [label=\"" ++ kind_word edge.kind ++ codes "\"];\n"

-- how many of the accesses at the head of a list are the strand's
abbrev pub count_own : ℕ → List Access → ℕ
count_own strand [] = 0
count_own strand (access ∷ accesses) = cond (access.request.strand == strand) (count_own strand accesses + 1) 0

abbrev pub rule_text : Act → Kind → List ℕ
rule_text act earlier = unwrap_or (refusal_word act earlier) []

abbrev pub red_text : List ℕ
red_text = codes "\", color=red, fontcolor=red, constraint=false];\n"
