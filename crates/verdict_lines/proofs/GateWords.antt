-- Each refusal of a gate is of an access that conflicts with its witness.
use Rattle.std.proofs.Common.{◌≡◌, ℕ, List, [], ◌∷◌, refl, sym, subst}
use Rattle.std.specs.Prelude.{MatchOption, IsSome}
use Rattle.std.specs.List.{All}
use Rattle.std.proofs.lemmas.List.Elements.{All-nil, All-cons}
use Rattle.model_accesses.specs.declared.kind.Kind.{Kind}
use Rattle.model_accesses.specs.declared.kind.Kind.TheVariants as kind
use Rattle.model_accesses.specs.declared.kind.Rule.TheVariants.{Race, View}
use Rattle.model_accesses.specs.Table.{rule_between, rule_spelling}
use Rattle.model_accesses.specs.declared.request.Act.{Act}
use Rattle.model_accesses.specs.declared.request.Act.TheVariants.{Spawn, Sync, Call, Return, Read, Write, Bump, Update, Put, Get}
use Rattle.model_accesses.specs.declared.request.Request.{Request}
use Rattle.model_histories.specs.declared.answer.Answer.{Answer}
use Rattle.model_histories.specs.declared.answer.Answer.TheVariants.{Refused}
use Rattle.model_histories.specs.declared.reply.Reply.{Reply}
use Rattle.model_histories.specs.declared.reply.Reply.TheVariants.{Done, Illegal}
use Rattle.model_histories.specs.Entries.{Entries, control_part}
use Rattle.model_histories.specs.Shapes.{Shape}
use Rattle.model_histories.specs.Legal.{Belongs}
use Rattle.model_races.specs.Accesses.{cell_access}
use Rattle.model_races.specs.Verdicts.{IsRightVerdict}
use Rattle.model_races.specs.Reducers.{steps_of, granted_reads}
use Rattle.model_races.specs.ReducerVerdicts.{IsRightFor, reads_before}
use Rattle.model_races.specs.Judged.{IsJudged}
use Rattle.model_histories.specs.States.{GateState}
use Rattle.model_histories.specs.Replies.{JudgesAll}
use Rattle.verdict_lines.specs.VerdictText.{HasWord, HasWords}

-- two kinds that race have a word for it, and so have two kinds of reads of reducers
race_word : (earlier new : Kind) → rule_between earlier new ≡ Race → IsSome (rule_spelling earlier new (rule_between earlier new))
race_word earlier new races = subst (λ rule. IsSome (rule_spelling earlier new rule)) (sym races) refl

view_word : (earlier new : Kind) → rule_between earlier new ≡ View → IsSome (rule_spelling earlier new (rule_between earlier new))
view_word earlier new views = subst (λ rule. IsSome (rule_spelling earlier new rule)) (sym views) refl

-- a legal answer that is right has a word
pub answer_has_word : (shape : Shape) (entries : Entries) (strand : ℕ) (act : Act) (answer : Answer) → Belongs act answer →
    MatchOption (cell_access act) (Unit {0}) (λ access. IsRightVerdict entries strand access answer) →
    IsRightFor (reads_before shape.monoids entries) strand act answer → HasWord act answer
answer_has_word shape entries strand (Read location) (Refused rule witness) belongs right reads = race_word witness.kind kind.Read right.witness.0.2
answer_has_word shape entries strand (Write location value) (Refused rule witness) belongs right reads = race_word witness.kind kind.Write right.witness.0.2
answer_has_word shape entries strand (Bump location value) (Refused rule witness) belongs right reads = race_word witness.kind kind.Bump right.witness.0.2
answer_has_word shape entries strand (Put reducer value) (Refused rule witness) belongs right reads = view_word witness.kind kind.Put reads.witness.by_kinds
answer_has_word shape entries strand (Get reducer) (Refused rule witness) belongs right reads = view_word witness.kind kind.Get reads.0.witness.by_kinds
answer_has_word shape entries strand (Update reducer value) (Refused rule witness) belongs right reads = absurd belongs
answer_has_word shape entries strand Spawn (Refused rule witness) belongs right reads = absurd belongs
answer_has_word shape entries strand Sync (Refused rule witness) belongs right reads = absurd belongs
answer_has_word shape entries strand Call (Refused rule witness) belongs right reads = absurd belongs
answer_has_word shape entries strand Return (Refused rule witness) belongs right reads = absurd belongs
answer_has_word shape entries strand act answer belongs right reads = tt

-- Where the history in the end is judged rightly, so is the one before, and each reply has its word.
pub replies_have_words : (requests : List Request) (replies : List Reply) (old new : GateState) → JudgesAll old requests replies new →
    IsJudged new.shape new.history → IsJudged old.shape old.history × All HasWords replies
replies_have_words [] [] old new same judged = (subst (λ (state : GateState). IsJudged state.shape state.history) same judged, All-nil HasWords)
replies_have_words [] (reply ∷ replies) old new wrong judged = absurd wrong
replies_have_words (request ∷ requests) [] old new wrong judged = absurd wrong
replies_have_words (request ∷ requests) (Illegal fault ∷ replies) old new all judged =
    let later = replies_have_words requests replies all.0 new all.2 judged in
    (subst (λ (state : GateState). IsJudged state.shape state.history) all.1.0 later.0, All-cons HasWords (Illegal fault) replies tt later.1)
replies_have_words (request ∷ requests) (Done receipt ∷ replies) old new all judged =
    let later = replies_have_words requests replies all.0 new all.2 judged in
    let longer = subst (λ (state : GateState). IsJudged state.shape state.history) all.1.after later.0 in
    let word = answer_has_word old.shape old.history request.strand request.act receipt.answer longer.legal.1.belongs longer.memory.1 longer.reducers.1 in (
      record { legal = longer.legal.0; memory = longer.memory.0; reducers = longer.reducers.0 },
      All-cons HasWords (Done receipt) replies (subst (λ (asked : Request). HasWord asked.act receipt.answer) (sym all.1.asked) word) later.1,
    )
