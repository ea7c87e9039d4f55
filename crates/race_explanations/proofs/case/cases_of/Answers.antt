use Rattle.std.proofs.Common.{List, length, map, ap, sym, subst}
use Rattle.std.specs.List.{All}
use Rattle.std.proofs.lemmas.Result.{IfOk-weaker}
use Rattle.model_histories.specs.declared.answer.Entry.{Entry}
use Rattle.race_pairs.specs.declared.race.Pair.{Pair}
use Rattle.race_pairs.specs.declared.race.Race.{Race}
use Rattle.race_pairs.specs.Kept.{IsRace}
use Rattle.race_pairs.specs.Digests.{IsDigest}
use Rattle.race_pairs.proofs.Digesting.{races_now}
use Rattle.race_explanations.specs.Cases.{AreCases}
use Rattle.race_explanations.proofs.case.cases_of.Goals as goal

pub all_cases-requires : goal.all_cases-requires
all_cases-requires c =
    let entries = c.requires.0 in
    (entries, (c.requires.1, subst (All (IsRace entries (length entries))) (sym c.races.ensures) (races_now entries c.args.digest.now c.requires.1).are.each))

pub returns : goal.returns
returns c =
    let digest = c.args.digest.now in
    IfOk-weaker c.all_cases.result _
    (λ cases. (entries : List Entry) → IsDigest entries digest → AreCases entries (map (λ (race : Race). race.pair) digest.races.list.items) cases.items)
    (λ cases are entries d.
    subst (λ (pairs : List Pair). AreCases entries pairs cases.items) (ap (map (λ (race : Race). race.pair)) c.races.ensures)
    (are entries (d, subst (All (IsRace entries (length entries))) (sym c.races.ensures) (races_now entries digest d).are.each)))
    c.all_cases.ensures
