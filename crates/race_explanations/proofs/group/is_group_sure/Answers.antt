use Rattle.std.proofs.Common.{List, sym, ◌∙◌, subst, IsTrue}
use Rattle.std.proofs.lemmas.Result.{IfOk-weaker}
use Rattle.model_histories.specs.declared.answer.Entry.{Entry}
use Rattle.race_pairs.specs.declared.race.Pair.{Pair}
use Rattle.race_pairs.specs.Digests.{IsDigest}
use Rattle.race_explanations.specs.Scenes.{setting_of}
use Rattle.race_explanations.specs.Cases.{AreCases}
use Rattle.race_explanations.specs.SharedSyncs.{OneSyncOrders}
use Rattle.race_explanations.proofs.OrderedGroups.{sync_orders}
use Rattle.race_explanations.proofs.group.is_group_sure.Goals as goal

pub returns-in-Some-clause-orders : goal.returns-in-Some-clause-orders
returns-in-Some-clause-orders c =
    let setting = setting_of c.args.scene.now in
    let cases = c.args.cases.now in
    IfOk-weaker c.is_sure_at.result _
    (λ is_sure. (entries : List Entry) → (pairs : List Pair) → IsDigest entries c.args.scene.now.digest.now → AreCases entries pairs cases → IsTrue is_sure →
    OneSyncOrders setting entries cases c.args.group.now.places.items)
    (λ is_sure is entries pairs digest are sure.
    subst (OneSyncOrders setting entries cases) c.as_slice.ensures.value
    (sync_orders setting cases entries digest.legal digest.lines are c.in-Some.line c.as_slice.result.now (sym is ∙ sure)))
    c.is_sure_at.ensures
