use Rattle.std.proofs.Common.{ℕ, Option, ◌∙◌, sym, ap}
use Rattle.race_explanations.specs.FoundGroups.{is_sure_first}
use Rattle.race_explanations.proofs.OrderedFindings.{sync_orders_found}
use Rattle.race_explanations.proofs.found_groups.are_sure.Goals as goal

pub returns-clause-orders : goal.returns-clause-orders
returns-clause-orders c = λ settings traces are sure.
    sync_orders_found settings traces c.args.findings.now are c.args.places.now
    (sym (ap (λ (first : Option ℕ). is_sure_first c.args.findings.now first c.args.places.now) c.first_place.ensures) ∙
    (sym c.is_sure_first.ensures ∙ sure))
