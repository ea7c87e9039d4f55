use Rattle.std.proofs.Common.{rules, subst}
use Rattle.race_explanations.specs.Scenes.{setting_of}
use Rattle.race_explanations.specs.Leads.{IsLeadOf}
use Rattle.text_buffers.proofs.Builders.{whole_text}
use Rattle.race_explanations.proofs.FindingTexts.{is_finding}
use Rattle.race_explanations.proofs.finding.finding_of.Goals as goal

pub returns : goal.returns
returns c = λ entries race.
    let own = c.cut-own_help.ensures.cut c.in_ok-end.ensures in
    let still = c.cut-open_help.ensures.cut own.0 in
    let sure = c.cut-sure_help.ensures.cut still.0 in
    let body = c.cut-body.ensures.cut sure.0 in
    let name = c.cut-name.ensures.cut body.0 in
    let kind = c.cut-kind.ensures.cut name.0 in
    is_finding (setting_of c.args.scene.now) c.args.trace entries _ c.args.race.now.pair c.args.race.now.places.items c.in_ok-encounter.encounter c.requires.trace
    race.1.placed.placed (c.in_ok-encounter.ensures entries race)
    (whole_text _ _ _ _ c.new-pieces.ensures c.push_kind.ensures kind.1)
    (search rules)
    (whole_text _ _ _ _ c.cut-name.ensures.begins c.push_body.ensures body.1)
    (whole_text _ _ _ _ c.cut-body.ensures.begins c.push_help.ensures sure.1)
    (whole_text _ _ _ _ c.cut-sure_help.ensures.begins c.push_help-2.ensures still.1)
    (whole_text _ _ _ _ c.cut-open_help.ensures.begins c.push_own_help.ensures own.1)
    (subst (λ course. IsLeadOf (setting_of c.args.scene.now) c.args.trace c.args.race.now.pair.spawn course c.in_ok-lead.lead) c.course_of.ensures
    c.in_ok-lead.ensures) (search rules) (search rules)
