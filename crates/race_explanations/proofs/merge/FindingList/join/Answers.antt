use Rattle.std.proofs.Common.{rules, set, get_or, sym, ap, ◌∙◌}
use Rattle.std.proofs.lemmas.Result.{on_ok_weaker}
use Rattle.race_explanations.specs.Findings.{joined, with_finding}
use Rattle.race_explanations.specs.ToldPlaces.{told_of}
use Rattle.race_explanations.proofs.Placing.{place_within, joins_at, pushed_none}
use Rattle.race_explanations.proofs.merge.FindingList.join.Goals as goal

pub join_at-requires : goal.join_at-requires
join_at-requires c =
    place_within c.self.inside.list.items c.args.other c.in-Some.place
    (sym (c.self.invariant (told_of c.args.other)) ∙ sym c.find_alike-other.ensures.place ∙ c.in-Some.is)

pub returns-in-Some : goal.returns-in-Some
returns-in-Some c =
    let all = c.self.inside.list.items in
    on_ok_weaker c.join_at.result (λ is. is c.args.other ∙
    ap (λ other. set all c.in-Some.place (joined (get_or all c.in-Some.place c.args.other) other)) c.find_alike-other.ensures.finding ∙
    sym (joins_at all c.args.other c.args.other c.in-Some.place
    (sym (c.self.invariant (told_of c.args.other)) ∙ sym c.find_alike-other.ensures.place ∙ c.in-Some.is)) ∙
    ap (λ some. with_finding some c.args.other) c.self.view_is) c.join_at.ensures.joined

pub returns-in-None : goal.returns-in-None
returns-in-None c =
    on_ok_weaker c.push.result (λ is. pushed_none c.self.inside.list.items c.args.self.now _ _ _ c.args.other c.self.view_is (search rules)
    c.find_alike-other.ensures.finding (sym (c.self.invariant (told_of c.args.other)) ∙ sym c.find_alike-other.ensures.place ∙ c.in-None.is) is) c.push.ensures
