use Rattle.std.proofs.Common.{map, sym, ap, subst, ◌∙◌, None, Some, arith}
use Rattle.std.proofs.lemmas.List.{length-map}
use Rattle.std.proofs.lemmas.Result.{on_ok_weaker}
use Rattle.race_explanations.specs.ToldPlaces.{place_of}
use Rattle.race_explanations.specs.GroupNumbers.{parts_at, AreNumbersOf}
use Rattle.race_explanations.proofs.FoundGrouping.{items_of}
use Rattle.race_explanations.proofs.Numbering.{lead_found, lead_absent, number_found, group_within, joins_group, begins_group, is_alone, numbers_joined, numbers_begun, numbers_alone}
use Rattle.race_explanations.proofs.found_groups.add_place.Goals as goal

pub returns-in_default-clause-groups : goal.returns-in_default-clause-groups
returns-in_default-clause-groups c =
    on_ok_weaker c.begin_group.result (λ is. is ∙ is_alone c.args.findings.now c.args.place
    (lead_absent c.args.findings.now c.args.place c.lead_at.result c.lead_at.ensures c.in_default.is) (map items_of c.args.groups.now.items)) c.begin_group.ensures

pub returns-in_default-clause-numbers : goal.returns-in_default-clause-numbers
returns-in_default-clause-numbers c =
    on_ok_weaker c.begin_group.result (λ is. subst (λ some. AreNumbersOf c.args.findings.now some c.args.numbers.now) (sym is)
    (numbers_alone c.args.findings.now c.args.place
    (lead_absent c.args.findings.now c.args.place c.lead_at.result c.lead_at.ensures c.in_default.is) (map items_of c.args.groups.now.items) c.args.numbers.now
    c.requires)) c.begin_group.ensures

pub join_group-requires : goal.join_group-requires
join_group-requires c =
    group_within c.args.findings.now c.args.groups.now.items c.in-Some.lead.now.spawn.items c.in-Some-find_spawn.number
    (number_found c.args.findings.now (map items_of c.args.groups.now.items) c.args.numbers.now c.in-Some.lead.now.spawn.items c.as_slice-spawn.result.now
    c.find_spawn.result (Some c.in-Some-find_spawn.number) c.requires c.as_slice-spawn.ensures.value c.find_spawn.ensures c.in-Some-find_spawn.is)

pub returns-in-Some-find_spawn-clause-groups : goal.returns-in-Some-find_spawn-clause-groups
returns-in-Some-find_spawn-clause-groups c =
    let lead = c.in-Some.lead.now in
    let groups = map items_of c.args.groups.now.items in
    let found =
    number_found c.args.findings.now groups c.args.numbers.now lead.spawn.items c.as_slice-spawn.result.now c.find_spawn.result (Some c.in-Some-find_spawn.number)
    c.requires c.as_slice-spawn.ensures.value c.find_spawn.ensures c.in-Some-find_spawn.is in
    on_ok_weaker c.join_group.result (λ is. is ∙ joins_group c.args.findings.now c.args.place lead
    (lead_found c.args.findings.now c.args.place c.lead_at.result c.in-Some.lead c.lead_at.ensures c.in-Some.is) groups c.in-Some-find_spawn.number found)
    c.join_group.ensures

pub returns-in-Some-find_spawn-clause-numbers : goal.returns-in-Some-find_spawn-clause-numbers
returns-in-Some-find_spawn-clause-numbers c =
    let lead = c.in-Some.lead.now in
    let groups = map items_of c.args.groups.now.items in
    let found =
    number_found c.args.findings.now groups c.args.numbers.now lead.spawn.items c.as_slice-spawn.result.now c.find_spawn.result (Some c.in-Some-find_spawn.number)
    c.requires c.as_slice-spawn.ensures.value c.find_spawn.ensures c.in-Some-find_spawn.is in
    on_ok_weaker c.join_group.result (λ is spawn. c.requires spawn ∙
    sym (numbers_joined c.args.findings.now groups c.args.place c.in-Some-find_spawn.number lead.spawn.items found spawn) ∙
    ap (λ some. place_of (parts_at c.args.findings.now) some spawn) (sym is)) c.join_group.ensures

pub returns-clause-groups : goal.returns-clause-groups
returns-clause-groups c =
    let lead = c.in-Some.lead.now in
    let groups = map items_of c.args.groups.now.items in
    on_ok_weaker c.begin_group-2.result (λ is. is ∙ begins_group c.args.findings.now c.args.place lead
    (lead_found c.args.findings.now c.args.place c.lead_at.result c.in-Some.lead c.lead_at.ensures c.in-Some.is) groups
    (number_found c.args.findings.now groups c.args.numbers.now lead.spawn.items c.as_slice-spawn.result.now c.find_spawn.result None
    c.requires c.as_slice-spawn.ensures.value c.find_spawn.ensures c.in_default-find_spawn.is)) c.begin_group-2.ensures

pub returns-clause-numbers : goal.returns-clause-numbers
returns-clause-numbers c =
    let lead = c.in-Some.lead.now in
    let groups = map items_of c.args.groups.now.items in
    on_ok_weaker c.begin_group-2.result (λ is. subst (λ some. AreNumbersOf c.args.findings.now some c.insert.new.self) (sym is)
    (numbers_begun c.args.findings.now c.args.place lead
    (lead_found c.args.findings.now c.args.place c.lead_at.result c.in-Some.lead c.lead_at.ensures c.in-Some.is) groups c.as_slice-spawn.result.now c.len.result
    c.args.numbers.now c.insert.new.self c.as_slice-spawn.ensures.value c.requires (sym c.find_spawn.ensures ∙ c.in_default-find_spawn.is)
    (omega (arith, c.len.ensures, length-map c.args.groups.now.items items_of)) c.in_ok-insert.ensures.updates)) c.begin_group-2.ensures
