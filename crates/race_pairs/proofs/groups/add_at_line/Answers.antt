use Rattle.std.proofs.Common.{sym, ◌∙◌, subst, arith}
use Rattle.std.proofs.lemmas.Result.{on_ok_weaker}
use Rattle.race_pairs.specs.Groups.{IsFoundAt}
use Rattle.race_pairs.proofs.Grouped.{line_joined, line_begun}
use Rattle.race_pairs.proofs.groups.add_at_line.Goals as goal

pub join_group-requires : goal.join_group-requires
join_group-requires c = (subst (IsFoundAt c.args.groups.now.items c.args.line) (sym c.find_line.ensures ∙ c.in-Some.is) (c.requires c.args.line)).0

pub returns-in-Some : goal.returns-in-Some
returns-in-Some c =
    on_ok_weaker c.join_group.result (λ more races found a of. line_joined c.args.known.now c.args.groups.now.items _ c.args.line c.in-Some.at c.args.place found
    (sym c.find_line.ensures ∙ c.in-Some.is) more races a of) c.join_group.ensures

pub returns-in_ok-insert-in-None : goal.returns-in_ok-insert-in-None
returns-in_ok-insert-in-None c =
    on_ok_weaker c.begin_group.result (λ more races found a of. line_begun c.args.known.now c.insert.new.self c.args.groups.now.items _ c.args.line c.args.place
    c.len-count.result found (sym c.find_line.ensures ∙ c.in-None.is) (omega (arith, c.len-count.ensures)) c.in_ok-insert-in-None.ensures.updates.0 more races a of) c.begin_group.ensures
