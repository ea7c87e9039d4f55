use Rattle.std.proofs.Common.{ℕ, ap, ◌∙◌, ◌++◌, ◌∷◌, []}
use Rattle.std.specs.Global.{Vec}
use Rattle.race_explanations.proofs.Numbering.{member_more}
use Rattle.race_explanations.proofs.found_groups.join_group.Goals as goal

pub returns : goal.returns
returns c =
    member_more c.args.groups.now.items c.args.number c.args.place c.push.new.self c.index_mut.result.now
    (c.in_ok-push.ensures.items ∙ ap (λ (group : Vec ℕ). group.items ++ c.args.place ∷ []) c.index_mut.ensures.value)
