use Rattle.std.proofs.Common.{[], ◌∷◌, ◌++◌, refl, ap, ◌∙◌}
use Rattle.race_pairs.proofs.groups.begin_group.Goals as goal

pub returns : goal.returns
returns c = (
  record { spawn = c.args.spawn; places = c.push.new.self },
  refl,
  c.in_ok-push.ensures.items ∙ ap (λ xs. xs ++ c.args.place ∷ []) c.new-places.ensures.items,
  c.in_ok-push-2.ensures.items,
)
