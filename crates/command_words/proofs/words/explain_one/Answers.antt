use Rattle.std.proofs.Common.{◌∙◌, [], ◌∷◌, Some, ap, refl, rules, sym}
use Rattle.command_words.proofs.words.explain_one.Goals as goal

pub returns-clause-job : goal.returns-clause-job
returns-clause-job c = (
  refl,
  c.requires ∙ ap (λ name. Some (name ∷ [])) (sym c.in_ok-file.ensures.ok),
  search rules,
  c.in_ok-workers.ensures.workers,
  c.in_ok-is_serial.ensures.serial,
  c.in_ok-limit.ensures.limit,
  c.in_ok-color.ensures.color,
  c.in_ok-format.ensures.format,
  c.has_flag-is_all.ensures,
)
