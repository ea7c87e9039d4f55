-- What the log says of a rule, as lists of bytes.
use Rattle.sarif_logs.specs.declared.rule.Texts.{Texts}
use Rattle.sarif_logs.specs.Rules.{RuleTexts}

abbrev pub text_parts : Texts → RuleTexts
text_parts texts = record {
  id = texts.id.now;
  name = texts.name.now;
  summary = texts.summary.now;
  description = texts.description.now;
  help = texts.help.now;
}
