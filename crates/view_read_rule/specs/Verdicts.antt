-- What the rule says of a read.
use Rattle.view_read_rule.specs.declared.reads.ViewVerdict.{ViewVerdict}
use Rattle.view_read_rule.specs.declared.reads.ViewVerdict.TheVariants.{Refused}

abbrev pub IsRefused : ViewVerdict → Type 0
IsRefused (Refused witness) = Unit {0}
IsRefused _ = ⊥
