use Rattle.std.proofs.Common.{◌∙◌, subst, sym}
use Rattle.text_words.specs.Names.{IsSecond}
use Rattle.trace_text.proofs.trace.Draft.take_bump.Goals as goal

pub take_access-requires : goal.take_access-requires
take_access-requires g c = subst IsSecond (sym c.in-Two.is ∙ c.version.ensures) tt
