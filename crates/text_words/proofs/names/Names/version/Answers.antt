use Rattle.text_words.proofs.names.Names.version.Goals as goal

pub returns : goal.returns
returns g c = cc
