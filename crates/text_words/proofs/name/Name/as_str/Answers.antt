use Rattle.text_words.proofs.name.Name.as_str.Goals as goal

pub returns : goal.returns
returns c = cc
