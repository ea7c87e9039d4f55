use Rattle.text_words.proofs.name.Name.new.Goals as goal

pub returns : goal.returns
returns c = cc
