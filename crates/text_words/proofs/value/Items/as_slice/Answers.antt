use Rattle.text_words.proofs.value.Items.as_slice.Goals as goal

pub returns : goal.returns
returns g c = cc
