use Rattle.source_quotes.proofs.look.push_gutter.Goals as goal

pub returns : goal.returns
returns c = c.push_left_sign.ensures
