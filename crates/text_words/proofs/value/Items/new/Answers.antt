use Rattle.std.proofs.Common.{refl}
use Rattle.text_words.proofs.value.Items.new.Goals as goal

pub returns : goal.returns
returns g c = refl
