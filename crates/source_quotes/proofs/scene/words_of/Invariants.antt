use Rattle.std.proofs.Common.{length}
use Rattle.source_quotes.proofs.scene.words_of.Given as goal

abbrev pub decreases-loop-word : goal.decreases-loop-word
decreases-loop-word l = length l.words
