use Rattle.std.proofs.Common.{rules}
use Rattle.text_words.proofs.words.is_text_byte.Goals as goal

pub returns-then-byte-ge32 : goal.returns-then-byte-ge32
returns-then-byte-ge32 c = search rules
