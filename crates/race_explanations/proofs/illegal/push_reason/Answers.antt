use Rattle.text_buffers.proofs.Builders.{two_adds}
use Rattle.race_explanations.proofs.illegal.push_reason.Goals as goal

pub returns-in-Ended : goal.returns-in-Ended
returns-in-Ended c = rw c.in-Ended.is (two_adds _ _ _ _ _ c.push_words.ensures c.push_request.ensures)

pub returns-in-NotBegun : goal.returns-in-NotBegun
returns-in-NotBegun c = rw c.in-NotBegun.is (two_adds _ _ _ _ _ c.push_words-in-NotBegun.ensures c.push_request-in-NotBegun.ensures)

pub returns-in-NoStrand : goal.returns-in-NoStrand
returns-in-NoStrand c = rw c.in-NoStrand.is (two_adds _ _ _ _ _ c.push_number.ensures c.push_words-in-NoStrand.ensures)

pub returns-in-OpenBlock : goal.returns-in-OpenBlock
returns-in-OpenBlock c = rw c.in-OpenBlock.is c.push_words-in-OpenBlock.ensures

pub returns-in-NoName : goal.returns-in-NoName
returns-in-NoName c = rw c.in-NoName.is c.push_words-in-NoName.ensures
