use Rattle.law_strands.proofs.Law.{address_law}
use Rattle.law_strands.proofs.Orders.{address_tests_law}
use Rattle.law_strands.proofs.laws.address_law.Goals as goal

pub returns : goal.returns
returns c = record { in_words = address_law; tests = address_tests_law }
