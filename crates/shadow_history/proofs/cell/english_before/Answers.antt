use Rattle.law_addresses.specs.Address.{english}
use Rattle.shadow_history.proofs.Alike.{never_before}
use Rattle.shadow_history.proofs.cell.english_before.Goals as goal

pub returns-then-a-b : goal.returns-then-a-b
returns-then-a-b g c history follows = let not = never_before english history c.args.a c.args.b (cc) in (λ t. cc, λ h. cc)
