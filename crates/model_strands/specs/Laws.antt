-- What holds of all legal histories.
use Rattle.model_strands.specs.History.{History}
use Rattle.model_strands.specs.Legal.{Legal}
use Rattle.model_strands.specs.Extensions.{Extends, IsFinished}

-- each legal history can go on until the root function returns
abbrev pub FinishLaw : Type 0
FinishLaw = (history : History) → Legal history → (longer : History) × Extends longer history × Legal longer × IsFinished longer
