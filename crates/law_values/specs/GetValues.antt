-- What a granted get by a strand has before it.
use Rattle.std.specs.Prelude.{◌≡◌, ℕ}
use Rattle.model_reducers.specs.GetValues.{IsLastPut}
use Rattle.model_strands.specs.Strands.{Running}
use Rattle.law_strands.specs.Branches.{branch}
use Rattle.model_reducers.specs.Items.{Items, control_events}
use Rattle.law_values.specs.Items.{AreLegalItems}
use Rattle.model_reducers.specs.Entries.{Entry, strand_of}

-- what a granted get by the strand has before it: a legal history in which the strand runs, and a last put, which is of the strand's branch
pub record IsGranted (items : Items) (strand : ℕ) (put : Entry) : Type 0 where
  pub legal : AreLegalItems items
  pub runs : Running (control_events items) strand
  pub last : IsLastPut items put
  pub same_branch : branch (control_events items) (strand_of put) ≡ branch (control_events items) strand
