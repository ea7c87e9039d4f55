use Rattle.race_records.proofs.advice.advice_of.Goals as goal

pub returns : goal.returns
returns c = λ t. record {
  sure_help = c.in_ok-sure_help.ensures t;
  open_help = c.in_ok-open_help.ensures t;
  outstanding = c.in_ok-outstanding.ensures t;
  parting = c.in_ok-parting.ensures t;
}
