use Rattle.program_text.proofs.draft.Draft.extend.Goals as goal

pub returns-in-Begins : goal.returns-in-Begins
returns-in-Begins g c = rw c.in-Begins.is c.begin.ensures

pub returns-in-Does : goal.returns-in-Does
returns-in-Does g c = rw c.in-Does.is (c.act.ensures c.args.at)

pub returns-in-Decides : goal.returns-in-Decides
returns-in-Decides g c = rw c.in-Decides.is c.decide.ensures

pub returns-in-Otherwise : goal.returns-in-Otherwise
returns-in-Otherwise g c = rw c.in-Otherwise.is c.divide.ensures

pub returns-in-Ends : goal.returns-in-Ends
returns-in-Ends g c = rw c.in-Ends.is c.end.ensures

pub begin-requires : goal.begin-requires
begin-requires g c = rw c.in-Begins.is at c.requires

pub act-requires : goal.act-requires
act-requires g c = rw c.in-Does.is at c.requires

pub decide-requires : goal.decide-requires
decide-requires g c = rw c.in-Decides.is at c.requires

pub divide-requires : goal.divide-requires
divide-requires g c = rw c.in-Otherwise.is at c.requires

pub end-requires : goal.end-requires
end-requires g c = rw c.in-Ends.is at c.requires
