use Rattle.sp_labels.proofs.roster.Strands.has_room.Goals as goal

pub returns : goal.returns
returns g c = cc
