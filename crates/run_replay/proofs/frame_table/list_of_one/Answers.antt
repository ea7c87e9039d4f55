use Rattle.run_replay.proofs.frame_table.list_of_one.Goals as goal

pub returns : goal.returns
returns g c = rw c.new-list.ensures.items at c.in_ok-push.ensures.items
