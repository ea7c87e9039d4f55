use Rattle.reducer_views.proofs.touched.+set_in.Given as goal

abbrev pub decreases-set_in : goal.decreases-set_in
decreases-set_in g l = l.number
