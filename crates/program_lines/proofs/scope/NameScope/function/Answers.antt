use Rattle.program_lines.proofs.scope.NameScope.function.Goals as goal

pub returns : goal.returns
returns g c = rw (← c.self.view_is) c.find.ensures
