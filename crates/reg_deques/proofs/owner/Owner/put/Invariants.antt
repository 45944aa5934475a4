use Rattle.reg_deques.proofs.owner.Owner.put.Given as goal

abbrev pub ghosts-put_named : goal.ghosts-put_named
ghosts-put_named g a = record { number = g.T.Numbered.number a.task }
