use Rattle.kept_cell.proofs.kept.Kept.renew.Goals as goal

pub returns-clause-busy : goal.returns-clause-busy
returns-clause-busy g c = rw (← c.self.view_is) c.renew.ensures.busy

pub returns-clause-fault : goal.returns-clause-fault
returns-clause-fault g c = rw (← c.self.view_is) c.renew.ensures.fault
