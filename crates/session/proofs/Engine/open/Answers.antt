use Rattle.session.proofs.Engine.open.Goals as goal

pub returns-clause-opened : goal.returns-clause-opened
returns-clause-opened c = c.opening.ensures c.args.size c.in_ok-pages.ensures.opened (c.in_ok-session.ensures c.args.size)
