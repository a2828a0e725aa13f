use Rattle.text.proofs.lists.+list.Given as goal

abbrev pub decreases-list : goal.decreases-list
decreases-list g l = l.left
