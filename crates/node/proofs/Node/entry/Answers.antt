use Rattle.node.proofs.Node.entry.Goals as goal

pub returns : goal.returns
returns c = λ n f h. λ i. record { key = c.key.ensures n f h i; value = c.value.ensures n f h i }
