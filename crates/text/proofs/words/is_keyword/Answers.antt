use Rattle.meaning.specs.Meaning.{some}
use Rattle.text.proofs.words.is_keyword.Goals as goal

pub returns : goal.returns
unfolding some
returns c = c.is_one_of.ensures
