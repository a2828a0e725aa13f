use Rattle.meaning.proofs.Cases.{cases-stand}
use Rattle.meaning.proofs.cases_stand.Goals as goal

pub returns : goal.returns
returns c = cases-stand
