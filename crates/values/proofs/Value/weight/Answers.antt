use Rattle.std.proofs.Common.{sym, subst, w64, SFits, rules}
use Rattle.values.specs.Meant.{meaning_of}
use Rattle.values.specs.Key.{Storable}
use Rattle.values.proofs.Numbers.{fits-some}
use Rattle.values.proofs.Value.weight.Goals as goal

pub returns-in-Number-clause-storable : goal.returns-in-Number-clause-storable
returns-in-Number-clause-storable c = let f : SFits w64 c.in-Number.field-0 = search rules in subst (λ v. Storable (meaning_of v)) (sym c.in-Number.is) (fits-some c.in-Number.field-0 f)
