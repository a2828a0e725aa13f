use Rattle.tree.proofs.Look as Look
use Rattle.tree.proofs.looks_stand.Goals as goal

pub returns : goal.returns
returns c = record { at_step = Look.at-step; under_step = Look.under-step; parts = Look.belongs-parts; first = Look.first_found; last = Look.last_found; none = Look.none_found; same = Look.same-lead }
