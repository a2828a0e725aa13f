use Rattle.values.proofs.Keys.{keys-ordered, keys-followed, keys-apart, keys-short}
use Rattle.values.proofs.key.keys_stand.Goals as goal

pub returns : goal.returns
returns c = record { ordered = keys-ordered; followed = keys-followed; apart = keys-apart; short = keys-short }
