use Rattle.std.proofs.Common.{sym}
use Rattle.text.proofs.Takes as takes
use Rattle.text.proofs.tokens.Source.has_key.Goals as goal

pub returns-in-Word : goal.returns-in-Word
returns-in-Word c = sym (takes.key-another c.args.self.bytes.now c.args.at c.args.key.now _ _ _ c.in-Word.is c.bytes_of.ensures c.is_key.ensures)

pub returns-in_default : goal.returns-in_default
returns-in_default c = sym (takes.key-none c.args.key.now c.args.self.bytes.now c.args.at.tok c.args.at.rest c.in_default.not-Word)
