use Rattle.text.proofs.Takes as takes
use Rattle.text.proofs.tokens.Source.take_name.Goals as goal

pub returns-in_default : goal.returns-in_default
returns-in_default c = takes.name-none c.args.self.bytes.now c.args.at.tok c.args.at.rest c.in_default.not-Word

pub returns-then-is_keyword : goal.returns-then-is_keyword
returns-then-is_keyword c = takes.name-key c.args.self.bytes.now c.args.at _ _ c.in-Word.is c.bytes_of.ensures c.if-is_keyword.ensures

pub returns : goal.returns
returns c = takes.name-taken c.args.self.bytes.now c.args.at _ _ _ c.in-Word.is c.bytes_of.ensures c.if-is_keyword.ensures c.next.ensures
