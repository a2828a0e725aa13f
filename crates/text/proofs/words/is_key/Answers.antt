use Rattle.std.proofs.Common.{length, sym, ◌∙◌}
use Rattle.std.proofs.lemmas.Bool.{ne_eqb}
use Rattle.text.proofs.Names.{key-zip, key-long}
use Rattle.text.proofs.words.is_key.Goals as goal

pub returns-then-word-key : goal.returns-then-word-key
returns-then-word-key c = c.same_letters.ensures ∙ key-zip c.args.word.now c.args.key.now c.if-word-key.true

pub returns-else-word-key : goal.returns-else-word-key
returns-else-word-key c = ne_eqb (length c.args.word.now) (length c.args.key.now) c.if-word-key.false ∙ sym (key-long c.args.word.now c.args.key.now c.if-word-key.false)
