use Rattle.std.proofs.Common.{rules, arith, length, ap, length-drop, ◌+◌, ◌∷◌, map, take, drop, ◌∙◌}
use Rattle.meaning.specs.Text.{Word, tokens, Between, small}
use Rattle.text.specs.Cut.{in_word}
use Rattle.text.proofs.Cuts as cuts
use Rattle.text.proofs.tokens.Source.word_at.Goals as goal

pub found-requires : goal.found-requires
found-requires c = omega (arith, c.args.self.short, c.requires.0, c.run_len-len.ensures.within, ap length c.bytes_from.ensures, length-drop c.args.at c.args.self.bytes.now)

pub returns : goal.returns
returns c = let bs = c.args.self.bytes.now in
    cuts.placed bs _ _ _ _ c.found.ensures ((λ i. Word (map small (take (c.span.ensures.1 i) (drop (c.span.ensures.0 i) bs))) ∷ tokens Between (drop (c.args.at + c.run_len-len.result) bs))
    ∙ cuts.word_cut bs c.args.at c.requires.0 c.run_len-len.result c.requires.1 (cuts.run_is in_word _ _ _ _ (λ b r h. search rules) c.bytes_from.ensures c.run_len-len.ensures))
