use Rattle.std.proofs.Common.{rules, arith, length, length-drop, ◌+◌, ◌∷◌, take, drop, sym, ap, ◌∙◌}
use Rattle.meaning.specs.Text.{Number, tokens, Between, letter, digit}
use Rattle.text.specs.Cut.{decimal}
use Rattle.text.proofs.Cuts as cuts
use Rattle.text.proofs.tokens.Source.number_at.Goals as goal

pub found-requires : goal.found-requires
found-requires c = omega (arith, c.args.self.short, c.requires.0, c.run_len-len.ensures.within, ap length c.bytes_from.ensures, length-drop c.args.at c.args.self.bytes.now)

pub found-requires-2 : goal.found-requires-2
found-requires-2 c = omega (arith, c.args.self.short, c.requires.0, c.run_len-len.ensures.within, ap length c.bytes_from.ensures, length-drop c.args.at c.args.self.bytes.now)

pub returns-then-is_letter : goal.returns-then-is_letter
returns-then-is_letter c = cuts.placed c.args.self.bytes.now _ _ _ _ c.found.ensures (cuts.faulty-cut c.args.self.bytes.now c.args.at c.requires.0 c.run_len-len.result c.requires.1 (cuts.run_is digit _ _ _ _ (λ b r h. search rules) c.bytes_from.ensures c.run_len-len.ensures) (ap letter (sym c.byte_at.ensures) ∙ sym c.if-is_letter.ensures))

pub returns : goal.returns
returns c = let bs = c.args.self.bytes.now in
    cuts.placed bs _ _ _ _ c.found-2.ensures ((λ i. Number (decimal 0 (take (c.span.ensures.1 i) (drop (c.span.ensures.0 i) bs))) ∷ tokens Between (drop (c.args.at + c.run_len-len.result) bs))
    ∙ cuts.number_cut bs c.args.at c.requires.0 c.run_len-len.result c.requires.1 (cuts.run_is digit _ _ _ _ (λ b r h. search rules) c.bytes_from.ensures c.run_len-len.ensures) (ap letter (sym c.byte_at.ensures) ∙ sym c.if-is_letter.ensures))
