use Rattle.std.proofs.Common.{rules, length, drop, sym, ap, ◌∙◌, arith, length-drop, get_or-drop, drop-drop}
use Rattle.meaning.specs.Text.{tokens, Between}
use Rattle.text.specs.Cut.{space}
use Rattle.text.proofs.Cuts as cuts
use Rattle.text.proofs.tokens.Source.next.Goals as goal

pub cut-requires : goal.cut-requires
cut-requires c = let bs = c.args.self.bytes.now in let n = c.run_len-len.result in
    let run = cuts.run_is space _ _ _ _ (λ b r h. search rules) c.bytes_from-rest.ensures c.run_len-len.ensures in
    let l = ap length c.bytes_from-rest.ensures in
    (omega (arith, l, length-drop c.args.from bs, c.if-len-rest.true), ap space (sym (get_or-drop c.args.from bs n 0)) ∙ run.stops (omega (arith, l, c.if-len-rest.true)))

pub returns-then-len-rest : goal.returns-then-len-rest
returns-then-len-rest c = let bs = c.args.self.bytes.now in let n = c.run_len-len.result in
    let run = cuts.run_is space _ _ _ _ (λ b r h. search rules) c.bytes_from-rest.ensures c.run_len-len.ensures in
    c.cut.ensures ∙ sym (cuts.space-run (drop c.args.from bs) n run ∙ ap (tokens Between) (drop-drop n c.args.from bs))

pub returns : goal.returns
returns c = let rest = drop c.args.from c.args.self.bytes.now in let n = c.run_len-len.result in
    let run = cuts.run_is space _ _ _ _ (λ b r h. search rules) c.bytes_from-rest.ensures c.run_len-len.ensures in
    cuts.placed c.args.self.bytes.now _ _ _ _ c.found.ensures (cuts.nil-cut rest n (omega (arith, ap length c.bytes_from-rest.ensures, c.if-len-rest.false)) ∙ sym (cuts.space-run rest n run))
