use Rattle.std.proofs.Common.{rules, sym, refl, ◌∙◌, arith}
use Rattle.std.proofs.lemmas.Bool.Decides.{nat_tests}
use Rattle.meaning.specs.Text.{is_in}
use Rattle.text.proofs.Cuts as cuts
use Rattle.text.proofs.tokens.Source.sign_at.Goals.{in-40-default, in-41-default, in-44-default, in-46-default, in-42-default, in-43-default, in-45-default, in-61-default, in-60-eq61, in-60-eq62, in-60-default, in-62-eq61, in-62-default, in-124-eq124, in_default, in_default-2}
use Rattle.text.proofs.tokens.Source.sign_at.Goals as goal

pub returns : goal.returns
unfolding is_in
returns c = let s = c.args.self.bytes.now in let a = c.args.at in let l = c.requires.0 in let second = c.byte_at.ensures in
    cuts.placed s _ _ _ _ c.found.ensures (elim c.match-self-at.branch [
      | in-40-default w ↦ cuts.matched s a _ _ _ w.tok-is (cuts.sign-cut s a l 40 refl w.in-40-default.is-0)
      | in-41-default w ↦ cuts.matched s a _ _ _ w.tok-is (cuts.sign-cut s a l 41 refl w.in-41-default.is-0)
      | in-44-default w ↦ cuts.matched s a _ _ _ w.tok-is (cuts.sign-cut s a l 44 refl w.in-44-default.is-0)
      | in-46-default w ↦ cuts.matched s a _ _ _ w.tok-is (cuts.sign-cut s a l 46 refl w.in-46-default.is-0)
      | in-42-default w ↦ cuts.matched s a _ _ _ w.tok-is (cuts.sign-cut s a l 42 refl w.in-42-default.is-0)
      | in-43-default w ↦ cuts.matched s a _ _ _ w.tok-is (cuts.sign-cut s a l 43 refl w.in-43-default.is-0)
      | in-45-default w ↦ cuts.matched s a _ _ _ w.tok-is (cuts.sign-cut s a l 45 refl w.in-45-default.is-0)
      | in-61-default w ↦ cuts.matched s a _ _ _ w.tok-is (cuts.sign-cut s a l 61 refl w.in-61-default.is-0)
      | in-60-eq61 w ↦ cuts.matched s a _ _ _ w.tok-is (cuts.at-most-cut s a l w.in-60-eq61.is-0 (sym second ∙ w.in-60-eq61.is-1))
      | in-60-eq62 w ↦ cuts.matched s a _ _ _ w.tok-is (cuts.differs-cut s a l w.in-60-eq62.is-0 (sym second ∙ w.in-60-eq62.is-1))
      | in-60-default w ↦ cuts.matched s a _ _ _ w.tok-is (cuts.less-cut s a l w.in-60-default.is-0 (λ e. w.in-60-default.is-1.0.1 (second ∙ e)) (λ e. w.in-60-default.is-1.1 (second ∙ e)))
      | in-62-eq61 w ↦ cuts.matched s a _ _ _ w.tok-is (cuts.at-least-cut s a l w.in-62-eq61.is-0 (sym second ∙ w.in-62-eq61.is-1))
      | in-62-default w ↦ cuts.matched s a _ _ _ w.tok-is (cuts.more_cut s a l w.in-62-default.is-0 (λ e. w.in-62-default.is-1.1 (second ∙ e)))
      | in-124-eq124 w ↦ cuts.matched s a _ _ _ w.tok-is (cuts.joined-cut s a l w.in-124-eq124.is-0 (sym second ∙ w.in-124-eq124.is-1))
      | in_default w ↦ cuts.matched s a _ _ _ w.tok-is (cuts.bar-cut s a l w.in_default.is-0 (λ e. w.in_default.is-1.1 (second ∙ e)))
      | in_default-2 w ↦ cuts.matched s a _ _ _ w.tok-is (cuts.wrong-cut s a l (c.requires.1.0, c.requires.1.1, c.requires.1.2, search rules, search rules, search rules) (grind (arith, nat_tests)) c.requires.1.3)
    ])
