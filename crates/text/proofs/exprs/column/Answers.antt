use Rattle.std.proofs.Common.{[], length, None, Some, sym, refl, ap, ◌∙◌, arith}
use Rattle.meaning.specs.Tree as tree
use Rattle.meaning.specs.Tree.{aggregates}
use Rattle.grammar.specs.Reader as reader
use Rattle.grammar.specs.Reader.{gets, is_sign}
use Rattle.grammar.proofs.Tools.{choose_yes, choose_no, then_is, then-refused}
use Rattle.text.specs.Cut.{tokens_at, name}
use Rattle.text.specs.declared.nodes.Node.TheVariants as node
use Rattle.text.proofs.Steps.{taken-length, name-length, leaf-read}
use Rattle.text.proofs.exprs.column.Goals as goal

pub returns-in_default : goal.returns-in_default
unfolding aggregates
returns-in_default c =
    let b = c.args.source.bytes.now in let x = c.args.name in let e = c.leaf.ensures.1.1.1 in
    leaf-read b c.args.nodes.now c.leaf.new.nodes (tokens_at b x.after) (node.Column None x.value) (tree.col [] (name b x.value)) c.leaf.result 0 _ c.leaf.ensures.0 (λ f i h. (None, x.value, h, refl, refl)) c.leaf.ensures.1.1.0 c.leaf.ensures.1.0
    (choose_no (is_sign 46) _ _ _ c.in_default.ensures ∙ ap (λ a. gets (reader.part 7 (tree.col [] (name b x.value))) (tokens_at b a)) (sym e)) (omega (arith, ap (λ a. length (tokens_at b a)) e))

pub returns-in_err-its : goal.returns-in_err-its
returns-in_err-its c = rw c.from_residual.ensures (choose_yes (is_sign 46) _ _ _ _ c.in-Some.ensures.0 c.in-Some.ensures.1 ∙ then-refused _ _ c.in_err-its.ensures)

pub returns : goal.returns
unfolding aggregates
returns c =
    let b = c.args.source.bytes.now in let x = c.args.name in let y = c.in_ok-its.its in let e = c.leaf-2.ensures.1.1.1 in
    let l1 = taken-length (is_sign 46) (tokens_at b x.after) (tokens_at b c.in-Some.at) c.in-Some.ensures.0 c.in-Some.ensures.1 in
    let l2 = name-length (tokens_at b c.in-Some.at) (tokens_at b y.after) _ c.in_ok-its.ensures in
    leaf-read b c.args.nodes.now c.leaf-2.new.nodes (tokens_at b x.after) (node.Column (Some x.value) y.value) (tree.col (name b x.value) (name b y.value)) c.leaf-2.result 0 _ c.leaf-2.ensures.0 (λ f i h. (Some x.value, y.value, h, refl, refl)) c.leaf-2.ensures.1.1.0 c.leaf-2.ensures.1.0
    (choose_yes (is_sign 46) _ _ _ _ c.in-Some.ensures.0 c.in-Some.ensures.1 ∙ then_is _ c.in_ok-its.ensures (ap (λ a. gets (reader.part 7 (tree.col (name b x.value) (name b y.value))) (tokens_at b a)) (sym e))) (omega (arith, l1, l2, ap (λ a. length (tokens_at b a)) e))
