use Rattle.std.proofs.Common.{refl, ◌∙◌, arith}
use Rattle.meaning.specs.Tree as tree
use Rattle.meaning.specs.Text.{k_on}
use Rattle.grammar.specs.Reader.{is_sign, is_word}
use Rattle.grammar.proofs.Tools.{choose_yes, choose_no, then_is, then-refused}
use Rattle.text.specs.Cut.{tokens_at, name}
use Rattle.text.proofs.Stood.{grown-none}
use Rattle.text.proofs.Steps.{taken-length, name-length}
use Rattle.text.proofs.statements.create_index.Goals as goal

pub returns-in_err-name : goal.returns-in_err-name
returns-in_err-name c = let b = c.args.source.bytes.now in
    rw c.from_residual.ensures (then-refused _ _ c.in_err-name.ensures)

pub returns-in_err-on : goal.returns-in_err-on
returns-in_err-on c = let b = c.args.source.bytes.now in
    rw c.from_residual-in_err-on.ensures (then_is _ c.in_ok-name.ensures (choose_no (is_word k_on) _ _ _ c.in_err-on.ensures))

pub returns-in_err-table : goal.returns-in_err-table
returns-in_err-table c = let b = c.args.source.bytes.now in
    rw c.from_residual-in_err-table.ensures (then_is _ c.in_ok-name.ensures (choose_yes (is_word k_on) _ _ _ _ c.in_ok-on.ensures.0 c.in_ok-on.ensures.1 ∙ then-refused _ _ c.in_err-table.ensures))

pub returns-in_err-open : goal.returns-in_err-open
returns-in_err-open c = let b = c.args.source.bytes.now in
    rw c.from_residual-in_err-open.ensures (then_is _ c.in_ok-name.ensures (choose_yes (is_word k_on) _ _ _ _ c.in_ok-on.ensures.0 c.in_ok-on.ensures.1 ∙ then_is _ c.in_ok-table.ensures (choose_no (is_sign 40) _ _ _ c.in_err-open.ensures)))

pub list-requires : goal.list-requires
list-requires c = let b = c.args.source.bytes.now in
    omega (arith, c.requires, name-length (tokens_at b c.args.at) (tokens_at b c.in_ok-name.name.after) _ c.in_ok-name.ensures, taken-length (is_word k_on) (tokens_at b c.in_ok-name.name.after) (tokens_at b c.in_ok-on.on) c.in_ok-on.ensures.0 c.in_ok-on.ensures.1, name-length (tokens_at b c.in_ok-on.on) (tokens_at b c.in_ok-table.table.after) _ c.in_ok-table.ensures, taken-length (is_sign 40) (tokens_at b c.in_ok-table.table.after) (tokens_at b c.in_ok-open.open) c.in_ok-open.ensures.0 c.in_ok-open.ensures.1)

pub returns-in_err-cols : goal.returns-in_err-cols
returns-in_err-cols c = let b = c.args.source.bytes.now in
    rw c.from_residual-in_err-cols.ensures (then_is _ c.in_ok-name.ensures (choose_yes (is_word k_on) _ _ _ _ c.in_ok-on.ensures.0 c.in_ok-on.ensures.1 ∙ then_is _ c.in_ok-table.ensures (choose_yes (is_sign 40) _ _ _ _ c.in_ok-open.ensures.0 c.in_ok-open.ensures.1 ∙ then-refused _ _ c.in_err-cols.ensures)))

pub returns-in_err-after : goal.returns-in_err-after
returns-in_err-after c = let b = c.args.source.bytes.now in
    rw c.from_residual-in_err-after.ensures (then_is _ c.in_ok-name.ensures (choose_yes (is_word k_on) _ _ _ _ c.in_ok-on.ensures.0 c.in_ok-on.ensures.1 ∙ then_is _ c.in_ok-table.ensures (choose_yes (is_sign 40) _ _ _ _ c.in_ok-open.ensures.0 c.in_ok-open.ensures.1 ∙ then_is _ c.in_ok-cols.ensures.is (choose_no (is_sign 41) _ _ _ c.in_err-after.ensures))))

pub returns : goal.returns
returns c = let b = c.args.source.bytes.now in let e = c.in_ok-cols.ensures in
    (tree.create_index c.args.unique (name b c.in_ok-name.name.value) (name b c.in_ok-table.table.value) e.it, then_is _ c.in_ok-name.ensures (choose_yes (is_word k_on) _ _ _ _ c.in_ok-on.ensures.0 c.in_ok-on.ensures.1 ∙ then_is _ c.in_ok-table.ensures (choose_yes (is_sign 40) _ _ _ _ c.in_ok-open.ensures.0 c.in_ok-open.ensures.1 ∙ then_is _ e.is (choose_yes (is_sign 41) _ _ _ _ c.in_ok-after.ensures.0 c.in_ok-after.ensures.1))), (_, _, _, refl, refl, refl, e.stands _ (grown-none _)))
