use Rattle.std.proofs.Common.{rules, refl, sym, ◌∙◌}
use Rattle.meaning.specs.Tree as tree
use Rattle.meaning.specs.Text.{k_create, k_drop, k_insert, k_update, k_delete, k_begin, k_commit, k_rollback, k_savepoint, k_release}
use Rattle.grammar.specs.Reader as reader
use Rattle.grammar.specs.Reader.{is_sign, is_word}
use Rattle.grammar.proofs.Tools.{choose_yes, choose_no, then_is, then-refused}
use Rattle.text.proofs.Columns.{name-said, names-says, says_same}
use Rattle.text.proofs.statements.statement.Goals as goal

pub returns-in-Some : goal.returns-in-Some
unfolding reader.statement
returns-in-Some c = let b = c.args.source.bytes.now in
    says_same b c.create.new.nodes _ _ c.create.result (sym (choose_yes (is_word k_create) _ _ _ _ c.in-Some.ensures.0 c.in-Some.ensures.1)) c.create.ensures

pub returns-in-Some-take_key : goal.returns-in-Some-take_key
unfolding reader.statement
returns-in-Some-take_key c = let b = c.args.source.bytes.now in
    names-says b c.args.nodes.now _ _ c.drop_one.result (sym (choose_no (is_word k_create) _ _ _ c.in_default.ensures ∙ choose_yes (is_word k_drop) _ _ _ _ c.in-Some-take_key.ensures.0 c.in-Some-take_key.ensures.1)) c.drop_one.ensures

pub returns-in-Some-take_key-2 : goal.returns-in-Some-take_key-2
unfolding reader.statement
returns-in-Some-take_key-2 c = let b = c.args.source.bytes.now in
    says_same b c.insert.new.nodes _ _ c.insert.result (sym (choose_no (is_word k_create) _ _ _ c.in_default.ensures ∙ choose_no (is_word k_drop) _ _ _ c.in_default-take_key.ensures ∙ choose_yes (is_word k_insert) _ _ _ _ c.in-Some-take_key-2.ensures.0 c.in-Some-take_key-2.ensures.1)) c.insert.ensures

pub returns-in-Some-take_key-3 : goal.returns-in-Some-take_key-3
unfolding reader.statement
returns-in-Some-take_key-3 c = let b = c.args.source.bytes.now in
    says_same b c.update.new.nodes _ _ c.update.result (sym (choose_no (is_word k_create) _ _ _ c.in_default.ensures ∙ choose_no (is_word k_drop) _ _ _ c.in_default-take_key.ensures ∙ choose_no (is_word k_insert) _ _ _ c.in_default-take_key-2.ensures ∙ choose_yes (is_word k_update) _ _ _ _ c.in-Some-take_key-3.ensures.0 c.in-Some-take_key-3.ensures.1)) c.update.ensures

pub returns-in-Some-take_key-4 : goal.returns-in-Some-take_key-4
unfolding reader.statement
returns-in-Some-take_key-4 c = let b = c.args.source.bytes.now in
    says_same b c.delete.new.nodes _ _ c.delete.result (sym (choose_no (is_word k_create) _ _ _ c.in_default.ensures ∙ choose_no (is_word k_drop) _ _ _ c.in_default-take_key.ensures ∙ choose_no (is_word k_insert) _ _ _ c.in_default-take_key-2.ensures ∙ choose_no (is_word k_update) _ _ _ c.in_default-take_key-3.ensures ∙ choose_yes (is_word k_delete) _ _ _ _ c.in-Some-take_key-4.ensures.0 c.in-Some-take_key-4.ensures.1)) c.delete.ensures

pub returns-in-Some-take_key-5 : goal.returns-in-Some-take_key-5
unfolding reader.statement
returns-in-Some-take_key-5 c = let b = c.args.source.bytes.now in
    (tree.begin, choose_no (is_word k_create) _ _ _ c.in_default.ensures ∙ choose_no (is_word k_drop) _ _ _ c.in_default-take_key.ensures ∙ choose_no (is_word k_insert) _ _ _ c.in_default-take_key-2.ensures ∙ choose_no (is_word k_update) _ _ _ c.in_default-take_key-3.ensures ∙ choose_no (is_word k_delete) _ _ _ c.in_default-take_key-4.ensures ∙ choose_yes (is_word k_begin) _ _ _ _ c.in-Some-take_key-5.ensures.0 c.in-Some-take_key-5.ensures.1, refl)

pub returns-in-Some-take_key-6 : goal.returns-in-Some-take_key-6
unfolding reader.statement
returns-in-Some-take_key-6 c = let b = c.args.source.bytes.now in
    (tree.commit, choose_no (is_word k_create) _ _ _ c.in_default.ensures ∙ choose_no (is_word k_drop) _ _ _ c.in_default-take_key.ensures ∙ choose_no (is_word k_insert) _ _ _ c.in_default-take_key-2.ensures ∙ choose_no (is_word k_update) _ _ _ c.in_default-take_key-3.ensures ∙ choose_no (is_word k_delete) _ _ _ c.in_default-take_key-4.ensures ∙ choose_no (is_word k_begin) _ _ _ c.in_default-take_key-5.ensures ∙ choose_yes (is_word k_commit) _ _ _ _ c.in-Some-take_key-6.ensures.0 c.in-Some-take_key-6.ensures.1, refl)

pub returns-in-Some-take_key-7 : goal.returns-in-Some-take_key-7
unfolding reader.statement
returns-in-Some-take_key-7 c = let b = c.args.source.bytes.now in
    names-says b c.args.nodes.now _ _ c.rollback.result (sym (choose_no (is_word k_create) _ _ _ c.in_default.ensures ∙ choose_no (is_word k_drop) _ _ _ c.in_default-take_key.ensures ∙ choose_no (is_word k_insert) _ _ _ c.in_default-take_key-2.ensures ∙ choose_no (is_word k_update) _ _ _ c.in_default-take_key-3.ensures ∙ choose_no (is_word k_delete) _ _ _ c.in_default-take_key-4.ensures ∙ choose_no (is_word k_begin) _ _ _ c.in_default-take_key-5.ensures ∙ choose_no (is_word k_commit) _ _ _ c.in_default-take_key-6.ensures ∙ choose_yes (is_word k_rollback) _ _ _ _ c.in-Some-take_key-7.ensures.0 c.in-Some-take_key-7.ensures.1)) c.rollback.ensures

pub returns-in-Some-take_key-8 : goal.returns-in-Some-take_key-8
unfolding reader.statement
returns-in-Some-take_key-8 c = let b = c.args.source.bytes.now in
    names-says b c.args.nodes.now _ _ c.named.result (sym (choose_no (is_word k_create) _ _ _ c.in_default.ensures ∙ choose_no (is_word k_drop) _ _ _ c.in_default-take_key.ensures ∙ choose_no (is_word k_insert) _ _ _ c.in_default-take_key-2.ensures ∙ choose_no (is_word k_update) _ _ _ c.in_default-take_key-3.ensures ∙ choose_no (is_word k_delete) _ _ _ c.in_default-take_key-4.ensures ∙ choose_no (is_word k_begin) _ _ _ c.in_default-take_key-5.ensures ∙ choose_no (is_word k_commit) _ _ _ c.in_default-take_key-6.ensures ∙ choose_no (is_word k_rollback) _ _ _ c.in_default-take_key-7.ensures ∙ choose_yes (is_word k_savepoint) _ _ _ _ c.in-Some-take_key-8.ensures.0 c.in-Some-take_key-8.ensures.1)) (name-said b _ tree.savepoint (λ x s p f. (x, (search rules), refl)) _ c.named.result c.named.ensures)

pub returns-in-Some-take_key-9 : goal.returns-in-Some-take_key-9
unfolding reader.statement
returns-in-Some-take_key-9 c = let b = c.args.source.bytes.now in
    names-says b c.args.nodes.now _ _ c.named-in-Some-take_key-9.result (sym (choose_no (is_word k_create) _ _ _ c.in_default.ensures ∙ choose_no (is_word k_drop) _ _ _ c.in_default-take_key.ensures ∙ choose_no (is_word k_insert) _ _ _ c.in_default-take_key-2.ensures ∙ choose_no (is_word k_update) _ _ _ c.in_default-take_key-3.ensures ∙ choose_no (is_word k_delete) _ _ _ c.in_default-take_key-4.ensures ∙ choose_no (is_word k_begin) _ _ _ c.in_default-take_key-5.ensures ∙ choose_no (is_word k_commit) _ _ _ c.in_default-take_key-6.ensures ∙ choose_no (is_word k_rollback) _ _ _ c.in_default-take_key-7.ensures ∙ choose_no (is_word k_savepoint) _ _ _ c.in_default-take_key-8.ensures ∙ choose_yes (is_word k_release) _ _ _ _ c.in-Some-take_key-9.ensures.0 c.in-Some-take_key-9.ensures.1)) (name-said b _ tree.release (λ x s p f. (x, (search rules), refl)) _ c.named-in-Some-take_key-9.result c.named-in-Some-take_key-9.ensures)

pub returns-in_err-query : goal.returns-in_err-query
unfolding reader.statement
returns-in_err-query c = let b = c.args.source.bytes.now in
    rw c.from_residual.ensures (choose_no (is_word k_create) _ _ _ c.in_default.ensures ∙ choose_no (is_word k_drop) _ _ _ c.in_default-take_key.ensures ∙ choose_no (is_word k_insert) _ _ _ c.in_default-take_key-2.ensures ∙ choose_no (is_word k_update) _ _ _ c.in_default-take_key-3.ensures ∙ choose_no (is_word k_delete) _ _ _ c.in_default-take_key-4.ensures ∙ choose_no (is_word k_begin) _ _ _ c.in_default-take_key-5.ensures ∙ choose_no (is_word k_commit) _ _ _ c.in_default-take_key-6.ensures ∙ choose_no (is_word k_rollback) _ _ _ c.in_default-take_key-7.ensures ∙ choose_no (is_word k_savepoint) _ _ _ c.in_default-take_key-8.ensures ∙ choose_no (is_word k_release) _ _ _ c.in_default-take_key-9.ensures ∙ then-refused _ _ c.in_err-query.ensures)

pub returns : goal.returns
unfolding reader.statement
returns c = let b = c.args.source.bytes.now in let e = c.in_ok-query.ensures in
    (tree.select e.it, choose_no (is_word k_create) _ _ _ c.in_default.ensures ∙ choose_no (is_word k_drop) _ _ _ c.in_default-take_key.ensures ∙ choose_no (is_word k_insert) _ _ _ c.in_default-take_key-2.ensures ∙ choose_no (is_word k_update) _ _ _ c.in_default-take_key-3.ensures ∙ choose_no (is_word k_delete) _ _ _ c.in_default-take_key-4.ensures ∙ choose_no (is_word k_begin) _ _ _ c.in_default-take_key-5.ensures ∙ choose_no (is_word k_commit) _ _ _ c.in_default-take_key-6.ensures ∙ choose_no (is_word k_rollback) _ _ _ c.in_default-take_key-7.ensures ∙ choose_no (is_word k_savepoint) _ _ _ c.in_default-take_key-8.ensures ∙ choose_no (is_word k_release) _ _ _ c.in_default-take_key-9.ensures ∙ then_is _ e.is refl, (_, refl, e.stands))
