use Rattle.std.proofs.Common.{suc, ◌-◌, true, false, cond, ◌||◌, [], ◌∷◌, length, pos, Some, None, sym, refl, ap, ◌∙◌, subst, inl, inr, add-one, arith}
use Rattle.std.proofs.lemmas.Bool.{le-leb}
use Rattle.meaning.specs.Value as value
use Rattle.meaning.specs.Tree as tree
use Rattle.meaning.specs.Tree.{aggregates, aggregates_any, aggregates_key}
use Rattle.meaning.specs.Text.{k_select, k_from, k_group, k_by, k_order, k_not, k_null, k_is, k_exists, k_count, k_sum, k_min, k_max}
use Rattle.grammar.specs.Reader as reader
use Rattle.grammar.specs.Reader.{gets, refuses, is_sign, is_word, and_then, to_exprs, to_keys, null_test}
use Rattle.grammar.proofs.Tools.{choose_yes, choose_no, then_is, then-refused}
use Rattle.text.specs.Cut.{tokens_at, undoubled, part}
use Rattle.text.specs.Stands.{filled, Stands, StandsQuery, folds}
use Rattle.text.specs.Found.{Read, Further, StandsTerm, Aggregates, TermWithin, SaysAsked, StandsPart, SaysPart, PartWithin, level_of, left_of, makes, StandsOrder, SaysOrder, OrderWithin}
use Rattle.text.specs.declared.nodes.Node.TheVariants as node
use Rattle.text.proofs.Names.{or-false}
use Rattle.text.proofs.Stood.{pushed, kept, exprs-kept, keys_kept, query-kept, limit-kept, under-on, grown-on, grown-none, grown-length, makes-aggregates}
use Rattle.text.proofs.Steps.{taken-length, name-length, number-length, lifted, over, leaf-read, expr-none, expr-step, exprs-none, exprs-step, keys_none, keys_step, listed-refused, listed-last, listed-on, listed-fails, bracket-query, bracket-expr, operand-name, operand-number, operand-bracket, operand-minus, operand-quoted, quoted-length, operand-keyed}
use Rattle.text.proofs.Turns.{joint-tests, no-tests, more-ends, more-tests-ends, more-tests, more-joins-ends, more-joins, more-none, tested-further, turns-left}
use Rattle.text.proofs.Listed.{exprs-some, single_more, key-got, stand-item, stand-key, direction-length, joint-length, distinct-length, not-true, not-false}
use Rattle.text.proofs.exprs.+climb.Goals.{further-then-level-gt3-via-then-level-gt3, further-then-level-gt3-via-else-level-gt3+then-a-lt4, further-then-level-of-via-then-level-of, further-then-level-of-via-else-level-of+then-under-a}
use Rattle.text.proofs.exprs.+climb.Goals as goal

pub bracket-returns-in_err-q : goal.bracket-returns-in_err-q
bracket-returns-in_err-q t c = let b = c.args.source.bytes.now in
    rw c.from_residual.ensures (bracket-query (reader.expr c.args.left) (reader.exprs c.args.left) (reader.keys c.args.left) c.args.left _ (sym c.if-has_key.ensures) ∙ then-refused _ _ c.in_err-q.ensures)

pub bracket-returns-in_err-after : goal.bracket-returns-in_err-after
bracket-returns-in_err-after t c = let b = c.args.source.bytes.now in let q = c.in_ok-q.ensures in
    rw c.from_residual-in_err-after.ensures (bracket-query (reader.expr c.args.left) (reader.exprs c.args.left) (reader.keys c.args.left) c.args.left _ (sym c.if-has_key.ensures) ∙ then_is _ q.is (choose_no (is_sign 41) _ _ _ c.in_err-after.ensures))

pub bracket-returns-then-not-q : goal.bracket-returns-then-not-q
bracket-returns-then-not-q t c = let b = c.args.source.bytes.now in let q = c.in_ok-q.ensures in
    bracket-query (reader.expr c.args.left) (reader.exprs c.args.left) (reader.keys c.args.left) c.args.left _ (sym c.if-has_key.ensures) ∙ then_is _ q.is (choose_yes (is_sign 41) _ _ _ _ c.in_ok-after.ensures.0 c.in_ok-after.ensures.1 ∙ ap (λ v. cond v (gets (reader.part 7 (tree.scalar q.it)) (tokens_at b c.in_ok-after.after)) refuses) (sym q.says ∙ not-true c.in_ok-q.q.value.single c.if-not-q.true))

pub bracket-returns-then-has_key : goal.bracket-returns-then-has_key
unfolding aggregates
bracket-returns-then-has_key t c = let b = c.args.source.bytes.now in let q = c.in_ok-q.ensures in let l = taken-length (is_sign 41) (tokens_at b c.in_ok-q.q.after) (tokens_at b c.in_ok-after.after) c.in_ok-after.ensures.0 c.in_ok-after.ensures.1 in let e = c.leaf.ensures.1.1.1 in
    over (StandsQuery b) SaysAsked (λ x. x.node) (λ a f h. query-kept b a f h) tree.scalar node.Scalar b (λ f a i s. s) c.args.nodes.now c.question.new.nodes c.leaf.new.nodes (tokens_at b c.args.at) (tokens_at b c.args.at) _ c.in_ok-q.q c.leaf.result 7 2 _ q c.leaf.ensures.0 c.leaf.ensures.1.1.0 c.leaf.ensures.1.0
    (bracket-query (reader.expr c.args.left) (reader.exprs c.args.left) (reader.keys c.args.left) c.args.left _ (sym c.if-has_key.ensures) ∙ then_is _ q.is (choose_yes (is_sign 41) _ _ _ _ c.in_ok-after.ensures.0 c.in_ok-after.ensures.1 ∙ ap (λ v. cond v (gets (reader.part 7 (tree.scalar q.it)) (tokens_at b c.in_ok-after.after)) refuses) (sym q.says ∙ not-false c.in_ok-q.q.value.single c.if-not-q.false) ∙ ap (λ a. gets (reader.part 7 (tree.scalar q.it)) (tokens_at b a)) (sym e))) (omega (arith, l, ap (λ a. length (tokens_at b a)) e))

pub bracket-returns-in_err-a : goal.bracket-returns-in_err-a
bracket-returns-in_err-a t c = let b = c.args.source.bytes.now in
    rw c.from_residual-in_err-a.ensures (bracket-expr (reader.expr c.args.left) (reader.exprs c.args.left) (reader.keys c.args.left) c.args.left _ (sym c.if-has_key.ensures) ∙ then-refused _ _ c.in_err-a.ensures)

pub bracket-returns-in_err-after-2 : goal.bracket-returns-in_err-after-2
bracket-returns-in_err-after-2 t c = let b = c.args.source.bytes.now in let a = c.in_ok-a.ensures in
    rw c.from_residual-in_err-after-2.ensures (bracket-expr (reader.expr c.args.left) (reader.exprs c.args.left) (reader.keys c.args.left) c.args.left _ (sym c.if-has_key.ensures) ∙ then_is _ a.is (choose_no (is_sign 41) _ _ _ c.in_err-after-2.ensures))

pub bracket-returns : goal.bracket-returns
bracket-returns t c = let b = c.args.source.bytes.now in let a = c.in_ok-a.ensures in let l = taken-length (is_sign 41) (tokens_at b c.in_ok-a.a.after) (tokens_at b c.in_ok-after-2.after) c.in_ok-after-2.ensures.0 c.in_ok-after-2.ensures.1 in
    record { it = reader.part 7 a.it; is = bracket-expr (reader.expr c.args.left) (reader.exprs c.args.left) (reader.keys c.args.left) c.args.left _ (sym c.if-has_key.ensures) ∙ then_is _ a.is (choose_yes (is_sign 41) _ _ _ _ c.in_ok-after-2.ensures.0 c.in_ok-after-2.ensures.1); stands = a.stands; says = (a.says, refl); within = a.within; grown = a.grown; few = omega (arith, a.few, l) }

pub count-returns-in_err-inside : goal.count-returns-in_err-inside
count-returns-in_err-inside t c = let b = c.args.source.bytes.now in
    rw c.from_residual.ensures (choose_no (is_sign 40) _ _ _ c.in_err-inside.ensures)

pub count-returns-in_default : goal.count-returns-in_default
count-returns-in_default t c = let b = c.args.source.bytes.now in let l = taken-length (is_sign 40) (tokens_at b c.args.at) (tokens_at b c.in_ok-inside.inside) c.in_ok-inside.ensures.0 c.in_ok-inside.ensures.1 in
    lifted (StandsPart b) SaysPart PartWithin 2 2 b c.args.nodes.now c.folded.new.nodes (tokens_at b c.in_ok-inside.inside) (tokens_at b c.args.at) _ _ c.folded.result (sym (choose_yes (is_sign 40) _ _ _ _ c.in_ok-inside.ensures.0 c.in_ok-inside.ensures.1 ∙ choose_no (is_sign 42) _ _ _ c.in_default.ensures)) (omega (arith, l)) c.folded.ensures

pub count-returns-in_err-after : goal.count-returns-in_err-after
count-returns-in_err-after t c = let b = c.args.source.bytes.now in
    rw c.from_residual-in_err-after.ensures (choose_yes (is_sign 40) _ _ _ _ c.in_ok-inside.ensures.0 c.in_ok-inside.ensures.1 ∙ choose_yes (is_sign 42) _ _ _ _ c.in-Some.ensures.0 c.in-Some.ensures.1 ∙ choose_no (is_sign 41) _ _ _ c.in_err-after.ensures)

pub count-returns : goal.count-returns
unfolding aggregates
count-returns t c = let b = c.args.source.bytes.now in let l1 = taken-length (is_sign 40) (tokens_at b c.args.at) (tokens_at b c.in_ok-inside.inside) c.in_ok-inside.ensures.0 c.in_ok-inside.ensures.1 in let l2 = taken-length (is_sign 42) (tokens_at b c.in_ok-inside.inside) (tokens_at b c.in-Some.star) c.in-Some.ensures.0 c.in-Some.ensures.1 in let l3 = taken-length (is_sign 41) (tokens_at b c.in-Some.star) (tokens_at b c.in_ok-after.after) c.in_ok-after.ensures.0 c.in_ok-after.ensures.1 in
    leaf-read b c.args.nodes.now c.push-node.new.self (tokens_at b c.args.at) node.RowCount tree.row_count (record { value = record { level = 7; it = record { node = c.push-node.result; aggregates = true } }; after = c.in_ok-after.after }) 2 _ c.push-node.ensures (λ f i h. h) refl refl (choose_yes (is_sign 40) _ _ _ _ c.in_ok-inside.ensures.0 c.in_ok-inside.ensures.1 ∙ choose_yes (is_sign 42) _ _ _ _ c.in-Some.ensures.0 c.in-Some.ensures.1 ∙ choose_yes (is_sign 41) _ _ _ _ c.in_ok-after.ensures.0 c.in_ok-after.ensures.1) (omega (arith, l1, l2, l3))

pub existence-returns-in_err-inside : goal.existence-returns-in_err-inside
existence-returns-in_err-inside t c = let b = c.args.source.bytes.now in
    rw c.from_residual.ensures (choose_no (is_sign 40) _ _ _ c.in_err-inside.ensures)

pub existence-returns-in_err-q : goal.existence-returns-in_err-q
existence-returns-in_err-q t c = let b = c.args.source.bytes.now in
    rw c.from_residual-in_err-q.ensures (choose_yes (is_sign 40) _ _ _ _ c.in_ok-inside.ensures.0 c.in_ok-inside.ensures.1 ∙ then-refused _ _ c.in_err-q.ensures)

pub existence-returns-in_err-after : goal.existence-returns-in_err-after
existence-returns-in_err-after t c = let b = c.args.source.bytes.now in let q = c.in_ok-q.ensures in
    rw c.from_residual-in_err-after.ensures (choose_yes (is_sign 40) _ _ _ _ c.in_ok-inside.ensures.0 c.in_ok-inside.ensures.1 ∙ then_is _ q.is (choose_no (is_sign 41) _ _ _ c.in_err-after.ensures))

pub existence-leaf-requires : goal.existence-leaf-requires
existence-leaf-requires t c = let b = c.args.source.bytes.now in let q = c.in_ok-q.ensures in let l0 = taken-length (is_sign 40) (tokens_at b c.args.at) (tokens_at b c.in_ok-inside.inside) c.in_ok-inside.ensures.0 c.in_ok-inside.ensures.1 in
    omega (arith, q.few, c.requires, l0)

pub existence-returns : goal.existence-returns
unfolding aggregates
existence-returns t c = let b = c.args.source.bytes.now in let q = c.in_ok-q.ensures in let l0 = taken-length (is_sign 40) (tokens_at b c.args.at) (tokens_at b c.in_ok-inside.inside) c.in_ok-inside.ensures.0 c.in_ok-inside.ensures.1 in let l = taken-length (is_sign 41) (tokens_at b c.in_ok-q.q.after) (tokens_at b c.in_ok-after.after) c.in_ok-after.ensures.0 c.in_ok-after.ensures.1 in let e = c.leaf.ensures.1.1.1 in
    over (StandsQuery b) SaysAsked (λ x. x.node) (λ a f h. query-kept b a f h) tree.exists node.Exists b (λ f a i s. s) c.args.nodes.now c.question.new.nodes c.leaf.new.nodes (tokens_at b c.in_ok-inside.inside) (tokens_at b c.args.at) _ c.in_ok-q.q c.leaf.result 7 2 _ q c.leaf.ensures.0 c.leaf.ensures.1.1.0 c.leaf.ensures.1.0
    (choose_yes (is_sign 40) _ _ _ _ c.in_ok-inside.ensures.0 c.in_ok-inside.ensures.1 ∙ then_is _ q.is (choose_yes (is_sign 41) _ _ _ _ c.in_ok-after.ensures.0 c.in_ok-after.ensures.1 ∙ ap (λ a. gets (reader.part 7 (tree.exists q.it)) (tokens_at b a)) (sym e))) (omega (arith, l0, l, ap (λ a. length (tokens_at b a)) e))

pub expr-returns-in_err-left : goal.expr-returns-in_err-left
expr-returns-in_err-left t c = let b = c.args.source.bytes.now in
    rw c.from_residual.ensures (expr-none c.args.left c.args.level (tokens_at b c.args.at) (omega (arith, c.in_err-left.ensures)))

pub expr-returns-in_err-a : goal.expr-returns-in_err-a
expr-returns-in_err-a t c = let b = c.args.source.bytes.now in
    rw c.from_residual-in_err-a.ensures (expr-step c.args.left c.in_ok-left.left c.args.level (tokens_at b c.args.at) (omega (arith, c.in_ok-left.ensures)) ∙ then-refused _ _ c.in_err-a.ensures)

pub expr-returns-in_err-b : goal.expr-returns-in_err-b
expr-returns-in_err-b t c = let b = c.args.source.bytes.now in let p = c.in_ok-a.ensures in let v = c.loop-turns.invariant in let g = v.goes p.it (record { stands = p.stands; counts = p.says.0; level = p.says.1; within = p.within }) in let d = g.0 in
    rw c.from_residual-in_err-b.ensures (expr-step c.args.left c.in_ok-left.left c.args.level (tokens_at b c.args.at) (omega (arith, c.in_ok-left.ensures)) ∙ then_is _ p.is (g.1 ∙ ap (λ n. reader.more n c.args.level d (tokens_at b c.loop-turns.a.after)) (sym (turns-left c.loop-turns.turns c.loop-turns-test.true)) ∙ c.in_err-b.ensures d g.2.level))

pub expr-returns-in_default : goal.expr-returns-in_default
expr-returns-in_default t c = let b = c.args.source.bytes.now in let p = c.in_ok-a.ensures in let v = c.loop-turns.invariant in let g = v.goes p.it (record { stands = p.stands; counts = p.says.0; level = p.says.1; within = p.within }) in let d = g.0 in let f = subst (λ o. Further b c.loop-turns.nodes c.further.new.nodes c.args.level (c.loop-turns.turns - 1) c.loop-turns.a (Some o)) c.in_default.is c.in_ok-b.ensures in
    subst (λ u. Read (StandsTerm b) Aggregates TermWithin 2 b c.args.nodes.now u (tokens_at b c.args.at) (reader.expr c.args.left c.args.level (tokens_at b c.args.at)) (record { value = c.loop-turns.a.value.it; after = c.loop-turns.a.after })) f.1
    (record { it = d.it; is = expr-step c.args.left c.in_ok-left.left c.args.level (tokens_at b c.args.at) (omega (arith, c.in_ok-left.ensures)) ∙ then_is _ p.is (g.1 ∙ ap (λ n. reader.more n c.args.level d (tokens_at b c.loop-turns.a.after)) (sym (turns-left c.loop-turns.turns c.loop-turns-test.true)) ∙ f.0 d g.2.level); stands = g.2.stands; says = g.2.counts; within = g.2.within; grown = grown-on (filled c.args.nodes.now) (filled c.operand.new.nodes) (filled c.loop-turns.nodes) p.grown v.grown; few = omega (arith, p.few, v.few) })

pub expr-loop-turns-preserved : goal.expr-loop-turns-preserved
expr-loop-turns-preserved t c = let b = c.args.source.bytes.now in let v = c.loop-turns.invariant in let n = subst (λ o. Further b c.loop-turns.nodes c.further.new.nodes c.args.level (c.loop-turns.turns - 1) c.loop-turns.a (Some o)) c.in-Some.is c.in_ok-b.ensures in
    record {
      less = omega (arith, v.less);
      grown = grown-on (filled c.operand.new.nodes) (filled c.loop-turns.nodes) (filled c.further.new.nodes) v.grown n.grown;
      few = omega (arith, v.few, n.few);
      goes = λ e s. let g = v.goes e s in let h = n.goes g.0 g.2 in (h.0, g.1 ∙ ap (λ n. reader.more n c.args.level g.0 (tokens_at b c.loop-turns.a.after)) (sym (turns-left c.loop-turns.turns c.loop-turns-test.true)) ∙ h.1, h.2);
    }

pub expr-returns : goal.expr-returns
expr-returns t c = let b = c.args.source.bytes.now in let p = c.in_ok-a.ensures in let v = c.loop-turns.invariant in let g = v.goes p.it (record { stands = p.stands; counts = p.says.0; level = p.says.1; within = p.within }) in let d = g.0 in
    expr-step c.args.left c.in_ok-left.left c.args.level (tokens_at b c.args.at) (omega (arith, c.in_ok-left.ensures)) ∙ then_is _ p.is (g.1 ∙ more-none _ _ _ _ (omega arith))

pub fold-returns-in_err-inside : goal.fold-returns-in_err-inside
fold-returns-in_err-inside t c = let b = c.args.source.bytes.now in
    rw c.from_residual.ensures (choose_no (is_sign 40) _ _ _ c.in_err-inside.ensures)

pub fold-returns : goal.fold-returns
fold-returns t c = let b = c.args.source.bytes.now in let l0 = taken-length (is_sign 40) (tokens_at b c.args.at) (tokens_at b c.in_ok-inside.inside) c.in_ok-inside.ensures.0 c.in_ok-inside.ensures.1 in
    lifted (StandsPart b) SaysPart PartWithin 2 2 b c.args.nodes.now c.folded.new.nodes (tokens_at b c.in_ok-inside.inside) (tokens_at b c.args.at) _ _ c.folded.result (sym (choose_yes (is_sign 40) _ _ _ _ c.in_ok-inside.ensures.0 c.in_ok-inside.ensures.1)) (omega (arith, l0)) c.folded.ensures

pub folded-returns-in_err-after : goal.folded-returns-in_err-after
folded-returns-in_err-after t c = let b = c.args.source.bytes.now in let a = c.in_ok-a.ensures in
    rw c.from_residual-in_err-after.ensures (then_is _ a.is (choose_no (is_sign 41) _ _ _ c.in_err-after.ensures))

pub folded-returns : goal.folded-returns
unfolding aggregates
folded-returns t c = let b = c.args.source.bytes.now in let a = c.in_ok-a.ensures in let l = taken-length (is_sign 41) (tokens_at b c.in_ok-a.a.after) (tokens_at b c.in_ok-after.after) c.in_ok-after.ensures.0 c.in_ok-after.ensures.1 in
    over (Stands b) Aggregates (λ x. x.node) (λ a f h. kept b a f h) (tree.aggregate (folds c.args.by)) (node.Folded c.args.by) b (λ f a i s. (c.args.by, refl, s)) c.args.nodes.now c.expr.new.nodes c.push-node.new.self (tokens_at b c.args.at) (tokens_at b c.args.at) _ c.in_ok-a.a (record { value = record { level = 7; it = record { node = c.push-node.result; aggregates = true } }; after = c.in_ok-after.after }) 7 2 _ a c.push-node.ensures refl refl (then_is _ a.is (choose_yes (is_sign 41) _ _ _ _ c.in_ok-after.ensures.0 c.in_ok-after.ensures.1)) (omega (arith, l))

pub further-returns-then-level-gt3 : goal.further-returns-then-level-gt3
further-returns-then-level-gt3 t c = let b = c.args.source.bytes.now in
    ((λ e l. more-tests-ends c.args.left c.args.level e (tokens_at b c.args.a.after) (joint-tests (tokens_at b c.args.a.after) c.in-Some.ensures.0) (elim c.then-level-gt3.branch [ further-then-level-gt3-via-then-level-gt3 w ↦ inl (omega (arith, w.if-level-gt3.true)) | further-then-level-gt3-via-else-level-gt3+then-a-lt4 w ↦ inr (omega (arith, w.if-a-lt4.true, l)) ])), refl)

pub further-returns-in_err-b : goal.further-returns-in_err-b
further-returns-in_err-b t c = let b = c.args.source.bytes.now in
    rw c.from_residual.ensures (λ e v. more-tests c.args.left c.args.level e (tokens_at b c.args.a.after) _ (joint-tests (tokens_at b c.args.a.after) c.in-Some.ensures.0) (omega arith) (omega arith) c.in-Some.ensures.1 ∙ then-refused (null_test (tokens_at b c.in-Some.after)) _ c.in_err-b.ensures)

pub further-returns-in-Some : goal.further-returns-in-Some
further-returns-in-Some t c = let b = c.args.source.bytes.now in
    tested-further b c.args.nodes.now c.tested.new.nodes (tokens_at b c.in-Some.after) c.args.a c.in_ok-b.b c.args.level c.args.left (λ e v. more-tests c.args.left c.args.level e (tokens_at b c.args.a.after) _ (joint-tests (tokens_at b c.args.a.after) c.in-Some.ensures.0) (omega arith) (omega arith) c.in-Some.ensures.1) (taken-length (is_word k_is) (tokens_at b c.args.a.after) (tokens_at b c.in-Some.after) c.in-Some.ensures.0 c.in-Some.ensures.1) c.in_ok-b.ensures

pub further-returns-in_default-take_infix : goal.further-returns-in_default-take_infix
further-returns-in_default-take_infix t c = let b = c.args.source.bytes.now in
    ((λ e l. more-ends c.args.left c.args.level e (tokens_at b c.args.a.after) (no-tests (tokens_at b c.args.a.after) c.in_default.ensures c.in_default-take_infix.ensures)), refl)

pub further-returns-then-level-of : goal.further-returns-then-level-of
further-returns-then-level-of t c = let b = c.args.source.bytes.now in
    ((λ e l. more-joins-ends c.args.left c.args.level (level_of c.in-Some-take_infix.link.value) (left_of c.in-Some-take_infix.link.value) (makes c.in-Some-take_infix.link.value) e (tokens_at b c.args.a.after) c.in-Some-take_infix.ensures.0 (elim c.then-level-of.branch [ further-then-level-of-via-then-level-of w ↦ inl (omega (arith, c.level-of.ensures, w.if-level-of.true)) | further-then-level-of-via-else-level-of+then-under-a w ↦ inr (omega (arith, c.left-under.ensures, w.if-under-a.true, l)) ])), refl)

pub further-returns-in_err-b-2 : goal.further-returns-in_err-b-2
further-returns-in_err-b-2 t c = let b = c.args.source.bytes.now in
    rw c.from_residual-in_err-b-2.ensures (λ e l. more-joins c.args.left c.args.level (level_of c.in-Some-take_infix.link.value) (left_of c.in-Some-take_infix.link.value) (makes c.in-Some-take_infix.link.value) e (tokens_at b c.args.a.after) (tokens_at b c.in-Some-take_infix.link.after) c.in-Some-take_infix.ensures.0 (omega (arith, c.level-of.ensures)) (omega (arith, c.left-under.ensures)) c.in-Some-take_infix.ensures.1 ∙ then-refused _ _ (ap (λ n. reader.expr c.args.left n (tokens_at b c.in-Some-take_infix.link.after)) (sym (add-one _ ∙ ap suc c.level-of.ensures)) ∙ c.in_err-b-2.ensures))

pub further-returns : goal.further-returns
further-returns t c = let b = c.args.source.bytes.now in let r = c.in_ok-b-2.ensures in let j = c.join.ensures in let F = filled c.args.nodes.now in let G = filled c.expr.new.nodes in let K = filled c.join.new.nodes in let q = joint-length (tokens_at b c.args.a.after) (tokens_at b c.in-Some-take_infix.link.after) c.in-Some-take_infix.ensures.0 c.in-Some-take_infix.ensures.1 in
    record {
      grown = grown-on F G K r.grown j.grown;
      few = omega (arith, r.few, j.few, q);
      goes = λ e s. let l = s.level in (
        reader.part (level_of c.in-Some-take_infix.link.value) (makes c.in-Some-take_infix.link.value e.it r.it),
        more-joins c.args.left c.args.level (level_of c.in-Some-take_infix.link.value) (left_of c.in-Some-take_infix.link.value) (makes c.in-Some-take_infix.link.value) e (tokens_at b c.args.a.after) (tokens_at b c.in-Some-take_infix.link.after) c.in-Some-take_infix.ensures.0 (omega (arith, c.level-of.ensures)) (omega (arith, c.left-under.ensures)) c.in-Some-take_infix.ensures.1 ∙ then_is _ (ap (λ n. reader.expr c.args.left n (tokens_at b c.in-Some-take_infix.link.after)) (sym (add-one _ ∙ ap suc c.level-of.ensures)) ∙ r.is) refl,
        record { stands = j.stands b e.it r.it (kept b e.it F G r.grown _ s.stands) r.stands (omega (arith, s.within, grown-length F G r.grown)) r.within; counts = (λ i. s.counts i || r.says i) ∙ sym (makes-aggregates c.in-Some-take_infix.link.value e.it r.it); level = c.level-of.ensures; within = j.within },
      );
    }

pub keyed-returns-in-Some : goal.keyed-returns-in-Some
unfolding reader.keyed aggregates
keyed-returns-in-Some t c = let b = c.args.source.bytes.now in let T = c.args.nodes.now in let l = taken-length (is_word k_null) (tokens_at b c.args.at) (tokens_at b c.in-Some.after) c.in-Some.ensures.0 c.in-Some.ensures.1 in let e = c.leaf.ensures.1.1.1 in leaf-read b T c.leaf.new.nodes (tokens_at b c.args.at) node.Null (tree.lit value.Null) c.leaf.result 2 _ c.leaf.ensures.0 (λ f i h. h) c.leaf.ensures.1.1.0 c.leaf.ensures.1.0 (choose_yes (is_word k_null) _ _ _ _ c.in-Some.ensures.0 c.in-Some.ensures.1 ∙ ap (λ a. gets (reader.part 7 (tree.lit value.Null)) (tokens_at b a)) (sym e)) (omega (arith, l, ap (λ a. length (tokens_at b a)) e))

pub keyed-returns-in-Some-take_key : goal.keyed-returns-in-Some-take_key
unfolding reader.keyed
keyed-returns-in-Some-take_key t c = let b = c.args.source.bytes.now in let T = c.args.nodes.now in let l = taken-length (is_word k_not) (tokens_at b c.args.at) (tokens_at b c.in-Some-take_key.after) c.in-Some-take_key.ensures.0 c.in-Some-take_key.ensures.1 in lifted (StandsPart b) SaysPart PartWithin 0 2 b T c.negation.new.nodes (tokens_at b c.in-Some-take_key.after) (tokens_at b c.args.at) _ _ c.negation.result (sym (choose_no (is_word k_null) _ _ _ c.in_default.ensures ∙ choose_yes (is_word k_not) _ _ _ _ c.in-Some-take_key.ensures.0 c.in-Some-take_key.ensures.1)) (omega (arith, l)) c.negation.ensures

pub keyed-returns-in-Some-take_key-2 : goal.keyed-returns-in-Some-take_key-2
unfolding reader.keyed
keyed-returns-in-Some-take_key-2 t c = let b = c.args.source.bytes.now in let T = c.args.nodes.now in let l = taken-length (is_word k_exists) (tokens_at b c.args.at) (tokens_at b c.in-Some-take_key-2.after) c.in-Some-take_key-2.ensures.0 c.in-Some-take_key-2.ensures.1 in lifted (StandsPart b) SaysPart PartWithin 2 2 b T c.existence.new.nodes (tokens_at b c.in-Some-take_key-2.after) (tokens_at b c.args.at) _ _ c.existence.result (sym (choose_no (is_word k_null) _ _ _ c.in_default.ensures ∙ choose_no (is_word k_not) _ _ _ c.in_default-take_key.ensures ∙ choose_yes (is_word k_exists) _ _ _ _ c.in-Some-take_key-2.ensures.0 c.in-Some-take_key-2.ensures.1)) (omega (arith, l)) c.existence.ensures

pub keyed-returns-in-Some-take_key-3 : goal.keyed-returns-in-Some-take_key-3
unfolding reader.keyed
keyed-returns-in-Some-take_key-3 t c = let b = c.args.source.bytes.now in let T = c.args.nodes.now in let l = taken-length (is_word k_count) (tokens_at b c.args.at) (tokens_at b c.in-Some-take_key-3.after) c.in-Some-take_key-3.ensures.0 c.in-Some-take_key-3.ensures.1 in lifted (StandsPart b) SaysPart PartWithin 2 2 b T c.count.new.nodes (tokens_at b c.in-Some-take_key-3.after) (tokens_at b c.args.at) _ _ c.count.result (sym (choose_no (is_word k_null) _ _ _ c.in_default.ensures ∙ choose_no (is_word k_not) _ _ _ c.in_default-take_key.ensures ∙ choose_no (is_word k_exists) _ _ _ c.in_default-take_key-2.ensures ∙ choose_yes (is_word k_count) _ _ _ _ c.in-Some-take_key-3.ensures.0 c.in-Some-take_key-3.ensures.1)) (omega (arith, l)) c.count.ensures

pub keyed-returns-in-Some-take_key-4 : goal.keyed-returns-in-Some-take_key-4
unfolding reader.keyed
keyed-returns-in-Some-take_key-4 t c = let b = c.args.source.bytes.now in let T = c.args.nodes.now in let l = taken-length (is_word k_sum) (tokens_at b c.args.at) (tokens_at b c.in-Some-take_key-4.after) c.in-Some-take_key-4.ensures.0 c.in-Some-take_key-4.ensures.1 in lifted (StandsPart b) SaysPart PartWithin 2 2 b T c.fold.new.nodes (tokens_at b c.in-Some-take_key-4.after) (tokens_at b c.args.at) _ _ c.fold.result (sym (choose_no (is_word k_null) _ _ _ c.in_default.ensures ∙ choose_no (is_word k_not) _ _ _ c.in_default-take_key.ensures ∙ choose_no (is_word k_exists) _ _ _ c.in_default-take_key-2.ensures ∙ choose_no (is_word k_count) _ _ _ c.in_default-take_key-3.ensures ∙ choose_yes (is_word k_sum) _ _ _ _ c.in-Some-take_key-4.ensures.0 c.in-Some-take_key-4.ensures.1)) (omega (arith, l)) c.fold.ensures

pub keyed-returns-in-Some-take_key-5 : goal.keyed-returns-in-Some-take_key-5
unfolding reader.keyed
keyed-returns-in-Some-take_key-5 t c = let b = c.args.source.bytes.now in let T = c.args.nodes.now in let l = taken-length (is_word k_min) (tokens_at b c.args.at) (tokens_at b c.in-Some-take_key-5.after) c.in-Some-take_key-5.ensures.0 c.in-Some-take_key-5.ensures.1 in lifted (StandsPart b) SaysPart PartWithin 2 2 b T c.fold-in-Some-take_key-5.new.nodes (tokens_at b c.in-Some-take_key-5.after) (tokens_at b c.args.at) _ _ c.fold-in-Some-take_key-5.result (sym (choose_no (is_word k_null) _ _ _ c.in_default.ensures ∙ choose_no (is_word k_not) _ _ _ c.in_default-take_key.ensures ∙ choose_no (is_word k_exists) _ _ _ c.in_default-take_key-2.ensures ∙ choose_no (is_word k_count) _ _ _ c.in_default-take_key-3.ensures ∙ choose_no (is_word k_sum) _ _ _ c.in_default-take_key-4.ensures ∙ choose_yes (is_word k_min) _ _ _ _ c.in-Some-take_key-5.ensures.0 c.in-Some-take_key-5.ensures.1)) (omega (arith, l)) c.fold-in-Some-take_key-5.ensures

pub keyed-returns-in-Some-take_key-6 : goal.keyed-returns-in-Some-take_key-6
unfolding reader.keyed
keyed-returns-in-Some-take_key-6 t c = let b = c.args.source.bytes.now in let T = c.args.nodes.now in let l = taken-length (is_word k_max) (tokens_at b c.args.at) (tokens_at b c.in-Some-take_key-6.after) c.in-Some-take_key-6.ensures.0 c.in-Some-take_key-6.ensures.1 in lifted (StandsPart b) SaysPart PartWithin 2 2 b T c.fold-in-Some-take_key-6.new.nodes (tokens_at b c.in-Some-take_key-6.after) (tokens_at b c.args.at) _ _ c.fold-in-Some-take_key-6.result (sym (choose_no (is_word k_null) _ _ _ c.in_default.ensures ∙ choose_no (is_word k_not) _ _ _ c.in_default-take_key.ensures ∙ choose_no (is_word k_exists) _ _ _ c.in_default-take_key-2.ensures ∙ choose_no (is_word k_count) _ _ _ c.in_default-take_key-3.ensures ∙ choose_no (is_word k_sum) _ _ _ c.in_default-take_key-4.ensures ∙ choose_no (is_word k_min) _ _ _ c.in_default-take_key-5.ensures ∙ choose_yes (is_word k_max) _ _ _ _ c.in-Some-take_key-6.ensures.0 c.in-Some-take_key-6.ensures.1)) (omega (arith, l)) c.fold-in-Some-take_key-6.ensures

pub keyed-returns : goal.keyed-returns
unfolding reader.keyed
keyed-returns t c = choose_no (is_word k_null) _ _ _ c.in_default.ensures ∙ choose_no (is_word k_not) _ _ _ c.in_default-take_key.ensures ∙ choose_no (is_word k_exists) _ _ _ c.in_default-take_key-2.ensures ∙ choose_no (is_word k_count) _ _ _ c.in_default-take_key-3.ensures ∙ choose_no (is_word k_sum) _ _ _ c.in_default-take_key-4.ensures ∙ choose_no (is_word k_min) _ _ _ c.in_default-take_key-5.ensures ∙ choose_no (is_word k_max) _ _ _ c.in_default-take_key-6.ensures

pub negation-returns : goal.negation-returns
unfolding aggregates
negation-returns t c = let b = c.args.source.bytes.now in let a = c.in_ok-a.ensures in
    over (Stands b) Aggregates (λ x. x.node) (λ a f h. kept b a f h) tree.not' node.Not b (λ f a i s. s) c.args.nodes.now c.expr.new.nodes c.push-node.new.self (tokens_at b c.args.at) (tokens_at b c.args.at) _ c.in_ok-a.a (record { value = record { level = 2; it = record { node = c.push-node.result; aggregates = c.in_ok-a.a.value.aggregates } }; after = c.in_ok-a.a.after }) 2 0 _ a c.push-node.ensures a.says refl (ap (λ v. cond v (and_then (reader.expr c.args.left 2 (tokens_at b c.args.at)) (λ a vs. gets (reader.part 2 (tree.not' a)) vs)) refuses) (le-leb c.args.level 2 (omega arith)) ∙ then_is _ a.is refl) (omega arith)

pub operand-column-requires : goal.operand-column-requires
operand-column-requires t c = let b = c.args.source.bytes.now in
    omega (arith, c.requires, name-length (tokens_at b c.args.at) (tokens_at b c.in-Some.name.after) _ c.in-Some.ensures)

pub operand-returns-in-Some : goal.operand-returns-in-Some
operand-returns-in-Some t c = let b = c.args.source.bytes.now in let T = c.args.nodes.now in let l = name-length (tokens_at b c.args.at) (tokens_at b c.in-Some.name.after) _ c.in-Some.ensures in lifted (StandsPart b) SaysPart PartWithin 0 2 b T c.column.new.nodes (tokens_at b c.in-Some.name.after) (tokens_at b c.args.at) _ _ c.column.result (sym (operand-name (reader.expr c.args.left) (reader.exprs c.args.left) (reader.keys c.args.left) c.args.left (tokens_at b c.args.at) c.args.level _ _ c.in-Some.ensures)) (omega (arith, l)) c.column.ensures

pub operand-returns-in-Some-take_number : goal.operand-returns-in-Some-take_number
unfolding aggregates
operand-returns-in-Some-take_number t c = let b = c.args.source.bytes.now in let T = c.args.nodes.now in let x = c.in-Some-take_number.number in let l = number-length (tokens_at b c.args.at) (tokens_at b x.after) _ c.in-Some-take_number.ensures in let e = c.leaf.ensures.1.1.1 in leaf-read b T c.leaf.new.nodes (tokens_at b c.args.at) (node.Number x.value) (tree.lit (value.Num (pos x.value))) c.leaf.result 2 _ c.leaf.ensures.0 (λ f i h. h) c.leaf.ensures.1.1.0 c.leaf.ensures.1.0 (operand-number (reader.expr c.args.left) (reader.exprs c.args.left) (reader.keys c.args.left) c.args.left (tokens_at b c.args.at) c.args.level _ _ c.in-Some-take_number.ensures ∙ ap (λ a. gets (reader.part 7 (tree.lit (value.Num (pos x.value)))) (tokens_at b a)) (sym e)) (omega (arith, l, ap (λ a. length (tokens_at b a)) e))

pub operand-returns-in-Quoted : goal.operand-returns-in-Quoted
unfolding aggregates
operand-returns-in-Quoted t c = let b = c.args.source.bytes.now in let T = c.args.nodes.now in let s = c.in-Quoted.span in let e = c.leaf-in-Quoted.ensures.1.1.1 in let n = ap (tokens_at b) e ∙ c.next.ensures in let l = quoted-length b c.args.at s (tokens_at b c.leaf-in-Quoted.result.after) c.in-Quoted.is n in leaf-read b T c.leaf-in-Quoted.new.nodes (tokens_at b c.args.at) (node.Text s) (tree.lit (value.Text (undoubled false (part b s)))) c.leaf-in-Quoted.result 2 _ c.leaf-in-Quoted.ensures.0 (λ f i h. (s, h, refl)) c.leaf-in-Quoted.ensures.1.1.0 c.leaf-in-Quoted.ensures.1.0 (operand-quoted (reader.expr c.args.left) (reader.exprs c.args.left) (reader.keys c.args.left) c.args.left c.args.level b c.args.at s _ c.in-Quoted.is n) (omega (arith, l))

pub operand-returns-in-Some-take_sign : goal.operand-returns-in-Some-take_sign
operand-returns-in-Some-take_sign t c = let b = c.args.source.bytes.now in let T = c.args.nodes.now in let l = taken-length (is_sign 40) (tokens_at b c.args.at) (tokens_at b c.in-Some-take_sign.inside) c.in-Some-take_sign.ensures.0 c.in-Some-take_sign.ensures.1 in lifted (StandsPart b) SaysPart PartWithin 2 2 b T c.bracket.new.nodes (tokens_at b c.in-Some-take_sign.inside) (tokens_at b c.args.at) _ _ c.bracket.result (sym (operand-bracket (reader.expr c.args.left) (reader.exprs c.args.left) (reader.keys c.args.left) c.args.left (tokens_at b c.args.at) c.args.level _ c.in-Some-take_sign.ensures.0 c.in-Some-take_sign.ensures.1)) (omega (arith, l)) c.bracket.ensures

pub operand-returns-in_err-a : goal.operand-returns-in_err-a
operand-returns-in_err-a t c = let b = c.args.source.bytes.now in
    rw c.from_residual.ensures (operand-minus (reader.expr c.args.left) (reader.exprs c.args.left) (reader.keys c.args.left) c.args.left (tokens_at b c.args.at) c.args.level _ c.in-Some-take_sign-2.ensures.0 c.in-Some-take_sign-2.ensures.1 ∙ then-refused _ _ c.in_err-a.ensures)

pub operand-returns-in-Some-take_sign-2 : goal.operand-returns-in-Some-take_sign-2
unfolding aggregates
operand-returns-in-Some-take_sign-2 t c = let b = c.args.source.bytes.now in let a = c.in_ok-a.ensures in let l = taken-length (is_sign 45) (tokens_at b c.args.at) (tokens_at b c.in-Some-take_sign-2.after) c.in-Some-take_sign-2.ensures.0 c.in-Some-take_sign-2.ensures.1 in
    over (Stands b) Aggregates (λ x. x.node) (λ a f h. kept b a f h) tree.negated node.Negated b (λ f a i s. s) c.args.nodes.now c.expr.new.nodes c.push-node.new.self (tokens_at b c.in-Some-take_sign-2.after) (tokens_at b c.args.at) _ c.in_ok-a.a (record { value = record { level = 6; it = record { node = c.push-node.result; aggregates = c.in_ok-a.a.value.aggregates } }; after = c.in_ok-a.a.after }) 6 2 _ a c.push-node.ensures a.says refl (operand-minus (reader.expr c.args.left) (reader.exprs c.args.left) (reader.keys c.args.left) c.args.left (tokens_at b c.args.at) c.args.level _ c.in-Some-take_sign-2.ensures.0 c.in-Some-take_sign-2.ensures.1 ∙ then_is _ a.is refl) (omega (arith, l))

pub operand-returns : goal.operand-returns
operand-returns t c = let b = c.args.source.bytes.now in let T = c.args.nodes.now in lifted (StandsPart b) SaysPart PartWithin 2 2 b T c.keyed.new.nodes (tokens_at b c.args.at) (tokens_at b c.args.at) _ _ c.keyed.result (operand-keyed (reader.expr c.args.left) (reader.exprs c.args.left) (reader.keys c.args.left) c.args.left c.args.level b c.args.at.tok c.args.at.rest c.in_default.ensures c.in_default-take_number.ensures c.in_default-tok.not-Quoted c.in_default-take_sign.ensures c.in_default-take_sign-2.ensures) (omega arith) c.keyed.ensures

pub queries::condition-returns-in_default : goal.queries::condition-returns-in_default
queries::condition-returns-in_default t c = let b = c.args.source.bytes.now in let n = pushed c.args.nodes.now c.push-value.new.self _ _ c.push-value.ensures in
    record { it = reader.one; is = choose_no (is_word c.args.word.now) _ _ _ c.in_default.ensures; stands = n.at; says = tt; within = n.within; grown = n.grown; few = omega (arith, n.more) }

pub queries::condition-returns-in_err-e : goal.queries::condition-returns-in_err-e
queries::condition-returns-in_err-e t c = let b = c.args.source.bytes.now in
    rw c.from_residual.ensures (choose_yes (is_word c.args.word.now) _ _ _ _ c.in-Some.ensures.0 c.in-Some.ensures.1 ∙ c.in_err-e.ensures)

pub queries::condition-returns : goal.queries::condition-returns
queries::condition-returns t c = let b = c.args.source.bytes.now in let e = c.in_ok-e.ensures in let l = taken-length (is_word c.args.word.now) (tokens_at b c.args.at) (tokens_at b c.in-Some.after) c.in-Some.ensures.0 c.in-Some.ensures.1 in
    record { it = e.it; is = choose_yes (is_word c.args.word.now) _ _ _ _ c.in-Some.ensures.0 c.in-Some.ensures.1 ∙ e.is; stands = e.stands; says = tt; within = e.within; grown = e.grown; few = omega (arith, e.few, l) }

pub queries::exprs-returns-in_err-left : goal.queries::exprs-returns-in_err-left
queries::exprs-returns-in_err-left t c = let b = c.args.source.bytes.now in
    rw c.from_residual.ensures (exprs-none c.args.left (tokens_at b c.args.at) (omega (arith, c.in_err-left.ensures)))

pub queries::exprs-returns-in_err-e : goal.queries::exprs-returns-in_err-e
queries::exprs-returns-in_err-e t c = let b = c.args.source.bytes.now in
    rw c.from_residual-in_err-e.ensures (exprs-step c.args.left c.in_ok-left.left (tokens_at b c.args.at) (omega (arith, c.in_ok-left.ensures)) ∙ listed-refused (reader.expr c.in_ok-left.left 0) (reader.exprs c.in_ok-left.left) _ c.in_err-e.ensures)

pub queries::exprs-returns-in_default : goal.queries::exprs-returns-in_default
unfolding to_exprs aggregates_any
queries::exprs-returns-in_default t c = let b = c.args.source.bytes.now in let e = c.in_ok-e.ensures in let n = pushed c.expr.new.nodes c.push.new.self _ _ c.push.ensures in
    record {
      it = e.it ∷ [];
      is = exprs-step c.args.left c.in_ok-left.left (tokens_at b c.args.at) (omega (arith, c.in_ok-left.ensures)) ∙ listed-last (reader.expr c.in_ok-left.left 0) (reader.exprs c.in_ok-left.left) _ _ _ e.is c.in_default.ensures;
      stands = stand-item b (filled c.expr.new.nodes) (filled c.push.new.self) e.it [] _ _ None n e.stands e.within refl tt;
      says = (e.says ∙ sym (or-false _), refl);
      within = n.within;
      grown = grown-on (filled c.args.nodes.now) (filled c.expr.new.nodes) (filled c.push.new.self) e.grown n.grown;
      few = omega (arith, e.few, n.more);
    }

pub queries::exprs-returns-in_err-rest : goal.queries::exprs-returns-in_err-rest
queries::exprs-returns-in_err-rest t c = let b = c.args.source.bytes.now in let e = c.in_ok-e.ensures in
    rw c.from_residual-in_err-rest.ensures (exprs-step c.args.left c.in_ok-left.left (tokens_at b c.args.at) (omega (arith, c.in_ok-left.ensures)) ∙ listed-fails (reader.expr c.in_ok-left.left 0) (reader.exprs c.in_ok-left.left) _ _ _ _ e.is c.in-Some.ensures.0 c.in-Some.ensures.1 c.in_err-rest.ensures)

pub queries::exprs-returns : goal.queries::exprs-returns
unfolding to_exprs aggregates_any
queries::exprs-returns t c = let b = c.args.source.bytes.now in let e = c.in_ok-e.ensures in let r = c.in_ok-rest.ensures in let n = pushed c.exprs.new.nodes c.push-2.new.self _ _ c.push-2.ensures in let l = taken-length (is_sign 44) (tokens_at b c.in_ok-e.e.after) (tokens_at b c.in-Some.comma) c.in-Some.ensures.0 c.in-Some.ensures.1 in let F = filled c.expr.new.nodes in let G = filled c.exprs.new.nodes in let K = filled c.push-2.new.self in
    record {
      it = e.it ∷ r.it;
      is = exprs-step c.args.left c.in_ok-left.left (tokens_at b c.args.at) (omega (arith, c.in_ok-left.ensures)) ∙ listed-on (reader.expr c.in_ok-left.left 0) (reader.exprs c.in_ok-left.left) _ _ _ _ _ _ e.is c.in-Some.ensures.0 c.in-Some.ensures.1 r.is;
      stands = stand-item b G K e.it r.it _ _ (Some c.in_ok-rest.rest.value.first) n (kept b e.it F G r.grown _ e.stands) (omega (arith, e.within, grown-length F G r.grown)) r.stands r.within;
      says = ((λ i. e.says i || r.says.0 i), sym (single_more e.it r.it (exprs-some c.in_ok-left.left _ r.it _ r.is)));
      within = n.within;
      grown = grown-on (filled c.args.nodes.now) F K e.grown (grown-on F G K r.grown n.grown);
      few = omega (arith, e.few, r.few, n.more, l);
    }

pub queries::groups-returns-in_default : goal.queries::groups-returns-in_default
unfolding to_exprs
queries::groups-returns-in_default t c = let b = c.args.source.bytes.now in let n = pushed c.args.nodes.now c.push-having.new.self _ _ c.push-having.ensures in
    record { it = record { are = false; by = []; having = reader.one }; is = choose_no (is_word k_group) _ _ _ c.in_default.ensures; stands = (refl, n.at); says = refl; within = (tt, n.within); grown = n.grown; few = omega (arith, n.more) }

pub queries::groups-returns-in_err-by : goal.queries::groups-returns-in_err-by
queries::groups-returns-in_err-by t c = let b = c.args.source.bytes.now in
    rw c.from_residual.ensures (choose_yes (is_word k_group) _ _ _ _ c.in-Some.ensures.0 c.in-Some.ensures.1 ∙ choose_no (is_word k_by) _ _ _ c.in_err-by.ensures)

pub queries::groups-returns-in_err-list : goal.queries::groups-returns-in_err-list
queries::groups-returns-in_err-list t c = let b = c.args.source.bytes.now in
    rw c.from_residual-in_err-list.ensures (choose_yes (is_word k_group) _ _ _ _ c.in-Some.ensures.0 c.in-Some.ensures.1 ∙ choose_yes (is_word k_by) _ _ _ _ c.in_ok-by.ensures.0 c.in_ok-by.ensures.1 ∙ then-refused _ _ c.in_err-list.ensures)

pub queries::groups-returns-in_err-having : goal.queries::groups-returns-in_err-having
queries::groups-returns-in_err-having t c = let b = c.args.source.bytes.now in
    rw c.from_residual-in_err-having.ensures (choose_yes (is_word k_group) _ _ _ _ c.in-Some.ensures.0 c.in-Some.ensures.1 ∙ choose_yes (is_word k_by) _ _ _ _ c.in_ok-by.ensures.0 c.in_ok-by.ensures.1 ∙ then_is _ c.in_ok-list.ensures.is (then-refused _ _ c.in_err-having.ensures))

pub queries::groups-returns : goal.queries::groups-returns
queries::groups-returns t c = let b = c.args.source.bytes.now in let r = c.in_ok-list.ensures in let h = c.in_ok-having.ensures in let l1 = taken-length (is_word k_group) (tokens_at b c.args.at) (tokens_at b c.in-Some.group) c.in-Some.ensures.0 c.in-Some.ensures.1 in let l2 = taken-length (is_word k_by) (tokens_at b c.in-Some.group) (tokens_at b c.in_ok-by.by) c.in_ok-by.ensures.0 c.in_ok-by.ensures.1 in let G = filled c.exprs.new.nodes in let K = filled c.condition.new.nodes in
    record { it = record { are = true; by = r.it; having = h.it }; is = choose_yes (is_word k_group) _ _ _ _ c.in-Some.ensures.0 c.in-Some.ensures.1 ∙ choose_yes (is_word k_by) _ _ _ _ c.in_ok-by.ensures.0 c.in_ok-by.ensures.1 ∙ then_is _ r.is (then_is _ h.is refl); stands = (exprs-kept b (to_exprs r.it) G K h.grown _ r.stands, h.stands); says = refl; within = (omega (arith, r.within, grown-length G K h.grown), h.within); grown = grown-on (filled c.args.nodes.now) G K r.grown h.grown; few = omega (arith, r.few, h.few, l1, l2) }

pub queries::keys-returns-in_err-left : goal.queries::keys-returns-in_err-left
queries::keys-returns-in_err-left t c = let b = c.args.source.bytes.now in
    rw c.from_residual.ensures (keys_none c.args.left (tokens_at b c.args.at) (omega (arith, c.in_err-left.ensures)))

pub queries::keys-returns-in_err-e : goal.queries::keys-returns-in_err-e
queries::keys-returns-in_err-e t c = let b = c.args.source.bytes.now in
    rw c.from_residual-in_err-e.ensures (keys_step c.args.left c.in_ok-left.left (tokens_at b c.args.at) (omega (arith, c.in_ok-left.ensures)) ∙ listed-refused (reader.a_key (reader.expr c.in_ok-left.left 0)) (reader.keys c.in_ok-left.left) _ (then-refused _ _ c.in_err-e.ensures))

pub queries::keys-returns-in_default : goal.queries::keys-returns-in_default
unfolding to_keys aggregates_key
queries::keys-returns-in_default t c = let b = c.args.source.bytes.now in let e = c.in_ok-e.ensures in let w = direction-length (tokens_at b c.in_ok-e.e.after) (tokens_at b c.direction-way.result.after) _ c.direction-way.ensures in let n = pushed c.expr.new.nodes c.push.new.self _ _ c.push.ensures in
    record {
      it = record { by = e.it; down = c.direction-way.result.value } ∷ [];
      is = keys_step c.args.left c.in_ok-left.left (tokens_at b c.args.at) (omega (arith, c.in_ok-left.ensures)) ∙ listed-last (reader.a_key (reader.expr c.in_ok-left.left 0)) (reader.keys c.in_ok-left.left) _ _ _ (key-got (reader.expr c.in_ok-left.left 0) _ _ _ _ _ e.is c.direction-way.ensures) c.in_default.ensures;
      stands = stand-key b (filled c.expr.new.nodes) (filled c.push.new.self) e.it c.direction-way.result.value [] _ _ None n e.stands e.within refl tt;
      says = e.says ∙ sym (or-false _);
      within = n.within;
      grown = grown-on (filled c.args.nodes.now) (filled c.expr.new.nodes) (filled c.push.new.self) e.grown n.grown;
      few = omega (arith, e.few, n.more, w);
    }

pub queries::keys-keys-requires : goal.queries::keys-keys-requires
queries::keys-keys-requires t c = let b = c.args.source.bytes.now in let e = c.in_ok-e.ensures in let w = direction-length (tokens_at b c.in_ok-e.e.after) (tokens_at b c.direction-way.result.after) _ c.direction-way.ensures in let l = taken-length (is_sign 44) (tokens_at b c.direction-way.result.after) (tokens_at b c.in-Some.comma) c.in-Some.ensures.0 c.in-Some.ensures.1 in
    (omega (arith, c.decreases, c.in_ok-left.ensures), omega (arith, c.requires, e.few, w, l))

pub queries::keys-returns-in_err-rest : goal.queries::keys-returns-in_err-rest
queries::keys-returns-in_err-rest t c = let b = c.args.source.bytes.now in let e = c.in_ok-e.ensures in
    rw c.from_residual-in_err-rest.ensures (keys_step c.args.left c.in_ok-left.left (tokens_at b c.args.at) (omega (arith, c.in_ok-left.ensures)) ∙ listed-fails (reader.a_key (reader.expr c.in_ok-left.left 0)) (reader.keys c.in_ok-left.left) _ _ _ _ (key-got (reader.expr c.in_ok-left.left 0) _ _ _ _ _ e.is c.direction-way.ensures) c.in-Some.ensures.0 c.in-Some.ensures.1 c.in_err-rest.ensures)

pub queries::keys-push-requires : goal.queries::keys-push-requires
queries::keys-push-requires t c = let b = c.args.source.bytes.now in let e = c.in_ok-e.ensures in let w = direction-length (tokens_at b c.in_ok-e.e.after) (tokens_at b c.direction-way.result.after) _ c.direction-way.ensures in
    omega (arith, c.requires, e.few, w)

pub queries::keys-push-requires-2 : goal.queries::keys-push-requires-2
queries::keys-push-requires-2 t c = let b = c.args.source.bytes.now in let e = c.in_ok-e.ensures in let w = direction-length (tokens_at b c.in_ok-e.e.after) (tokens_at b c.direction-way.result.after) _ c.direction-way.ensures in let l = taken-length (is_sign 44) (tokens_at b c.direction-way.result.after) (tokens_at b c.in-Some.comma) c.in-Some.ensures.0 c.in-Some.ensures.1 in
    omega (arith, c.requires, e.few, w, l, c.in_ok-rest.ensures.few)

pub queries::keys-returns : goal.queries::keys-returns
unfolding to_keys aggregates_key
queries::keys-returns t c = let b = c.args.source.bytes.now in let e = c.in_ok-e.ensures in let w = direction-length (tokens_at b c.in_ok-e.e.after) (tokens_at b c.direction-way.result.after) _ c.direction-way.ensures in let r = c.in_ok-rest.ensures in let n = pushed c.keys.new.nodes c.push-2.new.self _ _ c.push-2.ensures in let l = taken-length (is_sign 44) (tokens_at b c.direction-way.result.after) (tokens_at b c.in-Some.comma) c.in-Some.ensures.0 c.in-Some.ensures.1 in let F = filled c.expr.new.nodes in let G = filled c.keys.new.nodes in let K = filled c.push-2.new.self in
    record {
      it = record { by = e.it; down = c.direction-way.result.value } ∷ r.it;
      is = keys_step c.args.left c.in_ok-left.left (tokens_at b c.args.at) (omega (arith, c.in_ok-left.ensures)) ∙ listed-on (reader.a_key (reader.expr c.in_ok-left.left 0)) (reader.keys c.in_ok-left.left) _ _ _ _ _ _ (key-got (reader.expr c.in_ok-left.left 0) _ _ _ _ _ e.is c.direction-way.ensures) c.in-Some.ensures.0 c.in-Some.ensures.1 r.is;
      stands = stand-key b G K e.it c.direction-way.result.value r.it _ _ c.in_ok-rest.rest.value.first n (kept b e.it F G r.grown _ e.stands) (omega (arith, e.within, grown-length F G r.grown)) r.stands r.within;
      says = (λ i. e.says i || r.says i);
      within = n.within;
      grown = grown-on (filled c.args.nodes.now) F K e.grown (grown-on F G K r.grown n.grown);
      few = omega (arith, e.few, r.few, n.more, l, w);
    }

pub queries::orders-returns-in_default : goal.queries::orders-returns-in_default
unfolding to_keys aggregates_key
queries::orders-returns-in_default t c = let b = c.args.source.bytes.now in
    record { it = []; is = choose_no (is_word k_order) _ _ _ c.in_default.ensures; stands = refl; says = refl; within = tt; grown = grown-none (filled c.args.nodes.now); few = omega arith }

pub queries::orders-returns-in_err-by : goal.queries::orders-returns-in_err-by
queries::orders-returns-in_err-by t c = let b = c.args.source.bytes.now in
    rw c.from_residual.ensures (choose_yes (is_word k_order) _ _ _ _ c.in-Some.ensures.0 c.in-Some.ensures.1 ∙ choose_no (is_word k_by) _ _ _ c.in_err-by.ensures)

pub queries::orders-returns : goal.queries::orders-returns
queries::orders-returns t c = let b = c.args.source.bytes.now in let l1 = taken-length (is_word k_order) (tokens_at b c.args.at) (tokens_at b c.in-Some.order) c.in-Some.ensures.0 c.in-Some.ensures.1 in let l2 = taken-length (is_word k_by) (tokens_at b c.in-Some.order) (tokens_at b c.in_ok-by.by) c.in_ok-by.ensures.0 c.in_ok-by.ensures.1 in
    lifted (StandsOrder b) SaysOrder OrderWithin 1 1 b c.args.nodes.now c.keys.new.nodes (tokens_at b c.in_ok-by.by) (tokens_at b c.args.at) _ _ c.keys.result (sym (choose_yes (is_word k_order) _ _ _ _ c.in-Some.ensures.0 c.in-Some.ensures.1 ∙ choose_yes (is_word k_by) _ _ _ _ c.in_ok-by.ensures.0 c.in_ok-by.ensures.1)) (omega (arith, l1, l2)) c.keys.ensures

pub queries::question-returns-in_err-select : goal.queries::question-returns-in_err-select
unfolding reader.question reader.filtered
queries::question-returns-in_err-select t c = let b = c.args.source.bytes.now in
    rw c.from_residual.ensures (choose_no (is_word k_select) _ _ _ c.in_err-select.ensures)

pub queries::question-exprs-requires : goal.queries::question-exprs-requires
queries::question-exprs-requires t c = let b = c.args.source.bytes.now in let l0 = taken-length (is_word k_select) (tokens_at b c.args.at) (tokens_at b c.in_ok-select.select) c.in_ok-select.ensures.0 c.in_ok-select.ensures.1 in let l1 = distinct-length (tokens_at b c.in_ok-select.select) (tokens_at b c.distinction-distinct.result.after) _ c.distinction-distinct.ensures in
    (omega (arith, c.decreases), omega (arith, c.requires, l0, l1))

pub queries::question-returns-in_err-out : goal.queries::question-returns-in_err-out
unfolding reader.question reader.filtered
queries::question-returns-in_err-out t c = let b = c.args.source.bytes.now in
    rw c.from_residual-in_err-out.ensures (choose_yes (is_word k_select) _ _ _ _ c.in_ok-select.ensures.0 c.in_ok-select.ensures.1 ∙ then_is _ c.distinction-distinct.ensures (then-refused _ _ c.in_err-out.ensures))

pub queries::question-returns-in_err-table : goal.queries::question-returns-in_err-table
unfolding reader.question reader.filtered
queries::question-returns-in_err-table t c = let b = c.args.source.bytes.now in
    rw c.from_residual-in_err-table.ensures (choose_yes (is_word k_select) _ _ _ _ c.in_ok-select.ensures.0 c.in_ok-select.ensures.1 ∙ then_is _ c.distinction-distinct.ensures (then_is _ c.in_ok-out.ensures.is (choose_no (is_word k_from) _ _ _ c.in_err-table.ensures)))

pub queries::question-list-requires : goal.queries::question-list-requires
queries::question-list-requires t c = let b = c.args.source.bytes.now in let l0 = taken-length (is_word k_select) (tokens_at b c.args.at) (tokens_at b c.in_ok-select.select) c.in_ok-select.ensures.0 c.in_ok-select.ensures.1 in let l1 = distinct-length (tokens_at b c.in_ok-select.select) (tokens_at b c.distinction-distinct.result.after) _ c.distinction-distinct.ensures in let l2 = taken-length (is_word k_from) (tokens_at b c.in_ok-out.out.after) (tokens_at b c.in_ok-table.table) c.in_ok-table.ensures.0 c.in_ok-table.ensures.1 in
    omega (arith, c.requires, l0, l1, c.in_ok-out.ensures.few, l2)

pub queries::question-returns-in_err-from : goal.queries::question-returns-in_err-from
unfolding reader.question reader.filtered
queries::question-returns-in_err-from t c = let b = c.args.source.bytes.now in
    rw c.from_residual-in_err-from.ensures (choose_yes (is_word k_select) _ _ _ _ c.in_ok-select.ensures.0 c.in_ok-select.ensures.1 ∙ then_is _ c.distinction-distinct.ensures (then_is _ c.in_ok-out.ensures.is (choose_yes (is_word k_from) _ _ _ _ c.in_ok-table.ensures.0 c.in_ok-table.ensures.1 ∙ (then-refused _ _ c.in_err-from.ensures))))

pub queries::question-condition-requires : goal.queries::question-condition-requires
queries::question-condition-requires t c = let b = c.args.source.bytes.now in let l0 = taken-length (is_word k_select) (tokens_at b c.args.at) (tokens_at b c.in_ok-select.select) c.in_ok-select.ensures.0 c.in_ok-select.ensures.1 in let l1 = distinct-length (tokens_at b c.in_ok-select.select) (tokens_at b c.distinction-distinct.result.after) _ c.distinction-distinct.ensures in let l2 = taken-length (is_word k_from) (tokens_at b c.in_ok-out.out.after) (tokens_at b c.in_ok-table.table) c.in_ok-table.ensures.0 c.in_ok-table.ensures.1 in
    (omega (arith, c.decreases), omega (arith, c.requires, l0, l1, c.in_ok-out.ensures.few, l2, c.in_ok-from.ensures.few))

pub queries::question-returns-in_err-wanted : goal.queries::question-returns-in_err-wanted
unfolding reader.question reader.filtered
queries::question-returns-in_err-wanted t c = let b = c.args.source.bytes.now in
    rw c.from_residual-in_err-wanted.ensures (choose_yes (is_word k_select) _ _ _ _ c.in_ok-select.ensures.0 c.in_ok-select.ensures.1 ∙ then_is _ c.distinction-distinct.ensures (then_is _ c.in_ok-out.ensures.is (choose_yes (is_word k_from) _ _ _ _ c.in_ok-table.ensures.0 c.in_ok-table.ensures.1 ∙ (then_is _ c.in_ok-from.ensures.is (then-refused _ _ c.in_err-wanted.ensures)))))

pub queries::question-groups-requires : goal.queries::question-groups-requires
queries::question-groups-requires t c = let b = c.args.source.bytes.now in let l0 = taken-length (is_word k_select) (tokens_at b c.args.at) (tokens_at b c.in_ok-select.select) c.in_ok-select.ensures.0 c.in_ok-select.ensures.1 in let l1 = distinct-length (tokens_at b c.in_ok-select.select) (tokens_at b c.distinction-distinct.result.after) _ c.distinction-distinct.ensures in let l2 = taken-length (is_word k_from) (tokens_at b c.in_ok-out.out.after) (tokens_at b c.in_ok-table.table) c.in_ok-table.ensures.0 c.in_ok-table.ensures.1 in
    (omega (arith, c.decreases), omega (arith, c.requires, l0, l1, c.in_ok-out.ensures.few, l2, c.in_ok-from.ensures.few, c.in_ok-wanted.ensures.few))

pub queries::question-returns-in_err-group : goal.queries::question-returns-in_err-group
unfolding reader.question reader.filtered
queries::question-returns-in_err-group t c = let b = c.args.source.bytes.now in
    rw c.from_residual-in_err-group.ensures (choose_yes (is_word k_select) _ _ _ _ c.in_ok-select.ensures.0 c.in_ok-select.ensures.1 ∙ then_is _ c.distinction-distinct.ensures (then_is _ c.in_ok-out.ensures.is (choose_yes (is_word k_from) _ _ _ _ c.in_ok-table.ensures.0 c.in_ok-table.ensures.1 ∙ (then_is _ c.in_ok-from.ensures.is (then_is _ c.in_ok-wanted.ensures.is (then-refused _ _ c.in_err-group.ensures))))))

pub queries::question-orders-requires : goal.queries::question-orders-requires
queries::question-orders-requires t c = let b = c.args.source.bytes.now in let l0 = taken-length (is_word k_select) (tokens_at b c.args.at) (tokens_at b c.in_ok-select.select) c.in_ok-select.ensures.0 c.in_ok-select.ensures.1 in let l1 = distinct-length (tokens_at b c.in_ok-select.select) (tokens_at b c.distinction-distinct.result.after) _ c.distinction-distinct.ensures in let l2 = taken-length (is_word k_from) (tokens_at b c.in_ok-out.out.after) (tokens_at b c.in_ok-table.table) c.in_ok-table.ensures.0 c.in_ok-table.ensures.1 in
    (omega (arith, c.decreases), omega (arith, c.requires, l0, l1, c.in_ok-out.ensures.few, l2, c.in_ok-from.ensures.few, c.in_ok-wanted.ensures.few, c.in_ok-group.ensures.few))

pub queries::question-returns-in_err-keys : goal.queries::question-returns-in_err-keys
unfolding reader.question reader.filtered
queries::question-returns-in_err-keys t c = let b = c.args.source.bytes.now in
    rw c.from_residual-in_err-keys.ensures (choose_yes (is_word k_select) _ _ _ _ c.in_ok-select.ensures.0 c.in_ok-select.ensures.1 ∙ then_is _ c.distinction-distinct.ensures (then_is _ c.in_ok-out.ensures.is (choose_yes (is_word k_from) _ _ _ _ c.in_ok-table.ensures.0 c.in_ok-table.ensures.1 ∙ (then_is _ c.in_ok-from.ensures.is (then_is _ c.in_ok-wanted.ensures.is (then_is _ c.in_ok-group.ensures.is (then-refused _ _ c.in_err-keys.ensures)))))))

pub queries::question-limits-requires : goal.queries::question-limits-requires
queries::question-limits-requires t c = let b = c.args.source.bytes.now in let l0 = taken-length (is_word k_select) (tokens_at b c.args.at) (tokens_at b c.in_ok-select.select) c.in_ok-select.ensures.0 c.in_ok-select.ensures.1 in let l1 = distinct-length (tokens_at b c.in_ok-select.select) (tokens_at b c.distinction-distinct.result.after) _ c.distinction-distinct.ensures in let l2 = taken-length (is_word k_from) (tokens_at b c.in_ok-out.out.after) (tokens_at b c.in_ok-table.table) c.in_ok-table.ensures.0 c.in_ok-table.ensures.1 in
    omega (arith, c.requires, l0, l1, c.in_ok-out.ensures.few, l2, c.in_ok-from.ensures.few, c.in_ok-wanted.ensures.few, c.in_ok-group.ensures.few, c.in_ok-keys.ensures.few)

pub queries::question-returns-in_err-limit : goal.queries::question-returns-in_err-limit
unfolding reader.question reader.filtered
queries::question-returns-in_err-limit t c = let b = c.args.source.bytes.now in
    rw c.from_residual-in_err-limit.ensures (choose_yes (is_word k_select) _ _ _ _ c.in_ok-select.ensures.0 c.in_ok-select.ensures.1 ∙ then_is _ c.distinction-distinct.ensures (then_is _ c.in_ok-out.ensures.is (choose_yes (is_word k_from) _ _ _ _ c.in_ok-table.ensures.0 c.in_ok-table.ensures.1 ∙ (then_is _ c.in_ok-from.ensures.is (then_is _ c.in_ok-wanted.ensures.is (then_is _ c.in_ok-group.ensures.is (then_is _ c.in_ok-keys.ensures.is (then-refused _ _ c.in_err-limit.ensures))))))))

pub queries::question-push-node-requires : goal.queries::question-push-node-requires
queries::question-push-node-requires t c = let b = c.args.source.bytes.now in let l0 = taken-length (is_word k_select) (tokens_at b c.args.at) (tokens_at b c.in_ok-select.select) c.in_ok-select.ensures.0 c.in_ok-select.ensures.1 in let l1 = distinct-length (tokens_at b c.in_ok-select.select) (tokens_at b c.distinction-distinct.result.after) _ c.distinction-distinct.ensures in let l2 = taken-length (is_word k_from) (tokens_at b c.in_ok-out.out.after) (tokens_at b c.in_ok-table.table) c.in_ok-table.ensures.0 c.in_ok-table.ensures.1 in
    omega (arith, c.requires, l0, l1, c.in_ok-out.ensures.few, l2, c.in_ok-from.ensures.few, c.in_ok-wanted.ensures.few, c.in_ok-group.ensures.few, c.in_ok-keys.ensures.few, c.in_ok-limit.ensures.few)

pub queries::question-returns : goal.queries::question-returns
unfolding reader.question reader.filtered
queries::question-returns t c = let b = c.args.source.bytes.now in let l0 = taken-length (is_word k_select) (tokens_at b c.args.at) (tokens_at b c.in_ok-select.select) c.in_ok-select.ensures.0 c.in_ok-select.ensures.1 in let l1 = distinct-length (tokens_at b c.in_ok-select.select) (tokens_at b c.distinction-distinct.result.after) _ c.distinction-distinct.ensures in let l2 = taken-length (is_word k_from) (tokens_at b c.in_ok-out.out.after) (tokens_at b c.in_ok-table.table) c.in_ok-table.ensures.0 c.in_ok-table.ensures.1 in let o = c.in_ok-out.ensures in let f = c.in_ok-from.ensures in let w = c.in_ok-wanted.ensures in let g = c.in_ok-group.ensures in let k = c.in_ok-keys.ensures in let m = c.in_ok-limit.ensures in let n = pushed c.limits.new.nodes c.push-node.new.self _ _ c.push-node.ensures in let H0 = filled c.args.nodes.now in let H1 = filled c.exprs.new.nodes in let H2 = filled c.list.new.nodes in let H3 = filled c.condition.new.nodes in let H4 = filled c.groups.new.nodes in let H5 = filled c.orders.new.nodes in let H6 = filled c.limits.new.nodes in let V = filled c.push-node.new.self in let u6 = n.grown in let u5 = grown-on H5 H6 V m.grown u6 in let u4 = grown-on H4 H5 V k.grown u5 in let u3 = grown-on H3 H4 V g.grown u4 in let u2 = grown-on H2 H3 V w.grown u3 in let u1 = grown-on H1 H2 V f.grown u2 in let k6 = grown-length H5 H6 m.grown in let k5 = grown-length H4 H5 k.grown in let k4 = grown-length H3 H4 g.grown in let k3 = grown-length H2 H3 w.grown in let k2 = grown-length H1 H2 f.grown in
    record {
      it = reader.asked c.distinction-distinct.result.value o.it f.it w.it g.it k.it m.it;
      is = choose_yes (is_word k_select) _ _ _ _ c.in_ok-select.ensures.0 c.in_ok-select.ensures.1 ∙ then_is _ c.distinction-distinct.ensures (then_is _ c.in_ok-out.ensures.is (choose_yes (is_word k_from) _ _ _ _ c.in_ok-table.ensures.0 c.in_ok-table.ensures.1 ∙ (then_is _ c.in_ok-from.ensures.is (then_is _ c.in_ok-wanted.ensures.is (then_is _ c.in_ok-group.ensures.is (then_is _ c.in_ok-keys.ensures.is (then_is _ c.in_ok-limit.ensures.is (refl))))))));
      stands = (
        _,
        n.at,
        refl,
        (λ i. (c.is_some.ensures ∙ g.says) i || o.says.0 i || k.says i),
        (omega (arith, n.last, k2, k3, k4, k5, k6, o.within), omega (arith, n.last, k3, k4, k5, k6, f.within), omega (arith, n.last, k4, k5, k6, w.within), under-on _ (length H4) _ (omega (arith, n.last, k5, k6)) g.within.0, omega (arith, n.last, k5, k6, g.within.1), under-on _ (length H5) _ (omega (arith, n.last, k6)) k.within, under-on _ (length H6) _ (omega (arith, n.last)) m.within),
        exprs-kept b (to_exprs o.it) H1 V u1 _ o.stands,
        f.stands V u2,
        kept b w.it H3 V u3 _ w.stands,
        exprs-kept b (to_exprs g.it.by) H4 V u4 _ g.stands.0,
        kept b g.it.having H4 V u4 _ g.stands.1,
        keys_kept b (to_keys k.it) H5 V u5 _ k.stands,
        limit-kept m.it H6 V u6 _ m.stands,
      );
      says = o.says.1;
      within = n.within;
      grown = grown-on H0 H1 V o.grown u1;
      few = omega (arith, l0, l1, c.in_ok-out.ensures.few, l2, c.in_ok-from.ensures.few, c.in_ok-wanted.ensures.few, c.in_ok-group.ensures.few, c.in_ok-keys.ensures.few, c.in_ok-limit.ensures.few, n.more);
    }
