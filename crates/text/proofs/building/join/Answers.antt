use Rattle.std.proofs.Common.{sym, subst, arith}
use Rattle.meaning.specs.Tree as tree
use Rattle.text.specs.Stands.{filled}
use Rattle.text.specs.Found.{Joined}
use Rattle.text.specs.declared.nodes.Op.TheVariants as op
use Rattle.text.proofs.Stood.{pushed, paired, kept, grown-on}
use Rattle.text.proofs.building.join.Goals as goal

pub push-requires-in-Differs : goal.push-requires-in-Differs
push-requires-in-Differs c = let n = pushed c.args.nodes.now c.push-equal.new.self _ _ c.push-equal.ensures in omega (arith, n.more, c.requires)

pub returns-in-Differs : goal.returns-in-Differs
returns-in-Differs c =
    let F = filled c.args.nodes.now in
    let G = filled c.push-equal.new.self in
    let K = filled c.push-in-Differs.new.self in
    let n = pushed c.args.nodes.now c.push-equal.new.self _ _ c.push-equal.ensures in
    let m = pushed c.push-equal.new.self c.push-in-Differs.new.self _ _ c.push-in-Differs.ensures in
    subst (λ o. Joined c.args.nodes.now c.push-in-Differs.new.self o c.args.a c.args.b c.push-in-Differs.result) (sym c.in-Differs.is)
    (record { stands = λ b x y s t l k. (c.push-equal.result, m.at, omega (arith, m.last, n.within), kept b (tree.equal x y) G K m.grown c.push-equal.result (paired b F G op.Equal x y _ _ _ n s t l k)); within = m.within; grown = grown-on F G K n.grown m.grown; few = omega (arith, n.more, m.more) })

pub returns-in-Or : goal.returns-in-Or
returns-in-Or c =
    let n = pushed c.args.nodes.now c.push.new.self _ _ c.push.ensures in
    subst (λ o. Joined c.args.nodes.now c.push.new.self o c.args.a c.args.b c.push.result) (sym c.in-Or.is)
    (record { stands = λ b x y s t l k. paired b (filled c.args.nodes.now) (filled c.push.new.self) op.Or x y _ _ _ n s t l k; within = n.within; grown = n.grown; few = omega (arith, n.more) })

pub returns-in-And : goal.returns-in-And
returns-in-And c =
    let n = pushed c.args.nodes.now c.push-in-And.new.self _ _ c.push-in-And.ensures in
    subst (λ o. Joined c.args.nodes.now c.push-in-And.new.self o c.args.a c.args.b c.push-in-And.result) (sym c.in-And.is)
    (record { stands = λ b x y s t l k. paired b (filled c.args.nodes.now) (filled c.push-in-And.new.self) op.And x y _ _ _ n s t l k; within = n.within; grown = n.grown; few = omega (arith, n.more) })

pub returns-in-Equal : goal.returns-in-Equal
returns-in-Equal c =
    let n = pushed c.args.nodes.now c.push-in-Equal.new.self _ _ c.push-in-Equal.ensures in
    subst (λ o. Joined c.args.nodes.now c.push-in-Equal.new.self o c.args.a c.args.b c.push-in-Equal.result) (sym c.in-Equal.is)
    (record { stands = λ b x y s t l k. paired b (filled c.args.nodes.now) (filled c.push-in-Equal.new.self) op.Equal x y _ _ _ n s t l k; within = n.within; grown = n.grown; few = omega (arith, n.more) })

pub returns-in-Below : goal.returns-in-Below
returns-in-Below c =
    let n = pushed c.args.nodes.now c.push-in-Below.new.self _ _ c.push-in-Below.ensures in
    subst (λ o. Joined c.args.nodes.now c.push-in-Below.new.self o c.args.a c.args.b c.push-in-Below.result) (sym c.in-Below.is)
    (record { stands = λ b x y s t l k. paired b (filled c.args.nodes.now) (filled c.push-in-Below.new.self) op.Below x y _ _ _ n s t l k; within = n.within; grown = n.grown; few = omega (arith, n.more) })

pub returns-in-Above : goal.returns-in-Above
returns-in-Above c =
    let n = pushed c.args.nodes.now c.push-in-Above.new.self _ _ c.push-in-Above.ensures in
    subst (λ o. Joined c.args.nodes.now c.push-in-Above.new.self o c.args.a c.args.b c.push-in-Above.result) (sym c.in-Above.is)
    (record { stands = λ b x y s t l k. paired b (filled c.args.nodes.now) (filled c.push-in-Above.new.self) op.Below y x _ _ _ n t s k l; within = n.within; grown = n.grown; few = omega (arith, n.more) })

pub returns-in-AtMost : goal.returns-in-AtMost
returns-in-AtMost c =
    let n = pushed c.args.nodes.now c.push-in-AtMost.new.self _ _ c.push-in-AtMost.ensures in
    subst (λ o. Joined c.args.nodes.now c.push-in-AtMost.new.self o c.args.a c.args.b c.push-in-AtMost.result) (sym c.in-AtMost.is)
    (record { stands = λ b x y s t l k. paired b (filled c.args.nodes.now) (filled c.push-in-AtMost.new.self) op.AtMost x y _ _ _ n s t l k; within = n.within; grown = n.grown; few = omega (arith, n.more) })

pub returns-in-AtLeast : goal.returns-in-AtLeast
returns-in-AtLeast c =
    let n = pushed c.args.nodes.now c.push-in-AtLeast.new.self _ _ c.push-in-AtLeast.ensures in
    subst (λ o. Joined c.args.nodes.now c.push-in-AtLeast.new.self o c.args.a c.args.b c.push-in-AtLeast.result) (sym c.in-AtLeast.is)
    (record { stands = λ b x y s t l k. paired b (filled c.args.nodes.now) (filled c.push-in-AtLeast.new.self) op.AtMost y x _ _ _ n t s k l; within = n.within; grown = n.grown; few = omega (arith, n.more) })

pub returns-in-Plus : goal.returns-in-Plus
returns-in-Plus c =
    let n = pushed c.args.nodes.now c.push-in-Plus.new.self _ _ c.push-in-Plus.ensures in
    subst (λ o. Joined c.args.nodes.now c.push-in-Plus.new.self o c.args.a c.args.b c.push-in-Plus.result) (sym c.in-Plus.is)
    (record { stands = λ b x y s t l k. paired b (filled c.args.nodes.now) (filled c.push-in-Plus.new.self) op.Plus x y _ _ _ n s t l k; within = n.within; grown = n.grown; few = omega (arith, n.more) })

pub returns-in-Minus : goal.returns-in-Minus
returns-in-Minus c =
    let n = pushed c.args.nodes.now c.push-in-Minus.new.self _ _ c.push-in-Minus.ensures in
    subst (λ o. Joined c.args.nodes.now c.push-in-Minus.new.self o c.args.a c.args.b c.push-in-Minus.result) (sym c.in-Minus.is)
    (record { stands = λ b x y s t l k. paired b (filled c.args.nodes.now) (filled c.push-in-Minus.new.self) op.Minus x y _ _ _ n s t l k; within = n.within; grown = n.grown; few = omega (arith, n.more) })

pub returns-in-Concat : goal.returns-in-Concat
returns-in-Concat c =
    let n = pushed c.args.nodes.now c.push-in-Concat.new.self _ _ c.push-in-Concat.ensures in
    subst (λ o. Joined c.args.nodes.now c.push-in-Concat.new.self o c.args.a c.args.b c.push-in-Concat.result) (sym c.in-Concat.is)
    (record { stands = λ b x y s t l k. paired b (filled c.args.nodes.now) (filled c.push-in-Concat.new.self) op.Concat x y _ _ _ n s t l k; within = n.within; grown = n.grown; few = omega (arith, n.more) })

pub returns-in-Times : goal.returns-in-Times
returns-in-Times c =
    let n = pushed c.args.nodes.now c.push-in-Times.new.self _ _ c.push-in-Times.ensures in
    subst (λ o. Joined c.args.nodes.now c.push-in-Times.new.self o c.args.a c.args.b c.push-in-Times.result) (sym c.in-Times.is)
    (record { stands = λ b x y s t l k. paired b (filled c.args.nodes.now) (filled c.push-in-Times.new.self) op.Times x y _ _ _ n s t l k; within = n.within; grown = n.grown; few = omega (arith, n.more) })
