use Rattle.std.proofs.Common.{rules, ◌≡◌, ◌≤◌, ◌+◌, length, None, Some, Err, sym, ap, subst, ◌∙◌, arith}
use Rattle.meaning.specs.Text.{tokens, Between}
use Rattle.grammar.specs.Reader as reader
use Rattle.grammar.specs.Reader.{gets}
use Rattle.grammar.proofs.Tools.{never, gets-inv}
use Rattle.grammar.proofs.Statements.{complete}
use Rattle.grammar.proofs.Whole.{sound-all, few-tokens}
use Rattle.meaning.specs.Tree.{Statement}
use Rattle.meaning.specs.Grammar.{Reads}
use Rattle.text.specs.Stands.{filled, StandsFor}
use Rattle.text.specs.Cut.{tokens_at}
use Rattle.text.specs.Found.{Says, ReadText}
use Rattle.text.specs.declared.parts.Refusal.TheVariants.{Unread}
use Rattle.text.proofs.Columns.{ended, unended}
use Rattle.text.proofs.read.Goals as goal

pub statement-requires : goal.statement-requires
statement-requires c = let b = c.in_ok-source.source.bytes.now in omega (arith, c.in_ok-source.source.short, ap length c.clear.ensures, ap length c.next.ensures, few-tokens b)

pub returns-in_err-said : goal.returns-in_err-said
returns-in_err-said c =
    let b = c.in_ok-source.source.bytes.now in
    let f = length c.args.text.now + 1 in
    let r : c.from_residual-in_err-said.result ≡ Err Unread = search rules in
    let none : c.statement.result ≡ None = search rules in
    let says = subst (Says b c.statement.new.nodes (reader.statement f (tokens_at b c.next.result))) none c.statement.ensures in
    let none' : (st : Statement) → Reads b st → ⊥ = λ st x. never (sym says ∙ ap (reader.statement f) c.next.ensures ∙ complete x f (omega (arith, few-tokens b, ap length c.in_ok-source.ensures.ok))) in
    subst (ReadText c.args.text.now c.statement.new.nodes) (sym r) (subst (λ b. (length b ≤ 4096) × ((st : Statement) → Reads b st → ⊥)) c.in_ok-source.ensures.ok (c.in_ok-source.source.short, none'))

pub returns-in-End : goal.returns-in-End
returns-in-End c =
    let b = c.in_ok-source.source.bytes.now in
    let f = length c.args.text.now + 1 in
    let some : c.statement.result ≡ Some c.in_ok-said.said = search rules in
    let s = subst (Says b c.statement.new.nodes (reader.statement f (tokens_at b c.next.result))) some c.statement.ensures in
    let reads : Reads b s.0 = sound-all f (tokens Between b) s.0 (ap (reader.statement f) (sym c.next.ensures) ∙ s.1 ∙ ap (gets s.0) (ended b c.in_ok-said.said.after c.in-End.is)) in
    subst (λ b. (length b ≤ 4096) × ((st : Statement) × Reads b st × StandsFor b (filled c.statement.new.nodes) st c.in_ok-said.said.value)) c.in_ok-source.ensures.ok (c.in_ok-source.source.short, (s.0, reads, s.2))

pub returns-in_default : goal.returns-in_default
returns-in_default c =
    let b = c.in_ok-source.source.bytes.now in
    let f = length c.args.text.now + 1 in
    let some : c.statement.result ≡ Some c.in_ok-said.said = search rules in
    let s = subst (Says b c.statement.new.nodes (reader.statement f (tokens_at b c.next.result))) some c.statement.ensures in
    let none : (st : Statement) → Reads b st → ⊥ = λ st x. unended b c.in_ok-said.said.after.tok c.in_ok-said.said.after.rest c.in_default.not-End (gets-inv (sym s.1 ∙ ap (reader.statement f) c.next.ensures ∙ complete x f (omega (arith, few-tokens b, ap length c.in_ok-source.ensures.ok)))).1 in
    subst (λ b. (length b ≤ 4096) × ((st : Statement) → Reads b st → ⊥)) c.in_ok-source.ensures.ok (c.in_ok-source.source.short, none)
