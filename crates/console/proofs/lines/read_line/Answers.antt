use Rattle.std.proofs.Common.{sym, subst, ◌∙◌, rules, true≢false}
use Rattle.std.specs.Io.BufRead.{FillKeeps}
use Rattle.console.specs.Lines.{IsHeld}
use Rattle.console.proofs.LineLemmas.{parts_none, parts-short, parts-end, parts-ended, parts-more, moved_through}
use Rattle.console.proofs.lines.read_line.Goals as goal

pub loop-init : goal.loop-init
loop-init g c = parts_none (g.R.Read.remaining c.args.input.now) c.clear.new.self.items c.clear.ensures.items

pub returns-in_err-part-clause-short : goal.returns-in_err-part-clause-short
returns-in_err-part-clause-short g c = parts-short _ _ _ _ _ c.loop.invariant

pub returns-then-is_empty : goal.returns-then-is_empty
returns-then-is_empty g c =
    let line = parts-end _ _ _ _ _ c.loop.invariant (g.R.Read.remaining c.fill_buf.follows.lender-at-none) c.in_ok-part.part.now (search rules) c.in_ok-part.ensures.end c.fill_buf.follows.holds-at-none.0 in
    record { short = line.short; none = line.none; any = line.any_is; text = line.text_is; rest = line.rest }

pub returns-in_err-taken-clause-short : goal.returns-in_err-taken-clause-short
returns-in_err-taken-clause-short g c = subst IsHeld (sym c.in_err-taken.ensures.err) (parts-short _ _ _ _ _ c.loop.invariant)

pub returns-then-ended : goal.returns-then-ended
returns-then-ended g c =
    let part = c.in_ok-part.part.now in
    let rested = c.fill_buf.follows.lender-at-none in
    let filled = subst (FillKeeps _ (g.R.Read.remaining rested) (g.R.BufRead.consumable_len rested)) c.in_ok-part.was c.fill_buf.follows.holds-at-none in
    let moved = moved_through _ _ _ _ part c.in_ok-taken.taken c.in_ok-taken.ensures.taken c.in_ok-part.ensures.front c.in_ok-part.ensures.end filled.0 filled.1 c.consume.ensures.bytes in
    let line = parts-ended _ _ _ _ _ c.loop.invariant (g.R.Read.remaining c.consume.new.self) part c.take_part.new.line.items c.loop.line.len moved (c.in_ok-taken.ensures.ended.0 c.if-ended.true) c.loop.line.ok.0 c.in_ok-taken.ensures.text in
    record { short = line.short; none = line.none; any = line.any_is; text = line.text_is; rest = line.rest }

pub loop-preserved : goal.loop-preserved
loop-preserved g c =
    let part = c.in_ok-part.part.now in
    let rested = c.fill_buf.follows.lender-at-none in
    let filled = subst (FillKeeps _ (g.R.Read.remaining rested) (g.R.BufRead.consumable_len rested)) c.in_ok-part.was c.fill_buf.follows.holds-at-none in
    let moved = moved_through _ _ _ _ part c.in_ok-taken.taken c.in_ok-taken.ensures.taken c.in_ok-part.ensures.front c.in_ok-part.ensures.end filled.0 filled.1 c.consume.ensures.bytes in
    parts-more _ _ _ _ _ c.loop.invariant (g.R.Read.remaining c.consume.new.self) part c.take_part.new.line.items c.loop.line.len moved
    (λ feed. true≢false (sym (c.in_ok-taken.ensures.ended.1 feed) ∙ c.if-ended.false)) (search rules) c.loop.line.ok.0 c.in_ok-taken.ensures.text

pub returns-clause-short : goal.returns-clause-short
returns-clause-short g c = parts-short _ _ _ _ _ c.loop.invariant
