use Rattle.std.proofs.Common.{◌≡◌, Ok, true, false, rules, of_calls, inl, inr}
use Rattle.std.proofs.lemmas.Result.{err_from_is_err_and}
use Rattle.console.proofs.LineLemmas.{IsFailed-of_map_err, line_read, so_far_more, so_far_stops, so_far_breaks, so_far_lines}
use Rattle.console.proofs.lines.for_each_line.Goals as goal

pub returns-in_err-map_err-clause-err : goal.returns-in_err-map_err-clause-err
returns-in_err-map_err-clause-err g c =
    let p = err_from_is_err_and c.from_residual.result c.from_residual.ensures.1 in
    rw (p.1, p.2) (inr (so_far_breaks g.F.FnMut _ _ _ _ _ c.loop.invariant.1 c.in_err-map_err.field-0.0 (IsFailed-of_map_err c.read_line.result c.in_err-map_err.field-0.0 c.in_err-map_err.ensures.cases)))

pub returns-then-not-branch-clause-lines : goal.returns-then-not-branch-clause-lines
returns-then-not-branch-clause-lines g c =
    let said = c.read_line.ensures in
    let is : c.read_line.result ≡ Ok false = search rules in
    let line = line_read _ _ _ _ false is said.short said.none said.any said.text said.rest in
    so_far_lines g.F.FnMut _ _ _ _ _ c.loop.invariant.1 _ _ line

pub returns-in_err-answer-clause-err : goal.returns-in_err-answer-clause-err
returns-in_err-answer-clause-err g c =
    let said = c.read_line.ensures in
    let is : c.read_line.result ≡ Ok true = search rules in
    let line = line_read _ _ _ _ true is said.short said.none said.any said.text said.rest in
    let p = err_from_is_err_and c.from_residual-in_err-answer.result c.from_residual-in_err-answer.ensures.1 in
    rw (p.1, p.2) (inl (so_far_stops g.F.FnMut _ _ _ _ _ c.loop.invariant.1 _ _ _ _ line (record { shown = c.as_slice.result; shows = c.as_slice.ensures.value; called = c.in_err-answer.ensures })))

pub loop-preserved : goal.loop-preserved
loop-preserved g c =
    let said = c.read_line.ensures in
    let is : c.read_line.result ≡ Ok true = search rules in
    let line = line_read _ _ _ _ true is said.short said.none said.any said.text said.rest in (
      search of_calls,
      so_far_more g.F.FnMut _ _ _ _ _ c.loop.invariant.1 _ _ _ line (record { shown = c.as_slice.result; shows = c.as_slice.ensures.value; called = c.in_ok-answer.ensures }),
    )
