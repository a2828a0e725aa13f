use Rattle.std.proofs.Common.{◌≡◌, ◌-◌, eqb, length, take, min, position, sym, ap, ◌∙◌, rules, tests, take_all, le_refl}
use Rattle.std.proofs.lemmas.Iterator.{YieldsList-from_slice}
use Rattle.std.proofs.lemmas.Iterator.Search.{position_from_yields_List}
use Rattle.console.proofs.LineLemmas.{room_text, feed_at, Lacks-of_position, first_line_whole, take_through_whole}
use Rattle.console.proofs.lines.take_part.Goals as goal

pub returns-in-Some-clause-text : goal.returns-in-Some-clause-text
returns-in-Some-clause-text c =
    let part = c.args.part.now in
    let at : c.position-end.result ≡ position (λ b. eqb b 10) part =
    position_from_yields_List (λ b. eqb b 10) _ _ c.position-end.result c.position-end.ensures.ran (YieldsList-from_slice part cc) (λ x b q k. search (rules, tests)) in
    let stop : c.unwrap_or.result ≡ c.in-Some.at = search rules in
    let room : c.min.result ≡ min (4097 - c.args.line.now.len) (length (take c.unwrap_or.result part)) = search rules in
    room_text part c.args.line.now.items _ c.args.line.now.len c.unwrap_or.result c.min.result c.in_ok-extend_from_slice.ensures.items room
    ((feed_at part c.in-Some.at (sym at ∙ c.in-Some.is)).0 ∙ ap (λ k. take k part) (sym stop))

pub returns-in-Some-clause-taken : goal.returns-in-Some-clause-taken
returns-in-Some-clause-taken c =
    let part = c.args.part.now in
    let at : c.position-end.result ≡ position (λ b. eqb b 10) part =
    position_from_yields_List (λ b. eqb b 10) _ _ c.position-end.result c.position-end.ensures.ran (YieldsList-from_slice part cc) (λ x b q k. search (rules, tests)) in
    sym (feed_at part c.in-Some.at (sym at ∙ c.in-Some.is)).1

pub returns-in-None-clause-text : goal.returns-in-None-clause-text
returns-in-None-clause-text c =
    let part = c.args.part.now in
    let at : c.position-end.result ≡ position (λ b. eqb b 10) part =
    position_from_yields_List (λ b. eqb b 10) _ _ c.position-end.result c.position-end.ensures.ran (YieldsList-from_slice part cc) (λ x b q k. search (rules, tests)) in
    let stop : c.unwrap_or.result ≡ length part = search rules in
    let room : c.min.result ≡ min (4097 - c.args.line.now.len) (length (take c.unwrap_or.result part)) = search rules in
    room_text part c.args.line.now.items _ c.args.line.now.len c.unwrap_or.result c.min.result c.in_ok-extend_from_slice.ensures.items room
    (first_line_whole part (Lacks-of_position part (sym at ∙ c.in-None.is)) ∙ sym (ap (λ k. take k part) stop ∙ take_all (length part) part (le_refl _)))

pub returns-in-None-clause-taken : goal.returns-in-None-clause-taken
returns-in-None-clause-taken c =
    let part = c.args.part.now in
    let at : c.position-end.result ≡ position (λ b. eqb b 10) part =
    position_from_yields_List (λ b. eqb b 10) _ _ c.position-end.result c.position-end.ensures.ran (YieldsList-from_slice part cc) (λ x b q k. search (rules, tests)) in
    ap length (sym (take_through_whole part (Lacks-of_position part (sym at ∙ c.in-None.is))))
