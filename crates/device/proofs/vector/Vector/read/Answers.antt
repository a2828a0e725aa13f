use Rattle.std.proofs.Common.{[], slice_index_or, vec_items, sym, ap, ◌∙◌, arith}
use Rattle.std.proofs.lemmas.List.{get_or_default}
use Rattle.std.specs.Option.{option_map}
use Rattle.device.specs.Vector.{newest_of}
use Rattle.device.proofs.Since.{found_some, found_none}
use Rattle.device.proofs.vector.Vector.read.Goals as goal

pub returns-in-Some : goal.returns-in-Some
returns-in-Some c = λ h.
    found_some c.args.sector _ (vec_items c.args.self.now.since) c.in-Some.w.now (ap (newest_of c.args.sector) (sym c.deref.ensures.value) ∙ sym c.newest.ensures ∙ ap (option_map (λ w. w.now)) c.in-Some.is)

pub returns-in-None : goal.returns-in-None
returns-in-None c = λ h.
    let old = slice_index_or (vec_items c.args.self.now.kept) c.args.sector [] in
    c.index.ensures ∙ get_or_default (vec_items c.args.self.now.kept) c.args.sector _ [] (omega (arith, c.args.self.now.kept.ok.0))
    ∙ found_none c.args.sector old (vec_items c.args.self.now.since) (ap (newest_of c.args.sector) (sym c.deref.ensures.value) ∙ sym c.newest.ensures ∙ ap (option_map (λ w. w.now)) c.in-None.is)
