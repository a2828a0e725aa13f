use Rattle.std.proofs.Common.{vec_items, sym, ap, subst, arith}
use Rattle.device.specs.Vector.{Blanks, since_of}
use Rattle.device.proofs.Since.{blanks-push, blanks_at}
use Rattle.device.proofs.vector.Vector.blank.Goals as goal

pub loop-preserved : goal.loop-preserved
loop-preserved c = (omega (arith, c.in_ok-push.ensures.len, c.loop.invariant.0), subst Blanks (sym c.in_ok-push.ensures.items) (blanks-push (vec_items c.loop.kept) c.loop.invariant.1))

pub returns : goal.returns
returns c = record {
  long = omega (arith, c.loop.invariant.0);
  kept = λ s h. blanks_at (vec_items c.loop.kept) c.loop.invariant.1 s (omega (arith, c.loop.kept.ok.0, c.loop.invariant.0, c.loop-test.false));
  since = λ s. ap (since_of s) c.new.ensures.items;
}
