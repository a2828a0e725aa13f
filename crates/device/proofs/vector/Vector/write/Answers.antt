use Rattle.std.proofs.Common.{vec_items, refl, ap, ◌∙◌}
use Rattle.device.specs.Vector.{since_of}
use Rattle.device.proofs.Since.{since-written}
use Rattle.device.proofs.vector.Vector.write.Goals as goal

pub returns : goal.returns
returns c = record {
  size = refl;
  is = record {
    kept = λ s h. refl;
    since = λ s. ap (since_of s) c.in_ok-push.ensures.items ∙ since-written s (vec_items c.args.self.now.since) c.args.sector c.args.bytes.now;
  };
}
