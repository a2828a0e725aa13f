-- The laws' proofs that are put together from several.
use Rattle.std.proofs.Common.{◌++◌}
use Rattle.tree.specs.Laws.{WindowApart, WindowGrown}
use Rattle.tree.proofs.Window.{window, apart-grown, each_same, each_append, grown-same}

pub windows : WindowApart
windows w cap pre l touched news r post b c h = window w cap b c touched news h

pub grows : WindowGrown
grows w cap pre l touched news r post g h = (
  apart-grown w cap (pre ++ (l ++ (touched ++ (r ++ post)))) (pre ++ (l ++ (news ++ (r ++ post)))) (each_append w cap pre pre (l ++ (touched ++ (r ++ post))) (l ++ (news ++ (r ++ post))) (each_same w cap pre) (each_append w cap l l (touched ++ (r ++ post)) (news ++ (r ++ post)) (each_same w cap l) (each_append w cap touched news (r ++ post) (r ++ post) g (each_same w cap (r ++ post))))) h,
  grown-same w cap pre l touched news r post g h,
)
