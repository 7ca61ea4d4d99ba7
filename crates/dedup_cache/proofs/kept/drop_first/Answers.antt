use Rattle.std.proofs.Common.{drop, ◌∙◌, ap}
use Rattle.std.proofs.lemmas.List.{drop-drop}
use Rattle.dedup_cache.proofs.kept.drop_first.Goals as goal

pub oldest-preserved : goal.oldest-preserved
oldest-preserved c = record {
  left = c.drop_oldest.ensures.marks ∙ ap (drop 1) c.oldest.invariant.left ∙ drop-drop 1 c.oldest.counter c.args.marks.now.marks;
  kept = c.drop_oldest.ensures.kept;
  room = λ room. c.drop_oldest.ensures.room (c.oldest.invariant.room room);
  pushed = c.drop_oldest.ensures.pushed ∙ c.oldest.invariant.pushed;
}
