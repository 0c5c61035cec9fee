use Rattle.image_search.proofs.ends.ends_of.Goals as goal

pub returns : goal.returns
returns c = record {
  stuck = c.is_stuck.ensures c.args.image.now;
  failed = c.has_failed.ensures;
  broken = c.is_broken.ensures.broken;
  whole = c.is_broken.ensures.whole;
}
