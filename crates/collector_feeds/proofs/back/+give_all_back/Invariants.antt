use Rattle.std.proofs.Common.{vec_len}
use Rattle.collector_feeds.proofs.back.+give_all_back.Given as goal

abbrev pub decreases-give_all_back : goal.decreases-give_all_back
decreases-give_all_back g l = vec_len l.feeds
