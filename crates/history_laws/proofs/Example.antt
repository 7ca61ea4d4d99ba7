-- An example: a piece of a feed is collected, taken, written as a line, and the feed ends. The definitions give by
-- computing what was worked out by hand.
use Rattle.std.proofs.Common.{zero, suc, ◌≤◌, arith, take, ◌≡◌, true, false, List, [], ◌∷◌, refl, Some, None, codes}
use Rattle.step_code.specs.declared.base.Base.{Base}
use Rattle.step_code.specs.declared.rules.Facts.{Facts}
use Rattle.step_code.specs.declared.rules.Given.TheVariants as given
use Rattle.step_code.specs.declared.rules.Role.TheVariants as role
use Rattle.step_code.specs.declared.step.Step.{Step}
use Rattle.step_code.specs.declared.step.StepKind.TheVariants as kind
use Rattle.step_code.specs.declared.step.StepRefusal.TheVariants as refusal
use Rattle.base_types.specs.Lists.{AreBytes}
use Rattle.step_code.specs.Rules.{Meaning}
use Rattle.step_code.specs.Fits.{parts, first_failing}
use Rattle.step_code.specs.Content.{IsInTime, May}
use Rattle.step_code.specs.declared.step.StepKind.{StepKind}
use Rattle.step_code.specs.History.{Legal, first, replay}
use Rattle.step_code.specs.Places.{places}
use Rattle.step_code.specs.Code.{code_of_step}

abbrev collector : Facts
collector = record { bot = codes "collect"; role = role.Collector; instances = 1; retries = 3; delay = 0; stop = false; defaults = codes "write-queue" ∷ []; on_error = []; cache = None; feed = Some (record { file = codes "feed.csv"; chunk_size = 1048576; replicate = false }) }

abbrev writer : Facts
writer = record { bot = codes "write"; role = role.Output; instances = 1; retries = 3; delay = 0; stop = false; defaults = []; on_error = []; cache = None; feed = None }

abbrev m : Meaning
m = record { facts = λ bundle. Some (collector ∷ writer ∷ []); report = λ task piece now. 82 ∷ piece; give = λ task body since. given.Pass [] [] None true; is_lawful = λ body. true }

abbrev steps : List Step
steps =
    record { moment = record { 0 = 100 }; what = kind.Start }
    ∷ record { moment = record { 0 = 100 }; what = kind.Collect (codes "collect") 0 2 (97 ∷ 10 ∷ []) }
    ∷ record { moment = record { 0 = 100 }; what = kind.Take (codes "write") 1 1 }
    ∷ record { moment = record { 0 = 100 }; what = kind.Done (codes "write") 1 1 1 [] [] None true }
    ∷ record { moment = record { 0 = 100 }; what = kind.FeedEnd (codes "collect") 2 }
    ∷ []

abbrev start : Base
start = first (collector ∷ writer ∷ []) []

end : replay m start steps ≡ record {
  steps = 5;
  next_message = 2;
  next_dump = 1;
  discarded = 0;
  latest = record { 0 = 100 };
  bundle_no = 1;
  bundle = [];
  queues = record { name = codes "write-queue"; messages = [] } ∷ [];
  hands = [];
  caches = [];
  dumps = [];
  outs = record { bot = codes "write"; sealed_bytes = 0; sealed_lines = 0; lines = (82 ∷ 97 ∷ 10 ∷ []) ∷ [] } ∷ [];
  feeds = record { bot = codes "collect"; round = 1; position = 2; finished = true } ∷ [];
  halted = [];
}
end = refl

one : places m start steps 1 ≡ 1
one = refl

two : places m start steps 2 ≡ 0
two = refl

refused : first_failing (parts m start (kind.Take (codes "write") 1 1)) ≡ Some refusal.Empty
refused = refl

behind : first_failing (parts m start (kind.Collect (codes "collect") 5 6 [])) ≡ Some (refusal.Behind 0)
behind = refl

take_code : code_of_step (record { moment = record { 0 = 1700000000 }; what = kind.Take (codes "parse") 1 1 }) ≡ 4 ∷ 0 ∷ 0 ∷ 0 ∷ 0 ∷ 0x65 ∷ 0x53 ∷ 0xf1 ∷ 0 ∷ 0 ∷ 5 ∷ 0x70 ∷ 0x61 ∷ 0x72 ∷ 0x73 ∷ 0x65 ∷ 1 ∷ 0 ∷ 0 ∷ 0 ∷ 0 ∷ 0 ∷ 0 ∷ 0 ∷ 1 ∷ []
take_code = refl

reported : (replay m start (take 2 steps)).queues ≡ record { name = codes "write-queue"; messages = record { no = 1; body = 82 ∷ 97 ∷ 10 ∷ [] } ∷ [] } ∷ []
reported = refl

collected : (replay m start (take 2 steps)).feeds ≡ record { bot = codes "collect"; round = 1; position = 2; finished = false } ∷ []
collected = refl

in_hand : (replay m start (take 3 steps)).hands ≡ record { bot = codes "write"; instance = 1; message = record { no = 1; body = 82 ∷ 97 ∷ 10 ∷ [] }; tries = 0; since = record { 0 = 100 } } ∷ []
in_hand = refl

left_queue : (replay m start (take 3 steps)).queues ≡ record { name = codes "write-queue"; messages = [] } ∷ []
left_queue = refl

put_out : (replay m start (take 4 steps)).outs ≡ record { bot = codes "write"; sealed_bytes = 0; sealed_lines = 0; lines = (82 ∷ 97 ∷ 10 ∷ []) ∷ [] } ∷ []
put_out = refl

place_after_collect : places m start (take 2 steps) 1 ≡ 1
place_after_collect = refl

place_after_take : places m start (take 3 steps) 1 ≡ 1
place_after_take = refl

place_after_done : places m start (take 4 steps) 1 ≡ 1
place_after_done = refl

in_time : (s : Base) (what : StepKind) → s.latest.0 ≤ 100 → IsInTime s (record { moment = record { 0 = 100 }; what = what })
in_time s what order = record { order = order; limit = omega arith }

-- each of the steps may be taken where it stands
start_may : May m start (record { moment = record { 0 = 100 }; what = kind.Start })
start_may = record { fits = refl; content = record { time = in_time start kind.Start (omega arith); what = tt } }

piece_bytes : AreBytes (97 ∷ 10 ∷ [])
piece_bytes zero = omega arith
piece_bytes (suc zero) = omega arith
piece_bytes (suc (suc i)) = omega arith

collect_may : May m (replay m start (take 1 steps)) (record { moment = record { 0 = 100 }; what = kind.Collect (codes "collect") 0 2 (97 ∷ 10 ∷ []) })
collect_may = record { fits = refl; content = record { time = record { order = omega arith; limit = omega arith }; what = (record { some = omega arith; limit = omega arith }, piece_bytes) } }

take_may : May m (replay m start (take 2 steps)) (record { moment = record { 0 = 100 }; what = kind.Take (codes "write") 1 1 })
take_may = record { fits = refl; content = record { time = record { order = omega arith; limit = omega arith }; what = refl } }

done_may : May m (replay m start (take 3 steps)) (record { moment = record { 0 = 100 }; what = kind.Done (codes "write") 1 1 1 [] [] None true })
done_may = record {
  fits = refl;
  content = record {
    time = record { order = omega arith; limit = omega arith };
    what = record {
      hand = record { bot = codes "write"; instance = 1; message = record { no = 1; body = 82 ∷ 97 ∷ 10 ∷ [] }; tries = 0; since = record { 0 = 100 } };
      holds = refl;
      given_sends = [];
      given_key = None;
      gives = refl;
      carries = (refl, refl);
    };
  };
}

end_may : May m (replay m start (take 4 steps)) (record { moment = record { 0 = 100 }; what = kind.FeedEnd (codes "collect") 2 })
end_may = record { fits = refl; content = record { time = record { order = omega arith; limit = omega arith }; what = tt } }

legal : Legal m start steps
legal = (start_may, (collect_may, (take_may, (done_may, (end_may, tt)))))
