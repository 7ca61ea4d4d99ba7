use Rattle.std.proofs.Common.{rules, inl, refl, sym, subst, ◌∙◌}
use Rattle.drain_loop.proofs.Looked.{looked_all, looked_one, others_ready}
use Rattle.drain_loop.proofs.Looking.{first_turn, next_turn}
use Rattle.drain_loop.specs.Calls.{outside}
use Rattle.drain_loop.specs.Looking.{GivesTurn}
use Rattle.drain_loop.proofs.collectors.+first_found.Goals as goal

pub first_found-requires : goal.first_found-requires
first_found-requires g t c =
    let are = c.in-Some.ensures.cases.0 in
    let less = c.in-Some.ensures.cases.1 in
    let ready = others_ready c.args.feeds.now c.in-Some.feed.now c.in-Some.others.now (g.H.Shelf.shelf c.args.shelf.now) (g.H.Shelf.shelf c.look_at.new.shelf) are c.look_at.ensures.shelf c.requires.ready in
    search rules

pub returns-in-Err-clause-looked : goal.returns-in-Err-clause-looked
returns-in-Err-clause-looked g t c =
    looked_one c.args.feeds.now c.in-Some.feed.now c.look_at.new.feed c.in-Some.others.now (g.H.Shelf.shelf c.args.shelf.now) (g.H.Shelf.shelf c.look_at.new.shelf)
    c.in-Some.ensures.cases.0 c.look_at.ensures.same c.look_at.ensures.ready c.look_at.ensures.counted c.look_at.ensures.shelf c.requires.ready

pub returns-in-Ok-Some-clause-looked : goal.returns-in-Ok-Some-clause-looked
returns-in-Ok-Some-clause-looked g t c =
    looked_one c.args.feeds.now c.in-Some.feed.now c.look_at.new.feed c.in-Some.others.now (g.H.Shelf.shelf c.args.shelf.now) (g.H.Shelf.shelf c.look_at.new.shelf)
    c.in-Some.ensures.cases.0 c.look_at.ensures.same c.look_at.ensures.ready c.look_at.ensures.counted c.look_at.ensures.shelf c.requires.ready

pub returns-in-Ok-None-clause-looked : goal.returns-in-Ok-None-clause-looked
returns-in-Ok-None-clause-looked g t c =
    looked_all c.args.feeds.now c.in-Some.feed.now c.look_at.new.feed c.in-Some.others.now c.first_found.new.feeds (g.H.Shelf.shelf c.args.shelf.now) (g.H.Shelf.shelf c.look_at.new.shelf) (g.H.Shelf.shelf c.first_found.new.shelf)
    c.in-Some.ensures.cases.0 c.look_at.ensures.same c.look_at.ensures.ready c.look_at.ensures.counted c.look_at.ensures.shelf c.first_found.ensures.looked

pub returns-in-Ok-Some-clause-turn : goal.returns-in-Ok-Some-clause-turn
returns-in-Ok-Some-clause-turn g t c = λ first clock limit fs told of.
    first_turn (outside g.R.Rules.meaning first clock limit) c.args.core.now.state fs c.args.feeds.now c.in-Some.feed.now c.in-Some.others.now c.in-Ok-Some.turn c.in-Some.ensures.cases.0 of
    (λ f key. subst (GivesTurn (outside g.R.Rules.meaning first clock limit) c.args.core.now.state f) c.in-Ok-Some.field-0-is (c.in-Ok-Some.ensures.turn first clock limit f told key))

pub returns-in-Ok-None-clause-turn : goal.returns-in-Ok-None-clause-turn
returns-in-Ok-None-clause-turn g t c = λ first clock limit fs told of.
    next_turn (outside g.R.Rules.meaning first clock limit) c.args.core.now.state fs c.args.feeds.now c.in-Some.feed.now c.in-Some.others.now c.first_found.result c.in-Some.ensures.cases.0 of
    (λ f key. subst (GivesTurn (outside g.R.Rules.meaning first clock limit) c.args.core.now.state f) c.in-Ok-None.field-0-is (c.in-Ok-None.ensures.turn first clock limit f told key))
    (λ gs are. c.first_found.ensures.turn first clock limit gs (told ∙ sym c.look_at.ensures.shelf.told) are)

pub returns-in-Err-clause-end : goal.returns-in-Err-clause-end
returns-in-Err-clause-end g t c = (c.look_at.new.feed, inl refl, c.in-Err.ensures.end)
