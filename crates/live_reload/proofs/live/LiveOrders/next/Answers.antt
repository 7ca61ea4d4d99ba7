use Rattle.std.proofs.Common.{◌∙◌, inl, inr, refl, sym}
use Rattle.live_reload.specs.Lines.{control_lines}
use Rattle.live_reload.specs.Live.{live_at}
use Rattle.live_reload.proofs.Turned.{none_at, turns_since}
use Rattle.live_reload.proofs.live.LiveOrders.next.Goals as goal

pub returns-in-Some-clause-turns : goal.returns-in-Some-clause-turns
returns-in-Some-clause-turns g c =
    let me = c.args.self.now in let told = c.in-Ok.ensures.told in let follows = c.requires.follows in
    turns_since (live_at (g.K.Source.source c.args.control.now) (g.H.Shelf.shelf c.args.shelf.now) (g.S.Sink.sink c.args.out.now) me)
    (live_at (g.K.Source.source c.next_control.new.control) (g.H.Shelf.shelf c.take.new.shelf) (g.S.Sink.sink c.take.new.out) c.take.new.self) (g.K.Source.source c.next_control.new.control) c.take.result told
    (c.take.ensures.turns (g.K.Source.source c.next_control.new.control) (λ content is. rw c.in-Some.is at (c.in-Ok.ensures.asked content (sym told ∙ is)))
    (record { near = follows.near; few = follows.few; left = λ content is. follows.left content (sym told ∙ is) }))

pub returns-in-Some-clause-stays : goal.returns-in-Some-clause-stays
returns-in-Some-clause-stays g c =
    let stays = c.take.ensures.stays (g.K.Source.source c.next_control.new.control) in
    record { control = c.in-Ok.ensures.told; shelf = stays.shelf; control_count = c.in-Ok.ensures.count; out_count = stays.out_count; shelf_counts = stays.shelf_counts }

pub returns-in-Some-clause-follows : goal.returns-in-Some-clause-follows
returns-in-Some-clause-follows g c =
    let told = c.in-Ok.ensures.told in let follows = c.requires.follows in
    c.take.ensures.follows (g.K.Source.source c.next_control.new.control) (λ content is. rw c.in-Some.is at (c.in-Ok.ensures.asked content (sym told ∙ is))) c.in-Ok.ensures.behind.1
    (record { near = follows.near; few = follows.few; left = λ content is. follows.left content (sym told ∙ is) })

pub returns-in-None-clause-turns : goal.returns-in-None-clause-turns
returns-in-None-clause-turns g c =
    inr (inl (
      refl,
      record {
        none = λ content told. none_at (control_lines content) c.args.self.now.taken (sym (c.requires.follows.left content told) ∙ rw c.in-None.is at (c.in-Ok.ensures.asked content told));
        out = refl;
        taken = refl;
        end = refl;
      },
    ))
