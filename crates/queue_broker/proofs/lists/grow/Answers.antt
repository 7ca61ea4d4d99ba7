use Rattle.std.proofs.Common.{[], length, ap, arith}
use Rattle.std.proofs.lemmas.List.{length_push}
use Rattle.base_types.specs.declared.message.Msg.{Msg}
use Rattle.link_store.specs.Links.{LinksView}
use Rattle.queue_broker.proofs.More.{more_none, more_one}
use Rattle.queue_broker.proofs.lists.grow.Goals as goal

pub lists-init : goal.lists-init
lists-init c = record { more = more_none c.args.links.now c.args.free.now.items; longer = omega arith; room = c.requires.room }

pub lists-preserved : goal.lists-preserved
lists-preserved c = record {
  more = more_one c.args.links.now c.args.free.now.items c.lists.links c.lists.free.items c.add_list.new.links c.add_list.new.free.items c.lists.invariant.more c.in_ok-add_list.ensures.ok.0 c.in_ok-add_list.ensures.ok.1;
  longer = omega (arith, c.lists.invariant.longer, ap (λ (v : LinksView Msg). length v.lists) c.in_ok-add_list.ensures.ok.0, length_push c.lists.links.lists []);
  room = c.in_ok-add_list.ensures.room;
}

pub lists-smaller : goal.lists-smaller
lists-smaller c = omega (arith, c.lists-test.true, c.lists_len.ensures, ap (λ (v : LinksView Msg). length v.lists) c.in_ok-add_list.ensures.ok.0, length_push c.lists.links.lists [])

pub returns-in_err-add_list-clause-more : goal.returns-in_err-add_list-clause-more
returns-in_err-add_list-clause-more c = rw (c.in_err-add_list.ensures.err.0, c.in_err-add_list.ensures.err.1) c.lists.invariant.more
