use Rattle.queue_broker.specs.Broker.{lent}
use Rattle.state_texts.specs.Texts.{hand_line}
use Rattle.state_texts.proofs.Lines.{item_put, read_at}
use Rattle.state_texts.proofs.state.put_hands.Goals as goal

pub hands-preserved : goal.hands-preserved
hands-preserved g c =
    item_put hand_line c.args.core.now.state.hands c.hands.k c.args.text.now c.hands.text c.put_hand.new.text (hand_line (lent c.hand_at-hand.result)) c.hands.invariant c.in_ok-put_hand.ensures (read_at hand_line c.args.core.now.state.hands c.hands.k (lent c.hand_at-hand.result) c.hand_at-hand.ensures)
