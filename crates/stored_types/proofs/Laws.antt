-- Messages, queues, hands and marks that are read are those that were written, and what was written is read again.
use Rattle.std.proofs.Common.{◌^◌, refl}
use Rattle.std.specs.Int.{w16, w32}
use Rattle.stored_types.specs.Message.{dump, dump_at, message, message_at, note, note_at, IsDump, IsMessage, IsNote}
use Rattle.stored_types.specs.Queue.{queue, waiting_at, IsQueue}
use Rattle.stored_types.specs.Hand.{hand, hand_at, IsHand}
use Rattle.stored_types.specs.Mark.{mark, mark_at, IsMark}
use Rattle.stored_types.proofs.Readers.{Law, both_law, made_law}
use Rattle.stored_types.proofs.FieldLaws.{blob_law, bot_law, byte_law, list_law, moment_law, number_law, queue_name_law, text_law, u64_law, wide16, wide32}

pub message_law : Law message_at message IsMessage
unfolding message_at
message_law = made_law (λ (of, body). record { no = of; body = body }) (both_law u64_law blob_law) message IsMessage (λ a. refl) (λ a fit. record { no = fit.0; body = fit.1 }) (λ m fit. ((m.no, m.body), refl, (fit.no, fit.body)))

pub note_law : Law note_at note IsNote
unfolding note_at
note_law = made_law (λ (code, text). record { code = code; text = text }) (both_law (number_law w16 (2 ^ 16) wide16) text_law) note IsNote (λ a. refl)
    (λ a fit. record { code = fit.0; text = fit.1 }) (λ n fit. ((n.code, n.text), refl, (fit.code, fit.text)))

pub dump_law : Law dump_at dump IsDump
unfolding dump_at
dump_law = made_law (λ ((((of, bot), message), note), moment). record { no = of; bot = bot; message = message; note = note; moment = moment })
    (both_law (both_law (both_law (both_law u64_law bot_law) message_law) note_law) moment_law) dump IsDump (λ a. refl)
    (λ a ((((of, bot), message), note), moment). record { no = of; bot = bot; message = message; note = note; moment = moment })
    (λ d fit. (((((d.no, d.bot), d.message), d.note), d.moment), refl, ((((fit.no, fit.bot), fit.message), fit.note), fit.moment)))

pub waiting_law : Law waiting_at queue IsQueue
unfolding waiting_at
waiting_law = made_law (λ (name, messages). record { name = name; messages = messages }) (both_law queue_name_law (list_law message_law)) queue IsQueue (λ a. refl)
    (λ a fit. record { name = fit.0; messages = fit.1 }) (λ q fit. ((q.name, q.messages), refl, (fit.name, fit.messages)))

pub hand_law : Law hand_at hand IsHand
unfolding hand_at
hand_law = made_law (λ ((((bot, instance), message), tries), since). record { bot = bot; instance = instance; message = message; tries = tries; since = since })
    (both_law (both_law (both_law (both_law bot_law byte_law) message_law) (number_law w32 (2 ^ 32) wide32)) moment_law) hand IsHand (λ a. refl)
    (λ a ((((bot, instance), message), tries), since). record { bot = bot; instance = instance; message = message; tries = tries; since = since })
    (λ h fit. (((((h.bot, h.instance), h.message), h.tries), h.since), refl, ((((fit.bot, fit.instance), fit.message), fit.tries), fit.since)))

pub mark_law : Law mark_at mark IsMark
unfolding mark_at
mark_law = made_law (λ (key, moment). record { key = key; moment = moment }) (both_law blob_law moment_law) mark IsMark (λ a. refl)
    (λ a fit. record { key = fit.0; moment = fit.1 }) (λ m fit. ((m.key, m.moment), refl, (fit.key, fit.moment)))
