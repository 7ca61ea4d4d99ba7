-- Messages, faults and dumps: their codes.
use Rattle.std.specs.Prelude.{◌<◌, ◌^◌, ℕ, List, ◌++◌}
use Rattle.std.specs.Int.{to_be_bytes, w16, w64}
use Rattle.stored_types.specs.declared.message.Dump.{Dump}
use Rattle.base_types.specs.declared.message.FaultNote.{FaultNote}
use Rattle.base_types.specs.declared.message.Msg.{Msg}
use Rattle.stored_types.specs.Code.{blob, moment, name, number, bot_at, framed_at, moment_at, number_at, text_at, IsBlob, IsBot, IsMoment, IsNumber, IsText}
use Rattle.stored_types.specs.Coded.{Reader, both, made}
use Rattle.std.specs.Int.{w32}

abbrev pub message : Msg → List ℕ
message m = number m.no ++ blob m.body

pub record IsMessage (m : Msg) : Type 0 where
  pub no : IsNumber m.no
  pub body : IsBlob m.body

unfoldable pub message_at : Reader Msg
message_at bytes = made (λ (of, body). record { no = of; body = body }) (both (number_at w64) (framed_at w32)) bytes

abbrev pub note : FaultNote → List ℕ
note n = to_be_bytes w16 n.code ++ blob n.text

pub record IsNote (n : FaultNote) : Type 0 where
  pub code : n.code < 2 ^ 16
  pub text : IsText n.text

unfoldable pub note_at : Reader FaultNote
note_at bytes = made (λ (code, text). record { code = code; text = text }) (both (number_at w16) text_at) bytes

abbrev pub dump : Dump → List ℕ
dump d = number d.no ++ name d.bot ++ message d.message ++ note d.note ++ moment d.moment

pub record IsDump (d : Dump) : Type 0 where
  pub no : IsNumber d.no
  pub bot : IsBot d.bot
  pub message : IsMessage d.message
  pub note : IsNote d.note
  pub moment : IsMoment d.moment

unfoldable pub dump_at : Reader Dump
dump_at bytes =
    made (λ ((((of, bot), message), note), moment). record { no = of; bot = bot; message = message; note = note; moment = moment })
    (both (both (both (both (number_at w64) bot_at) message_at) note_at) moment_at) bytes
