-- Full hands: their code, and whose they are.
use Rattle.std.specs.Prelude.{◌<◌, ◌^◌, ◌&&◌, ◌==◌, ℕ, Bool, List, ◌++◌}
use Rattle.std.specs.Int.{to_be_bytes, w32}
use Rattle.std.specs.Str.{bytes_eq}
use Rattle.stored_types.specs.declared.hand.Hand.{Hand}
use Rattle.stored_types.specs.Code.{byte, moment, name, bot_at, byte_at, moment_at, number_at, IsBot, IsByte, IsMoment}
use Rattle.stored_types.specs.Coded.{Reader, both, made}
use Rattle.stored_types.specs.Message.{message, message_at, IsMessage}

abbrev pub hand : Hand → List ℕ
hand h = name h.bot ++ byte h.instance ++ message h.message ++ to_be_bytes w32 h.tries ++ moment h.since

pub record IsHand (h : Hand) : Type 0 where
  pub bot : IsBot h.bot
  pub instance : IsByte h.instance
  pub message : IsMessage h.message
  pub tries : h.tries < 2 ^ 32
  pub since : IsMoment h.since

unfoldable pub hand_at : Reader Hand
hand_at bytes =
    made (λ ((((bot, instance), message), tries), since). record { bot = bot; instance = instance; message = message; tries = tries; since = since })
    (both (both (both (both bot_at byte_at) message_at) (number_at w32)) moment_at) bytes

-- the hand of this instance
abbrev pub is_hand : List ℕ → ℕ → Hand → Bool
is_hand bot instance h = bytes_eq h.bot bot && (h.instance == instance)
