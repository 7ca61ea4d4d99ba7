-- What a bot and a queue may be called.
use Rattle.std.specs.Prelude.{◌≡◌, ℕ, ◌&&◌, ◌||◌, ◌==◌, Bool, true, not, nat_le, List, ◌++◌, length, codes}
use Rattle.std.specs.Str.{bytes_eq}
use Rattle.std.specs.List.{list_all}

-- a byte of a bot's name: an ASCII letter or digit, `-`, `_` or `.`
abbrev pub is_name_byte : ℕ → Bool
is_name_byte b = (nat_le 97 b && nat_le b 122) || (nat_le 65 b && nat_le b 90) || (nat_le 48 b && nat_le b 57) || (b == 45) || (b == 95) || (b == 46)

-- a bot's name: 1 to 64 such bytes, and not the word `global`
abbrev pub is_bot_name : List ℕ → Bool
is_bot_name name = nat_le 1 (length name) && nat_le (length name) 64 && list_all is_name_byte name && not (bytes_eq name (codes "global"))

-- what a queue's name has behind the name of its bot
abbrev pub queue_ending : List ℕ
queue_ending = codes "-queue"

-- the name of a bot's queue
abbrev pub queue_name : List ℕ → List ℕ
queue_name bot = bot ++ queue_ending

-- a queue's name: that of a bot, and `-queue`
abbrev pub IsQueueName : List ℕ → Type 0
IsQueueName name = (bot : List ℕ) × (is_bot_name bot ≡ true) × (name ≡ bot ++ queue_ending)
