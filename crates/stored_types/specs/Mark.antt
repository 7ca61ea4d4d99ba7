-- Marks of keys: their code, which of them count, and which stay.
use Rattle.std.specs.Prelude.{◌-◌, ℕ, suc, Bool, List, ◌++◌, length, drop, filter, nat_lt}
use Rattle.std.specs.Int.{w32}
use Rattle.std.specs.List.{list_any}
use Rattle.std.specs.Str.{bytes_eq}
use Rattle.stored_types.specs.declared.mark.Mark.{Mark}
use Rattle.stored_types.specs.Code.{blob, moment, framed_at, moment_at, IsBlob, IsMoment}
use Rattle.stored_types.specs.Coded.{Reader, both, made}

abbrev pub mark : Mark → List ℕ
mark m = blob m.key ++ moment m.moment

pub record IsMark (m : Mark) : Type 0 where
  pub key : IsBlob m.key
  pub moment : IsMoment m.moment

unfoldable pub mark_at : Reader Mark
mark_at bytes = made (λ (key, moment). record { key = key; moment = moment }) (both (framed_at w32) moment_at) bytes

-- the marks that haven't reached this age in seconds
abbrev pub fresh : ℕ → ℕ → List Mark → List Mark
fresh ttl now marks = filter (λ mark. nat_lt (now - mark.moment.0) ttl) marks

-- the key is marked
abbrev pub is_marked : List ℕ → List Mark → Bool
is_marked key marks = list_any (λ mark. bytes_eq mark.key key) marks

-- the oldest marks leave until fewer than so many are there
abbrev pub trimmed : ℕ → List Mark → List Mark
trimmed below marks = drop (suc (length marks) - below) marks
