-- The feed of the drill: lines of CSV that are made from a number.
use Rattle.std.specs.Prelude.{ℕ, zero, suc, ◌+◌, ◌*◌, ◌/◌, ◌%◌, ◌^◌, ◌==◌, List, [], ◌++◌, codes, decimal, if◌then◌else◌}

-- the generator of pseudorandom numbers: a linear congruential one, modulo 2 ^ 64
abbrev pub multiplier : ℕ
multiplier = 6364136223846793005

abbrev pub increment : ℕ
increment = 1442695040888963407

abbrev pub next : ℕ → ℕ
next x = (x * multiplier + increment) % 2 ^ 64

-- what a line is made from: the upper bits of a number
abbrev pub drawn : ℕ → ℕ
drawn x = x / 2 ^ 33

-- an address of 10.0.0.0/14; each hundredth is none
abbrev pub address : ℕ → ℕ → List ℕ
address n y =
    if n % 100 == 0 then codes "bad"
    else codes "10." ++ decimal (y % 4) ++ codes "." ++ decimal (y / 4 % 256) ++ codes "." ++ decimal (y / 1024 % 256)

abbrev pub class_word : ℕ → List ℕ
class_word class =
    if class == 0 then codes "scanner" else if class == 1 then codes "brute-force" else if class == 2 then codes "phishing" else codes "ddos"

-- a line: address, port, class, and the line's number
abbrev pub line : ℕ → ℕ → List ℕ
line n y = address n y ++ codes "," ++ decimal (y % 65536) ++ codes "," ++ class_word (y % 4) ++ codes "," ++ decimal n ++ codes "\n"

abbrev pub header : List ℕ
header = codes "ip,port,type,note\n"

-- so many lines, of which the first has the number behind this one, behind a number of the generator
abbrev pub lines_behind : (left n x : ℕ) → List ℕ
lines_behind zero n x = []
lines_behind (suc left) n x = line (suc n) (drawn (next x)) ++ lines_behind left (suc n) (next x)

-- the feed of so many lines that a number gives
abbrev pub feed_of : (lines number : ℕ) → List ℕ
feed_of lines number = header ++ lines_behind lines 0 number
