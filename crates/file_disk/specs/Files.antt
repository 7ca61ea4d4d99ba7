-- The names of a store's files.
use Rattle.std.specs.Prelude.{ℕ, ◌-◌, ◌/◌, ◌%◌, ◌==◌, nat_lt, List, ◌++◌, codes, decimal, Option, Some, None, if◌then◌else◌}

-- file 0 is the root; of the others from 16 on, the even ones are outputs and the odd ones generations, each from 0. There
-- is no other
abbrev pub file_name : ℕ → Option (List ℕ)
file_name file =
    if file == 0 then Some (codes "root")
    else (if nat_lt file 16 then None
    else (if file % 2 == 0 then Some (codes "out-" ++ decimal ((file - 16) / 2)) else Some (codes "gen-" ++ decimal ((file - 17) / 2))))
