-- A file as it stands is one of the outcomes of a step.
use Rattle.std.proofs.Common.{ℕ, List, length, refl, arith}
use Rattle.std.proofs.lemmas.List.{take_all, take_min}
use Rattle.edge_traits.specs.Disk.{Torn, Cut}

pub torn_itself : (at n : ℕ) (c : List ℕ) → Torn at n c c
torn_itself at n c = record { before = take_min at c; behind = refl; no_shorter = omega arith; no_longer = omega arith }

pub cut_itself : (len : ℕ) (c : List ℕ) → Cut len c c
cut_itself len c = record { front = take_all (length c) c (omega arith); no_shorter = omega arith }
