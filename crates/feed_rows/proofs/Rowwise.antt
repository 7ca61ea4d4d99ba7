-- Rows one after the other, and their notes.
use Rattle.std.proofs.Common.{◌≡◌, List, [], ◌∷◌, ◌++◌, Result, Err, sym, ap, ◌∙◌, append-nil, append_assoc}
use Rattle.std.specs.List.{flat_map}
use Rattle.base_types.specs.declared.message.FaultNote.{FaultNote}
use Rattle.feed_rows.specs.Rows.{IsFaultOf, IsNoted}
use Rattle.feed_rows.specs.declared.parsed.ParseFault.{ParseFault}
use Rattle.feed_rows.specs.declared.parsed.ParseFault.TheVariants as fault

one_more : {A B : Type 0} (f : A → List B) (before : List B) (x : A) (xs : List A) → (before ++ flat_map f (x ∷ [])) ++ flat_map f xs ≡ before ++ flat_map f (x ∷ xs)
one_more f before x xs = append_assoc before (f x ++ []) (flat_map f xs) ∙ ap (λ t. before ++ (t ++ flat_map f xs)) (append-nil (f x))

-- a note is a fault of what has it
pub noted_fault : {A : Type 0} (note : FaultNote) (e : ParseFault) (r : Result A FaultNote) → r ≡ Err note → IsNoted note e → IsFaultOf r e
noted_fault note (fault.Fault made) r is same = is ∙ ap Err (sym same)
noted_fault note fault.OutOfMemory r is same = tt
