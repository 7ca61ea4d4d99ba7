-- Whether the files of outputs have what is sealed.
use Rattle.std.proofs.Common.{◌≡◌, ◌≤◌, ◌<◌, ◌+◌, inl, inr, ℕ, suc, zero, List, [], ◌∷◌, length, take, sym, ap, subst, ◌∙◌, arith}
use Rattle.std.specs.List.{slice_get}
use Rattle.std.specs.Option.{IsSomeAnd}
use Rattle.base_types.proofs.Options.{some_and}
use Rattle.edge_traits.specs.Disk.{Image}
use Rattle.step_code.specs.declared.output.Output.{Output}
use Rattle.store_image.specs.Damage.{IsShort}
use Rattle.store_image.specs.Files.{out_file}
use Rattle.store_image.specs.Opens.{AreLong}

long_from : (start n : ℕ) (outs : List Output) (i : ℕ) (files : Image) → n ≡ start + i → IsSomeAnd (slice_get outs i) (λ o. o.sealed_bytes ≤ length (files (out_file n))) → AreLong start (take i outs) files
    → AreLong start (take (suc i) outs) files
long_from start n [] i files at found was = absurd found
long_from start n (out ∷ outs) zero files at found was =
    let here : n ≡ start = omega (arith, at) in (subst (λ (k : ℕ). out.sealed_bytes ≤ length (files (out_file k))) here found, tt)
long_from start n (out ∷ outs) (suc i) files at found was = (was.0, long_from (suc start) n outs i files (omega (arith, at)) found was.1)

pub long_on : (outs : List Output) (i have : ℕ) (file : ℕ) (files : Image) → IsSomeAnd (slice_get outs i) (λ o. o.sealed_bytes ≤ have) → have ≡ length (files file) → file ≡ out_file i → AreLong 0 (take i outs) files
    → AreLong 0 (take (i + 1) outs) files
long_on outs i have file files found size is was =
    let next : suc i ≡ i + 1 = omega arith in
    let here : have ≡ length (files (out_file i)) = size ∙ ap (λ k. length (files k)) is in
    subst (λ (n : ℕ). AreLong 0 (take n outs) files) next
    (long_from 0 i outs i files (omega arith) (some_and (slice_get outs i) _ _ (λ o enough. subst (λ (n : ℕ). o.sealed_bytes ≤ n) here enough) found) was)

short_from : (start n : ℕ) (outs : List Output) (i : ℕ) (files : Image) (at : ℕ) → n ≡ start + i → IsSomeAnd (slice_get outs i) (λ o. at < o.sealed_bytes) → at ≡ length (files (out_file n)) → AreLong start (take i outs) files
    → IsShort start outs files (out_file n) at
short_from start n [] i files at place found size was = absurd found
short_from start n (out ∷ outs) zero files at place found size was =
    let here : n ≡ start = omega (arith, place) in inl (ap out_file here, subst (λ (k : ℕ). at ≡ length (files (out_file k))) here size, found)
short_from start n (out ∷ outs) (suc i) files at place found size was = inr (was.0, short_from (suc start) n outs i files at (omega (arith, place)) found size was.1)

pub short_at : (outs : List Output) (i have file : ℕ) (files : Image) → IsSomeAnd (slice_get outs i) (λ o. have < o.sealed_bytes) → have ≡ length (files file) → file ≡ out_file i → AreLong 0 (take i outs) files → IsShort 0 outs files file have
short_at outs i have file files found size is was =
    subst (λ (f : ℕ). IsShort 0 outs files f have) (sym is) (short_from 0 i outs i files have (omega arith) found (size ∙ ap (λ k. length (files k)) is) was)
