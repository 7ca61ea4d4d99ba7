-- Each text gives a sieve or a fault, and one alone.
use Rattle.std.proofs.Common.{◌≡◌, ◌⊎◌, ⊎_elim, inl, inr, ℕ, zero, suc, ◌-◌, ◌<◌, List, [], ◌∷◌, length, Option, Some, None, Result, Ok, Err, refl, sym, ap, ◌∙◌, arith}
use Rattle.std.proofs.lemmas.Option.{none-some}
use Rattle.sieve_tokens.specs.Scan.{piece_at}
use Rattle.sieve_tokens.specs.Token.{spans, AreTokens, Cover, IsBadAt}
use Rattle.sieve_tokens.specs.declared.piece.Piece.{Piece}
use Rattle.sieve_tokens.specs.declared.token.Token.{Token}
use Rattle.sieve_tokens.proofs.Covers.{bad_one, cover_size, tokens_or_bad, Stuck}
use Rattle.sieve_tokens.proofs.Pieces.{found_stands, size_of, stands_found}
use Rattle.sieve_reader.specs.Answer.{IsGivenBy, IsWrongWith}
use Rattle.sieve_reader.specs.Reads.{IsRefused, Reads}
use Rattle.sieve_reader.specs.Refusal as told
use Rattle.sieve_tree.specs.SieveView.{SieveView}
use Rattle.sieve_reader.specs.declared.sieve.SieveFault.{SieveFault}
use Rattle.sieve_reader.specs.declared.sieve.SieveFault.TheVariants as fault
use Rattle.sieve_reader.proofs.Answering.{bad_writes_none}
use Rattle.sieve_reader.proofs.OneRefusal.{excludes, one_or_other, one_refusal}
use Rattle.sieve_reader.proofs.OneSieve.{one_sieve}

-- ---- tokens, or a bad place

-- pieces as far as they go
abbrev Covered : List ℕ → Type 0
Covered text = (pieces : List Piece) × (rest : List ℕ) × Cover pieces text rest × Stuck rest

one_more : (text : List ℕ) (o : Option Piece) → piece_at text ≡ o → ((behind : List ℕ) → length behind < length text → Covered behind) → Covered text
one_more text None is later = ([], text, refl, λ p behind h. absurd (none-some p (sym is ∙ stands_found p text behind h)))
one_more text (Some p) is later =
    let (behind, stands) = found_stands text p is in
    let size = size_of p text behind stands in
    let (pieces, rest, covers, stuck) = later behind (omega (arith, size.0, size.1)) in
    (p ∷ pieces, rest, (behind, stands, covers), stuck)

covered : (n : ℕ) (text : List ℕ) → length text < n → Covered text
covered zero text less = absurd (omega (arith, less))
covered (suc n) text less = one_more text (piece_at text) refl (λ behind shorter. covered n behind (omega (arith, less, shorter)))

abbrev Tokened : List ℕ → Type 0
Tokened text = ((tokens : List Token) × AreTokens text tokens) ⊎ ((at : ℕ) × IsBadAt text at)

by_rest : (text : List ℕ) (pieces : List Piece) (rest : List ℕ) → Cover pieces text rest → Stuck rest → Tokened text
by_rest text pieces [] covers stuck = inl (spans 0 pieces, (pieces, covers, refl))
by_rest text pieces (b ∷ bs) covers stuck =
    let short = cover_size pieces text (b ∷ bs) covers in
    inr (length text - length (b ∷ bs), (pieces, b ∷ bs, covers, omega (arith, short), omega arith, stuck))

tokened : (text : List ℕ) → Tokened text
tokened text = let (pieces, rest, covers, stuck) = covered (suc (length text)) text (omega arith) in by_rest text pieces rest covers stuck

-- ---- a sieve, or a fault

abbrev fault_for : told.Cause → ℕ → SieveFault
fault_for told.expected at = fault.Expected at
fault_for told.field at = fault.Field at
fault_for told.value at = fault.Value at
fault_for told.pattern at = fault.Pattern at
fault_for told.deep at = fault.Deep at

wrong_for : (text : List ℕ) (why : told.Cause) (at : ℕ) → IsRefused text why at → IsWrongWith text (fault_for why at)
wrong_for text told.expected at is = is
wrong_for text told.field at is = is
wrong_for text told.value at is = is
wrong_for text told.pattern at is = is
wrong_for text told.deep at is = is

abbrev Answered : List ℕ → Type 0
Answered text = (r : Result SieveView SieveFault) × IsGivenBy text r

of_tokens : (text : List ℕ) (tokens : List Token) → AreTokens text tokens → Answered text
of_tokens text tokens are =
    ⊎_elim (λ writes. (Ok writes.0, writes.1)) (λ refused. (Err (fault_for refused.0 refused.1), wrong_for text refused.0 refused.1 refused.2)) (one_or_other text tokens are)

-- what a text gives
pub given : (text : List ℕ) → (r : Result SieveView SieveFault) × IsGivenBy text r
given text = ⊎_elim (λ some. of_tokens text some.0 some.1) (λ bad. (Err (fault.Token bad.0), bad.1)) (tokened text)

-- ---- one alone

-- a bad place among the tokens, or a wrong token
abbrev Sorted : List ℕ → SieveFault → Type 0
Sorted text e = ((at : ℕ) × (e ≡ fault.Token at) × IsBadAt text at) ⊎ ((why : told.Cause) × (at : ℕ) × (e ≡ fault_for why at) × IsRefused text why at)

sorted : (text : List ℕ) (e : SieveFault) → IsWrongWith text e → Sorted text e
sorted text (fault.Token at) is = inl (at, refl, is)
sorted text (fault.Expected at) is = inr (told.expected, at, refl, is)
sorted text (fault.Field at) is = inr (told.field, at, refl, is)
sorted text (fault.Value at) is = inr (told.value, at, refl, is)
sorted text (fault.Pattern at) is = inr (told.pattern, at, refl, is)
sorted text (fault.Deep at) is = inr (told.deep, at, refl, is)
sorted text fault.OutOfMemory is = absurd is

neither : (text : List ℕ) (s : SieveView) (e : SieveFault) → Reads text s → Sorted text e → ⊥
neither text s e writes (inl (at, same, bad)) = bad_writes_none text at bad s writes
neither text s e writes (inr (why, at, same, refused)) = excludes text s why at writes refused

one_fault : (text : List ℕ) (e f : SieveFault) → Sorted text e → Sorted text f → e ≡ f
one_fault text e f (inl (at, same, bad)) (inl (place, is, also)) = same ∙ ap fault.Token (bad_one text at place bad also) ∙ sym is
one_fault text e f (inl (at, same, bad)) (inr (why, place, is, refused)) = absurd (tokens_or_bad text refused.0 at refused.1 bad)
one_fault text e f (inr (why, at, same, refused)) (inl (place, is, bad)) = absurd (tokens_or_bad text refused.0 place refused.1 bad)
one_fault text e f (inr (why, at, same, refused)) (inr (other, place, is, also)) =
    let one = one_refusal text why other at place refused also in
    same ∙ (ap (λ c. fault_for c at) one.0 ∙ ap (fault_for other) one.1) ∙ sym is

pub one_answer : (text : List ℕ) (this that : Result SieveView SieveFault) → IsGivenBy text this → IsGivenBy text that → this ≡ that
one_answer text (Ok s) (Ok t) this that = ap Ok (one_sieve text s t this that)
one_answer text (Ok s) (Err e) this that = absurd (neither text s e this (sorted text e that))
one_answer text (Err e) (Ok s) this that = absurd (neither text s e that (sorted text e this))
one_answer text (Err e) (Err f) this that = ap Err (one_fault text e f (sorted text e this) (sorted text f that))
