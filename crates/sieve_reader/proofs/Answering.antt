-- From what reading gives of the tokens to what the text writes.
use Rattle.std.proofs.Common.{◌≡◌, ℕ, zero, suc, ◌+◌, ◌-◌, ◌≤◌, ◌<◌, Bool, true, false, List, [], ◌∷◌, ◌++◌, length, drop, Result, Ok, Err, refl, sym, ap, ◌∙◌, subst, arith, length-append}
use Rattle.std.specs.Prelude.{IfOk, IfErr, get_or, if◌then◌else◌}
use Rattle.std.proofs.lemmas.List.{drop_at}
use Rattle.sieve_tokens.specs.Token.{AreTokens, IsBadAt}
use Rattle.sieve_tokens.specs.declared.token.Token.{Token}
use Rattle.sieve_tokens.proofs.Covers.{tokens_one, tokens_or_bad}
use Rattle.sieve_reader.specs.Grammar.{IsFile}
use Rattle.sieve_reader.specs.Leaf.{judged, IsRight}
use Rattle.sieve_reader.specs.Lexeme.{is_pattern_sign, lexeme_of, lexemes, lexemes_from, Lexeme}
use Rattle.sieve_reader.specs.Outcome.{cause_of, fault_at, IsReadFault, IsReadFrom, IsRefusedFor, Refused}
use Rattle.sieve_reader.specs.Parse.{an_item, file, is_end, items, or_more, refusal, Parser, Read, ◌>>=◌}
use Rattle.sieve_reader.specs.Reads.{Gives, IsFault, IsRefused, Reads}
use Rattle.sieve_reader.specs.Refusal as told
use Rattle.sieve_reader.specs.Refusal.{place}
use Rattle.sieve_tree.specs.SieveView.{SieveView}
use Rattle.sieve_reader.specs.declared.fault.Cause.{Cause}
use Rattle.sieve_reader.specs.declared.fault.Cause.TheVariants as cause
use Rattle.sieve_reader.specs.declared.fault.Fault.{Fault}
use Rattle.sieve_reader.specs.declared.fault.Fault.TheVariants as faults
use Rattle.sieve_reader.specs.declared.sieve.SieveFault.{SieveFault}
use Rattle.sieve_reader.specs.declared.sieve.SieveFault.TheVariants as fault
use Rattle.sieve_tree.specs.declared.tree.SieveItem.{SieveItem}
use Rattle.sieve_reader.proofs.Cursors.{lexemes_len}
use Rattle.sieve_reader.proofs.Files.{file_complete, file_sound}
use Rattle.sieve_reader.proofs.FirstWrong.{first_wrong}
use Rattle.sieve_reader.proofs.OneSieve.{one_sieve}
use Rattle.sieve_reader.proofs.Picks.{bound, held}

-- ---- offsets

-- where the tokens behind so many begin
pub place_of : (end : ℕ) (text : List ℕ) (k : ℕ) (tokens : List Token) (before : ℕ) (t : Token) → k < length tokens → t ≡ get_or tokens k t → place end (drop k (lexemes_from before text tokens)) ≡ t.from
place_of end text k [] before t lt e = absurd (omega arith)
place_of end text zero (u ∷ us) before t lt e = ap (λ (x : Token). x.from) (sym e)
place_of end text (suc k) (u ∷ us) before t lt e = place_of end text k us (if is_pattern_sign (lexeme_of before text u).symbol then before + 1 else before) t (omega arith) e

pub place_end : (end : ℕ) (text : List ℕ) (k : ℕ) (tokens : List Token) (before : ℕ) → length tokens ≤ k → place end (drop k (lexemes_from before text tokens)) ≡ end
place_end end text zero [] before le = refl
place_end end text (suc k) [] before le = refl
place_end end text zero (u ∷ us) before le = absurd (omega arith)
place_end end text (suc k) (u ∷ us) before le = place_end end text k us (if is_pattern_sign (lexeme_of before text u).symbol then before + 1 else before) (omega arith)

module _ (text : List ℕ) (tokens : List Token) where
  -- a refused rest is the end of the tokens
  rest_of : (why : told.Cause) (rest : List Lexeme) → file judged 64 (lexemes text tokens) ≡ Err (refusal why rest) → (us : List Lexeme) × (lexemes text tokens ≡ us ++ rest)
  rest_of why rest e = let h = first_wrong why (lexemes text tokens) rest e in (h.0, h.1.split)

  pub left_fits : (why : told.Cause) (rest : List Lexeme) (left : ℕ) → file judged 64 (lexemes text tokens) ≡ Err (refusal why rest) → left ≡ length rest → left ≤ length tokens
  left_fits why rest left e same =
      let (us, at) = rest_of why rest e in
      omega (arith, same, ap length at ∙ length-append us rest, lexemes_len text tokens 0)

  pub rest_is : (why : told.Cause) (rest : List Lexeme) (left : ℕ) → file judged 64 (lexemes text tokens) ≡ Err (refusal why rest) → left ≡ length rest → drop (length tokens - left) (lexemes text tokens) ≡ rest
  rest_is why rest left e same =
      let (us, at) = rest_of why rest e in
      let long : length us ≡ length tokens - left = omega (arith, same, ap length at ∙ length-append us rest, lexemes_len text tokens 0) in
      ap (drop (length tokens - left)) at ∙ drop_at us rest (length tokens - left) long

  -- the refusal of what a function returned
  pub of_refused : (ls : List Lexeme) → ls ≡ lexemes text tokens → (f : Fault) (c : Cause) (left : ℕ) → f ≡ faults.Refused c left → Refused f (file judged 64 ls)
      → (rest : List Lexeme) × (file judged 64 (lexemes text tokens) ≡ Err (refusal (cause_of c) rest)) × (left ≡ length rest)
  of_refused ls same f c left is h =
      let (rest, e, long) = split (subst (λ x. Refused x (file judged 64 ls)) is h) in
      (rest, ap (file judged 64) (sym same) ∙ e, long)
    where
      split : Refused (faults.Refused c left) (file judged 64 ls) → (rest : List Lexeme) × (file judged 64 ls ≡ Err (refusal (cause_of c) rest)) × (left ≡ length rest)
      split h = h

  -- a refusal with its place
  pub told_at : (c : Cause) (at : ℕ) → IsRefusedFor text tokens (cause_of c) at → IsReadFault text tokens (fault_at c at)
  told_at cause.Expected at h = h
  told_at cause.Field at h = h
  told_at cause.Value at h = h
  told_at cause.Pattern at h = h
  told_at cause.Deep at h = h

-- ---- the text

-- things one behind the other are read up to where the test stops
items_end : {A : Type 0} (stops : List Lexeme → Bool) (thing : Parser A) (n : ℕ) (found : List A) (ls : List Lexeme) (xs : List A) (rest : List Lexeme) → items stops thing n found ls ≡ Ok (xs, rest) → stops rest ≡ true
unfolding items
items_end stops thing zero found ls xs rest e = absurd (cc)
items_end stops thing (suc n) found ls xs rest e = by (stops ls) refl e (λ f r h. items_end stops thing n f r xs rest h)
  where
    by : (b : Bool) → stops ls ≡ b → or_more b (thing ls >>= λ p. items stops thing n (found ++ p.0 ∷ []) p.1) found ls ≡ Ok (xs, rest) → ((f : List _) (r : List Lexeme) → items stops thing n f r ≡ Ok (xs, rest) → stops rest ≡ true) → stops rest ≡ true
    by true over e more = let same = held (found, ls) (xs, rest) e in subst (λ (l : List Lexeme). stops l ≡ true) (λ j. (same j).1) over
    by false on e more = let (p, read, later) = bound (thing ls) _ (xs, rest) e in more (found ++ p.0 ∷ []) p.1 later

ended : (rest : List Lexeme) → is_end rest ≡ true → rest ≡ []
ended [] e = refl
ended (l ∷ ls) e = absurd (cc)

module _ (text : List ℕ) (tokens : List Token) (are : AreTokens text tokens) where
  pub read_file : (xs : List SieveItem) → (rest : List Lexeme) × (file judged 64 (lexemes text tokens) ≡ Ok (xs, rest)) → IsFile IsRight 64 (lexemes text tokens) xs
  read_file xs read =
      let nothing : read.0 ≡ [] = ended read.0 (items_end is_end (an_item judged 64) (suc (length (lexemes text tokens))) [] (lexemes text tokens) xs read.0 read.1) in
      let whole : file judged 64 (lexemes text tokens) ≡ Ok (xs, []) = read.1 ∙ ap (λ (l : List Lexeme). Ok (xs, l)) nothing in
      file_sound judged 64 (lexemes text tokens) xs whole

  pub read_sound : (s : SieveView) → IsReadFrom text tokens s → Reads text s
  read_sound s h = (tokens, are, read_file s.items h.0, h.1, h.2)

  refused_for : (why : told.Cause) (at : ℕ) → IsRefusedFor text tokens why at → IsRefused text why at
  refused_for why at h =
      let (rest, read, place) = h in
      let (us, first) = first_wrong why (lexemes text tokens) rest read in
      (tokens, are, (us, rest, first, place))

  pub if_sound : (r : Result SieveView SieveFault) → IfOk r (IsReadFrom text tokens) → IfOk r (Reads text)
  if_sound (Ok s) h = read_sound s h
  if_sound (Err e) h = tt

  pub read_refused : (e : SieveFault) → IsReadFault text tokens e → IsFault text e
  read_refused (fault.Token at) h = absurd h
  read_refused (fault.Expected at) h = refused_for told.expected at h
  read_refused (fault.Field at) h = refused_for told.field at h
  read_refused (fault.Value at) h = refused_for told.value at h
  read_refused (fault.Pattern at) h = refused_for told.pattern at h
  read_refused (fault.Deep at) h = refused_for told.deep at h
  read_refused fault.OutOfMemory h = tt

  pub if_refused : (r : Result SieveView SieveFault) → IfErr r (IsReadFault text tokens) → IfErr r (IsFault text)
  if_refused (Ok s) h = tt
  if_refused (Err e) h = read_refused e h

  -- a text that writes a sieve isn't refused
  not_refused : (s : SieveView) (why : told.Cause) (at : ℕ) → Reads text s → IsRefusedFor text tokens why at → ⊥
  not_refused s why at writes h =
      let (others, also, is, patterns, paths) = writes in
      let same : others ≡ tokens = tokens_one text others tokens also are in
      let read = file_complete judged 64 (lexemes text tokens) s.items (subst (λ (t : List Token). IsFile IsRight 64 (lexemes text t) s.items) same is) in
      clash (sym h.1 ∙ read)
    where
      clash : ◌≡◌ {A = Read (List SieveItem)} (Err (refusal why h.0)) (Ok (s.items, [])) → ⊥
      clash e = absurd (cc)

  pub read_complete : (r : Result SieveView SieveFault) → IfOk r (IsReadFrom text tokens) → IfErr r (IsReadFault text tokens) → (s : SieveView) → Reads text s → Gives s r
  read_complete (Ok found) ok err s writes = one_sieve text found s (read_sound found ok) writes
  read_complete (Err (fault.Token at)) ok err s writes = absurd err
  read_complete (Err (fault.Expected at)) ok err s writes = not_refused s told.expected at writes err
  read_complete (Err (fault.Field at)) ok err s writes = not_refused s told.field at writes err
  read_complete (Err (fault.Value at)) ok err s writes = not_refused s told.value at writes err
  read_complete (Err (fault.Pattern at)) ok err s writes = not_refused s told.pattern at writes err
  read_complete (Err (fault.Deep at)) ok err s writes = not_refused s told.deep at writes err
  read_complete (Err fault.OutOfMemory) ok err s writes = tt

-- a text with a bad place writes no sieve
pub bad_writes_none : (text : List ℕ) (at : ℕ) → IsBadAt text at → (s : SieveView) → Reads text s → ⊥
bad_writes_none text at bad s writes = tokens_or_bad text writes.0 at writes.1 bad
