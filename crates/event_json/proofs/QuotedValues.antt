-- The value of a text with its decimals under quotes is the value of the text, each decimal replaced.
use Rattle.std.proofs.Common.{◌≡◌, ℕ, zero, suc, ◌≤◌, Bool, true, false, List, [], ◌∷◌, ◌++◌, length, Option, Some, None, option_and_then, if◌then◌else◌, refl, sym, ap, subst, ◌∙◌, arith, length-append}
use Rattle.std.proofs.lemmas.Option.{none-some, same_Some}
use Rattle.json.specs.Token.{Token}
use Rattle.json.specs.Lex.{Lexeme, Place, may_begin, may_close, token, comma, colon, fresh, after_value, after_comma, after_key, lex, between, punctuate, place_token, if_allowed, begins_colon, tokens}
use Rattle.json.specs.Json as json
use Rattle.json.specs.Json.{Parse, parse_map, after_end_array, items_step, members_step, items, members, value_with, value}
use Rattle.scalar_text.specs.Quote as quoting
use Rattle.event_model.specs.Trees.{dec_key}
use Rattle.event_json.specs.Quoted.{quoted_value, quoted_items, quoted_members}
use Rattle.event_json.proofs.QuotedTokens.{IsGoodToken, AreGoodLexemes, decimal_lexemes, quoted_lexeme, quoted_lexemes, text_quoted}

abbrev AreGoodTokens : List Token → Type 0
AreGoodTokens [] = Unit {0}
AreGoodTokens (t ∷ ts) = IsGoodToken t × AreGoodTokens ts

abbrev decimal_tokens : List ℕ → List Token
decimal_tokens s = Token.begin_object ∷ Token.key dec_key ∷ Token.string s ∷ Token.end_object ∷ []

-- tokens, each decimal replaced
abbrev quoted_token : Token → List Token
quoted_token Token.begin_object = Token.begin_object ∷ []
quoted_token Token.end_object = Token.end_object ∷ []
quoted_token Token.begin_array = Token.begin_array ∷ []
quoted_token Token.end_array = Token.end_array ∷ []
quoted_token (Token.key s) = Token.key s ∷ []
quoted_token (Token.string s) = Token.string s ∷ []
quoted_token (Token.number s) = if quoting.is_decimal s then decimal_tokens s else Token.number s ∷ []
quoted_token (Token.boolean b) = Token.boolean b ∷ []
quoted_token Token.null = Token.null ∷ []
quoted_token Token.bad = Token.bad ∷ []

abbrev quoted_tokens : List Token → List Token
quoted_tokens [] = []
quoted_tokens (t ∷ ts) = quoted_token t ++ quoted_tokens ts

-- ---- from lexemes to tokens

colon_by : (d : Bool) (s : List ℕ) (ls : List Lexeme) → begins_colon ((if d then decimal_lexemes s else token (Token.number s) ∷ []) ++ ls) ≡ false
colon_by true s ls = refl
colon_by false s ls = refl

colon_stays : (ls : List Lexeme) → begins_colon (quoted_lexemes ls) ≡ begins_colon ls
colon_stays [] = refl
colon_stays (token Token.begin_object ∷ ls) = refl
colon_stays (token Token.end_object ∷ ls) = refl
colon_stays (token Token.begin_array ∷ ls) = refl
colon_stays (token Token.end_array ∷ ls) = refl
colon_stays (token (Token.key s) ∷ ls) = refl
colon_stays (token (Token.string s) ∷ ls) = refl
colon_stays (token (Token.number s) ∷ ls) = colon_by (quoting.is_decimal s) s (quoted_lexemes ls)
colon_stays (token (Token.boolean b) ∷ ls) = refl
colon_stays (token Token.null ∷ ls) = refl
colon_stays (token Token.bad ∷ ls) = refl
colon_stays (comma ∷ ls) = refl
colon_stays (colon ∷ ls) = refl

-- the lexemes are good, and the tokens of these quoted are their tokens quoted
record Punctuated (p : Place) (ls : List Lexeme) : Type 0 where
  good : AreGoodLexemes ls
  quoted : punctuate p (quoted_lexemes ls) ≡ quoted_tokens (punctuate p ls)

abbrev ArePunctuated : List Lexeme → Type 0
ArePunctuated ls = (p : Place) → AreGoodTokens (punctuate p ls) → Punctuated p ls

punctuate-token : (p : Place) (t : Token) (ls : List Lexeme) → punctuate p (token t ∷ ls) ≡ place_token p t (begins_colon ls) (λ next. punctuate next ls)
unfolding punctuate
punctuate-token fresh t ls = refl
punctuate-token after_value t ls = refl
punctuate-token after_comma t ls = refl
punctuate-token after_key t ls = refl

-- a token that stays, and the lexemes behind it
record Passed (ls : List Lexeme) (there here : List Token) : Type 0 where
  good : AreGoodLexemes ls
  quoted : there ≡ quoted_tokens here

passed : (b : Bool) (t : Token) (next : Place) (ls : List Lexeme) → ArePunctuated ls → quoted_token t ≡ t ∷ [] → AreGoodTokens (if_allowed b t (λ n. punctuate n ls) next)
    → Passed ls (if_allowed b t (λ n. punctuate n (quoted_lexemes ls)) next) (if_allowed b t (λ n. punctuate n ls) next)
passed true t next ls are stays h =
    let at = are next h.1 in
    record { good = at.good; quoted = ap (λ l. t ∷ l) at.quoted ∙ ap (λ l. l ++ quoted_tokens (punctuate next ls)) (sym stays) }
passed false t next ls are stays h = absurd h.0

may_of : (b : Bool) (t : Token) (k : Place → List Token) (next : Place) → AreGoodTokens (if_allowed b t k next) → (b ≡ true) × AreGoodTokens (k next)
may_of true t k next h = (refl, h.1)
may_of false t k next h = absurd h.0

number_by : (p : Place) (d : Bool) (s : List ℕ) (ls : List Lexeme) → may_begin p ≡ true → Punctuated after_value ls
    → punctuate p ((if d then decimal_lexemes s else token (Token.number s) ∷ []) ++ quoted_lexemes ls) ≡ (if d then decimal_tokens s else Token.number s ∷ []) ++ quoted_tokens (punctuate after_value ls)
unfolding punctuate
number_by p true s ls may at =
    let inside = token (Token.string dec_key) ∷ colon ∷ token (Token.string s) ∷ token Token.end_object ∷ quoted_lexemes ls in
    punctuate-token p Token.begin_object inside ∙ ap (λ t. if_allowed t Token.begin_object (λ n. punctuate n inside) fresh) may ∙ ap (λ l. decimal_tokens s ++ l) at.quoted
number_by p false s ls may at =
    punctuate-token p (Token.number s) (quoted_lexemes ls) ∙ ap (λ t. if_allowed t (Token.number s) (λ n. punctuate n (quoted_lexemes ls)) after_value) may ∙ ap (λ l. Token.number s ∷ l) at.quoted

number_passed : (p : Place) (s : List ℕ) (ls : List Lexeme) → ArePunctuated ls → AreGoodTokens (if_allowed (may_begin p) (Token.number s) (λ n. punctuate n ls) after_value)
    → Passed ls (punctuate p (quoted_lexeme (token (Token.number s)) ++ quoted_lexemes ls)) (if_allowed (may_begin p) (Token.number s) (λ n. punctuate n ls) after_value)
number_passed p s ls are h =
    let may = may_of (may_begin p) (Token.number s) (λ n. punctuate n ls) after_value h in
    let at = are after_value may.1 in
    record {
      good = at.good;
      quoted = number_by p (quoting.is_decimal s) s ls may.0 at ∙ ap (λ t. quoted_tokens (if_allowed t (Token.number s) (λ n. punctuate n ls) after_value)) (sym may.0);
    }

string_passed : (p : Place) (c : Bool) (s : List ℕ) (ls : List Lexeme) → ArePunctuated ls → AreGoodTokens (place_token p (Token.string s) c (λ n. punctuate n ls))
    → Passed ls (place_token p (Token.string s) c (λ n. punctuate n (quoted_lexemes ls))) (place_token p (Token.string s) c (λ n. punctuate n ls))
string_passed p true s ls are h = passed (may_begin p) (Token.key s) after_key ls are refl h
string_passed p false s ls are h = passed (may_begin p) (Token.string s) after_value ls are refl h

-- the token of a lexeme, at a place
record Placed (p : Place) (t : Token) (ls : List Lexeme) : Type 0 where
  good : IsGoodToken t
  more : AreGoodLexemes ls
  quoted : punctuate p (quoted_lexeme (token t) ++ quoted_lexemes ls) ≡ quoted_tokens (place_token p t (begins_colon ls) (λ n. punctuate n ls))

stayed : (p : Place) (t : Token) (ls : List Lexeme) → IsGoodToken t → quoted_lexeme (token t) ≡ token t ∷ []
    → Passed ls (place_token p t (begins_colon ls) (λ n. punctuate n (quoted_lexemes ls))) (place_token p t (begins_colon ls) (λ n. punctuate n ls)) → Placed p t ls
stayed p t ls good stays q = record {
  good = good;
  more = q.good;
  quoted = ap (λ l. punctuate p (l ++ quoted_lexemes ls)) stays ∙ punctuate-token p t (quoted_lexemes ls)
      ∙ ap (λ c. place_token p t c (λ n. punctuate n (quoted_lexemes ls))) (colon_stays ls) ∙ q.quoted;
}

placed : (p : Place) (t : Token) (ls : List Lexeme) → ArePunctuated ls → AreGoodTokens (place_token p t (begins_colon ls) (λ n. punctuate n ls)) → Placed p t ls
placed p Token.begin_object ls are h = stayed p Token.begin_object ls tt refl (passed (may_begin p) Token.begin_object fresh ls are refl h)
placed p Token.end_object ls are h = stayed p Token.end_object ls tt refl (passed (may_close p) Token.end_object after_value ls are refl h)
placed p Token.begin_array ls are h = stayed p Token.begin_array ls tt refl (passed (may_begin p) Token.begin_array fresh ls are refl h)
placed p Token.end_array ls are h = stayed p Token.end_array ls tt refl (passed (may_close p) Token.end_array after_value ls are refl h)
placed p (Token.key s) ls are h = absurd h.0
placed p (Token.string s) ls are h = stayed p (Token.string s) ls tt refl (string_passed p (begins_colon ls) s ls are h)
placed p (Token.number s) ls are h = let q = number_passed p s ls are h in record { good = tt; more = q.good; quoted = q.quoted }
placed p (Token.boolean b) ls are h = stayed p (Token.boolean b) ls tt refl (passed (may_begin p) (Token.boolean b) after_value ls are refl h)
placed p Token.null ls are h = stayed p Token.null ls tt refl (passed (may_begin p) Token.null after_value ls are refl h)
placed p Token.bad ls are h = absurd h.0

all_punctuated : (ls : List Lexeme) → ArePunctuated ls
unfolding punctuate
all_punctuated [] fresh h = record { good = tt; quoted = refl }
all_punctuated [] after_value h = record { good = tt; quoted = refl }
all_punctuated [] after_comma h = absurd h.0
all_punctuated [] after_key h = absurd h.0
all_punctuated (token t ∷ ls) p h =
    let at = placed p t ls (all_punctuated ls) (subst AreGoodTokens (punctuate-token p t ls) h) in
    record { good = (at.good, at.more); quoted = at.quoted ∙ ap quoted_tokens (sym (punctuate-token p t ls)) }
all_punctuated (comma ∷ ls) fresh h = absurd h.0
all_punctuated (comma ∷ ls) after_value h = let at = all_punctuated ls after_comma h in record { good = (tt, at.good); quoted = at.quoted }
all_punctuated (comma ∷ ls) after_comma h = absurd h.0
all_punctuated (comma ∷ ls) after_key h = absurd h.0
all_punctuated (colon ∷ ls) fresh h = absurd h.0
all_punctuated (colon ∷ ls) after_value h = absurd h.0
all_punctuated (colon ∷ ls) after_comma h = absurd h.0
all_punctuated (colon ∷ ls) after_key h = let at = all_punctuated ls fresh h in record { good = (tt, at.good); quoted = at.quoted }

-- ---- from tokens to a value

-- what is read is made of good tokens, if the rest is; and of these quoted it is read quoted
record Read {A : Type 0} (f : A → A) (ts rest : List Token) (a : A) (there : Option (A × List Token)) : Type 0 where
  good : AreGoodTokens ts
  quoted : there ≡ Some (f a, quoted_tokens rest)

abbrev IsQuoted : {A : Type 0} → (A → A) → Parse A → Parse A → Type 0
IsQuoted {A} f p q = (ts rest : List Token) (a : A) → p ts ≡ Some (a, rest) → AreGoodTokens rest → Read f ts rest a (q (quoted_tokens ts))

record Mapped {A B : Type 0} (f : A → B) (r : Option (A × List Token)) (b : B) (rest : List Token) : Type 0 where
  part : A
  read : r ≡ Some (part, rest)
  same : f part ≡ b

mapped : {A B : Type 0} (f : A → B) (r : Option (A × List Token)) (b : B) (rest : List Token) → parse_map f r ≡ Some (b, rest) → Mapped f r b rest
mapped f None b rest e = absurd (none-some (b, rest) e)
mapped f (Some p) b rest e =
    let pair = same_Some (f p.0, p.1) (b, rest) e in
    record { part = p.0; read = ap (λ x. Some (p.0, x.1)) pair; same = ap (λ x. x.0) pair }

record Chained {A B : Type 0} (f : A × List Token → Option B) (r : Option (A × List Token)) (b : B) : Type 0 where
  pair : A × List Token
  read : r ≡ Some pair
  on : f pair ≡ Some b

chained : {A B : Type 0} (f : A × List Token → Option B) (r : Option (A × List Token)) (b : B) → option_and_then f r ≡ Some b → Chained f r b
chained f None b e = absurd (none-some b e)
chained f (Some p) b e = record { pair = p; read = refl; on = e }

-- a value of one token
read_there : {A : Type 0} (f : A → A) (t : Token) (ts rest : List Token) (a b : A) (there : Option (A × List Token)) → IsGoodToken t → ◌≡◌ {A = Option (A × List Token)} (Some (a, ts)) (Some (b, rest)) → AreGoodTokens rest
    → there ≡ Some (f a, quoted_tokens ts) → Read f (t ∷ ts) rest b there
read_there f t ts rest a b there good e whole is =
    let pair = same_Some (a, ts) (b, rest) e in
    record { good = (good, subst AreGoodTokens (sym (ap (λ p. p.1) pair)) whole); quoted = is ∙ ap (λ p. Some (f p.0, quoted_tokens p.1)) pair }

-- what reads the members of an object reads those of one that stands for a decimal
abbrev ReadsDecimals : Parse json.Members → Type 0
ReadsDecimals o = (s : List ℕ) (ts : List Token) → o (Token.key dec_key ∷ Token.string s ∷ Token.end_object ∷ ts) ≡ Some (json.member dec_key (json.string s) json.no_members, ts)

number_read : (a : Parse json.Items) (o : Parse json.Members) (d : Bool) (s : List ℕ) (ts : List Token) → ReadsDecimals o
    → value_with a o ((if d then decimal_tokens s else Token.number s ∷ []) ++ ts) ≡ Some ((if d then json.object (json.member dec_key (json.string s) json.no_members) else json.number s), ts)
number_read a o true s ts reads = ap (parse_map json.object) (reads s ts)
number_read a o false s ts reads = refl

with_quoted : (a b : Parse json.Items) (o q : Parse json.Members) → ReadsDecimals q → IsQuoted quoted_items a b → IsQuoted quoted_members o q → IsQuoted quoted_value (value_with a o) (value_with b q)
with_quoted a b o q reads items_are members_are [] rest j e whole = absurd (none-some _ e)
with_quoted a b o q reads items_are members_are (Token.begin_object ∷ ts) rest j e whole =
    let m = mapped json.object (o ts) j rest e in
    let r = members_are ts rest m.part m.read whole in
    record { good = (tt, r.good); quoted = ap (parse_map json.object) r.quoted ∙ ap (λ v. Some (quoted_value v, quoted_tokens rest)) m.same }
with_quoted a b o q reads items_are members_are (Token.end_object ∷ ts) rest j e whole = absurd (none-some _ e)
with_quoted a b o q reads items_are members_are (Token.begin_array ∷ ts) rest j e whole =
    let m = mapped json.array (a ts) j rest e in
    let r = items_are ts rest m.part m.read whole in
    record { good = (tt, r.good); quoted = ap (parse_map json.array) r.quoted ∙ ap (λ v. Some (quoted_value v, quoted_tokens rest)) m.same }
with_quoted a b o q reads items_are members_are (Token.end_array ∷ ts) rest j e whole = absurd (none-some _ e)
with_quoted a b o q reads items_are members_are (Token.key s ∷ ts) rest j e whole = absurd (none-some _ e)
with_quoted a b o q reads items_are members_are (Token.string s ∷ ts) rest j e whole = read_there quoted_value (Token.string s) ts rest (json.string s) j _ tt e whole refl
with_quoted a b o q reads items_are members_are (Token.number s ∷ ts) rest j e whole =
    read_there quoted_value (Token.number s) ts rest (json.number s) j _ tt e whole (number_read b q (quoting.is_decimal s) s (quoted_tokens ts) reads)
with_quoted a b o q reads items_are members_are (Token.boolean t ∷ ts) rest j e whole = read_there quoted_value (Token.boolean t) ts rest (json.boolean t) j _ tt e whole refl
with_quoted a b o q reads items_are members_are (Token.null ∷ ts) rest j e whole = read_there quoted_value Token.null ts rest json.null j _ tt e whole refl
with_quoted a b o q reads items_are members_are (Token.bad ∷ ts) rest j e whole = absurd (none-some _ e)

-- the end of an array stays one
end_quoted : (ts behind : List Token) → after_end_array ts ≡ Some behind → AreGoodTokens behind → AreGoodTokens ts × (after_end_array (quoted_tokens ts) ≡ Some (quoted_tokens behind))
end_quoted [] behind e whole = absurd (none-some behind e)
end_quoted (Token.begin_object ∷ ts) behind e whole = absurd (none-some behind e)
end_quoted (Token.end_object ∷ ts) behind e whole = absurd (none-some behind e)
end_quoted (Token.begin_array ∷ ts) behind e whole = absurd (none-some behind e)
end_quoted (Token.end_array ∷ ts) behind e whole = ((tt, subst AreGoodTokens (sym (same_Some ts behind e)) whole), ap (λ l. Some (quoted_tokens l)) (same_Some ts behind e))
end_quoted (Token.key s ∷ ts) behind e whole = absurd (none-some behind e)
end_quoted (Token.string s ∷ ts) behind e whole = absurd (none-some behind e)
end_quoted (Token.number s ∷ ts) behind e whole = absurd (none-some behind e)
end_quoted (Token.boolean b ∷ ts) behind e whole = absurd (none-some behind e)
end_quoted (Token.null ∷ ts) behind e whole = absurd (none-some behind e)
end_quoted (Token.bad ∷ ts) behind e whole = absurd (none-some behind e)

no_end_by : (d : Bool) (s : List ℕ) (ts : List Token) → after_end_array ((if d then decimal_tokens s else Token.number s ∷ []) ++ ts) ≡ None
no_end_by true s ts = refl
no_end_by false s ts = refl

no_end : (ts : List Token) → after_end_array ts ≡ None → after_end_array (quoted_tokens ts) ≡ None
no_end [] e = refl
no_end (Token.begin_object ∷ ts) e = refl
no_end (Token.end_object ∷ ts) e = refl
no_end (Token.begin_array ∷ ts) e = refl
no_end (Token.end_array ∷ ts) e = absurd (none-some ts (sym e))
no_end (Token.key s ∷ ts) e = refl
no_end (Token.string s ∷ ts) e = refl
no_end (Token.number s ∷ ts) e = no_end_by (quoting.is_decimal s) s (quoted_tokens ts)
no_end (Token.boolean b ∷ ts) e = refl
no_end (Token.null ∷ ts) e = refl
no_end (Token.bad ∷ ts) e = refl

module _ (v w : Parse json.Json) (value_is : IsQuoted quoted_value v w) where
  items_by : (more later : Parse json.Items) → IsQuoted quoted_items more later → (ts : List Token) (end : Option (List Token)) → after_end_array ts ≡ end → (rest : List Token) (js : json.Items)
      → items_step v more ts end ≡ Some (js, rest) → AreGoodTokens rest → Read quoted_items ts rest js (items_step w later (quoted_tokens ts) (after_end_array (quoted_tokens ts)))
  items_by more later more_is ts (Some behind) at rest js e whole =
      let pair = same_Some (json.no_items, behind) (js, rest) e in
      let ends = end_quoted ts behind at (subst AreGoodTokens (sym (ap (λ p. p.1) pair)) whole) in
      record { good = ends.0; quoted = ap (items_step w later (quoted_tokens ts)) ends.1 ∙ ap (λ p. Some (quoted_items p.0, quoted_tokens p.1)) pair }
  items_by more later more_is ts None at rest js e whole =
      let c = chained (λ p. parse_map (json.item p.0) (more p.1)) (v ts) (js, rest) e in
      let m = mapped (json.item c.pair.0) (more c.pair.1) js rest c.on in
      let behind = more_is c.pair.1 rest m.part m.read whole in
      let here = value_is ts c.pair.1 c.pair.0 c.read behind.good in
      record {
        good = here.good;
        quoted = ap (items_step w later (quoted_tokens ts)) (no_end ts at)
            ∙ ap (option_and_then (λ p. parse_map (json.item p.0) (later p.1))) here.quoted
            ∙ ap (parse_map (json.item (quoted_value c.pair.0))) behind.quoted
            ∙ ap (λ l. Some (quoted_items l, quoted_tokens rest)) m.same;
      }

  items_quoted : (n m : ℕ) → n ≤ m → IsQuoted quoted_items (items v n) (items w m)
  unfolding items
  items_quoted zero m within ts rest js e whole = absurd (none-some _ e)
  items_quoted (suc n) zero within ts rest js e whole = absurd (omega (arith, within))
  items_quoted (suc n) (suc m) within ts rest js e whole = items_by (items v n) (items w m) (items_quoted n m (omega (arith, within))) ts (after_end_array ts) refl rest js e whole

  member_quoted : (more later : Parse json.Members) → IsQuoted quoted_members more later → (key : List ℕ) (ts rest : List Token) (ms : json.Members) → members_step v more (Some key) ts ≡ Some (ms, rest) → AreGoodTokens rest
      → Read quoted_members ts rest ms (members_step w later (Some key) (quoted_tokens ts))
  member_quoted more later more_is key ts rest ms e whole =
      let c = chained (λ p. parse_map (json.member key p.0) (more p.1)) (v ts) (ms, rest) e in
      let m = mapped (json.member key c.pair.0) (more c.pair.1) ms rest c.on in
      let behind = more_is c.pair.1 rest m.part m.read whole in
      let here = value_is ts c.pair.1 c.pair.0 c.read behind.good in
      record {
        good = here.good;
        quoted = ap (option_and_then (λ p. parse_map (json.member key p.0) (later p.1))) here.quoted
            ∙ ap (parse_map (json.member key (quoted_value c.pair.0))) behind.quoted
            ∙ ap (λ l. Some (quoted_members l, quoted_tokens rest)) m.same;
      }

  members_quoted : (n m : ℕ) → n ≤ m → IsQuoted quoted_members (members v n) (members w m)
  unfolding members
  members_quoted zero m within ts rest ms e whole = absurd (none-some _ e)
  members_quoted (suc n) zero within ts rest ms e whole = absurd (omega (arith, within))
  members_quoted (suc n) (suc m) within [] rest ms e whole = absurd (none-some _ e)
  members_quoted (suc n) (suc m) within (Token.begin_object ∷ ts) rest ms e whole = absurd (none-some _ e)
  members_quoted (suc n) (suc m) within (Token.end_object ∷ ts) rest ms e whole = read_there quoted_members Token.end_object ts rest json.no_members ms _ tt e whole refl
  members_quoted (suc n) (suc m) within (Token.begin_array ∷ ts) rest ms e whole = absurd (none-some _ e)
  members_quoted (suc n) (suc m) within (Token.end_array ∷ ts) rest ms e whole = absurd (none-some _ e)
  members_quoted (suc n) (suc m) within (Token.key s ∷ ts) rest ms e whole =
      let r = member_quoted (members v n) (members w m) (members_quoted n m (omega (arith, within))) s ts rest ms e whole in
      record { good = (tt, r.good); quoted = r.quoted }
  members_quoted (suc n) (suc m) within (Token.string s ∷ ts) rest ms e whole = absurd (none-some _ e)
  members_quoted (suc n) (suc m) within (Token.number s ∷ ts) rest ms e whole = absurd (none-some _ e)
  members_quoted (suc n) (suc m) within (Token.boolean b ∷ ts) rest ms e whole = absurd (none-some _ e)
  members_quoted (suc n) (suc m) within (Token.null ∷ ts) rest ms e whole = absurd (none-some _ e)
  members_quoted (suc n) (suc m) within (Token.bad ∷ ts) rest ms e whole = absurd (none-some _ e)

value_string : (depth : ℕ) (s : List ℕ) (ts : List Token) → value depth (Token.string s ∷ ts) ≡ Some (json.string s, ts)
unfolding value
value_string zero s ts = refl
value_string (suc depth) s ts = refl

decimal_members : (depth : ℕ) → ReadsDecimals (λ ts. members (value depth) (length ts) ts)
unfolding members
decimal_members depth s ts =
    ap (option_and_then (λ p. parse_map (json.member dec_key p.0) (members (value depth) (suc (suc (length ts))) p.1))) (value_string depth s (Token.end_object ∷ ts))

some_by : (d : Bool) (s : List ℕ) → 1 ≤ length (if d then decimal_tokens s else Token.number s ∷ [])
some_by true s = omega arith
some_by false s = omega arith

some_quoted : (t : Token) → 1 ≤ length (quoted_token t)
some_quoted Token.begin_object = omega arith
some_quoted Token.end_object = omega arith
some_quoted Token.begin_array = omega arith
some_quoted Token.end_array = omega arith
some_quoted (Token.key s) = omega arith
some_quoted (Token.string s) = omega arith
some_quoted (Token.number s) = some_by (quoting.is_decimal s) s
some_quoted (Token.boolean b) = omega arith
some_quoted Token.null = omega arith
some_quoted Token.bad = omega arith

no_fewer : (ts : List Token) → length ts ≤ length (quoted_tokens ts)
no_fewer [] = omega arith
no_fewer (t ∷ ts) = omega (arith, some_quoted t, no_fewer ts, length-append (quoted_token t) (quoted_tokens ts))

-- an object more may nest, which stands for a decimal
value_quoted : (depth : ℕ) → IsQuoted quoted_value (value depth) (value (suc depth))
unfolding value
value_quoted zero = with_quoted (λ ts. None) _ (λ ts. None) _ (decimal_members zero) (λ ts rest js e whole. absurd (none-some _ e)) (λ ts rest ms e whole. absurd (none-some _ e))
value_quoted (suc depth) =
    with_quoted (λ ts. items (value depth) (length ts) ts) _ (λ ts. members (value depth) (length ts) ts) _ (decimal_members (suc depth))
    (λ ts. items_quoted (value depth) (value (suc depth)) (value_quoted depth) (length ts) (length (quoted_tokens ts)) (no_fewer ts) ts)
    (λ ts. members_quoted (value depth) (value (suc depth)) (value_quoted depth) (length ts) (length (quoted_tokens ts)) (no_fewer ts) ts)

pub value_of_quoted : (depth : ℕ) (text : List ℕ) (j : json.Json) → value depth (tokens text) ≡ Some (j, []) → value (suc depth) (tokens (quoting.quote text)) ≡ Some (quoted_value j, [])
value_of_quoted depth text j read =
    let ls = lex between text in
    let r = value_quoted depth (tokens text) [] j read tt in
    let p = all_punctuated ls fresh r.good in
    ap (λ l. value (suc depth) (punctuate fresh l)) (text_quoted text p.good) ∙ ap (value (suc depth)) p.quoted ∙ r.quoted
