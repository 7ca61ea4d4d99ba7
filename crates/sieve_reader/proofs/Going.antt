-- What is read of a text is read of each text that begins alike: how far, with which state, and how it may be completed.
use Rattle.std.proofs.Common.{◌≡◌, ◌⊎◌, ℕ, suc, ◌<◌, ◌≤◌, Bool, true, false, List, [], ◌∷◌, ◌++◌, length, Option, Some, None, Ok, Err, refl, sym, ap, ◌∙◌, subst, inl, inr, arith, append_assoc, length-append}
use Rattle.sieve_tokens.specs.declared.sign.Sign.TheVariants as signs
use Rattle.sieve_tokens.specs.declared.word.Keyword.TheVariants as words
use Rattle.sieve_reader.specs.Lexeme as lex
use Rattle.sieve_reader.specs.Lexeme.{Lexeme, Symbol}
use Rattle.sieve_reader.specs.Parse.{read_map, refusal, sees, Parser, Read, ◌>>=◌}
use Rattle.sieve_reader.specs.Refusal as cause
use Rattle.sieve_reader.specs.Refusal.{head, nests, Cause}
use Rattle.sieve_reader.proofs.Windows as window
use Rattle.sieve_reader.proofs.Windows.{after, after_append, cause_of_leaf, clean, clean_append, leaf_at, right_leaf, step, State, Told}
use Rattle.std.proofs.lemmas.Bool.{and_from}

-- ---- what may follow

-- what makes a row or a choice longer
abbrev pub lengthens : Symbol → Bool
lengthens (lex.sign signs.And) = true
lengthens (lex.sign signs.Or) = true
lengthens (lex.sign signs.Comma) = true
lengthens (lex.key words.Elif) = true
lengthens (lex.key words.Else) = true
lengthens _ = false

abbrev pub Still : List Lexeme → Type 0
Still ls = sees lengthens ls ≡ false

-- what a completed text may be followed by: nothing, or what lengthens nothing
abbrev pub Tail : Bool → List Lexeme → Type 0
Tail true r = r ≡ []
Tail false r = Still r

pub tail_still : (b : Bool) (r : List Lexeme) → Tail b r → Still r
tail_still true r is = ap (sees lengthens) is
tail_still false r still = still

-- the same token stands there, or what may follow
abbrev pub Like : Bool → List Lexeme → List Lexeme → Type 0
Like b rest r = (head r ≡ head rest) ⊎ Tail b r

abbrev pub Fresh : List Lexeme → List Lexeme → Type 0
Fresh [] more = Still more
Fresh (u ∷ us) more = Unit {0}

-- these tokens can be completed
abbrev pub Completes : {B : Type 0} → Bool → Parser B → List Lexeme → Type 0
Completes {B} b q us = (more : List Lexeme) × (y : B) × ((r : List Lexeme) → Tail b r → Fresh us (more ++ r) × (q (us ++ (more ++ r)) ≡ Ok (y, r)))

-- up to each sign that nests, they can be
abbrev pub Opens : {B : Type 0} → Bool → ℕ → Parser B → List Lexeme → Type 0
Opens b e q us = (vs : List Lexeme) (l : Lexeme) (ws : List Lexeme) → us ≡ vs ++ l ∷ ws → nests l.symbol ≡ true → (0 < e) × Completes b q (vs ++ l ∷ [])

abbrev pub Long : Bool → List Lexeme → Type 0
Long true us = 0 < length us
Long false us = Unit {0}

-- ---- outcomes

-- the refused token, where it stands right by itself
abbrev pub seen : Cause → List Lexeme → List Lexeme
seen cause.expected rest = []
seen why [] = []
seen why (l ∷ ls) = l ∷ []

-- the reader of any words with so many levels refuses what the reader with fewer refused
abbrev pub Stays : ℕ → ℕ → Cause → Type 0
Stays d e cause.expected = Unit {0}
Stays d e cause.deep = e ≡ d
Stays d e why = ⊥

abbrev pub Blamed : Cause → State → Option Lexeme → Type 0
Blamed cause.expected s o = Unit {0}
Blamed why s None = ⊥
Blamed cause.deep s (Some l) = nests l.symbol ≡ true
Blamed why s (Some l) = Told s l why

pub record Passed {B : Type 0} (b : Bool) (e : ℕ) (Rel : B → Type 0) (w : Bool) (pre : State) (Post : State → Type 0) (q : Parser B) (ts rest : List Lexeme) : Type 0 where
  pub us : List Lexeme
  pub split : ts ≡ us ++ rest
  pub some : Long w us
  pub cleaned : clean pre us ≡ true
  pub state : Post (after pre us)
  pub opens : Opens b e q us
  pub y : B
  pub rel : Rel y
  pub passes : (r : List Lexeme) → Like b rest r → q (us ++ r) ≡ Ok (y, r)

pub record Stopped {B : Type 0} (b : Bool) (d e : ℕ) (pre : State) (q : Parser B) (why : Cause) (ts rest : List Lexeme) : Type 0 where
  pub us : List Lexeme
  pub split : ts ≡ us ++ rest
  pub cleaned : clean pre us ≡ true
  pub opens : Opens b e q us
  pub blamed : Blamed why (after pre us) (head rest)
  pub stays : Stays d e why → (r : List Lexeme) → head r ≡ head rest → q (us ++ r) ≡ Err (refusal why r)
  pub completes : d < e → Completes b q (us ++ seen why rest)

-- what the reader of right words with d levels gives, and what the reader of any words with e levels makes of texts that begin so
abbrev pub Ran : {A B : Type 0} → Bool → ℕ → ℕ → (A → B → Type 0) → Bool → State → (A → State → Type 0) → Parser B → List Lexeme → Read A → Type 0
Ran b d e Rel w pre Post q ts (Ok p) = Passed b e (Rel p.0) w pre (Post p.0) q ts p.1
Ran b d e Rel w pre Post q ts (Err (refusal why rest)) = Stopped b d e pre q why ts rest

abbrev pub Runs : {A B : Type 0} → Bool → ℕ → ℕ → (A → B → Type 0) → Bool → (State → Type 0) → (A → State → Type 0) → Parser A → Parser B → Type 0
Runs b d e Rel w Pre Post p q = (s : State) → Pre s → (ts : List Lexeme) → Ran b d e Rel w s Post q ts (p ts)

abbrev pub Any : {A B : Type 0} → A → B → Type 0
Any x y = Unit {0}

abbrev pub Is : State → State → Type 0
Is t s = s ≡ t

-- what a condition or an item stands behind: anything, or a name
abbrev pub Calm : State → Type 0
Calm window.other = Unit {0}
Calm (window.named key) = Unit {0}
Calm s = ⊥

abbrev pub always : {A : Type 0} → (State → Type 0) → A → State → Type 0
always P x s = P s

-- ---- lists

pub head_append : (us r rest : List Lexeme) → head r ≡ head rest → head (us ++ r) ≡ head (us ++ rest)
head_append [] r rest h = h
head_append (u ∷ us) r rest h = refl

pub like_append : (b : Bool) (us rest whole r : List Lexeme) → whole ≡ us ++ rest → Like b rest r → Like false whole (us ++ r)
like_append b [] rest whole r at (inl h) = inl (h ∙ ap head (sym at))
like_append b [] rest whole r at (inr h) = inr (tail_still b r h)
like_append b (u ∷ us) rest whole r at h = inl (ap head (sym at))

pub like_front : (us rest whole more : List Lexeme) → whole ≡ us ++ rest → Fresh us more → Like false whole (us ++ more)
like_front [] rest whole more at h = inr h
like_front (u ∷ us) rest whole more at h = inl (ap head (sym at))

pub fresh_append : (us vs more : List Lexeme) → Fresh vs more → Fresh (us ++ vs) more
fresh_append [] vs more h = h
fresh_append (u ∷ us) vs more h = tt

pub seen_front : (why : Cause) (rest : List Lexeme) → (behind : List Lexeme) × (rest ≡ seen why rest ++ behind)
seen_front cause.expected rest = (rest, refl)
seen_front cause.field [] = ([], refl)
seen_front cause.value [] = ([], refl)
seen_front cause.pattern [] = ([], refl)
seen_front cause.deep [] = ([], refl)
seen_front cause.field (l ∷ ls) = (ls, refl)
seen_front cause.value (l ∷ ls) = (ls, refl)
seen_front cause.pattern (l ∷ ls) = (ls, refl)
seen_front cause.deep (l ∷ ls) = (ls, refl)

-- a token of two parts stands in one of them
pub in_parts : (us ws vs : List Lexeme) (l : Lexeme) (ms : List Lexeme) → us ++ ws ≡ vs ++ l ∷ ms
    → ((xs : List Lexeme) × (us ≡ vs ++ l ∷ xs)) ⊎ ((ys : List Lexeme) × (vs ≡ us ++ ys) × (ws ≡ ys ++ l ∷ ms))
in_parts [] ws vs l ms e = inr (vs, refl, e)
in_parts (u ∷ us) ws [] l ms e = let first : u ≡ l = cc in inl (us, ap (λ (x : Lexeme). x ∷ us) first)
in_parts (u ∷ us) ws (v ∷ vs) l ms e =
    let first : u ≡ v = cc in
    let rest : us ++ ws ≡ vs ++ l ∷ ms = cc in
    elim (in_parts us ws vs l ms rest) [
      | inl h ↦ inl (h.0, (λ i. first i ∷ h.1 i))
      | inr h ↦ inr (h.0, (λ i. sym first i ∷ h.1 i), h.2)
    ]

pub no_opens : {B : Type 0} (b : Bool) (e : ℕ) (q : Parser B) → Opens b e q []
no_opens b e q [] l ws at n = absurd (cc)
no_opens b e q (v ∷ vs) l ws at n = absurd (cc)

-- ---- one reading behind another

module _ {B D : Type 0} (b : Bool) (d e : ℕ) (le : d ≤ e) (q : Parser B) (g : B × List Lexeme → Read D) (starts : (y : B) → 0 < e → Completes b (λ r. g (y, r)) []) where
  abbrev then : Parser D
  then r = q r >>= g

  pub bound_completes : (us : List Lexeme) → 0 < e → Completes false q us → Completes b then us
  bound_completes us some h =
      let (more, y, reads) = h in
      let (others, z, ends) = starts y some in (
        more ++ others,
        z,
        λ r tail.
            let last = ends r tail in
            let first = reads (others ++ r) last.0 in
            let at : (more ++ others) ++ r ≡ more ++ (others ++ r) = append_assoc more others r in
            (subst (Fresh us) (sym at) first.0, ap (λ (m : List Lexeme). then (us ++ m)) at ∙ (ap (λ x. x >>= g) first.1 ∙ last.1)),
      )

  module _ (Rel : B → Type 0) (w : Bool) (pre : State) (Mid : State → Type 0) (ts middle : List Lexeme) (s : Passed false e Rel w pre Mid q ts middle) where
    passed_completes : (vs behind : List Lexeme) → middle ≡ vs ++ behind → Completes b (λ r. g (s.y, r)) vs → Completes b then (s.us ++ vs)
    passed_completes vs behind at h =
        let (more, z, reads) = h in (
          more,
          z,
          λ r tail.
              let last = reads r tail in
              let first = s.passes (vs ++ (more ++ r)) (like_front vs behind middle (more ++ r) at last.0) in
              (fresh_append s.us vs (more ++ r) last.0, ap then (append_assoc s.us vs (more ++ r)) ∙ (ap (λ x. x >>= g) first ∙ last.1)),
        )

    passed_opens : (vs behind : List Lexeme) → middle ≡ vs ++ behind → Opens b e (λ r. g (s.y, r)) vs → Opens b e then (s.us ++ vs)
    passed_opens vs behind at opens ws l ms whole n = elim (in_parts s.us vs ws l ms whole) [
      | inl h ↦ let (some, completes) = s.opens ws l h.0 h.1 n in (some, bound_completes (ws ++ l ∷ []) some completes)
      | inr h ↦
          let (some, completes) = opens h.0 l ms h.2 n in
          let front : middle ≡ (h.0 ++ l ∷ []) ++ (ms ++ behind) =
          at ∙ (ap (λ (m : List Lexeme). m ++ behind) h.2 ∙ (append_assoc h.0 (l ∷ ms) behind ∙ sym (append_assoc h.0 (l ∷ []) (ms ++ behind)))) in
          let same : s.us ++ (h.0 ++ l ∷ []) ≡ ws ++ l ∷ [] = sym (append_assoc s.us h.0 (l ∷ [])) ∙ ap (λ (m : List Lexeme). m ++ l ∷ []) (sym h.1) in
          (some, subst (Completes b then) same (passed_completes (h.0 ++ l ∷ []) (ms ++ behind) front completes))
    ]

    module _ {C : Type 0} (Next : C → D → Type 0) (v : Bool) (Post : C → State → Type 0) (long : (us vs : List Lexeme) → Long w us → Long v vs → Long w (us ++ vs)) where
      behind : (r : Read C) → Ran b d e Next v (after pre s.us) Post (λ r. g (s.y, r)) middle r → Ran b d e Next w pre Post then ts r
      behind (Ok p) t = record {
        us = s.us ++ t.us;
        split = s.split ∙ (ap (λ (m : List Lexeme). s.us ++ m) t.split ∙ sym (append_assoc s.us t.us p.1));
        some = long s.us t.us s.some t.some;
        cleaned = clean_append pre s.us t.us s.cleaned t.cleaned;
        state = subst (Post p.0) (sym (after_append pre s.us t.us)) t.state;
        opens = passed_opens t.us p.1 t.split t.opens;
        y = t.y;
        rel = t.rel;
        passes = λ r like.
            ap then (append_assoc s.us t.us r) ∙ (ap (λ x. x >>= g) (s.passes (t.us ++ r) (like_append b t.us p.1 middle r t.split like)) ∙ t.passes r like);
      }
      behind (Err (refusal why rest)) t = record {
        us = s.us ++ t.us;
        split = s.split ∙ (ap (λ (m : List Lexeme). s.us ++ m) t.split ∙ sym (append_assoc s.us t.us rest));
        cleaned = clean_append pre s.us t.us s.cleaned t.cleaned;
        opens = passed_opens t.us rest t.split t.opens;
        blamed = subst (λ x. Blamed why x (head rest)) (sym (after_append pre s.us t.us)) t.blamed;
        stays = λ st r h.
            ap then (append_assoc s.us t.us r)
            ∙ (ap (λ x. x >>= g) (s.passes (t.us ++ r) (inl (head_append t.us r rest h ∙ ap head (sym t.split)))) ∙ t.stays st r h);
        completes = λ lt.
            let (more, at) = seen_front why rest in
            let front : middle ≡ (t.us ++ seen why rest) ++ more = t.split ∙ (ap (λ (m : List Lexeme). t.us ++ m) at ∙ sym (append_assoc t.us (seen why rest) more)) in
            subst (Completes b then) (sym (append_assoc s.us t.us (seen why rest))) (passed_completes (t.us ++ seen why rest) more front (t.completes lt));
      }

  pub bind_at : {A C : Type 0} (Rel : A → B → Type 0) (w : Bool) (pre : State) (Mid : A → State → Type 0) (Next : C → D → Type 0) (v : Bool) (Post : C → State → Type 0)
      → ((us vs : List Lexeme) → Long w us → Long v vs → Long w (us ++ vs))
      → (ts : List Lexeme) (r : Read A) (f : A × List Lexeme → Read C) → Ran false d e Rel w pre Mid q ts r
      → ((x : A) (y : B) (rest : List Lexeme) → r ≡ Ok (x, rest) → Rel x y → (s : State) → Mid x s → ((us : List Lexeme) → ts ≡ us ++ rest → Long w us → Ran b d e Next v s Post (λ r. g (y, r)) rest (f (x, rest))))
      → Ran b d e Next w pre Post then ts (r >>= f)
  bind_at Rel w pre Mid Next v Post long ts (Ok p) f s second =
      behind (Rel p.0) w pre (Mid p.0) ts p.1 s Next v Post long (f p) (second p.0 s.y p.1 refl s.rel (after pre s.us) s.state s.us s.split s.some)
  bind_at Rel w pre Mid Next v Post long ts (Err (refusal why rest)) f s second = record {
    us = s.us;
    split = s.split;
    cleaned = s.cleaned;
    opens = λ vs l ws at n. let (some, completes) = s.opens vs l ws at n in (some, bound_completes (vs ++ l ∷ []) some completes);
    blamed = s.blamed;
    stays = λ st r h. ap (λ x. x >>= g) (s.stays st r h);
    completes = λ lt. bound_completes (s.us ++ seen why rest) (omega (arith, lt)) (s.completes lt);
  }

pub long_any : (w v : Bool) (us vs : List Lexeme) → Long w us → Long v vs → Long w (us ++ vs)
long_any true v us vs some _ = omega (arith, length-append us vs, some)
long_any false v us vs _ _ = tt

module _ {A B C D : Type 0} (b : Bool) (d e : ℕ) (le : d ≤ e) where
  -- the plain form
  pub bind_runs : (Rel : A → B → Type 0) (w : Bool) (Pre : State → Type 0) (Mid : A → State → Type 0) (Next : C → D → Type 0) (v : Bool) (Post : C → State → Type 0)
      → (p : Parser A) (q : Parser B) (f : A × List Lexeme → Read C) (g : B × List Lexeme → Read D) → Runs false d e Rel w Pre Mid p q
      → ((x : A) (y : B) → Rel x y → Runs b d e Next v (Mid x) Post (λ r. f (x, r)) (λ r. g (y, r)))
      → ((y : B) → 0 < e → Completes b (λ r. g (y, r)) []) → Runs b d e Next w Pre Post (λ r. p r >>= f) (λ r. q r >>= g)
  bind_runs Rel w Pre Mid Next v Post p q f g first second starts s is ts =
      bind_at b d e le q g starts Rel w s Mid Next v Post (long_any w v) ts (p ts) f (first s is ts) (λ x y rest same rel t mid us at long. second x y rel t mid rest)

-- nothing more is read
pub pure_runs : {A B : Type 0} (b : Bool) (d e : ℕ) (Rel : A → B → Type 0) (Pre : State → Type 0) (Post : A → State → Type 0) (x : A) (y : B) → Rel x y → ((s : State) → Pre s → Post x s)
    → Runs b d e Rel false Pre Post (λ r. Ok (x, r)) (λ r. Ok (y, r))
pure_runs b d e Rel Pre Post x y rel same s is ts =
    record { us = []; split = refl; some = tt; cleaned = refl; state = same s is; opens = no_opens b e (λ r. Ok (y, r)); y = y; rel = rel; passes = λ r like. refl }

pub pure_starts : {B : Type 0} (b : Bool) (y : B) → Completes b (λ r. Ok (y, r)) []
pure_starts b y = ([], y, λ r tail. (tail_still b r tail, refl))

pub map_runs : {A B C D : Type 0} (d e : ℕ) (le : d ≤ e) (Rel : A → B → Type 0) (w : Bool) (Pre : State → Type 0) (Mid : A → State → Type 0) (Next : C → D → Type 0) (Post : C → State → Type 0)
    → (p : Parser A) (q : Parser B) (f : A → C) (g : B → D) → Runs false d e Rel w Pre Mid p q → ((x : A) (y : B) → Rel x y → Next (f x) (g y)) → ((x : A) (s : State) → Mid x s → Post (f x) s)
    → Runs false d e Next w Pre Post (λ r. read_map f (p r)) (λ r. read_map g (q r))
map_runs d e le Rel w Pre Mid Next Post p q f g first rel same =
    bind_runs false d e le Rel w Pre Mid Next false Post p q (λ x. Ok (f x.0, x.1)) (λ y. Ok (g y.0, y.1)) first
    (λ x y r. pure_runs false d e Next (Mid x) Post (f x) (g y) (rel x y r) (same x)) (λ y some. pure_starts false (g y))

-- ---- the first token

module _ {A B : Type 0} (b : Bool) (d e : ℕ) (Rel : A → B → Type 0) (pre : State) (Post : A → State → Type 0) (q inner : Parser B) (l : Lexeme) (ls : List Lexeme)
    (same : (r : List Lexeme) → q (l ∷ r) ≡ inner r) (right : right_leaf (leaf_at pre l.symbol) ≡ true)
    (opened : nests l.symbol ≡ true → (0 < e) × Completes b q (l ∷ [])) where
  front_completes : (us : List Lexeme) → Completes b inner us → Completes b q (l ∷ us)
  front_completes us h = (h.0, h.1, λ r tail. (tt, same (us ++ (h.0 ++ r)) ∙ (h.2 r tail).1))

  front_opens : (us : List Lexeme) → Opens b e inner us → Opens b e q (l ∷ us)
  front_opens us opens [] m ws at n =
      let is : l ≡ m = cc in
      subst (λ (x : Lexeme). (0 < e) × Completes b q (x ∷ [])) is (opened (ap (λ (x : Lexeme). nests x.symbol) is ∙ n))
  front_opens us opens (v ∷ vs) m ws at n =
      let is : l ≡ v = cc in
      let rest : us ≡ vs ++ m ∷ ws = cc in
      let (some, completes) = opens vs m ws rest n in
      (some, subst (λ (x : Lexeme). Completes b q (x ∷ (vs ++ m ∷ []))) is (front_completes (vs ++ m ∷ []) completes))

  pub front : (v : Bool) (r : Read A) → Ran b d e Rel v (step pre l.symbol) Post inner ls r → Ran b d e Rel true pre Post q (l ∷ ls) r
  front v (Ok p) s = record {
    us = l ∷ s.us;
    split = ap (λ (m : List Lexeme). l ∷ m) s.split;
    some = omega arith;
    cleaned = and_from (right_leaf (leaf_at pre l.symbol)) (clean (step pre l.symbol) s.us) right s.cleaned;
    state = s.state;
    opens = front_opens s.us s.opens;
    y = s.y;
    rel = s.rel;
    passes = λ r like. same (s.us ++ r) ∙ s.passes r like;
  }
  front v (Err (refusal why rest)) s = record {
    us = l ∷ s.us;
    split = ap (λ (m : List Lexeme). l ∷ m) s.split;
    cleaned = and_from (right_leaf (leaf_at pre l.symbol)) (clean (step pre l.symbol) s.us) right s.cleaned;
    opens = front_opens s.us s.opens;
    blamed = s.blamed;
    stays = λ st r h. same (s.us ++ r) ∙ s.stays st r h;
    completes = λ lt. front_completes (s.us ++ seen why rest) (s.completes lt);
  }

-- ---- the same reading of texts with the same first token

module _ {A B : Type 0} (b : Bool) (d e : ℕ) (Rel : A → B → Type 0) (pre : State) (Post : A → State → Type 0) (q inner : Parser B) (ts : List Lexeme)
    (same : (r : List Lexeme) → head r ≡ head ts → q r ≡ inner r) (starts : 0 < e → Completes b q []) where
  alike_completes : (us rest : List Lexeme) → ts ≡ us ++ rest → 0 < e → Completes b inner us → Completes b q us
  alike_completes [] rest at some h = starts some
  alike_completes (u ∷ us) rest at some h = (h.0, h.1, λ r tail. (tt, same (u ∷ (us ++ (h.0 ++ r))) (ap head (sym at)) ∙ (h.2 r tail).1))

  alike_opens : (us rest : List Lexeme) → ts ≡ us ++ rest → Opens b e inner us → Opens b e q us
  alike_opens us rest at opens vs l ws split n =
      let (some, completes) = opens vs l ws split n in
      let whole : ts ≡ (vs ++ l ∷ []) ++ (ws ++ rest) =
      at ∙ (ap (λ (m : List Lexeme). m ++ rest) split ∙ (append_assoc vs (l ∷ ws) rest ∙ sym (append_assoc vs (l ∷ []) (ws ++ rest)))) in
      (some, alike_completes (vs ++ l ∷ []) (ws ++ rest) whole some completes)

  long_head : (us rest r : List Lexeme) → 0 < length us → ts ≡ us ++ rest → head (us ++ r) ≡ head ts
  long_head [] rest r some at = absurd (omega arith)
  long_head (u ∷ us) rest r some at = ap head (sym at)

  pub alike : (r : Read A) → Ran b d e Rel true pre Post inner ts r → Ran b d e Rel true pre Post q ts r
  alike (Ok p) s = record {
    us = s.us;
    split = s.split;
    some = s.some;
    cleaned = s.cleaned;
    state = s.state;
    opens = alike_opens s.us p.1 s.split s.opens;
    y = s.y;
    rel = s.rel;
    passes = λ r like. same (s.us ++ r) (long_head s.us p.1 r s.some s.split) ∙ s.passes r like;
  }
  alike (Err (refusal why rest)) s = record {
    us = s.us;
    split = s.split;
    cleaned = s.cleaned;
    opens = alike_opens s.us rest s.split s.opens;
    blamed = s.blamed;
    stays = λ st r h. same (s.us ++ r) (head_append s.us r rest h ∙ ap head (sym s.split)) ∙ s.stays st r h;
    completes = λ lt.
        let (more, at) = seen_front why rest in
        let whole : ts ≡ (s.us ++ seen why rest) ++ more = s.split ∙ (ap (λ (m : List Lexeme). s.us ++ m) at ∙ sym (append_assoc s.us (seen why rest) more)) in
        alike_completes (s.us ++ seen why rest) more whole (omega (arith, lt)) (s.completes lt);
  }

-- no text has this token here
pub unexpected_here : {B : Type 0} (b : Bool) (d e : ℕ) (pre : State) (q : Parser B) (ts : List Lexeme) → ((r : List Lexeme) → head r ≡ head ts → q r ≡ Err (refusal cause.expected r))
    → (0 < e → Completes b q []) → Stopped b d e pre q cause.expected ts ts
unexpected_here b d e pre q ts stays starts =
    record { us = []; split = refl; cleaned = refl; opens = no_opens b e q; blamed = tt; stays = λ st r h. stays r h; completes = λ lt. starts (omega (arith, lt)) }

-- the sign nests too deep
pub deep_here : {B : Type 0} (b : Bool) (d e : ℕ) (pre : State) (q : Parser B) (l : Lexeme) (ls : List Lexeme) → nests l.symbol ≡ true
    → (e ≡ d → (r : List Lexeme) → head r ≡ Some l → q r ≡ Err (refusal cause.deep r)) → (d < e → Completes b q (l ∷ [])) → Stopped b d e pre q cause.deep (l ∷ ls) (l ∷ ls)
deep_here b d e pre q l ls n stays completes =
    record { us = []; split = refl; cleaned = refl; opens = no_opens b e q; blamed = n; stays = stays; completes = completes }

-- ---- one level more

module _ {A B : Type 0} (b : Bool) (d e : ℕ) (Rel : A → B → Type 0) (w : Bool) (pre : State) (Post : A → State → Type 0) (q : Parser B) (ts : List Lexeme) where
  lifted_opens : (us : List Lexeme) → Opens b e q us → Opens b (suc e) q us
  lifted_opens us opens vs l ws at n = let (some, completes) = opens vs l ws at n in (omega arith, completes)

  lifted_stays : (why : Cause) → Stays (suc d) (suc e) why → Stays d e why
  lifted_stays cause.expected st = tt
  lifted_stays cause.deep st = omega (arith, st)
  lifted_stays cause.field st = st
  lifted_stays cause.value st = st
  lifted_stays cause.pattern st = st

  pub lifted : (r : Read A) → Ran b d e Rel w pre Post q ts r → Ran b (suc d) (suc e) Rel w pre Post q ts r
  lifted (Ok p) s =
      record { us = s.us; split = s.split; some = s.some; cleaned = s.cleaned; state = s.state; opens = lifted_opens s.us s.opens; y = s.y; rel = s.rel; passes = s.passes }
  lifted (Err (refusal why rest)) s = record {
    us = s.us;
    split = s.split;
    cleaned = s.cleaned;
    opens = lifted_opens s.us s.opens;
    blamed = s.blamed;
    stays = λ st r h. s.stays (lifted_stays why st) r h;
    completes = λ lt. s.completes (omega (arith, lt));
  }
