-- Further bytes behind those that a cutter holds.
use Rattle.std.proofs.Common.{◌≡◌, ℕ, ◌+◌, ◌-◌, ◌*◌, ◌<◌, ◌≤◌, ◌==◌, ◌^◌, ⊎_elim, Bool, true, false, cond, ◌&&◌, nat_lt, Option, Some, None, MatchOption, IfSome, Result, Ok, Err, IfOk, IfErr, MatchBool, List, [], ◌∷◌, ◌++◌, length, take, drop, replicate, refl, sym, ap, ◌∙◌, subst, arith, append_assoc, length-append}
use Rattle.std.specs.Global.{Vec}
use Rattle.std.proofs.lemmas.Bool.{cond-true, cond-false, eq-eqb, ne_eqb, cases_eq, cases_Bool, MatchBool-at_true, MatchBool-at_false}
use Rattle.std.proofs.lemmas.List.{take_at, take-append-le, drop-append-le, length-replicate, length-drop}
use Rattle.report_cut.specs.Pieces.{Next, End, Long, longest_line}
use Rattle.report_cut.specs.Scan.{IsOneLine, IsOpen}
use Rattle.report_cut.specs.Cutter.{Cutting, ComeNext, HaveCome, ComesAt, StaysLong, behind_pieces, known_header, Follows, ShowsLong, MeetsLong, IsFaultOf}
use Rattle.report_cut.specs.Pending.{held_of, given_of, cutting_of, IsHeaderLine, IsHeaderOpen, IsBehindHeader, IsGrownHeader, IsGrownBehind, IsGrown, IsSound, room_of}
use Rattle.report_cut.specs.declared.piece.Cut.{Cut}
use Rattle.report_cut.specs.declared.piece.CutFault.{CutFault}
use Rattle.report_cut.specs.declared.piece.CutFault.TheVariants.{LongLine, OutOfMemory}
use Rattle.report_cut.specs.declared.pending.Pending.{Pending}

pub sound_open : (p : Pending) → IsSound p → p.in_header ≡ true → IsHeaderOpen p
sound_open p s is = MatchBool-at_true (IsHeaderOpen p) (IsBehindHeader p) is s.stands

pub sound_behind : (p : Pending) → IsSound p → p.in_header ≡ false → IsBehindHeader p
sound_behind p s is = MatchBool-at_false (IsHeaderOpen p) (IsBehindHeader p) is s.stands

-- the header is among the bytes
head_within : (p : Pending) → IsSound p → p.head ≤ length p.bytes.items
head_within p s =
    ⊎_elim (λ is. omega (arith, (sound_open p s is).in_header.head)) (λ is. (sound_behind p s is).header.within) (cases_Bool p.in_header)

pub held_grown : (p : Pending) (v : Vec ℕ) (piece : List ℕ) → v.items ≡ p.bytes.items ++ piece → IsSound p → held_of (record p { bytes = v }) ≡ held_of p ++ piece
held_grown p v piece e s =
    ⊎_elim
    (λ zero. cond-true (p.at == 0) _ _ (eq-eqb p.at 0 zero) ∙ e ∙ ap (λ xs. xs ++ piece) (sym (cond-true (p.at == 0) _ _ (eq-eqb p.at 0 zero))))
    (λ some. cond-false (p.at == 0) _ _ (ne_eqb p.at 0 some) ∙ ap (drop p.head) e ∙ drop-append-le p.head p.bytes.items piece (head_within p s) ∙ ap (λ xs. xs ++ piece) (sym (cond-false (p.at == 0) _ _ (ne_eqb p.at 0 some))))
    (cases_eq p.at 0)

take_grown : (p : Pending) (v : Vec ℕ) (piece : List ℕ) → v.items ≡ p.bytes.items ++ piece → IsSound p → take p.head v.items ≡ take p.head p.bytes.items
take_grown p v piece e s = ap (take p.head) e ∙ take-append-le p.head p.bytes.items piece (head_within p s)

given_grown : (p : Pending) (v : Vec ℕ) (piece : List ℕ) → v.items ≡ p.bytes.items ++ piece → IsSound p → given_of (record p { bytes = v }) ≡ given_of p
given_grown p v piece e s = ap (λ xs. cond (p.rule.replicate && nat_lt 0 p.at) (Some xs) None) (take_grown p v piece e s)

grown_in_header : (p : Pending) (v : Vec ℕ) (piece : List ℕ) → v.items ≡ p.bytes.items ++ piece → IsHeaderOpen p → IsGrownHeader (record p { bytes = v }) (length p.bytes.items)
grown_in_header p v piece e o =
    record {
      in_header = record { replicate = o.in_header.replicate; at = o.in_header.at; head = o.in_header.head; whole = o.in_header.whole };
      within = omega (arith, ap length e, length-append p.bytes.items piece);
      partial = subst IsOneLine (sym (ap (take (length p.bytes.items)) e ∙ take_at p.bytes.items piece (length p.bytes.items) refl)) o.partial;
    }

grown_behind : (p : Pending) (v : Vec ℕ) (piece : List ℕ) → v.items ≡ p.bytes.items ++ piece → IsSound p → IsBehindHeader p → IsGrownBehind (record p { bytes = v }) (length p.bytes.items)
grown_behind p v piece e s b =
    record {
      header = record {
        within = omega (arith, b.header.within, ap length e, length-append p.bytes.items piece);
        plain = b.header.plain;
        line = λ rep zero. subst IsHeaderLine (sym (take_grown p v piece e s)) (b.header.line rep zero);
      };
      short = b.short;
      read = record {
        lines = b.waiting.lines;
        opened = b.waiting.opened;
        rest = piece;
        split = ap (drop p.head) e ∙ drop-append-le p.head p.bytes.items piece b.header.within ∙ ap (λ xs. xs ++ piece) b.waiting.split ∙ append_assoc b.waiting.lines b.waiting.opened piece;
        run = b.waiting.run;
        partial = b.waiting.partial;
        at_whole = b.waiting.at_whole;
        at_seen = omega (arith, ap length b.waiting.split, length-append b.waiting.lines b.waiting.opened, b.waiting.at_whole, length-drop p.head p.bytes.items);
      };
    }

grown_stands : (t : Bool) (p : Pending) (v : Vec ℕ) (piece : List ℕ) → v.items ≡ p.bytes.items ++ piece → IsSound p → MatchBool t (IsHeaderOpen p) (IsBehindHeader p) → MatchBool t (IsGrownHeader (record p { bytes = v }) (length p.bytes.items)) (IsGrownBehind (record p { bytes = v }) (length p.bytes.items))
grown_stands true p v piece e s o = grown_in_header p v piece e o
grown_stands false p v piece e s b = grown_behind p v piece e s b

pub grown : (p : Pending) (v : Vec ℕ) (piece : List ℕ) → v.items ≡ p.bytes.items ++ piece → IsSound p → p.long ≡ None → p.at + length (held_of p) + length piece ≤ 2 ^ 63 → IsGrown (record p { bytes = v }) (length p.bytes.items)
grown p v piece e s none counted =
    record {
      chunk = s.chunk;
      counted = omega (arith, counted, ap length (held_grown p v piece e s), length-append (held_of p) piece);
      none_long = none;
      stands = grown_stands p.in_header p v piece e s s.stands;
    }

-- a cutter with this header
abbrev under : Pending → Option (List ℕ) → Cutting
under p header = record { rule = p.rule; header = header; at = p.at; held = []; long = None; ended = false }

pub next_grown : (p : Pending) (v : Vec ℕ) (piece : List ℕ) (cuts : List Cut) → v.items ≡ p.bytes.items ++ piece → IsSound p → ComeNext (cutting_of (record p { bytes = v }) false) (held_of (record p { bytes = v })) cuts → ComeNext (cutting_of p false) (held_of p ++ piece) cuts
next_grown p v piece cuts e s next =
    subst (λ o. ComeNext (under p o) (held_of p ++ piece) cuts) (given_grown p v piece e s) (subst (λ xs. ComeNext (under p (given_of (record p { bytes = v }))) xs cuts) (held_grown p v piece e s) next)

pub have_grown : (p : Pending) (v : Vec ℕ) (piece : List ℕ) (cuts : List Cut) → v.items ≡ p.bytes.items ++ piece → IsSound p → HaveCome (cutting_of (record p { bytes = v }) false) (held_of (record p { bytes = v })) cuts → HaveCome (cutting_of p false) (held_of p ++ piece) cuts
have_grown p v piece cuts e s have =
    subst (λ o. HaveCome (under p o) (held_of p ++ piece) cuts) (given_grown p v piece e s) (subst (λ xs. HaveCome (under p (given_of (record p { bytes = v }))) xs cuts) (held_grown p v piece e s) have)

pub comes_grown : (p : Pending) (v : Vec ℕ) (piece : List ℕ) (at : ℕ) (what : Next) → v.items ≡ p.bytes.items ++ piece → IsSound p → ComesAt (cutting_of (record p { bytes = v }) false) (held_of (record p { bytes = v })) at what → ComesAt (cutting_of p false) (held_of p ++ piece) at what
comes_grown p v piece at what e s comes =
    subst (λ o. ComesAt (under p o) (held_of p ++ piece) at what) (given_grown p v piece e s) (subst (λ xs. ComesAt (under p (given_of (record p { bytes = v }))) xs at what) (held_grown p v piece e s) comes)

pub stays_grown : (p : Pending) (v : Vec ℕ) (piece : List ℕ) (at line : ℕ) → v.items ≡ p.bytes.items ++ piece → IsSound p → StaysLong (cutting_of (record p { bytes = v }) false) (held_of (record p { bytes = v })) at line → StaysLong (cutting_of p false) (held_of p ++ piece) at line
stays_grown p v piece at line e s stays =
    subst (λ o. StaysLong (under p o) (held_of p ++ piece) at line) (given_grown p v piece e s) (subst (λ xs. StaysLong (under p (given_of (record p { bytes = v }))) xs at line) (held_grown p v piece e s) stays)

stays_grown_at : (long : Option ℕ) (P Q : ℕ → Type 0) → ((line : ℕ) → P line → Q line) → IfSome long P → IfSome long Q
stays_grown_at None P Q f some = tt
stays_grown_at (Some line) P Q f some = f line some

pub follows_grown : (p : Pending) (v : Vec ℕ) (piece : List ℕ) (cuts : List Cut) (new : Cutting) → v.items ≡ p.bytes.items ++ piece → IsSound p → Follows (cutting_of (record p { bytes = v }) false) (held_of (record p { bytes = v })) cuts new → Follows (cutting_of p false) (held_of p ++ piece) cuts new
follows_grown p v piece cuts new e s f =
    let held = held_grown p v piece e s in
    let given = given_grown p v piece e s in
    record {
      rule = f.rule;
      header = λ after. f.header after ∙ ap (λ xs. known_header (under p (given_of (record p { bytes = v }))) (xs ++ after) new.at) held ∙ ap (λ o. known_header (under p o) ((held_of p ++ piece) ++ after) new.at) given;
      within = (f.within.0, omega (arith, f.within.1, ap length held));
      at = f.at;
      held = subst (λ xs. MatchOption new.long (new.held ≡ drop (new.at - p.at) xs) (λ _. new.held ≡ [])) held f.held;
      behind = comes_grown p v piece new.at (behind_pieces new.long) e s f.behind;
      stays = stays_grown_at new.long (StaysLong (cutting_of (record p { bytes = v }) false) (held_of (record p { bytes = v })) new.at) (StaysLong (cutting_of p false) (held_of p ++ piece) new.at) (λ line. stays_grown p v piece new.at line e s) f.stays;
      ended = f.ended;
    }

-- a feed in front of the cutter
some_front : (n : ℕ) → (before : List ℕ) × (length before ≡ n)
some_front n = (replicate n 0, length-replicate n 0)

pub shows_none : (s : Cutting) (bytes : List ℕ) (at : ℕ) → s.long ≡ None → ShowsLong s bytes at → ComesAt s bytes s.at (Long at)
shows_none s bytes at none meets = subst (λ long. MatchOption long (ComesAt s bytes s.at (Long at)) (λ met. met ≡ at)) none meets

pub meets_from : (s : Cutting) (bytes : List ℕ) (at : ℕ) → s.long ≡ None → StaysLong s bytes s.at at → MeetsLong s bytes at
meets_from s bytes at none comes = subst (λ long. MatchOption long (StaysLong s bytes s.at at) (λ met. met ≡ at)) (sym none) comes

pub no_long_cuts : (s : Cutting) (bytes : List ℕ) (cuts : List Cut) (at : ℕ) → 0 < length cuts → HaveCome s bytes cuts → ComesAt s bytes s.at (Long at) → ⊥
no_long_cuts s bytes [] at any have comes = absurd (omega arith)
no_long_cuts s bytes (cut ∷ cuts) at any have comes =
    let before = some_front s.at in
    let piece = (have before.0 before.1).0 in
    let long = comes before.0 before.1 in
    cc

pub no_long_waits : (s : Cutting) (bytes : List ℕ) (at : ℕ) → ComesAt s bytes s.at End → ComesAt s bytes s.at (Long at) → ⊥
no_long_waits s bytes at waits comes =
    let before = some_front s.at in
    let end = waits before.0 before.1 in
    let long = comes before.0 before.1 in
    cc

-- the same bytes, in another vector
same_cutting : (p : Pending) (w : Vec ℕ) (long : Option ℕ) → w.items ≡ p.bytes.items → cutting_of (record p { bytes = w; long = long }) false ≡ record (cutting_of p false) { long = long }
same_cutting p w long e =
    ap (λ xs. record { rule = p.rule; header = cond (p.rule.replicate && nat_lt 0 p.at) (Some (take p.head xs)) None; at = p.at; held = cond (p.at == 0) xs (drop p.head xs); long = long; ended = false }) e

same_stands : (t : Bool) (p : Pending) (w : Vec ℕ) (long : Option ℕ) → w.items ≡ p.bytes.items → MatchBool t (IsHeaderOpen p) (IsBehindHeader p) → MatchBool t (IsHeaderOpen (record p { bytes = w; long = long })) (IsBehindHeader (record p { bytes = w; long = long }))
same_stands true p w long e o =
    record {
      in_header = record { replicate = o.in_header.replicate; at = o.in_header.at; head = o.in_header.head; whole = o.in_header.whole };
      partial = subst IsOneLine (sym e) o.partial;
      short = omega (arith, o.short, ap length e);
    }
same_stands false p w long e b =
    record {
      header = record {
        within = omega (arith, b.header.within, ap length e);
        plain = b.header.plain;
        line = λ rep zero. subst (λ xs. IsHeaderLine (take p.head xs)) (sym e) (b.header.line rep zero);
      };
      short = b.short;
      waiting = subst (λ xs. IsOpen (room_of p.rule p.head) (drop p.head xs) p.whole) (sym e) b.waiting;
    }

pub same_sound : (p : Pending) (w : Vec ℕ) (long : Option ℕ) → w.items ≡ p.bytes.items → IsSound p → IsSound (record p { bytes = w; long = long })
same_sound p w long e s =
    record {
      chunk = s.chunk;
      counted = omega (arith, s.counted, ap (λ xs. length (cond (p.at == 0) xs (drop p.head xs))) e);
      stands = same_stands p.in_header p w long e s.stands;
    }

-- what was put behind the bytes is taken off again
pub back_to : (items piece v w : List ℕ) → v ≡ items ++ piece → w ≡ take (length items) v → w ≡ items
back_to items piece v w e is = is ∙ ap (take (length items)) e ∙ take_at items piece (length items) refl

pub fault_long : (p : Pending) (v w : Vec ℕ) (piece : List ℕ) (at : ℕ) → v.items ≡ p.bytes.items ++ piece → w.items ≡ p.bytes.items → IsSound p → p.long ≡ None → StaysLong (cutting_of (record p { bytes = v }) false) (held_of (record p { bytes = v })) p.at at → MeetsLong (cutting_of p false) (held_of p ++ piece) at × (cutting_of (record p { bytes = w; long = Some at }) false ≡ record (cutting_of p false) { long = Some at })
fault_long p v w piece at e same s none comes =
    (meets_from (cutting_of p false) (held_of p ++ piece) at none (stays_grown p v piece p.at at e s comes), same_cutting p w (Some at) same)

bounded_open : (room : ℕ) (bytes : List ℕ) (whole : ℕ) → IsOpen room bytes whole → room ≤ longest_line → length bytes ≤ longest_line
bounded_open room bytes whole o small =
    ⊎_elim (λ none. omega (arith, none, ap length o.split, length-append o.lines o.opened, o.at_whole, o.short)) (λ has. omega (arith, has)) o.fits

held_within : (p : Pending) → length (held_of p) ≤ length p.bytes.items
held_within p =
    ⊎_elim
    (λ zero. omega (arith, ap length (cond-true (p.at == 0) p.bytes.items (drop p.head p.bytes.items) (eq-eqb p.at 0 zero))))
    (λ some. omega (arith, ap length (cond-false (p.at == 0) p.bytes.items (drop p.head p.bytes.items) (ne_eqb p.at 0 some)), length-drop p.head p.bytes.items))
    (cases_eq p.at 0)

-- a cutter holds no more than a header and a line
pub bounded : (p : Pending) → IsSound p → length (held_of p) ≤ 2 * longest_line
bounded p s =
    ⊎_elim
    (λ is. omega (arith, held_within p, (sound_open p s is).short))
    (λ is. let b = sound_behind p s is in omega (arith, held_within p, bounded_open (room_of p.rule p.head) (drop p.head p.bytes.items) p.whole b.waiting (omega (arith, s.chunk)), length-drop p.head p.bytes.items, b.short))
    (cases_Bool p.in_header)

held_counted : (long : Option ℕ) (old new : ℕ) (bytes held : List ℕ) → (old ≤ new) × (new ≤ old + length bytes) → MatchOption long (held ≡ drop (new - old) bytes) (λ _. held ≡ []) → new + length held ≤ old + length bytes
held_counted None old new bytes held within is = omega (arith, within.0, within.1, ap length is, length-drop (new - old) bytes)
held_counted (Some line) old new bytes held within is = omega (arith, within.1, ap length is)

-- no more bytes are counted than have come
pub counted_after : (p q : Pending) (piece : List ℕ) (r : Result (List Cut) CutFault) → IfOk r (λ cuts. Follows (cutting_of p false) (held_of p ++ piece) cuts (cutting_of q false)) → IfErr r (IsFaultOf (cutting_of p false) (held_of p ++ piece) (cutting_of q false)) → q.at + length (held_of q) ≤ p.at + length (held_of p) + length piece
counted_after p q piece (Ok cuts) f e = omega (arith, held_counted q.long p.at q.at (held_of p ++ piece) (held_of q) f.within f.held, length-append (held_of p) piece)
counted_after p q piece (Err (LongLine at)) f e = omega (arith, ap (λ s. s.at + length s.held) e.1)
counted_after p q piece (Err OutOfMemory) f e = omega (arith, ap (λ s. s.at + length s.held) e)
