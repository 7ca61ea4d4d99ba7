-- What a cutter holds, seen as a header and the lines behind it.
use Rattle.std.proofs.Common.{◌≡◌, ℕ, ◌+◌, ◌-◌, ◌<◌, ◌≤◌, ◌==◌, ◌⊎◌, inl, ⊎_elim, ◌^◌, replicate, MatchBool, nat_le, Bool, true, false, cond, ◌&&◌, nat_lt, Option, Some, None, unwrap_or, MatchOption, IfSome, List, [], ◌++◌, length, take, drop, refl, sym, ap, ◌∙◌, subst, arith, append_assoc, length-append}
use Rattle.std.proofs.lemmas.Bool.{cond-true, cond-false, and_from, and_left, and_right, eq-eqb, ne_eqb, lt-ltb, le-ltb, lt-leb, le-leb, cases_lt, cases_Bool, cases_eq}
use Rattle.std.proofs.lemmas.List.{drop_at, take_at, append-nil, take-append-drop, length-take-le, length-drop, nil_from_length, drop-drop, drop_all, length-replicate}
use Rattle.base_types.specs.Lines.{lines_of, first_of, first_line}
use Rattle.report_cut.specs.Pieces.{Next, Piece, End, Long, longest_line, start_of, header_of, piece_of, next_under, is_finished, if_finished, next_so_far, AreNext, AreFinished, offset_behind}
use Rattle.report_cut.specs.Scan.{IsOneLine, IsOpen, IsLeft, IsCutting}
use Rattle.report_cut.specs.Cutter.{Cutting, header_in, ComeNext, HaveCome, ComesAt, StaysLong, behind_pieces, known_header, Follows}
use Rattle.report_cut.specs.Pending.{held_of, given_of, cutting_of, HasHeader, IsHeaderLine, IsInHeader, IsHeaderOpen, IsBehindHeader, IsSound, IsParted, IsLeftBehind, IsCutOff, end_of, room_of}
use Rattle.report_cut.specs.declared.piece.CutRule.{CutRule}
use Rattle.report_cut.specs.declared.piece.Cut.{Cut}
use Rattle.report_cut.specs.declared.lines.Parts.{Parts}
use Rattle.report_cut.specs.declared.pending.Pending.{Pending}
use Rattle.report_cut.proofs.LinesOf.{lines_of-append, first_line-one, first_line-grows}
use Rattle.report_cut.proofs.NextPiece.{open_so_far, long_next}
use Rattle.report_cut.proofs.Cutting.{start_of-some, place_is, split_fed, split_feed, length_front}

-- the feed's front up to the lines behind the header
pub record IsFront (p : Pending) (head : ℕ) (before : List ℕ) : Type 0 where
  pub front : List ℕ
  pub size : length front ≡ start_of p.rule (take head p.bytes.items) p.at
  pub feed : (after : List ℕ) → before ++ (held_of p ++ after) ≡ front ++ (drop head p.bytes.items ++ after)
  pub header : (after : List ℕ) → header_in (cutting_of p false) (before ++ (held_of p ++ after)) ≡ take head p.bytes.items

pub held_at_front : (p : Pending) → p.at ≡ 0 → held_of p ≡ p.bytes.items
held_at_front p zero = cond-true (p.at == 0) _ _ (eq-eqb p.at 0 zero)

held_behind : (p : Pending) → (p.at ≡ 0 → ⊥) → held_of p ≡ drop p.head p.bytes.items
held_behind p some = cond-false (p.at == 0) _ _ (ne_eqb p.at 0 some)

given_none : (p : Pending) → p.at ≡ 0 → given_of p ≡ None
given_none p zero = cond-false (p.rule.replicate && nat_lt 0 p.at) _ _ (and_right p.rule.replicate (nat_lt 0 p.at) (le-ltb 0 p.at (omega arith)))

given_plain : (p : Pending) → p.rule.replicate ≡ false → given_of p ≡ None
given_plain p plain = cond-false (p.rule.replicate && nat_lt 0 p.at) _ _ (and_left p.rule.replicate (nat_lt 0 p.at) plain)

given_some : (p : Pending) → p.rule.replicate ≡ true → (p.at ≡ 0 → ⊥) → given_of p ≡ Some (take p.head p.bytes.items)
given_some p rep some = cond-true (p.rule.replicate && nat_lt 0 p.at) _ _ (and_from p.rule.replicate (nat_lt 0 p.at) rep (lt-ltb 0 p.at (omega arith)))

header_line_first : (line more : List ℕ) → IsHeaderLine line → first_line (line ++ more) ≡ line
header_line_first line more is = ap first_of (lines_of-append line more is.whole) ∙ ap (λ ls. first_of (ls ++ lines_of more)) is.one

header_plain : (p : Pending) (head : ℕ) (feed : List ℕ) → HasHeader p head → p.rule.replicate ≡ false → header_in (cutting_of p false) feed ≡ take head p.bytes.items
header_plain p head feed has plain =
    ap (λ o. unwrap_or o (header_of p.rule feed)) (given_plain p plain) ∙ cond-false p.rule.replicate (first_line feed) [] plain ∙ ap (λ n. take n p.bytes.items) (sym (has.plain plain))

front_repeated : (p : Pending) (head : ℕ) (before : List ℕ) → HasHeader p head → p.at ≡ 0 → p.rule.replicate ≡ true → length before ≡ p.at → IsFront p head before
front_repeated p head before has zero rep at =
    let header : List ℕ = take head p.bytes.items in
    let lines : List ℕ = drop head p.bytes.items in
    let none : before ≡ [] = nil_from_length before (at ∙ zero) in
    let feed_is : (after : List ℕ) → before ++ (held_of p ++ after) ≡ header ++ (lines ++ after) =
    λ after. ap (λ xs. xs ++ (held_of p ++ after)) none ∙ ap (λ xs. xs ++ after) (held_at_front p zero ∙ sym (take-append-drop head p.bytes.items)) ∙ append_assoc header lines after in
    record {
      front = header;
      size = sym (cond-true (p.rule.replicate && (p.at == 0)) (length header) p.at (and_from p.rule.replicate (p.at == 0) rep (eq-eqb p.at 0 zero)));
      feed = feed_is;
      header = λ after. ap (λ o. unwrap_or o (header_of p.rule (before ++ (held_of p ++ after)))) (given_none p zero) ∙ cond-true p.rule.replicate (first_line (before ++ (held_of p ++ after))) [] rep ∙ ap first_line (feed_is after) ∙ header_line_first header (lines ++ after) (has.line rep zero);
    }

front_plain : (p : Pending) (head : ℕ) (before : List ℕ) → HasHeader p head → p.at ≡ 0 → p.rule.replicate ≡ false → length before ≡ p.at → IsFront p head before
front_plain p head before has zero plain at =
    record {
      front = before;
      size = at ∙ sym (cond-false (p.rule.replicate && (p.at == 0)) (length (take head p.bytes.items)) p.at (and_left p.rule.replicate (p.at == 0) plain));
      feed = λ after. ap (λ xs. before ++ (xs ++ after)) (held_at_front p zero ∙ ap (λ n. drop n p.bytes.items) (sym (has.plain plain)));
      header = λ after. header_plain p head (before ++ (held_of p ++ after)) has plain;
    }

header_given : (p : Pending) (head : ℕ) (feed : List ℕ) → HasHeader p head → head ≡ p.head → (p.at ≡ 0 → ⊥) → (t : Bool) → p.rule.replicate ≡ t → header_in (cutting_of p false) feed ≡ take head p.bytes.items
header_given p head feed has same some true rep =
    ap (λ o. unwrap_or o (header_of p.rule feed)) (given_some p rep some) ∙ ap (λ n. take n p.bytes.items) (sym same)
header_given p head feed has same some false plain = header_plain p head feed has plain

front_behind : (p : Pending) (head : ℕ) (before : List ℕ) → HasHeader p head → head ≡ p.head → (p.at ≡ 0 → ⊥) → length before ≡ p.at → IsFront p head before
front_behind p head before has same some at =
    record {
      front = before;
      size = at ∙ sym (start_of-some p.rule (take head p.bytes.items) p.at (omega arith));
      feed = λ after. ap (λ xs. before ++ (xs ++ after)) (held_behind p some ∙ ap (λ n. drop n p.bytes.items) (sym same));
      header = λ after. header_given p head (before ++ (held_of p ++ after)) has same some p.rule.replicate refl;
    }

pub front_of : (p : Pending) (head : ℕ) (before : List ℕ) → HasHeader p head → ((p.at ≡ 0) ⊎ (head ≡ p.head)) → length before ≡ p.at → IsFront p head before
front_of p head before has placed at =
    ⊎_elim
    (λ zero. ⊎_elim (λ rep. front_repeated p head before has zero rep at) (λ plain. front_plain p head before has zero plain at) (cases_Bool p.rule.replicate))
    (λ some. front_behind p head before has (⊎_elim (λ zero. absurd (some zero)) (λ same. same) placed) some at)
    (cases_eq p.at 0)

-- the same with nothing behind
pub front_fed : (p : Pending) (head : ℕ) (before : List ℕ) (f : IsFront p head before) → before ++ held_of p ≡ f.front ++ drop head p.bytes.items
front_fed p head before f =
    ap (λ xs. before ++ xs) (sym (append-nil (held_of p))) ∙ f.feed [] ∙ ap (λ xs. f.front ++ xs) (append-nil (drop head p.bytes.items))

pub front_header : (p : Pending) (head : ℕ) (before : List ℕ) → IsFront p head before → header_in (cutting_of p false) (before ++ held_of p) ≡ take head p.bytes.items
front_header p head before f = ap (λ xs. header_in (cutting_of p false) (before ++ xs)) (sym (append-nil (held_of p))) ∙ f.header []

pub come_next : (p : Pending) (head taken : ℕ) (cuts : List Cut) → HasHeader p head → ((p.at ≡ 0) ⊎ (head ≡ p.head)) → IsCutting p.rule (take head p.bytes.items) p.at (drop head p.bytes.items) cuts taken → ComeNext (cutting_of p false) (held_of p) cuts
come_next p head taken cuts has placed k = λ before after at.
    let f = front_of p head before has placed at in
    subst (λ h. AreNext p.rule h (before ++ (held_of p ++ after)) p.at cuts) (sym (f.header after)) (subst (λ feed. AreNext p.rule (take head p.bytes.items) feed p.at cuts) (sym (f.feed after)) (k.pieces f.front after f.size))

pub have_come : (p : Pending) (head taken : ℕ) (cuts : List Cut) → HasHeader p head → ((p.at ≡ 0) ⊎ (head ≡ p.head)) → IsCutting p.rule (take head p.bytes.items) p.at (drop head p.bytes.items) cuts taken → HaveCome (cutting_of p false) (held_of p) cuts
have_come p head taken cuts has placed k = λ before at.
    let f = front_of p head before has placed at in
    subst (λ h. AreFinished p.rule h (before ++ held_of p) p.at cuts) (sym (front_header p head before f)) (subst (λ fed. AreFinished p.rule (take head p.bytes.items) fed p.at cuts) (sym (front_fed p head before f)) (k.finished f.front f.size))

-- what comes next at an offset, seen behind the header
comes_at : (p : Pending) (head at : ℕ) (what : Next) → HasHeader p head → ((p.at ≡ 0) ⊎ (head ≡ p.head)) → ((front : List ℕ) → length front ≡ start_of p.rule (take head p.bytes.items) p.at → next_so_far p.rule (take head p.bytes.items) (front ++ drop head p.bytes.items) at ≡ what) → ComesAt (cutting_of p false) (held_of p) at what
comes_at p head at what has placed comes = λ before e.
    let f = front_of p head before has placed e in
    ap (λ h. next_so_far p.rule h (before ++ held_of p) at) (front_header p head before f) ∙ ap (λ fed. next_so_far p.rule (take head p.bytes.items) fed at) (front_fed p head before f) ∙ comes f.front f.size

-- where the lines of the first piece begin is no place before the offset
start_within : (p : Pending) (head : ℕ) → HasHeader p head → ((p.at ≡ 0) ⊎ (head ≡ p.head)) → p.at ≤ start_of p.rule (take head p.bytes.items) p.at
start_within p head has placed =
    ⊎_elim (λ zero. omega (arith, zero)) (λ some. omega (arith, start_of-some p.rule (take head p.bytes.items) p.at (omega arith))) (cases_eq p.at 0)

pub length_header : (p : Pending) (head : ℕ) → HasHeader p head → length (take head p.bytes.items) ≡ head
length_header p head has = length-take-le head p.bytes.items has.within

waits_behind : (p : Pending) (head : ℕ) (parts : Parts) → IsParted p head parts → parts.long ≡ false → ComesAt (cutting_of p false) (held_of p) (offset_behind p.at parts.cuts) End
waits_behind p head parts d waits =
    let header : List ℕ = take head p.bytes.items in
    let lines : List ℕ = drop head p.bytes.items in
    let k = d.cut.cutting in
    let size : length header ≡ head = length_header p head d.header in
    let place = place_is p.rule header p.at lines parts.cuts parts.taken k (start_within p head d.header d.placed) in
    let o : IsOpen (p.rule.chunk_size - length header) (drop parts.taken lines) parts.whole = subst (λ t. IsLeft t (p.rule.chunk_size - length header) (drop parts.taken lines) parts.whole) waits d.cut.left in
    comes_at p head (offset_behind p.at parts.cuts) End d.header d.placed (λ front e.
    let at_front = length_front front lines parts.taken (start_of p.rule header p.at) k.within e in
    ap (λ fed. next_so_far p.rule header fed (offset_behind p.at parts.cuts)) (split_fed front lines parts.taken)
    ∙ open_so_far p.rule header (front ++ take parts.taken lines) (drop parts.taken lines) (offset_behind p.at parts.cuts) parts.whole o (omega (arith, size, d.short)) (place.0 ∙ sym at_front))

-- what shows with nothing behind
pub shows_from_stays : (s : Cutting) (bytes : List ℕ) (at line : ℕ) → StaysLong s bytes at line → ComesAt s bytes at (Long line)
shows_from_stays s bytes at line stays = λ before e.
    ap (λ next. if_finished s.rule (header_in s (before ++ bytes)) (before ++ bytes) next) (ap (λ xs. next_under s.rule (header_in s (before ++ xs)) (before ++ xs) at) (sym (append-nil bytes)) ∙ stays before [] e)

stays_at : (p : Pending) (head at line : ℕ) → HasHeader p head → ((p.at ≡ 0) ⊎ (head ≡ p.head)) → ((front more : List ℕ) → length front ≡ start_of p.rule (take head p.bytes.items) p.at → next_under p.rule (take head p.bytes.items) (front ++ (drop head p.bytes.items ++ more)) at ≡ Long line) → StaysLong (cutting_of p false) (held_of p) at line
stays_at p head at line has placed stays = λ before after e.
    let f = front_of p head before has placed e in
    ap (λ h. next_under p.rule h (before ++ (held_of p ++ after)) at) (f.header after) ∙ ap (λ feed. next_under p.rule (take head p.bytes.items) feed at) (f.feed after) ∙ stays f.front after f.size

long_stays : (p : Pending) (head : ℕ) (parts : Parts) → IsParted p head parts → parts.long ≡ true → StaysLong (cutting_of p false) (held_of p) (offset_behind p.at parts.cuts) (end_of p head parts.taken)
long_stays p head parts d long =
    let header : List ℕ = take head p.bytes.items in
    let lines : List ℕ = drop head p.bytes.items in
    let k = d.cut.cutting in
    let size : length header ≡ head = length_header p head d.header in
    let place = place_is p.rule header p.at lines parts.cuts parts.taken k (start_within p head d.header d.placed) in
    let over = subst (λ t. IsLeft t (p.rule.chunk_size - length header) (drop parts.taken lines) parts.whole) long d.cut.left in
    stays_at p head (offset_behind p.at parts.cuts) (end_of p head parts.taken) d.header d.placed (λ front more e.
    let at_front = length_front front lines parts.taken (start_of p.rule header p.at) k.within e in
    ap (λ feed. next_under p.rule header feed (offset_behind p.at parts.cuts)) (split_feed front lines more parts.taken)
    ∙ long_next p.rule header (front ++ take parts.taken lines) (drop parts.taken lines) more (offset_behind p.at parts.cuts) over.0 (omega (arith, place.1, at_front)) (omega (arith, size, d.short)) (place.0 ∙ sym at_front)
    ∙ ap Long at_front)

-- the rest that is kept
abbrev rest_of : Pending → ℕ → Parts → List ℕ
rest_of p head parts = cond parts.long [] (drop parts.taken (drop head p.bytes.items))

-- the feed is as long in front as it is behind the header
pub count_is : (p : Pending) (head : ℕ) → HasHeader p head → ((p.at ≡ 0) ⊎ (head ≡ p.head)) → p.at + length (held_of p) ≡ start_of p.rule (take head p.bytes.items) p.at + length (drop head p.bytes.items)
count_is p head has placed =
    let before : List ℕ = replicate p.at 0 in
    let at : length before ≡ p.at = length-replicate p.at 0 in
    let f = front_of p head before has placed at in
    omega (arith, at, f.size, length-append before (held_of p), length-append f.front (drop head p.bytes.items), ap length (front_fed p head before f))

open_nothing : (room : ℕ) → IsOpen room [] 0
open_nothing room = record { lines = []; opened = []; split = refl; run = record { whole = refl; fits = inl (omega arith); short = omega arith }; partial = refl; at_whole = refl; fits = inl refl; short = omega arith }

open_rest_at : (t : Bool) (room : ℕ) (rest : List ℕ) (whole : ℕ) → IsLeft t room rest whole → IsOpen room (cond t [] rest) whole
open_rest_at true room rest whole left = subst (IsOpen room []) (sym left.1) (open_nothing room)
open_rest_at false room rest whole left = left

open_rest : (p : Pending) (head : ℕ) (parts : Parts) → IsParted p head parts → IsOpen (room_of p.rule head) (rest_of p head parts) parts.whole
open_rest p head parts d =
    subst (λ n. IsOpen (p.rule.chunk_size - n) (rest_of p head parts) parts.whole) (length_header p head d.header) (open_rest_at parts.long (p.rule.chunk_size - length (take head p.bytes.items)) (drop parts.taken (drop head p.bytes.items)) parts.whole d.cut.left)

length_rest_at : (t : Bool) (rest : List ℕ) → length (cond t [] rest) ≤ length rest
length_rest_at true rest = omega arith
length_rest_at false rest = omega arith

held_same : (p : Pending) (head whole : ℕ) (in_header : Bool) → ((p.at ≡ 0) ⊎ (head ≡ p.head)) → held_of (record p { head = head; whole = whole; in_header = in_header }) ≡ held_of p
held_same p head whole in_header placed =
    ⊎_elim
    (λ zero. held_at_front (record p { head = head; whole = whole; in_header = in_header }) zero ∙ sym (held_at_front p zero))
    (λ same. ap (λ n. cond (p.at == 0) p.bytes.items (drop n p.bytes.items)) same)
    placed

pub sound_waits : (p : Pending) (head : ℕ) (parts : Parts) → IsParted p head parts → parts.long ≡ false → parts.taken ≡ 0 → IsSound (record p { head = head; whole = parts.whole; in_header = false })
sound_waits p head parts d waits none =
    let rest : rest_of p head parts ≡ drop head p.bytes.items = cond-false parts.long [] (drop parts.taken (drop head p.bytes.items)) waits ∙ ap (λ n. drop n (drop head p.bytes.items)) none in
    record {
      chunk = d.chunk;
      counted = omega (arith, d.counted, ap length (held_same p head parts.whole false d.placed));
      stands = record {
        header = record { within = d.header.within; plain = d.header.plain; line = d.header.line };
        short = d.short;
        waiting = subst (λ xs. IsOpen (room_of p.rule head) xs parts.whole) rest (open_rest p head parts d);
      };
    }

waits_at : (p : Pending) (head : ℕ) (parts : Parts) → IsParted p head parts → parts.long ≡ false → parts.taken ≡ 0 → ComesAt (cutting_of p false) (held_of p) p.at End
waits_at p head parts d waits none =
    subst (λ cuts. ComesAt (cutting_of p false) (held_of p) (offset_behind p.at cuts) End) (d.cut.cutting.none none) (waits_behind p head parts d waits)

pub long_at_start : (p : Pending) (head : ℕ) (parts : Parts) → IsParted p head parts → parts.long ≡ true → parts.taken ≡ 0 → StaysLong (cutting_of p false) (held_of p) p.at (start_of p.rule (take head p.bytes.items) p.at)
long_at_start p head parts d long none =
    let start : ℕ = start_of p.rule (take head p.bytes.items) p.at in
    subst (λ n. StaysLong (cutting_of p false) (held_of p) p.at n) (ap (λ n. start + n) none ∙ omega arith) (subst (λ cuts. StaysLong (cutting_of p false) (held_of p) (offset_behind p.at cuts) (end_of p head parts.taken)) (d.cut.cutting.none none) (long_stays p head parts d long))

rest_held : (p : Pending) (head : ℕ) (parts : Parts) (left : Pending) → IsParted p head parts → IsLeftBehind p head parts left → drop left.head left.bytes.items ≡ rest_of p head parts
rest_held p head parts left d l =
    ap (λ n. drop n left.bytes.items) l.head_is ∙ ap (drop head) l.bytes ∙ drop_at (take head p.bytes.items) (rest_of p head parts) head (length_header p head d.header)

header_held : (p : Pending) (head : ℕ) (parts : Parts) (left : Pending) → IsParted p head parts → IsLeftBehind p head parts left → take left.head left.bytes.items ≡ take head p.bytes.items
header_held p head parts left d l =
    ap (λ n. take n left.bytes.items) l.head_is ∙ ap (take head) l.bytes ∙ take_at (take head p.bytes.items) (rest_of p head parts) head (length_header p head d.header)

left_at : (p : Pending) (head : ℕ) (parts : Parts) (left : Pending) → IsLeftBehind p head parts left → 0 < parts.taken → left.at ≡ 0 → ⊥
left_at p head parts left l some zero = omega (arith, l.at)

pub sound_left : (p : Pending) (head : ℕ) (parts : Parts) (left : Pending) → IsParted p head parts → IsLeftBehind p head parts left → 0 < parts.taken → IsSound left
sound_left p head parts left d l some =
    let lines : List ℕ = drop head p.bytes.items in
    let rest = rest_held p head parts left d l in
    let held : held_of left ≡ rest_of p head parts = held_behind left (left_at p head parts left l some) ∙ rest in
    let size = length_rest_at parts.long (drop parts.taken lines) in
    let behind : IsBehindHeader left = record {
      header = record {
        within = omega (arith, l.head_is, ap length l.bytes, length-append (take head p.bytes.items) (rest_of p head parts), length_header p head d.header);
        plain = λ plain. l.head_is ∙ d.header.plain (ap (λ r. r.replicate) (sym l.rule) ∙ plain);
        line = λ _ zero. absurd (left_at p head parts left l some zero);
      };
      short = omega (arith, l.head_is, d.short);
      waiting = subst (λ n. IsOpen (room_of left.rule left.head) (drop left.head left.bytes.items) n) (sym l.whole) (subst (λ xs. IsOpen (room_of left.rule left.head) xs parts.whole) (sym rest) (subst (λ r. IsOpen (room_of r left.head) (rest_of p head parts) parts.whole) (sym l.rule) (subst (λ n. IsOpen (room_of p.rule n) (rest_of p head parts) parts.whole) (sym l.head_is) (open_rest p head parts d))));
    } in
    record {
      chunk = subst (λ r. r.chunk_size ≤ longest_line) (sym l.rule) d.chunk;
      counted = omega (arith, d.counted, count_is p head d.header d.placed, l.at, ap length held, size, length-drop parts.taken lines, d.cut.cutting.within);
      stands = subst (λ t. MatchBool t (IsHeaderOpen left) (IsBehindHeader left)) (sym l.in_header) behind;
    }

-- the header, seen in what is held and comes behind
header_in_held : (p : Pending) (head : ℕ) (after : List ℕ) → HasHeader p head → ((p.at ≡ 0) ⊎ (head ≡ p.head)) → header_in (cutting_of p false) (held_of p ++ after) ≡ take head p.bytes.items
header_in_held p head after has placed =
    ⊎_elim
    (λ zero. (front_of p head [] has placed (sym zero)).header after)
    (λ some. header_given p head (held_of p ++ after) has (⊎_elim (λ zero. absurd (some zero)) (λ same. same) placed) some p.rule.replicate refl)
    (cases_eq p.at 0)

known_at : (t u : Bool) (xs ys : List ℕ) → xs ≡ ys → cond (t && u) (Some xs) None ≡ cond (t && u) (Some ys) None
known_at t u xs ys e = ap (λ zs. cond (t && u) (Some zs) None) e

known_is : (p : Pending) (head : ℕ) (parts : Parts) (left : Pending) (after : List ℕ) → IsParted p head parts → IsLeftBehind p head parts left → given_of left ≡ known_header (cutting_of p false) (held_of p ++ after) left.at
known_is p head parts left after d l =
    ap (λ r. cond (r.replicate && nat_lt 0 left.at) (Some (take left.head left.bytes.items)) None) l.rule
    ∙ known_at p.rule.replicate (nat_lt 0 left.at) _ _ (header_held p head parts left d l ∙ sym (header_in_held p head after d.header d.placed))

-- the lines behind the pieces, seen in what is held
tail_held : (p : Pending) (head taken : ℕ) → HasHeader p head → ((p.at ≡ 0) ⊎ (head ≡ p.head)) → drop ((start_of p.rule (take head p.bytes.items) p.at + taken) - p.at) (held_of p) ≡ drop taken (drop head p.bytes.items)
tail_held p head taken has placed =
    let before : List ℕ = replicate p.at 0 in
    let at : length before ≡ p.at = length-replicate p.at 0 in
    let start : ℕ = start_of p.rule (take head p.bytes.items) p.at in
    let f = front_of p head before has placed at in
    let first : drop (start + taken) (before ++ held_of p) ≡ drop ((start + taken) - p.at) (held_of p) =
    ap (λ n. drop n (before ++ held_of p)) (omega (arith, start_within p head has placed)) ∙ sym (drop-drop ((start + taken) - p.at) p.at (before ++ held_of p)) ∙ ap (drop ((start + taken) - p.at)) (drop_at before (held_of p) p.at at) in
    let second : drop (start + taken) (f.front ++ drop head p.bytes.items) ≡ drop taken (drop head p.bytes.items) =
    sym (drop-drop taken start (f.front ++ drop head p.bytes.items)) ∙ ap (drop taken) (drop_at f.front (drop head p.bytes.items) start f.size) in
    sym first ∙ ap (drop (start + taken)) (front_fed p head before f) ∙ second

held_left_at : (t : Bool) (end : ℕ) (rest tail held : List ℕ) (long : Option ℕ) → long ≡ cond t (Some end) None → held ≡ cond t [] rest → tail ≡ rest → MatchOption long (held ≡ tail) (λ _. held ≡ [])
held_left_at true end rest tail held long is e same = rw is e
held_left_at false end rest tail held long is e same = rw is (e ∙ sym same)

behind_left_at : (t : Bool) (end : ℕ) (long : Option ℕ) (P : Next → Type 0) → long ≡ cond t (Some end) None → (t ≡ true → P (Long end)) → (t ≡ false → P End) → P (behind_pieces long)
behind_left_at true end long P is over waits = rw is (over refl)
behind_left_at false end long P is over waits = rw is (waits refl)

stays_left_at : (t : Bool) (end : ℕ) (long : Option ℕ) (P : ℕ → Type 0) → long ≡ cond t (Some end) None → (t ≡ true → P end) → IfSome long P
stays_left_at true end long P is over = rw is (over refl)
stays_left_at false end long P is over = rw is tt

pub follows_left : (p : Pending) (head : ℕ) (parts : Parts) (left : Pending) → IsParted p head parts → IsLeftBehind p head parts left → 0 < parts.taken → Follows (cutting_of p false) (held_of p) parts.cuts (cutting_of left false)
follows_left p head parts left d l some =
    let lines : List ℕ = drop head p.bytes.items in
    let end : ℕ = end_of p head parts.taken in
    let at : left.at ≡ offset_behind p.at parts.cuts = l.at ∙ sym (d.cut.cutting.some some) in
    let held : held_of left ≡ rest_of p head parts = held_behind left (left_at p head parts left l some) ∙ rest_held p head parts left d l in
    let tail : drop (left.at - p.at) (held_of p) ≡ drop parts.taken lines = ap (λ n. drop (n - p.at) (held_of p)) l.at ∙ tail_held p head parts.taken d.header d.placed in
    record {
      rule = l.rule;
      header = λ after. known_is p head parts left after d l;
      at = at;
      within = (omega (arith, l.at, start_within p head d.header d.placed), omega (arith, l.at, count_is p head d.header d.placed, d.cut.cutting.within));
      held = held_left_at parts.long end (drop parts.taken lines) (drop (left.at - p.at) (held_of p)) (held_of left) left.long l.long held tail;
      behind = subst (λ n. ComesAt (cutting_of p false) (held_of p) n (behind_pieces left.long)) (sym at) (behind_left_at parts.long end left.long (λ what. ComesAt (cutting_of p false) (held_of p) (offset_behind p.at parts.cuts) what) l.long (λ is. shows_from_stays (cutting_of p false) (held_of p) (offset_behind p.at parts.cuts) end (long_stays p head parts d is)) (waits_behind p head parts d));
      stays = subst (λ n. IfSome left.long (StaysLong (cutting_of p false) (held_of p) n)) (sym at) (stays_left_at parts.long end left.long (StaysLong (cutting_of p false) (held_of p) (offset_behind p.at parts.cuts)) l.long (long_stays p head parts d));
      ended = refl;
    }

pub cut_off_left : (p : Pending) (head : ℕ) (parts : Parts) (left : Pending) → IsParted p head parts → IsLeftBehind p head parts left → 0 < parts.taken → IsCutOff p parts.cuts left
cut_off_left p head parts left d l some =
    record {
      next = come_next p head parts.taken parts.cuts d.header d.placed d.cut.cutting;
      finished = have_come p head parts.taken parts.cuts d.header d.placed d.cut.cutting;
      any = d.cut.cutting.any some;
      sound = sound_left p head parts left d l some;
      follows = follows_left p head parts left d l some;
    }

-- where the header is still coming
pub header_fed : (p : Pending) (before : List ℕ) → p.at ≡ 0 → length before ≡ p.at → before ++ held_of p ≡ p.bytes.items
header_fed p before zero at = ap (λ xs. xs ++ held_of p) (nil_from_length before (at ∙ zero)) ∙ held_at_front p zero

pub open_header : (p : Pending) (before : List ℕ) → IsInHeader p → IsOneLine p.bytes.items → length before ≡ p.at → header_in (cutting_of p false) (before ++ held_of p) ≡ p.bytes.items
open_header p before is one at =
    ap (λ o. unwrap_or o (header_of p.rule (before ++ held_of p))) (given_none p is.at) ∙ cond-true p.rule.replicate (first_line (before ++ held_of p)) [] is.replicate ∙ ap first_line (header_fed p before is.at at) ∙ first_line-one p.bytes.items one

-- what comes next where the header alone has come
pub header_alone : (rule : CutRule) (header : List ℕ) → rule.replicate ≡ true → 0 < length header → length header ≤ longest_line → next_under rule header header 0 ≡ Piece (record { piece = header; upto = length header })
header_alone rule header rep some short =
    let room : ℕ = rule.chunk_size - length header in
    cond-false (nat_le (length header) 0) End _ (lt-leb (length header) 0 some) ∙ cond-false (nat_lt longest_line (length header)) (Long 0) _ (le-ltb longest_line (length header) short)
    ∙ ap (λ s. piece_of header room s (lines_of (drop s header))) (cond-true (rule.replicate && (0 == 0)) (length header) 0 (and_from rule.replicate (0 == 0) rep refl))
    ∙ ap (λ xs. piece_of header room (length header) (lines_of xs)) (drop_all (length header) header (omega arith))

header_unfinished : (rule : CutRule) (header : List ℕ) → is_finished rule header header (record { piece = header; upto = length header }) ≡ false
header_unfinished rule header = and_left _ _ (and_right _ _ (le-ltb (length header) (length header) (omega arith)))

header_waits : (rule : CutRule) (header : List ℕ) → rule.replicate ≡ true → length header ≤ longest_line → next_so_far rule header header 0 ≡ End
header_waits rule header rep short =
    ⊎_elim
    (λ some. ap (if_finished rule header header) (header_alone rule header rep some short) ∙ cond-false _ _ _ (header_unfinished rule header))
    (λ none. ap (if_finished rule header header) (cond-true (nat_le (length header) 0) End _ (le-leb (length header) 0 none)))
    (cases_lt 0 (length header))

header_too_long : (rule : CutRule) (header feed : List ℕ) (at : ℕ) → at ≡ 0 → 0 < length feed → longest_line < length header → next_under rule header feed at ≡ Long 0
header_too_long rule header feed at zero some over =
    cond-false (nat_le (length feed) at) End _ (lt-leb (length feed) at (omega (arith, zero, some))) ∙ cond-true (nat_lt longest_line (length header)) (Long 0) _ (lt-ltb longest_line (length header) over)

in_header_comes : (p : Pending) (what : Next) → IsInHeader p → IsOneLine p.bytes.items → next_so_far p.rule p.bytes.items p.bytes.items 0 ≡ what → ComesAt (cutting_of p false) (held_of p) p.at what
in_header_comes p what is one comes = λ before at.
    ap (λ h. next_so_far p.rule h (before ++ held_of p) p.at) (open_header p before is one at) ∙ ap (λ fed. next_so_far p.rule p.bytes.items fed p.at) (header_fed p before is.at at) ∙ ap (next_so_far p.rule p.bytes.items p.bytes.items) is.at ∙ comes

in_header_waits : (p : Pending) → IsInHeader p → IsOneLine p.bytes.items → length p.bytes.items ≤ longest_line → ComesAt (cutting_of p false) (held_of p) p.at End
in_header_waits p is one short = in_header_comes p End is one (header_waits p.rule p.bytes.items is.replicate short)

-- the header of a longer feed is no shorter
longer_header : (p : Pending) (before after : List ℕ) → IsInHeader p → IsOneLine p.bytes.items → length before ≡ p.at → length p.bytes.items ≤ length (header_in (cutting_of p false) (before ++ (held_of p ++ after)))
longer_header p before after is one at =
    let feed : before ++ (held_of p ++ after) ≡ p.bytes.items ++ after = sym (append_assoc before (held_of p) after) ∙ ap (λ xs. xs ++ after) (header_fed p before is.at at) in
    let header = ap (λ o. unwrap_or o (header_of p.rule (before ++ (held_of p ++ after)))) (given_none p is.at) ∙ cond-true p.rule.replicate (first_line (before ++ (held_of p ++ after))) [] is.replicate ∙ ap first_line feed in
    omega (arith, ap length header, first_line-grows p.bytes.items after, ap length (first_line-one p.bytes.items one))

pub in_header_long : (p : Pending) → IsInHeader p → IsOneLine p.bytes.items → longest_line < length p.bytes.items → StaysLong (cutting_of p false) (held_of p) p.at 0
in_header_long p is one over = λ before after at.
    header_too_long p.rule (header_in (cutting_of p false) (before ++ (held_of p ++ after))) (before ++ (held_of p ++ after)) p.at is.at (omega (arith, over, length-append before (held_of p ++ after), length-append (held_of p) after, ap length (held_at_front p is.at))) (omega (arith, over, longer_header p before after is one at))

known_nothing : (p : Pending) (xs ys : List ℕ) → p.at ≡ 0 → cond (p.rule.replicate && nat_lt 0 p.at) (Some xs) None ≡ cond (p.rule.replicate && nat_lt 0 p.at) (Some ys) None
known_nothing p xs ys zero =
    let no : (p.rule.replicate && nat_lt 0 p.at) ≡ false = and_right p.rule.replicate (nat_lt 0 p.at) (le-ltb 0 p.at (omega arith)) in
    cond-false (p.rule.replicate && nat_lt 0 p.at) (Some xs) None no ∙ sym (cond-false (p.rule.replicate && nat_lt 0 p.at) (Some ys) None no)

held_none : (at : ℕ) (held new : List ℕ) (long : Option ℕ) → long ≡ None → new ≡ held → MatchOption long (new ≡ drop (at - at) held) (λ _. new ≡ [])
held_none at held new long none same =
    let zero : 0 ≡ at - at = omega arith in rw none (same ∙ ap (λ n. drop n held) zero)

-- where nothing is handed out, the cutter holds what has come
follows_none : (p : Pending) (head whole : ℕ) (in_header : Bool) → ((p.at ≡ 0) ⊎ (head ≡ p.head)) → p.long ≡ None → ((after : List ℕ) → given_of (record p { head = head; whole = whole; in_header = in_header }) ≡ known_header (cutting_of p false) (held_of p ++ after) p.at) → ComesAt (cutting_of p false) (held_of p) p.at End → Follows (cutting_of p false) (held_of p) [] (cutting_of (record p { head = head; whole = whole; in_header = in_header }) false)
follows_none p head whole in_header placed none known waits =
    record {
      rule = refl;
      header = known;
      at = refl;
      within = (omega arith, omega arith);
      held = held_none p.at (held_of p) (held_of (record p { head = head; whole = whole; in_header = in_header })) p.long none (held_same p head whole in_header placed);
      behind = subst (λ long. ComesAt (cutting_of p false) (held_of p) p.at (behind_pieces long)) (sym none) waits;
      stays = subst (λ long. IfSome long (StaysLong (cutting_of p false) (held_of p) p.at)) (sym none) tt;
      ended = refl;
    }

pub follows_waits : (p : Pending) (head : ℕ) (parts : Parts) → IsParted p head parts → parts.long ≡ false → parts.taken ≡ 0 → Follows (cutting_of p false) (held_of p) [] (cutting_of (record p { head = head; whole = parts.whole; in_header = false }) false)
follows_waits p head parts d waits none =
    follows_none p head parts.whole false d.placed d.none_long (λ after. known_at p.rule.replicate (nat_lt 0 p.at) _ _ (sym (header_in_held p head after d.header d.placed))) (waits_at p head parts d waits none)

pub follows_in_header : (p : Pending) → p.long ≡ None → IsInHeader p → IsOneLine p.bytes.items → length p.bytes.items ≤ longest_line → Follows (cutting_of p false) (held_of p) [] (cutting_of (record p { head = 0; whole = 0; in_header = true }) false)
follows_in_header p none is one short =
    follows_none p 0 0 true (inl is.at) none (λ after. known_nothing p (take 0 p.bytes.items) (header_in (cutting_of p false) (held_of p ++ after)) is.at) (in_header_waits p is one short)

pub sound_in_header : (p : Pending) → p.rule.chunk_size ≤ longest_line → p.at + length (held_of p) < 2 ^ 64 → IsInHeader p → IsOneLine p.bytes.items → length p.bytes.items ≤ longest_line → IsSound (record p { head = 0; whole = 0; in_header = true })
sound_in_header p chunk counted is one short =
    record {
      chunk = chunk;
      counted = omega (arith, counted, ap length (held_same p 0 0 true (inl is.at)));
      stands = record { in_header = record { replicate = is.replicate; at = is.at; head = refl; whole = refl }; partial = one; short = short };
    }

-- the header has come whole, and is too long
pub header_long : (p : Pending) (head : ℕ) → HasHeader p head → IsInHeader p → longest_line < head → StaysLong (cutting_of p false) (held_of p) p.at 0
header_long p head has is over =
    let header : List ℕ = take head p.bytes.items in
    let size : length header ≡ head = length_header p head has in
    let start : start_of p.rule header p.at ≡ length header = cond-true (p.rule.replicate && (p.at == 0)) (length header) p.at (and_from p.rule.replicate (p.at == 0) is.replicate (eq-eqb p.at 0 is.at)) in
    stays_at p head p.at 0 has (inl is.at) (λ front more e. header_too_long p.rule header (front ++ (drop head p.bytes.items ++ more)) p.at is.at (omega (arith, e, start, size, over, length-append front (drop head p.bytes.items ++ more))) (omega (arith, size, over)))
