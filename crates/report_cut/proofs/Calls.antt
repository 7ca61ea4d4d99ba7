-- What the calls of a cutter hand out of a feed.
use Rattle.std.proofs.Common.{◌≡◌, ℕ, ◌+◌, ◌-◌, ◌≤◌, ◌⊎◌, inl, inr, ⊎_elim, true, false, cond, ◌&&◌, nat_lt, Some, None, MatchOption, IfSome, unwrap_or, List, [], ◌∷◌, ◌++◌, length, take, drop, refl, sym, ap, ◌∙◌, subst, arith, append_assoc, length-append}
use Rattle.std.proofs.lemmas.Bool.{cond-true, cond-false, and_from, and_left, and_right, lt-ltb, le-ltb, cases_Bool, cases_eq}
use Rattle.std.proofs.lemmas.List.{take-append-drop, length-take-le, drop-drop, drop-append-le, append-nil, length-drop}
use Rattle.base_types.specs.Lines.{first_line}
use Rattle.report_cut.specs.Pieces.{Next, End, Long, header_of, next_under, AreNext, IsCutUnder, offset_behind}
use Rattle.report_cut.specs.Cutter.{Cutting, header_in, ComeNext, StaysLong, Follows, CutsAll}
use Rattle.report_cut.specs.Standing.{IsIn, Knows, Reached}
use Rattle.report_cut.specs.Laws.{beginning, Call, AreCalls, all_bytes, all_cuts, HandOut}
use Rattle.report_cut.specs.declared.piece.CutRule.{CutRule}
use Rattle.report_cut.specs.declared.piece.Cut.{Cut}

AreNext-append : (rule : CutRule) (header feed : List ℕ) (at : ℕ) (xs ys : List Cut) → AreNext rule header feed at xs → AreNext rule header feed (offset_behind at xs) ys → AreNext rule header feed at (xs ++ ys)
AreNext-append rule header feed at [] ys first second = second
AreNext-append rule header feed at (x ∷ xs) ys first second = (first.0, AreNext-append rule header feed x.upto xs ys first.1 second)

offset_behind-append : (at : ℕ) (xs ys : List Cut) → offset_behind at (xs ++ ys) ≡ offset_behind (offset_behind at xs) ys
offset_behind-append at [] ys = refl
offset_behind-append at (x ∷ xs) ys = offset_behind-append x.upto xs ys

-- the feed, cut where the cutter stands
whole_feed : (rule : CutRule) (feed : List ℕ) (s : Cutting) (bytes rest : List ℕ) → IsIn rule feed s (bytes ++ rest) → take s.at feed ++ ((s.held ++ bytes) ++ rest) ≡ feed
whole_feed rule feed s bytes rest i =
    ap (λ xs. take s.at feed ++ xs) (append_assoc s.held bytes rest ∙ sym i.feed_is) ∙ take-append-drop s.at feed

pub come_in : (rule : CutRule) (feed : List ℕ) (s : Cutting) (bytes rest : List ℕ) (cuts : List Cut) → Knows rule feed s → IsIn rule feed s (bytes ++ rest) → ComeNext s (s.held ++ bytes) cuts → AreNext rule (header_of rule feed) feed s.at cuts
come_in rule feed s bytes rest cuts k i next =
    let are = next (take s.at feed) rest (length-take-le s.at feed i.within) in
    let here = subst (λ xs. AreNext s.rule (header_in s xs) xs s.at cuts) (whole_feed rule feed s bytes rest i) are in
    subst (λ h. AreNext rule h feed s.at cuts) k.header_is (subst (λ r. AreNext r (header_in s feed) feed s.at cuts) k.rule_is here)

pub stays_in : (rule : CutRule) (feed : List ℕ) (s : Cutting) (bytes rest : List ℕ) (at line : ℕ) → Knows rule feed s → IsIn rule feed s (bytes ++ rest) → StaysLong s (s.held ++ bytes) at line → next_under rule (header_of rule feed) feed at ≡ Long line
stays_in rule feed s bytes rest at line k i stays =
    let long = stays (take s.at feed) rest (length-take-le s.at feed i.within) in
    let here = subst (λ xs. next_under s.rule (header_in s xs) xs at ≡ Long line) (whole_feed rule feed s bytes rest i) long in
    subst (λ h. next_under rule h feed at ≡ Long line) k.header_is (subst (λ r. next_under r (header_in s feed) feed at ≡ Long line) k.rule_is here)

-- what comes behind the front of the feed
behind_is : (feed xs rest : List ℕ) (at next : ℕ) → at ≤ next → next ≤ at + length xs → drop at feed ≡ xs ++ rest → drop next feed ≡ drop (next - at) xs ++ rest
behind_is feed xs rest at next up within e =
    let step : next ≡ at + (next - at) = omega (arith, up) in
    ap (λ n. drop n feed) step ∙ sym (drop-drop (next - at) at feed) ∙ ap (drop (next - at)) e ∙ drop-append-le (next - at) xs rest (omega (arith, within))

next_in_feed : (rule : CutRule) (feed : List ℕ) (s u : Cutting) (bytes rest : List ℕ) (cuts : List Cut) → IsIn rule feed s (bytes ++ rest) → Follows s (s.held ++ bytes) cuts u → u.long ≡ None → IsIn rule feed u rest
next_in_feed rule feed s u bytes rest cuts i f none =
    let held : u.held ≡ drop (u.at - s.at) (s.held ++ bytes) = subst (λ long. MatchOption long (u.held ≡ drop (u.at - s.at) (s.held ++ bytes)) (λ _. u.held ≡ [])) none f.held in
    let e : drop s.at feed ≡ (s.held ++ bytes) ++ rest = i.feed_is ∙ sym (append_assoc s.held bytes rest) in
    record {
      within = omega (arith, f.within.1, i.within, ap length e, length-append (s.held ++ bytes) rest, length-drop s.at feed);
      feed_is = behind_is feed (s.held ++ bytes) rest s.at u.at f.within.0 f.within.1 e ∙ ap (λ xs. xs ++ rest) (sym held);
    }

header_plain : (rule : CutRule) (xs ys : List ℕ) → rule.replicate ≡ false → header_of rule xs ≡ header_of rule ys
header_plain rule xs ys plain = cond-false rule.replicate (first_line xs) [] plain ∙ sym (cond-false rule.replicate (first_line ys) [] plain)

-- the header that the next cutter knows
next_header : (rule : CutRule) (feed : List ℕ) (s : Cutting) (bytes rest : List ℕ) → Knows rule feed s → IsIn rule feed s (bytes ++ rest) → header_in s ((s.held ++ bytes) ++ rest) ≡ header_of rule feed
next_header rule feed s bytes rest k i =
    ⊎_elim
    (λ zero. ap (header_in s) (append_assoc s.held bytes rest ∙ sym i.feed_is ∙ ap (λ n. drop n feed) zero) ∙ k.header_is)
    (λ known. known ((s.held ++ bytes) ++ rest))
    k.known

header_by : (rule : CutRule) (feed other : List ℕ) (u : Cutting) (xs : List ℕ) → u.rule ≡ rule → u.header ≡ cond (rule.replicate && nat_lt 0 u.at) (Some xs) None → xs ≡ header_of rule feed → ((rule.replicate ≡ true → u.at ≡ 0 → ⊥) ⊎ (other ≡ feed)) → header_in u other ≡ header_of rule feed
header_by rule feed other u xs same is e when =
    ⊎_elim
    (λ rep. ⊎_elim
    (λ zero. ap (λ o. unwrap_or o (header_of u.rule other)) (is ∙ cond-false (rule.replicate && nat_lt 0 u.at) (Some xs) None (and_right rule.replicate (nat_lt 0 u.at) (le-ltb 0 u.at (omega (arith, zero))))) ∙ ap (λ r. header_of r other) same ∙ ⊎_elim (λ not_so. absurd (not_so rep zero)) (λ here. ap (header_of rule) here) when)
    (λ some. ap (λ o. unwrap_or o (header_of u.rule other)) (is ∙ cond-true (rule.replicate && nat_lt 0 u.at) (Some xs) None (and_from rule.replicate (nat_lt 0 u.at) rep (lt-ltb 0 u.at (omega (arith, some))))) ∙ e)
    (cases_eq u.at 0))
    (λ plain. ap (λ o. unwrap_or o (header_of u.rule other)) (is ∙ cond-false (rule.replicate && nat_lt 0 u.at) (Some xs) None (and_left rule.replicate (nat_lt 0 u.at) plain)) ∙ ap (λ r. header_of r other) same ∙ header_plain rule other feed plain)
    (cases_Bool rule.replicate)

knows_by : (rule : CutRule) (feed : List ℕ) (u : Cutting) (xs : List ℕ) → u.rule ≡ rule → u.header ≡ cond (rule.replicate && nat_lt 0 u.at) (Some xs) None → xs ≡ header_of rule feed → Knows rule feed u
knows_by rule feed u xs same is e =
    record {
      rule_is = same;
      header_is = header_by rule feed feed u xs same is e (inr refl);
      known = ⊎_elim (λ zero. inl zero) (λ some. inr (λ other. header_by rule feed other u xs same is e (inl (λ _ zero. some zero)))) (cases_eq u.at 0);
    }

next_knows : (rule : CutRule) (feed : List ℕ) (s u : Cutting) (bytes rest : List ℕ) (cuts : List Cut) → Knows rule feed s → IsIn rule feed s (bytes ++ rest) → Follows s (s.held ++ bytes) cuts u → Knows rule feed u
next_knows rule feed s u bytes rest cuts k i f =
    let xs : List ℕ = header_in s ((s.held ++ bytes) ++ rest) in
    knows_by rule feed u xs (f.rule ∙ k.rule_is) (f.header rest ∙ ap (λ r. cond (r.replicate && nat_lt 0 u.at) (Some xs) None) k.rule_is) (next_header rule feed s bytes rest k i)

pub reached_next : (rule : CutRule) (feed : List ℕ) (s u : Cutting) (bytes rest : List ℕ) (cuts : List Cut) → Knows rule feed s → IsIn rule feed s (bytes ++ rest) → Follows s (s.held ++ bytes) cuts u → Reached rule feed u rest
reached_next rule feed s u bytes rest cuts k i f =
    record {
      knows = next_knows rule feed s u bytes rest cuts k i f;
      is_in = next_in_feed rule feed s u bytes rest cuts i f;
      stays = λ line is. stays_in rule feed s bytes rest u.at line k i (subst (λ long. IfSome long (StaysLong s (s.held ++ bytes) u.at)) is f.stays);
    }

-- where the calls lead
record Led (rule : CutRule) (feed : List ℕ) (s last : Cutting) (calls : List Call) (more : List ℕ) : Type 0 where
  pub pieces : AreNext rule (header_of rule feed) feed s.at (all_cuts calls)
  pub at : last.at ≡ offset_behind s.at (all_cuts calls)
  pub reached : Reached rule feed last more

led : (rule : CutRule) (feed : List ℕ) (calls : List Call) (s last : Cutting) (more : List ℕ) → Reached rule feed s (all_bytes calls ++ more) → AreCalls s calls last → Led rule feed s last calls more
led rule feed [] s last more r are =
    record { pieces = tt; at = ap (λ t. t.at) (sym are); reached = subst (λ t. Reached rule feed t more) are r }
led rule feed (call ∷ calls) s last more r are =
    let k = r.knows in
    let i0 = r.is_in are.0 in
    let rest : List ℕ = all_bytes calls ++ more in
    let i : IsIn rule feed s (call.bytes ++ rest) = record { within = i0.within; feed_is = i0.feed_is ∙ ap (λ xs. s.held ++ xs) (append_assoc call.bytes (all_bytes calls) more) } in
    let u = are.2.0 in
    let f = are.2.1 in
    let tail = led rule feed calls u last more (reached_next rule feed s u call.bytes rest call.cuts k i f) are.2.2 in
    let first = come_in rule feed s call.bytes rest call.cuts k i are.1 in
    record {
      pieces = AreNext-append rule (header_of rule feed) feed s.at call.cuts (all_cuts calls) first (subst (λ n. AreNext rule (header_of rule feed) feed n (all_cuts calls)) f.at tail.pieces);
      at = tail.at ∙ ap (λ n. offset_behind n (all_cuts calls)) f.at ∙ sym (offset_behind-append s.at call.cuts (all_cuts calls));
      reached = tail.reached;
    }

pub begins : (rule : CutRule) (feed : List ℕ) (at : ℕ) (rest : List ℕ) → at ≤ length feed → drop at feed ≡ rest → Reached rule feed (beginning rule feed at) rest
begins rule feed at rest within e =
    record {
      knows = begin_knows rule feed at;
      is_in = λ none. record { within = within; feed_is = e };
      stays = λ line is. absurd (cc);
    }
  where
    begin_knows : (rule : CutRule) (feed : List ℕ) (at : ℕ) → Knows rule feed (beginning rule feed at)
    begin_knows rule feed at =
        ⊎_elim
        (λ rep. knows_by rule feed (beginning rule feed at) (first_line feed) refl refl (sym (cond-true rule.replicate (first_line feed) [] rep)))
        (λ plain. knows_by rule feed (beginning rule feed at) (header_of rule feed) refl
        (cond-false (rule.replicate && nat_lt 0 at) (Some (first_line feed)) None (and_left rule.replicate (nat_lt 0 at) plain) ∙ sym (cond-false (rule.replicate && nat_lt 0 at) (Some (header_of rule feed)) None (and_left rule.replicate (nat_lt 0 at) plain)))
        refl)
        (cases_Bool rule.replicate)

-- with what `end` hands out
pub ended_in : (rule : CutRule) (feed : List ℕ) (s : Cutting) (cuts : List Cut) → Knows rule feed s → IsIn rule feed s [] → CutsAll s cuts → IsCutUnder rule (header_of rule feed) feed s.at cuts End
ended_in rule feed s cuts k i all =
    let is = all (take s.at feed) (length-take-le s.at feed i.within) in
    let whole : take s.at feed ++ s.held ≡ feed = ap (λ xs. take s.at feed ++ xs) (sym (append-nil s.held) ∙ sym i.feed_is) ∙ take-append-drop s.at feed in
    let here = subst (λ xs. IsCutUnder s.rule (header_in s xs) xs s.at cuts End) whole is in
    subst (λ h. IsCutUnder rule h feed s.at cuts End) k.header_is (subst (λ r. IsCutUnder r (header_in s feed) feed s.at cuts End) k.rule_is here)

cut_append : (rule : CutRule) (header feed : List ℕ) (at : ℕ) (xs ys : List Cut) (n : ℕ) (what : Next) → AreNext rule header feed at xs → n ≡ offset_behind at xs → IsCutUnder rule header feed n ys what → IsCutUnder rule header feed at (xs ++ ys) what
cut_append rule header feed at xs ys n what first e second =
    record {
      pieces = AreNext-append rule header feed at xs ys first (subst (λ k. AreNext rule header feed k ys) e second.pieces);
      behind = ap (next_under rule header feed) (offset_behind-append at xs ys ∙ ap (λ k. offset_behind k ys) (sym e)) ∙ second.behind;
    }

pub hand_out_all : (rule : CutRule) (feed : List ℕ) (at : ℕ) (calls : List Call) (last : Cutting) (more : List ℕ) → at ≤ length feed → drop at feed ≡ all_bytes calls ++ more → AreCalls (beginning rule feed at) calls last → HandOut rule feed at calls last more
hand_out_all rule feed at calls last more within e are =
    let l = led rule feed calls (beginning rule feed at) last more (begins rule feed at (all_bytes calls ++ more) within e) are in
    let header : List ℕ = header_of rule feed in
    record {
      pieces = l.pieces;
      all = λ nothing none cuts all. cut_append rule header feed at (all_cuts calls) cuts last.at End l.pieces l.at (ended_in rule feed last cuts l.reached.knows (subst (IsIn rule feed last) nothing (l.reached.is_in none)) all);
      met = λ line is. record { pieces = l.pieces; behind = ap (next_under rule header feed) (sym l.at) ∙ l.reached.stays line is };
      answered = λ bytes rest line e none stays. record { pieces = l.pieces; behind = ap (next_under rule header feed) (sym l.at) ∙ stays_in rule feed last bytes rest last.at line l.reached.knows (subst (IsIn rule feed last) e (l.reached.is_in none)) stays };
    }
