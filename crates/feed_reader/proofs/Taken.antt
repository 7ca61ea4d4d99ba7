-- Further bytes of a feed.
use Rattle.std.proofs.Common.{◌≡◌, ℕ, ◌+◌, ◌-◌, ◌*◌, ◌<◌, ◌≤◌, ◌&&◌, false, nat_lt, Option, Some, None, MatchOption, List, [], ◌∷◌, ◌++◌, length, drop, refl, sym, ap, ◌∙◌, subst, arith, length-append}
use Rattle.std.proofs.lemmas.Bool.{cond-false, and_left}
use Rattle.std.proofs.lemmas.List.{length-drop}
use Rattle.report_cut.specs.Pieces.{Long, longest_line, header_of, next, AreNext, offset_behind}
use Rattle.report_cut.specs.Cutter.{ComeNext, MeetsLong, Follows}
use Rattle.report_cut.specs.Standing.{Reached}
use Rattle.report_cut.specs.declared.piece.Cut.{Cut}
use Rattle.report_cut.proofs.Calls.{come_in, reached_next}
use Rattle.feed_reader.specs.Coming.{StandsIn, IsCounted, AreOnward, ArePlain, steps_by, steps_left}
use Rattle.feed_reader.specs.declared.coming.Coming.{Coming}
use Rattle.feed_reader.proofs.Given.{plain_next, onward_next, long_next}

-- these pieces were cut off when further bytes came
pub record Took (c d : Coming) (bytes : List ℕ) : Type 0 where
  pub going : c.ended ≡ false
  pub still : d.ended ≡ false
  pub none : c.pieces.items ≡ []
  pub none_long : c.cutter.long ≡ None
  pub at : d.at ≡ c.at
  pub read : d.read ≡ c.read + length bytes
  pub next : ComeNext c.cutter (c.cutter.held ++ bytes) d.pieces.items
  pub follows : Follows c.cutter (c.cutter.held ++ bytes) d.pieces.items d.cutter

-- without pieces the cutter stands where the reader does
pub stands_at : (c : Coming) → IsCounted c → c.ended ≡ false → c.pieces.items ≡ [] → c.at ≡ c.cutter.at
stands_at c k going none = sym (ap (offset_behind c.at) none) ∙ k.behind going

-- what is held then
held_size : (c d : Coming) (bytes : List ℕ) → Took c d bytes → d.cutter.long ≡ None → length d.cutter.held ≡ length c.cutter.held + length bytes - (d.cutter.at - c.cutter.at)
held_size c d bytes t none =
    let all : List ℕ = c.cutter.held ++ bytes in
    let held = subst (λ o. MatchOption o (d.cutter.held ≡ drop (d.cutter.at - c.cutter.at) all) (λ _. d.cutter.held ≡ [])) none t.follows.held in
    ap length held ∙ length-drop (d.cutter.at - c.cutter.at) all ∙ ap (λ n. n - (d.cutter.at - c.cutter.at)) (length-append c.cutter.held bytes)

pub counted_then : (c d : Coming) (bytes : List ℕ) → IsCounted c → Took c d bytes → length d.cutter.held ≤ 2 * longest_line → d.cutter.ended ≡ false → IsCounted d
counted_then c d bytes k t bounded going =
    let here = stands_at c k t.going t.none in
    let behind : offset_behind d.at d.pieces.items ≡ d.cutter.at = ap (λ n. offset_behind n d.pieces.items) (t.at ∙ here) ∙ sym t.follows.at in
    record {
      chunk = omega (arith, k.chunk, ap (λ r. r.chunk_size) t.follows.rule);
      ended = going ∙ sym t.still;
      bounded = bounded;
      behind = λ _. behind;
      read = λ _ none. omega (arith, t.read, k.read t.going t.none_long, held_size c d bytes t none, t.follows.within.0, t.follows.within.1, length-append c.cutter.held bytes);
      header = λ plain. t.follows.header [] ∙ cond-false (c.cutter.rule.replicate && nat_lt 0 d.cutter.at) _ None (and_left c.cutter.rule.replicate (nat_lt 0 d.cutter.at) (ap (λ r. r.replicate) (sym t.follows.rule) ∙ plain));
      plain = λ plain. let plain' = ap (λ r. r.replicate) (sym t.follows.rule) ∙ plain in
          subst (λ n. ArePlain n d.pieces.items) (sym (t.at ∙ here)) (plain_next c.cutter (c.cutter.held ++ bytes) d.pieces.items plain' (k.header plain') k.chunk t.next);
      onward = subst (λ n. AreOnward n d.pieces.items) (sym (t.at ∙ here)) (onward_next c.cutter (c.cutter.held ++ bytes) d.pieces.items t.next);
    }

less_steps : (cuts : List Cut) (long : Option ℕ) (held before : ℕ) → before ≤ 2 * longest_line → held ≤ 2 * longest_line → (cuts ≡ [] → long ≡ None → before < held) → steps_by cuts false long held < 2 + 2 * longest_line - before
less_steps (cut ∷ cuts) long held before small small' grows = omega (arith, small)
less_steps [] (Some line) held before small small' grows = omega (arith, small)
less_steps [] None held before small small' grows = omega (arith, small, small', grows refl refl)

steps_at : (c : Coming) → c.pieces.items ≡ [] → c.ended ≡ false → c.cutter.long ≡ None → steps_left c ≡ 2 + 2 * longest_line - length c.cutter.held
steps_at c none going none_long = rw (none, going, none_long) refl

pub steps_then : (c d : Coming) (bytes : List ℕ) → IsCounted c → Took c d bytes → 0 < length bytes → length d.cutter.held ≤ 2 * longest_line → steps_left d < steps_left c
steps_then c d bytes k t some bounded =
    let less : steps_by d.pieces.items false d.cutter.long (length d.cutter.held) < 2 + 2 * longest_line - length c.cutter.held =
    less_steps d.pieces.items d.cutter.long (length d.cutter.held) (length c.cutter.held) k.bounded bounded
    (λ nothing none. omega (arith, some, held_size c d bytes t none, t.follows.at, ap (offset_behind c.cutter.at) nothing)) in
    omega (arith, less, steps_at c t.none t.going t.none_long, ap (λ e. steps_by d.pieces.items e d.cutter.long (length d.cutter.held)) t.still)

-- in the feed that goes on with these bytes
pub stands_then : (c d : Coming) (bytes feed : List ℕ) → IsCounted c → Took c d bytes → StandsIn feed c → drop c.read feed ≡ bytes ++ drop (c.read + length bytes) feed → StandsIn feed d
stands_then c d bytes feed k t stands goes_on =
    let here = stands_at c k t.going t.none in
    let rest : List ℕ = drop (c.read + length bytes) feed in
    let reached : Reached c.cutter.rule feed c.cutter (bytes ++ rest) = subst (Reached c.cutter.rule feed c.cutter) goes_on (stands.reached t.going) in
    let are = come_in c.cutter.rule feed c.cutter bytes rest d.pieces.items reached.knows (reached.is_in t.none_long) t.next in
    let then = reached_next c.cutter.rule feed c.cutter d.cutter bytes rest d.pieces.items reached.knows (reached.is_in t.none_long) t.follows in
    record {
      pieces = subst (λ r. AreNext r (header_of r feed) feed d.at d.pieces.items) (sym t.follows.rule) (subst (λ n. AreNext c.cutter.rule (header_of c.cutter.rule feed) feed n d.pieces.items) (sym (t.at ∙ here)) are);
      reached = λ _. subst (λ r. Reached r feed d.cutter (drop d.read feed)) (sym t.follows.rule) (subst (λ n. Reached c.cutter.rule feed d.cutter (drop n feed)) (sym t.read) then);
      end = λ is. absurd (cc (is, t.still));
    }

-- ---- a line that is too long

pub long_then : (c : Coming) (bytes feed : List ℕ) (line : ℕ) → IsCounted c → c.ended ≡ false → c.pieces.items ≡ [] → MeetsLong c.cutter (c.cutter.held ++ bytes) line → StandsIn feed c → drop c.read feed ≡ bytes ++ drop (c.read + length bytes) feed → next c.cutter.rule feed c.at ≡ Long line
long_then c bytes feed line k going none meets stands goes_on =
    let rest : List ℕ = drop (c.read + length bytes) feed in
    let reached : Reached c.cutter.rule feed c.cutter (bytes ++ rest) = subst (Reached c.cutter.rule feed c.cutter) goes_on (stands.reached going) in
    ap (next c.cutter.rule feed) (stands_at c k going none) ∙ long_next c.cutter.rule feed c.cutter bytes rest line c.cutter.long refl reached meets

pub stands_long : (c d : Coming) (feed : List ℕ) (line : ℕ) → IsCounted c → c.ended ≡ false → c.pieces.items ≡ [] → d.cutter ≡ record c.cutter { long = Some line } → d.pieces.items ≡ [] → d.at ≡ c.at → d.ended ≡ c.ended → StandsIn feed c → next c.cutter.rule feed c.at ≡ Long line → StandsIn feed d
stands_long c d feed line k going none is nothing at same stands long =
    let knows = (stands.reached going).knows in
    let reached : Reached c.cutter.rule feed (record c.cutter { long = Some line }) (drop d.read feed) =
    record {
      knows = record { rule_is = knows.rule_is; header_is = knows.header_is; known = knows.known };
      is_in = λ none_long. absurd (cc);
      stays = λ other met. let e : line ≡ other = cc in ap (next c.cutter.rule feed) (sym (stands_at c k going none)) ∙ long ∙ ap (λ n. Long n) e;
    } in
    let rule : d.cutter.rule ≡ c.cutter.rule = ap (λ s. s.rule) is in
    record {
      pieces = subst (AreNext d.cutter.rule (header_of d.cutter.rule feed) feed d.at) (sym nothing) tt;
      reached = λ _. subst (λ r. Reached r feed d.cutter (drop d.read feed)) (sym rule) (subst (λ s. Reached c.cutter.rule feed s (drop d.read feed)) (sym is) reached);
      end = λ ended. absurd (cc (ended, same, going));
    }
