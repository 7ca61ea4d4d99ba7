-- A call that nothing hinders ends idle.
use Rattle.std.proofs.Common.{◌≡◌, ◌≤◌, ◌-◌, ◌==◌, ◌&&◌, ⊎_elim, inl, inr, ◌⊎◌, ℕ, Bool, true, false, not, cond, nat_le, List, [], ◌∷◌, length, drop, Option, Some, None, option_map, slice_get, MatchBool, MatchOption, refl, sym, ap, subst, ◌∙◌, arith, length-append, if◌then◌else◌}
use Rattle.std.specs.List.{concat, AllByRecursion}
use Rattle.std.specs.Option.{IsSomeAnd}
use Rattle.std.proofs.lemmas.Bool.{le-ltb}
use Rattle.std.proofs.lemmas.Option.{none-some}
use Rattle.base_types.specs.Lines.{first_line, first_of, lines_of}
use Rattle.edge_traits.specs.Named.{find_named}
use Rattle.report_cut.specs.Pieces.{Next, Piece, End, Long, header_of, longest_line, next, piece_of, start_of}
use Rattle.report_cut.specs.declared.piece.Cut.{Cut}
use Rattle.report_cut.specs.declared.piece.CutRule.{CutRule}
use Rattle.report_cut.proofs.Joined.{next_piece, upto_within}
use Rattle.report_cut.proofs.LinesOf.{concat-lines_of}
use Rattle.step_code.specs.declared.base.Base.{Base}
use Rattle.step_code.specs.declared.rules.FeedFacts.{FeedFacts}
use Rattle.step_code.specs.declared.rules.Facts.{Facts}
use Rattle.step_code.specs.declared.step.Step.{Step}
use Rattle.step_code.specs.Content.{longest_feed}
use Rattle.step_code.specs.State.{has_finished, position_of}
use Rattle.turn_order.specs.Turn.{collectors, first_actor}
use Rattle.turn_order.specs.declared.actor.Actor.{Actor}
use Rattle.journal_book.specs.declared.stage_refusal.StageRefusal.TheVariants as refusal
use Rattle.collector_feeds.specs.Found.{found_at, rule_of, within_limit, MayFind}
use Rattle.collector_feeds.specs.declared.found.Found.{Found}
use Rattle.collector_feeds.specs.declared.found.Found.TheVariants as found
use Rattle.drain_turns.specs.Drained.{behind, behind_all, Drains, Ends, Place, Turns}
use Rattle.drain_turns.specs.Laws.{GivesStep, HasFeed, HasFeeds, HasStep, IsFree, IsReadable, IsShown, ReadsOn}
use Rattle.drain_turns.specs.Turn.{going, is_backed_up, is_piece, Outside, IsCollectorsTurn, IsTurn, MayFindNow}
use Rattle.drain_turns.proofs.Readied.{behind_left}
use Rattle.drain_turns.proofs.Turning.{all_kept, not_true}
use Rattle.drain_turns.specs.declared.end.TurnsEnd.{TurnsEnd}
use Rattle.drain_turns.specs.declared.end.TurnsEnd.TheVariants as end
use Rattle.drain_turns.specs.declared.turn.Turn.{Turn}
use Rattle.drain_turns.specs.declared.turn.Turn.TheVariants.{Acts, Finds, Nobody}

-- ---- what stands at an offset of a feed that may be read on from there

module _ (rule : CutRule) (feed : List ℕ) (at : ℕ) (readable : IsReadable feed at) where
  abbrev header : List ℕ
  header = header_of rule feed

  header_short : length header ≤ longest_line
  header_short = go rule.replicate
    where
      go : (r : Bool) → length (if r then first_line feed else []) ≤ longest_line
      go true = readable.lines 0
      go false = omega arith

  first_within : (lines : List (List ℕ)) → length (first_of lines) ≤ length (concat lines)
  first_within [] = omega arith
  first_within (line ∷ lines) = omega (arith, length-append line (concat lines))

  header_within : length header ≤ length feed
  header_within = go rule.replicate
    where
      go : (r : Bool) → length (if r then first_line feed else []) ≤ length feed
      go true = omega (arith, first_within (lines_of feed), ap length (concat-lines_of feed))
      go false = omega arith

  start_within : start_of rule header at ≤ length feed
  start_within = go (rule.replicate && (at == 0))
    where
      go : (b : Bool) → (if b then length header else at) ≤ length feed
      go true = header_within
      go false = readable.there

  no_long_run : (room start line : ℕ) (lines : List (List ℕ)) → length (first_of lines) ≤ longest_line → piece_of header room start lines ≡ Long line → ⊥
  no_long_run room start line [] short long = cc (long)
  no_long_run room start line (l ∷ ls) short long = cc (rw (le-ltb longest_line (length l) short) at long)

  inside : (ended : Bool) (n : Next) (line : ℕ) → cond ended End n ≡ Long line → n ≡ Long line
  inside true n line long = absurd (cc (long))
  inside false n line long = long

  no_long : (line : ℕ) → next rule feed at ≡ Long line → ⊥
  no_long line long =
      let start = start_of rule header at in
      let behind_end = inside (nat_le (length feed) at) _ line long in
      let in_lines = rw (le-ltb longest_line (length header) header_short) at behind_end in
      no_long_run (rule.chunk_size - length header) start line (lines_of (drop start feed)) (readable.lines start) in_lines

  gives_next : (n : Next) → next rule feed at ≡ n → GivesStep (within_limit n)
  gives_next (Piece cut) e =
      let within = upto_within rule header feed at cut start_within (next_piece rule header feed at cut e) in
      rw (le-ltb longest_feed cut.upto (omega (arith, within, readable.short))) tt
  gives_next End e = tt
  gives_next (Long line) e = absurd (no_long line e)

  inside_feed : (n : Next) (cut : Cut) → next rule feed at ≡ n → within_limit n ≡ found.Piece cut → cut.upto ≤ length feed
  inside_feed (Piece other) cut e is =
      let within = upto_within rule header feed at other start_within (next_piece rule header feed at other e) in
      let same : found.Piece other ≡ found.Piece cut = rw (le-ltb longest_feed other.upto (omega (arith, within, readable.short))) at is in
      let upto : other ≡ cut = cc in
      omega (arith, within, ap (λ (c : Cut). c.upto) upto)
  inside_feed End cut e is = absurd (cc (is))
  inside_feed (Long line) cut e is = absurd (cc (is))

  -- a piece ends within the feed
  pub piece_inside : (cut : Cut) → found_at rule (Some feed) at ≡ found.Piece cut → cut.upto ≤ length feed
  piece_inside cut is = inside_feed (next rule feed at) cut refl (rw (le-ltb (length feed) at readable.there) at is)

  pub gives : GivesStep (found_at rule (Some feed) at)
  gives = rw (le-ltb (length feed) at readable.there) (gives_next (next rule feed at) refl)

-- ---- the turn of a place where the feeds are there

module _ (o : Outside) (files : List (List ℕ × List ℕ)) (told : o.shelf.told ≡ Some files) (s : Base) (turn : Turn) where
  found_gives : (f : Facts) (what : Found) → ReadsOn files s f → MayFindNow o s f what → GivesStep what
  found_gives f what has may = go f.feed has may
    where
      there : (facts : FeedFacts) → MayFind o.shelf facts (position_of f.bot s) what → (feed : Option (List ℕ)) → find_named facts.file files ≡ feed → IsSomeAnd feed (λ c. IsReadable c (position_of f.bot s)) → GivesStep what
      there facts found None e readable = absurd readable
      there facts found (Some feed) e readable =
          subst GivesStep (sym (found.told files told ∙ ap (λ c. found_at (rule_of facts) c (position_of f.bot s)) e)) (gives (rule_of facts) feed (position_of f.bot s) readable)

      go : (feed : Option FeedFacts) → IsSomeAnd feed (λ facts. IsSomeAnd (find_named facts.file files) (λ c. IsReadable c (position_of f.bot s))) → IsSomeAnd feed (λ facts. MayFind o.shelf facts (position_of f.bot s) what) → GivesStep what
      go None there_is found = absurd there_is
      go (Some facts) there_is found = there facts found (find_named facts.file files) refl there_is

  collectors_step : (fs : List Facts) → AllByRecursion (ReadsOn files s) fs → IsCollectorsTurn o s fs turn → HasStep turn ⊎ (turn ≡ Nobody)
  collectors_step [] have is = inr is
  collectors_step (f ∷ fs) have (what, may, rest) = go (collectors_step fs have.1) (is_piece what && is_backed_up o.meaning s) rest
    where
      go : (IsCollectorsTurn o s fs turn → HasStep turn ⊎ (turn ≡ Nobody)) → (passed : Bool) → MatchBool passed (IsCollectorsTurn o s fs turn) (turn ≡ Finds f.bot (position_of f.bot s) what) → HasStep turn ⊎ (turn ≡ Nobody)
      go later true is = later is
      go later false is = inl (subst HasStep (sym is) (found_gives f what have.0 may))

  turn_steps : HasFeeds files o.meaning s → IsTurn o s turn → HasStep turn ⊎ (turn ≡ Nobody)
  turn_steps have is = go (first_actor o.meaning s) is
    where
      go : (actor : Option Actor) → MatchOption actor (IsCollectorsTurn o s (going o.meaning s) turn) (λ a. turn ≡ Acts a) → HasStep turn ⊎ (turn ≡ Nobody)
      go None later = collectors_step (going o.meaning s) (all_kept (HasFeed files s) (ReadsOn files s) (λ f. not (has_finished f.bot s)) (collectors o.meaning s) (λ f has goes. has (not_true (has_finished f.bot s) goes)) have) later
      go (Some a) same = inl (subst HasStep (sym same) tt)

-- ---- how the call ends

module _ (o : Outside) (files : List (List ℕ × List ℕ)) (told : o.shelf.told ≡ Some files) (p : Place) (free : IsFree o files p) where
  finds_step : (bot : List ℕ) (at : ℕ) (what : Found) → Turns o p (Finds bot at what) → GivesStep what
  finds_step bot at what turns = ⊎_elim (λ gives_it. gives_it) (λ nobody. absurd (cc (nobody))) (turn_steps o files told p.state (Finds bot at what) (free.feeds turns.opened) turns.is)

  ends_idle : (last : TurnsEnd) → p.left ≡ None → IsShown last → Ends o p last → last ≡ end.Idle
  ends_idle end.Idle none shown ends = refl
  ends_idle end.Left none shown ends = absurd (none-some 0 (sym none ∙ ends.1))
  ends_idle (end.Absent name) none shown (bot, at, turns, file) = absurd (finds_step bot at found.Absent turns)
  ends_idle (end.Failed name) none shown ends = absurd shown
  ends_idle (end.Short have need) none shown (bot, turns) = absurd (finds_step bot need (found.Short have) turns)
  ends_idle (end.LongLine bot line) none shown (at, turns) = absurd (finds_step bot at (found.LongLine line) turns)
  ends_idle (end.LongFeed bot) none shown (at, turns) = absurd (finds_step bot at found.LongFeed turns)
  ends_idle (end.Halted bot) none shown ends = absurd (none-some bot (subst (λ (names : List (List ℕ)). slice_get names 0 ≡ Some bot) free.room.halted ends.1))
  ends_idle (end.Spent number) none shown (step, due, refuses) = absurd (none-some (refusal.Spent number) (sym (free.room.free step due) ∙ refuses))
  ends_idle (end.Full bytes) none shown (step, due, refuses) = absurd (none-some (refusal.Full bytes) (sym (free.room.free step due) ∙ refuses))
  ends_idle (end.Damaged file at) none shown ends = absurd shown
  ends_idle end.Disk none shown ends = absurd shown
  ends_idle end.Memory none shown ends = absurd shown

ends_there : (o : Outside) (p : Place) (made : List Step) (last : TurnsEnd) → Drains o p made last → Ends o (behind_all o p made) last
ends_there o p [] last drains = drains
ends_there o p (step ∷ made) last drains = ends_there o (behind o p step) made last drains.1

still_unbound : (o : Outside) (p : Place) (made : List Step) → p.left ≡ None → (behind_all o p made).left ≡ None
still_unbound o p [] none = none
still_unbound o p (step ∷ made) none = still_unbound o (behind o p step) made (behind_left o p step ∙ ap (option_map (λ n. n - 1)) none)

pub free_calls_end_idle : (o : Outside) (p : Place) (files : List (List ℕ × List ℕ)) (made : List Step) (last : TurnsEnd) → o.shelf.told ≡ Some files → p.left ≡ None → IsFree o files (behind_all o p made) → IsShown last → Drains o p made last → last ≡ end.Idle
free_calls_end_idle o p files made last told none free shown drains =
    ends_idle o files told (behind_all o p made) free last (still_unbound o p made none) shown (ends_there o p made last drains)
