-- What is found in a feed, by what its reader finds.
use Rattle.std.proofs.Common.{◌≡◌, ◌≤◌, ℕ, Bool, true, false, is_none, List, length, Option, Some, None, Result, Ok, Err, IfOk, option_and_then, refl, sym, ap, subst, ◌∙◌, if◌then◌else◌}
use Rattle.std.proofs.lemmas.Bool.{le-ltb}
use Rattle.edge_traits.specs.Named.{find_named}
use Rattle.edge_traits.specs.Shelf.{ShelfView, content_of, lacks, lacks_in}
use Rattle.edge_traits.specs.Source.{SourceView}
use Rattle.report_cut.specs.Pieces.{Next, Piece, End, Long, header_of, next}
use Rattle.report_cut.specs.declared.piece.Cut.{Cut}
use Rattle.report_cut.specs.declared.piece.CutRule.{CutRule}
use Rattle.report_cut.proofs.Joined.{next_piece, start_in, upto_within}
use Rattle.step_code.specs.declared.rules.FeedFacts.{FeedFacts}
use Rattle.feed_reader.specs.Ahead.{ahead_of}
use Rattle.feed_reader.specs.declared.ahead.Ahead.TheVariants as ahead
use Rattle.feed_reader.specs.declared.ahead.ReaderFault.{ReaderFault}
use Rattle.collector_feeds.specs.Found.{IsAhead, MayFind, found_at, rule_of, within_limit}
use Rattle.collector_feeds.specs.Open.{IsThere}
use Rattle.collector_feeds.specs.declared.found.Found.{Found}
use Rattle.collector_feeds.specs.declared.found.Found.TheVariants as found

-- a piece that comes next ends within the feed
pub piece_within : (rule : CutRule) (feed : List ℕ) (at : ℕ) (cut : Cut) → at ≤ length feed → next rule feed at ≡ Piece cut → cut.upto ≤ length feed
piece_within rule feed at cut within is = upto_within rule (header_of rule feed) feed at cut (start_in rule feed at within).1 (next_piece rule (header_of rule feed) feed at cut is)

-- a piece is handed out where one comes next
pub ahead_piece : (n : Next) (cut : Cut) → ahead_of n ≡ ahead.Piece cut → n ≡ Piece cut
ahead_piece (Piece other) cut is = let same : other ≡ cut = cc in ap Piece same
ahead_piece End cut is = absurd (cc)
ahead_piece (Long line) cut is = absurd (cc)

-- what comes next at an offset within the feed is what stands there
pub found_within : (rule other : CutRule) (feed : List ℕ) (at place : ℕ) (r : Result Found ReaderFault) → at ≤ length feed → other ≡ rule → place ≡ at
    → IfOk r (λ what. what ≡ within_limit (next other feed place)) → IfOk r (λ what. what ≡ found_at rule (Some feed) at)
found_within rule other feed at place (Err fault) within same here is = tt
found_within rule other feed at place (Ok what) within same here is =
    is ∙ ap (λ (r : CutRule). within_limit (next r feed place)) same ∙ ap (λ (n : ℕ). within_limit (next rule feed n)) here
    ∙ sym (ap (λ (b : Bool). if b then found.Short (length feed) else within_limit (next rule feed at)) (le-ltb (length feed) at within))

-- a shelf that doesn't lack a file has it, if it tells what it has
has_file : (shelf : ShelfView) (file : List ℕ) (files : List (List ℕ × List ℕ)) → lacks shelf file ≡ false → shelf.told ≡ Some files → (content : List ℕ) × (find_named file files ≡ Some content)
has_file shelf file files there told = go (find_named file files) refl (sym (ap (λ (o : Option (List (List ℕ × List ℕ))). lacks_in o file) told) ∙ there)
  where
    go : (o : Option (List ℕ)) → find_named file files ≡ o → is_none (find_named file files) ≡ false → (content : List ℕ) × (find_named file files ≡ Some content)
    go None is there = absurd (cc (rw (is) at there))
    go (Some content) is there = (content, is)

-- what is found in a source of the shelf is what its collector may find
pub may_find : (shelf : ShelfView) (facts : FeedFacts) (at : ℕ) (source : SourceView) (r : Result Found ReaderFault) → lacks shelf facts.file ≡ false
    → ((content : List ℕ) → content_of shelf facts.file ≡ Some content → source.told ≡ Some content)
    → ((content : List ℕ) → content_of shelf facts.file ≡ Some content → source.told ≡ Some content → IfOk r (λ what. what ≡ found_at (rule_of facts) (Some content) at)) → IfOk r (IsAhead at) → IfOk r IsThere → IfOk r (MayFind shelf facts at)
may_find shelf facts at source (Err fault) there told is ahead present = tt
may_find shelf facts at source (Ok what) there told is ahead present = record {
  told = λ files has.
      let file = has_file shelf facts.file files there has in
      let content : content_of shelf facts.file ≡ Some file.0 = ap (option_and_then (find_named facts.file)) has ∙ file.1 in
      is file.0 content (told file.0 content) ∙ sym (ap (λ (o : Option (List ℕ)). found_at (rule_of facts) o at) file.1);
  lacked = λ absent. absurd (let none : IsThere found.Absent = subst IsThere absent present in none);
  ahead = ahead;
}

pub there_is : (b : Bool) → (b ≡ true → ⊥) → b ≡ false
there_is true never = absurd (never refl)
there_is false never = refl
