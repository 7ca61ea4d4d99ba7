-- Feeds that are looked at, one after the other.
use Rattle.std.proofs.Common.{◌≡◌, ◌≢◌, ◌≤◌, ◌<◌, ◌+◌, ◌++◌, ⊎_elim, inl, inr, ℕ, Bool, true, false, List, [], ◌∷◌, map, length, take, drop, Option, Some, None, IfSome, option_map, option_and_then, refl, sym, ap, subst, ◌∙◌, arith}
use Rattle.std.specs.List.{AllByRecursion}
use Rattle.std.proofs.lemmas.List.{length-map, take-append-le, take_all}
use Rattle.base_types.specs.Lists.{IsIn}
use Rattle.base_types.proofs.Everywhere.{all_wider}
use Rattle.edge_traits.specs.Named.{find_named}
use Rattle.edge_traits.specs.Shelf.{ShelfView, count_on, lacks_in, IsListed}
use Rattle.report_cut.specs.declared.piece.Cut.{Cut}
use Rattle.step_code.specs.declared.rules.Facts.{Facts}
use Rattle.step_code.specs.declared.rules.FeedFacts.{FeedFacts}
use Rattle.collector_feeds.specs.Found.{MayFind}
use Rattle.collector_feeds.specs.Standing.{FeedView, IsReady, RoseBy, all_faults}
use Rattle.collector_feeds.specs.declared.found.Found.{Found}
use Rattle.collector_feeds.specs.declared.found.Found.TheVariants as found
use Rattle.collector_feeds.proofs.Giving.{of_as}
use Rattle.collector_feeds.proofs.Trying.{no_fewer}
use Rattle.drain_loop.specs.Feeds.{feed_file, key_of_bot, key_of_feed, AreLookedAt, AreOfFirst, FailedBeyond, IsClosed, IsCounted, IsNoFeed, Key, ShelfGoesOn}
use Rattle.drain_loop.specs.Looking.{IsHeldOr}
use Rattle.drain_turns.specs.declared.turn.Turn.{Turn}

-- what may be found depends on what the shelf tells alone
pub may_find_as : (a b : ShelfView) (facts : FeedFacts) (at : ℕ) (what : Found) → b.told ≡ a.told → MayFind a facts at what → MayFind b facts at what
may_find_as a b facts at what same is = record {
  told = λ files has. is.told files (sym same ∙ has);
  lacked = λ absent. ap (λ (o : Option (List (List ℕ × List ℕ))). lacks_in o facts.file) same ∙ is.lacked absent;
  ahead = is.ahead;
}

-- a feed that may be looked at may be so over a shelf that went on
pub ready_as : (a b : ShelfView) (feed : FeedView) → b.told ≡ a.told → ((other : List ℕ) → IsListed a other → IsListed b other) → IsReady a feed → IsReady b feed
ready_as a b feed same listed is = record {
  of = of_as a b feed same listed is.of;
  within = λ content has. is.within content (sym (ap (option_and_then (find_named feed.facts.file)) same) ∙ has);
  kept = go feed.kept is.kept;
}
  where
    go : (kept : Option (ℕ × Cut)) → IfSome kept (λ piece. MayFind a feed.facts piece.0 (found.Piece piece.1)) → IfSome kept (λ piece. MayFind b feed.facts piece.0 (found.Piece piece.1))
    go None may = tt
    go (Some piece) may = may_find_as a b feed.facts piece.0 (found.Piece piece.1) same may

pub counted_as : (first a b : ShelfView) (feed : FeedView) → ((name : List ℕ) → count_on a name ≤ count_on b name) → IsCounted first a feed → IsCounted first b feed
counted_as first a b feed up rose = no_fewer feed.failed (count_on first feed.facts.file) (all_faults a feed) (all_faults b feed) rose (omega (arith, up feed.facts.file))

-- ---- one look, and others behind it

shelf_on : (feed : FeedView) (others : List FeedView) (old mid new : ShelfView) → ShelfGoesOn (feed ∷ []) old mid → ShelfGoesOn others mid new → ShelfGoesOn (feed ∷ others) old new
shelf_on feed others old mid new one more = record {
  told = more.told ∙ one.told;
  counts = λ name. omega (arith, one.counts name, more.counts name);
  others = λ name differ. more.others name differ.1 ∙ one.others name (differ.0, tt);
  stay_listed = λ name listed. more.stay_listed name (one.stay_listed name listed);
}

pub looked_on : (feed now : FeedView) (others later : List FeedView) (old mid new : ShelfView) → key_of_feed now ≡ key_of_feed feed → IsReady mid now
    → ((first : ShelfView) → IsCounted first old feed → IsCounted first mid now) → ShelfGoesOn (feed ∷ []) old mid → AreLookedAt others later mid new → AreLookedAt (feed ∷ others) (now ∷ later) old new
looked_on feed now others later old mid new same ready counted one more = record {
  same = ap (λ k. k ∷ map key_of_feed later) same ∙ ap (λ ks. key_of_feed feed ∷ ks) more.same;
  ready = (ready_as mid new now more.shelf.told more.shelf.stay_listed ready, more.ready);
  counted = λ first all. (
    counted_as first mid new now more.shelf.counts (counted first all.0),
    more.counted first (all_wider (IsCounted first old) (IsCounted first mid) others (λ other is. counted_as first old mid other one.counts is) all.1),
  );
  shelf = shelf_on feed others old mid new one more.shelf;
}

-- where one feed was looked at, the others stay
pub others_stay : (feeds : List FeedView) (old new : ShelfView) → AllByRecursion (IsReady old) feeds → new.told ≡ old.told → ((name : List ℕ) → count_on old name ≤ count_on new name)
    → ((name : List ℕ) → AllByRecursion (λ (f : FeedView). name ≢ f.facts.file) feeds → count_on new name ≡ count_on old name) → ((name : List ℕ) → IsListed old name → IsListed new name) → AreLookedAt feeds feeds old new
others_stay feeds old new ready told counts others listed = record {
  same = refl;
  ready = all_wider (IsReady old) (IsReady new) feeds (λ feed is. ready_as old new feed told listed is) ready;
  counted = λ first all. all_wider (IsCounted first old) (IsCounted first new) feeds (λ feed is. counted_as first old new feed counts is) all;
  shelf = record { told = told; counts = counts; others = others; stay_listed = listed };
}

-- no feed was looked at
pub none_looked : (feeds : List FeedView) (shelf : ShelfView) → AllByRecursion (IsReady shelf) feeds → AreLookedAt feeds feeds shelf shelf
none_looked feeds shelf ready = others_stay feeds shelf shelf ready refl (λ name. omega arith) (λ name differ. refl) (λ name listed. listed)

-- one feed was looked at, and the others behind it stay
pub looked_one : (feeds : List FeedView) (feed now : FeedView) (others : List FeedView) (old new : ShelfView) → feeds ≡ feed ∷ others → key_of_feed now ≡ key_of_feed feed → IsReady new now
    → ((first : ShelfView) → IsCounted first old feed → IsCounted first new now) → ShelfGoesOn (feed ∷ []) old new → AllByRecursion (IsReady old) feeds → AreLookedAt feeds (now ∷ others) old new
looked_one feeds feed now others old new are same ready counted one all =
    let each : AllByRecursion (IsReady old) (feed ∷ others) = subst (AllByRecursion (IsReady old)) are all in
    subst (λ (fs : List FeedView). AreLookedAt fs (now ∷ others) old new) (sym are)
    (looked_on feed now others others old new new same ready counted one
    (none_looked others new (all_wider (IsReady old) (IsReady new) others (λ other is. ready_as old new other one.told one.stay_listed is) each.1)))

-- so were the others
pub looked_all : (feeds : List FeedView) (feed now : FeedView) (others later : List FeedView) (old mid new : ShelfView) → feeds ≡ feed ∷ others → key_of_feed now ≡ key_of_feed feed → IsReady mid now
    → ((first : ShelfView) → IsCounted first old feed → IsCounted first mid now) → ShelfGoesOn (feed ∷ []) old mid → AreLookedAt others later mid new → AreLookedAt feeds (now ∷ later) old new
looked_all feeds feed now others later old mid new are same ready counted one more = subst (λ (fs : List FeedView). AreLookedAt fs (now ∷ later) old new) (sym are) (looked_on feed now others later old mid new same ready counted one more)

-- the others may be looked at
pub others_ready : (feeds : List FeedView) (feed : FeedView) (others : List FeedView) (old new : ShelfView) → feeds ≡ feed ∷ others → ShelfGoesOn (feed ∷ []) old new → AllByRecursion (IsReady old) feeds → AllByRecursion (IsReady new) others
others_ready feeds feed others old new are one all =
    let each : AllByRecursion (IsReady old) (feed ∷ others) = subst (AllByRecursion (IsReady old)) are all in
    all_wider (IsReady old) (IsReady new) others (λ other is. ready_as old new other one.told one.stay_listed is) each.1

-- looks behind looks
pub looked_further : (feeds now later : List FeedView) (old mid new : ShelfView) → AreLookedAt feeds now old mid → AreLookedAt now later mid new → ((name : List ℕ) → AllByRecursion (λ (f : FeedView). name ≢ f.facts.file) feeds → AllByRecursion (λ (f : FeedView). name ≢ f.facts.file) now)
    → AreLookedAt feeds later old new
looked_further feeds now later old mid new one more files = record {
  same = more.same ∙ one.same;
  ready = more.ready;
  counted = λ first all. more.counted first (one.counted first all);
  shelf = record {
    told = more.shelf.told ∙ one.shelf.told;
    counts = λ name. omega (arith, one.shelf.counts name, more.shelf.counts name);
    others = λ name differ. more.shelf.others name (files name differ) ∙ one.shelf.others name differ;
    stay_listed = λ name listed. more.shelf.stay_listed name (one.shelf.stay_listed name listed);
  };
}

-- the files that feeds read are told by their keys
pub same_files : (feeds now : List FeedView) (name : List ℕ) → map key_of_feed now ≡ map key_of_feed feeds → AllByRecursion (λ (f : FeedView). name ≢ f.facts.file) feeds → AllByRecursion (λ (f : FeedView). name ≢ f.facts.file) now
same_files [] [] name same differ = tt
same_files [] (f ∷ fs) name same differ = absurd (cc)
same_files (g ∷ gs) [] name same differ = absurd (cc)
same_files (g ∷ gs) (f ∷ fs) name same differ =
    let key : key_of_feed f ≡ key_of_feed g = cc (same) in
    let some : Some f.facts ≡ Some g.facts = ap (λ (k : Key). k.1) key in
    let file : f.facts ≡ g.facts = cc (some) in
    let rest : map key_of_feed fs ≡ map key_of_feed gs = cc (same) in
    (λ is. differ.0 (is ∙ ap (λ (x : FeedFacts). x.file) file), same_files gs fs name rest differ.1)

-- ---- feeds that weren't looked at

pub closed_ready : (shelf : ShelfView) (feed : FeedView) → IsClosed feed → IsReady shelf feed
closed_ready shelf feed is = subst (IsReady shelf) (sym is) (record { of = tt; within = λ content has. tt; kept = tt })

pub closed_counted : (first : ShelfView) (feed : FeedView) → IsClosed feed → IsCounted first first feed
closed_counted first feed is = subst (IsCounted first first) (sym is) (inl (omega arith))

-- ---- a piece that is held back

held_is : (P : FeedView → Type 0) (held : Bool) (old new : FeedView) (at : ℕ) (what : Found) (turn : Option Turn) → IsHeldOr held old new at what turn → P old
    → ((cut : Cut) → what ≡ found.Piece cut → P (record old { kept = Some (at, cut) })) → P new
held_is P true old new at what turn is here put = subst P (sym is.2) (put is.0 is.1)
held_is P false old new at what turn is here put = subst P (sym is.0) here

pub held_ready : (shelf : ShelfView) (held : Bool) (old new : FeedView) (at : ℕ) (what : Found) (turn : Option Turn) → IsHeldOr held old new at what turn → IsReady shelf old → MayFind shelf old.facts at what → IsReady shelf new
held_ready shelf held old new at what turn is ready may =
    held_is (IsReady shelf) held old new at what turn is ready
    (λ cut piece. record { of = ready.of; within = ready.within; kept = subst (MayFind shelf old.facts at) piece may })

pub held_counted : (first shelf : ShelfView) (held : Bool) (old new : FeedView) (at : ℕ) (what : Found) (turn : Option Turn) → IsHeldOr held old new at what turn → IsCounted first shelf old → IsCounted first shelf new
held_counted first shelf held old new at what turn is counted = held_is (IsCounted first shelf) held old new at what turn is counted (λ cut piece. counted)

-- ---- the feeds of collectors

-- the first feed and the first collector, and the others
record FirstOfBoth (collectors : List Facts) (feed : FeedView) (feeds : List FeedView) : Type 0 where
  f : Facts
  others : List Facts
  are : collectors ≡ f ∷ others
  key : key_of_feed feed ≡ key_of_bot f
  rest : AreOfFirst others feeds

first_of_both : (collectors : List Facts) (feed : FeedView) (feeds : List FeedView) → AreOfFirst collectors (feed ∷ feeds) → FirstOfBoth collectors feed feeds
first_of_both [] feed feeds is = absurd (let none = is.are in cc (none))
first_of_both (f ∷ fs) feed feeds is =
    let are : key_of_feed feed ∷ (map key_of_feed feeds ++ is.rest) ≡ key_of_bot f ∷ map key_of_bot fs = is.are in
    record { f = f; others = fs; are = refl; key = cc (are); rest = record { rest = is.rest; are = cc (are) } }

same_file : (f : Facts) (feed : FeedView) → key_of_feed feed ≡ key_of_bot f → feed_file f ≡ Some feed.facts.file
same_file f feed key = let feeds : Some feed.facts ≡ f.feed = ap (λ (k : Key). k.1) key in ap (option_map (λ (x : FeedFacts). x.file)) (sym feeds)

-- a file that no collector reads is none of their feeds'
pub no_feed : (collectors : List Facts) (feeds : List FeedView) (name : List ℕ) → AreOfFirst collectors feeds → IsNoFeed collectors name → AllByRecursion (λ (f : FeedView). name ≢ f.facts.file) feeds
no_feed collectors [] name of none = tt
no_feed collectors (feed ∷ feeds) name of none =
    let first = first_of_both collectors feed feeds of in
    let each : IsNoFeed (first.f ∷ first.others) name = subst (λ (fs : List Facts). IsNoFeed fs name) first.are none in
    (λ is. each.0 (same_file first.f feed first.key ∙ ap Some (sym is)), no_feed first.others feeds name first.rest each.1)

-- a feed is that of one of the collectors
pub feed_among : (collectors : List Facts) (feeds : List FeedView) (feed : FeedView) → AreOfFirst collectors feeds → IsIn feed feeds → (f : Facts) × IsIn f collectors × (key_of_feed feed ≡ key_of_bot f)
feed_among collectors [] feed of among = absurd among
feed_among collectors (other ∷ feeds) feed of among =
    let first = first_of_both collectors other feeds of in
    ⊎_elim (λ same. (first.f, subst (IsIn first.f) (sym first.are) (inl refl), ap key_of_feed same ∙ first.key))
    (λ later. let found = feed_among first.others feeds feed first.rest later in (found.0, subst (IsIn found.0) (sym first.are) (inr found.1), found.2))
    among

-- each of a list has what all have
each_in : {A : Type 0} (P : A → Type 0) (xs : List A) (x : A) → AllByRecursion P xs → IsIn x xs → P x
each_in P [] x all among = absurd among
each_in P (y ∷ ys) x all among = ⊎_elim (λ same. subst P (sym same) all.0) (λ later. each_in P ys x all.1 later) among

-- the feeds stay those of the collectors
pub of_first_stays : (collectors : List Facts) (feeds now : List FeedView) → AreOfFirst collectors feeds → map key_of_feed now ≡ map key_of_feed feeds → AreOfFirst collectors now
of_first_stays collectors feeds now of same = record { rest = of.rest; are = ap (λ ks. ks ++ of.rest) same ∙ of.are }

-- a feed that failed too often was given back: its collector tries no more, and the shelf counts that
pub failed_beyond : (collectors : List Facts) (feeds : List FeedView) (feed : FeedView) (first mid new : ShelfView) → AreOfFirst collectors feeds → IsIn feed feeds → feed.retries < feed.failed → AllByRecursion (IsCounted first mid) feeds
    → ((n count : ℕ) → RoseBy n count (all_faults mid feed) → RoseBy n count (count_on new feed.facts.file)) → FailedBeyond collectors first new feed.facts.file
failed_beyond collectors feeds feed first mid new of among more counted back =
    let found = feed_among collectors feeds feed of among in
    let retries : feed.retries ≡ found.0.retries = ap (λ (k : Key). k.2) found.2 in
    record {
      facts = found.0;
      among = found.1;
      reads = same_file found.0 feed found.2;
      rose = subst (λ (n : ℕ). RoseBy (n + 1) (count_on first feed.facts.file) (count_on new feed.facts.file)) retries
          (back (feed.retries + 1) (count_on first feed.facts.file) (fewer feed.failed (feed.retries + 1) (count_on first feed.facts.file) (all_faults mid feed) (omega (arith, more)) (each_in (IsCounted first mid) feeds feed counted among)));
    }
  where
    fewer : (n k old new : ℕ) → k ≤ n → RoseBy n old new → RoseBy k old new
    fewer n k old new less rose = ⊎_elim (λ by. inl (omega (arith, by, less))) (λ full. inr full) rose

-- feeds that were lent as a slice are what the slice is
pub written_back : (items seen now : List FeedView) (len : ℕ) → seen ≡ items → length seen ≡ len → map key_of_feed now ≡ map key_of_feed seen → take len (now ++ drop (length now) items) ≡ now
written_back items seen now len is long same =
    let lengths : length now ≡ length seen = sym (length-map now key_of_feed) ∙ ap length same ∙ length-map seen key_of_feed in
    take-append-le len now (drop (length now) items) (omega (arith, lengths, long)) ∙ take_all len now (omega (arith, lengths, long))
