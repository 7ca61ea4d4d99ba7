-- What a source gives of a feed.
use Rattle.std.proofs.Common.{◌≡◌, ℕ, ◌+◌, ◌<◌, ◌≤◌, inl, inr, ⊎_elim, Some, List, ◌++◌, length, take, drop, sym, ap, ◌∙◌, arith}
use Rattle.std.proofs.lemmas.Bool.{cases_lt}
use Rattle.std.proofs.lemmas.List.{take-append-drop, drop-drop, length-take-le}
use Rattle.edge_traits.specs.Count.{Rose}
use Rattle.edge_traits.specs.Source.{SourceView}
use Rattle.report_cut.specs.Pieces.{Next, next}
use Rattle.report_cut.specs.declared.piece.CutRule.{CutRule}
use Rattle.feed_reader.specs.Ahead.{ahead_of}
use Rattle.feed_reader.specs.Coming.{StandsIn, IsCounted}
use Rattle.feed_reader.specs.declared.coming.Coming.{Coming}

-- where no byte is read, none is left
pub nothing_left : (n at size : ℕ) → (at < size → 0 < n) → n ≡ 0 → size ≤ at
nothing_left n at size more none = grind arith

-- the feed goes on with the bytes that were read
pub goes_on : (feed buf : List ℕ) (n at : ℕ) → n ≤ length buf → take n buf ≡ take n (drop at feed) → drop at feed ≡ take n buf ++ drop (at + length (take n buf)) feed
goes_on feed buf n at within bytes =
    let size : length (take n buf) ≡ n = length-take-le n buf within in
    sym (take-append-drop n (drop at feed)) ∙ ap (λ xs. xs ++ drop n (drop at feed)) (sym bytes) ∙ ap (λ xs. take n buf ++ xs) (drop-drop n at feed) ∙ ap (λ k. take n buf ++ drop (at + k) feed) (sym size)

-- what a reader keeps until a piece waits
pub record Looks (first now : SourceView) (c d : Coming) : Type 0 where
  pub counted : IsCounted d
  pub stands : (feed : List ℕ) → first.told ≡ Some feed → StandsIn feed d
  pub at : d.at ≡ c.at
  pub rule : d.cutter.rule ≡ c.cutter.rule
  pub told : now.told ≡ first.told
  pub name : now.name ≡ first.name
  pub count : first.faults ≤ now.faults

-- a count that rose since has risen since an earlier moment
pub rose_since : (first mid last : ℕ) → first ≤ mid → mid ≤ last → Rose mid last → Rose first last
rose_since first mid last before after rose =
    ⊎_elim
    (λ rises. inl (omega (arith, before, rises)))
    (λ full. ⊎_elim (λ less. inl (omega (arith, less, after))) (λ same. inr (omega (arith, same, full))) (cases_lt first mid))
    rose

-- what comes next, at the reader's own rule and offset
pub ahead_is : (rule other : CutRule) (feed : List ℕ) (at place : ℕ) (what : Next) → rule ≡ other → at ≡ place → next other feed place ≡ what → ahead_of what ≡ ahead_of (next rule feed at)
ahead_is rule other feed at place what same here is = sym (ap ahead_of (ap (λ r. next r feed at) same ∙ ap (next other feed) here ∙ is))
