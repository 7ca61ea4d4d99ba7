-- The lines of a drill's feed, one at a time.
use Rattle.std.proofs.Common.{◌≡◌, ◌<◌, ◌≤◌, ◌+◌, ◌-◌, ℕ, zero, suc, List, [], ◌++◌, refl, sym, ap, subst, ◌∙◌, append_assoc, arith}
use Rattle.std.proofs.lemmas.List.{append-nil}
use Rattle.edge_traits.specs.Sink.{SinkView, Took}
use Rattle.edge_traits.specs.Output.{Moved, TookFront}
use Rattle.edge_traits.proofs.Outputs.{Moved-all, Moved-through, TookFront-rest, TookFront-some}
use Rattle.feed_maker.specs.DrillFeed.{drawn, line, lines_behind, next}

first_line : (left n x : ℕ) → lines_behind (suc left) n x ≡ line (n + 1) (drawn (next x)) ++ lines_behind left (n + 1) (next x)
first_line left n x = ap (λ k. line k (drawn (next x)) ++ lines_behind left k (next x)) (omega arith)

-- a text with the first of the lines that are to come behind it, and the others, is the text with all
pub line_put : (left n x : ℕ) (old new : List ℕ) → 0 < left → new ≡ old ++ line (n + 1) (drawn (next x)) → new ++ lines_behind (left - 1) (n + 1) (next x) ≡ old ++ lines_behind left n x
line_put left n x old new some is =
    let one : left ≡ suc (left - 1) = omega (arith, some) in
    ap (λ t. t ++ lines_behind (left - 1) (n + 1) (next x)) is ∙ append_assoc old (line (n + 1) (drawn (next x))) (lines_behind (left - 1) (n + 1) (next x))
    ∙ ap (λ t. old ++ t) (sym (first_line (left - 1) n x) ∙ ap (λ k. lines_behind k n x) (sym one))

none_coming : (left n x : ℕ) → left ≡ 0 → lines_behind left n x ≡ []
none_coming zero n x none = refl
none_coming (suc left) n x none = cc

-- no line is to come, and what is left was written
all_moved : {a b : SinkView} (whole : List ℕ) (left n x : ℕ) (text : List ℕ) → Moved a b whole (text ++ lines_behind left n x) → left ≤ 0 → Moved a b whole text
all_moved {a = a} {b = b} whole left n x text moved none =
    subst (λ (l : List ℕ). Moved a b whole l) (ap (λ l. text ++ l) (none_coming left n x (omega (arith, none))) ∙ append-nil text) moved

module _ {a b c : SinkView} (whole : List ℕ) where
  -- a text with a line more was written, as far as it isn't kept
  pub line_moved : (text rest put later kept : List ℕ) → Moved a b whole (text ++ rest) → put ++ later ≡ text ++ rest → Moved b c put kept → Moved a c whole (kept ++ later)
  line_moved text rest put later kept moved same next = Moved-through later (subst (λ (l : List ℕ). Moved a b whole l) (sym same) moved) next

  pub line_stopped : (text rest put later : List ℕ) → Moved a b whole (text ++ rest) → put ++ later ≡ text ++ rest → TookFront b c put → TookFront a c whole
  line_stopped text rest put later moved same front = TookFront-some later (subst (λ (l : List ℕ). Moved a b whole l) (sym same) moved) front

  pub all_written : (left n x : ℕ) (text written : List ℕ) → Moved a b whole (text ++ lines_behind left n x) → left ≤ 0 → written ≡ text → Took b c written → Took a c whole
  all_written left n x text written moved none same took = Moved-all (all_moved whole left n x text moved none) (subst (λ (l : List ℕ). Took b c l) same took)

  pub all_stopped : (left n x : ℕ) (text written : List ℕ) → Moved a b whole (text ++ lines_behind left n x) → left ≤ 0 → written ≡ text → TookFront b c written → TookFront a c whole
  all_stopped left n x text written moved none same front = TookFront-rest (all_moved whole left n x text moved none) (subst (λ (l : List ℕ). TookFront b c l) same front)
