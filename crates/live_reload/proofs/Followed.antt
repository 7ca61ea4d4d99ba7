-- One more line of control is taken.
use Rattle.std.proofs.Common.{◌≡◌, ◌≤◌, ℕ, suc, ◌+◌, inl, inr, List, [], ◌∷◌, ◌++◌, length, Option, refl, sym, ap, subst, ◌∙◌, arith, length-append, append_assoc, append-nil}
use Rattle.edge_traits.specs.Count.{Rose}
use Rattle.edge_traits.specs.Output.{TookFront}
use Rattle.edge_traits.specs.Shelf.{ShelfView, count_on, lacks_in}
use Rattle.edge_traits.specs.Sink.{SinkView, Took}
use Rattle.edge_traits.proofs.Counts.{rose_later}
use Rattle.edge_traits.proofs.Outputs.{Took-nothing, Took-then}
use Rattle.live_reload.specs.Answers.{answer_text, IsAnswerTo}
use Rattle.live_reload.specs.Followed.{answers_to, onto_orders, orders_in, AreLines, HasFollowed, IsLine}
use Rattle.live_reload.specs.Live.{Answers, LiveView, Takes, Unprinted}
use Rattle.live_reload.specs.declared.control.Control.{Control}
use Rattle.live_reload.specs.declared.control.Control.TheVariants as control
use Rattle.live_reload.specs.declared.order.Order.{Order}
use Rattle.live_reload.specs.declared.order.Order.TheVariants as order
use Rattle.live_reload.specs.declared.word.Word.{Word}

-- ---- lists of lines

-- the shelf was read on
pub lines_since : (control : Option (List ℕ)) (first now later : ShelfView) (n : ℕ) (lines : List (Word × Order)) → ((name : List ℕ) → count_on first name ≤ count_on now name) → ((name : List ℕ) → count_on now name ≤ count_on later name)
    → AreLines control first now n lines → AreLines control first later n lines
lines_since control first now later n [] was more are = tt
lines_since control first now later n (line ∷ lines) was more are = (
  record {
    asked = are.0.asked;
    line = are.0.line;
    answer = are.0.answer;
    means = are.0.means;
    absent = are.0.absent;
    failed = λ is. let f = are.0.failed is in (f.0, grown (count_on first f.0) (count_on now f.0) (count_on later f.0) (more f.0) f.1);
    loads = are.0.loads;
  },
  lines_since control first now later (suc n) lines was more are.1,
)
  where
    grown : (a b c : ℕ) → b ≤ c → Rose a b → Rose a c
    grown a b c less (inl rose) = inl (omega (arith, rose, less))
    grown a b c less (inr most) = inr most

lines_more : (control : Option (List ℕ)) (first now : ShelfView) (n : ℕ) (lines : List (Word × Order)) (w : Word) (o : Order) → AreLines control first now n lines → IsLine control first now (n + length lines) w o → AreLines control first now n (lines ++ (w, o) ∷ [])
lines_more control first now n [] w o are is = (subst (λ k. IsLine control first now k w o) same is, tt)
  where
    same : n + 0 ≡ n
    same = omega arith
lines_more control first now n (line ∷ lines) w o are is = (are.0, lines_more control first now (suc n) lines w o are.1 (subst (λ k. IsLine control first now k w o) same is))
  where
    same : n + suc (length lines) ≡ suc n + length lines
    same = omega arith

answers_more : (n : ℕ) (lines : List (Word × Order)) (w : Word) (o : Order) → answers_to n (lines ++ (w, o) ∷ []) ≡ answers_to n lines ++ answer_text (suc (n + length lines)) w
answers_more n [] w o = append-nil (answer_text (suc n) w) ∙ ap (λ k. answer_text (suc k) w) same
  where
    same : n ≡ n + 0
    same = omega arith
answers_more n (line ∷ lines) w o =
    ap (λ bs. answer_text (suc n) line.0 ++ bs) (answers_more (suc n) lines w o ∙ ap (λ k. answers_to (suc n) lines ++ answer_text (suc k) w) same)
    ∙ sym (append_assoc (answer_text (suc n) line.0) (answers_to (suc n) lines) (answer_text (suc (n + suc (length lines))) w))
  where
    same : suc n + length lines ≡ n + suc (length lines)
    same = omega arith

onto_on : (o : Order) (xs ys : List Order) → onto_orders o (xs ++ ys) ≡ onto_orders o xs ++ ys
onto_on order.Nothing xs ys = refl
onto_on (order.Reload code) xs ys = refl
onto_on order.Round xs ys = refl
onto_on order.Stop xs ys = refl
onto_on order.Failed xs ys = refl
onto_on order.OutOfMemory xs ys = refl

pub orders_append : (lines more : List (Word × Order)) → orders_in (lines ++ more) ≡ orders_in lines ++ orders_in more
orders_append [] more = refl
orders_append (line ∷ lines) more = ap (onto_orders line.1) (orders_append lines more) ∙ onto_on line.1 (orders_in lines) (orders_in more)

-- ---- what was taken

pub follows_none : (control : Option (List ℕ)) (shelf : ShelfView) (out : SinkView) → HasFollowed control shelf shelf out out 0 []
follows_none control shelf out = record { taken_is = refl; are = tt; printed = Took-nothing out }

-- over a shelf that was read on
pub follows_since : (control : Option (List ℕ)) (first now later : ShelfView) (before after : SinkView) (taken : ℕ) (lines : List (Word × Order)) → ((name : List ℕ) → count_on first name ≤ count_on now name) → ((name : List ℕ) → count_on now name ≤ count_on later name)
    → HasFollowed control first now before after taken lines → HasFollowed control first later before after taken lines
follows_since control first now later before after taken lines was more is = record { taken_is = is.taken_is; are = lines_since control first now later 0 lines was more is.are; printed = is.printed }

answer_since : (asked : Control) (first now : ShelfView) (w : Word) (o : Order) → now.told ≡ first.told → IsAnswerTo asked now w o → IsAnswerTo asked first w o
answer_since control.Round first now w o same is = is
answer_since control.Stop first now w o same is = is
answer_since control.Bad first now w o same is = is
answer_since (control.Reload name) first now w o same is = (is.0, (λ files told. is.1 files (same ∙ told)), is.2)

-- the line that was taken over a shelf of a later moment
line_of : (told : Option (List ℕ)) (first : ShelfView) (old new : LiveView) (w : Word) (o : Order) → old.control.told ≡ told → old.shelf.told ≡ first.told → ((name : List ℕ) → count_on first name ≤ count_on old.shelf name) → Takes old new w o
    → ((name : List ℕ) → count_on old.shelf name ≤ count_on new.shelf name) → IsLine told first new.shelf old.taken w o
line_of told first old new w o same shelf was takes more = record {
  asked = takes.asked;
  line = λ content is. takes.line content (same ∙ is);
  answer = answer_since takes.asked first old.shelf w o shelf takes.answer;
  means = λ files is. takes.means files (shelf ∙ is);
  absent = λ is. let lack = takes.absent is in (lack.0, ap (λ t. lacks_in t lack.0) (sym shelf) ∙ lack.1);
  failed = λ is. let f = takes.failed is in (f.0, rose_later (count_on first f.0) (count_on old.shelf f.0) (count_on new.shelf f.0) (was f.0) (more f.0) f.1);
  loads = takes.loads;
}

-- one more
pub follows_more : (told : Option (List ℕ)) (first : ShelfView) (before : SinkView) (old new : LiveView) (lines : List (Word × Order)) (o : Order) → old.control.told ≡ told → old.shelf.told ≡ first.told → ((name : List ℕ) → count_on first name ≤ count_on old.shelf name)
    → ((name : List ℕ) → count_on old.shelf name ≤ count_on new.shelf name) → HasFollowed told first old.shelf before old.out old.taken lines → (answers : Answers old new o)
    → HasFollowed told first new.shelf before new.out new.taken (lines ++ (answers.word, o) ∷ [])
follows_more told first before old new lines o same shelf was more is answers = record {
  taken_is = answers.takes.taken ∙ ap suc is.taken_is ∙ sym longer;
  are = lines_more told first new.shelf 0 lines answers.word o (lines_since told first old.shelf new.shelf 0 lines was more is.are)
      (subst (λ k. IsLine told first new.shelf k answers.word o) at (line_of told first old new answers.word o same shelf was answers.takes more));
  printed = subst (Took before new.out) (sym (answers_more 0 lines answers.word o))
      (Took-then is.printed (subst (λ k. Took old.out new.out (answer_text (suc k) answers.word)) at answers.printed));
}
  where
    at : old.taken ≡ 0 + length lines
    at = omega (arith, is.taken_is)

    longer : length (lines ++ (answers.word, o) ∷ []) ≡ suc (length lines)
    longer = let both = length-append lines ((answers.word, o) ∷ []) in omega (arith, both)

-- one more, whose answer the output didn't take whole
pub follows_front : (told : Option (List ℕ)) (first : ShelfView) (before : SinkView) (old new : LiveView) (lines : List (Word × Order)) → old.control.told ≡ told → old.shelf.told ≡ first.told → ((name : List ℕ) → count_on first name ≤ count_on old.shelf name)
    → ((name : List ℕ) → count_on old.shelf name ≤ count_on new.shelf name) → HasFollowed told first old.shelf before old.out old.taken lines → (failed : Unprinted old new)
    → AreLines told first new.shelf 0 (lines ++ (failed.word, failed.order) ∷ []) × TookFront before new.out (answers_to 0 (lines ++ (failed.word, failed.order) ∷ []))
follows_front told first before old new lines same shelf was more is failed = (
  lines_more told first new.shelf 0 lines failed.word failed.order (lines_since told first old.shelf new.shelf 0 lines was more is.are)
      (subst (λ k. IsLine told first new.shelf k failed.word failed.order) at (line_of told first old new failed.word failed.order same shelf was failed.takes more)),
  record {
    front = answers_to 0 lines ++ failed.printed.front;
    rest = failed.printed.rest;
    whole_is = answers_more 0 lines failed.word failed.order ∙ ap (λ bs. answers_to 0 lines ++ bs) (ap (λ k. answer_text (suc k) failed.word) (sym at) ∙ failed.printed.whole_is)
        ∙ sym (append_assoc (answers_to 0 lines) failed.printed.front failed.printed.rest);
    took = Took-then is.printed failed.printed.took;
  },
)
  where
    at : old.taken ≡ 0 + length lines
    at = omega (arith, is.taken_is)
