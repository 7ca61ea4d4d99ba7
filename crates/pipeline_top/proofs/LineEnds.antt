-- What a line comes to, and what it does to the rest of a conversion.
use Rattle.std.proofs.Common.{◌≡◌, ◌+◌, ◌<◌, ◌≤◌, ℕ, List, [], ◌∷◌, ◌++◌, true, false, ◌==◌, nat_lt, Option, Some, None, unwrap_or, length, Result, IfOk, refl, sym, ◌∙◌, ap, subst, append_assoc}
use Rattle.std.proofs.lemmas.Bool.{cond-true, cond-false, lt-ltb, le-ltb}
use Rattle.event_text.specs.Lenient.{lenient, PutsText}
use Rattle.event_text.specs.Text.{message_text}
use Rattle.report_cut.specs.Line.{without_newline}
use Rattle.report_cut.specs.Pieces.{longest_line}
use Rattle.pipeline_top.specs.Convert.{Line, empty, text, refused, line_of, short_line, read_line, line_of_reading, convert_bot, behind_line, put_line, conversion_from, end_at, end_from}
use Rattle.step_code.specs.Content.{longest_feed}
use Rattle.edge_traits.specs.Sink.{SinkView}
use Rattle.edge_traits.specs.Output.{Moved}
use Rattle.edge_traits.proofs.Outputs.{Moved-write}
use Rattle.pipeline_top.specs.Line.{PutLine}
use Rattle.pipeline_top.specs.declared.line.Place.{Place}
use Rattle.status_texts.specs.declared.status.Status.{Status}
use Rattle.status_texts.specs.declared.status.Status.TheVariants as status

-- ---- what a line comes to

pub line_of-long : (place : Place) (line : List ℕ) → longest_line < length line → line_of place line ≡ refused (status.LongLine convert_bot place.at)
unfolding line_of
line_of-long place line long = cond-true (nat_lt longest_line (length line)) _ _ (lt-ltb longest_line (length line) long)

pub line_of-far : (place : Place) (line : List ℕ) → length line ≤ longest_line → longest_feed < place.at + length line → line_of place line ≡ refused (status.LongFeed convert_bot)
unfolding line_of short_line
line_of-far place line short far =
    cond-false (nat_lt longest_line (length line)) _ _ (le-ltb longest_line (length line) short) ∙ cond-true (nat_lt longest_feed (place.at + length line)) _ _ (lt-ltb longest_feed (place.at + length line) far)

pub line_of-near : (place : Place) (line : List ℕ) → length line ≤ longest_line → place.at + length line ≤ longest_feed → line_of place line ≡ read_line place.number (without_newline line)
unfolding line_of short_line
line_of-near place line short near =
    cond-false (nat_lt longest_line (length line)) _ _ (le-ltb longest_line (length line) short) ∙ cond-false (nat_lt longest_feed (place.at + length line)) _ _ (le-ltb longest_feed (place.at + length line) near)

read_line-empty : (number : ℕ) (line : List ℕ) → true ≡ (length line == 0) → read_line number line ≡ empty
unfolding read_line
read_line-empty number line is = cond-true (length line == 0) _ _ (sym is)

read_line-full : (number : ℕ) (line : List ℕ) → false ≡ (length line == 0) → read_line number line ≡ line_of_reading number (lenient line)
unfolding read_line
read_line-full number line is = cond-false (length line == 0) _ _ (sym is)

pub put_empty : (number : ℕ) (line buffer : List ℕ) → true ≡ (length line == 0) → PutLine (read_line number line) buffer buffer None
put_empty number line buffer is = subst (λ l. PutLine l buffer buffer None) (sym (read_line-empty number line is)) refl

pub put_text : (number : ℕ) (line old mid new : List ℕ) → false ≡ (length line == 0) → PutsText (lenient line) old mid → new ≡ mid ++ 10 ∷ [] → PutLine (read_line number line) old new None
put_text number line old mid new is put ended =
    let whole : new ≡ old ++ message_text put.message ++ 10 ∷ [] = ended ∙ ap (λ l. l ++ 10 ∷ []) put.text in
    subst (λ l. PutLine l old new None) (sym (read_line-full number line is ∙ ap (line_of_reading number) put.read)) whole

pub put_bad : (number : ℕ) (line buffer : List ℕ) → false ≡ (length line == 0) → line_of_reading number (lenient line) ≡ refused (status.BadLine number) → PutLine (read_line number line) buffer buffer (Some (status.BadLine number))
put_bad number line buffer is reading = subst (λ l. PutLine l buffer buffer (Some (status.BadLine number))) (sym (read_line-full number line is ∙ reading)) (refl, refl)

pub put_near : {E : Type 0} (place : Place) (line bare old new : List ℕ) (r : Result (Option Status) E) → line_of place line ≡ read_line place.number (without_newline line) → bare ≡ without_newline line → IfOk r (PutLine (read_line place.number bare) old new) → IfOk r (PutLine (line_of place line) old new)
put_near place line bare old new r near is put =
    subst (λ l. IfOk r (PutLine l old new)) (ap (read_line place.number) is ∙ sym near) put

-- ---- a line and those behind it

abbrev pub cond_later : Option Status → List ℕ → List ℕ
cond_later None later = later
cond_later (Some end) later = []

-- a line is in the buffer, and the lines behind it decide, or it is refused
pub put_one : (line : Line) (old new : List ℕ) (end : Option Status) (later : List ℕ) → PutLine line old new end → old ++ put_line line later ≡ new ++ cond_later end later
put_one empty old new None later put = ap (λ l. l ++ later) (sym put)
put_one empty old new (Some e) later put = absurd put
put_one (text t) old new None later put = simp append_assoc at (ap (λ l. l ++ later) (sym put))
put_one (text t) old new (Some e) later put = absurd put
put_one (refused cause) old new None later put = absurd put
put_one (refused cause) old new (Some e) later put = ap (λ l. l ++ []) (sym put.1)

pub end_one : (line : Line) (old new : List ℕ) (end : Option Status) (later : Status) → PutLine line old new end → end_at line later ≡ unwrap_or end later
end_one empty old new None later put = refl
end_one empty old new (Some e) later put = absurd put
end_one (text t) old new None later put = refl
end_one (text t) old new (Some e) later put = absurd put
end_one (refused cause) old new None later put = absurd put
end_one (refused cause) old new (Some e) later put = sym put.0

-- ---- the lines of a piece, whatever lines come later

pub Moved-then : {a b c : SinkView} {whole rest more : List ℕ} → Moved a b whole rest → Moved b c rest more → Moved a c whole more
Moved-then first second = Moved-write first second.took second.whole_is

pub Moved-line : {a b : SinkView} {whole : List ℕ} (place : Place) (line old new : List ℕ) (end : Option Status) (lines more later : List (List ℕ)) → Moved a b whole (old ++ conversion_from place (lines ++ later)) → lines ≡ line ∷ more → PutLine (line_of place line) old new end → Moved a b whole (new ++ cond_later end (conversion_from (behind_line place line) (more ++ later)))
Moved-line {a = a} {b = b} {whole = whole} place line old new end lines more later moved first put =
    subst (Moved a b whole) (ap (λ ls. old ++ conversion_from place (ls ++ later)) first ∙ put_one (line_of place line) old new end (conversion_from (behind_line place line) (more ++ later)) put) moved

pub end_line : (place : Place) (line old new : List ℕ) (end : Option Status) (lines more later : List (List ℕ)) → lines ≡ line ∷ more → PutLine (line_of place line) old new end → end_from place (lines ++ later) ≡ unwrap_or end (end_from (behind_line place line) (more ++ later))
end_line place line old new end lines more later first put =
    ap (λ ls. end_from place (ls ++ later)) first ∙ end_one (line_of place line) old new end (end_from (behind_line place line) (more ++ later)) put
