-- What is printed of a state, and of one with more lines of its outputs sealed.
use Rattle.std.proofs.Common.{◌≡◌, ℕ, suc, List, [], ◌∷◌, ◌++◌, refl, ap, ap₂, ◌∙◌, arith, codes, decimal, length, length-append, sum_by}
use Rattle.std.proofs.lemmas.List.Sums.{sum_by-cons}
use Rattle.std.specs.List.{flat_map}
use Rattle.dump_store.specs.Export.{export_text}
use Rattle.step_code.specs.declared.base.Base.{Base}
use Rattle.step_code.specs.declared.output.Output.{Output}
use Rattle.queue_broker.specs.Broker.{total}
use Rattle.state_texts.specs.Texts.{count_line, feed_line, halted_line, hand_line, line, lines_of, messages_in, out_line, out_lines, processed_in, queue_line, state_text, summary}
use Rattle.store_image.specs.Stands.{AreSealedFrom, IsSealedFrom, IsSealOf}
use Rattle.store_commands.specs.Ends.{shown_text}
use Rattle.store_commands.specs.declared.printing.Shown.{Shown}
use Rattle.store_commands.specs.declared.printing.Shown.TheVariants as shown

-- ---- the lines that are sealed are counted

as_many_lines : (whole sealed : Output) → IsSealedFrom whole sealed → lines_of sealed ≡ lines_of whole
as_many_lines whole sealed is = omega (arith, is.count, ap length is.lines, length-append is.front sealed.lines)

sealed_lines : (wholes sealed : List Output) → AreSealedFrom wholes sealed → sum_by lines_of sealed ≡ sum_by lines_of wholes
sealed_lines [] sealed are = ap (sum_by lines_of) are
sealed_lines (whole ∷ wholes) [] are = absurd are
sealed_lines (whole ∷ wholes) (sealed ∷ more) are =
    omega (arith, as_many_lines whole sealed are.0, sealed_lines wholes more are.1, sum_by-cons lines_of sealed more, sum_by-cons lines_of whole wholes)

pub same_summary : (s sealed : Base) → IsSealOf s sealed → summary sealed ≡ summary s
same_summary s sealed is =
    ap summary is.same
    ∙ ap (λ (lines : ℕ). summary_with lines) (sealed_lines s.outs sealed.outs is.outs)
  where
    summary_with : ℕ → List ℕ
    summary_with lines =
        count_line (codes "steps") s.steps
        ++ count_line (codes "bundle") s.bundle_no
        ++ count_line (codes "messages") (messages_in s)
        ++ count_line (codes "waiting") (total s.queues)
        ++ count_line (codes "in hand") (length s.hands)
        ++ count_line (codes "dumped") (length s.dumps)
        ++ count_line (codes "processed") (processed_in s)
        ++ count_line (codes "lines") lines

-- ---- the whole state

-- the line of an output with this bot and so many lines
abbrev out_of : ℕ → List ℕ → ℕ → List ℕ
out_of slot bot lines = line (codes "out") (bot ∷ decimal slot ∷ decimal lines ∷ [])

same_out_lines : (slot : ℕ) (wholes sealed : List Output) → AreSealedFrom wholes sealed → out_lines slot sealed ≡ out_lines slot wholes
same_out_lines slot [] sealed are = ap (out_lines slot) are
same_out_lines slot (whole ∷ wholes) [] are = absurd are
same_out_lines slot (whole ∷ wholes) (sealed ∷ more) are =
    let one : out_line slot sealed ≡ out_line slot whole = ap₂ (out_of slot) are.0.bot (as_many_lines whole sealed are.0) in
    ap₂ (λ (a b : List ℕ). a ++ b) one (same_out_lines (suc slot) wholes more are.1)

same_state_text : (s sealed : Base) → IsSealOf s sealed → state_text sealed ≡ state_text s
same_state_text s sealed is = ap state_text is.same ∙ ap₂ state_with (same_summary s (outs_as sealed.outs) alike) (same_out_lines 0 s.outs sealed.outs is.outs)
  where
    outs_as : List Output → Base
    outs_as outs = record s { outs = outs }

    alike : IsSealOf s (outs_as sealed.outs)
    alike = record { outs = is.outs; same = refl }

    state_with : List ℕ → List ℕ → List ℕ
    state_with counts outs = counts ++ flat_map queue_line s.queues ++ flat_map hand_line s.hands ++ flat_map feed_line s.feeds ++ outs ++ flat_map halted_line s.halted

-- ---- what is asked for

pub same_shown : (what : Shown) (s sealed : Base) → IsSealOf s sealed → shown_text what sealed ≡ shown_text what s
same_shown shown.State s sealed is = same_state_text s sealed is
same_shown shown.Dumps s sealed is = ap (λ (b : Base). export_text b.dumps) is.same
