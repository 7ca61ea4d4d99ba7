-- The status of a conversion that was stopped.
use Rattle.std.proofs.Common.{⊎_elim, ℕ, List, length, take, sym, ◌∙◌, ap, subst}
use Rattle.std.proofs.Math.Seq.{take-append_seam}
use Rattle.edge_traits.specs.Output.{TookFront}
use Rattle.edge_traits.specs.Sink.{SinkView, Took}
use Rattle.pipeline_top.specs.Convert.{Wrote}
use Rattle.pipeline_top.specs.Halt.{IsHaltStatus}
use Rattle.pipeline_top.specs.declared.halt.Halt.{Halt}
use Rattle.pipeline_top.specs.declared.halt.Halt.TheVariants as halt
use Rattle.status_texts.specs.declared.status.Status.{Status}

front_is : {old new : SinkView} {whole : List ℕ} → TookFront old new whole → (n : ℕ) × Took old new (take n whole)
front_is {old = old} {new = new} front =
    (length front.front, subst (λ l. Took old new l) (sym (take-append_seam front.front front.rest) ∙ ap (take (length front.front)) (sym front.whole_is)) front.took)

-- a front is written then
pub wrote_front : (name : List ℕ) (h : Halt) (status : Status) (old new : SinkView) (whole : List ℕ) → IsHaltStatus name h status → TookFront old new whole → Wrote status old new whole
wrote_front name halt.Absent status old new whole is front =
    ⊎_elim (λ e. subst (λ s. Wrote s old new whole) (sym e) (front_is front)) (λ e. subst (λ s. Wrote s old new whole) (sym e) (front_is front)) is
wrote_front name halt.Failed status old new whole is front =
    ⊎_elim (λ e. subst (λ s. Wrote s old new whole) (sym e) (front_is front)) (λ e. subst (λ s. Wrote s old new whole) (sym e) (front_is front)) is
wrote_front name halt.Sink status old new whole is front = subst (λ s. Wrote s old new whole) (sym is) (front_is front)
wrote_front name halt.OutOfMemory status old new whole is front = subst (λ s. Wrote s old new whole) (sym is) (front_is front)
