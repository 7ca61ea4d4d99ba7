use Rattle.pipeline_top.proofs.Kept.{kept_at_work, kept_run_by}
use Rattle.pipeline_top.proofs.pipeline.run_pipeline.Goals as goal

pub returns-in-Some-clause-history : goal.returns-in-Some-clause-history
returns-in-Some-clause-history g c = kept_at_work _ _ _ _ _ _ (λ bundle works. kept_run_by _ _ _ _ _ _ _ bundle works) c.run.ensures.ran
