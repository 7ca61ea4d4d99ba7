use Rattle.std.proofs.Common.{◌≡◌, [], inl, inr, refl, sym, subst, arith}
use Rattle.edge_traits.specs.Sink.{SinkView, Took}
use Rattle.edge_traits.proofs.Outputs.{Took-nothing}
use Rattle.bot_rules.specs.Intel.{intel}
use Rattle.store_image.specs.Files.{root_file}
use Rattle.journal_book.proofs.Beginning.{is_nothing}
use Rattle.pipeline_top.proofs.init.unmade.Goals as goal

nothing : (before after : SinkView) → after ≡ before → Took before after []
nothing before after same = subst (λ (s : SinkView). Took before s []) (sym same) (Took-nothing before)

pub returns-in-Err-clause-unmade : goal.returns-in-Err-clause-unmade
returns-in-Err-clause-unmade g c = λ seen same. record {
  ends = inl refl;
  nothing = nothing seen.sink seen.sink_now same;
  still = λ origin steps more was. c.find_store.ensures.stands intel origin steps more was;
  others = c.find_store.ensures.others;
}

pub returns-then-have-gt0-clause-unmade : goal.returns-then-have-gt0-clause-unmade
returns-then-have-gt0-clause-unmade g c = λ seen same. record {
  ends = inr (inl (c.in-Ok.have, c.if-have-gt0.true, refl, λ files told. c.in-Ok.ensures.length files told));
  nothing = nothing seen.sink seen.sink_now same;
  still = λ origin steps more was. c.find_store.ensures.stands intel origin steps more was;
  others = c.find_store.ensures.others;
}

pub returns-clause-unmade : goal.returns-clause-unmade
returns-clause-unmade g c = λ seen same. record {
  ends = inr (inr (c.unbrought_status.ensures, λ files told. is_nothing (files root_file) c.in-Ok.have (c.in-Ok.ensures.length files told) (omega (arith, c.if-have-gt0.false))));
  nothing = nothing seen.sink seen.sink_now same;
  still = λ origin steps more was. c.find_store.ensures.stands intel origin steps more was;
  others = c.find_store.ensures.others;
}
